-- What comparing bytes has to show.
mod SameBytes
