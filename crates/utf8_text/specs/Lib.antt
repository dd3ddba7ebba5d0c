-- UTF-8, from RFC 3629: its ABNF, and the Unicode scalar values that it encodes.
pub mod Utf8
pub mod Unicode
