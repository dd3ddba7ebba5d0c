-- What the code that reads a line has to show.
mod Words
mod Spaces
mod Lines
