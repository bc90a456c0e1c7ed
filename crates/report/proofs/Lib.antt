mod Joins
mod Lines
mod Prints
