mod Digits
mod Lines
mod Longest
