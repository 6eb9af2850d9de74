mod Digits
mod Lengths
