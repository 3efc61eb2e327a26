pub mod Digits
pub mod Numerals
pub mod Parsed
pub mod NumeralPlaces
pub mod Range
pub mod Larger
pub mod Compared
pub mod Sums
mod Pairs
mod OctalDigits
mod Bits
mod EachDigit
mod Tails
mod Sliding
mod Directions
