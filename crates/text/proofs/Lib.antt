-- Decimal and hexadecimal digits, pairs, scans and pages; and that each call has one answer.
mod Alike
mod Decimal
mod Digits
pub mod One
mod Pages
mod Pairs
mod Stops
