-- The words that every rule is said in, a file a kind: choosing, lists, words, turns, places, xor, powers, tables, flags, writing.
pub mod Pick
pub mod Parts
pub mod Words
pub mod Turns
pub mod First
pub mod Xor
pub mod Powers
pub mod Table
pub mod Flags
pub mod Writes
