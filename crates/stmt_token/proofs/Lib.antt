-- how strings end, and their bytes
pub mod Strings
-- how large the number of a few digits is
pub mod Digits
-- the tokens of a text, one after the other
pub mod Steps
-- what is spelt as tokens is read as them
pub mod Spelt
-- what is printed is read again
pub mod Printed
-- what is read as tokens is spelt as them
pub mod ReadBack
-- the names among a text's tokens can be quoted
pub mod Names
