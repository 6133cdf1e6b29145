-- the kinds of bytes that tokens are made of
pub mod Bytes
-- the signs
pub mod Signs
-- what tokens are, and the tokens of a text
pub mod Tokens
-- what a reader has before it
pub mod Reading
-- what a borrowed token is
pub mod Borrowed
-- what the pass over a text keeps
pub mod Pass
-- how tokens are spelt
pub mod Spelling
-- what holds of all these
pub mod Laws
