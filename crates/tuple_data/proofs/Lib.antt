-- what the table of types has for each type
pub mod Facts
-- what a value takes
pub mod Pieces
-- the data of several columns
pub mod Columns
-- the most bytes that values take; btree_item cites `few_data`
pub mod Room
pub mod NullBits
-- what the pass that puts the data keeps
pub mod PutPass
-- one number at most is stored in the same bytes
pub mod OneNumber
pub mod OneValue
pub mod OneReading
-- the values that are read
pub mod ReadNumber
pub mod ReadContent
pub mod ReadVariable
pub mod ReadPiece
pub mod ReadList
-- the values where they stand
pub mod Fetched
pub mod InPlaceLemmas
