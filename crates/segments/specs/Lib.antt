-- Reading order: the names of segments, the relation that they hold, and what reading and writing it come to.

-- the names of a relation's files
pub mod Names
-- how large a segment is, and how many there may be
pub mod Limits
-- the segments of a relation, and its bytes
pub mod Relation
-- what is known of an object that may not tell its files
pub mod Told
-- reading: what one call gives, and when it fails
pub mod Reading
-- writing: what each segment has, and what is left after a failure
pub mod Writing
-- what a step of writing does
pub mod Growing
-- what holds whatever the bytes are
pub mod Laws
