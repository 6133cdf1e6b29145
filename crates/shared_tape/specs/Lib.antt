-- Reading order: a record, its bytes and its order; then runs of records and how they are kept.

-- a record's bytes, and the order of records
pub mod Stored
-- a record as it is read back from bytes
pub mod Reading
-- runs and tapes, as contracts see them
pub mod Runs
-- the records that stand in bytes, and their places
pub mod Places
-- what the passes over these keep
pub mod Pass
-- what holds of these, whatever the records are
pub mod Laws
