-- For the crates above: calls that leave something alone leave it alone one after the other.
pub mod Frames
-- For this crate's own functions.
pub mod NamedFiles
pub mod MemoryReads
pub mod MemoryWrites
