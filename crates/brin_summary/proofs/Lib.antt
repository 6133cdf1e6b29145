-- the lesser and the greater of two values
pub mod Choosing
-- summaries joined; crates above cite the laws
pub mod Joining
-- how a summary is kept
pub mod Storing
-- the flags of a null bitmap
pub mod Flags
-- the tuple of a range
pub mod Tuples
-- the pages
pub mod PageWrites
-- pages that were written are read
pub mod PageReading
-- the header of a tuple that is read
pub mod Headers
-- which tuples are ranges'
pub mod RangeTuples
-- a tuple that is read
pub mod RangeReading
-- bytes are the tuple of one range
pub mod OneRange
-- tuples cut into pages
pub mod Cutting
-- the pointers to tuples, and the revmap
pub mod Pointers
-- regular pages
pub mod TuplePages
-- the whole file
pub mod Files
-- the most bytes of a tuple
pub mod Rooms
-- rows and bounds
pub mod Bounds
-- the laws of pages
pub mod PageLaws
-- the law of the file
pub mod FileLaws
