-- Reading order: from records to the file.

-- the records that an index is packed from
pub mod Records
-- their postings
pub mod Postings
-- the whole file
pub mod File
-- what the packing keeps on its way
pub mod Pass
