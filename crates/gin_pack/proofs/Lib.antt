-- lists, place by place
pub mod Places
-- the pages of a level that is filled
pub mod Fillings
-- a page by its parts
pub mod PageParts
-- pages of a level as they come into a file
pub mod Placings
pub mod Placements
-- blocks of a file that grows
pub mod Blocks
-- how levels rise
pub mod Rising
-- the pages of posting trees
pub mod ListTrees
-- how entries are stored
pub mod Storings
-- how they become a file
pub mod Finishing
-- how a writer takes records
pub mod Takings
-- what is read of a page
pub mod PageReading
-- a file is read as its postings
pub mod FileReading
-- records tell postings
pub mod Telling
-- postings one behind the other
pub mod Runs
-- a writer has the postings of records
pub mod Gatherings
-- records that are stored as they come
pub mod Receivings
-- and become the file
pub mod Packing
-- postings by ranges of keys become the file
pub mod Addings
