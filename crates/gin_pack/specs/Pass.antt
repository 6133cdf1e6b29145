-- What the packing keeps on its way.

-- the pages of a level that is being filled
pub mod Filling
-- their place in a file
pub mod Placing
-- entries that are stored
pub mod Storing
-- postings one behind the other
pub mod Listing
-- records that come in their order, and their postings
pub mod Gathering
-- postings that come by ranges of keys
pub mod Adding
-- records that are stored as they come
pub mod Taking
