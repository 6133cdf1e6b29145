-- the sizes of a page's parts, and the writes of the meta page
pub mod MetaWrites
-- special spaces that were written are read
pub mod SpaceReading
-- the meta page is read
pub mod MetaReading
-- pages with a high key or without are read
pub mod NodeReading
