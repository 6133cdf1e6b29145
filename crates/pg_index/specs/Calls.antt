-- What the steps of a run keep and answer, where that is longer than a line.
pub mod BuiltIndex
pub mod Write
-- what the options said, as far as they are read
pub mod Options
