-- Other crates cite `described_is` of Indexes. The rest is this crate's own.

-- what a statement has behind a token
pub mod Ends
-- which rules take a token, and lists of items
pub mod Lists
-- columns by their names
pub mod ColumnNames
-- the words that begin a type
pub mod TypeWords
-- which rules take a token
pub mod Taking
-- what texts come to
pub mod Texts
-- which tables are described
pub mod Tables
-- the tokens that are printed have spellings
pub mod Spellable
-- the tokens of indexes that are printed have spellings
pub mod SpellableIndexes
-- lists that are printed are read again
pub mod PrintedLists
-- tables that are printed are read again
pub mod PrintedTables
-- indexes that are printed are read again
pub mod PrintedIndexes
-- what was let through
pub mod Found
-- which conditions are described
pub mod Filters
-- the names that statements give
pub mod Naming
-- which indexes are described
pub mod Indexes
