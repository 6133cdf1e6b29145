-- No lemma of this crate is cited by another yet.

-- reading one file on
pub mod FileReads
-- reading segment by segment
pub mod SeriesReads
-- writing one file
pub mod FileWrites
-- writing segment by segment
pub mod SeriesWrites
-- the names of segments
pub mod NameLists
-- what holds of all relations
pub mod RelationLaws
