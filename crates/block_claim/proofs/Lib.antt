-- No lemma of this crate is cited by another.
pub mod Lists
pub mod Counts
pub mod Ramps
pub mod Doubling
pub mod Floors
pub mod Whole
pub mod Claiming
pub mod Joining
pub mod Noting
pub mod Opening
pub mod Tables
pub mod Fits
pub mod Dealing
pub mod LegalLaws
pub mod Runs
