-- No lemma of this crate is cited by another: nothing stands on it.
pub mod Faultless
pub mod NumberText
pub mod Options
pub mod ReadOn
pub mod Growing
pub mod Ending
pub mod Determined
pub mod Answering
pub mod AskedIndex
pub mod Headlines
