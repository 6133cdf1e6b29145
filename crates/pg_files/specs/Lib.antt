-- The trait `Files`: the outside as an object shows it, and what a call leaves alone of it;
pub mod Outside
-- what each call does to it;
pub mod Files
-- and how failures are counted, and answered for.
pub mod Faults
-- Files in memory: a list of files as a map from names to bytes,
pub mod NamedFiles
-- and all that such an object keeps, with what each call makes of it.
pub mod Memory
-- Real files: counts alone.
pub mod Real
