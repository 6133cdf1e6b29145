-- a spool as contracts see it, and what it gives
pub mod Spools
-- a gather as contracts see it
pub mod Gathers
-- what a gather keeps on its way
pub mod Pass
-- what holds of these, whatever the rows are
pub mod Laws
