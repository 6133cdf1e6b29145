-- Cited by the crates above: ItemPage's lemmas on a page with one item more (btree_pack), Writes' on the lengths of
-- pieces and on a piece in the middle (btree_pack), ItemReading's on what is read of a page (btree_pack, gin_pack),
-- Growth's on the block behind an image (btree_pack), and LeastFaults.
pub mod Writes
pub mod ItemPage
mod LineReading
pub mod ItemReading
pub mod Growth
pub mod LeastFaults
