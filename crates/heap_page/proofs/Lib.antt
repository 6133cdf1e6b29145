-- No other crate cites a lemma of these.

-- what readers of a page without a fault may rely on
pub mod Sound
-- how items share units where they share bytes
pub mod Overlap
-- how the map of units grows by an item
pub mod Marks
-- how the least fault of a page follows from those of its items
pub mod Least
