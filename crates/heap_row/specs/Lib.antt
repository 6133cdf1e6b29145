-- Reading order: from what stands behind a tuple's header to its values.

-- why values can't be read, and how one reading follows another
pub mod Fault
-- null bitmaps
pub mod NullBitmap
-- a tuple's attributes as one piece
pub mod Tuple
-- how a value is stored
pub mod Varlena
-- the value that bytes are, where it is no array
pub mod Scalar
-- arrays
pub mod Array
-- the value that a stored one is
pub mod Datum
-- where each attribute of a tuple stands, and its value
pub mod Attribute
-- that what is read are values of their columns' types
pub mod Typed
-- what holds of all these
pub mod Laws
-- what the passes keep
pub mod Pass
