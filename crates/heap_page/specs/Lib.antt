-- Reading order: what a heap page is, then what is wrong with one, then what its check keeps on the way.

-- the numbers of the format
pub mod Layout
-- a page's line pointers, and the bytes that they lead to
pub mod Line
-- the bits of a tuple's header
pub mod Infomask
-- a tuple's header and bytes
pub mod Tuple
-- which tuples are rows, by their hint bits
pub mod Visibility
-- pages whose tuples are all settled
pub mod Settled
-- a page's faults, and the least of them
pub mod Fault
-- what a view of a checked page shows
pub mod CheckedPage
-- what follows from these definitions alone
pub mod Laws
-- what a pass over a page's items keeps
pub mod Pass
