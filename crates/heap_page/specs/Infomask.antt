-- The bits of a tuple header's infomask and infomask2 (htup_details.h).
use Rattle.std.specs.Prelude.{ℕ, ◌+◌, ◌%◌, ◌==◌, Bool, not, ◌||◌, ◌&&◌, bit_and}

-- the masks of infomask, by PostgreSQL's names
abbrev pub heap_hasnull : ℕ
heap_hasnull = 0x0001

abbrev pub heap_xmax_excl_lock : ℕ
heap_xmax_excl_lock = 0x0040

abbrev pub heap_lock_mask : ℕ
heap_lock_mask = 0x0050

abbrev pub heap_xmax_lock_only : ℕ
heap_xmax_lock_only = 0x0080

abbrev pub heap_xmin_committed : ℕ
heap_xmin_committed = 0x0100

abbrev pub heap_xmin_invalid : ℕ
heap_xmin_invalid = 0x0200

abbrev pub heap_xmax_committed : ℕ
heap_xmax_committed = 0x0400

abbrev pub heap_xmax_invalid : ℕ
heap_xmax_invalid = 0x0800

abbrev pub heap_xmax_is_multi : ℕ
heap_xmax_is_multi = 0x1000

abbrev pub heap_moved : ℕ
heap_moved = 0xC000

-- the masks of infomask2
abbrev pub heap_hot_updated : ℕ
heap_hot_updated = 0x4000

abbrev pub heap_only_tuple : ℕ
heap_only_tuple = 0x8000

-- HEAP_NATTS_MASK + 1: the lowest bits of infomask2, below this number, hold the number of attributes
abbrev pub attributes_end : ℕ
attributes_end = 0x0800

-- one of the bits of a mask is set
abbrev pub has_any : ℕ → ℕ → Bool
has_any bits mask = not (bit_and bits mask == 0)

-- the tuple has a null bitmap
abbrev pub has_nulls : ℕ → Bool
has_nulls infomask = has_any infomask heap_hasnull

-- the inserting transaction is known to have committed
abbrev pub xmin_committed : ℕ → Bool
xmin_committed infomask = has_any infomask heap_xmin_committed

-- the insertion aborted, or with xmin_committed, the tuple is frozen
abbrev pub xmin_invalid : ℕ → Bool
xmin_invalid infomask = has_any infomask heap_xmin_invalid

-- the deleting transaction is known to have committed
abbrev pub xmax_committed : ℕ → Bool
xmax_committed infomask = has_any infomask heap_xmax_committed

-- no transaction deleted the tuple
abbrev pub xmax_invalid : ℕ → Bool
xmax_invalid infomask = has_any infomask heap_xmax_invalid

-- xmax is a multixact
abbrev pub xmax_is_multi : ℕ → Bool
xmax_is_multi infomask = has_any infomask heap_xmax_is_multi

-- a VACUUM FULL before version 9.0 moved the tuple
abbrev pub is_moved : ℕ → Bool
is_moved infomask = has_any infomask heap_moved

-- HEAP_XMAX_IS_LOCKED_ONLY: xmax locks the tuple and doesn't delete it
abbrev pub is_locked_only : ℕ → Bool
is_locked_only infomask =
    has_any infomask heap_xmax_lock_only
    || (bit_and infomask (heap_xmax_is_multi + heap_lock_mask) == heap_xmax_excl_lock)

-- xmax deleted the tuple, as one transaction that committed
abbrev pub is_deleted : ℕ → Bool
is_deleted infomask =
    xmax_committed infomask && not (xmax_invalid infomask || (is_locked_only infomask || xmax_is_multi infomask))

-- HeapTupleHeaderXminInvalid: the inserting transaction aborted
abbrev pub xmin_aborted : ℕ → Bool
xmin_aborted infomask = xmin_invalid infomask && not (xmin_committed infomask)

-- HeapTupleHeaderGetNatts: how many attributes the tuple has
abbrev pub attributes_of : ℕ → ℕ
attributes_of infomask2 = infomask2 % attributes_end

-- the tuple's update is a heap-only tuple of its page
abbrev pub has_hot_update : ℕ → Bool
has_hot_update infomask2 = has_any infomask2 heap_hot_updated

-- HeapTupleHeaderIsHeapOnly: no index entry leads to the tuple itself
abbrev pub is_heap_only : ℕ → Bool
is_heap_only infomask2 = has_any infomask2 heap_only_tuple
