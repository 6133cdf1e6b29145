-- The numbers of a heap page's format that pages of other kinds don't have. The header's places and the page's size are
-- pg_bytes' (PageLayout).
use Rattle.std.specs.Prelude.{ℕ, ◌+◌, ◌/◌}

-- PD_VALID_FLAG_BITS + 1 (bufpage.h): from this number on, pd_flags has a bit that stands for no flag
abbrev pub flags_end : ℕ
flags_end = 8

-- MAXIMUM_ALIGNOF: tuples and their attributes begin at multiples of it
abbrev pub alignment : ℕ
alignment = 8

-- HeapTupleHeaderData (htup_details.h): where the fields of a tuple's header stand, in bytes from the tuple's first
abbrev pub xmin_place : ℕ
xmin_place = 0

abbrev pub xmax_place : ℕ
xmax_place = 4

abbrev pub ctid_place : ℕ
ctid_place = 12

abbrev pub infomask2_place : ℕ
infomask2_place = 18

abbrev pub infomask_place : ℕ
infomask_place = 20

abbrev pub hoff_place : ℕ
hoff_place = 22

-- SizeofHeapTupleHeader: where a tuple's null bitmap begins
abbrev pub bitmap_place : ℕ
bitmap_place = 23

-- MAXALIGN(SizeofHeapTupleHeader): the bytes of a tuple's header without a null bitmap, aligned
abbrev pub least_header : ℕ
least_header = 24

-- BITMAPLEN: the bytes of a null bitmap for so many attributes
abbrev pub bitmap_size : ℕ → ℕ
bitmap_size attributes = (attributes + 7) / 8

-- how many line pointers a page has room for behind its header
abbrev pub most_lines : ℕ
most_lines = 2042
