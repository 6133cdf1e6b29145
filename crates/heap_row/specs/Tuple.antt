-- What stands behind a heap tuple's header (HeapTupleHeaderData of htup_details.h).
use Rattle.std.specs.Prelude.{ℕ, Bool, not, ◌||◌, nat_lt, if◌then◌else◌, List, drop, Option, Some, None}
use Rattle.heap_page.specs.Infomask.{attributes_of, has_nulls}
use Rattle.heap_page.specs.Layout.{bitmap_place}
use Rattle.heap_page.specs.Tuple.{header_of, item_of}
use Rattle.heap_row.specs.NullBitmap.{is_absent}

-- how many attributes the tuple has, its null bitmap where it has one, and the data of its attributes
pub record HeapTuple : Type 0 where
  pub attributes : ℕ
  pub bitmap : Option (List ℕ)
  pub body : List ℕ

-- the tuple of an item: the bitmap (t_bits) is there under HASNULL, and the data begin at t_hoff
abbrev pub tuple_of : List ℕ → ℕ → HeapTuple
tuple_of page item = record {
  attributes = attributes_of (header_of page item).infomask2;
  bitmap = if has_nulls (header_of page item).infomask then Some (drop bitmap_place (item_of page item)) else None;
  body = drop (header_of page item).hoff (item_of page item);
}

-- A column is null (heap_attisnull of heaptuple.c): the tuple has fewer attributes, or its bitmap says so. A column is
-- told here by how many columns stand before it.
abbrev pub is_null : HeapTuple → ℕ → Bool
is_null tuple before = not (nat_lt before tuple.attributes) || is_absent tuple.bitmap before
