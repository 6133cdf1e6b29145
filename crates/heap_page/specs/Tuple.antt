-- A heap tuple on its page (HeapTupleHeaderData of htup_details.h).
use Rattle.std.specs.Prelude.{ℕ, ◌+◌, List}
use Rattle.pg_bytes.specs.Lines.{bytes_of, line_at}
use Rattle.pg_bytes.specs.Numbers.{number_at}
use Rattle.pg_bytes.specs.Pointers.{row_pointer_at}
use Rattle.heap_page.specs.Layout.{xmin_place, xmax_place, ctid_place, infomask2_place, infomask_place, hoff_place}
use Rattle.heap_page.specs.declared.header.Header.{Header}

-- the header that stands at a place
abbrev pub header_at : List ℕ → ℕ → Header
header_at page place = record {
  xmin = number_at 4 page (place + xmin_place);
  xmax = number_at 4 page (place + xmax_place);
  ctid = row_pointer_at page (place + ctid_place);
  infomask2 = number_at 2 page (place + infomask2_place);
  infomask = number_at 2 page (place + infomask_place);
  hoff = number_at 1 page (place + hoff_place);
}

-- the header of an item
abbrev pub header_of : List ℕ → ℕ → Header
header_of page item = header_at page (line_at page item).offset

-- the bytes of an item, its header among them
abbrev pub item_of : List ℕ → ℕ → List ℕ
item_of page item = bytes_of page (line_at page item)
