-- What holds of summaries and of the file, whatever the rows are.
use Rattle.std.specs.Prelude.{◌≡◌, ◌≢◌, ◌⊎◌, ◌↔◌, ℕ, ◌+◌, ◌-◌, ◌*◌, ◌^◌, ◌<◌, ◌≤◌, true, false, Some, None, List, [], ◌∷◌, ◌++◌, length, map, take, replicate, All, Contains, slice_get}
use Rattle.std.specs.List.{AllZip, flat_map, sum_by}
use Rattle.std.specs.List.Sorted.{IsPermutation}
use Rattle.std.specs.declared.cmp.Ordering.TheVariants.{Greater}
use Rattle.pg_bytes.specs.Blocks.{block_at}
use Rattle.opclass.specs.declared.value.KeyVal.{KeyVal}
use Rattle.opclass.specs.declared.value.KeyVal.TheVariants.{Nil}
use Rattle.opclass.specs.Order.{column_cmp}
use Rattle.opclass.specs.Types.{facts_of, takes_key}
use Rattle.opclass.specs.Values.{IsValueOf}
use Rattle.opclass.specs.declared.types.Method.TheVariants.{Brin}
use Rattle.opclass.specs.declared.types.ColType.{ColType}
use Rattle.pg_bytes.specs.ItemPage.{lower_at, space_taken}
use Rattle.pg_bytes.specs.PageLayout.{page_size}
use Rattle.pg_bytes.specs.declared.row_ptr.RowPtr.{RowPtr}
use Rattle.tuple_data.specs.Laws.{room_of}
use Rattle.brin_summary.specs.Answer.{Wide, tuple_size, wide_range}
use Rattle.brin_summary.specs.File.{brin_file, page_counts, page_room, pages_of, pointers_from, pointers_on, revmap_pages, taken, tuples_from}
use Rattle.brin_summary.specs.Page.{HasType, IsMetaOf, meta_page, regular_page, revmap_entry, revmap_items, revmap_page, special_start}
use Rattle.brin_summary.specs.declared.special.PageType.TheVariants.{Meta, Revmap, Regular}
use Rattle.brin_summary.specs.Summary.{ColumnSummary, RangeSummary, ascending, joined, summary_of, value_in}
use Rattle.brin_summary.specs.Reading.{HasHeader, IsRangeTuple}
use Rattle.brin_summary.specs.Tuple.{Header, bounds_of, header_of, null_flags, range_tuple, tuple_most}

-- ---- summaries

-- the summary of rows and of others is their summaries joined
abbrev pub SummariesAreJoined : Type 0
SummariesAreJoined =
    (columns : ℕ) (rows others : List (List KeyVal))
    → summary_of columns (rows ++ others) ≡ joined (summary_of columns rows) (summary_of columns others)

-- the order of rows doesn't matter, nor how often a row is there
abbrev pub SameRowsHaveOneSummary : Type 0
SameRowsHaveOneSummary =
    (columns : ℕ) (rows others : List (List KeyVal))
    → ((row : List KeyVal) → Contains rows row ↔ Contains others row)
    → summary_of columns rows ≡ summary_of columns others

abbrev pub OrderDoesNotMatter : Type 0
OrderDoesNotMatter =
    (columns : ℕ) (rows others : List (List KeyVal)) → IsPermutation rows others
    → summary_of columns rows ≡ summary_of columns others

-- summaries are joined in any order
abbrev pub JoinsCommute : Type 0
JoinsCommute = (a b : RangeSummary) → joined a b ≡ joined b a

abbrev pub JoinsAssociate : Type 0
JoinsAssociate = (a b c : RangeSummary) → joined (joined a b) c ≡ joined a (joined b c)

-- a value is told of by its column's summary: a null as one that is there, another one by the bounds between which it is
abbrev pub IsWithin : KeyVal → ColumnSummary → Type 0
IsWithin value summary =
    (value ≡ Nil → summary.has_null ≡ true)
    × (value ≢ Nil → column_cmp (ascending false) summary.low value ≢ Greater)
    × (value ≢ Nil → column_cmp (ascending false) value summary.high ≢ Greater)

-- each value of each row lies in the summary of its column
abbrev pub RowsLieWithin : Type 0
RowsLieWithin =
    (columns column : ℕ) (rows : List (List KeyVal)) (row : List KeyVal) (summary : ColumnSummary)
    → Contains rows row → slice_get (summary_of columns rows).columns column ≡ Some summary
    → IsWithin (value_in column row) summary

-- bounds are values of the column, unless there is none
pub record IsTight (values : List KeyVal) (summary : ColumnSummary) : Type 0 where
  pub low : (summary.low ≡ Nil) ⊎ Contains values summary.low
  pub high : (summary.high ≡ Nil) ⊎ Contains values summary.high
  pub has_null : summary.has_null ≡ true → Contains values Nil

-- the summary tells no more than there is
abbrev pub SummariesAreTight : Type 0
SummariesAreTight =
    (columns column : ℕ) (rows : List (List KeyVal)) (summary : ColumnSummary)
    → slice_get (summary_of columns rows).columns column ≡ Some summary
    → IsTight (map (value_in column) rows) summary

-- a range without rows tells of no null, and no column has a value
abbrev pub NoRowsHaveNoNull : Type 0
NoRowsHaveNoNull =
    (columns : ℕ) → null_flags (summary_of columns []).columns ≡ replicate columns true ++ replicate columns false

-- ---- tuples

-- a tuple takes no more than its header, its null bitmap and the room of its bounds
abbrev pub TuplesTakeTheirRoom : Type 0
TuplesTakeTheirRoom =
    (kinds : List ColType) (range : RangeSummary)
    → tuple_size kinds range ≤ 20 + length range.columns + sum_by room_of (bounds_of range.columns)

-- the summary of rows of these types has a tuple, unless it is too wide
abbrev pub SummariesHaveTuples : Type 0
SummariesHaveTuples =
    (kinds : List ColType) (first : ℕ) (rows : List (List KeyVal)) → first < 2 ^ 32 → All (AllZip IsValueOf kinds) rows
    → tuple_size kinds (summary_of (length kinds) rows) ≤ tuple_most
    → IsRangeTuple kinds first (summary_of (length kinds) rows)
    (range_tuple kinds first (summary_of (length kinds) rows))

-- a tuple begins with its header
abbrev pub TuplesHaveTheirHeader : Type 0
TuplesHaveTheirHeader =
    (kinds : List ColType) (first : ℕ) (range : RangeSummary) (bytes : List ℕ) → IsRangeTuple kinds first range bytes
    → HasHeader (length kinds) (header_of first range) bytes

-- bytes have one header
abbrev pub HeadersAreToldApart : Type 0
HeadersAreToldApart =
    (columns : ℕ) (one other : Header) (bytes : List ℕ) → columns ≤ 32
    → HasHeader columns one bytes → HasHeader columns other bytes → one ≡ other

-- bytes are the tuple of one range, for types that BRIN takes as keys
abbrev pub RangesAreToldApart : Type 0
RangesAreToldApart =
    (kinds : List ColType) (first other_first : ℕ) (range other : RangeSummary) (bytes : List ℕ)
    → All (λ kind. takes_key Brin (facts_of kind).key_use ≡ true) kinds → length kinds ≤ 32
    → IsRangeTuple kinds first range bytes → IsRangeTuple kinds other_first other bytes
    → (first ≡ other_first) × (range ≡ other)

-- a range whose tuple no page takes, behind ranges that all have room on one
pub record IsLeastWide (kinds : List ColType) (ranges : List RangeSummary) (wide : Wide) : Type 0 where
  pub range : RangeSummary
  pub there : slice_get ranges wide.range ≡ Some range
  pub size : wide.size ≡ tuple_size kinds range
  pub wider : tuple_most < wide.size
  pub before : All (λ earlier. tuple_size kinds earlier ≤ tuple_most) (take wide.range ranges)

-- the range that is told is the least wide one
abbrev pub TheLeastWideIsTold : Type 0
TheLeastWideIsTold =
    (kinds : List ColType) (ranges : List RangeSummary) (wide : Wide) → wide_range kinds ranges ≡ Some wide
    → IsLeastWide kinds ranges wide

-- where none is told, each has room on a page
abbrev pub OtherwiseAllHaveRoom : Type 0
OtherwiseAllHaveRoom =
    (kinds : List ColType) (ranges : List RangeSummary) → wide_range kinds ranges ≡ None
    → All (λ range. tuple_size kinds range ≤ tuple_most) ranges

-- ---- pages

-- the pages from the first on have exactly the tuples, in order
abbrev pub PagesHoldTheTuples : Type 0
PagesHoldTheTuples = (tuples : List (List ℕ)) → flat_map (λ page. page) (pages_of tuples) ≡ tuples

-- no page has more than fits
abbrev pub PagesHoldWhatFits : Type 0
PagesHoldWhatFits =
    (tuples : List (List ℕ)) → All (λ tuple. length tuple ≤ tuple_most) tuples
    → All (λ page. taken (map length page) ≤ page_room) (pages_of tuples)

-- no page is turned as long as the next tuple fits
abbrev pub IsFilledBefore : List (List (List ℕ)) → Type 0
IsFilledBefore [] = Unit {0}
IsFilledBefore (page ∷ []) = Unit {0}
IsFilledBefore (page ∷ next ∷ pages) =
    (page_room < taken (map length (page ++ take 1 next))) × IsFilledBefore (next ∷ pages)

abbrev pub PagesAreFilled : Type 0
PagesAreFilled = (tuples : List (List ℕ)) → IsFilledBefore (pages_of tuples)

-- ---- the revmap

-- each tuple has a pointer
abbrev pub EachTupleHasAPointer : Type 0
EachTupleHasAPointer =
    (first : ℕ) (tuples : List (List ℕ)) → length (pointers_from first (page_counts (map length tuples))) ≡ length tuples

-- the tuple to which a pointer leads, of pages from a block on
pub record LeadsTo (first : ℕ) (pages : List (List (List ℕ))) (pointer : RowPtr) (tuple : List ℕ) : Type 0 where
  pub behind : first ≤ pointer.block
  pub page : List (List ℕ)
  pub on_page : slice_get pages (pointer.block - first) ≡ Some page
  pub counted : 1 ≤ pointer.offset
  pub there : slice_get page (pointer.offset - 1) ≡ Some tuple

-- the pointer of each range leads to its tuple
abbrev pub PointersLeadToTheTuples : Type 0
PointersLeadToTheTuples =
    (first range : ℕ) (tuples : List (List ℕ)) (pointer : RowPtr) (tuple : List ℕ)
    → slice_get (pointers_from first (page_counts (map length tuples))) range ≡ Some pointer
    → slice_get tuples range ≡ Some tuple
    → LeadsTo first (pages_of tuples) pointer tuple

-- ---- pages are read as they were written

-- each page has its type
pub record PagesHaveTheirTypes : Type 0 where
  pub meta : (pages_per_range last_revmap : ℕ) → HasType Meta (meta_page pages_per_range last_revmap)
  pub revmap : (pointers : List RowPtr) → length pointers ≤ revmap_items → HasType Revmap (revmap_page pointers)
  pub regular :
      (tuples : List (List ℕ)) → lower_at tuples + space_taken tuples ≤ special_start
      → HasType Regular (regular_page tuples)

abbrev pub MetaIsReadBack : Type 0
MetaIsReadBack =
    (pages_per_range last_revmap : ℕ) → pages_per_range < 2 ^ 32 → last_revmap < 2 ^ 32
    → IsMetaOf (meta_page pages_per_range last_revmap)
    (record { pages_per_range = pages_per_range; last_revmap = last_revmap })

-- the entries of a page of the revmap are its pointers, and zero behind them
pub record EntriesAreReadBack : Type 0 where
  pub there :
      (pointers : List RowPtr) (entry : ℕ) (pointer : RowPtr)
      → length pointers ≤ revmap_items → slice_get pointers entry ≡ Some pointer
      → pointer.block < 2 ^ 32 → pointer.offset < 2 ^ 16
      → revmap_entry (revmap_page pointers) entry ≡ pointer
  pub behind :
      (pointers : List RowPtr) (entry : ℕ) → length pointers ≤ entry → entry < revmap_items
      → revmap_entry (revmap_page pointers) entry ≡ record { block = 0; offset = 0 }

-- ---- the file

-- the pointers to the tuples of ranges
abbrev pub range_pointers : List ColType → ℕ → List RangeSummary → List RowPtr
range_pointers kinds pages_per_range ranges =
    pointers_from (1 + revmap_pages (length ranges)) (page_counts (map length (tuples_from kinds pages_per_range 0 ranges)))

-- each page stands at its block, and there are no more blocks
pub record HasItsPages (kinds : List ColType) (pages_per_range : ℕ) (ranges : List RangeSummary) (file : List ℕ) : Type 0 where
  pub blocks :
      length file
      ≡ page_size * (1 + (revmap_pages (length ranges) + length (pages_of (tuples_from kinds pages_per_range 0 ranges))))
  pub meta : block_at 0 file ≡ meta_page pages_per_range (revmap_pages (length ranges))
  pub revmap :
      (page : ℕ) → page < revmap_pages (length ranges)
      → block_at (1 + page) file ≡ revmap_page (pointers_on (range_pointers kinds pages_per_range ranges) page)
  pub regular :
      (at : ℕ) (page : List (List ℕ)) → slice_get (pages_of (tuples_from kinds pages_per_range 0 ranges)) at ≡ Some page
      → block_at (1 + revmap_pages (length ranges) + at) file ≡ regular_page page

-- where no range is wide, the file has its pages, each at its block
abbrev pub FileHasItsPages : Type 0
FileHasItsPages =
    (kinds : List ColType) (pages_per_range : ℕ) (ranges : List RangeSummary) → wide_range kinds ranges ≡ None
    → HasItsPages kinds pages_per_range ranges (brin_file kinds pages_per_range ranges)
