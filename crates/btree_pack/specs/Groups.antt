-- Sorted rows in groups, each of which has one leaf tuple (nbtdedup.c; _bt_load and _bt_sort_dedup_finish_pending of
-- nbtsort.c): rows with equal keys share tuples with lists of row pointers.
use Rattle.std.specs.Prelude.{◌≡◌, ℕ, zero, suc, ◌+◌, ◌-◌, ◌*◌, ◌/◌, max, Bool, false, nat_le, if◌then◌else◌, List, [], ◌∷◌, length, take, drop}
use Rattle.std.specs.List.{flat_map}
use Rattle.std.specs.Ordering.{is_eq}
use Rattle.pg_bytes.specs.Numbers.{rounded_up}
use Rattle.pg_bytes.specs.PageLayout.{page_size, line_pointer_size}
use Rattle.pg_bytes.specs.declared.row_ptr.RowPtr.{RowPtr}
use Rattle.opclass.specs.Order.{key_cmp}
use Rattle.opclass.specs.declared.value.KeyVal.{KeyVal}
use Rattle.btree_pack.specs.Ends.{last_of}

-- a row of the index: the values of its key columns and of its INCLUDE columns, and where the heap has it
pub record Row : Type 0 where
  pub keys : List KeyVal
  pub extra : List KeyVal
  pub pointer : RowPtr

-- neighbouring rows with equal keys, one at least
pub record Group : Type 0 where
  pub first : Row
  pub others : List Row

-- the rows of a group
abbrev pub rows_of : Group → List Row
rows_of group = group.first ∷ group.others

-- whether rows have equal keys, whatever the directions of the columns
abbrev pub have_same_keys : Row → Row → Bool
have_same_keys a b = is_eq (key_cmp [] a.keys b.keys)

-- no key stands on both sides of the place between rows and those behind them
abbrev pub KeysPart : List Row → List Row → Type 0
KeysPart [] more = Unit {0}
KeysPart (row ∷ rows) [] = Unit {0}
KeysPart (row ∷ rows) (next ∷ more) = have_same_keys (last_of row rows) next ≡ false

-- a row before groups: it is of the first one where the keys are equal
abbrev pub with_row : Row → List Group → List Group
with_row row [] = record { first = row; others = [] } ∷ []
with_row row (group ∷ groups) =
    if have_same_keys row group.first
    then record { first = row; others = rows_of group } ∷ groups
    else record { first = row; others = [] } ∷ group ∷ groups

-- rows in the longest groups of neighbours that have equal keys
abbrev pub runs : List Row → List Group
runs [] = []
runs (row ∷ rows) = with_row row (runs rows)

-- the greatest number up to a bound that passes a test, 0 where none does
abbrev pub greatest : (ℕ → Bool) → ℕ → ℕ
greatest test zero = 0
greatest test (suc n) = if test (suc n) then suc n else greatest test n

-- the most bytes that a tuple with a list may take: a tenth of a page, less a line pointer (maxpostingsize)
abbrev pub posting_limit : ℕ
posting_limit = page_size / 10 / 8 * 8 - line_pointer_size

-- the size of a tuple with a list of so many row pointers of six bytes, where the tuple of one row has this size
abbrev pub posting_size : ℕ → ℕ → ℕ
posting_size plain count = rounded_up 8 (plain + 6 * count)

-- how many rows of one key share a tuple at most: as many as the limit lets, and one at least
unfoldable pub most_sharing : ℕ → ℕ
most_sharing plain = max 1 (greatest (λ count. nat_le (posting_size plain count) posting_limit) posting_limit)

-- a group cut from its front into pieces of so many rows, the last one with what is left, in at most so many cuts
abbrev pub pieces_within : ℕ → ℕ → Group → List Group
pieces_within zero most group = group ∷ []
pieces_within (suc cuts) most group = elim (drop (most - 1) group.others) [
  | [] ↦ group ∷ []
  | next ∷ behind ↦
      record { first = group.first; others = take (most - 1) group.others }
      ∷ pieces_within cuts most (record { first = next; others = behind })
]

unfoldable pub pieces : ℕ → Group → List Group
pieces most group = pieces_within (length group.others) most group

-- The groups that have a leaf tuple each, given the size of a row's own tuple: unless rows share tuples (an index that
-- is unique, has INCLUDE columns or is made without deduplication), each row is one.
abbrev pub leaf_groups : (Row → ℕ) → Bool → List Row → List Group
leaf_groups size_of shares rows =
    flat_map (λ run. pieces (if shares then most_sharing (size_of run.first) else 1) run) (runs rows)
