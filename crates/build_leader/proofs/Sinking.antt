-- A row goes into a sink, whichever it is.
use Rattle.std.proofs.Common.{◌≡◌, ◌≢◌, ◌≤◌, List, [], arith, ◌∷◌, ◌++◌, length, Some, get_or, slice_get, refl, sym, ap, subst, ◌∙◌}
use Rattle.std.specs.List.Sorted.{IsPermutation}
use Rattle.std.proofs.lemmas.List.{append-nil}
use Rattle.std.proofs.lemmas.List.Sorted.{IsPermutation-append_left, IsPermutation-trans}
use Rattle.std.proofs.lemmas.Option.{same_Some}
use Rattle.opclass.specs.declared.spec.IndexSpec.{IndexSpec}
use Rattle.opclass.specs.declared.spec.SortPart.{SortPart}
use Rattle.opclass.specs.declared.types.Method.{Method}
use Rattle.opclass.specs.declared.types.Method.TheVariants.{BTree, Brin, Gin}
use Rattle.opclass.specs.declared.types.ColType.{ColType}
use Rattle.opclass.specs.declared.value.KeyVal.{KeyVal}
use Rattle.opclass.specs.declared.value.KeyVal.TheVariants.{Nil}
use Rattle.heap_row.specs.declared.fault.RowFault.{RowFault}
use Rattle.heap_row.specs.declared.fault.RowFault.TheVariants.{Memory, Value}
use Rattle.btree_item.specs.Tuple.{size_of}
use Rattle.shared_tape.specs.declared.stored.Record.{Record}
use Rattle.shared_tape.specs.Stored.{IsStorable}
use Rattle.spool.specs.Gathers.{GatherView, TakesRow, entry_records}
use Rattle.spool.specs.Spools.{SpoolView, TakesRecord}
use Rattle.build_leader.specs.declared.brin.ranges.RangeTally.{RangeTally}
use Rattle.build_leader.specs.declared.scan.sink.Sink.{Sink}
use Rattle.build_leader.specs.declared.scan.sink.Sink.TheVariants.{Rows, Entries, Ranges}
use Rattle.build_leader.specs.declared.scan.width.WidthCause.{WidthCause}
use Rattle.build_leader.specs.declared.scan.width.WidthCause.TheVariants as width
use Rattle.build_leader.specs.Entries.{HasWideEntry, array_of, row_entries, rows_entries}
use Rattle.build_leader.specs.Holding.{CanTake, Held, HoldBy, HoldRows, IsTakeable, IsTakeableBy, Suits, TakesInto, held_by}
use Rattle.build_leader.specs.IndexRow.{AreTooWide, most_tuple}
use Rattle.build_leader.specs.Ranges.{HoldRanges}
use Rattle.build_leader.specs.Reader.{IsEntryFault, IsTupleFault, IsWidthFault}
use Rattle.build_leader.proofs.EntryRows.{entries_append}

-- ---- what is held by a method that is known

pub hold_as : (spec : IndexSpec) (method : Method) (rows : List Record) (held : Held) → spec.method ≡ method
    → HoldRows spec rows held → HoldBy method spec rows held
hold_as spec method rows held is hold = subst (λ (m : Method). HoldBy m spec rows held) is hold

pub as_hold : (spec : IndexSpec) (method : Method) (rows : List Record) (held : Held) → spec.method ≡ method
    → HoldBy method spec rows held → HoldRows spec rows held
as_hold spec method rows held is hold = subst (λ (m : Method). HoldBy m spec rows held) (sym is) hold

-- ---- a row more

pub rows_take : (sink : Sink) (old new : SpoolView) (row : Record) → sink ≡ Rows old → TakesRecord old row new
    → (spec : IndexSpec) → Suits spec sink → TakesInto spec sink (row ∷ []) (Rows new)
rows_take sink old new row is takes spec suits before hold =
    let suited : Suits spec (Rows old) = subst (Suits spec) is suits in
    let method = suited.1.0 in
    let held : HoldBy BTree spec before (held_by (Rows old)) =
    hold_as spec BTree before (held_by (Rows old)) method (subst (λ (s : Sink). HoldRows spec before (held_by s)) is hold) in
    as_hold spec BTree (before ++ row ∷ []) (held_by (Rows new)) method (
      IsPermutation-trans (before ++ row ∷ []) (old.records ++ row ∷ []) new.records
          (IsPermutation-append_left (row ∷ []) before old.records held.0) takes.records,
      refl,
    )

first_value : (keys : List KeyVal) (v : KeyVal) → slice_get keys 0 ≡ Some v → v ≡ get_or keys 0 Nil
first_value [] v at = cc
first_value (k ∷ keys) v at = same_Some v k (sym at)

pub is_array_of : (row : Record) (value : KeyVal) → slice_get row.keys 0 ≡ Some value → value ≡ array_of row
is_array_of row value there = first_value row.keys value there

pub one_row_entries : (row : Record) → rows_entries (row ∷ []) ≡ row_entries row
one_row_entries row = append-nil (row_entries row)

pub entries_take : (sink : Sink) (old new : GatherView) (row : Record) (value : KeyVal) → sink ≡ Entries old
    → slice_get row.keys 0 ≡ Some value → TakesRow old value row.ptr new → (spec : IndexSpec) → Suits spec sink
    → TakesInto spec sink (row ∷ []) (Entries new)
entries_take sink old new row value is there takes spec suits before hold =
    let suited : Suits spec (Entries old) = subst (Suits spec) is suits in
    let method = suited.1.0 in
    let held : HoldBy Gin spec before (held_by (Entries old)) =
    hold_as spec Gin before (held_by (Entries old)) method (subst (λ (s : Sink). HoldRows spec before (held_by s)) is hold) in
    let array : value ≡ array_of row = is_array_of row value there in
    let more : rows_entries (before ++ row ∷ []) ≡ rows_entries before ++ row_entries row =
    entries_append before (row ∷ []) ∙ ap (λ (l : List Record). rows_entries before ++ l) (one_row_entries row) in
    let taken : IsPermutation (old.records ++ row_entries row) new.records =
    subst (λ (v : KeyVal). IsPermutation (old.records ++ entry_records v row.ptr) new.records) array takes.records in
    as_hold spec Gin (before ++ row ∷ []) (held_by (Entries new)) method (
      subst (λ (l : List Record). IsPermutation l new.records) (sym more)
          (IsPermutation-trans (rows_entries before ++ row_entries row) (old.records ++ row_entries row) new.records
          (IsPermutation-append_left (row_entries row) (rows_entries before) old.records held.0) taken),
      refl,
    )

pub ranges_take : (sink : Sink) (old new : RangeTally) (row : Record) → sink ≡ Ranges old
    → ((spec : IndexSpec) (rows : List Record) → spec.pages_per_range ≡ old.pages_per_range → length spec.keys ≡ old.columns
    → HoldRanges spec rows old.ranges.items → HoldRanges spec (rows ++ row ∷ []) new.ranges.items)
    → (spec : IndexSpec) → Suits spec sink → TakesInto spec sink (row ∷ []) (Ranges new)
ranges_take sink old new row is takes spec suits before hold =
    let suited : Suits spec (Ranges old) = subst (Suits spec) is suits in
    let method = suited.1.0 in
    let held : HoldBy Brin spec before (held_by (Ranges old)) =
    hold_as spec Brin before (held_by (Ranges old)) method (subst (λ (s : Sink). HoldRows spec before (held_by s)) is hold) in
    as_hold spec Brin (before ++ row ∷ []) (held_by (Ranges new)) method
    (refl, takes spec before (sym suited.1.2) (sym suited.1.3) held.1)

-- ---- which rows a sink takes

takeable_as : (spec : IndexSpec) (method : Method) (row : Record) → spec.method ≡ method → IsTakeable spec row
    → IsTakeableBy method spec row
takeable_as spec method row is takeable = subst (λ (m : Method). IsTakeableBy m spec row) is takeable

pub can_take : (spec : IndexSpec) (sink : Sink) (row : Record) → Suits spec sink → IsTakeable spec row → CanTake sink row
can_take spec (Rows spool) row suits takeable =
    subst (λ (order : List SortPart). IsStorable order row) (sym suits.1.1) (takeable_as spec BTree row suits.1.0 takeable)
can_take spec (Entries gather) row suits takeable = takeable_as spec Gin row suits.1.0 takeable
can_take spec (Ranges tally) row suits takeable =
    (suits.1.1, takeable_as spec Brin row suits.1.0 takeable ∙ sym suits.1.3, suits.1.4)

-- ---- values that are too large for it

module _ (kinds : List ColType) (values : List KeyVal) (sink : Sink) where
  -- a tuple of a B-tree, whose rows the sink takes
  pub tuple_too_wide : (spool : SpoolView) → sink ≡ Rows spool → (fault : RowFault) → IsTupleFault kinds values fault
      → (spec : IndexSpec) → Suits spec sink → IsWidthFault spec kinds values fault
  tuple_too_wide spool is fault wide spec suits =
      let suited : Suits spec (Rows spool) = subst (Suits spec) is suits in
      subst (IsWidthFault spec kinds values) (sym wide.0) (width.Tuple, (suited.1.0, wide.1), refl)

  pub tuple_fits : (spool : SpoolView) → sink ≡ Rows spool → size_of kinds values ≤ most_tuple
      → (spec : IndexSpec) → Suits spec sink → (cause : WidthCause) → AreTooWide cause spec kinds values → ⊥
  tuple_fits spool is fits spec suits width.Tuple wide = let more = wide.1 in omega arith
  tuple_fits spool is fits spec suits width.Entry wide =
      let suited : Suits spec (Rows spool) = subst (Suits spec) is suits in
      let tree : spec.method ≡ BTree = suited.1.0 in
      let gin : spec.method ≡ Gin = wide.0 in
      cc

  -- an entry of a GIN index, whose entries it takes
  pub entry_too_wide : (gather : GatherView) → sink ≡ Entries gather → (fault : RowFault) → IsEntryFault kinds values fault
      → (spec : IndexSpec) → Suits spec sink → IsWidthFault spec kinds values fault
  entry_too_wide gather is (Value number) wide spec suits =
      let suited : Suits spec (Entries gather) = subst (Suits spec) is suits in
      (width.Entry, (suited.1.0, wide.0), wide.1)
  entry_too_wide gather is Memory wide spec suits = tt

  pub entries_fit : (gather : GatherView) → sink ≡ Entries gather → (HasWideEntry kinds values → ⊥)
      → (spec : IndexSpec) → Suits spec sink → (cause : WidthCause) → AreTooWide cause spec kinds values → ⊥
  entries_fit gather is fit spec suits width.Entry wide = fit wide.1
  entries_fit gather is fit spec suits width.Tuple wide =
      let suited : Suits spec (Entries gather) = subst (Suits spec) is suits in
      let gin : spec.method ≡ Gin = suited.1.0 in
      let tree : spec.method ≡ BTree = wide.0 in
      cc

  -- nothing of a row of a BRIN index is
  pub ranges_fit : (tally : RangeTally) → sink ≡ Ranges tally
      → (spec : IndexSpec) → Suits spec sink → (cause : WidthCause) → AreTooWide cause spec kinds values → ⊥
  ranges_fit tally is spec suits width.Tuple wide =
      let suited : Suits spec (Ranges tally) = subst (Suits spec) is suits in
      let brin : spec.method ≡ Brin = suited.1.0 in
      let tree : spec.method ≡ BTree = wide.0 in
      cc
  ranges_fit tally is spec suits width.Entry wide =
      let suited : Suits spec (Ranges tally) = subst (Suits spec) is suits in
      let brin : spec.method ≡ Brin = suited.1.0 in
      let gin : spec.method ≡ Gin = wide.0 in
      cc

-- ---- whether it takes arrays

pub takes_entries : (sink : Sink) (gather : GatherView) → sink ≡ Entries gather → (spec : IndexSpec) → Suits spec sink
    → spec.method ≡ Gin
takes_entries sink gather is spec suits = (subst (Suits spec) is suits).1.0

pub takes_rows : (sink : Sink) (spool : SpoolView) → sink ≡ Rows spool → (spec : IndexSpec) → Suits spec sink
    → spec.method ≢ Gin
takes_rows sink spool is spec suits gin =
    let suited : Suits spec (Rows spool) = subst (Suits spec) is suits in
    let tree : spec.method ≡ BTree = suited.1.0 in
    cc

pub takes_ranges : (sink : Sink) (tally : RangeTally) → sink ≡ Ranges tally → (spec : IndexSpec) → Suits spec sink
    → spec.method ≢ Gin
takes_ranges sink tally is spec suits gin =
    let suited : Suits spec (Ranges tally) = subst (Suits spec) is suits in
    let brin : spec.method ≡ Brin = suited.1.0 in
    cc
