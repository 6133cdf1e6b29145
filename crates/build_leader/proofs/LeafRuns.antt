-- Runs of leaf tuples that the parts of a B-tree's rows have become: together they hold the rows in their order.
use Rattle.pg_bytes.specs.declared.row_ptr.RowPtr.{RowPtr}
use Rattle.std.proofs.Common.{◌≡◌, ◌≢◌, ℕ, zero, suc, ◌+◌, ◌-◌, ◌<◌, ◌≤◌, false, List, [], ◌∷◌, ◌++◌, length, map, Some, IsTrue, refl, sym, ap, subst, inl, inr, arith, All, append_assoc}
use Rattle.std.specs.Prelude.{slice_get}
use Rattle.std.specs.Ordering.{is_eq, ordering_reverse}
use Rattle.std.specs.List.Sorted.{IsSorted}
use Rattle.std.specs.declared.cmp.Ordering.{Ordering}
use Rattle.std.specs.declared.cmp.Ordering.TheVariants.{Equal, Less, Greater}
use Rattle.std.proofs.lemmas.List.{map-append, nil_from_length}
use Rattle.std.proofs.lemmas.List.Elements.{All-append, All-filter, All-head, All-tail, All-weaker}
use Rattle.opclass.specs.declared.spec.IndexSpec.{IndexSpec}
use Rattle.opclass.specs.declared.spec.SortPart.{SortPart}
use Rattle.opclass.specs.declared.types.ColType.{ColType}
use Rattle.opclass.specs.Order.{bytes_cmp, key_cmp}
use Rattle.opclass.proofs.KeyOrder.{key_cmp_antisymm, key_cmp_exact}
use Rattle.opclass.specs.declared.value.KeyVal.{KeyVal}
use Rattle.shared_tape.specs.declared.stored.Record.{Record}
use Rattle.shared_tape.specs.Stored.{IsStorable}
use Rattle.btree_pack.specs.Ends.{last_of}
use Rattle.btree_pack.specs.Groups.{KeysPart, Row, have_same_keys}
use Rattle.btree_pack.specs.Images.{images_of}
use Rattle.btree_pack.specs.Nodes.{btree_file}
use Rattle.btree_pack.specs.Pass.Added.{AddsRun, Adding, HasAdded}
use Rattle.btree_pack.specs.Pass.Run.{AreLeavesOf, RunView}
use Rattle.btree_pack.specs.Pass.Taken.{row_of}
use Rattle.btree_pack.specs.Pass.Written.{HasWritten, Writing}
use Rattle.btree_pack.proofs.RowsTaken.{adds_run}
use Rattle.run_merge.specs.Cutting.{is_in_part, part_of}
use Rattle.run_merge.specs.Sorted.{IsSortedRecords}
use Rattle.build_leader.specs.declared.fault.LeadFault.{LeadFault}
use Rattle.build_leader.specs.declared.fault.LeadFault.TheVariants as lead
use Rattle.build_leader.specs.KeyParts.{AreMade, AreOfParts, IsRefused, IsRefusedAt, SharesNoKeys}
use Rattle.build_leader.specs.Pass.{AreRowsOf, HoldLeafRows, IsFileOfRuns, IsTypedRow, IsPackFault, IsPackedFile, IsWrittenRun, KeepsUnique, WerePut}
use Rattle.build_leader.specs.Unique.{Clash, IsFirstClash, NoneClash}
use Rattle.build_leader.proofs.PartRows.{Apart, all_parts, between, completed, first_append, from_part, keys_differ, none_append}

-- ---- keys of rows that are told apart

its_reverse : (o : Ordering) → o ≡ ordering_reverse o → o ≡ Equal
its_reverse Less e = cc
its_reverse Equal e = refl
its_reverse Greater e = cc

-- where keys are not equal in an order, they aren't the same
unequal : (order : List SortPart) (a b : List KeyVal) → key_cmp order a b ≢ Equal → a ≢ b
unequal order a b differ same =
    differ (subst (λ keys. key_cmp order a keys ≡ Equal) same
    (its_reverse (key_cmp order a a) (key_cmp_antisymm order a a)))

not_same_keys : (order : List SortPart) (a b : Record) → key_cmp order a.keys b.keys ≢ Equal
    → have_same_keys (row_of a) (row_of b) ≡ false
not_same_keys order a b differ = by_result (key_cmp [] a.keys b.keys) refl
  where
    by_result : (o : Ordering) → key_cmp [] a.keys b.keys ≡ o → have_same_keys (row_of a) (row_of b) ≡ false
    by_result Less e = ap is_eq e
    by_result Greater e = ap is_eq e
    by_result Equal e = absurd (unequal order a.keys b.keys differ (key_cmp_exact [] a.keys b.keys e))

module _ (order : List SortPart) where
  -- no key of a row is that of one of others
  abbrev Differ : List Record → List Record → Type 0
  Differ rows more = All (λ a. All (λ b. key_cmp order a.keys b.keys ≢ Equal) more) rows

  apart_of_keys : (spec : IndexSpec) (rows more : List Record) → Differ rows more → Apart spec rows more
  apart_of_keys spec rows more differ =
      All-weaker (λ a. All (λ b. key_cmp order a.keys b.keys ≢ Equal) more) (λ a. All (λ b. Clash spec a b → ⊥) more)
      (λ a all. All-weaker (λ b. key_cmp order a.keys b.keys ≢ Equal) (λ b. Clash spec a b → ⊥)
      (λ b differ clash. unequal order a.keys b.keys differ clash.0) more all) rows differ

  last_differs : (row : Record) (rows : List Record) (next : Record) → All (λ a. key_cmp order a.keys next.keys ≢ Equal) (row ∷ rows)
      → have_same_keys (last_of (row_of row) (map row_of rows)) (row_of next) ≡ false
  last_differs row [] next differ =
      not_same_keys order row next (All-head (λ a. key_cmp order a.keys next.keys ≢ Equal) row [] differ)
  last_differs row (r ∷ rows) next differ =
      last_differs r rows next (All-tail (λ a. key_cmp order a.keys next.keys ≢ Equal) row (r ∷ rows) differ)

  keys_part : (rows more : List Record) → Differ rows more → KeysPart (map row_of rows) (map row_of more)
  keys_part [] more differ = tt
  keys_part (row ∷ rows) [] differ = tt
  keys_part (row ∷ rows) (next ∷ more) differ =
      last_differs row rows next
      (All-weaker (λ a. All (λ b. key_cmp order a.keys b.keys ≢ Equal) (next ∷ more)) (λ a. key_cmp order a.keys next.keys ≢ Equal)
      (λ a all. All-head (λ b. key_cmp order a.keys b.keys ≢ Equal) next more all) (row ∷ rows) differ)

none_of_none : (spec : IndexSpec) → NoneClash spec []
none_of_none spec place a b at = cc

-- ---- the parts of a B-tree's rows

module _ (spec : IndexSpec) (kinds : List ColType) (order : List SortPart) (cuts : List (List ℕ)) (records : List Record)
    (storable : All (IsStorable order) records) (up : IsSorted bytes_cmp cuts) (share : SharesNoKeys order cuts) where
  abbrev written : ℕ → RunView → Type 0
  written part run = IsWrittenRun spec kinds order (part_of order cuts part records) run

  -- no row of the first parts has a key of the next
  next_differs : (count : ℕ) (rows last : List Record) → count ≤ length cuts → AreOfParts order cuts records count rows
      → IsSortedRecords order (part_of order cuts count records) last → Differ order rows last
  next_differs count rows last within are is =
      keys_differ order cuts records storable share count rows last are
      (All-weaker (between order cuts records storable count (suc count)) (between order cuts records storable count (length cuts + 1))
      (λ row of. (of.0, (of.1.0, omega (arith, of.1.1), of.1.2))) last (from_part order cuts records storable count last is))

  -- a part behind the first ones keeps the unique rule with them
  unique_more : (count : ℕ) (rows last : List Record) → count ≤ length cuts → AreOfParts order cuts records count rows
      → KeepsUnique spec rows → IsSortedRecords order (part_of order cuts count records) last → KeepsUnique spec last
      → KeepsUnique spec (rows ++ last)
  unique_more count rows last within are unique is unique_last said =
      none_append spec rows last (unique said) (unique_last said)
      (apart_of_keys order spec rows last (next_differs count rows last within are is))

  hold : (runs : List RunView) (count : ℕ) (rows : List Record) → count + length runs ≡ length cuts + 1
      → AreOfParts order cuts records count rows → KeepsUnique spec rows
      → ((place : ℕ) (run : RunView) → slice_get runs place ≡ Some run → written (count + place) run)
      → (all : List Record) × (AreOfParts order cuts records (length cuts + 1) all × KeepsUnique spec all
      × HoldLeafRows spec kinds (map row_of rows) runs (map row_of all))
  hold [] count rows long are unique each =
      let whole : count ≡ length cuts + 1 = omega (arith, long) in
      (rows, (subst (λ (n : ℕ). AreOfParts order cuts records n rows) whole are, unique, refl))
  hold (run ∷ runs) count rows long are unique each =
      let within : count ≤ length cuts = omega (arith, long) in
      let first : written count run = (let e : count + 0 ≡ count = omega arith in subst (λ (n : ℕ). written n run) e (each 0 run refl)) in
      let last = first.sorted in
      let differ = next_differs count rows last within are first.in_order in
      let rest = hold runs (suc count) (rows ++ last) (omega (arith, long)) (rows, (last, (are, first.in_order, refl)))
      (unique_more count rows last within are unique first.in_order first.unique)
      (λ place one at. (let e : count + suc place ≡ suc count + place = omega arith in subst (λ (n : ℕ). written n one) e (each (suc place) one at))) in (
        rest.0,
        (
          rest.1.0,
          rest.1.1,
          (
            map row_of last,
            first.leaves,
            keys_part order rows last differ,
            subst (λ before. HoldLeafRows spec kinds before runs (map row_of rest.0)) (map-append row_of rows last) rest.1.2,
          ),
        ),
      )

  module _ (runs : List RunView) (are : AreMade (IsWrittenRun spec kinds order) order cuts records (length cuts + 1) runs) where
    all_held : (all : List Record) × (AreOfParts order cuts records (length cuts + 1) all × KeepsUnique spec all
        × HoldLeafRows spec kinds [] runs (map row_of all))
    all_held =
        let long = are.count_is in
        hold runs 0 [] (omega (arith, long)) refl (λ said. none_of_none spec)
        (λ place run at. (let e : place ≡ 0 + place = omega arith in
        subst (λ (n : ℕ). written n run) e (are.each place run at)))

    pub runs_hold : (rows : List Row) × HoldLeafRows spec kinds [] runs rows
    runs_hold = (map row_of all_held.0, all_held.1.2)

    pub runs_are_packed : (file : List ℕ) → IsFileOfRuns spec kinds runs file → IsPackedFile spec kinds order records file
    runs_are_packed file is = record {
      sorted = all_held.0;
      in_order = all_parts order cuts records storable all_held.0 up all_held.1.0;
      unique = all_held.1.1;
      file_is = is (map row_of all_held.0) all_held.1.2;
    }

  -- the rows of the parts before one, which all have become runs
  first_parts : (count : ℕ) → count ≤ length cuts + 1 → ((lower : ℕ) → lower < count → (run : RunView) × written lower run)
      → (rows : List Record) × (AreOfParts order cuts records count rows × KeepsUnique spec rows)
  first_parts zero within each = ([], (refl, λ said. none_of_none spec))
  first_parts (suc count) within each =
      let so_far = first_parts count (omega arith) (λ lower below. each lower (omega arith)) in
      let last = (each count (omega arith)).1 in (
        so_far.0 ++ last.sorted,
        (
          (so_far.0, (last.sorted, (so_far.1.0, last.in_order, refl))),
          unique_more count so_far.0 last.sorted (omega arith) so_far.1.0 so_far.1.1 last.in_order last.unique,
        ),
      )

  -- the first clash of a part is that of the whole, where the parts before it have none
  module _ (part : ℕ) (within : part < length cuts + 1) (before : (lower : ℕ) → lower < part → (run : RunView) × written lower run)
      (said : IsTrue spec.unique) (sorted : List Record) (is : IsSortedRecords order (part_of order cuts part records) sorted)
      (first second : RowPtr) (clash : IsFirstClash spec sorted first second) where
    lower : (rows : List Record) × (AreOfParts order cuts records part rows × KeepsUnique spec rows)
    lower = first_parts part (omega arith) before

    upper : (rest : List Record) × (AreOfParts order cuts records (length cuts + 1) ((lower.0 ++ sorted) ++ rest)
        × All (between order cuts records storable (suc part) (length cuts + 1)) rest)
    upper = completed order cuts records storable (length cuts - part) (suc part) (length cuts + 1) (lower.0 ++ sorted)
        (omega (arith, within)) (lower.0, (sorted, (lower.1.0, is, refl)))

    -- rows before the part clash with no row from it on
    apart : Apart spec lower.0 (sorted ++ upper.0)
    apart =
        apart_of_keys order spec lower.0 (sorted ++ upper.0)
        (keys_differ order cuts records storable share part lower.0 (sorted ++ upper.0) lower.1.0
        (All-append (between order cuts records storable part (length cuts + 1)) sorted upper.0
        (All-weaker (between order cuts records storable part (suc part)) (between order cuts records storable part (length cuts + 1))
        (λ row of. (of.0, (of.1.0, omega (arith, of.1.1, within), of.1.2))) sorted (from_part order cuts records storable part sorted is))
        (All-weaker (between order cuts records storable (suc part) (length cuts + 1))
        (between order cuts records storable part (length cuts + 1))
        (λ row of. (of.0, (omega (arith, of.1.0), of.1.1, of.1.2))) upper.0 upper.1.1)))

    whole_clash : (all : List Record) × IsSortedRecords order records all × IsFirstClash spec all first second
    whole_clash = (
      (lower.0 ++ sorted) ++ upper.0,
      all_parts order cuts records storable ((lower.0 ++ sorted) ++ upper.0) up upper.1.0,
      subst (λ rows. IsFirstClash spec rows first second) (sym (append_assoc lower.0 sorted upper.0))
          (first_append spec lower.0 sorted upper.0 first second (lower.1.1 said) apart clash),
    )

  refused_at : (fault : LeadFault)
      → IsRefusedAt (IsWrittenRun spec kinds order) (IsPackFault spec order) order cuts records (length cuts + 1) fault
      → IsPackFault spec order records fault
  refused_at (lead.Row block item cause) is = is.refused
  refused_at (lead.Duplicate first second) is =
      let told = is.refused in
      (told.0, whole_clash is.part is.within is.before told.0 told.1.0 told.1.1 first second told.1.2)
  refused_at (lead.RangeWide range size) is = is.refused
  refused_at lead.Memory is = tt

  -- why a part isn't written is why the whole isn't packed
  pub refused_by_part : (fault : LeadFault)
      → IsRefused (IsWrittenRun spec kinds order) (IsPackFault spec order) order cuts records (length cuts + 1) fault
      → IsPackFault spec order records fault
  refused_by_part fault (inl memory) = subst (IsPackFault spec order records) (sym memory) tt
  refused_by_part fault (inr is) = refused_at fault is

-- ---- the rows of a part, written

module _ (spec : IndexSpec) (kinds : List ColType) where
  -- what a writer gives of rows that were put in their order
  pub written_run : (order : List SortPart) (whole : List Record) (fresh new : Writing) (run : RunView)
      → HasWritten spec kinds [] fresh → WerePut HasWritten spec fresh.rows.kinds order whole new
      → ((spec : IndexSpec) (kinds : List ColType) (rows : List Row) → HasWritten spec kinds rows new → AreLeavesOf spec kinds rows run)
      → IsWrittenRun spec kinds order whole run
  written_run order whole fresh new run none put gives =
      let were : WerePut HasWritten spec kinds order whole new =
      subst (λ (columns : List ColType). WerePut HasWritten spec columns order whole new) none.kinds_are put in record {
        sorted = were.sorted;
        in_order = were.in_order;
        unique = were.unique;
        leaves = gives spec kinds (map row_of were.sorted) were.put;
      }

  -- rows of the index are so in each part
  pub rows_of_part : (order : List SortPart) (cuts : List (List ℕ)) (part : ℕ) (records : List Record)
      → AreRowsOf spec kinds records → AreRowsOf spec kinds (part_of order cuts part records)
  rows_of_part order cuts part records rows = All-filter (is_in_part order cuts part) (IsTypedRow spec kinds) records rows

  -- runs on their way onto pages: those that are left are of the rows behind those that were added
  abbrev pub AreAdded : List RunView → List RunView → Adding → Type 0
  AreAdded runs left packer =
      (rows : List Row) → HoldLeafRows spec kinds [] runs rows
      → (before : List Row) × HasAdded spec kinds before packer × HoldLeafRows spec kinds before left rows

  pub none_added : (runs left : List RunView) (packer : Adding) → left ≡ runs → HasAdded spec kinds [] packer
      → AreAdded runs left packer
  none_added runs left packer all has rows hold =
      ([], has, subst (λ left. HoldLeafRows spec kinds [] left rows) (sym all) hold)

  pub may_add : (runs left : List RunView) (run : RunView) (packer : Adding) → AreAdded runs (run ∷ left) packer
      → (rows : List Row) × HoldLeafRows spec kinds [] runs rows → AddsRun packer run
  may_add runs left run packer added held =
      let so_far = added held.0 held.1 in
      adds_run spec kinds so_far.0 so_far.2.0 packer run so_far.1 so_far.2.1

  pub one_added : (runs left : List RunView) (run : RunView) (old new : Adding)
      → ((spec : IndexSpec) (kinds : List ColType) (rows more : List Row) → HasAdded spec kinds rows old
      → AreLeavesOf spec kinds more run → KeysPart rows more → HasAdded spec kinds (rows ++ more) new)
      → AreAdded runs (run ∷ left) old → AreAdded runs left new
  one_added runs left run old new adds added rows hold =
      let so_far = added rows hold in
      let next = so_far.2 in
      (so_far.0 ++ next.0, adds spec kinds so_far.0 next.0 so_far.1 next.1 next.2, next.3)

  pub all_added : (runs left : List RunView) (packer : Adding) (file : List ℕ) → length left ≡ 0 → AreAdded runs left packer
      → ((spec : IndexSpec) (kinds : List ColType) (rows : List Row) → HasAdded spec kinds rows packer
      → file ≡ btree_file (images_of kinds (length spec.keys)) spec rows)
      → IsFileOfRuns spec kinds runs file
  all_added runs left packer file none added gives rows hold =
      let so_far = added rows hold in
      let is : rows ≡ so_far.0 =
      subst (λ left. HoldLeafRows spec kinds so_far.0 left rows) (nil_from_length left none) so_far.2 in
      subst (λ put. file ≡ btree_file (images_of kinds (length spec.keys)) spec put) (sym is) (gives spec kinds so_far.0 so_far.1)
