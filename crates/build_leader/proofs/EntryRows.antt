-- The entries of rows of arrays: those of several lists of rows, and the map from them to the rows.
use Rattle.std.proofs.Common.{◌≡◌, ℕ, List, [], ◌∷◌, ◌++◌, map, refl, sym, ap, subst, ◌∙◌, inl, inr}
use Rattle.std.specs.Prelude.{Contains}
use Rattle.std.specs.List.{flat_map}
use Rattle.std.specs.List.Sorted.{IsPermutation}
use Rattle.std.proofs.lemmas.List.Concat.{flat_map-append}
use Rattle.std.proofs.lemmas.List.Elements.{Contains-append_cases, Contains-append_left, Contains-append_right}
use Rattle.std.proofs.lemmas.List.Sorted.{Contains-permutation, IsPermutation-sym}
use Rattle.pg_bytes.specs.declared.row_ptr.RowPtr.{RowPtr}
use Rattle.opclass.specs.declared.types.ColType.{ColType}
use Rattle.opclass.specs.declared.value.KeyVal.{KeyVal}
use Rattle.gin_entry.specs.declared.entry.Entry.{Entry}
use Rattle.gin_entry.specs.Entries.{HasEntry, entries}
use Rattle.gin_entry.specs.EntryMap.{ArrayRow, IsGinMap, IsMapOf, LeadsTo, Posting}
use Rattle.gin_entry.specs.EntryOrder.{columns_of}
use Rattle.gin_entry.proofs.EntryOrders.{same_entry}
use Rattle.gin_entry.proofs.Exact.{entries_exact}
use Rattle.gin_entry.proofs.Members.{Any-from, Any-from_map, Contains-behind, Contains-cases, Contains-head, Contains-map, Contains-nil}
use Rattle.shared_tape.specs.declared.stored.Record.{Record}
use Rattle.spool.specs.Gathers.{entry_record}
use Rattle.run_merge.proofs.Moves.{IsPermutation-flat_map}
use Rattle.gin_pack.specs.File.{Leads}
use Rattle.build_leader.specs.Entries.{IsGinIndexOf, array_of, array_row, row_entries, rows_entries}
use Rattle.build_leader.specs.Gin.{IsEntryFile}

-- ---- the entries of several lists of rows

pub entries_append : (rows others : List Record)
    → rows_entries (rows ++ others) ≡ rows_entries rows ++ rows_entries others
entries_append rows others = flat_map-append row_entries rows others

pub entries_permuted : (rows others : List Record) → IsPermutation rows others
    → IsPermutation (rows_entries rows) (rows_entries others)
entries_permuted rows others same = IsPermutation-flat_map row_entries rows others same

-- ---- what lists that stand one behind the other have

module _ {X Y : Type 0} (f : X → List Y) where
  -- an element is in the list of one of them
  found_in : (xs : List X) (y : Y) → Contains (flat_map f xs) y → (x : X) × Contains xs x × Contains (f x) y
  found_in [] y there = absurd (Contains-nil y there)
  found_in (x ∷ xs) y there =
      elim (Contains-append_cases (f x) (flat_map f xs) y there) [
        | inl here ↦ (x, Contains-head x xs, here)
        | inr behind ↦ let found = found_in xs y behind in
            (found.0, Contains-behind x found.0 xs found.1, found.2)
      ]

  flat_map_has : (xs : List X) (x : X) (y : Y) → Contains xs x → Contains (f x) y → Contains (flat_map f xs) y
  flat_map_has [] x y there its = absurd (Contains-nil x there)
  flat_map_has (z ∷ xs) x y there its =
      elim (Contains-cases z x xs there) [
        | inl same ↦ Contains-append_left (f z) (flat_map f xs) y (subst (λ w. Contains (f w) y) (sym same) its)
        | inr behind ↦ Contains-append_right (f z) (flat_map f xs) y (flat_map_has xs x y behind its)
      ]

-- ---- the map of rows

-- the record of an entry of a row says that the row's value has it, and where the row is
entry_of_record : (value : KeyVal) (ptr : RowPtr) (row : Record) (entry : Entry) → row.keys ≡ columns_of entry
    → Contains (map (entry_record ptr) (entries value)) row → HasEntry value entry × (row.ptr ≡ ptr)
entry_of_record value ptr row entry keys there =
    let some = Any-from_map (entry_record ptr) (entries value) row there in
    let same : some.1 ≡ entry = same_entry some.1 entry (sym (ap (λ (r : Record). r.keys) some.4) ∙ keys) in
    let has : Contains (entries value) some.1 = (some.0, some.2, some.3) in (
      subst (HasEntry value) same (((entries_exact value).exactly some.1).0 has),
      ap (λ (r : Record). r.ptr) some.4,
    )

module _ (rows records : List Record) (same : IsPermutation (rows_entries rows) records) where
  leads_to : (entry : Entry) (ptr : RowPtr) → Leads records entry ptr → LeadsTo (map array_row rows) entry ptr
  leads_to entry ptr some =
      let there : Contains (rows_entries rows) some.1 =
      Contains-permutation records (rows_entries rows) some.1 (IsPermutation-sym (rows_entries rows) records same)
      (some.0, some.2, some.3) in
      let found = found_in row_entries rows some.1 there in
      let its = entry_of_record (array_of found.0) found.0.ptr some.1 entry some.4.0 found.2 in
      Any-from (λ row. HasEntry row.value entry × (row.ptr ≡ ptr)) (map array_row rows) (array_row found.0)
      (Contains-map array_row rows found.0 found.1) (its.0, sym its.1 ∙ some.4.1)

  leads_back : (entry : Entry) (ptr : RowPtr) → LeadsTo (map array_row rows) entry ptr → Leads records entry ptr
  leads_back entry ptr some =
      let row = Any-from_map array_row rows some.1 (some.0, some.2, some.3) in
      let has : HasEntry (array_of row.1) entry =
      subst (λ (r : ArrayRow). HasEntry r.value entry) row.4 some.4.0 in
      let pointer : row.1.ptr ≡ ptr = sym (ap (λ (r : ArrayRow). r.ptr) row.4) ∙ some.4.1 in
      let one : Contains (row_entries row.1) (entry_record row.1.ptr entry) =
      Contains-map (entry_record row.1.ptr) (entries (array_of row.1)) entry
      (((entries_exact (array_of row.1)).exactly entry).1 has) in
      Any-from (λ r. (r.keys ≡ columns_of entry) × (r.ptr ≡ ptr)) records (entry_record row.1.ptr entry)
      (Contains-permutation (rows_entries rows) records (entry_record row.1.ptr entry) same
      (flat_map_has row_entries rows row.1 (entry_record row.1.ptr entry) (row.0, row.2, row.3) one))
      (refl, pointer)

  pub map_of_rows : (postings : List Posting) → IsMapOf (Leads records) postings
      → IsGinMap (map array_row rows) postings
  map_of_rows postings map_is = record {
    ascending = map_is.ascending;
    lists = map_is.lists;
    exactly = λ entry ptr. (
      (λ has. leads_to entry ptr ((map_is.exactly entry ptr).0 has)),
      (λ leads. (map_is.exactly entry ptr).1 (leads_back entry ptr leads)),
    );
  }

  -- the file of the entries of rows is the GIN index of the rows
  pub is_gin_index : (kinds : List ColType) (file : List ℕ) → IsEntryFile kinds records file
      → IsGinIndexOf kinds rows file
  is_gin_index kinds file is = record {
    kind = is.kind;
    one = is.one;
    postings = is.file_is.postings;
    map_is = map_of_rows is.file_is.postings is.file_is.map_is;
    read = is.file_is.read;
    built = is.file_is.built;
  }
