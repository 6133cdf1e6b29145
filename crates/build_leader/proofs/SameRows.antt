-- A heap has one list of rows of an index at most.
use Rattle.std.proofs.Common.{◌≡◌, ℕ, List, [], ◌∷◌, ◌++◌, Some, map, sym, ap, ap₂, subst, ◌∙◌, inl, inr}
use Rattle.pg_bytes.specs.Blocks.{block_at}
use Rattle.opclass.specs.declared.spec.IndexSpec.{IndexSpec}
use Rattle.opclass.specs.declared.table.Table.{Table}
use Rattle.opclass.specs.declared.value.KeyVal.{KeyVal}
use Rattle.opclass.specs.Filter.{PassesFilter, value_of}
use Rattle.hot_chain.proofs.RootLaws.{same_rows}
use Rattle.hot_chain.specs.Roots.{Row}
use Rattle.shared_tape.specs.declared.stored.Record.{Record}
use Rattle.build_leader.specs.HeapRows.{AreBlockRows, AreRowsOfBlocks}
use Rattle.build_leader.specs.IndexRow.{AreIndexRows, AreValuesOf, HasIndexValues, IsIndexRow, IsLeftOut, key_columns, needed_of}
use Rattle.build_leader.specs.Laws.{HeapRowsAreDetermined}

same_picked : (a b : List KeyVal) → map Some a ≡ map Some b → a ≡ b
same_picked [] [] e = λ i. []
same_picked [] (y ∷ b) e = cc
same_picked (x ∷ a) [] e = cc
same_picked (x ∷ a) (y ∷ b) e =
    let head : x ≡ y = cc in
    let tail : map Some a ≡ map Some b = cc in
    let rest : a ≡ b = same_picked a b tail in
    cc

-- the values of columns are one list
same_values_of : (needed : List ℕ) (read read' : List KeyVal) (columns : List ℕ) (a b : List KeyVal) → read ≡ read'
    → AreValuesOf needed read columns a → AreValuesOf needed read' columns b → a ≡ b
same_values_of needed read read' columns a b same x y =
    same_picked a b (sym x ∙ ap (λ values. map (value_of needed values) columns) same ∙ y)

module _ (table : Table) (spec : IndexSpec) (page : List ℕ) where
  -- WHERE doesn't leave out what it keeps
  kept_or_not : (item : ℕ) (keys extra : List KeyVal) → IsLeftOut table spec page item
      → HasIndexValues table spec page item keys extra → ⊥
  kept_or_not item keys extra out has =
      let same : has.values ≡ out.values = cc (has.read, out.read) in
      out.left_out (subst (PassesFilter spec.filter (needed_of table spec)) same has.kept)

  -- the row of the index that a row of the page is, is one
  same_record : (block : ℕ) (row : Row) (a b : Record) → IsIndexRow table spec page block row a
      → IsIndexRow table spec page block row b → a ≡ b
  same_record block row a b x y =
      let same : x.values.values ≡ y.values.values = cc (x.values.read, y.values.read) in
      let keys : a.keys ≡ b.keys = same_values_of (needed_of table spec) x.values.values y.values.values (key_columns spec)
      a.keys b.keys same x.values.keys_are y.values.keys_are in
      let extra : a.extra ≡ b.extra = same_values_of (needed_of table spec) x.values.values y.values.values spec.includes
      a.extra b.extra same x.values.extra_are y.values.extra_are in
      let pointer : a.ptr ≡ b.ptr = x.pointer ∙ sym y.pointer in
      λ i. record { keys = keys i; extra = extra i; ptr = pointer i }

  same_index_rows : (block : ℕ) (rows : List Row) (a b : List Record) → AreIndexRows table spec page block rows a
      → AreIndexRows table spec page block rows b → a ≡ b
  same_index_rows block [] a b x y = x ∙ sym y
  same_index_rows block (row ∷ rows) a b (inl x) (inl y) = same_index_rows block rows a b x.1 y.1
  same_index_rows block (row ∷ rows) a b (inl x) (inr y) = absurd (kept_or_not row.item _ _ x.0 y.1.2.values)
  same_index_rows block (row ∷ rows) a b (inr x) (inl y) = absurd (kept_or_not row.item _ _ y.0 x.1.2.values)
  same_index_rows block (row ∷ rows) a b (inr x) (inr y) =
      x.1.1 ∙ ap₂ (λ (first : Record) (others : List Record). first ∷ others) (same_record block row x.0 y.0 x.1.2 y.1.2)
      (same_index_rows block rows x.1.0 y.1.0 x.1.3 y.1.3) ∙ sym y.1.1

module _ (table : Table) (spec : IndexSpec) (heap : List ℕ) where
  same_block_rows : (block : ℕ) (a b : List Record) → AreBlockRows table spec heap block a
      → AreBlockRows table spec heap block b → a ≡ b
  same_block_rows block a b x y =
      let same : y.0 ≡ x.0 = same_rows (block_at block heap) y.0 x.0 y.1 x.1 in
      same_index_rows table spec (block_at block heap) block x.0 a b x.2
      (subst (λ rows. AreIndexRows table spec (block_at block heap) block rows b) same y.2)

  pub same_rows_of_blocks : (blocks : List ℕ) (a b : List Record) → AreRowsOfBlocks table spec heap blocks a
      → AreRowsOfBlocks table spec heap blocks b → a ≡ b
  same_rows_of_blocks [] a b x y = x ∙ sym y
  same_rows_of_blocks (block ∷ blocks) a b x y =
      x.1.1 ∙ ap₂ (λ (here others : List Record). here ++ others) (same_block_rows block x.0 y.0 x.1.2 y.1.2)
      (same_rows_of_blocks blocks x.1.0 y.1.0 x.1.3 y.1.3) ∙ sym y.1.1

pub same_heap_rows : HeapRowsAreDetermined
same_heap_rows table spec heap a b x y = same_rows_of_blocks table spec heap _ a b x y
