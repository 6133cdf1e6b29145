-- The walk over a tuple's columns.
use Rattle.std.proofs.Common.{◌≡◌, ℕ, zero, suc, ◌+◌, ◌-◌, ◌<◌, ◌≤◌, List, length, get_or, Option, Some, Ok, Err, refl, sym, ap, ◌∙◌, arith, add-one}
use Rattle.std.proofs.lemmas.Option.{slice_get_read}
use Rattle.opclass.specs.declared.table.Column.{Column}
use Rattle.heap_row.specs.declared.attribute.Attribute.{Attribute}
use Rattle.heap_row.specs.declared.fault.RowCause.{RowCause}
use Rattle.heap_row.specs.Attribute.{attribute_behind, end_behind, end_of}
use Rattle.heap_row.specs.Tuple.{HeapTuple}

-- a column more
pub walks_on : (tuple : HeapTuple) (columns : List Column) (before place : ℕ) (column : Column) (attribute : Option Attribute)
    → end_of tuple columns before ≡ Ok place → before < length columns → column ≡ get_or columns before column
    → Ok attribute ≡ attribute_behind tuple (Some column) before place
    → end_of tuple columns (before + 1) ≡ Ok (end_behind place attribute)
walks_on tuple columns before place column attribute stands inside is found =
    let at = slice_get_read columns (length columns) before column refl inside is in
    rw (add-one, stands, at, ← found) refl

-- a column that can't be walked
stops : (tuple : HeapTuple) (columns : List Column) (before place : ℕ) (column : Column) (cause : RowCause)
    → end_of tuple columns before ≡ Ok place → before < length columns → column ≡ get_or columns before column
    → Err cause ≡ attribute_behind tuple (Some column) before place → end_of tuple columns (before + 1) ≡ Err cause
stops tuple columns before place column cause stands inside is fails =
    let at = slice_get_read columns (length columns) before column refl inside is in
    rw (add-one, stands, at, ← fails) refl

cause_stays : (tuple : HeapTuple) (columns : List Column) (before more : ℕ) (cause : RowCause)
    → end_of tuple columns before ≡ Err cause → end_of tuple columns (more + before) ≡ Err cause
cause_stays tuple columns before zero cause ends = let e : zero + before ≡ before = omega arith in rw e ends
cause_stays tuple columns before (suc more) cause ends =
    let e : suc more + before ≡ suc (more + before) = omega arith in
    let earlier = cause_stays tuple columns before more cause ends in
    rw (e, earlier) refl

-- it stops the walk to every column behind it
pub never_arrives : (tuple : HeapTuple) (columns : List Column) (before target place : ℕ) (column : Column) (cause : RowCause)
    → end_of tuple columns before ≡ Ok place → before < target → target ≤ length columns → column ≡ get_or columns before column
    → Err cause ≡ attribute_behind tuple (Some column) before place → Err cause ≡ end_of tuple columns target
never_arrives tuple columns before target place column cause stands behind inside is fails =
    let stop = stops tuple columns before place column cause stands (omega arith) is fails in
    let e : target - (before + 1) + (before + 1) ≡ target = omega arith in
    sym (cause_stays tuple columns (before + 1) (target - (before + 1)) cause stop) ∙ ap (λ (n : ℕ). end_of tuple columns n) e
