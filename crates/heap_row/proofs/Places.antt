-- Stored values lie inside the bytes that they are read from, and attributes stand one behind the other.
use Rattle.std.proofs.Common.{◌≡◌, ℕ, zero, suc, ◌+◌, ◌-◌, ◌*◌, ◌/◌, ◌%◌, ◌<◌, ◌≤◌, ◌==◌, ◌||◌, nat_lt, nat_le, false, if◌then◌else◌, List, [], ◌∷◌, length, drop, slice_index, slice_get, Option, Some, None, Result, Ok, Err, refl, sym, ap, subst, inl, inr, ◌∙◌, arith, length-drop}
use Rattle.std.proofs.Math.Nat.{mul_comm}
use Rattle.std.proofs.lemmas.Bool.Decides.{nat_tests}
use Rattle.pg_bytes.specs.Numbers.{rounded_up, number_at}
use Rattle.opclass.specs.declared.table.Column.{Column}
use Rattle.opclass.specs.declared.types.ColType.{ColType}
use Rattle.opclass.specs.declared.types.Form.{Form}
use Rattle.opclass.specs.declared.types.Width.{Width}
use Rattle.opclass.specs.declared.types.Width.TheVariants.{Fixed, Variable}
use Rattle.opclass.specs.Types.{facts_of}
use Rattle.heap_row.specs.declared.attribute.Attribute.{Attribute}
use Rattle.heap_row.specs.declared.fault.RowCause.{RowCause}
use Rattle.heap_row.specs.declared.fault.RowCause.TheVariants.{PastEnd, External as BadExternal}
use Rattle.heap_row.specs.declared.varlena.Storage.TheVariants.{Plain, Compressed, External}
use Rattle.heap_row.specs.declared.varlena.Stored.{Stored}
use Rattle.heap_row.specs.Attribute.{attribute_at, attribute_behind, attribute_of, end_behind, end_of, start_at}
use Rattle.heap_row.specs.Fault.{◌>>=◌}
use Rattle.heap_row.specs.Tuple.{HeapTuple, is_null}
use Rattle.heap_row.specs.Varlena.{within, external_at, long_at, short_at, varlena_at, stored_at}
use Rattle.heap_row.proofs.Facts.{IsFit, widths_fit, fit_positive, alignments_fit}
use Rattle.heap_row.proofs.Readings.{bind_ok, chosen}

-- a stored value has its header, ends inside, and has a byte
pub record IsInside (bytes : List ℕ) (stored : Stored) : Type 0 where
  pub header : stored.header ≤ stored.total
  pub inside : stored.total ≤ length bytes

both_false : (a b : ℕ) (c d : ℕ) → (nat_lt a b || nat_lt c d) ≡ false → (b ≤ a) × (d ≤ c)
both_false a b c d e = grind (arith, nat_tests)

pub within_sound : (bytes : List ℕ) (asked stored : Stored) → within bytes asked ≡ Ok stored → (asked ≡ stored) × IsInside bytes stored
within_sound bytes asked stored read =
    elim (chosen (nat_lt asked.total asked.header || nat_lt (length bytes) asked.total) (Err PastEnd) (Ok asked) (Ok stored) read) [
      | inl (test, is) ↦ cc
      | inr (test, is) ↦
          let same : asked ≡ stored = cc in
          let bounds = both_false asked.total asked.header (length bytes) asked.total test in
          (same, subst (λ (s : Stored). IsInside bytes s) same (record { header = bounds.0; inside = bounds.1 }))
    ]

external_sound : (bytes : List ℕ) (stored : Stored) → external_at bytes ≡ Ok stored → IsInside bytes stored × (0 < stored.header)
external_sound [] stored read = cc
external_sound (first ∷ []) stored read = cc
external_sound (first ∷ tag ∷ bytes) stored read =
    let asked : Stored = record { storage = External; header = 2; total = 18 } in
    elim (chosen (tag == 18) (within (first ∷ tag ∷ bytes) asked) (Err BadExternal) (Ok stored) read) [
      | inl (test, is) ↦
          let sound = within_sound (first ∷ tag ∷ bytes) asked stored is in
          let header : 2 ≡ stored.header = ap (λ (s : Stored). s.header) sound.0 in
          (sound.1, omega arith)
      | inr (test, is) ↦ cc
    ]

long_sound : (bytes : List ℕ) (stored : Stored) → long_at bytes ≡ Ok stored → IsInside bytes stored × (0 < stored.header)
long_sound bytes stored read =
    let asked : Stored = record { storage = if number_at 4 bytes 0 % 4 == 0 then Plain else Compressed; header = 4; total = number_at 4 bytes 0 / 4 } in
    elim (chosen (nat_lt (length bytes) 4) (Err PastEnd) (within bytes asked) (Ok stored) read) [
      | inl (test, is) ↦ cc
      | inr (test, is) ↦
          let sound = within_sound bytes asked stored is in
          let header : 4 ≡ stored.header = ap (λ (s : Stored). s.header) sound.0 in
          (sound.1, omega arith)
    ]

short_sound : (first : ℕ) (bytes : List ℕ) (stored : Stored) → short_at first bytes ≡ Ok stored → IsInside bytes stored × (0 < stored.header)
short_sound first bytes stored read =
    let asked : Stored = record { storage = Plain; header = 1; total = first / 2 } in
    let sound = within_sound bytes asked stored read in
    let header : 1 ≡ stored.header = ap (λ (s : Stored). s.header) sound.0 in
    (sound.1, omega arith)

pub varlena_sound : (bytes : List ℕ) (stored : Stored) → varlena_at bytes ≡ Ok stored → IsInside bytes stored × (0 < stored.header)
varlena_sound [] stored read = cc
varlena_sound (first ∷ bytes) stored read =
    let all : List ℕ = first ∷ bytes in
    elim (chosen (first == 1) (external_at all) (if first % 2 == 1 then short_at first all else long_at all) (Ok stored) read) [
      | inl (test, is) ↦ external_sound all stored is
      | inr (test, is) ↦ elim (chosen (first % 2 == 1) (short_at first all) (long_at all) (Ok stored) is) [
        | inl (odd, short) ↦ short_sound first all stored short
        | inr (odd, long) ↦ long_sound all stored long
      ]
    ]

-- a stored value of a width that some form has
pub stored_sound : (form : Form) (width : Width) (bytes : List ℕ) (stored : Stored) → IsFit form width → stored_at width bytes ≡ Ok stored
    → IsInside bytes stored × (0 < stored.total)
stored_sound form (Fixed width) bytes stored fit read =
    let asked : Stored = record { storage = Plain; header = 0; total = width } in
    let sound = within_sound bytes asked stored read in
    let total : width ≡ stored.total = ap (λ (s : Stored). s.total) sound.0 in
    let positive : 0 < width = fit_positive form width fit in
    (sound.1, omega arith)
stored_sound form Variable bytes stored fit read =
    let sound = varlena_sound bytes stored read in
    let header : stored.header ≤ stored.total = sound.0.header in
    (sound.0, omega arith)

-- an attribute begins at its place or behind it
pub rounded_bounds : (unit place : ℕ) → 0 < unit → (place ≤ rounded_up unit place) × (rounded_up unit place ≤ place + (unit - 1))
rounded_bounds unit place some =
    let e : (place + (unit - 1)) / unit * unit ≡ unit * ((place + (unit - 1)) / unit) = mul_comm _ _ in
    (omega arith, omega arith)

start_above : (width : Width) (alignment : ℕ) (body : List ℕ) (place start : ℕ) → 0 < alignment → start_at width alignment body place ≡ Ok start → place ≤ start
start_above (Fixed width) alignment body place start some read = let is : rounded_up alignment place ≡ start = cc in subst (λ (s : ℕ). place ≤ s) is ((rounded_bounds alignment place some).0)
start_above Variable alignment body place start some read =
    elim (chosen (nat_le (length body) place) (Err PastEnd) (if slice_index body place == 0 then Ok (rounded_up alignment place) else Ok place) (Ok start) read) [
      | inl (test, is) ↦ cc
      | inr (test, is) ↦ elim (chosen (slice_index body place == 0) (Ok (rounded_up alignment place)) (Ok place) (Ok start) is) [
        | inl (zero_byte, here) ↦ let same : rounded_up alignment place ≡ start = cc in subst (λ (s : ℕ). place ≤ s) same ((rounded_bounds alignment place some).0)
        | inr (header, here) ↦ let same : place ≡ start = cc in omega arith
      ]
    ]

-- where an attribute stands
pub record IsPlaced (body : List ℕ) (place : ℕ) (attribute : Attribute) : Type 0 where
  pub start : place ≤ attribute.start
  pub end : attribute.start + attribute.stored.total ≤ length body

pub attribute_placed : (kind : ColType) (body : List ℕ) (place : ℕ) (attribute : Attribute) → attribute_at kind body place ≡ Ok attribute → IsPlaced body place attribute
attribute_placed kind body place attribute read =
    let facts = facts_of kind in
    let (start, starts, then_stored) = bind_ok (start_at facts.width facts.alignment body place) _ attribute read in
    let (stored, is_stored, is) = bind_ok (stored_at facts.width (drop start body)) _ attribute then_stored in
    let sound = stored_sound facts.form facts.width (drop start body) stored (widths_fit kind) is_stored in
    let above = start_above facts.width facts.alignment body place start (alignments_fit kind).0 starts in
    let inside : stored.total ≤ length (drop start body) = sound.0.inside in
    let same : record { start = start; stored = stored } ≡ attribute = cc in
    subst (λ (a : Attribute). IsPlaced body place a) same (record { start = above; end = omega (arith, length-drop start body) })

-- the attribute of a column, where it isn't null
pub behind_placed : (tuple : HeapTuple) (column : Option Column) (before place : ℕ) (attribute : Attribute)
    → attribute_behind tuple column before place ≡ Ok (Some attribute) → IsPlaced tuple.body place attribute
unfolding attribute_behind
behind_placed tuple None before place attribute read = cc
behind_placed tuple (Some column) before place attribute read =
    elim (chosen (is_null tuple before) (Ok None) (attribute_at column.kind tuple.body place >>= λ found. Ok (Some found)) (Ok (Some attribute)) read) [
      | inl (null, is) ↦ cc
      | inr (there, is) ↦
          let (found, reads, same) = bind_ok (attribute_at column.kind tuple.body place) (λ a. Ok (Some a)) (Some attribute) is in
          let one : found ≡ attribute = cc in
          subst (λ (a : Attribute). IsPlaced tuple.body place a) one (attribute_placed column.kind tuple.body place found reads)
    ]

-- data end where they began or behind it
end_above : (tuple : HeapTuple) (column : Option Column) (before place : ℕ) (attribute : Option Attribute)
    → attribute_behind tuple column before place ≡ Ok attribute → place ≤ end_behind place attribute
unfolding end_behind
end_above tuple column before place None read = omega arith
end_above tuple column before place (Some attribute) read =
    let placed = behind_placed tuple column before place attribute read in
    let start : place ≤ attribute.start = placed.start in omega arith

same_ok : (r : Result ℕ RowCause) (a b : ℕ) → r ≡ Ok a → r ≡ Ok b → a ≡ b
same_ok r a b one other = cc

-- where the data of more columns end
pub ends_grow : (tuple : HeapTuple) (columns : List Column) (before more first last : ℕ)
    → end_of tuple columns before ≡ Ok first → end_of tuple columns (more + before) ≡ Ok last → first ≤ last
ends_grow tuple columns before zero first last start end =
    let same : zero + before ≡ before = omega arith in
    let one : end_of tuple columns before ≡ Ok last = sym (ap (λ (n : ℕ). end_of tuple columns n) same) ∙ end in
    let e = same_ok (end_of tuple columns before) first last start one in
    omega arith
ends_grow tuple columns before (suc more) first last start end =
    let same : suc more + before ≡ suc (more + before) = omega arith in
    let end' : end_of tuple columns (suc (more + before)) ≡ Ok last = sym (ap (λ (n : ℕ). end_of tuple columns n) same) ∙ end in
    let (place, ends, then_end) = bind_ok (end_of tuple columns (more + before)) _ last end' in
    let (attribute, is, at) = bind_ok (attribute_behind tuple (slice_get columns (more + before)) (more + before) place) _ last then_end in
    let below : first ≤ place = ends_grow tuple columns before more first place start ends in
    let above = end_above tuple (slice_get columns (more + before)) (more + before) place attribute is in
    let same_end : end_behind place attribute ≡ last = cc in
    omega arith

-- an attribute ends before those of the columns behind it begin
pub earlier_ends_before : (tuple : HeapTuple) (columns : List Column) (a b : ℕ) (first second : Attribute) → a < b
    → attribute_of tuple columns a ≡ Ok (Some first) → attribute_of tuple columns b ≡ Ok (Some second)
    → first.start + first.stored.total ≤ second.start
unfolding end_behind
earlier_ends_before tuple columns a b first second below is_first is_second =
    let (place, ends, found) = bind_ok (end_of tuple columns a) (attribute_behind tuple (slice_get columns a) a) (Some first) is_first in
    let (place', ends', found') = bind_ok (end_of tuple columns b) (attribute_behind tuple (slice_get columns b) b) (Some second) is_second in
    let past : end_of tuple columns (suc a) ≡ Ok (first.start + first.stored.total) = rw (ends, found) refl in
    let same : b - suc a + suc a ≡ b = omega arith in
    let ends'' : end_of tuple columns (b - suc a + suc a) ≡ Ok place' = ap (λ (n : ℕ). end_of tuple columns n) same ∙ ends' in
    let grown = ends_grow tuple columns (suc a) (b - suc a) (first.start + first.stored.total) place' past ends'' in
    let start : place' ≤ second.start = (behind_placed tuple (slice_get columns b) b place' second found').start in
    omega arith
