use Rattle.std.proofs.Common.{◌≡◌, ◌≤◌, ◌-◌, ◌*◌, ◌/◌, ◌^◌, ℕ, Bool, true, false, not, map, List, length, take, drop, refl, sym, subst, ap, ◌∙◌, arith, length-drop}
use Rattle.std.proofs.lemmas.List.{take_all}
use Rattle.std.proofs.lemmas.Slice.Zip.{AllZip-long}
use Rattle.pg_bytes.specs.Numbers.{rounded_up}
use Rattle.pg_bytes.specs.Places.{zeros}
use Rattle.opclass.specs.Values.{IsValueOf}
use Rattle.opclass.specs.declared.types.ColType.{ColType}
use Rattle.opclass.specs.declared.value.KeyVal.{KeyVal}
use Rattle.tuple_data.specs.Data.{data_of}
use Rattle.tuple_data.specs.Reading.{BeginsWithData}
use Rattle.brin_summary.proofs.Headers.{determined}
use Rattle.brin_summary.proofs.OneRange.{bounds-stored, means, padded-is, read-is, same-range}
use Rattle.brin_summary.proofs.RangeTuples.{length-bound_kinds}
use Rattle.brin_summary.specs.Pass.{columns_from, flags_of, present_of, seen_header}
use Rattle.brin_summary.specs.Reading.{IsRangeTuple, column_read, range_read}
use Rattle.brin_summary.specs.Summary.{RangeSummary}
use Rattle.brin_summary.specs.Tuple.{bound_kinds, bounds_of, place_behind}
use Rattle.brin_summary.proofs.reading.read_behind.Goals as goal
use Rattle.brin_summary.proofs.reading.read_behind.Goals.{else-not-head-via-then-not-head+else-present-ne0, else-not-head-via-else-not-head}

pub returns-then-present-ne0-clause-none : goal.returns-then-present-ne0-clause-none
returns-then-present-ne0-clause-none c = λ none first range is.
    let m = means c.args.kinds.now c.args.head.now c.args.bytes.now first range c.requires.columns c.requires.header is in
    c.if-present-ne0.true (c.present-present.ensures ∙ m.none c.if-not-head.true)

pub slice_bounds-behind-count : goal.slice_bounds-behind-count
slice_bounds-behind-count c =
    let only = determined (length c.args.kinds.now) (seen_header (length c.args.kinds.now) c.args.head.now) c.args.bytes.now c.requires.columns c.requires.header in
    let within = only.within in
    let place = c.data_place.ensures.value in
    omega arith

pub slice_bounds-behind-start : goal.slice_bounds-behind-start
slice_bounds-behind-start c =
    let only = determined (length c.args.kinds.now) (seen_header (length c.args.kinds.now) c.args.head.now) c.args.bytes.now c.requires.columns c.requires.header in
    let within = only.within in
    let place = c.data_place.ensures.value in
    omega arith

pub returns-in_default-clause-none : goal.returns-in_default-clause-none
returns-in_default-clause-none c = λ none first range is.
    let m = means c.args.kinds.now c.args.head.now c.args.bytes.now first range c.requires.columns c.requires.header is in
    let bytes : List ℕ = c.args.bytes.now in
    let rest : take (length bytes - c.data_place.result) (drop c.data_place.result bytes) ≡ drop (place_behind (flags_of (2 * length c.args.kinds.now) c.args.head.now.bits)) bytes =
    take_all (length bytes - c.data_place.result) (drop c.data_place.result bytes) (omega (arith, length-drop c.data_place.result bytes))
    ∙ ap (λ (n : ℕ). drop n bytes) c.data_place.ensures.value in
    let kinds_are : c.twice-2.result.now ≡ bound_kinds c.args.kinds.now = c.twice-2.ensures ∙ ap bound_kinds c.in_ok-twice.ensures in
    let there : BeginsWithData c.twice-2.result.now c.present-present.result (take (length bytes - c.data_place.result) (drop c.data_place.result bytes)) (bounds_of range.columns) =
    rw (kinds_are, c.present-present.ensures, rest) m.begins in
    (rw c.in_default.is at c.in_ok-bounds.ensures.none) refl (bounds_of range.columns) there

pub returns-then-not-is_padded-clause-none : goal.returns-then-not-is_padded-clause-none
returns-then-not-is_padded-clause-none c = λ none first range is.
    let m = means c.args.kinds.now c.args.head.now c.args.bytes.now first range c.requires.columns c.requires.header is in
    let bytes : List ℕ = c.args.bytes.now in
    let rest : take (length bytes - c.data_place.result) (drop c.data_place.result bytes) ≡ drop (place_behind (flags_of (2 * length c.args.kinds.now) c.args.head.now.bits)) bytes =
    take_all (length bytes - c.data_place.result) (drop c.data_place.result bytes) (omega (arith, length-drop c.data_place.result bytes))
    ∙ ap (λ (n : ℕ). drop n bytes) c.data_place.ensures.value in
    let kinds_are : c.twice-2.result.now ≡ bound_kinds c.args.kinds.now = c.twice-2.ensures ∙ ap bound_kinds c.in_ok-twice.ensures in
    let was : BeginsWithData c.twice-2.result.now c.present-present.result (take (length bytes - c.data_place.result) (drop c.data_place.result bytes)) c.in-Some.bounds.items =
    rw c.in-Some.is at c.in_ok-bounds.ensures.some in
    let has : BeginsWithData (bound_kinds c.args.kinds.now) (present_of (flags_of (length c.args.kinds.now) c.args.head.now.bits))
    (drop (place_behind (flags_of (2 * length c.args.kinds.now) c.args.head.now.bits)) bytes) c.in-Some.bounds.items =
    rw (← kinds_are, ← c.present-present.ensures, ← rest) was in
    let size : c.data_size.result ≡ length (data_of (bound_kinds c.args.kinds.now) c.in-Some.bounds.items) =
    c.data_size.ensures ∙ ap (λ (ks : List ColType). length (data_of ks c.deref.result.now)) (c.twice-3.ensures ∙ ap bound_kinds c.in_ok-twice.ensures)
    ∙ ap (λ (vs : List KeyVal). length (data_of (bound_kinds c.args.kinds.now) vs)) c.deref.ensures.value in
    let padded : drop c.data_size.result (take (length bytes - c.data_place.result) (drop c.data_place.result bytes))
    ≡ zeros (rounded_up 8 c.data_size.result - c.data_size.result) =
    rw (size, rest) (padded-is c.args.kinds.now c.args.head.now bytes first range c.in-Some.bounds.items (bounds-stored c.args.kinds.now c.requires.kinds) c.requires.size m has) in
    let yes = c.is_padded.ensures.1 padded in
    cc

pub columns_with-requires-clause-bounds : goal.columns_with-requires-clause-bounds
columns_with-requires-clause-bounds c =
    let bytes : List ℕ = c.args.bytes.now in
    let rest : take (length bytes - c.data_place.result) (drop c.data_place.result bytes) ≡ drop (place_behind (flags_of (2 * length c.args.kinds.now) c.args.head.now.bits)) bytes =
    take_all (length bytes - c.data_place.result) (drop c.data_place.result bytes) (omega (arith, length-drop c.data_place.result bytes))
    ∙ ap (λ (n : ℕ). drop n bytes) c.data_place.ensures.value in
    let kinds_are : c.twice-2.result.now ≡ bound_kinds c.args.kinds.now = c.twice-2.ensures ∙ ap bound_kinds c.in_ok-twice.ensures in
    let was : BeginsWithData c.twice-2.result.now c.present-present.result (take (length bytes - c.data_place.result) (drop c.data_place.result bytes)) c.in-Some.bounds.items =
    rw c.in-Some.is at c.in_ok-bounds.ensures.some in
    let has : BeginsWithData (bound_kinds c.args.kinds.now) (present_of (flags_of (length c.args.kinds.now) c.args.head.now.bits))
    (drop (place_behind (flags_of (2 * length c.args.kinds.now) c.args.head.now.bits)) bytes) c.in-Some.bounds.items =
    rw (← kinds_are, ← c.present-present.ensures, ← rest) was in
    let long = AllZip-long IsValueOf (bound_kinds c.args.kinds.now) c.in-Some.bounds.items has.typed in
    let twice = length-bound_kinds c.args.kinds.now in
    omega arith

not-not : (b : Bool) → b ≡ not (not b)
not-not true = refl
not-not false = refl

pub returns-clause-some : goal.returns-clause-some
returns-clause-some c =
    let bytes : List ℕ = c.args.bytes.now in
    let rest : take (length bytes - c.data_place.result) (drop c.data_place.result bytes) ≡ drop (place_behind (flags_of (2 * length c.args.kinds.now) c.args.head.now.bits)) bytes =
    take_all (length bytes - c.data_place.result) (drop c.data_place.result bytes) (omega (arith, length-drop c.data_place.result bytes))
    ∙ ap (λ (n : ℕ). drop n bytes) c.data_place.ensures.value in
    let kinds_are : c.twice-2.result.now ≡ bound_kinds c.args.kinds.now = c.twice-2.ensures ∙ ap bound_kinds c.in_ok-twice.ensures in
    let was : BeginsWithData c.twice-2.result.now c.present-present.result (take (length bytes - c.data_place.result) (drop c.data_place.result bytes)) c.in-Some.bounds.items =
    rw c.in-Some.is at c.in_ok-bounds.ensures.some in
    let has : BeginsWithData (bound_kinds c.args.kinds.now) (present_of (flags_of (length c.args.kinds.now) c.args.head.now.bits))
    (drop (place_behind (flags_of (2 * length c.args.kinds.now) c.args.head.now.bits)) bytes) c.in-Some.bounds.items =
    rw (← kinds_are, ← c.present-present.ensures, ← rest) was in
    let size : c.data_size.result ≡ length (data_of (bound_kinds c.args.kinds.now) c.in-Some.bounds.items) =
    c.data_size.ensures ∙ ap (λ (ks : List ColType). length (data_of ks c.deref.result.now)) (c.twice-3.ensures ∙ ap bound_kinds c.in_ok-twice.ensures)
    ∙ ap (λ (vs : List KeyVal). length (data_of (bound_kinds c.args.kinds.now) vs)) c.deref.ensures.value in
    let yes = c.if-not-is_padded.false in
    let padded = c.is_padded.ensures.0 yes in
    let behind : drop (length (data_of (bound_kinds c.args.kinds.now) c.in-Some.bounds.items)) (drop (place_behind (flags_of (2 * length c.args.kinds.now) c.args.head.now.bits)) bytes)
    ≡ zeros (rounded_up 8 (length (data_of (bound_kinds c.args.kinds.now) c.in-Some.bounds.items)) - length (data_of (bound_kinds c.args.kinds.now) c.in-Some.bounds.items)) =
    rw (← size, ← rest) padded in
    let empty : c.args.head.now.has_rows ≡ false → present_of (flags_of (length c.args.kinds.now) c.args.head.now.bits) ≡ 0 =
    λ none. elim c.else-not-head.branch [
      | else-not-head-via-then-not-head+else-present-ne0 w ↦ (let e = w.if-present-ne0.false in sym c.present-present.ensures ∙ omega arith)
      | else-not-head-via-else-not-head w ↦ (let e = w.if-not-head.false in absurd (cc))
    ] in
    let columns : columns_from c.in-Some.bounds.items (flags_of (length c.args.kinds.now) (c.args.head.now.bits / 2 ^ length c.args.kinds.now)) ≡ map column_read c.in_ok-columns_with.field-0 =
    ap (λ (n : ℕ). columns_from c.in-Some.bounds.items (flags_of (length c.args.kinds.now) n)) (sym c.has_nulls.ensures) ∙ sym c.in_ok-columns_with.ensures.value in
    record {
      image = subst (λ (range : RangeSummary). IsRangeTuple c.args.kinds.now c.args.head.now.first range bytes)
          (same-range _ (range_read (record { first = c.args.head.now.first; empty = not c.args.head.now.has_rows; columns = c.in_ok-columns_with.field-0 })) (not-not c.args.head.now.has_rows) columns)
          (read-is c.args.kinds.now c.args.head.now bytes c.in-Some.bounds.items c.requires.header c.requires.size empty has behind);
      called = c.in_ok-columns_with.ensures.called;
    }

pub read_bounds-requires-clause-kinds : goal.read_bounds-requires-clause-kinds
read_bounds-requires-clause-kinds c =
    let kinds_are : c.twice-2.result.now ≡ bound_kinds c.args.kinds.now = c.twice-2.ensures ∙ ap bound_kinds c.in_ok-twice.ensures in
    rw kinds_are (bounds-stored c.args.kinds.now c.requires.kinds)
