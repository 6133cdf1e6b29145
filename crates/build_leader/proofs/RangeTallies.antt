-- A row goes into the last of a worker's ranges.
use Rattle.std.proofs.Common.{◌≡◌, ℕ, ◌-◌, ◌<◌, ◌≤◌, Bool, true, false, Result, Ok, Err, List, [], ◌∷◌, ◌++◌, length, get_or, set, Some, slice_get, refl, sym, ap, ap₂, subst, ◌∙◌, arith}
use Rattle.std.specs.Prelude.{OnErr, OnOk, nat_eq}
use Rattle.std.proofs.lemmas.Bool.{eq-eqb, eqb-true}
use Rattle.std.proofs.lemmas.List.{append-nil}
use Rattle.std.proofs.lemmas.List.Elements.{All-pop, All-push, All-set}
use Rattle.std.proofs.lemmas.Option.{get_or_from_slice_get, slice_get_within}
use Rattle.opclass.specs.declared.spec.IndexSpec.{IndexSpec}
use Rattle.opclass.specs.declared.value.KeyVal.{KeyVal}
use Rattle.brin_summary.specs.Summary.{RangeSummary, joined, summary_of}
use Rattle.brin_summary.proofs.Joining.{joined_assoc}
use Rattle.shared_tape.specs.declared.stored.Record.{Record}
use Rattle.brin_summary.specs.declared.ranges.SummedRange.{SummedRange}
use Rattle.build_leader.specs.Ranges.{HoldRanges, range_of, range_summary, told_of, values_in}
use Rattle.build_leader.specs.Tally.{AreOfColumns, TakesIn, begun_range, ends_with}
use Rattle.build_leader.proofs.Holding.{held_is_summary, range_summary-append, values_in-append}
use Rattle.build_leader.proofs.Lists.{get_last, has_last, set_last}
use Rattle.build_leader.proofs.RangeSummaries.{joined_has_columns, summary_has_columns, told_begun, told_other, told_own}

abbrev HasColumns : ℕ → SummedRange → Type 0
HasColumns columns summed = length summed.summary.columns ≡ columns

-- ---- the last range

pub ends_behind : (range : ℕ) (front : List SummedRange) (last : SummedRange)
    → ends_with range (front ++ last ∷ []) ≡ nat_eq last.range range
ends_behind range [] last = refl
ends_behind range (first ∷ []) last = refl
ends_behind range (first ∷ second ∷ front) last = ends_behind range (second ∷ front) last

pub ends_some : (range : ℕ) (ranges : List SummedRange) → ends_with range ranges ≡ true → 1 ≤ length ranges
ends_some range [] ends = cc
ends_some range (first ∷ others) ends = omega arith

-- a range that has begun is the last one
pub ends_begun : (columns range : ℕ) (ranges : List SummedRange)
    → ends_with range (ranges ++ begun_range columns range ∷ []) ≡ true
ends_begun columns range ranges = ends_behind range ranges (begun_range columns range) ∙ eq-eqb range range refl

-- ---- a range without rows

pub begun_columns : (columns range : ℕ) (ranges : List SummedRange) → AreOfColumns columns ranges
    → AreOfColumns columns (ranges ++ begun_range columns range ∷ [])
begun_columns columns range ranges all =
    All-push (HasColumns columns) ranges (begun_range columns range) all (summary_has_columns columns [])

pub hold_begun : (spec : IndexSpec) (rows : List Record) (ranges : List SummedRange) (columns range : ℕ)
    → length spec.keys ≡ columns → HoldRanges spec rows ranges
    → HoldRanges spec rows (ranges ++ begun_range columns range ∷ [])
hold_begun spec rows ranges columns range same held =
    subst (λ (count : ℕ). HoldRanges spec rows (ranges ++ begun_range count range ∷ [])) same (record {
      columns = begun_columns (length spec.keys) range ranges held.columns;
      told = λ other.
          told_begun (length spec.keys) other range ranges (values_in spec.pages_per_range other rows)
          (held_is_summary spec rows ranges held other)
          ∙ held.told other;
    })

-- ---- a range in the place of another

-- a summary that took a row in has as many columns as before, and so has one that didn't
pub added_columns : {T E : Type 0} (keys : List KeyVal) (old new : RangeSummary) (result : Result T E)
    → OnOk result (new ≡ joined old (summary_of (length keys) (keys ∷ []))) → OnErr result (new ≡ old)
    → length old.columns ≡ length keys → length new.columns ≡ length keys
added_columns keys old new (Ok x) ok err is =
    ap (λ (s : RangeSummary). length s.columns) ok
    ∙ joined_has_columns (length keys) old (summary_of (length keys) (keys ∷ [])) is
    (summary_has_columns (length keys) (keys ∷ []))
added_columns keys old new (Err e) ok err is = ap (λ (s : RangeSummary). length s.columns) err ∙ is

pub set_alike : (columns : ℕ) (ranges : List SummedRange) (place : ℕ) (last : SummedRange) (summary : RangeSummary)
    → place < length ranges → last ≡ get_or ranges place last → AreOfColumns columns ranges
    → (length last.summary.columns ≡ columns → length summary.columns ≡ columns)
    → AreOfColumns columns (set ranges place (record { range = last.range; summary = summary }))
set_alike columns ranges place last summary inside is all same =
    All-set (HasColumns columns) ranges place (record { range = last.range; summary = summary })
    (same (ap (λ (one : SummedRange). length one.summary.columns) is ∙ all place last inside)) all

-- ---- the last range takes a row in

-- a range that is the last one
pub ends_at : (range : ℕ) (ranges : List SummedRange) (last : SummedRange) → Some last ≡ slice_get ranges (length ranges - 1)
    → nat_eq last.range range ≡ ends_with range ranges
ends_at range ranges last at =
    let inside = slice_get_within ranges (length ranges - 1) last (sym at) in
    let some : 1 ≤ length ranges = omega arith in
    let parts = has_last ranges some in
    let same : parts.last ≡ last =
    sym (get_last parts.front parts.last last)
    ∙ ap (λ (items : List SummedRange). get_or items (length items - 1) last) (sym parts.are)
    ∙ get_or_from_slice_get ranges (length ranges - 1) last last (sym at) in
    ap (λ (one : SummedRange). nat_eq one.range range) (sym same)
    ∙ sym (ends_behind range parts.front parts.last)
    ∙ ap (ends_with range) (sym parts.are)

pub takes_in : (keys : List KeyVal) (ranges : List SummedRange) (last : SummedRange) (summary : RangeSummary)
    → 1 ≤ length ranges → last ≡ get_or ranges (length ranges - 1) last
    → summary ≡ joined last.summary (summary_of (length keys) (keys ∷ []))
    → TakesIn keys ranges (set ranges (length ranges - 1) (record { range = last.range; summary = summary }))
takes_in keys ranges last summary some is taken =
    let parts = has_last ranges some in
    let same : last ≡ parts.last =
    is ∙ ap (λ (items : List SummedRange). get_or items (length items - 1) last) parts.are ∙ get_last parts.front parts.last last in
    record {
      front = parts.front;
      last = last;
      old_are = parts.are ∙ ap (λ (one : SummedRange). parts.front ++ one ∷ []) (sym same);
      new_are =
          ap (λ (items : List SummedRange). set items (length items - 1) (record { range = last.range; summary = summary })) parts.are
          ∙ set_last parts.front parts.last (record { range = last.range; summary = summary })
          ∙ ap (λ (s : RangeSummary). parts.front ++ record { range = last.range; summary = s } ∷ []) taken;
    }

module _ (spec : IndexSpec) (rows : List Record) (row : Record) where
  -- a row of another range changes nothing
  summary_same : (range : ℕ) → nat_eq (range_of spec.pages_per_range row) range ≡ false
      → range_summary spec (rows ++ row ∷ []) range ≡ range_summary spec rows range
  unfolding range_summary
  summary_same range other =
      let none : values_in spec.pages_per_range range (row ∷ []) ≡ [] = rw other refl in
      ap (summary_of (length spec.keys))
      (values_in-append spec.pages_per_range range rows (row ∷ [])
      ∙ ap (λ (more : List (List KeyVal)). values_in spec.pages_per_range range rows ++ more) none
      ∙ append-nil (values_in spec.pages_per_range range rows))

  summary_only : (range : ℕ) → nat_eq (range_of spec.pages_per_range row) range ≡ true
      → range_summary spec (row ∷ []) range ≡ summary_of (length spec.keys) (row.keys ∷ [])
  unfolding range_summary
  summary_only range own = rw own refl

  -- a row of the range is joined
  summary_more : (range : ℕ) → nat_eq (range_of spec.pages_per_range row) range ≡ true
      → range_summary spec (rows ++ row ∷ []) range
      ≡ joined (range_summary spec rows range) (summary_of (length spec.keys) (row.keys ∷ []))
  summary_more range own =
      range_summary-append spec rows (row ∷ []) range
      ∙ ap (joined (range_summary spec rows range)) (summary_only range own)

  module _ (ranges new : List SummedRange) (held : HoldRanges spec rows ranges) (keys : length row.keys ≡ length spec.keys) (ends : ends_with (range_of spec.pages_per_range row) ranges ≡ true) (taken : TakesIn row.keys ranges new) where
    abbrev One : RangeSummary
    One = summary_of (length row.keys) (row.keys ∷ [])

    abbrev Grown : SummedRange
    Grown = record { range = taken.last.range; summary = joined taken.last.summary One }

    its_range : taken.last.range ≡ range_of spec.pages_per_range row
    its_range =
        eqb-true taken.last.range (range_of spec.pages_per_range row)
        (sym (ends_behind (range_of spec.pages_per_range row) taken.front taken.last)
        ∙ ap (ends_with (range_of spec.pages_per_range row)) (sym taken.old_are) ∙ ends)

    its_columns : AreOfColumns (length spec.keys) taken.front × HasColumns (length spec.keys) taken.last
    its_columns = All-pop (HasColumns (length spec.keys)) ranges taken.front (Some taken.last) taken.old_are held.columns

    columns_are : AreOfColumns (length spec.keys) new
    columns_are =
        subst (AreOfColumns (length spec.keys)) (sym taken.new_are)
        (All-push (HasColumns (length spec.keys)) taken.front Grown its_columns.0
        (joined_has_columns (length spec.keys) taken.last.summary One its_columns.1
        (summary_has_columns (length row.keys) (row.keys ∷ []) ∙ keys)))

    of_test : (range : ℕ) (own : Bool) → nat_eq taken.last.range range ≡ own
        → told_of (length spec.keys) range new ≡ range_summary spec (rows ++ row ∷ []) range
    of_test range true own =
        let count = length spec.keys in
        let mine : nat_eq (range_of spec.pages_per_range row) range ≡ true = ap (λ (n : ℕ). nat_eq n range) (sym its_range) ∙ own in
        ap (told_of count range) taken.new_are
        ∙ told_own count range taken.front Grown own
        ∙ sym (joined_assoc (told_of count range taken.front) taken.last.summary One)
        ∙ ap (λ (told : RangeSummary). joined told One) (sym (told_own count range taken.front taken.last own))
        ∙ ap₂ joined (ap (told_of count range) (sym taken.old_are) ∙ held.told range) (ap (λ (n : ℕ). summary_of n (row.keys ∷ [])) keys)
        ∙ sym (summary_more range mine)
    of_test range false other =
        let count = length spec.keys in
        let another : nat_eq (range_of spec.pages_per_range row) range ≡ false = ap (λ (n : ℕ). nat_eq n range) (sym its_range) ∙ other in
        ap (told_of count range) taken.new_are
        ∙ told_other count range taken.front Grown other
        ∙ sym (told_other count range taken.front taken.last other)
        ∙ ap (told_of count range) (sym taken.old_are)
        ∙ held.told range
        ∙ sym (summary_same range another)

    pub hold_more : HoldRanges spec (rows ++ row ∷ []) new
    hold_more = record {
      columns = columns_are;
      told = λ range. of_test range (nat_eq taken.last.range range) refl;
    }
