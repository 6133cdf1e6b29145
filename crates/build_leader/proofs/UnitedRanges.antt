-- What is told of a range goes where what is known of it stands.
use Rattle.std.proofs.Common.{◌≡◌, ◌≢◌, ℕ, ◌+◌, ◌*◌, ◌<◌, ◌≤◌, Bool, true, false, List, [], ◌∷◌, ◌++◌, length, drop, get_or, set, take, refl, sym, ap, ap₂, subst, ◌∙◌, arith}
use Rattle.std.specs.Prelude.{All, nat_eq}
use Rattle.std.specs.List.{flat_map, range_with_len}
use Rattle.std.proofs.Math.Seq.{take-append_seam}
use Rattle.std.proofs.lemmas.Bool.{eq-eqb, eqb-true, ne_eqb}
use Rattle.std.proofs.lemmas.Grind.{flat_map-append}
use Rattle.std.proofs.lemmas.List.{append-nil, append_assoc, get_or-set_other, get_or-set_same, length-set}
use Rattle.std.proofs.lemmas.List.Elements.{All-head, All-map}
use Rattle.std.proofs.lemmas.List.FromFn.{fill_by_all, get_or-map-range_with_len, length-map-range_with_len, map-range_with_len_more}
use Rattle.opclass.specs.declared.spec.IndexSpec.{IndexSpec}
use Rattle.brin_summary.specs.Summary.{RangeSummary, joined, summary_of}
use Rattle.brin_summary.specs.declared.ranges.SummedRange.{SummedRange}
use Rattle.build_leader.specs.Ranges.{range_count, told_of, told_ranges}
use Rattle.build_leader.specs.Tally.{AreOfColumns}
use Rattle.build_leader.specs.Uniting.{AreTold, HaveColumns, told_each}
use Rattle.build_leader.proofs.Lists.{all_behind, all_front}
use Rattle.build_leader.proofs.RangeSummaries.{told_has_columns, told_other, told_own}

module _ (columns : ℕ) (ranges : List SummedRange) (known : List RangeSummary) (told : AreTold columns ranges known) (summed : SummedRange) where
  known_at : (k : ℕ) (d : RangeSummary) → k < length known → get_or known k d ≡ told_of columns k ranges
  known_at k d inside =
      let zero_more : 0 + k ≡ k = omega arith in
      ap (λ (items : List RangeSummary). get_or items k d) told
      ∙ get_or-map-range_with_len (λ range. told_of columns range ranges) 0 (length known) k k d inside zero_more

  -- one more, which is joined with what is known at its place
  pub told_united : (one d : RangeSummary) → summed.range < length known
      → one ≡ joined (get_or known summed.range d) summed.summary
      → AreTold columns (ranges ++ summed ∷ []) (set known summed.range one)
  told_united one d inside is =
      fill_by_all (λ range. told_of columns range (ranges ++ summed ∷ [])) (set known summed.range one)
      (length (set known summed.range one)) one refl (λ k at. of_test k at (nat_eq summed.range k) refl)
    where
      of_test : (k : ℕ) → k < length (set known summed.range one) → (own : Bool) → nat_eq summed.range k ≡ own
          → get_or (set known summed.range one) k one ≡ told_of columns k (ranges ++ summed ∷ [])
      of_test k at true own =
          let same : summed.range ≡ k = eqb-true summed.range k own in
          ap (λ (n : ℕ). get_or (set known summed.range one) n one) (sym same)
          ∙ get_or-set_same known summed.range one one inside
          ∙ is
          ∙ ap (λ (s : RangeSummary). joined s summed.summary) (known_at summed.range d inside ∙ ap (λ (n : ℕ). told_of columns n ranges) same)
          ∙ sym (told_own columns k ranges summed own)
      of_test k at false other =
          let within : k < length known = (let same = length-set known summed.range one in omega arith) in
          let apart : k ≢ summed.range = λ same. (let yes = eq-eqb summed.range k (sym same) in cc) in
          get_or-set_other known summed.range k one one apart
          ∙ known_at k one within
          ∙ sym (told_other columns k ranges summed other)

  -- one of a range beyond all
  pub told_beyond : length known ≤ summed.range → AreTold columns (ranges ++ summed ∷ []) known
  told_beyond beyond =
      fill_by_all (λ range. told_of columns range (ranges ++ summed ∷ [])) known (length known) (summary_of columns []) refl
      (λ k inside.
      known_at k (summary_of columns []) inside
      ∙ sym (told_other columns k ranges summed (ne_eqb summed.range k (λ same. omega arith))))

-- ---- ranges without rows

pub none_more : (columns count : ℕ) (known : List RangeSummary) → known ≡ told_each columns count []
    → known ++ summary_of columns [] ∷ [] ≡ told_each columns (count + 1) []
none_more columns count known are =
    let zero_more : 0 + count ≡ count = omega arith in
    ap (λ (front : List RangeSummary). front ++ summary_of columns [] ∷ []) are
    ∙ sym (map-range_with_len_more (λ range. told_of columns range []) 0 count count zero_more)

-- the part that comes next
pub part_columns : (columns : ℕ) (before : List (List SummedRange)) (part : List SummedRange) (behind : List (List SummedRange))
    → AreOfColumns columns (flat_map (λ part. part) (before ++ part ∷ behind)) → AreOfColumns columns part
part_columns columns before part behind all =
    let is : AreOfColumns columns (flat_map (λ part. part) before ++ (part ++ flat_map (λ part. part) behind)) =
    subst (AreOfColumns columns) (flat_map-append (λ part. part) before (part ∷ behind)) all in
    all_front (λ (summed : SummedRange). length summed.summary.columns ≡ columns) part (flat_map (λ part. part) behind)
    (all_behind (λ (summed : SummedRange). length summed.summary.columns ≡ columns) (flat_map (λ part. part) before)
    (part ++ flat_map (λ part. part) behind) is)

-- the ranges of one part more
pub flat_push : (before : List (List SummedRange)) (part : List SummedRange)
    → flat_map (λ part. part) (before ++ part ∷ []) ≡ flat_map (λ part. part) before ++ part
flat_push before part =
    flat_map-append (λ part. part) before (part ∷ [])
    ∙ ap (λ (ranges : List SummedRange). flat_map (λ part. part) before ++ ranges) (append-nil part)

pub next_columns : (columns : ℕ) (all before rest behind : List SummedRange) (one : SummedRange) → AreOfColumns columns all
    → all ≡ before ++ rest → rest ≡ one ∷ behind → length one.summary.columns ≡ columns
next_columns columns all before rest behind one every are is =
    All-head (λ (summed : SummedRange). length summed.summary.columns ≡ columns) one behind
    (all_behind (λ (summed : SummedRange). length summed.summary.columns ≡ columns) before (one ∷ behind)
    (subst (AreOfColumns columns) (are ∙ ap (λ (items : List SummedRange). before ++ items) is) every))

pub told_next : (columns : ℕ) (ranges before : List SummedRange) (one : SummedRange) (known : List RangeSummary)
    → AreTold columns ((ranges ++ before) ++ one ∷ []) known → AreTold columns (ranges ++ (before ++ one ∷ [])) known
told_next columns ranges before one known told =
    subst (λ (items : List SummedRange). AreTold columns items known) (append_assoc ranges before (one ∷ [])) told

-- what stands behind a slice of a whole list is nothing
pub whole : (size : ℕ) (items new : List RangeSummary) → size ≡ length items → length new ≡ length items
    → take size (new ++ drop (length new) items) ≡ new
whole size items new is same =
    ap (λ (n : ℕ). take n (new ++ drop (length new) items)) (is ∙ sym same) ∙ take-append_seam new (drop (length new) items)

-- what is told of each range has the columns
pub each_has_columns : (columns count : ℕ) (ranges : List SummedRange) → AreOfColumns columns ranges
    → HaveColumns columns (told_each columns count ranges)
each_has_columns columns count ranges all =
    All-map (λ (r : RangeSummary). length r.columns ≡ columns) (λ range. told_of columns range ranges) (range_with_len 0 count)
    (λ k d inside. told_has_columns columns (get_or (range_with_len 0 count) k d) ranges all)

-- ---- all ranges of a heap

all_blocks : (pages_per_range blocks : ℕ) → 1 ≤ pages_per_range
    → range_count pages_per_range blocks * pages_per_range ≤ blocks + pages_per_range
all_blocks pages_per_range blocks some = omega arith

module _ (spec : IndexSpec) (blocks columns count : ℕ) (ranges : List SummedRange) (known : List RangeSummary) (each : known ≡ told_each columns count ranges) where
  pub told_ranges_are : columns ≡ length spec.keys → count ≡ range_count spec.pages_per_range blocks
      → known ≡ told_ranges spec blocks ranges
  unfolding told_ranges
  told_ranges_are same all = each ∙ ap₂ (λ (n m : ℕ). told_each n m ranges) same all

  pub known_columns : AreOfColumns columns ranges → HaveColumns columns known
  known_columns alike = subst (HaveColumns columns) (sym each) (each_has_columns columns count ranges alike)

  -- what holds of each that is told holds of all
  pub known_are : (P : RangeSummary → Type 0) → ((range : ℕ) → P (told_of columns range ranges)) → All P known
  known_are P holds =
      subst (All P) (sym each)
      (All-map P (λ range. told_of columns range ranges) (range_with_len 0 count)
      (λ k d inside. holds (get_or (range_with_len 0 count) k d)))

  pub known_blocks : count ≡ range_count spec.pages_per_range blocks → 1 ≤ spec.pages_per_range
      → length known * spec.pages_per_range ≤ blocks + spec.pages_per_range
  known_blocks all some =
      let size : length known ≡ count = ap length each ∙ length-map-range_with_len (λ range. told_of columns range ranges) 0 count in
      let most = all_blocks spec.pages_per_range blocks some in
      let is : length known ≡ range_count spec.pages_per_range blocks = size ∙ all in
      subst (λ (n : ℕ). n * spec.pages_per_range ≤ blocks + spec.pages_per_range) (sym is) most
