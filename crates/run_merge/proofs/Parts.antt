-- The parts between cuts, put behind each other.
use Rattle.std.proofs.Common.{◌≡◌, ℕ, zero, suc, ◌+◌, ◌<◌, ◌≤◌, Bool, true, false, true≢false, not, ◌&&◌, cond, Some, List, [], ◌∷◌, ◌++◌, length, drop, refl, sym, ap, subst, ◌∙◌, arith, slice_index_or, slice_get, All, filter}
use Rattle.std.specs.Ordering.{is_lt}
use Rattle.std.specs.List.{flat_map}
use Rattle.std.specs.List.Sorted.{IsSorted, IsPermutation}
use Rattle.std.proofs.lemmas.Option.{get_or_from_slice_get, slice_get_past, slice_get-get_or}
use Rattle.std.proofs.lemmas.List.{drop_more, drop_all}
use Rattle.std.proofs.lemmas.List.Elements.{All-filter, filter_agree, filter_passes}
use Rattle.std.proofs.lemmas.List.Sorted.{IsPermutation-trans, IsPermutation-append, IsPermutation-filter_both, All-permutation}
use Rattle.opclass.specs.declared.spec.SortPart.{SortPart}
use Rattle.opclass.specs.Order.{bytes_cmp}
use Rattle.shared_tape.specs.declared.stored.Record.{Record}
use Rattle.shared_tape.specs.Stored.{record_cmp, order_bytes, IsStorable}
use Rattle.run_merge.specs.Sorted.{IsSortedRecords}
use Rattle.run_merge.specs.Merging.{IsFirstOf}
use Rattle.run_merge.specs.Cutting.{is_from, is_below, cut_before, cut_behind, is_between, part_of}
use Rattle.shared_tape.proofs.OrderBytes.{order_bytes_ordered}
use Rattle.run_merge.proofs.Moves.{append-nil}
use Rattle.run_merge.proofs.Ascending.{sorted-append}
use Rattle.run_merge.proofs.Firsts.{record_weak}
use Rattle.run_merge.proofs.Finding.{bytes_weak}
use Rattle.run_merge.proofs.Merging.{filter-all}

and-true : (b : Bool) → (b && true) ≡ b
and-true true = refl
and-true false = refl

and-right : (a b : Bool) → (a && b) ≡ true → b ≡ true
and-right true b e = e
and-right false b e = absurd (true≢false (sym e))

not-true : (b : Bool) → not b ≡ true → b ≡ false
not-true true e = absurd (true≢false (sym e))
not-true false e = refl

-- a test that follows from another adds nothing to it
implied : (v w : Bool) → (w ≡ false → v ≡ false) → (not v && not w) ≡ not w
implied true true h = refl
implied false true h = refl
implied true false h = absurd (true≢false (h refl))
implied false false h = refl

filter-filter : {X : Type 0} (f t : X → Bool) (xs : List X) → filter t (filter f xs) ≡ filter (λ x. f x && t x) xs
filter-filter f t [] = refl
filter-filter f t (x ∷ xs) = by_test (f x) refl (filter-filter f t xs)
  where
    by_test : (b : Bool) → f x ≡ b → filter t (filter f xs) ≡ filter (λ y. f y && t y) xs
        → filter t (filter f (x ∷ xs)) ≡ filter (λ y. f y && t y) (x ∷ xs)
    by_test true e rest = rw e (λ i. cond (t x) (x ∷ rest i) (rest i))
    by_test false e rest = rw e rest

-- bytes from a cut on are from each cut before it on
from_later : (cuts : List (List ℕ)) (part : ℕ) (cut bytes : List ℕ) → IsSorted bytes_cmp cuts
    → slice_get cuts part ≡ Some cut → part < length cuts
    → (is_from (cut_before cuts part) bytes && is_from (Some cut) bytes) ≡ is_from (Some cut) bytes
from_later cuts zero cut bytes up is inside = refl
from_later cuts (suc part) cut bytes up is inside =
    let before = slice_index_or cuts part [] in
    let there : slice_get cuts part ≡ Some before = slice_get-get_or cuts part [] (omega arith) in
    let e : part + 1 ≡ suc part = omega arith in
    let same : slice_index_or cuts (part + 1) [] ≡ cut =
    ap (λ (k : ℕ). slice_index_or cuts k []) e ∙ get_or_from_slice_get cuts (suc part) cut [] is in
    let in_order : is_lt (bytes_cmp cut before) ≡ false = (λ i. is_lt (bytes_cmp (sym same i) before))
    ∙ up part [] (omega arith) (omega arith) in
    ap (λ o. is_from o bytes && is_from (Some cut) bytes) there
    ∙ implied (is_lt (bytes_cmp bytes before)) (is_lt (bytes_cmp bytes cut))
    (λ h. bytes_weak.chain bytes cut before h in_order)

module _ (order : List SortPart) (records : List Record) (storable : All (IsStorable order) records)
    (cuts : List (List ℕ)) (up : IsSorted bytes_cmp cuts)
    (parts : List (List Record)) (long : length parts ≡ length cuts + 1)
    (each : (part : ℕ) → part ≤ length cuts → IsSortedRecords order (part_of order cuts part records)
    (slice_index_or parts part [])) where
  abbrev from_part : ℕ → Record → Bool
  from_part part row = is_from (cut_before cuts part) (order_bytes order row)

  -- the records of a part and of those behind it
  abbrev rest_of : ℕ → List Record
  rest_of part = filter (from_part part) records

  abbrev joined : List (List Record) → List Record
  joined lists = flat_map (λ (rows : List Record). rows) lists

  last_part : (part : ℕ) → part ≡ length cuts → IsSortedRecords order (rest_of part) (joined (drop part parts))
  last_part part e =
      let split : drop part parts ≡ slice_index_or parts part [] ∷ [] =
      drop_more parts part [] (omega arith) ∙ ap (λ l. slice_index_or parts part [] ∷ l)
      (drop_all (part + 1) parts (omega arith)) in
      let whole : joined (drop part parts) ≡ slice_index_or parts part [] = ap joined split
      ∙ append-nil (slice_index_or parts part []) in
      let same : rest_of part ≡ part_of order cuts part records =
      filter_agree (from_part part) (is_between order (cut_before cuts part) (cut_behind cuts part)) (λ row.
      sym (ap (λ o. is_from (cut_before cuts part) (order_bytes order row) && is_below o (order_bytes order row))
      (slice_get_past cuts part (omega arith))
      ∙ and-true (is_from (cut_before cuts part) (order_bytes order row)))) records in
      rw (whole, same) (each part (omega arith))

  -- a part and what is behind it are the rest
  split_rest : (part : ℕ) → part < length cuts → IsPermutation (rest_of part)
      (part_of order cuts part records ++ rest_of (suc part))
  split_rest part inside =
      let cut = slice_index_or cuts part [] in
      let is : slice_get cuts part ≡ Some cut = slice_get-get_or cuts part [] inside in
      let below = λ (row : Record). is_below (Some cut) (order_bytes order row) in
      let from = λ (row : Record). is_from (Some cut) (order_bytes order row) in
      let first : filter below (rest_of part) ≡ part_of order cuts part records =
      filter-filter (from_part part) below records
      ∙ filter_agree (λ row. from_part part row && below row) (is_between order (cut_before cuts part)
      (cut_behind cuts part))
      (λ row. ap (λ o. from_part part row && is_below o (order_bytes order row)) (sym is)) records in
      let second : filter from (rest_of part) ≡ rest_of (suc part) =
      filter-filter (from_part part) from records
      ∙ filter_agree (λ row. from_part part row && from row) (from_part (suc part))
      (λ row. from_later cuts part cut (order_bytes order row) up is inside
      ∙ ap (λ o. is_from o (order_bytes order row)) (sym is)) records in
      subst (IsPermutation (rest_of part)) (λ i. first i ++ second i)
      (IsPermutation-filter_both below from (λ row. refl) (rest_of part))

  -- no record behind a part is below one of it
  part_below : (part : ℕ) (rows rest : List Record) → part < length cuts
      → IsPermutation (part_of order cuts part records) rows → IsPermutation (rest_of (suc part)) rest
      → All (λ row. IsFirstOf order row rest) rows
  part_below part rows rest inside p q k d h l e j =
      let cut = slice_index_or cuts part [] in
      let is : slice_get cuts part ≡ Some cut = slice_get-get_or cuts part [] inside in
      let between = is_between order (cut_before cuts part) (cut_behind cuts part) in
      let row = slice_index_or rows k d in
      let other = slice_index_or rest l e in
      let row_storable = All-permutation (IsStorable order) (part_of order cuts part records) rows p
      (All-filter between (IsStorable order) records storable) k d h in
      let other_storable = All-permutation (IsStorable order) (rest_of (suc part)) rest q
      (All-filter (from_part (suc part)) (IsStorable order) records storable) l e j in
      let row_passes : between row ≡ true = All-permutation (λ r. between r ≡ true) (part_of order cuts part records)
      rows p (filter_passes between records) k d h in
      let other_passes : from_part (suc part) other ≡ true = All-permutation (λ r. from_part (suc part) r ≡ true)
      (rest_of (suc part)) rest q (filter_passes (from_part (suc part)) records) l e j in
      let row_below : is_lt (bytes_cmp (order_bytes order row) cut) ≡ true =
      ap (λ o. is_below o (order_bytes order row)) (sym is) ∙ and-right (from_part part row)
      (is_below (cut_behind cuts part) (order_bytes order row)) row_passes in
      let other_from : is_lt (bytes_cmp (order_bytes order other) cut) ≡ false =
      not-true (is_lt (bytes_cmp (order_bytes order other) cut)) (ap (λ o. is_from o (order_bytes order other))
      (sym is) ∙ other_passes) in
      sym (ap is_lt (order_bytes_ordered order other row other_storable row_storable))
      ∙ bytes_weak.chain (order_bytes order other) cut (order_bytes order row) other_from
      (bytes_weak.one_way (order_bytes order row) cut row_below)

  joined_rest : (n part : ℕ) → part + n ≡ length cuts → IsSortedRecords order (rest_of part) (joined (drop part parts))
  joined_rest zero part e = last_part part (omega arith)
  joined_rest (suc n) part e =
      let inside : part < length cuts = omega arith in
      let first = each part (omega arith) in
      let rest = joined_rest n (suc part) (omega arith) in
      let rows = slice_index_or parts part [] in
      let next : part + 1 ≡ suc part = omega arith in
      let split : joined (drop part parts) ≡ rows ++ joined (drop (suc part) parts) =
      ap joined (drop_more parts part [] (omega arith)) ∙ ap (λ (k : ℕ). rows ++ joined (drop k parts)) next in
      rw split (record {
        same = IsPermutation-trans _ _ _ (split_rest part inside) (IsPermutation-append _ _ _ _ first.same rest.same);
        ascending = sorted-append (λ a b. is_lt (record_cmp order a b)) (record_weak order) rows
            (joined (drop (suc part) parts)) first.ascending rest.ascending
            (part_below part rows (joined (drop (suc part) parts)) inside first.same rest.same);
      })

  pub parts_whole : IsSortedRecords order records (flat_map (λ (rows : List Record). rows) parts)
  parts_whole =
      subst (λ l. IsSortedRecords order l (joined parts)) (filter-all (from_part 0) records (λ row. refl))
      (joined_rest (length cuts) 0 (omega arith))
