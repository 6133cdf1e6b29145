-- Key cuts of tapes are normalised keys, so that they part no records with equal keys.
use Rattle.std.proofs.Common.{◌≡◌, ◌≢◌, ℕ, zero, suc, ◌+◌, ◌*◌, ◌/◌, ◌<◌, ◌≤◌, true, false, true≢false, not, ◌&&◌, Less, Equal, Greater, Option, Some, None, List, [], ◌∷◌, ◌++◌, length, refl, sym, ap, subst, ◌∙◌, arith, slice_index_or, slice_get, append-nil, All, inl, inr}
use Rattle.std.specs.Prelude.{IsTrue}
use Rattle.std.specs.declared.cmp.Ordering.{Ordering}
use Rattle.std.specs.Ordering.{is_lt, ordering_then}
use Rattle.std.specs.List.{filter_map, range_with_len}
use Rattle.std.specs.List.Sorted.{IsSorted}
use Rattle.std.proofs.lemmas.Bool.{and_parts, cases_order, not-true}
use Rattle.std.proofs.lemmas.Option.{get_or_from_slice_get, slice_get_within, slice_get-get_or}
use Rattle.std.proofs.lemmas.List.Elements.{All-nil, All-cons, All-head, All-tail, All-append, All-map, All-weaker, All-get_or}
use Rattle.std.proofs.lemmas.List.Sorted.{All-permutation, sorted_far}
use Rattle.opclass.specs.declared.value.KeyVal.{KeyVal}
use Rattle.opclass.specs.declared.spec.SortPart.{SortPart}
use Rattle.opclass.specs.Order.{bytes_cmp, key_cmp}
use Rattle.opclass.specs.Norm.{norm_of, AreKeys}
use Rattle.opclass.proofs.KeyOrder.{key_cmp_exact}
use Rattle.opclass.proofs.Norms.{norms_show_end}
use Rattle.shared_tape.specs.declared.stored.Record.{Record}
use Rattle.shared_tape.specs.Stored.{order_bytes, pointer_bytes, IsStorable}
use Rattle.shared_tape.specs.Runs.{RunView, records_of}
use Rattle.run_merge.specs.Sorted.{HaveOrder, AllHaveOrder, all_records}
use Rattle.run_merge.specs.Cutting.{key_list, samples_of, tape_samples, all_samples, cut_at, AreCuts, is_from, is_below, cut_before, is_in_part}
use Rattle.run_merge.proofs.Finding.{bytes_weak}
use Rattle.run_merge.proofs.Shares.{shares_ascend}

-- no bytes are below none
never_below_none : (bytes : List ℕ) → is_lt (bytes_cmp bytes []) ≡ false
never_below_none [] = refl
never_below_none (byte ∷ bytes) = refl

then-not_less : (o p : Ordering) → is_lt p ≡ false → is_lt (ordering_then o p) ≡ is_lt o
then-not_less Less p e = refl
then-not_less Equal p e = e
then-not_less Greater p e = refl

-- a cut parts no records with equal keys
abbrev PartsByKeys : List SortPart → List ℕ → Type 0
PartsByKeys order cut =
    (a b : Record) → IsStorable order a → IsStorable order b → a.keys ≡ b.keys
    → is_lt (bytes_cmp (order_bytes order a) cut) ≡ is_lt (bytes_cmp (order_bytes order b) cut)

-- a record is below a normalised key where its keys are
below_key : (order : List SortPart) (keys : List KeyVal) (row : Record) → AreKeys order keys → IsStorable order row
    → is_lt (bytes_cmp (order_bytes order row) (norm_of order keys)) ≡ is_lt (key_cmp order row.keys keys)
unfolding order_bytes
below_key order keys row are storable =
    ap (λ l. is_lt (bytes_cmp (norm_of order row.keys ++ pointer_bytes row.ptr) l)) (sym (append-nil (norm_of order keys)))
    ∙ ap is_lt (norms_show_end order row.keys keys (pointer_bytes row.ptr) [] storable.keys are)
    ∙ then-not_less (key_cmp order row.keys keys) (bytes_cmp (pointer_bytes row.ptr) [])
    (never_below_none (pointer_bytes row.ptr))

key_parts : (order : List SortPart) (keys : List KeyVal) → AreKeys order keys → PartsByKeys order (norm_of order keys)
key_parts order keys are a b p q same =
    below_key order keys a are p ∙ ap (λ k. is_lt (key_cmp order k keys)) same ∙ sym (below_key order keys b are q)

none_parts : (order : List SortPart) → PartsByKeys order []
none_parts order a b p q same = never_below_none (order_bytes order a) ∙ sym (never_below_none (order_bytes order b))

All-front : {X : Type 0} (P : X → Type 0) (xs ys : List X) → All P (xs ++ ys) → All P xs
All-front P [] ys all = All-nil P
All-front P (x ∷ xs) ys all =
    All-cons P x xs (All-head P x (xs ++ ys) all) (All-front P xs ys (All-tail P x (xs ++ ys) all))

All-behind : {X : Type 0} (P : X → Type 0) (xs ys : List X) → All P (xs ++ ys) → All P ys
All-behind P [] ys all = all
All-behind P (x ∷ xs) ys all = All-behind P xs ys (All-tail P x (xs ++ ys) all)

All-filter_map : {X Y : Type 0} (P : Y → Type 0) (f : X → Option Y) (xs : List X) → ((x : X) (y : Y) → f x ≡ Some y → P y)
    → All P (filter_map f xs)
All-filter_map P f [] each = All-nil P
All-filter_map P f (x ∷ xs) each = by_test (f x) refl (All-filter_map P f xs each)
  where
    by_test : (o : Option _) → f x ≡ o → All P (filter_map f xs) → All P (filter_map f (x ∷ xs))
    by_test None e rest = rw e rest
    by_test (Some y) e rest = rw e (All-cons P y (filter_map f xs) (each x y e) rest)

All-or_none : {X : Type 0} (P : X → Type 0) (xs : List X) (at : ℕ) (d : X) → All P xs → P d → P (slice_index_or xs at d)
All-or_none P [] at d all none = none
All-or_none P (x ∷ xs) zero d all none = All-head P x xs all
All-or_none P (x ∷ xs) (suc at) d all none = All-or_none P xs at d (All-tail P x xs all) none

module _ (order : List SortPart) where
  abbrev Parts : List ℕ → Type 0
  Parts cut = PartsByKeys order cut

  run_parts : (run : RunView) → run.order ≡ order → All (IsStorable order) run.records → All Parts (samples_of key_list run)
  run_parts run same storable =
      let all : All Parts (key_list run) =
      All-map Parts (λ row. norm_of run.order row.keys) run.records
      (All-weaker (IsStorable order) (λ row. Parts (norm_of run.order row.keys))
      (λ row s. subst (λ (parts : List SortPart). Parts (norm_of parts row.keys)) (sym same)
      (key_parts order row.keys s.keys)) run.records storable) in
      All-filter_map Parts (λ number. slice_get (key_list run) (number * 64)) (range_with_len 0 (length (key_list run)))
      (λ number key e. subst Parts (get_or_from_slice_get (key_list run) (number * 64) key key e)
      (All-get_or Parts (key_list run) (number * 64) key (slice_get_within (key_list run) (number * 64) key e) all))

  tape_parts : (runs : List RunView) → HaveOrder order runs → All (IsStorable order) (records_of runs)
      → All Parts (tape_samples key_list runs)
  tape_parts [] have storable = All-nil Parts
  tape_parts (run ∷ runs) have storable =
      All-append Parts (samples_of key_list run) (tape_samples key_list runs)
      (run_parts run (All-head (λ r. r.order ≡ order) run runs have)
      (All-front (IsStorable order) run.records (records_of runs) storable))
      (tape_parts runs (All-tail (λ r. r.order ≡ order) run runs have)
      (All-behind (IsStorable order) run.records (records_of runs) storable))

  samples_part : (tapes : List (List RunView)) → AllHaveOrder order tapes → All (IsStorable order) (all_records tapes)
      → All Parts (all_samples key_list tapes)
  samples_part [] have storable = All-nil Parts
  samples_part (tape ∷ tapes) have storable =
      All-append Parts (tape_samples key_list tape) (all_samples key_list tapes)
      (tape_parts tape (All-head (HaveOrder order) tape tapes have)
      (All-front (IsStorable order) (records_of tape) (all_records tapes) storable))
      (samples_part tapes (All-tail (HaveOrder order) tape tapes have)
      (All-behind (IsStorable order) (records_of tape) (all_records tapes) storable))

  module _ (tapes : List (List RunView)) (parts : ℕ) (cuts : List (List ℕ)) (have : AllHaveOrder order tapes)
      (storable : All (IsStorable order) (all_records tapes)) (are : AreCuts key_list tapes parts cuts) where
    cut_parts : (number : ℕ) (cut : List ℕ) → slice_get cuts number ≡ Some cut → Parts cut
    cut_parts number cut e =
        let is : Some cut ≡ Some (cut_at are.samples parts (number + 1)) =
        sym e ∙ are.shares.each number (slice_get_within cuts number cut e) in
        let same : cut ≡ cut_at are.samples parts (number + 1) = cc is in
        subst Parts (sym same)
        (All-or_none Parts are.samples ((number + 1) * length are.samples / parts) []
        (All-permutation Parts (all_samples key_list tapes) are.samples are.same (samples_part tapes have storable))
        (none_parts order))

    module _ (a b : Record) (p : IsStorable order a) (q : IsStorable order b)
        (level : key_cmp order a.keys b.keys ≡ Equal) where
      same_from : (cut : Option (List ℕ)) → ((bytes : List ℕ) → cut ≡ Some bytes → Parts bytes)
          → is_from cut (order_bytes order a) ≡ is_from cut (order_bytes order b)
      same_from None each = refl
      same_from (Some cut) each = ap not (each cut refl a b p q (key_cmp_exact order a.keys b.keys level))

      same_below : (cut : Option (List ℕ)) → ((bytes : List ℕ) → cut ≡ Some bytes → Parts bytes)
          → is_below cut (order_bytes order a) ≡ is_below cut (order_bytes order b)
      same_below None each = refl
      same_below (Some cut) each = each cut refl a b p q (key_cmp_exact order a.keys b.keys level)

      pub equal_together : (part : ℕ) → is_in_part order cuts part a ≡ is_in_part order cuts part b
      equal_together zero = same_below (slice_get cuts 0) (cut_parts 0)
      equal_together (suc part) = λ i.
          same_from (slice_get cuts part) (cut_parts part) i
          && same_below (slice_get cuts (suc part)) (cut_parts (suc part)) i

-- a record is in one part at most
pub part_once : (order : List SortPart) (cuts : List (List ℕ)) (row : Record) (i j : ℕ) → IsSorted bytes_cmp cuts
    → i < j → j ≤ length cuts
    → IsTrue (is_in_part order cuts i row) → IsTrue (is_in_part order cuts j row) → ⊥
part_once order cuts row i zero up below within first second = omega arith
part_once order cuts row i (suc part) up below within first second =
    let bytes = order_bytes order row in
    let low = slice_index_or cuts part [] in
    let high = slice_index_or cuts i [] in
    let from : is_lt (bytes_cmp bytes low) ≡ false =
    not-true (is_lt (bytes_cmp bytes low)) (sym (ap (λ o. is_from o bytes) (slice_get-get_or cuts part [] (omega arith)))
    ∙ (and_parts (is_from (slice_get cuts part) bytes) (is_below (slice_get cuts (suc part)) bytes) second).0) in
    let under : is_lt (bytes_cmp bytes high) ≡ true =
    sym (ap (λ o. is_below o bytes) (slice_get-get_or cuts i [] (omega arith)))
    ∙ (and_parts (is_from (cut_before cuts i) bytes) (is_below (slice_get cuts i) bytes) first).1 in
    let over : is_lt (bytes_cmp bytes high) ≡ false =
    bytes_weak.chain bytes low high from
    (sorted_far (λ (v w : List ℕ). is_lt (bytes_cmp v w)) bytes_weak cuts up i part [] (omega arith) (omega arith)) in
    true≢false (sym under ∙ over)

-- no two parts have records with equal keys
pub keys_apart : (order : List SortPart) (tapes : List (List RunView)) (parts : ℕ) (cuts : List (List ℕ))
    → AllHaveOrder order tapes → All (IsStorable order) (all_records tapes) → AreCuts key_list tapes parts cuts
    → (a b : Record) → IsStorable order a → IsStorable order b → (i j : ℕ) → i ≤ length cuts → j ≤ length cuts → i ≢ j
    → IsTrue (is_in_part order cuts i a) → IsTrue (is_in_part order cuts j b) → key_cmp order a.keys b.keys ≢ Equal
keys_apart order tapes parts cuts have storable are a b p q i j in_i in_j other first second level =
    let up = shares_ascend are.samples parts cuts are.ascending are.shares in
    let also = equal_together order tapes parts cuts have storable are a b p q level j ∙ second in
    elim (cases_order i j) [
      | inl e ↦ other e
      | inr n ↦ elim n [
        | inl low ↦ part_once order cuts a i j up low in_j first also
        | inr high ↦ part_once order cuts a j i up high in_i also first
      ]
    ]
