-- Records that were merged, one more of them, and the last.
use Rattle.std.proofs.Common.{◌≡◌, ℕ, suc, ◌<◌, Bool, true, Option, None, List, [], ◌∷◌, ◌++◌, length, take, drop, refl, sym, ap, subst, ◌∙◌, arith, filter, append_assoc}
use Rattle.std.specs.Ordering.{is_lt}
use Rattle.std.specs.List.Sorted.{IsPermutation}
use Rattle.std.proofs.lemmas.List.Elements.{All-nil, All-cons, All-head, All-tail, All-weaker, All-push, filter-append}
use Rattle.std.proofs.lemmas.List.Sorted.{IsPermutation-trans, IsPermutation-append_right, All-permutation, length_permutation}
use Rattle.opclass.specs.declared.spec.SortPart.{SortPart}
use Rattle.shared_tape.specs.declared.stored.Record.{Record}
use Rattle.shared_tape.specs.Stored.{record_cmp}
use Rattle.shared_tape.specs.Runs.{RunView, IsAscending, records_of}
use Rattle.run_merge.specs.Sorted.{HaveOrder, AllHaveOrder, IsSortedRecords, all_records}
use Rattle.run_merge.specs.Merging.{IsNotBelow, IsFirstOf}
use Rattle.run_merge.specs.declared.head.Head.{Head}
use Rattle.run_merge.specs.Heads.{AreHeads, left_of}
use Rattle.run_merge.specs.Cutting.{is_between}
use Rattle.run_merge.specs.Pass.{AreMerged, between_of, all_between}
use Rattle.run_merge.proofs.Moves.{append-nil}
use Rattle.run_merge.proofs.Ascending.{sorted-append, sorted-one, sorted-nil}
use Rattle.run_merge.proofs.Firsts.{record_weak, first_split}

-- nothing is merged yet
pub none_merged : (order : List SortPart) (whole left : List Record) → IsPermutation whole left
    → AreMerged order whole [] left
none_merged order whole left p = record {
  same = p;
  ascending = sorted-nil (λ a b. is_lt (record_cmp order a b)) (record_weak order);
  below = All-nil (λ row. IsFirstOf order row left);
}

-- one more record may stand behind those that were merged
pub ascends_more : (order : List SortPart) (whole merged left rest : List Record) (row : Record)
    → AreMerged order whole merged left → left ≡ row ∷ rest
    → IsAscending order (merged ++ row ∷ [])
ascends_more order whole merged left rest row are is =
    sorted-append (λ a b. is_lt (record_cmp order a b)) (record_weak order) merged (row ∷ []) are.ascending
    (sorted-one (λ a b. is_lt (record_cmp order a b)) (record_weak order) row)
    (All-weaker (λ x. IsFirstOf order x left) (λ x. IsFirstOf order x (row ∷ []))
    (λ x h. All-cons (λ y. IsNotBelow order y x) row [] (All-head (λ y. IsNotBelow order y x) row rest
    (subst (IsFirstOf order x) is h)) (All-nil (λ y. IsNotBelow order y x)))
    merged are.below)

pub merged_more : (order : List SortPart) (whole merged left rest next : List Record) (row : Record)
    → AreMerged order whole merged left → left ≡ row ∷ rest
    → IsFirstOf order row left → IsPermutation rest next → AreMerged order whole (merged ++ row ∷ []) next
merged_more order whole merged left rest next row are is first moved = record {
  same = IsPermutation-trans _ _ _ (subst (λ l. IsPermutation whole (merged ++ l)) is are.same)
      (subst (λ l. IsPermutation l ((merged ++ row ∷ []) ++ next)) (append_assoc merged (row ∷ []) rest)
      (IsPermutation-append_right (merged ++ row ∷ []) rest next moved));
  ascending = ascends_more order whole merged left rest row are is;
  below = All-push (λ x. IsFirstOf order x next) merged row
      (All-weaker (λ x. IsFirstOf order x left) (λ x. IsFirstOf order x next)
      (λ x h. behind x (subst (IsFirstOf order x) is h)) merged are.below)
      (behind row (subst (IsFirstOf order row) is first));
}
  where
    behind : (x : Record) → IsFirstOf order x (row ∷ rest) → IsFirstOf order x next
    behind x h = All-permutation (λ y. IsNotBelow order y x) rest next moved
        (All-tail (λ y. IsNotBelow order y x) row rest h)

-- all are merged
pub all_merged : (order : List SortPart) (whole merged left : List Record) → AreMerged order whole merged left
    → left ≡ [] → IsSortedRecords order whole merged
all_merged order whole merged left are none = record {
  same = subst (IsPermutation whole) (ap (λ l. merged ++ l) none ∙ append-nil merged) are.same;
  ascending = are.ascending;
}

-- what lies between two cuts in the runs is what lies between them in all records
between_of-is : (order : List SortPart) (low high : Option (List ℕ)) (runs : List RunView) → HaveOrder order runs
    → between_of low high runs ≡ filter (is_between order low high) (records_of runs)
between_of-is order low high [] have = refl
between_of-is order low high (run ∷ runs) have =
    (λ i. filter (is_between (All-head (λ r. r.order ≡ order) run runs have i) low high) run.records
    ++ between_of-is order low high runs (All-tail (λ r. r.order ≡ order) run runs have) i)
    ∙ sym (filter-append (is_between order low high) run.records (records_of runs))

pub all_between-is : (order : List SortPart) (low high : Option (List ℕ)) (tapes : List (List RunView))
    → AllHaveOrder order tapes
    → all_between low high tapes ≡ filter (is_between order low high) (all_records tapes)
all_between-is order low high [] have = refl
all_between-is order low high (tape ∷ tapes) have =
    (λ i. between_of-is order low high tape (All-head (HaveOrder order) tape tapes have) i
    ++ all_between-is order low high tapes (All-tail (HaveOrder order) tape tapes have) i)
    ∙ sym (filter-append (is_between order low high) (records_of tape) (all_records tapes))

pub filter-all : {X : Type 0} (test : X → Bool) (xs : List X) → ((x : X) → test x ≡ true) → filter test xs ≡ xs
filter-all test [] all = refl
filter-all test (x ∷ xs) all = rw (all x) (ap (λ l. x ∷ l) (filter-all test xs all))

-- between no cuts lie all records
pub all_between-whole : (order : List SortPart) (tapes : List (List RunView)) → AllHaveOrder order tapes
    → all_between None None tapes ≡ all_records tapes
all_between-whole order tapes have =
    all_between-is order None None tapes have ∙ filter-all (is_between order None None) (all_records tapes)
    (λ row. refl)

module _ (order : List SortPart) (tapes : List (List RunView)) (heads next : List Head) (whole merged : List Record)
    (have : AllHaveOrder order tapes)
    (are : AreHeads tapes heads) (some : 0 < length heads) (was : AreMerged order whole merged (left_of tapes heads))
  where
    -- a heap's first record may stand behind those that were merged
    pub ascends_first : IsAscending order (merged ++ take 1 (left_of tapes heads))
    ascends_first =
        let split = first_split order tapes heads have are some in
        subst (λ l. IsAscending order (merged ++ l)) (sym (ap (take 1) split.1))
        (ascends_more order whole merged _ _ split.0 was split.1)

    pub merged_first : IsPermutation (drop 1 (left_of tapes heads)) (left_of tapes next)
        → AreMerged order whole (merged ++ take 1 (left_of tapes heads)) (left_of tapes next)
    merged_first moved =
        let split = first_split order tapes heads have are some in
        subst (λ l. AreMerged order whole (merged ++ l) (left_of tapes next)) (sym (ap (take 1) split.1))
        (merged_more order whole merged _ _ (left_of tapes next) split.0 was split.1 split.2 moved)

    pub fewer_left : IsPermutation (drop 1 (left_of tapes heads)) (left_of tapes next)
        → length (left_of tapes next) < length (left_of tapes heads)
    fewer_left moved =
        let split = first_split order tapes heads have are some in
        let whole_length : length (left_of tapes heads) ≡ suc (length (drop 1 (left_of tapes heads))) = ap length
        split.1 in
        omega (arith, whole_length, length_permutation _ _ moved)

-- no heads have nothing left
pub none_left : (tapes : List (List RunView)) (heads : List Head) → length heads ≡ 0 → left_of tapes heads ≡ []
none_left tapes [] e = refl
none_left tapes (head ∷ heads) e = absurd (omega (arith, e))
