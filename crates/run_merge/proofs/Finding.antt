-- Places in a run, by its order bytes.
use Rattle.std.proofs.Common.{◌≡◌, ℕ, zero, suc, ◌+◌, ◌-◌, ◌<◌, Bool, true, false, not, ◌&&◌, Option, Some, List, [], ◌∷◌, length, map, take, drop, refl, true≢false, sym, ap, subst, ◌∙◌, arith, slice_index_or, All, filter}
use Rattle.std.specs.Cmp.{IsStrictWeakOrder}
use Rattle.std.specs.Ordering.{is_lt}
use Rattle.std.specs.List.{slice_range}
use Rattle.std.specs.List.Sorted.{IsSortedBy, IsSorted}
use Rattle.std.proofs.lemmas.Cmp.{nat_list_cmp_total}
use Rattle.std.proofs.lemmas.List.{get_or-take, get_or-drop, get_or-map, length-map, get_or_default, length-drop, drop_all, take_all, take-map, drop-map, length-take}
use Rattle.std.proofs.lemmas.List.Elements.{All-tail, All-weaker}
use Rattle.std.proofs.lemmas.List.Sorted.{ranks_by, sorted_far}
use Rattle.opclass.specs.Order.{bytes_cmp}
use Rattle.shared_tape.specs.declared.stored.Record.{Record}
use Rattle.shared_tape.specs.Stored.{record_cmp, order_bytes, IsStorable}
use Rattle.shared_tape.specs.Runs.{RunView, IsRun, order_list}
use Rattle.run_merge.specs.Cutting.{is_from, is_below, is_between}
use Rattle.run_merge.specs.Pass.{BeginsAt, EndsAt}
use Rattle.shared_tape.proofs.OrderBytes.{order_bytes_ordered}

pub bytes_weak : IsStrictWeakOrder (λ (a b : List ℕ). is_lt (bytes_cmp a b))
bytes_weak = ranks_by nat_list_cmp_total (λ (bytes : List ℕ). bytes)

pub All-unmap : {X Y : Type 0} (P : Y → Type 0) (f : X → Y) (xs : List X) → All P (map f xs) → All (λ x. P (f x)) xs
All-unmap P f xs all k d h = subst P (get_or-map f xs k d (f d) h) (all k (f d) (omega (arith, length-map xs f)))

pub length-order_list : (run : RunView) → length (order_list run) ≡ length run.records
length-order_list run = length-map run.records (order_bytes run.order)

-- the order bytes of a run ascend
pub order_list_ascends : (run : RunView) → IsRun run → IsSorted bytes_cmp (order_list run)
order_list_ascends run sound k d a b =
    let n = length-map run.records (order_bytes run.order) in
    let next : k + 1 < length run.records = omega (arith, n, b) in
    let here : k < length run.records = omega arith in
    by_records next here
  where
    by_records : k + 1 < length run.records → k < length run.records
        → is_lt (bytes_cmp (slice_index_or (order_list run) (k + 1) d) (slice_index_or (order_list run) k d)) ≡ false
    by_records next here = go run.records sound.ascending sound.storable next here
      where
        go : (rows : List Record) → IsSorted (record_cmp run.order) rows → All (IsStorable run.order) rows
            → k + 1 < length rows → k < length rows
            → is_lt (bytes_cmp (slice_index_or (map (order_bytes run.order) rows) (k + 1) d)
            (slice_index_or (map (order_bytes run.order) rows) k d)) ≡ false
        go [] up each p q = absurd (omega arith)
        go (row ∷ rows) up each p q =
            (λ i. is_lt (bytes_cmp (get_or-map (order_bytes run.order) (row ∷ rows) (k + 1) row d p i)
            (get_or-map (order_bytes run.order) (row ∷ rows) k row d q i)))
            ∙ ap is_lt (order_bytes_ordered run.order _ _ (each (k + 1) row p) (each k row q))
            ∙ up k row (omega arith) p

module _ {X : Type 0} (lt : X → X → Bool) (o : IsStrictWeakOrder lt) (xs : List X) (up : IsSortedBy lt xs) (cut : X)
    (m : ℕ) (d : X) (in' : m < length xs) where
  pub below_more : lt (slice_index_or xs m d) cut ≡ true → All (λ x. lt x cut ≡ true) (take (m + 1) xs)
  below_more h k e l =
      let p : k < m + 1 = omega (arith, length-take (m + 1) xs) in
      rw (get_or-take (m + 1) xs k e p) (by_test (lt (slice_index_or xs k e) cut) refl p)
    where
      by_test : (v : Bool) → lt (slice_index_or xs k e) cut ≡ v → k < m + 1 → lt (slice_index_or xs k e) cut ≡ true
      by_test true q p = q
      by_test false q p = absurd
          (true≢false (sym (sym (o.chain _ _ _ (sorted_far lt o xs up k m e (omega arith) in') q)
          ∙ (λ i. lt (get_or_default xs m e d in' i) cut) ∙ h)))

  pub from_more : lt (slice_index_or xs m d) cut ≡ false → All (λ x. lt x cut ≡ false) (drop m xs)
  from_more h k e l =
      let p : m + k < length xs = omega (arith, length-drop m xs) in
      rw (get_or-drop m xs k e) (o.chain _ _ _ (sorted_far lt o xs up m (m + k) e (omega arith) p)
      ((λ i. lt (get_or_default xs m e d in' i) cut) ∙ h))

nothing : {X : Type 0} (a b : ℕ) → slice_range {X = X} [] a b ≡ []
nothing {X} a b = ap (λ (l : List X). take (b - a) l) (drop_all a [] (omega arith)) ∙ take_all (b - a) [] (omega arith)

-- what passes from one place on, and up to another, is the range between them
pub filter_range : {X : Type 0} (p q : X → Bool) (xs : List X) (a b : ℕ)
    → All (λ x. p x ≡ false) (take a xs) → All (λ x. p x ≡ true) (drop a xs)
    → All (λ x. q x ≡ true) (take b xs) → All (λ x. q x ≡ false) (drop b xs)
    → slice_range xs a b ≡ filter (λ x. p x && q x) xs
filter_range p q [] a b pa pb qa qb = nothing a b
filter_range p q (x ∷ xs) zero zero pa pb qa qb =
    let px : p x ≡ true = pb 0 x (omega arith) in
    let qx : q x ≡ false = qb 0 x (omega arith) in
    let rest = filter_range p q xs 0 0 pa (All-tail (λ x. p x ≡ true) x xs pb) qa
    (All-tail (λ x. q x ≡ false) x xs qb) in
    rw (px, qx) rest
filter_range p q (x ∷ xs) zero (suc b) pa pb qa qb =
    let px : p x ≡ true = pb 0 x (omega arith) in
    let qx : q x ≡ true = qa 0 x (omega arith) in
    let rest = filter_range p q xs 0 b pa (All-tail (λ x. p x ≡ true) x xs pb)
    (All-tail (λ x. q x ≡ true) x (take b xs) qa) qb in
    let e : suc b - 0 ≡ suc (b - 0) = omega arith in
    ap (λ (n : ℕ). take n (x ∷ xs)) e ∙ rw (px, qx) (ap (λ l. x ∷ l) rest)
filter_range p q (x ∷ xs) (suc a) zero pa pb qa qb =
    let px : p x ≡ false = pa 0 x (omega arith) in
    let rest = filter_range p q xs a 0 (All-tail (λ x. p x ≡ false) x (take a xs) pa) pb qa
    (All-tail (λ x. q x ≡ false) x xs qb) in
    let e : 0 - suc a ≡ 0 - a = omega arith in
    ap (λ (n : ℕ). take n (drop a xs)) e ∙ rw px rest
filter_range p q (x ∷ xs) (suc a) (suc b) pa pb qa qb =
    let px : p x ≡ false = pa 0 x (omega arith) in
    let rest = filter_range p q xs a b (All-tail (λ x. p x ≡ false) x (take a xs) pa) pb
    (All-tail (λ x. q x ≡ true) x (take b xs) qa) qb in
    let e : suc b - suc a ≡ b - a = omega arith in
    ap (λ (n : ℕ). take n (drop a xs)) e ∙ rw px rest

-- the records between two cuts are those between their places
pub between_places : (low high : Option (List ℕ)) (run : RunView) (a b : ℕ) → BeginsAt low run a → EndsAt high run b
    → slice_range run.records a b ≡ filter (is_between run.order low high) run.records
between_places low high run a b from to =
    let bytes = order_bytes run.order in
    filter_range (λ row. is_from low (bytes row)) (λ row. is_below high (bytes row)) run.records a b
    (All-unmap (λ bs. is_from low bs ≡ false) bytes _ (subst (All (λ bs. is_from low bs ≡ false))
    (take-map bytes a run.records) from.before))
    (All-unmap (λ bs. is_from low bs ≡ true) bytes _ (subst (All (λ bs. is_from low bs ≡ true))
    (drop-map bytes a run.records) from.behind))
    (All-unmap (λ bs. is_below high bs ≡ true) bytes _ (subst (All (λ bs. is_below high bs ≡ true))
    (take-map bytes b run.records) to.before))
    (All-unmap (λ bs. is_below high bs ≡ false) bytes _ (subst (All (λ bs. is_below high bs ≡ false))
    (drop-map bytes b run.records) to.behind))

-- a part begins where what is below its first cut ends
pub begins_from_end : (cut : List ℕ) (run : RunView) (place : ℕ) → EndsAt (Some cut) run place
    → BeginsAt (Some cut) run place
begins_from_end cut run place end = record {
  within = end.within;
  before = All-weaker (λ bs. is_lt (bytes_cmp bs cut) ≡ true) (λ bs. not (is_lt (bytes_cmp bs cut)) ≡ false)
      (λ bs e. ap not e) _ end.before;
  behind = All-weaker (λ bs. is_lt (bytes_cmp bs cut) ≡ false) (λ bs. not (is_lt (bytes_cmp bs cut)) ≡ true)
      (λ bs e. ap not e) _ end.behind;
}
