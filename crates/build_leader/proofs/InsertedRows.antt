-- Each list has an order: its items can be put in order one by one.
use Rattle.std.proofs.Common.{◌≡◌, Bool, true, false, List, [], ◌∷◌, refl}
use Rattle.std.specs.Cmp.{IsStrictWeakOrder}
use Rattle.std.specs.List.Sorted.{IsPermutation, IsSortedBy}
use Rattle.std.proofs.lemmas.List.Elements.{All-cons, All-weaker}
use Rattle.std.proofs.lemmas.List.Sorted.{All-permutation, IsPermutation-append_comm, IsPermutation-append_left, IsPermutation-cons, IsPermutation-refl, IsPermutation-trans}
use Rattle.run_merge.proofs.Ascending.{NoneBelow, sorted-cons, sorted-head, sorted-nil, sorted-one, sorted-tail}

module _ {X : Type 0} (lt : X → X → Bool) (o : IsStrictWeakOrder lt) where
  -- a list in order with these items
  pub record Ordered (items : List X) : Type 0 where
    pub sorted : List X
    pub same : IsPermutation items sorted
    pub ascending : IsSortedBy lt sorted

  turned : (x y : X) (xs : List X) → IsPermutation (x ∷ y ∷ xs) (y ∷ x ∷ xs)
  turned x y xs =
      IsPermutation-append_left xs (x ∷ y ∷ []) (y ∷ x ∷ []) (IsPermutation-append_comm (x ∷ []) (y ∷ []))

  inserted : (x : X) (xs : List X) → IsSortedBy lt xs → Ordered (x ∷ xs)
  inserted x [] up = record { sorted = x ∷ []; same = IsPermutation-refl (x ∷ []); ascending = sorted-one lt o x }
  inserted x (y ∷ ys) up = by_test (inserted x ys (sorted-tail lt o y ys up)) (lt x y) refl
    where
      behind : NoneBelow lt o y ys
      behind = sorted-head lt o y ys up

      by_test : Ordered (x ∷ ys) → (v : Bool) → lt x y ≡ v → Ordered (x ∷ y ∷ ys)
      by_test rest true e =
          let first : lt y x ≡ false = o.one_way x y e in record {
            sorted = x ∷ y ∷ ys;
            same = IsPermutation-refl (x ∷ y ∷ ys);
            ascending = sorted-cons lt o x (y ∷ ys)
                (All-cons (λ z. lt z x ≡ false) y ys first
                (All-weaker (λ z. lt z y ≡ false) (λ z. lt z x ≡ false) (λ z below. o.chain z y x below first) ys behind))
                up;
          }
      by_test rest false e = record {
        sorted = y ∷ rest.sorted;
        same = IsPermutation-trans (x ∷ y ∷ ys) (y ∷ x ∷ ys) (y ∷ rest.sorted) (turned x y ys)
            (IsPermutation-cons y (x ∷ ys) rest.sorted rest.same);
        ascending = sorted-cons lt o y rest.sorted
            (All-permutation (λ z. lt z y ≡ false) (x ∷ ys) rest.sorted rest.same
            (All-cons (λ z. lt z y ≡ false) x ys e behind))
            rest.ascending;
      }

  pub in_order : (xs : List X) → Ordered xs
  in_order [] = record { sorted = []; same = IsPermutation-refl []; ascending = sorted-nil lt o }
  in_order (x ∷ xs) =
      let rest = in_order xs in
      let more = inserted x rest.sorted rest.ascending in record {
        sorted = more.sorted;
        same = IsPermutation-trans (x ∷ xs) (x ∷ rest.sorted) more.sorted (IsPermutation-cons x xs rest.sorted rest.same)
            more.same;
        ascending = more.ascending;
      }
