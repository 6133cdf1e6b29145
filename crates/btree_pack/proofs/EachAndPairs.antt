-- What holds of each element of a list, and of each two, one before the other.
use Rattle.std.proofs.Common.{List, [], ◌∷◌, ◌++◌, map}
use Rattle.std.specs.List.{AllByRecursion, flat_map}

-- R holds of each element and each later one
abbrev pub Pairs : {X : Type 0} → (X → X → Type 0) → List X → Type 0
Pairs R [] = Unit {0}
Pairs R (x ∷ xs) = AllByRecursion (R x) xs × Pairs R xs

module _ {X : Type 0} where
  pub each-weaker : (P Q : X → Type 0) → ((x : X) → P x → Q x) → (xs : List X) → AllByRecursion P xs → AllByRecursion Q xs
  each-weaker P Q weaker [] each = tt
  each-weaker P Q weaker (x ∷ xs) each = (weaker x each.0, each-weaker P Q weaker xs each.1)

  pub each-always : (P : X → Type 0) → ((x : X) → P x) → (xs : List X) → AllByRecursion P xs
  each-always P always [] = tt
  each-always P always (x ∷ xs) = (always x, each-always P always xs)

  pub each-both : (P Q : X → Type 0) (xs : List X) → AllByRecursion P xs → AllByRecursion Q xs → AllByRecursion (λ x. P x × Q x) xs
  each-both P Q [] p q = tt
  each-both P Q (x ∷ xs) p q = ((p.0, q.0), each-both P Q xs p.1 q.1)

  pub each-append : (P : X → Type 0) (xs ys : List X) → AllByRecursion P xs → AllByRecursion P ys → AllByRecursion P (xs ++ ys)
  each-append P [] ys front back = back
  each-append P (x ∷ xs) ys front back = (front.0, each-append P xs ys front.1 back)

  pub each-front : (P : X → Type 0) (xs ys : List X) → AllByRecursion P (xs ++ ys) → AllByRecursion P xs
  each-front P [] ys each = tt
  each-front P (x ∷ xs) ys each = (each.0, each-front P xs ys each.1)

  pub each-back : (P : X → Type 0) (xs ys : List X) → AllByRecursion P (xs ++ ys) → AllByRecursion P ys
  each-back P [] ys each = each
  each-back P (x ∷ xs) ys each = each-back P xs ys each.1

  pub each-map : {Y : Type 0} (P : X → Type 0) (f : Y → X) (ys : List Y) → AllByRecursion (λ y. P (f y)) ys → AllByRecursion P (map f ys)
  each-map P f [] each = tt
  each-map P f (y ∷ ys) each = (each.0, each-map P f ys each.1)

  pub each-flat_map : {Y : Type 0} (P : X → Type 0) (f : Y → List X) (ys : List Y) → AllByRecursion (λ y. AllByRecursion P (f y)) ys
      → AllByRecursion P (flat_map f ys)
  each-flat_map P f [] each = tt
  each-flat_map P f (y ∷ ys) each = each-append P (f y) (flat_map f ys) each.0 (each-flat_map P f ys each.1)

  -- it doesn't matter over which list one goes first
  pub each-swap : {Y : Type 0} (Q : X → Y → Type 0) (xs : List X) (ys : List Y) → AllByRecursion (λ x. AllByRecursion (Q x) ys) xs
      → AllByRecursion (λ y. AllByRecursion (λ x. Q x y) xs) ys
  each-swap Q xs [] each = tt
  each-swap Q xs (y ∷ ys) each = (
    each-weaker (λ x. AllByRecursion (Q x) (y ∷ ys)) (λ x. Q x y) (λ x q. q.0) xs each,
    each-swap Q xs ys (each-weaker (λ x. AllByRecursion (Q x) (y ∷ ys)) (λ x. AllByRecursion (Q x) ys) (λ x q. q.1) xs each),
  )

  pub pairs-front : (R : X → X → Type 0) (xs ys : List X) → Pairs R (xs ++ ys) → Pairs R xs
  pairs-front R [] ys pairs = tt
  pairs-front R (x ∷ xs) ys pairs = (each-front (R x) xs ys pairs.0, pairs-front R xs ys pairs.1)

  pub pairs-back : (R : X → X → Type 0) (xs ys : List X) → Pairs R (xs ++ ys) → Pairs R ys
  pairs-back R [] ys pairs = pairs
  pairs-back R (x ∷ xs) ys pairs = pairs-back R xs ys pairs.1

  pub pairs-across : (R : X → X → Type 0) (xs ys : List X) → Pairs R (xs ++ ys) → AllByRecursion (λ x. AllByRecursion (R x) ys) xs
  pairs-across R [] ys pairs = tt
  pairs-across R (x ∷ xs) ys pairs = (each-back (R x) xs ys pairs.0, pairs-across R xs ys pairs.1)
