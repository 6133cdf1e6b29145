-- Which elements a list has: in front, behind, and under a function.
use Rattle.std.proofs.Common.{◌≡◌, ◌⊎◌, ℕ, zero, suc, ◌<◌, List, [], ◌∷◌, map, length, get_or, refl, sym, subst, inl, inr, arith}
use Rattle.std.specs.Prelude.{Any, Contains}

module _ {X : Type 0} where
  pub Contains-head : (x : X) (xs : List X) → Contains (x ∷ xs) x
  Contains-head x xs = (0, omega arith, refl)

  pub Contains-behind : (x z : X) (xs : List X) → Contains xs z → Contains (x ∷ xs) z
  Contains-behind x z xs there = (suc there.0, omega (arith, there.1), there.2)

  pub Contains-nil : (z : X) → Contains [] z → ⊥
  Contains-nil z there = omega (arith, there.1)

  -- an element is the first or stands behind it
  pub Contains-cases : (x z : X) (xs : List X) → Contains (x ∷ xs) z → (x ≡ z) ⊎ Contains xs z
  Contains-cases x z xs there = at there.0 there.1 there.2
    where
      at : (k : ℕ) → k < length (x ∷ xs) → get_or (x ∷ xs) k z ≡ z → (x ≡ z) ⊎ Contains xs z
      at zero inside same = inl same
      at (suc k) inside same = inr (k, omega (arith, inside), same)

  pub Any-from : (P : X → Type 0) (xs : List X) (x : X) → Contains xs x → P x → Any P xs
  Any-from P xs x there holds = (there.0, x, there.1, there.2, holds)

  -- some element of a list is one of another list that has all its elements
  pub Any-among : (P : X → Type 0) (xs ys : List X) → ((z : X) → Contains xs z → Contains ys z) → Any P xs → Any P ys
  Any-among P xs ys all some = Any-from P ys some.1 (all some.1 (some.0, some.2, some.3)) some.4

module _ {X Y : Type 0} (f : X → Y) where
  pub Contains-map : (xs : List X) (x : X) → Contains xs x → Contains (map f xs) (f x)
  Contains-map [] x there = absurd (Contains-nil x there)
  Contains-map (w ∷ ws) x there =
      elim (Contains-cases w x ws there) [
        | inl same ↦ subst (λ v. Contains (f w ∷ map f ws) (f v)) same (Contains-head (f w) (map f ws))
        | inr behind ↦ Contains-behind (f w) (f x) (map f ws) (Contains-map ws x behind)
      ]

  pub Any-from_map : (xs : List X) (y : Y) → Contains (map f xs) y → Any (λ x. y ≡ f x) xs
  Any-from_map [] y there = absurd (Contains-nil y there)
  Any-from_map (w ∷ ws) y there =
      elim (Contains-cases (f w) y (map f ws) there) [
        | inl same ↦ Any-from (λ x. y ≡ f x) (w ∷ ws) w (Contains-head w ws) (sym same)
        | inr behind ↦
            let some : Any (λ x. y ≡ f x) ws = Any-from_map ws y behind in
            Any-among (λ x. y ≡ f x) ws (w ∷ ws) (λ z. Contains-behind w z ws) some
      ]

  pub map_from_Any : (xs : List X) (y : Y) → Any (λ x. y ≡ f x) xs → Contains (map f xs) y
  map_from_Any xs y some =
      subst (Contains (map f xs)) (sym some.4) (Contains-map xs some.1 (some.0, some.2, some.3))
