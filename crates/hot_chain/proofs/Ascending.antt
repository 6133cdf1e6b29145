-- Two lists that ascend and have the same elements are one list.
use Rattle.std.proofs.Common.{◌≡◌, inl, inr, ℕ, zero, suc, ◌<◌, ◌≤◌, List, length, get_or, sym, ap, subst, ◌∙◌, arith}
use Rattle.std.proofs.lemmas.Bool.{cases_lt}
use Rattle.std.proofs.lemmas.List.{ext_get_or}

-- each element of the first list is an element of the second
abbrev pub IsWithin : {X : Type 0} → List X → List X → Type 0
IsWithin {X} xs ys = (i : ℕ) → i < length xs → (j : ℕ) × (j < length ys) × ((d : X) → get_or ys j d ≡ get_or xs i d)

-- each element is below those behind it
abbrev pub Ascends : {X : Type 0} → (X → X → Type 0) → List X → Type 0
Ascends {X} Below xs = (i j : ℕ) (d : X) → i < j → j < length xs → Below (get_or xs i d) (get_or xs j d)

module _ {X : Type 0} (Below : X → X → Type 0) (one_way : (x y : X) → Below x y → Below y x → ⊥) (d : X) where
  -- of two elements the lesser stands first
  stands_first : (xs : List X) (i j : ℕ) → Ascends Below xs → i < length xs → Below (get_or xs i d) (get_or xs j d) → i < j
  stands_first xs i j ascends inside below = elim (cases_lt i j) [
    | inl first ↦ first
    | inr not_first ↦ elim (cases_lt j i) [
      | inl behind ↦ absurd (one_way (get_or xs j d) (get_or xs i d) (ascends j i d behind inside) below)
      | inr not_behind ↦ absurd (
          let same : j ≡ i = omega arith in
          let P : ℕ → Type 0 = λ k. Below (get_or xs i d) (get_or xs k d) in
          one_way (get_or xs i d) (get_or xs i d) (subst P same below) (subst P same below))
    ]
  ]

  -- an element stands no earlier in the second list than in the first
  no_earlier : (xs ys : List X) → Ascends Below xs → Ascends Below ys → (within : IsWithin xs ys) → (i : ℕ) (inside : i < length xs) → i ≤ (within i inside).0
  no_earlier xs ys first second within zero inside = omega arith
  no_earlier xs ys first second within (suc n) inside =
      let near : n < length xs = omega arith in
      let before = within n near in
      let here = within (suc n) inside in
      let P : X → Type 0 = λ x. Below x (get_or xs (suc n) d) in
      let Q : X → Type 0 = λ x. Below (get_or ys before.0 d) x in
      let below = subst Q (sym (here.2 d)) (subst P (sym (before.2 d)) (first n (suc n) d (omega arith) inside)) in
      let less : before.0 < here.0 = stands_first ys before.0 here.0 second before.1 below in
      let least : n ≤ before.0 = no_earlier xs ys first second within n near in
      omega arith

  -- the first list isn't longer than the second
  no_longer : (xs ys : List X) → Ascends Below xs → Ascends Below ys → IsWithin xs ys → length xs ≤ length ys
  no_longer xs ys first second within = elim (cases_lt (length ys) (length xs)) [
    | inl longer ↦
        let past : length ys ≤ (within (length ys) longer).0 = no_earlier xs ys first second within (length ys) longer in
        let there : (within (length ys) longer).0 < length ys = (within (length ys) longer).1 in
        omega arith
    | inr not_longer ↦ omega arith
  ]

  -- An element that stood later in both lists would be below itself, so one of the two stands where it stood.
  same_at : (xs ys : List X) → Ascends Below xs → Ascends Below ys → IsWithin xs ys → IsWithin ys xs → (i : ℕ) → i < length xs → i < length ys → get_or xs i d ≡ get_or ys i d
  same_at xs ys first second within back i here there =
      let to = within i here in
      let from = back i there in
      let least : i ≤ to.0 = no_earlier xs ys first second within i here in
      let least_back : i ≤ from.0 = no_earlier ys xs second first back i there in
      elim (cases_lt i to.0) [
        | inr not_later ↦
            let same : to.0 ≡ i = omega arith in
            sym (to.2 d) ∙ ap (λ (k : ℕ). get_or ys k d) same
        | inl later ↦ elim (cases_lt i from.0) [
          | inr not_later ↦
              let same : from.0 ≡ i = omega arith in
              ap (λ (k : ℕ). get_or xs k d) (sym same) ∙ from.2 d
          | inl later_back ↦ absurd (
              let P : X → Type 0 = λ x. Below (get_or ys i d) x in
              let Q : X → Type 0 = λ x. Below (get_or xs i d) x in
              one_way (get_or ys i d) (get_or xs i d) (subst P (to.2 d) (second i to.0 d later to.1)) (subst Q (from.2 d) (first i from.0 d later_back from.1)))
        ]
      ]

  -- so the lists are one
  pub same_ascending : (xs ys : List X) → Ascends Below xs → Ascends Below ys → IsWithin xs ys → IsWithin ys xs → xs ≡ ys
  same_ascending xs ys first second within back =
      let upto = no_longer xs ys first second within in
      let downto = no_longer ys xs second first back in
      ext_get_or d xs ys (omega arith) (λ i here. same_at xs ys first second within back i here (omega arith))
