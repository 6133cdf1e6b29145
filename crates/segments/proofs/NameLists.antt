-- The names of segments as a list, and that no two are the same.
use Rattle.std.proofs.Common.{◌≡◌, ℕ, zero, suc, ◌+◌, ◌<◌, ◌≤◌, ◌^◌, List, [], ◌∷◌, ◌++◌, length, get_or, refl, sym, ap, ◌∙◌, arith, length-append, inl, inr}
use Rattle.std.specs.Prelude.{Bool, if◌then◌else◌, map}
use Rattle.std.proofs.Math.Dec.{eqb-suc-zero}
use Rattle.std.specs.Fmt.{decimal}
use Rattle.std.specs.List.{range_with_len}
use Rattle.std.proofs.lemmas.Bool.{cases_lt}
use Rattle.std.proofs.lemmas.Fmt.{decimal_injective}
use Rattle.std.proofs.lemmas.List.FromFn.{get_or-map-range_with_len, map-range_with_len_more}
use Rattle.std.proofs.lemmas.List.{map-append}
use Rattle.segments.specs.Names.{segment_name}

-- so many names, with the first one told apart
abbrev pub AreNamed : {S : Type 0} → (S → List ℕ) → List ℕ → List S → Type 0
AreNamed text name strings = map text strings ≡ map (segment_name name) (range_with_len 1 (length strings))

-- one name more
pub named_more : {S : Type 0} (text : S → List ℕ) (name : List ℕ) (strings : List S) (next : S) (number : ℕ) → length strings + 1 ≡ number → AreNamed text name strings
    → text next ≡ segment_name name number → (length (strings ++ next ∷ []) + 1 ≡ number + 1) × AreNamed text name (strings ++ next ∷ [])
named_more text name strings next number counted named is =
    let longer : length (strings ++ next ∷ []) ≡ length strings + 1 = length-append strings (next ∷ []) in (
      omega (arith, longer, counted),
      map-append text strings (next ∷ [])
          ∙ ap (λ (l : List (List ℕ)). l ++ text next ∷ []) named
          ∙ ap (λ (n : List ℕ). map (segment_name name) (range_with_len 1 (length strings)) ++ n ∷ []) is
          ∙ sym (map-range_with_len_more (segment_name name) 1 (length strings) number (omega (arith, counted)))
          ∙ ap (λ (n : ℕ). map (segment_name name) (range_with_len 1 n)) (sym longer),
    )

get_or_map : {S : Type 0} (text : S → List ℕ) (strings : List S) (at : ℕ) (d : S) → text (get_or strings at d) ≡ get_or (map text strings) at (text d)
get_or_map text [] at d = refl
get_or_map text (s ∷ strings) zero d = refl
get_or_map text (s ∷ strings) (suc at) d = get_or_map text strings at d

-- a name at its place
pub named_at : {S : Type 0} (text : S → List ℕ) (name : List ℕ) (strings : List S) (at : ℕ) (d : S) → AreNamed text name strings → at < length strings
    → text (get_or strings at d) ≡ segment_name name (at + 1)
named_at text name strings at d named within =
    get_or_map text strings at d
    ∙ ap (λ (l : List (List ℕ)). get_or l at (text d)) named
    ∙ get_or-map-range_with_len (segment_name name) 1 (length strings) at (at + 1) (text d) within (omega arith)

-- the name of a further segment
further_name : (name : List ℕ) (number : ℕ) → 0 < number → segment_name name number ≡ name ++ (46 ∷ decimal number)
further_name name zero some = absurd (omega (arith, some))
further_name name (suc number) some = ap (λ (first : Bool). if first then name else name ++ (46 ∷ decimal (suc number))) (eqb-suc-zero number)

-- and that of the first
first_name : (name : List ℕ) (number : ℕ) → number ≤ 0 → segment_name name number ≡ name
first_name name zero none = refl
first_name name (suc number) none = absurd (omega (arith, none))

-- the tail of a longer name
same_tail : (name one other : List ℕ) → name ++ one ≡ name ++ other → one ≡ other
same_tail [] one other same = same
same_tail (b ∷ name) one other same = same_tail name one other (let tails : name ++ one ≡ name ++ other = cc in tails)

-- a further segment's name is longer than the first one's
longer : (name : List ℕ) (number : ℕ) → name ≡ name ++ (46 ∷ decimal number) → ⊥
longer name number same =
    let all : length (name ++ (46 ∷ decimal number)) ≡ length name + length (46 ∷ decimal number) = length-append name (46 ∷ decimal number) in
    let lengths : length name ≡ length (name ++ (46 ∷ decimal number)) = ap length same in omega (arith, all, lengths)

same_number : (name : List ℕ) (one other : ℕ) → one < 2 ^ 64 → other < 2 ^ 64 → name ++ (46 ∷ decimal one) ≡ name ++ (46 ∷ decimal other) → one ≡ other
same_number name one other small less same =
    let tails : 46 ∷ decimal one ≡ 46 ∷ decimal other = same_tail name (46 ∷ decimal one) (46 ∷ decimal other) same in
    decimal_injective one other small less (let digits : decimal one ≡ decimal other = cc in digits)

-- segments have different names
pub names_differ : (name : List ℕ) (one other : ℕ) → one < 2 ^ 64 → other < 2 ^ 64 → segment_name name one ≡ segment_name name other → one ≡ other
names_differ name one other small less same = elim (cases_lt 0 one) [
  | inl first ↦ elim (cases_lt 0 other) [
    | inl second ↦ same_number name one other small less (sym (further_name name one first) ∙ same ∙ further_name name other second)
    | inr none ↦ absurd (longer name one (sym (first_name name other none) ∙ sym same ∙ further_name name one first))
  ]
  | inr none ↦ elim (cases_lt 0 other) [
    | inl second ↦ absurd (longer name other (sym (first_name name one none) ∙ same ∙ further_name name other second))
    | inr zeros ↦ omega (arith, none, zeros)
  ]
]
