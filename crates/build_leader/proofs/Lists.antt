-- Lists: the last of one, and one behind the other.
use Rattle.std.proofs.Common.{◌≡◌, ℕ, ◌-◌, ◌≤◌, List, [], ◌∷◌, ◌++◌, length, map, get_or, set, refl, sym, ap, ap₂, ◌∙◌, arith, All}
use Rattle.std.proofs.Math.Seq.{get_or-append_seam, set-append_seam}
use Rattle.std.proofs.lemmas.List.{append_assoc, length-append}
use Rattle.std.proofs.lemmas.List.Elements.{All-cons, All-head, All-nil, All-tail}

-- ---- functions that agree

pub map_same : {X Y : Type 0} (f g : X → Y) → ((x : X) → f x ≡ g x) → (xs : List X) → map f xs ≡ map g xs
map_same f g same [] = refl
map_same f g same (x ∷ xs) = ap₂ (λ y ys. y ∷ ys) (same x) (map_same f g same xs)

-- ---- the last of a list

module _ {X : Type 0} where
  pub record HasLast (items : List X) : Type 0 where
    pub front : List X
    pub last : X
    pub are : items ≡ front ++ last ∷ []

  pub has_last : (items : List X) → 1 ≤ length items → HasLast items
  has_last [] some = absurd (omega arith)
  has_last (first ∷ []) some = record { front = []; last = first; are = refl }
  has_last (first ∷ second ∷ others) some =
      let behind = has_last (second ∷ others) (omega arith) in record {
        front = first ∷ behind.front;
        last = behind.last;
        are = ap (λ (items : List X). first ∷ items) behind.are;
      }

  last_place : (front : List X) (last : X) → length (front ++ last ∷ []) - 1 ≡ length front
  last_place front last = let both = length-append front (last ∷ []) in omega arith

  pub get_last : (front : List X) (last d : X) → get_or (front ++ last ∷ []) (length (front ++ last ∷ []) - 1) d ≡ last
  get_last front last d =
      ap (λ (place : ℕ). get_or (front ++ last ∷ []) place d) (last_place front last) ∙ get_or-append_seam front last [] d

  pub set_last : (front : List X) (last other : X)
      → set (front ++ last ∷ []) (length (front ++ last ∷ []) - 1) other ≡ front ++ other ∷ []
  set_last front last other =
      ap (λ (place : ℕ). set (front ++ last ∷ []) place other) (last_place front last) ∙ set-append_seam front last [] other

-- ---- one list behind the other

module _ {X : Type 0} (P : X → Type 0) where
  pub all_front : (a b : List X) → All P (a ++ b) → All P a
  all_front [] b all = All-nil P
  all_front (x ∷ a) b all = All-cons P x a (All-head P x (a ++ b) all) (all_front a b (All-tail P x (a ++ b) all))

  pub all_behind : (a b : List X) → All P (a ++ b) → All P b
  all_behind [] b all = all
  all_behind (x ∷ a) b all = all_behind a b (All-tail P x (a ++ b) all)

-- the one that comes next, in front of those behind it
pub one_more : {X : Type 0} (all before : List X) (one : X) (behind rest : List X) → all ≡ before ++ rest → rest ≡ one ∷ behind
    → all ≡ (before ++ one ∷ []) ++ behind
one_more all before one behind rest are is =
    are ∙ ap (λ items. before ++ items) is ∙ sym (append_assoc before (one ∷ []) behind)
