-- What the walk along one chain keeps, and that at its end each member of the chain has a root offset.
use Rattle.std.specs.List.{count_by}
use Rattle.std.specs.Option.{is_none, is_some}
use Rattle.std.proofs.Common.{true, false, cond, ◌≡◌, ◌⊎◌, inl, inr, ℕ, zero, suc, ◌+◌, ◌<◌, List, Option, Some, None, IfNone, IfSome, length, get_or, refl, sym, ap, subst, ◌∙◌, arith, get_or-set_other, get_or-set_same}
use Rattle.std.proofs.Math.ListN.{set}
use Rattle.std.proofs.lemmas.List.{length-set}
use Rattle.std.proofs.lemmas.List.Sums.{sum_by-set}
use Rattle.std.proofs.lemmas.Bool.{cases_eq}
use Rattle.std.proofs.lemmas.Option.{none-some, same_Some}
use Rattle.heap_page.specs.Line.{heap_line_count, IsNormal}
use Rattle.hot_chain.specs.Chain.{Follows, IsHead, IsLast, IsNoStart, IsBehind, HasMember}
use Rattle.hot_chain.specs.Pass.RootOffsets.{root_offset, HasRootOffset, IsClosed, IsWalked}
use Rattle.hot_chain.proofs.ChainLemmas.{follows-is-one, head-is-one, head-is-member, next-is-member, member-is-normal}

-- there is a value, or none
pub cases_option : (o : Option ℕ) → (o ≡ None) ⊎ ((x : ℕ) × (o ≡ Some x))
cases_option None = inl refl
cases_option (Some x) = inr (x, refl)

-- The walk has come to an item, or to the chain's end.
pub record IsWalking (page : List ℕ) (start : ℕ) (old : List (Option ℕ)) (reached : Option ℕ) (new : List (Option ℕ)) : Type 0 where
  pub room : length new ≡ heap_line_count page + 1
  pub kept : (item other : ℕ) → root_offset old item ≡ Some other → root_offset new item ≡ Some other
  pub given : (item other : ℕ) → root_offset old item ≡ None → root_offset new item ≡ Some other → (other ≡ start) × HasMember page start item
  pub here : (item : ℕ) → reached ≡ Some item → HasMember page start item
  pub next : (item next : ℕ) → HasRootOffset new item → Follows page item next → HasRootOffset new next ⊎ (reached ≡ Some next)
  pub head : (head : ℕ) → IsHead page start head → HasRootOffset new head ⊎ (reached ≡ Some head)

-- what a call gave is the only thing of which the fact holds
only : (Fact : ℕ → Type 0) → ((a b : ℕ) → Fact a → Fact b → a ≡ b) → (o : Option ℕ) → IfSome o Fact → IfNone o ((k : ℕ) → Fact k → ⊥) → (k : ℕ) → Fact k → o ≡ Some k
only Fact one None some none k f = absurd (none k f)
only Fact one (Some x) some none k f = ap (λ (n : ℕ). Some n) (one x k some f)

holds_at : (Fact : ℕ → Type 0) (o : Option ℕ) (k : ℕ) → IfSome o Fact → o ≡ Some k → Fact k
holds_at Fact None k some e = absurd (none-some k e)
holds_at Fact (Some x) k some e = subst Fact (same_Some x k e) some

-- an item that has a root offset has one when another gets one
offset_set : (new : List (Option ℕ)) (item start k : ℕ) → item < length new → HasRootOffset new k → HasRootOffset (set new item (Some start)) k
offset_set new item start k inside has =
    elim (cases_eq k item) as (λ _. HasRootOffset (set new item (Some start)) k) [
      | inl e ↦ (start, ap (λ (j : ℕ). get_or (set new item (Some start)) j None) e ∙ get_or-set_same new item (Some start) None inside)
      | inr ne ↦ (has.0, get_or-set_other new item k (Some start) None ne ∙ has.1)
    ]

offset_at : (new : List (Option ℕ)) (item start : ℕ) → item < length new → HasRootOffset (set new item (Some start)) item
offset_at new item start inside = (start, get_or-set_same new item (Some start) None inside)

pub walk_begins : (page : List ℕ) (start : ℕ) (old : List (Option ℕ)) (reached : Option ℕ) → length old ≡ heap_line_count page + 1 → IsClosed page old
    → IfSome reached (IsHead page start) → IfNone reached (IsNoStart page start) → IsWalking page start old reached old
walk_begins page start old reached room closed some none = record {
  room = room;
  kept = λ item other e. e;
  given = λ item other bare has. absurd (none-some other (sym bare ∙ has));
  here = λ item e. head-is-member page start item (holds_at (λ (k : ℕ). IsHead page start k) reached item some e);
  next = λ item next has f. inl (closed.next item next has f);
  head = λ head h. inr (only (λ (k : ℕ). IsHead page start k) (head-is-one page start) reached some none head h);
}

module _ (page : List ℕ) (start : ℕ) (old : List (Option ℕ)) (reached : Option ℕ) (new : List (Option ℕ)) (w : IsWalking page start old reached new) where
  pub here_normal : (item : ℕ) → reached ≡ Some item → IsNormal page item
  here_normal item e = member-is-normal page start item (w.here item e)

  pub here_inside : (item : ℕ) → reached ≡ Some item → item < length new
  here_inside item e = let normal = here_normal item e in omega (arith, w.room, normal.0.1)

  module _ (item : ℕ) (at : reached ≡ Some item) (bare : root_offset new item ≡ None) (after : Option ℕ) (some : IfSome after (Follows page item)) (none : IfNone after (IsLast page item)) where
    -- an item that has a root offset, or that the walk has come to, has one now
    still : (k : ℕ) → HasRootOffset new k ⊎ (reached ≡ Some k) → HasRootOffset (set new item (Some start)) k
    still k (inl has) = offset_set new item start k (here_inside item at) has
    still k (inr here) = subst (λ (j : ℕ). HasRootOffset (set new item (Some start)) j) (same_Some item k (sym at ∙ here)) (offset_at new item start (here_inside item at))

    pub walk_steps : IsWalking page start old after (set new item (Some start))
    walk_steps = record {
      room = length-set new item (Some start) ∙ w.room;
      kept = λ k other e.
          elim (cases_eq k item) as (λ _. root_offset (set new item (Some start)) k ≡ Some other) [
            | inl same ↦ absurd (none-some other (sym bare ∙ ap (λ (j : ℕ). root_offset new j) (sym same) ∙ w.kept k other e))
            | inr ne ↦ get_or-set_other new item k (Some start) None ne ∙ w.kept k other e
          ];
      given = λ k other e has.
          elim (cases_eq k item) as (λ _. (other ≡ start) × HasMember page start k) [
            | inl same ↦ (
              same_Some other start (sym has ∙ ap (λ (j : ℕ). get_or (set new item (Some start)) j None) same ∙ get_or-set_same new item (Some start) None (here_inside item at)),
              subst (λ (j : ℕ). HasMember page start j) (sym same) (w.here item at),
            )
            | inr ne ↦ w.given k other e (sym (get_or-set_other new item k (Some start) None ne) ∙ has)
          ];
      here = λ k e. next-is-member page start item k (w.here item at) (holds_at (λ (j : ℕ). Follows page item j) after k some e);
      next = λ k next has f.
          elim (cases_eq k item) as (λ _. HasRootOffset (set new item (Some start)) next ⊎ (after ≡ Some next)) [
            | inl same ↦ inr (only (λ (j : ℕ). Follows page item j) (follows-is-one page item) after some none next (subst (λ (j : ℕ). Follows page j next) same f))
            | inr ne ↦ inl (still next (w.next k next (has.0, sym (get_or-set_other new item k (Some start) None ne) ∙ has.1) f))
          ];
      head = λ head h. inl (still head (w.head head h));
    }

  module _ (ended : (item : ℕ) → reached ≡ Some item → HasRootOffset new item) where
    ended_at : (k : ℕ) → HasRootOffset new k ⊎ (reached ≡ Some k) → HasRootOffset new k
    ended_at k (inl has) = has
    ended_at k (inr here) = ended k here

    pub walk_closes : IsClosed page new
    walk_closes = record { next = λ item next has f. ended_at next (w.next item next has f) }

    behind_has : (steps item later : ℕ) → HasRootOffset new item → IsBehind page item steps later → HasRootOffset new later
    behind_has zero item later has same = subst (λ (j : ℕ). HasRootOffset new j) same has
    behind_has (suc steps) item later has b = behind_has steps b.0 later (walk_closes.next item b.0 has b.1) b.2

    pub walk_ends : IsWalked page start old new
    walk_ends = record {
      kept = w.kept;
      given = w.given;
      reached = λ item m. behind_has m.2.0 m.0 item (ended_at m.0 (w.head m.0 m.1)) m.2.1;
    }

-- what the test of an item says
pub is_bare : (o : Option ℕ) → is_some o ≡ false → o ≡ None
is_bare None t = refl
is_bare (Some x) t = cc

pub is_given : (o : Option ℕ) → is_some o ≡ true → (x : ℕ) × (o ≡ Some x)
is_given None t = cc
is_given (Some x) t = (x, refl)

-- the walk ends at an item that has a root offset
pub ended_here : (reached : Option ℕ) (offsets : List (Option ℕ)) (item : ℕ) → reached ≡ Some item → HasRootOffset offsets item
    → (k : ℕ) → reached ≡ Some k → HasRootOffset offsets k
ended_here reached offsets item at has k e = subst (λ (j : ℕ). HasRootOffset offsets j) (same_Some item k (sym at ∙ e)) has

-- fewer items are without a root offset once one more has it
pub fewer_bare : (offsets : List (Option ℕ)) (item start : ℕ) → item < length offsets → root_offset offsets item ≡ None
    → count_by is_none (set offsets item (Some start)) < count_by is_none offsets
fewer_bare offsets item start inside bare =
    let one : Option ℕ → ℕ = λ o. cond (is_none o) 1 0 in
    let was : one (get_or offsets item None) ≡ 1 = ap one bare in
    omega (arith, sum_by-set one offsets item (Some start) None inside)
