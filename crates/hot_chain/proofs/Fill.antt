-- What the walks from the greatest start down to the first line pointer keep.
use Rattle.std.proofs.Common.{◌≡◌, IfSome, IfNone, replicate, inl, inr, ℕ, ◌+◌, ◌≤◌, List, Option, Some, None, length, refl, sym, subst, ◌∙◌, arith}
use Rattle.std.proofs.lemmas.Bool.{cases_lt}
use Rattle.std.proofs.lemmas.List.{get_or_past, get_or-replicate, length-replicate}
use Rattle.std.proofs.lemmas.Option.{none-some}
use Rattle.heap_page.specs.Line.{heap_line_count}
use Rattle.hot_chain.specs.Chain.{HasMember, IsHeapOnly, IsInNoChain}
use Rattle.hot_chain.specs.Roots.{IsGreatestStart, IsRoot}
use Rattle.hot_chain.specs.Pass.RootOffsets.{root_offset, IsClosed, IsWalked, AreGreatestFrom}
use Rattle.hot_chain.proofs.ChainLemmas.{member-of-line}
use Rattle.hot_chain.proofs.Walk.{cases_option}

-- the starts from a number on are walked
pub record IsFilling (page : List ℕ) (from : ℕ) (offsets : List (Option ℕ)) : Type 0 where
  pub room : length offsets ≡ heap_line_count page + 1
  pub closed : IsClosed page offsets
  pub greatest : AreGreatestFrom page from offsets

-- where there is none there is none
none_of_nones : (n item : ℕ) → root_offset (replicate n None) item ≡ None
none_of_nones n item =
    elim (cases_lt item n) as (λ _. root_offset (replicate n None) item ≡ None) [
      | inl inside ↦ get_or-replicate n item None None inside
      | inr past ↦ get_or_past (replicate n None) item None (omega (arith, length-replicate {A = Option ℕ} n None))
    ]

-- no start is walked, and no item has a root offset
pub fill_begins : (page : List ℕ) (from : ℕ) → from ≡ heap_line_count page + 1 → IsFilling page from (replicate from None)
fill_begins page from last = record {
  room = length-replicate {A = Option ℕ} from None ∙ last;
  closed = record { next = λ item next has f. absurd (none-some has.0 (sym (none_of_nones from item) ∙ has.1)) };
  greatest = record {
    some = λ item start has. absurd (none-some start (sym (none_of_nones from item) ∙ has));
    none = λ item start bare after m. let line = member-of-line page start item m in omega (arith, line.1);
  };
}

-- the start was walked, and those above it before
pub fill_steps : (page : List ℕ) (from start : ℕ) (old new : List (Option ℕ)) → from ≡ start + 1 → AreGreatestFrom page from old → IsWalked page start old new → AreGreatestFrom page start new
fill_steps page from start old new next before w = record {
  some = λ item other has.
      elim (cases_option (root_offset old item)) as (λ _. IsGreatestStart page item other) [
        | inl bare ↦
            let got = w.given item other bare has in
            let greatest : (higher : ℕ) → HasMember page higher item → higher ≤ start =
            λ higher m.
            elim (cases_lt start higher) as (λ _. higher ≤ start) [
              | inl above ↦ absurd (before.none item higher bare (omega arith) m)
              | inr upto ↦ upto
            ] in
            subst (λ (k : ℕ). IsGreatestStart page item k) (sym got.0) (got.1, greatest)
        | inr had ↦ before.some item other (had.1 ∙ sym (w.kept item had.0 had.1) ∙ has)
      ];
  none = λ item other bare after m.
      elim (cases_option (root_offset old item)) as (λ _. ⊥) [
        | inl was ↦
            elim (cases_lt start other) as (λ _. ⊥) [
              | inl above ↦ before.none item other was (omega arith) m
              | inr upto ↦
                  let same : other ≡ start = omega arith in
                  let has = w.reached item (subst (λ (k : ℕ). HasMember page k item) same m) in
                  none-some has.0 (sym bare ∙ has.1)
            ]
        | inr had ↦ none-some had.0 (sym bare ∙ w.kept item had.0 had.1)
      ];
}

-- the starts from 1 on are all
pub fill_ends : (page : List ℕ) (from : ℕ) (offsets : List (Option ℕ)) → from ≤ 1 → AreGreatestFrom page from offsets → AreGreatestFrom page 1 offsets
fill_ends page from offsets least greatest = record {
  some = greatest.some;
  none = λ item start bare after m. greatest.none item start bare (omega arith) m;
}

-- a fact of the value that there is, and one where there is none
some_of : (o : Option ℕ) (P : ℕ → Type 0) → ((x : ℕ) → o ≡ Some x → P x) → IfSome o P
some_of None P f = tt
some_of (Some x) P f = f x refl

none_of : (o : Option ℕ) (P : Type 0) → (o ≡ None → P) → IfNone o P
none_of None P f = f refl
none_of (Some x) P f = tt

-- where all starts are walked, the root offset of a heap-only item is its root, and one that has none is in no chain
pub heap_only_root : (page : List ℕ) (offsets : List (Option ℕ)) (item : ℕ) → AreGreatestFrom page 1 offsets → IsHeapOnly page item
    → IfSome (root_offset offsets item) (IsRoot page item)
heap_only_root page offsets item greatest only =
    some_of (root_offset offsets item) (IsRoot page item) (λ start has. inr (only, greatest.some item start has))

pub in_no_chain : (page : List ℕ) (offsets : List (Option ℕ)) (item : ℕ) → AreGreatestFrom page 1 offsets
    → IfNone (root_offset offsets item) (IsInNoChain page item)
in_no_chain page offsets item greatest =
    none_of (root_offset offsets item) (IsInNoChain page item)
    (λ bare start m. let line = member-of-line page start item m in greatest.none item start bare (omega (arith, line.0)) m)
