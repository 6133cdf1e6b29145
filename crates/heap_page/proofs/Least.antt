-- How the faults of a page follow from those of its items, asked in ascending order.
use Rattle.std.proofs.Common.{◌≡◌, ◌≤◌, ℕ, ◌+◌, List, Bool, true, false, IsSome, IsNone, refl, sym, subst, inl, inr, arith, below_more}
use Rattle.std.proofs.lemmas.Bool.{cases_lt}
use Rattle.pg_bytes.specs.LeastFault.{IsNotBehind}
use Rattle.pg_bytes.specs.Lines.{line_at}
use Rattle.heap_page.specs.Fault.{HasBadTuple, IsMisplaced, IsUnfit, number_of_page_cause, BreaksRule, IsLeastPageFault}
use Rattle.heap_page.specs.Line.{IsNormal, IsNew}
use Rattle.heap_page.specs.Tuple.{header_of}
use Rattle.heap_page.specs.Visibility.{state_of}
use Rattle.pg_bytes.specs.declared.line_ptr.LinePtr.{LinePtr}
use Rattle.heap_page.specs.declared.header.Header.{Header}
use Rattle.heap_page.specs.Pass.Faults.{IsFaultAt, IsLeastCause, IsSoundAt, IsSoundBelow}
use Rattle.heap_page.specs.declared.fault.PageCause.{PageCause}
use Rattle.heap_page.specs.declared.fault.PageCause.TheVariants.{BadHeader, BadLine, BadTuple, Unsettled}
use Rattle.heap_page.specs.declared.fault.PageFault.{PageFault}

-- a faultless item more
pub sound-more : (page : List ℕ) (columns k : ℕ) → IsSoundBelow page columns k → IsSoundAt page columns k → IsSoundBelow page columns (k + 1)
sound-more page columns k below here = record {
  none = λ item cause within has. below_more (λ (i : ℕ). BreaksRule page columns i cause → ⊥) k (λ i h. below.none i cause h) (here.none cause) item within has;
}

-- the first item with a fault has the least
not-behind : (page : List ℕ) (columns k : ℕ) (fault : PageFault) → IsSoundBelow page columns k → (at : IsFaultAt page columns k fault)
    → (item : ℕ) (other : PageCause) → BreaksRule page columns item other
    → IsNotBehind k (number_of_page_cause at.cause) item (number_of_page_cause other)
not-behind page columns k fault below at item other has =
    elim (cases_lt k item) [
      | inl h ↦ inl h
      | inr h ↦ elim (cases_lt item k) [
        | inl lesser ↦ absurd (below.none item other lesser has)
        | inr same ↦ let equal : item ≡ k = omega arith in
            inr (sym equal, at.least.least other (subst (λ (i : ℕ). BreaksRule page columns i other) equal has))
      ]
    ]

pub least-fault : (page : List ℕ) (columns k : ℕ) (fault : PageFault) → (IsNew page → ⊥) → IsSoundBelow page columns k
    → IsFaultAt page columns k fault → IsLeastPageFault page columns fault
least-fault page columns k fault used below at = record {
  cause = at.cause;
  told = at.told;
  there = (used, subst (λ (i : ℕ). BreaksRule page columns i at.cause) (sym at.here) at.least.there);
  least = λ item other has.
      subst (λ (i : ℕ). IsNotBehind i fault.cause item (number_of_page_cause other)) (sym at.here)
      (subst (λ (n : ℕ). IsNotBehind k n item (number_of_page_cause other)) (sym at.told)
      (not-behind page columns k fault below at item other has.1));
}

-- a tuple that isn't settled has no lesser fault where its place and its header are good
least-unsettled : (page : List ℕ) (columns k : ℕ) → IsNormal page k → (IsMisplaced page k → ⊥) → (HasBadTuple page columns k → ⊥) → (other : PageCause) → BreaksRule page columns k other → 4 ≤ number_of_page_cause other
least-unsettled page columns k normal placed fits BadHeader has = absurd (omega (arith, normal.0.0, has.0))
least-unsettled page columns k normal placed fits BadLine (inl h) = absurd (placed h.1)
least-unsettled page columns k normal placed fits BadLine (inr h) = absurd (omega (arith, normal.1, h.0.1))
least-unsettled page columns k normal placed fits BadTuple has = absurd (fits has.1)
least-unsettled page columns k normal placed fits Unsettled has = omega arith

not-true : (b : Bool) → (b ≡ true → ⊥) → b ≡ false
not-true true h = absurd (h refl)
not-true false h = refl

pub unsettled-least : (page : List ℕ) (columns k : ℕ) (line : LinePtr) (header : Header) → line ≡ line_at page k → header ≡ header_of page k → IsNormal page k → (IsMisplaced page k → ⊥)
    → (IsUnfit header line.length columns → ⊥) → (IsSome (state_of header.infomask) → ⊥) → IsLeastCause page columns k Unsettled
unsettled-least page columns k line header read here normal placed fits unknown = record {
  there = (normal, subst (λ (h : Header). IsNone (state_of h.infomask)) here (not-true _ unknown));
  least = least-unsettled page columns k normal placed
      (subst (λ (l : LinePtr). IsUnfit (header_of page k) l.length columns → ⊥) read (subst (λ (h : Header). IsUnfit h line.length columns → ⊥) here fits));
}
