use Rattle.std.proofs.Common.{◌≡◌, ℕ, zero, suc, [], ◌∷◌, Some, ◌+◌, ◌-◌, ◌<◌, ◌≤◌, Bool, true, false, not, MatchBool, List, length, get_or, refl, sym, ap, ◌∙◌, arith}
use Rattle.std.proofs.Math.Bool.{beq}
use Rattle.std.proofs.lemmas.Bool.{false≢true}
use Rattle.std.proofs.lemmas.Option.{get_or_from_slice_get}
use Rattle.std.proofs.lemmas.List.Edits.{get_or-between, length-between}
use Rattle.std.specs.List.{IsAnyAnswer, between}
use Rattle.heap_page.specs.Pass.Units.{IsMarked}
use Rattle.heap_page.proofs.units.Units.is_free.Goals as goal

beq-true : (b : Bool) → beq b true ≡ b
beq-true true = refl
beq-true false = refl

-- a unit is marked where the mark at its place is true
marked-here : (marked : List Bool) (unit : ℕ) → IsMarked marked unit → get_or marked unit false ≡ true
marked-here marked unit mark = get_or_from_slice_get marked unit true false mark

here-marked : (marked : List Bool) (unit : ℕ) → get_or marked unit false ≡ true → IsMarked marked unit
here-marked [] unit mark = absurd (false≢true mark)
here-marked (m ∷ ms) zero mark = ap Some mark
here-marked (m ∷ ms) (suc unit) mark = here-marked ms unit mark

-- a mark of a part by its place in the whole
part : (marked : List Bool) (from to unit : ℕ) → from ≤ unit → unit < to → get_or (between from to marked) (unit - from) false ≡ get_or marked unit false
part marked from to unit low high =
    get_or-between marked from to (unit - from) false (omega arith)
    ∙ ap (λ (u : ℕ). get_or marked u false) (omega arith)

-- what the search for a mark says of the part that was searched
free : (marked : List Bool) (from to : ℕ) (any : Bool) → to ≤ length marked → IsAnyAnswer (λ y b. beq y true ≡ b) (between from to marked) any
    → MatchBool (not any) ((unit : ℕ) → from ≤ unit → unit < to → IsMarked marked unit → ⊥) ((unit : ℕ) × (from ≤ unit) × (unit < to) × IsMarked marked unit)
free marked from to false within answer = λ (unit : ℕ) (low : from ≤ unit) (high : unit < to) (mark : IsMarked marked unit).
    let size = length-between marked from to within in
    let unmarked = answer (unit - from) false (omega arith) (omega arith) in
    false≢true (sym unmarked ∙ beq-true _ ∙ part marked from to unit low high ∙ marked-here marked unit mark)
free marked from to true within answer =
    let size = length-between marked from to within in
    let inside : from + answer.0 < to = omega (arith, answer.1) in
    let mark = sym (get_or-between marked from to answer.0 false inside) ∙ sym (beq-true _) ∙ answer.2 false in
    (from + answer.0, omega arith, inside, here-marked marked (from + answer.0) mark)

pub returns : goal.returns
returns c =
    let marked = c.args.self.now.marked in
    let sized = c.type_inv.self in
    free marked c.args.from c.args.to c.contains.result (omega (arith, sized)) c.contains.ensures.cases
