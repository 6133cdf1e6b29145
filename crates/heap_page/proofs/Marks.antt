-- How the map of units grows by an item.
use Rattle.std.proofs.Common.{◌≡◌, ◌⊎◌, ◌↔◌, ℕ, ◌+◌, ◌/◌, ◌%◌, ◌<◌, ◌≤◌, List, Bool, subst, inl, inr, arith, below_more}
use Rattle.pg_bytes.specs.Lines.{EndsInside, line_at}
use Rattle.pg_bytes.specs.declared.line_ptr.LinePtr.{LinePtr}
use Rattle.heap_page.specs.Fault.{IsMisplaced}
use Rattle.heap_page.specs.Line.{IsNormal}
use Rattle.heap_page.specs.Pass.Units.{HasUnit, IsMapBelow, IsMarked, IsTakenBelow}
use Rattle.heap_page.proofs.Sound.{place-bounds}

-- the units of an item, as they were found
abbrev Adds : List Bool → List Bool → LinePtr → Type 0
Adds old new line = (unit : ℕ) → IsMarked new unit ↔ (IsMarked old unit ⊎ HasUnit line unit)

forth : (page : List ℕ) (k unit : ℕ) (old new : List Bool) → IsMapBelow page k old → IsNormal page k → IsMarked old unit ⊎ HasUnit (line_at page k) unit → IsTakenBelow page (k + 1) unit
forth page k unit old new map normal (inl mark) =
    let owner = (map.marks unit).0 mark in
    (owner.0, omega (arith, owner.1), owner.2, owner.3)
forth page k unit old new map normal (inr has) = (k, omega arith, normal, has)

back : (page : List ℕ) (k unit : ℕ) (old : List Bool) → IsMapBelow page k old → IsTakenBelow page (k + 1) unit → IsMarked old unit ⊎ HasUnit (line_at page k) unit
back page k unit old map (lesser, within, normal, has) =
    below_more (λ (item : ℕ). IsNormal page item → HasUnit (line_at page item) unit → IsMarked old unit ⊎ HasUnit (line_at page k) unit) k
    (λ item h n u. inl ((map.marks unit).1 (item, h, n, u))) (λ n u. inr u) lesser within normal has

grown : (page : List ℕ) (k : ℕ) (old new : List Bool) → IsMapBelow page k old → IsNormal page k → (IsMisplaced page k → ⊥) → Adds old new (line_at page k) → IsMapBelow page (k + 1) new
grown page k old new map normal placed adds =
    let bounds = place-bounds page k placed in
    record {
      marks = λ unit. (λ mark. forth page k unit old new map normal ((adds unit).0 mark), λ owner. (adds unit).1 (back page k unit old map owner));
      aligned = below_more (λ (item : ℕ). IsNormal page item → (line_at page item).offset % 8 ≡ 0) k map.aligned (λ _. bounds.0);
      inside = below_more (λ (item : ℕ). IsNormal page item → EndsInside (line_at page item)) k map.inside (λ _. bounds.1);
    }

-- the map after a placed item's units were marked
pub marked-map : (page : List ℕ) (k : ℕ) (old new : List Bool) (line : LinePtr) (first end : ℕ) → line ≡ line_at page k → IsMapBelow page k old → IsNormal page k → (IsMisplaced page k → ⊥)
    → first ≡ line.offset / 8 → end ≡ (line.offset + line.length + 7) / 8
    → ((unit : ℕ) → IsMarked new unit ↔ (IsMarked old unit ⊎ ((first ≤ unit) × (unit < end)))) → IsMapBelow page (k + 1) new
marked-map page k old new line first end read map normal placed from to adds =
    grown page k old new map normal placed
    (subst (λ (l : LinePtr). Adds old new l) read
    (subst (λ (e : ℕ). (unit : ℕ) → IsMarked new unit ↔ (IsMarked old unit ⊎ ((line.offset / 8 ≤ unit) × (unit < e)))) to
    (subst (λ (f : ℕ). (unit : ℕ) → IsMarked new unit ↔ (IsMarked old unit ⊎ ((f ≤ unit) × (unit < end)))) from adds)))
