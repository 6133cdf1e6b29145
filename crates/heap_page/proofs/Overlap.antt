-- Two intervals of bytes that begin at multiples of eight share a byte exactly where they share an eight-byte unit.
use Rattle.std.proofs.Common.{◌≡◌, ℕ, ◌+◌, ◌*◌, ◌/◌, ◌%◌, ◌<◌, ◌≤◌, List, Bool, true, false, not, IsTrue, MatchBool, ◌↔◌, refl, ap, subst, ◌∙◌, inl, inr, arith}
use Rattle.std.proofs.lemmas.Bool.{false≢true}
use Rattle.pg_bytes.specs.Lines.{line_at}
use Rattle.pg_bytes.specs.declared.line_ptr.LinePtr.{LinePtr}
use Rattle.heap_page.specs.Fault.{IsMisplaced, IsOutOfPlace, SharesWithLesser}
use Rattle.heap_page.specs.Line.{HasByte}
use Rattle.heap_page.specs.Pass.Units.{HasUnit, IsMapBelow, IsMarked}

-- the unit of a byte
pub unit-of-byte : (offset length byte : ℕ) → offset ≤ byte → byte < offset + length → (offset / 8 ≤ byte / 8) × (byte / 8 < (offset + length + 7) / 8)
unit-of-byte offset length byte low high = (omega arith, omega arith)

-- the first byte of a unit
pub byte-of-unit : (offset length unit : ℕ) → offset % 8 ≡ 0 → offset / 8 ≤ unit → unit < (offset + length + 7) / 8 → (offset ≤ 8 * unit) × (8 * unit < offset + length)
byte-of-unit offset length unit aligned low high = (omega arith, omega arith)

pub HasByte-unit : (line : LinePtr) (byte : ℕ) → HasByte line byte → HasUnit line (byte / 8)
HasByte-unit line byte has = unit-of-byte line.offset line.length byte has.0 has.1

pub HasUnit-byte : (line : LinePtr) (unit : ℕ) → line.offset % 8 ≡ 0 → HasUnit line unit → HasByte line (8 * unit)
HasUnit-byte line unit aligned has = byte-of-unit line.offset line.length unit aligned has.0 has.1

-- an item that shares a byte with a lesser one has a marked unit
pub shares-marked : (page : List ℕ) (k : ℕ) (marked : List Bool) → IsMapBelow page k marked → SharesWithLesser page k → (unit : ℕ) × HasUnit (line_at page k) unit × IsMarked marked unit
shares-marked page k marked map (lesser, below, normal, inside, (byte, theirs, ours)) =
    (byte / 8, HasByte-unit (line_at page k) byte ours, (map.marks (byte / 8)).1 (lesser, below, normal, HasByte-unit (line_at page lesser) byte theirs))

-- an aligned item that has a marked unit shares a byte with a lesser one
pub marked-shares : (page : List ℕ) (k unit : ℕ) (marked : List Bool) → IsMapBelow page k marked → (line_at page k).offset % 8 ≡ 0 → HasUnit (line_at page k) unit → IsMarked marked unit → SharesWithLesser page k
marked-shares page k unit marked map aligned ours mark =
    let found = (map.marks unit).0 mark in (
      found.0,
      found.1,
      found.2,
      map.inside found.0 found.1 found.2,
      (8 * unit, HasUnit-byte (line_at page found.0) unit (map.aligned found.0 found.1 found.2) found.3, HasUnit-byte (line_at page k) unit aligned ours),
    )

-- a line pointer in its place is misplaced only for a lesser item's sake
misplaced-shares : (page : List ℕ) (k : ℕ) → (IsOutOfPlace page (line_at page k) → ⊥) → IsMisplaced page k → SharesWithLesser page k
misplaced-shares page k placed (inl out) = absurd (placed out)
misplaced-shares page k placed (inr shares) = shares

-- the units of an item as they were found to be free or not
abbrev pub Free : List Bool → ℕ → ℕ → Bool → Type 0
Free marked first end free =
    MatchBool free ((unit : ℕ) → first ≤ unit → unit < end → IsMarked marked unit → ⊥) ((unit : ℕ) × (first ≤ unit) × (unit < end) × IsMarked marked unit)

misplaced-free : (page : List ℕ) (k : ℕ) (marked : List Bool) (free : Bool) → IsMapBelow page k marked → (IsOutOfPlace page (line_at page k) → ⊥)
    → Free marked ((line_at page k).offset / 8) (((line_at page k).offset + (line_at page k).length + 7) / 8) free → IsTrue (not free) ↔ IsMisplaced page k
misplaced-free page k marked true map placed free =
    (λ h. absurd (false≢true h), λ bad. let taken = shares-marked page k marked map (misplaced-shares page k placed bad) in absurd (free taken.0 taken.1.0 taken.1.1 taken.2))
misplaced-free page k marked false map placed taken =
    let skew : 0 < (line_at page k).offset % 8 → ⊥ = λ h. placed (inl (λ e. omega arith)) in
    (λ _. inr (marked-shares page k taken.0 marked map (omega arith) (taken.1, taken.2) taken.3), λ _. refl)

-- an item in its place is misplaced exactly where one of its units isn't free
pub misplaced-by-units : (page : List ℕ) (k : ℕ) (marked : List Bool) (line : LinePtr) (first end : ℕ) (free : Bool) → line ≡ line_at page k → IsMapBelow page k marked
    → (IsOutOfPlace page line → ⊥) → first ≡ line.offset / 8 → end ≡ (line.offset + line.length + 7) / 8 → Free marked first end free → IsTrue (not free) ↔ IsMisplaced page k
misplaced-by-units page k marked line first end free read map placed from to units =
    let here : first ≡ (line_at page k).offset / 8 = from ∙ ap (λ (l : LinePtr). l.offset / 8) read in
    let there : end ≡ ((line_at page k).offset + (line_at page k).length + 7) / 8 = to ∙ ap (λ (l : LinePtr). (l.offset + l.length + 7) / 8) read in
    misplaced-free page k marked free map (subst (λ (l : LinePtr). IsOutOfPlace page l → ⊥) read placed)
    (subst (λ (e : ℕ). Free marked ((line_at page k).offset / 8) e free) there (subst (λ (f : ℕ). Free marked f end free) here units))
