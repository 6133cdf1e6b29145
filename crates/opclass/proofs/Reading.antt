-- How bytes that show their end are read: exactly one way.
use Rattle.std.proofs.Common.{◌≡◌, ◌≢◌, ℕ, ◌-◌, ◌<◌, ◌≤◌, ◌==◌, if◌then◌else◌, Bool, true, false, Option, Some, None, List, [], ◌∷◌, ◌++◌, length, take, drop, slice_index, refl, sym, ap, ◌∙◌, arith, append_assoc, append-nil, length-drop, suc}
use Rattle.std.specs.Prelude.{All}
use Rattle.std.proofs.lemmas.Bool.Decides.{nat_tests}
use Rattle.opclass.specs.Pass.{PutsClear, marked, HasNoEnd}
use Rattle.opclass.proofs.Bytes.{take-length}

abbrev pub Read : Type 0
Read = Option (List ℕ × List ℕ)

-- what was read, with bytes in front
abbrev pub with_front : List ℕ → Read → Read
with_front front None = None
with_front front (Some read) = Some (front ++ read.0, read.1)

-- the bytes up to the end and what stands behind it, if there is an end; the flag says that a mark was just seen
abbrev pub unmarked : ℕ → Bool → List ℕ → Read
unmarked mark seen [] = None
unmarked mark false (byte ∷ bytes) = if byte == mark then unmarked mark true bytes else with_front (byte ∷ []) (unmarked mark false bytes)
unmarked mark true (byte ∷ bytes) =
    if byte == mark then Some ([], bytes) else (if byte == 255 - mark then with_front (mark ∷ []) (unmarked mark false bytes) else None)

with_front-nil : (read : Read) → with_front [] read ≡ read
with_front-nil None = refl
with_front-nil (Some read) = refl

with_front-append : (a b : List ℕ) (read : Read) → with_front (a ++ b) read ≡ with_front a (with_front b read)
with_front-append a b None = refl
with_front-append a b (Some read) = ap (λ (xs : List ℕ). Some (xs, read.1)) (append_assoc a b read.0)

from_some : (p q : List ℕ × List ℕ) → Some p ≡ Some q → p ≡ q
from_some p q e = cc

none-some : (read : Read) (p : List ℕ × List ℕ) → read ≡ None → read ≡ Some p → ⊥
none-some read p none some = cc

with_front-inside : (byte : ℕ) (read : Read) (inside behind : List ℕ) → with_front (byte ∷ []) read ≡ Some (inside, behind)
    → (rest : List ℕ) × (inside ≡ byte ∷ rest) × (read ≡ Some (rest, behind))
with_front-inside byte None inside behind e = cc
with_front-inside byte (Some read) inside behind e =
    let same : (byte ∷ read.0, read.1) ≡ (inside, behind) = from_some (byte ∷ read.0, read.1) (inside, behind) e in
    (read.0, sym (ap (λ (p : List ℕ × List ℕ). p.0) same), ap (λ (p : List ℕ × List ℕ). Some (read.0, p.1)) same)

test-same : (a b : ℕ) → (a == b) ≡ true → a ≡ b
test-same a b e = grind (arith, nat_tests)

test-itself : (a : ℕ) → (a == a) ≡ true
test-itself a = grind (arith, nat_tests)

test-other : (a b : ℕ) → a ≢ b → (a == b) ≡ false
test-other a b h = grind (arith, nat_tests)

pub other_mark : (mark : ℕ) → 255 - mark ≢ mark
other_mark mark e = omega arith

-- the bytes with the mark that was just seen
abbrev spelt : ℕ → Bool → List ℕ → List ℕ
spelt mark false bytes = bytes
spelt mark true bytes = mark ∷ bytes

marked-mark : (mark byte : ℕ) (inside : List ℕ) → (byte == mark) ≡ true → marked mark (byte ∷ inside) ≡ mark ∷ (255 - mark) ∷ marked mark inside
marked-mark mark byte inside e = ap (λ (t : Bool). if t then mark ∷ (255 - mark) ∷ marked mark inside else byte ∷ marked mark inside) e

marked-byte : (mark byte : ℕ) (inside : List ℕ) → (byte == mark) ≡ false → marked mark (byte ∷ inside) ≡ byte ∷ marked mark inside
marked-byte mark byte inside e = ap (λ (t : Bool). if t then mark ∷ (255 - mark) ∷ marked mark inside else byte ∷ marked mark inside) e

-- what is read has these bytes
unmarked-sound : (mark : ℕ) (seen : Bool) (bytes inside behind : List ℕ) → unmarked mark seen bytes ≡ Some (inside, behind)
    → spelt mark seen bytes ≡ marked mark inside ++ behind
unmarked-sound mark seen [] inside behind e = cc
unmarked-sound mark false (byte ∷ bytes) inside behind e =
    by_test (byte == mark) refl e (λ i b. unmarked-sound mark true bytes i b) (λ i b. unmarked-sound mark false bytes i b)
  where
    by_test : (t : Bool) → (byte == mark) ≡ t
        → (if t then unmarked mark true bytes else with_front (byte ∷ []) (unmarked mark false bytes)) ≡ Some (inside, behind)
        → ((i b : List ℕ) → unmarked mark true bytes ≡ Some (i, b) → mark ∷ bytes ≡ marked mark i ++ b)
        → ((i b : List ℕ) → unmarked mark false bytes ≡ Some (i, b) → bytes ≡ marked mark i ++ b)
        → byte ∷ bytes ≡ marked mark inside ++ behind
    by_test true test told after before = ap (λ (b : ℕ). b ∷ bytes) (test-same byte mark test) ∙ after inside behind told
    by_test false test told after before =
        let parts = with_front-inside byte (unmarked mark false bytes) inside behind told in
        ap (λ (xs : List ℕ). byte ∷ xs) (before parts.0 behind parts.2)
        ∙ ap (λ (xs : List ℕ). xs ++ behind) (sym (marked-byte mark byte parts.0 test))
        ∙ ap (λ (xs : List ℕ). marked mark xs ++ behind) (sym parts.1)
unmarked-sound mark true (byte ∷ bytes) inside behind e =
    by_test (byte == mark) (byte == 255 - mark) refl refl e (λ i b. unmarked-sound mark false bytes i b)
  where
    by_test : (t u : Bool) → (byte == mark) ≡ t → (byte == 255 - mark) ≡ u
        → (if t then Some ([], bytes) else (if u then with_front (mark ∷ []) (unmarked mark false bytes) else None)) ≡ Some (inside, behind)
        → ((i b : List ℕ) → unmarked mark false bytes ≡ Some (i, b) → bytes ≡ marked mark i ++ b)
        → mark ∷ byte ∷ bytes ≡ marked mark inside ++ behind
    by_test true u test other told before =
        let whole : ([], bytes) ≡ (inside, behind) = from_some ([], bytes) (inside, behind) told in
        ap (λ (b : ℕ). mark ∷ b ∷ bytes) (test-same byte mark test)
        ∙ ap (λ (p : List ℕ × List ℕ). marked mark p.0 ++ p.1) whole
    by_test false true test other told before =
        let parts = with_front-inside mark (unmarked mark false bytes) inside behind told in
        ap (λ (b : ℕ). mark ∷ b ∷ bytes) (test-same byte (255 - mark) other)
        ∙ ap (λ (xs : List ℕ). mark ∷ (255 - mark) ∷ xs) (before parts.0 behind parts.2)
        ∙ ap (λ (xs : List ℕ). xs ++ behind) (sym (marked-mark mark mark parts.0 (test-itself mark)))
        ∙ ap (λ (xs : List ℕ). marked mark xs ++ behind) (sym parts.1)
    by_test false false test other told before = cc

unmarked-mark : (mark : ℕ) (bytes : List ℕ) → unmarked mark false (mark ∷ bytes) ≡ unmarked mark true bytes
unmarked-mark mark bytes = ap (λ (t : Bool). if t then unmarked mark true bytes else with_front (mark ∷ []) (unmarked mark false bytes)) (test-itself mark)

unmarked-byte : (mark byte : ℕ) (bytes : List ℕ) → (byte == mark) ≡ false → unmarked mark false (byte ∷ bytes) ≡ with_front (byte ∷ []) (unmarked mark false bytes)
unmarked-byte mark byte bytes e = ap (λ (t : Bool). if t then unmarked mark true bytes else with_front (byte ∷ []) (unmarked mark false bytes)) e

unmarked-end : (mark : ℕ) (bytes : List ℕ) → unmarked mark true (mark ∷ bytes) ≡ Some ([], bytes)
unmarked-end mark bytes =
    ap (λ (t : Bool). if t then Some ([], bytes) else (if mark == 255 - mark then with_front (mark ∷ []) (unmarked mark false bytes) else None)) (test-itself mark)

unmarked-other : (mark : ℕ) (bytes : List ℕ) → unmarked mark true ((255 - mark) ∷ bytes) ≡ with_front (mark ∷ []) (unmarked mark false bytes)
unmarked-other mark bytes =
    (λ i. if test-other (255 - mark) mark (other_mark mark) i then Some ([], bytes)
    else (if test-itself (255 - mark) i then with_front (mark ∷ []) (unmarked mark false bytes) else None))

-- what has these bytes is read
unmarked-complete : (mark : ℕ) (inside behind : List ℕ) → unmarked mark false (marked mark inside ++ behind) ≡ Some (inside, behind)
unmarked-complete mark [] behind = unmarked-mark mark (mark ∷ behind) ∙ unmarked-end mark behind
unmarked-complete mark (byte ∷ inside) behind = by_test (byte == mark) refl (unmarked-complete mark inside behind)
  where
    by_test : (t : Bool) → (byte == mark) ≡ t → unmarked mark false (marked mark inside ++ behind) ≡ Some (inside, behind)
        → unmarked mark false (marked mark (byte ∷ inside) ++ behind) ≡ Some (byte ∷ inside, behind)
    by_test true test rest =
        ap (λ (xs : List ℕ). unmarked mark false (xs ++ behind)) (marked-mark mark byte inside test)
        ∙ unmarked-mark mark ((255 - mark) ∷ (marked mark inside ++ behind))
        ∙ unmarked-other mark (marked mark inside ++ behind)
        ∙ ap (with_front (mark ∷ [])) rest
        ∙ ap (λ (b : ℕ). Some (b ∷ inside, behind)) (sym (test-same byte mark test))
    by_test false test rest =
        ap (λ (xs : List ℕ). unmarked mark false (xs ++ behind)) (marked-byte mark byte inside test)
        ∙ unmarked-byte mark byte (marked mark inside ++ behind) test
        ∙ ap (with_front (byte ∷ [])) rest

-- what was read is as it stands, and nothing is read where there is no end
pub read_some : (mark : ℕ) (bytes inside behind : List ℕ) → unmarked mark false bytes ≡ Some (inside, behind) → bytes ≡ marked mark inside ++ behind
read_some mark bytes inside behind e = unmarked-sound mark false bytes inside behind e

pub read_none : (mark : ℕ) (bytes : List ℕ) → unmarked mark false bytes ≡ None → HasNoEnd mark bytes
read_none mark bytes e inside behind is =
    none-some (unmarked mark false bytes) (inside, behind) e (ap (unmarked mark false) is ∙ unmarked-complete mark inside behind)

-- bytes without a mark are read as they are
unmarked-clear : (mark : ℕ) (front left : List ℕ) → All (λ byte. byte ≢ mark) front
    → unmarked mark false (front ++ left) ≡ with_front front (unmarked mark false left)
unmarked-clear mark [] left clear = sym (with_front-nil (unmarked mark false left))
unmarked-clear mark (byte ∷ front) left clear =
    unmarked-byte mark byte (front ++ left) (test-other byte mark (clear 0 0 (omega arith)))
    ∙ ap (with_front (byte ∷ [])) (unmarked-clear mark front left (λ k d inside. clear (suc k) d (omega arith)))
    ∙ sym (with_front-append (byte ∷ []) front (unmarked mark false left))

pub puts_unmarked : (mark : ℕ) (old new bytes left : List ℕ) → PutsClear mark old new bytes left
    → with_front old (unmarked mark false bytes) ≡ with_front new (unmarked mark false left)
puts_unmarked mark old new bytes left puts =
    ap (λ (all : List ℕ). with_front old (unmarked mark false all)) puts.split
    ∙ ap (with_front old) (unmarked-clear mark puts.front left puts.clear)
    ∙ sym (with_front-append old puts.front (unmarked mark false left))
    ∙ ap (λ (xs : List ℕ). with_front xs (unmarked mark false left)) (sym puts.put)

-- ---- the steps of the loop that reads, over what is left

two : (left : List ℕ) → 2 ≤ length left → left ≡ slice_index left 0 ∷ slice_index left 1 ∷ drop 2 left
two [] h = absurd (omega arith)
two (a ∷ []) h = absurd (omega arith)
two (a ∷ b ∷ left) h = refl

-- what is left begins with the mark
at_mark : (mark : ℕ) (left : List ℕ) → 2 ≤ length left → (0 < length left → slice_index left 0 ≡ mark)
    → unmarked mark false left ≡ unmarked mark true (slice_index left 1 ∷ drop 2 left)
at_mark mark left h stop =
    ap (unmarked mark false) (two left h)
    ∙ ap (λ (b : ℕ). unmarked mark false (b ∷ slice_index left 1 ∷ drop 2 left)) (stop (omega arith))
    ∙ unmarked-mark mark (slice_index left 1 ∷ drop 2 left)

pub read_end : (mark : ℕ) (all inside left : List ℕ) (k : ℕ) → unmarked mark false all ≡ with_front inside (unmarked mark false left)
    → k ≡ length left - 2 → 2 ≤ length left → (0 < length left → slice_index left 0 ≡ mark) → slice_index left 1 ≡ mark
    → all ≡ marked mark inside ++ take k (drop 2 left)
read_end mark all inside left k e size h stop second =
    read_some mark all inside (drop 2 left)
    (e
    ∙ ap (with_front inside)
    (at_mark mark left h stop
    ∙ ap (λ (b : ℕ). unmarked mark true (b ∷ drop 2 left)) second
    ∙ unmarked-end mark (drop 2 left))
    ∙ ap (λ (xs : List ℕ). Some (xs, drop 2 left)) (append-nil inside))
    ∙ ap (λ (xs : List ℕ). marked mark inside ++ xs) (sym (take-length k (drop 2 left) (size ∙ sym (length-drop 2 left))))

pub read_stuck : (mark : ℕ) (all inside left : List ℕ) → unmarked mark false all ≡ with_front inside (unmarked mark false left) → 2 ≤ length left
    → (0 < length left → slice_index left 0 ≡ mark) → slice_index left 1 ≢ mark → slice_index left 1 ≢ 255 - mark → HasNoEnd mark all
read_stuck mark all inside left e h stop end other =
    read_none mark all
    (e
    ∙ ap (with_front inside)
    (at_mark mark left h stop
    ∙ (λ i. if test-other (slice_index left 1) mark end i then Some ([], drop 2 left)
    else (if test-other (slice_index left 1) (255 - mark) other i then with_front (mark ∷ []) (unmarked mark false (drop 2 left)) else None))))

pub read_short : (mark : ℕ) (all inside left : List ℕ) → unmarked mark false all ≡ with_front inside (unmarked mark false left) → length left < 2
    → (0 < length left → slice_index left 0 ≡ mark) → HasNoEnd mark all
read_short mark all inside [] e h stop = read_none mark all e
read_short mark all inside (byte ∷ []) e h stop =
    read_none mark all
    (e ∙ ap (with_front inside) (ap (λ (b : ℕ). unmarked mark false (b ∷ [])) (stop (omega arith)) ∙ unmarked-mark mark []))
read_short mark all inside (a ∷ b ∷ left) e h stop = absurd (omega arith)

pub read_next : (mark : ℕ) (all inside mid new left next : List ℕ) (k : ℕ) → unmarked mark false all ≡ with_front inside (unmarked mark false left)
    → PutsClear mark mid new (take k (drop 2 left)) next → k ≡ length left - 2 → 2 ≤ length left → (0 < length left → slice_index left 0 ≡ mark)
    → slice_index left 1 ≡ 255 - mark → mid ≡ inside ++ mark ∷ [] → unmarked mark false all ≡ with_front new (unmarked mark false next)
read_next mark all inside mid new left next k e puts size h stop second put =
    e
    ∙ ap (with_front inside)
    (at_mark mark left h stop
    ∙ ap (λ (b : ℕ). unmarked mark true (b ∷ drop 2 left)) second
    ∙ unmarked-other mark (drop 2 left))
    ∙ sym (with_front-append inside (mark ∷ []) (unmarked mark false (drop 2 left)))
    ∙ ap (λ (xs : List ℕ). with_front xs (unmarked mark false (drop 2 left))) (sym put)
    ∙ ap (λ (xs : List ℕ). with_front mid (unmarked mark false xs)) (sym (take-length k (drop 2 left) (size ∙ sym (length-drop 2 left))))
    ∙ puts_unmarked mark mid new (take k (drop 2 left)) next puts

pub read_start : (mark : ℕ) (new all left : List ℕ) → PutsClear mark [] new all left → unmarked mark false all ≡ with_front new (unmarked mark false left)
read_start mark new all left puts = sym (with_front-nil (unmarked mark false all)) ∙ puts_unmarked mark [] new all left puts
