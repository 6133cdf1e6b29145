-- What readers of a page without a fault may rely on.
use Rattle.std.proofs.Common.{◌≡◌, ◌≢◌, ℕ, ◌+◌, ◌-◌, ◌*◌, ◌/◌, ◌%◌, ◌<◌, ◌≤◌, ◌==◌, if◌then◌else◌, List, Option, Some, None, IsSome, IsNone, refl, sym, subst, inl, inr, arith}
use Rattle.std.proofs.lemmas.Bool.Decides.{nat_tests}
use Rattle.pg_bytes.specs.Lines.{EndsInside, line_at}
use Rattle.pg_bytes.specs.PageLayout.{lower_of, upper_of, line_place}
use Rattle.pg_bytes.specs.declared.line_ptr.LinePtr.{LinePtr}
use Rattle.heap_page.specs.Fault.{HasBadHeader, IsMisplaced, IsSoundPage}
use Rattle.heap_page.specs.Line.{IsNew, IsLine, IsNormal, heap_line_count}
use Rattle.heap_page.specs.Settled.{AllSettled}
use Rattle.heap_page.specs.Tuple.{header_of}
use Rattle.heap_page.specs.Visibility.{state_of}
use Rattle.heap_page.specs.declared.fault.PageCause.TheVariants.{BadHeader, BadLine, Unsettled}

-- how many line pointers stand below a byte
abbrev pub lines_below : ℕ → ℕ → ℕ
lines_below upper lower = if upper == 0 then 0 else (lower - 24) / 4

pub lines-counted : (upper lower k : ℕ) → 1 ≤ k → k ≤ lines_below upper lower → (upper ≢ 0) × (4 * k + 24 ≤ lower)
lines-counted upper lower k first within = grind (arith, nat_tests)

-- a page that has a line pointer isn't new
pub line-not-new : (page : List ℕ) (k : ℕ) → IsLine page k → IsNew page → ⊥
line-not-new page k line = (lines-counted (upper_of page) (lower_of page) k line.0 line.1).0

-- the bounds of a good header
pub header-bounds : (page : List ℕ) → (HasBadHeader page → ⊥) → (24 ≤ lower_of page) × (lower_of page ≤ upper_of page) × (upper_of page ≤ 8192)
header-bounds page good =
    let low : lower_of page < 24 → ⊥ = λ h. good (inr (inr (inr (inl h)))) in
    let order : upper_of page < lower_of page → ⊥ = λ h. good (inr (inr (inr (inr (inl h))))) in
    let high : 8192 < upper_of page → ⊥ = λ h. good (inr (inr (inr (inr (inr h))))) in
    (omega arith, omega arith, omega arith)

pub sound-header : (page : List ℕ) (columns : ℕ) → IsSoundPage page columns → (IsNew page → ⊥) → (24 ≤ lower_of page) × (lower_of page ≤ upper_of page) × (upper_of page ≤ 8192)
sound-header page columns sound used = header-bounds page (λ bad. sound 0 BadHeader (used, (refl, bad)))

-- a line pointer stands on its page
pub line-fits : (page : List ℕ) (k : ℕ) → lower_of page ≤ 8192 → IsLine page k → line_place k + 4 ≤ 8192
line-fits page k high line = let counted = lines-counted (upper_of page) (lower_of page) k line.0 line.1 in omega arith

pub sound-line : (page : List ℕ) (columns k : ℕ) → IsSoundPage page columns → IsLine page k → line_place k + 4 ≤ 8192
sound-line page columns k sound line =
    let bounds = sound-header page columns sound (line-not-new page k line) in
    line-fits page k (omega arith) line

-- the bounds of an item in its place
pub place-bounds : (page : List ℕ) (k : ℕ) → (IsMisplaced page k → ⊥) → ((line_at page k).offset % 8 ≡ 0) × EndsInside (line_at page k) × (24 ≤ (line_at page k).length)
place-bounds page k placed =
    let aligned : 0 < (line_at page k).offset % 8 → ⊥ = λ h. placed (inl (inl (λ e. omega arith))) in
    let inside : 8192 < (line_at page k).offset + (line_at page k).length → ⊥ = λ h. placed (inl (inr (inr (inl h)))) in
    let long : (line_at page k).length < 24 → ⊥ = λ h. placed (inl (inr (inr (inr h)))) in
    (omega arith, omega arith, omega arith)

pub sound-item : (page : List ℕ) (columns k : ℕ) → IsSoundPage page columns → IsNormal page k → EndsInside (line_at page k) × (24 ≤ (line_at page k).length)
sound-item page columns k sound normal =
    let bounds = place-bounds page k (λ bad. sound k BadLine (line-not-new page k normal.0, inl (normal, bad))) in
    (bounds.1, bounds.2)

-- the same of a line pointer that was read
pub sound-item-read : (page : List ℕ) (columns k : ℕ) (line : LinePtr) → line ≡ line_at page k → IsSoundPage page columns → IsNormal page k → EndsInside line × (24 ≤ line.length)
sound-item-read page columns k line read sound normal =
    subst (λ (l : LinePtr). EndsInside l × (24 ≤ l.length)) (sym read) (sound-item page columns k sound normal)

-- every tuple is settled
there : {A : Type 0} → (o : Option A) → (IsNone o → ⊥) → IsSome o
there None missing = absurd (missing refl)
there (Some x) missing = refl

pub sound-settled : (page : List ℕ) (columns : ℕ) → IsSoundPage page columns → AllSettled page
sound-settled page columns sound k normal =
    there (state_of (header_of page k).infomask) (λ missing. sound k Unsettled (line-not-new page k normal.0, (normal, missing)))

-- how many line pointers there can be
lines-most : (upper lower : ℕ) → (upper ≢ 0 → lower ≤ 8192) → lines_below upper lower ≤ 2042
lines-most upper lower bound = grind (arith, nat_tests)

pub most-lines : (page : List ℕ) (columns : ℕ) → IsSoundPage page columns → heap_line_count page ≤ 2042
most-lines page columns sound =
    lines-most (upper_of page) (lower_of page) (λ used. let bounds = sound-header page columns sound used in omega arith)
