use Rattle.std.proofs.Common.{ℕ, ◌<◌, List, inl, inr, arith}
use Rattle.std.proofs.lemmas.Bool.{cases_lt}
use Rattle.pg_bytes.specs.Lines.{line_at}
use Rattle.heap_page.proofs.Sound.{line-not-new, sound-item}
use Rattle.heap_page.specs.Fault.{IsSoundPage}
use Rattle.heap_page.specs.Line.{IsNormal, ShareByte}
use Rattle.heap_page.specs.declared.fault.PageCause.TheVariants.{BadLine}
use Rattle.heap_page.proofs.laws.items_are_apart.Goals as goal

-- an item shares no byte with a lesser one
apart : (page : List ℕ) (columns lesser item : ℕ) → IsSoundPage page columns → IsNormal page lesser → IsNormal page item → lesser < item → ShareByte (line_at page lesser) (line_at page item) → ⊥
apart page columns lesser item sound there here below share =
    let used = line-not-new page item here.0 in
    let inside = sound-item page columns lesser sound there in
    sound item BadLine (used, inl (here, inr (lesser, below, there, inside.0, share)))

pub returns : goal.returns
returns c page columns a b sound in_a in_b other (byte, has_a, has_b) =
    elim (cases_lt a b) [
      | inl below ↦ apart page columns a b sound in_a in_b below (byte, has_a, has_b)
      | inr above ↦ let less : b < a = omega arith in apart page columns b a sound in_b in_a less (byte, has_b, has_a)
    ]
