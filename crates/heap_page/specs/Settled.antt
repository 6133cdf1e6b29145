-- Pages whose tuples' hint bits say what each tuple is. Whoever reads rows asks for it, and checked pages have it.
use Rattle.std.specs.Prelude.{ℕ, List, IsSome}
use Rattle.heap_page.specs.Line.{IsNormal}
use Rattle.heap_page.specs.Tuple.{header_of}
use Rattle.heap_page.specs.Visibility.{state_of}

-- the hint bits say of each normal item what it is
abbrev pub AllSettled : List ℕ → Type 0
AllSettled page = (item : ℕ) → IsNormal page item → IsSome (state_of (header_of page item).infomask)
