use Rattle.std.proofs.Common.{◌<◌, inl, inr, arith}
use Rattle.std.proofs.lemmas.Bool.{cases_lt}
use Rattle.heap_row.proofs.Places.{earlier_ends_before}
use Rattle.heap_row.proofs.laws.attributes_are_apart.Goals as goal

pub returns : goal.returns
returns c tuple columns a b first second place is_first is_second other has_first has_second =
    elim (cases_lt a b) [
      | inl below ↦ let ends = earlier_ends_before tuple columns a b first second below is_first is_second in omega (arith, ends, has_first.0, has_first.1, has_second.0, has_second.1)
      | inr above ↦
          let less : b < a = omega arith in
          let ends = earlier_ends_before tuple columns b a second first less is_second is_first in
          omega (arith, ends, has_first.0, has_first.1, has_second.0, has_second.1)
    ]
