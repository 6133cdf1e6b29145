use Rattle.std.proofs.Common.{◌≡◌, ℕ, zero, suc, true, false, Some, slice_get, replicate}
use Rattle.std.proofs.lemmas.Bool.{false≢true}
use Rattle.std.proofs.lemmas.Option.{none-some, same_Some}
use Rattle.heap_page.proofs.units.Units.new.Goals as goal

unmarked : (n unit : ℕ) → slice_get (replicate n false) unit ≡ Some true → ⊥
unmarked zero unit mark = none-some true mark
unmarked (suc n) zero mark = false≢true (same_Some false true mark)
unmarked (suc n) (suc unit) mark = unmarked n unit mark

pub returns : goal.returns
returns c unit mark = unmarked 1024 unit mark
