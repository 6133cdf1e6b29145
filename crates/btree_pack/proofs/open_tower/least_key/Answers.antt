use Rattle.std.proofs.Common.{refl, ◌∙◌, arith}
use Rattle.pg_bytes.specs.Numbers.{number_bytes}
use Rattle.pg_bytes.specs.Pointers.{row_pointer_bytes}
use Rattle.btree_pack.proofs.open_tower.least_key.Goals as goal

pub returns-clause-value : goal.returns-clause-value
unfolding row_pointer_bytes number_bytes
returns-clause-value c = c.in_ok-key.ensures.items ∙ refl

pub returns-clause-tuple : goal.returns-clause-tuple
returns-clause-tuple c = rw c.in_ok-key.ensures.items (record { whole = refl; least = omega arith; most = omega arith })
