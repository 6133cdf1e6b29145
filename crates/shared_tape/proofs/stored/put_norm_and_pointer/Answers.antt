use Rattle.std.proofs.Common.{rules, append_assoc}
use Rattle.std.proofs.lemmas.Result.{IfOk-equal}
use Rattle.shared_tape.specs.Stored.{order_bytes}
use Rattle.shared_tape.proofs.stored.put_norm_and_pointer.Goals as goal

pub returns-clause-ok : goal.returns-clause-ok
unfolding order_bytes
returns-clause-ok c = search (rules, IfOk-equal, append_assoc)
