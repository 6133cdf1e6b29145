use Rattle.std.proofs.Common.{rules, append_assoc}
use Rattle.std.proofs.lemmas.Result.{IfOk-equal}
use Rattle.shared_tape.specs.Stored.{stored}
use Rattle.shared_tape.proofs.stored.put_stored.Goals as goal

pub returns-clause-ok : goal.returns-clause-ok
unfolding stored
returns-clause-ok c = search (rules, IfOk-equal, append_assoc)
