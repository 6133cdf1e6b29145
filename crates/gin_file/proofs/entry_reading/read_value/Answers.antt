use Rattle.std.proofs.Common.{arith}
use Rattle.gin_file.proofs.TupleFronts.{value-only}
use Rattle.gin_file.proofs.entry_reading.read_value.Goals as goal

pub returns-in-Some-clause-only : goal.returns-in-Some-clause-only
returns-in-Some-clause-only c =
    let few = c.requires.few in
    value-only c.args.kind c.args.bytes.now c.in-Some.values c.pop.new.self c.pop.result (omega arith) c.requires.stored
    (rw c.in-Some.is at c.in_ok-values.ensures) c.pop.ensures

pub returns-in-None-clause-only : goal.returns-in-None-clause-only
returns-in-None-clause-only c = λ value begins. absurd ((rw c.in-None.is at c.in_ok-values.ensures) _ begins)
