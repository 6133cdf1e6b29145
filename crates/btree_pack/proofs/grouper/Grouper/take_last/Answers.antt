use Rattle.std.proofs.Common.{sym, ap}
use Rattle.btree_pack.specs.declared.grouper.Grouper.{Grouper}
use Rattle.btree_pack.proofs.Takings.{found, pending-facts, tells-done}
use Rattle.btree_pack.proofs.grouper.Grouper.take_last.Goals as goal

pub returns-clause-taken : goal.returns-clause-taken
returns-clause-taken c =
    λ rows done has.
    let old = c.args.self.now in
    let p = c.in-Some.group in
    let some = sym c.in-Some.ensures.value in
    let at = found old rows done p some has in
    let facts = pending-facts old p c.requires.ready some in (
      at.group,
      (
        tells-done old c.write.new.self rows done at.group p at.pending facts.0 (ap (λ (s : Grouper). s.kinds) c.in_ok-write.ensures.others) (ap (λ (s : Grouper). s.keys) c.in_ok-write.ensures.others) c.in_ok-write.ensures.tuple,
        at.pending.groups,
      ),
    )
