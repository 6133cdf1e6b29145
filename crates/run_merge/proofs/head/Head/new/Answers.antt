use Rattle.run_merge.proofs.Gathering.{start_found}
use Rattle.run_merge.proofs.head.Head.new.Goals as goal

pub returns-clause-head : goal.returns-clause-head
returns-clause-head c = record {
  tape = c.requires.tape;
  run = c.requires.run;
  sound = c.requires.sound;
  some = c.requires.some;
  within = c.requires.within;
  start = start_found c.args.tapes.now c.args.tape c.args.run c.args.at _ _ _ c.get.ensures c.run.ensures
      c.head_at.ensures;
}
