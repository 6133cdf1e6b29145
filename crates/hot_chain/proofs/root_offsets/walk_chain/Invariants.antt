use Rattle.std.specs.List.{count_by}
use Rattle.std.specs.Option.{is_none}
use Rattle.hot_chain.proofs.Walk.{IsWalking}
use Rattle.hot_chain.proofs.root_offsets.walk_chain.Given as goal

abbrev pub invariant-loop-reached : goal.invariant-loop-reached
invariant-loop-reached l = IsWalking l.view.bytes l.start l.fn.offsets l.reached l.offsets

-- how many items have no root offset yet
abbrev pub decreases-loop-reached : goal.decreases-loop-reached
decreases-loop-reached l = count_by is_none l.offsets
