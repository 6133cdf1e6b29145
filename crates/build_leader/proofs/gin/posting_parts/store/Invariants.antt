use Rattle.std.specs.Vec.Iter.{into_iter_items}
use Rattle.build_leader.proofs.PostingRuns.{AreAdded}
use Rattle.build_leader.proofs.gin.posting_parts.store.Given as goal

abbrev pub invariant-loop-postings : goal.invariant-loop-postings
invariant-loop-postings l = record {
  can_next : (goal.iterator-loop-postings).can_next l.postings-iterator;
  is_finite : (goal.iterator-loop-postings).is_finite l.postings-iterator;
  added : AreAdded l.fn.kind l.fn.runs.items (into_iter_items l.postings-iterator) l.packer;
}
