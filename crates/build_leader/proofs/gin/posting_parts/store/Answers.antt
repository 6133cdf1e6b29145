use Rattle.std.proofs.Common.{◌∙◌, sym, List, sym, subst}
use Rattle.std.specs.Vec.Iter.{into_iter_items}
use Rattle.gin_entry.specs.EntryMap.{Posting}
use Rattle.build_leader.proofs.PostingRuns.{AreAdded, all_added, may_add, may_finish, none_added, one_added}
use Rattle.build_leader.proofs.gin.posting_parts.store.Goals as goal

pub loop-postings-init : goal.loop-postings-init
loop-postings-init c = record {
  can_next = tt;
  is_finite = tt;
  added = none_added c.args.kind c.args.runs.items _ c.in_ok-packer.packer c.into_iter-postings-iterator.ensures.into_iter_gives.0 c.in_ok-packer.ensures;
}

pub add-requires : goal.add-requires
add-requires c =
    may_add c.args.kind c.args.runs.items c.in-Some.postings (into_iter_items c.next.new.self) c.loop-postings.packer
    (subst (λ (left : List (List Posting)). AreAdded c.args.kind c.args.runs.items left c.loop-postings.packer) c.in-Some.ensures.steps.0 c.loop-postings.invariant.added) c.requires

pub loop-postings-preserved : goal.loop-postings-preserved
loop-postings-preserved c = record {
  can_next = tt;
  is_finite = tt;
  added =
      one_added c.args.kind c.args.runs.items c.in-Some.postings (into_iter_items c.next.new.self) c.loop-postings.packer c.add.new.self c.in_ok-add.ensures
      (subst (λ (left : List (List Posting)). AreAdded c.args.kind c.args.runs.items left c.loop-postings.packer) c.in-Some.ensures.steps.0 c.loop-postings.invariant.added);
}

pub finish-requires : goal.finish-requires
finish-requires c =
    may_finish c.args.kind c.args.runs.items (into_iter_items c.loop-postings.postings-iterator) c.loop-postings.packer c.loop-postings.invariant.added c.requires

pub returns : goal.returns
returns c =
    all_added c.args.kind c.args.runs.items (into_iter_items c.loop-postings.postings-iterator) c.loop-postings.packer c.in_ok-file.file
    (sym c.loop-postings.postings-iterator.rest.ok.0 ∙ c.in-None.ensures.steps.0) c.loop-postings.invariant.added c.in_ok-file.ensures
