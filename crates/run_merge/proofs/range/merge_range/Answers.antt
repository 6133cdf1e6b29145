use Rattle.std.proofs.Common.{◌≡◌, ◌<◌, ◌∙◌, length, sym, ap, subst, rules}
use Rattle.std.specs.List.Sorted.{IsPermutation}
use Rattle.run_merge.specs.Cutting.{part_of}
use Rattle.run_merge.specs.Heads.{left_of}
use Rattle.run_merge.specs.Pass.{AreMerged, all_between}
use Rattle.run_merge.specs.Sorted.{all_records}
use Rattle.run_merge.proofs.Merging.{none_merged, all_merged, all_between-is, ascends_first, merged_first, fewer_left, none_left}
use Rattle.run_merge.proofs.range.merge_range.Goals as goal

pub loop-heads-init : goal.loop-heads-init
loop-heads-init c =
    let order = c.args.order.now in
    let tapes = c.args.tapes.now in
    let left = left_of tapes c.in_ok-heads.heads.items in
    let whole = part_of order c.args.cuts.now c.args.part (all_records tapes) in
    let is = (λ i. all_between (c.around.ensures.low i) (c.around.ensures.high i) tapes)
    ∙ all_between-is order _ _ tapes c.requires.order in
    record {
      have = c.requires.order;
      heads = c.in_ok-heads.ensures.heap;
      order = ap (λ r. r.order) c.in_ok-run.ensures;
      merged = subst (λ rows. AreMerged order whole rows left) (sym (ap (λ r. r.records) c.in_ok-run.ensures))
          (none_merged order whole left (subst (λ l. IsPermutation l left) is c.in_ok-heads.ensures.left));
    }

pub append_first-requires-clause-ascending : goal.append_first-requires-clause-ascending
append_first-requires-clause-ascending c =
    let was = c.loop-heads.invariant in
    let some : 0 < length c.loop-heads.heads.items = search rules in
    rw was.order (ascends_first c.args.order.now c.args.tapes.now c.loop-heads.heads.items c.loop-heads.heads.items _
    c.loop-heads.run.records was.have was.heads some was.merged)

pub loop-heads-smaller : goal.loop-heads-smaller
loop-heads-smaller c =
    let was = c.loop-heads.invariant in
    let some : 0 < length c.loop-heads.heads.items = search rules in
    fewer_left c.args.order.now c.args.tapes.now c.loop-heads.heads.items c.append_first.new.heads.items _
    c.loop-heads.run.records was.have was.heads some was.merged
    c.in_ok-append_first.ensures.left

pub loop-heads-preserved : goal.loop-heads-preserved
loop-heads-preserved c =
    let was = c.loop-heads.invariant in
    let some : 0 < length c.loop-heads.heads.items = search rules in
    let order = c.args.order.now in
    let tapes = c.args.tapes.now in
    record {
      have = was.have;
      heads = c.in_ok-append_first.ensures.heads;
      order = ap (λ r. r.order) c.in_ok-append_first.ensures.run ∙ was.order;
      merged = subst (λ rows. AreMerged order (part_of order c.args.cuts.now c.args.part (all_records tapes)) rows
          (left_of tapes c.append_first.new.heads.items))
          (sym (ap (λ r. r.records) c.in_ok-append_first.ensures.run))
          (merged_first order tapes c.loop-heads.heads.items c.append_first.new.heads.items _ c.loop-heads.run.records
          was.have was.heads some was.merged
          c.in_ok-append_first.ensures.left);
    }

pub returns-clause-records : goal.returns-clause-records
returns-clause-records c =
    let was = c.loop-heads.invariant in
    let none : length c.loop-heads.heads.items ≡ 0 = search rules in
    all_merged c.args.order.now _ c.loop-heads.run.records _ was.merged
    (none_left c.args.tapes.now c.loop-heads.heads.items none)
