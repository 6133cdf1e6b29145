use Rattle.std.proofs.Common.{◌≡◌, ◌∙◌, [], length, sym, List, subst}
use Rattle.std.proofs.lemmas.Result.{IfOk-weaker}
use Rattle.std.specs.Vec.Iter.{into_iter_items}
use Rattle.opclass.specs.declared.spec.IndexSpec.{IndexSpec}
use Rattle.opclass.specs.declared.types.ColType.{ColType}
use Rattle.btree_pack.specs.Groups.{Row}
use Rattle.btree_pack.specs.Images.{images_of}
use Rattle.btree_pack.specs.Nodes.{btree_file}
use Rattle.btree_pack.specs.Pass.Added.{HasAdded}
use Rattle.btree_pack.specs.Pass.Run.{RunView}
use Rattle.build_leader.specs.IndexRow.{index_kinds}
use Rattle.build_leader.specs.Pass.{IsFileOfRuns}
use Rattle.build_leader.proofs.LeafRuns.{AreAdded, all_added, may_add, none_added, one_added}
use Rattle.build_leader.proofs.btree.leaf_parts.lay.Goals as goal

pub loop-run-init : goal.loop-run-init
loop-run-init c =
    let plan = c.args.plan.now in
    record {
      can_next = tt;
      is_finite = tt;
      added =
          none_added plan.spec (index_kinds plan.table plan.spec) c.args.runs.items _ c.in_ok-packer.packer
          c.into_iter-run-iterator.ensures.into_iter_gives.0
          (subst (λ (kinds : List ColType). HasAdded plan.spec kinds [] c.in_ok-packer.packer) c.in_ok-kinds.ensures
          c.in_ok-packer.ensures);
    }

pub add-requires : goal.add-requires
add-requires c =
    let plan = c.args.plan.now in
    let kinds = index_kinds plan.table plan.spec in
    may_add plan.spec kinds c.args.runs.items (into_iter_items c.next.new.self) c.in-Some.run' c.loop-run.packer
    (subst (λ (left : List RunView). AreAdded plan.spec kinds c.args.runs.items left c.loop-run.packer)
    c.in-Some.ensures.steps.0 c.loop-run.invariant.added) c.requires.runs

pub loop-run-preserved : goal.loop-run-preserved
loop-run-preserved c =
    let plan = c.args.plan.now in
    let kinds = index_kinds plan.table plan.spec in
    record {
      can_next = tt;
      is_finite = tt;
      added =
          one_added plan.spec kinds c.args.runs.items (into_iter_items c.next.new.self) c.in-Some.run' c.loop-run.packer
          c.add.new.self c.in_ok-add.ensures.ok
          (subst (λ (left : List RunView). AreAdded plan.spec kinds c.args.runs.items left c.loop-run.packer)
          c.in-Some.ensures.steps.0 c.loop-run.invariant.added);
    }

pub returns : goal.returns
returns c =
    let plan = c.args.plan.now in
    let kinds = index_kinds plan.table plan.spec in
    IfOk-weaker c.finish.result
    (λ file. (spec : IndexSpec) → (kinds : List ColType) → (rows : List Row) → HasAdded spec kinds rows c.loop-run.packer
    → file ≡ btree_file (images_of kinds (length spec.keys)) spec rows)
    (IsFileOfRuns plan.spec kinds c.args.runs.items)
    (λ file gives. all_added plan.spec kinds c.args.runs.items (into_iter_items c.loop-run.run-iterator) c.loop-run.packer file
    (sym c.loop-run.run-iterator.rest.ok.0 ∙ c.in-None.ensures.steps.0) c.loop-run.invariant.added gives)
    c.finish.ensures.file
