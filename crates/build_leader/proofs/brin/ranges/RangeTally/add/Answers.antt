use Rattle.std.proofs.Common.{◌≡◌, ◌/◌, ℕ, true, List, sym, subst, ◌∙◌}
use Rattle.std.proofs.lemmas.Result.{on_ok_weaker}
use Rattle.brin_summary.specs.declared.ranges.SummedRange.{SummedRange}
use Rattle.build_leader.specs.Tally.{ends_with}
use Rattle.build_leader.proofs.RangeTallies.{hold_more}
use Rattle.build_leader.proofs.brin.ranges.RangeTally.add.Goals as goal

pub returns-clause-held : goal.returns-clause-held
returns-clause-held c =
    let row = c.args.row.now in
    let mid : List SummedRange = c.open.new.self.ranges.items in
    on_ok_weaker c.add_to_last.result
    (λ taken spec rows pages keys held.
    hold_more spec rows row mid c.add_to_last.new.self.ranges.items (c.in_ok-open.ensures.held spec rows keys held)
    (c.requires.keys ∙ sym keys)
    (subst (λ (n : ℕ). ends_with (row.ptr.block / n) mid ≡ true) (sym pages) c.in_ok-open.ensures.opened)
    taken)
    c.add_to_last.ensures.taken
