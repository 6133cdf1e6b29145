use Rattle.std.proofs.Common.{◌≡◌, ℕ, ◌+◌, ◌-◌, ◌∷◌, ◌++◌, [], ◌∙◌, ap, subst, sym, arith}
use Rattle.std.specs.Prelude.{IfErr, IfOk}
use Rattle.std.specs.Result.{result_from_control_flow}
use Rattle.std.proofs.lemmas.Result.{err_from_is_err_and}
use Rattle.run_merge.specs.Cutting.{part_of}
use Rattle.run_merge.specs.Sorted.{all_records}
use Rattle.build_leader.specs.KeyParts.{AreMade, IsRefused}
use Rattle.build_leader.proofs.MadeParts.{made_more, refused_last}
use Rattle.build_leader.proofs.key_parts.+parts.Goals as goal

pub returns-in_err-made-2-clause-refused : goal.returns-in_err-made-2-clause-refused
returns-in_err-made-2-clause-refused g t c =
    let p = err_from_is_err_and c.from_residual-in_err-made-2.result c.from_residual-in_err-made-2.ensures.1 in
    let order = c.args.order.now in
    let cuts = c.args.cuts.now in
    let records = all_records c.args.tapes.now in
    let makes = g.W.PartWork.makes c.args.work.now order in
    let refuses = g.W.PartWork.refuses c.args.work.now order in
    let last : ℕ = c.args.parts - 1 in
    let count : last + 1 ≡ c.args.parts = omega (arith, c.requires.some) in
    let before_is = c.branch-before.ensures ∙ ap result_from_control_flow c.in_ok-before.is in
    let made_is = c.branch-made-2.ensures ∙ ap result_from_control_flow c.in_err-made-2.is in
    rw (p.1, p.2)
    (subst (λ (n : ℕ). IsRefused makes refuses order cuts records n c.in_err-made-2.field-0.0) count
    (refused_last makes order cuts records refuses last c.in_ok-before.field-0.items c.in_err-made-2.field-0.0
    (subst (λ r. IfOk r (λ made. AreMade makes order cuts records last made.items)) before_is c.join-made.ensures.second.0)
    (subst (λ r. IfErr r (refuses (part_of order cuts last records))) made_is c.join-made.ensures.first.1)))

pub returns-clause-made : goal.returns-clause-made
returns-clause-made g t c =
    let order = c.args.order.now in
    let cuts = c.args.cuts.now in
    let records = all_records c.args.tapes.now in
    let makes = g.W.PartWork.makes c.args.work.now order in
    let last : ℕ = c.args.parts - 1 in
    let count : last + 1 ≡ c.args.parts = omega (arith, c.requires.some) in
    let before_is = c.branch-before.ensures ∙ ap result_from_control_flow c.in_ok-before.is in
    let made_is = c.branch-made-2.ensures ∙ ap result_from_control_flow c.in_ok-made-2.is in
    subst (λ made. AreMade makes order cuts records c.args.parts made) (sym c.in_ok-with_made-2.ensures)
    (subst (λ (n : ℕ). AreMade makes order cuts records n (c.in_ok-before.field-0.items ++ c.in_ok-made-2.field-0 ∷ [])) count
    (made_more makes order cuts records last c.in_ok-before.field-0.items c.in_ok-made-2.field-0
    (subst (λ r. IfOk r (λ made. AreMade makes order cuts records last made.items)) before_is c.join-made.ensures.second.0)
    (subst (λ r. IfOk r (makes (part_of order cuts last records))) made_is c.join-made.ensures.first.0)))
