use Rattle.std.proofs.Common.{◌++◌, ◌∙◌, sym, ap, subst}
use Rattle.shared_tape.specs.Runs.{IsAscending}
use Rattle.run_merge.proofs.Firsts.{first_range}
use Rattle.run_merge.proofs.range.append_first.Goals as goal

pub append_from-requires-clause-ascending : goal.append_from-requires-clause-ascending
append_from-requires-clause-ascending c =
    let head = c.index.result.now in
    let is = first_range c.args.tapes.now c.args.heads.now.items head c.run.result.now c.requires.heads.each
    c.requires.some c.index.ensures c.run.ensures in
    subst (λ l. IsAscending c.args.run.now.order (c.args.run.now.records ++ l)) (sym is) c.requires.ascending

pub returns-clause-run : goal.returns-clause-run
returns-clause-run c =
    let head = c.index.result.now in
    let is = first_range c.args.tapes.now c.args.heads.now.items head c.run.result.now c.requires.heads.each
    c.requires.some c.index.ensures c.run.ensures in
    c.in_ok-append_from.ensures.ok
    ∙ ap (λ l. record { order = c.args.run.now.order; records = c.args.run.now.records ++ l }) is
