use Rattle.std.proofs.Common.{◌≡◌, ◌∙◌, refl, sym, ap, arith, length, slice_index_or}
use Rattle.std.proofs.lemmas.Option.{get_or_from_slice_get}
use Rattle.run_merge.specs.Heads.{no_run}
use Rattle.run_merge.proofs.InOrder.{next_run}
use Rattle.run_merge.proofs.ordered_runs.skip_empty.Goals as goal

pub loop-run-preserved : goal.loop-run-preserved
loop-run-preserved c =
    let runs = c.args.runs.now in
    let found = get_or_from_slice_get runs c.loop-run.run c.run.result.now no_run c.run.ensures in
    record {
      within = omega arith;
      there = λ h. omega arith;
      past = λ e. refl;
      left = next_run runs c.loop-run.run c.loop-run.at (omega arith)
          (c.if-at-len.true ∙ c.len.ensures.length ∙ ap (λ r. length r.records) (sym found))
          ∙ c.loop-run.invariant.left;
    }

pub returns-else-at-len-clause-place : goal.returns-else-at-len-clause-place
returns-else-at-len-clause-place c =
    let runs = c.args.runs.now in
    let was = c.loop-run.invariant in
    let found = get_or_from_slice_get runs c.loop-run.run c.run.result.now no_run c.run.ensures in
    let same : length (slice_index_or runs c.loop-run.run no_run).records ≡ c.len.result = ap (λ r. length r.records)
    found ∙ sym c.len.ensures.length in
    record {
      within = was.within;
      there = λ h. omega (arith, was.there h, same, c.if-at-len.false);
      past = was.past;
    }
