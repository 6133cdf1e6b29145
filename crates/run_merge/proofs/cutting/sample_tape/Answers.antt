use Rattle.std.proofs.Common.{◌++◌, ◌∙◌, sym, ap, take, append_assoc}
use Rattle.std.proofs.lemmas.Option.{get_or_from_slice_get, slice_get_within}
use Rattle.run_merge.specs.Cutting.{samples_of, tape_samples}
use Rattle.run_merge.specs.Heads.{no_run}
use Rattle.run_merge.specs.Pass.{bytes_of, bytes_sampled}
use Rattle.run_merge.proofs.Gathering.{flat_map-more}
use Rattle.run_merge.proofs.cutting.sample_tape.Goals as goal

pub loop-run-preserved : goal.loop-run-preserved
loop-run-preserved c =
    let tape = c.args.tape.now in
    let n = c.loop-run.run in
    let run = c.run.result.now in
    let bytes = bytes_sampled c.args.sampled in
    let before = bytes_of c.args.samples.now.items in
    let so_far = tape_samples bytes (take n tape) in
    c.in_ok-sample_run.ensures
    ∙ ap (λ l. l ++ samples_of bytes run) c.loop-run.invariant
    ∙ append_assoc before so_far (samples_of bytes run)
    ∙ ap (λ l. before ++ l)
    (ap (λ r. so_far ++ samples_of bytes r) (sym (get_or_from_slice_get tape n run no_run c.run.ensures))
    ∙ sym (flat_map-more (samples_of bytes) tape n no_run (slice_get_within tape n run c.run.ensures)))
