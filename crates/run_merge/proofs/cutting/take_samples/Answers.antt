use Rattle.std.proofs.Common.{◌++◌, ◌∙◌, [], sym, ap, take}
use Rattle.std.proofs.lemmas.Option.{get_or_from_slice_get, slice_get_within}
use Rattle.run_merge.specs.Cutting.{tape_samples, all_samples}
use Rattle.run_merge.specs.Pass.{bytes_sampled}
use Rattle.run_merge.proofs.Gathering.{flat_map-more}
use Rattle.run_merge.proofs.cutting.take_samples.Goals as goal

pub loop-tape-preserved : goal.loop-tape-preserved
loop-tape-preserved c =
    let tapes = c.args.tapes.now in
    let n = c.loop-tape.tape in
    let tape = c.get.result.now in
    let bytes = bytes_sampled c.args.sampled in
    let so_far = all_samples bytes (take n tapes) in
    c.in_ok-sample_tape.ensures
    ∙ ap (λ l. l ++ tape_samples bytes tape) c.loop-tape.invariant
    ∙ ap (λ t. so_far ++ tape_samples bytes t) (sym (get_or_from_slice_get tapes n tape [] c.get.ensures))
    ∙ sym (flat_map-more (tape_samples bytes) tapes n [] (slice_get_within tapes n tape c.get.ensures))
