use Rattle.std.proofs.Common.{◌∙◌, [], ap, length, arith, take, slice_index_or}
use Rattle.std.proofs.lemmas.List.{length-append}
use Rattle.std.proofs.lemmas.List.Concat.{length-flat_map}
use Rattle.std.proofs.lemmas.List.Folds.{length-flat_map-take}
use Rattle.std.proofs.lemmas.Option.{get_or_from_slice_get, slice_get_within}
use Rattle.shared_tape.specs.Runs.{RunView, records_of}
use Rattle.run_merge.specs.Sorted.{all_records}
use Rattle.run_merge.proofs.Gathering.{flat_map-more}
use Rattle.build_leader.proofs.gin.count.count_records.Goals as goal

pub returns-in_err-count : goal.returns-in_err-count
returns-in_err-count c =
    let tapes = c.args.tapes.now in
    let n = c.loop-tape.tape in
    let tape = c.get.result.now in
    let here = ap (λ t. length (records_of t)) (get_or_from_slice_get tapes n tape [] c.get.ensures) in
    let count = length-flat_map (λ (run : RunView). run.records) tape in
    let more = length-flat_map-take records_of tapes n [] (slice_get_within tapes n tape c.get.ensures) in
    let said = c.in_err-count.ensures in
    rw c.from_residual.ensures (omega (arith, here, count, more, said))

pub loop-tape-preserved : goal.loop-tape-preserved
loop-tape-preserved c =
    let tapes = c.args.tapes.now in
    let n = c.loop-tape.tape in
    let tape = c.get.result.now in
    let here = ap (λ t. length (records_of t)) (get_or_from_slice_get tapes n tape [] c.get.ensures) in
    let count = length-flat_map (λ (run : RunView). run.records) tape in
    let more =
    ap length (flat_map-more records_of tapes n [] (slice_get_within tapes n tape c.get.ensures))
    ∙ length-append (all_records (take n tapes)) (records_of (slice_index_or tapes n [])) in
    let said = c.in_ok-count.ensures in
    record { count_is = omega (arith, here, count, more, said.0); few = said.1 }
