use Rattle.std.proofs.Common.{ℕ, List, ◌-◌, ap, ◌∙◌, slice_index_or, slice_set}
use Rattle.opclass.proofs.Bytes.{turned-more}
use Rattle.shared_tape.proofs.text.turn.Goals as goal

pub loop-byte-preserved : goal.loop-byte-preserved
loop-byte-preserved c =
    let i : ℕ = c.loop-byte.byte-index in
    let step : List ℕ → List ℕ = λ (bytes : List ℕ). slice_set bytes i (255 - slice_index_or bytes i 0) in
    ap step c.loop-byte.invariant ∙ turned-more c.args.bytes.now i c.loop-byte-test.true
