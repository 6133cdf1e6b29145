use Rattle.std.proofs.lemmas.Result.{err_from_is_err_and}
use Rattle.opclass.proofs.InFront.{in_front_still}
use Rattle.opclass.proofs.norm.put_pieces.Goals as goal

pub returns-in_err-put_piece-clause-err : goal.returns-in_err-put_piece-clause-err
returns-in_err-put_piece-clause-err c =
    let p = err_from_is_err_and c.from_residual.result c.from_residual.ensures.1 in
    rw p.1 (in_front_still _ _ _ c.loop-parts.invariant.1 c.in_err-put_piece.ensures.err)
