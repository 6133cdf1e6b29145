use Rattle.std.proofs.Common.{◌≡◌, ◌++◌, ◌∷◌, [], arith}
use Rattle.std.proofs.lemmas.Grind.{common_steps}
use Rattle.std.proofs.lemmas.Result.{err_from_is_err_and}
use Rattle.opclass.proofs.InFront.{in_front_after}
use Rattle.opclass.proofs.norm.put_piece.Goals as goal

pub returns-in_err-put_number-in-Num-clause-err : goal.returns-in_err-put_number-in-Num-clause-err
returns-in_err-put_number-in-Num-clause-err c =
    let p = err_from_is_err_and c.from_residual-in_err-put_number-in-Num.result c.from_residual-in_err-put_number-in-Num.ensures.1 in
    let put : c.push-in-Num.new.self.items ≡ c.args.out.now.items ++ 1 ∷ [] = grind (arith, common_steps, c.in_ok-push-in-Num.ensures.items) in
    rw p.1 (in_front_after _ _ _ _ put c.in_err-put_number-in-Num.ensures.err)
