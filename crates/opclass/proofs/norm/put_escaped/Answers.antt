use Rattle.std.proofs.Common.{refl, ◌≡◌, ◌∙◌, ◌++◌, ◌∷◌, [], arith}
use Rattle.std.proofs.lemmas.Grind.{common_steps}
use Rattle.std.proofs.lemmas.Result.{err_from_is_err_and}
use Rattle.opclass.proofs.Bytes.{puts_escaped, puts_next}
use Rattle.opclass.proofs.InFront.{in_front_still, in_front_after, in_front_is, in_front_unless_ok}
use Rattle.opclass.proofs.norm.put_escaped.Goals as goal

pub loop-left-init : goal.loop-left-init
loop-left-init c = (
  puts_escaped _ _ _ _ c.in_ok-left.ensures.ok,
  c.in_ok-left.ensures.ok.stop,
  in_front_is _ _ _ c.in_ok-left.ensures.ok.put,
)

pub loop-left-preserved : goal.loop-left-preserved
loop-left-preserved c =
    let put : c.extend_from_slice.new.self.items ≡ c.loop-left.out.items ++ 0 ∷ 255 ∷ [] = grind (arith, common_steps, c.in_ok-extend_from_slice.ensures.items) in (
      puts_next c.loop-left.out.items _ _ c.loop-left.left.now _ _ c.in_ok-left-2.ensures.ok refl c.in-len1-up.len_at_least c.loop-left.invariant.1 put
          ∙ c.loop-left.invariant.0,
      c.in_ok-left-2.ensures.ok.stop,
      in_front_still _ _ _ c.loop-left.invariant.2 (in_front_still _ _ _ (in_front_is _ _ _ put) (in_front_is _ _ _ c.in_ok-left-2.ensures.ok.put)),
    )

pub returns-in_err-extend_from_slice-clause-err : goal.returns-in_err-extend_from_slice-clause-err
returns-in_err-extend_from_slice-clause-err c =
    let p = err_from_is_err_and c.from_residual-in_err-extend_from_slice.result c.from_residual-in_err-extend_from_slice.ensures.1 in
    rw (p.1, c.in_err-extend_from_slice.ensures.items) c.loop-left.invariant.2

pub returns-in_err-left-2-clause-err : goal.returns-in_err-left-2-clause-err
returns-in_err-left-2-clause-err c =
    let p = err_from_is_err_and c.from_residual-in_err-left-2.result c.from_residual-in_err-left-2.ensures.1 in
    rw p.1 (in_front_still _ _ _ c.loop-left.invariant.2 (in_front_after _ _ _ _ c.in_ok-extend_from_slice.ensures.items c.in_err-left-2.ensures.err))

pub returns-clause-err : goal.returns-clause-err
returns-clause-err c = in_front_unless_ok c.extend_from_slice-2.result _ _ _ _ c.loop-left.invariant.2 c.extend_from_slice-2.ensures.items
