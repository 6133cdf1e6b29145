use Rattle.std.proofs.Common.{sym, arith, refl}
use mir.Val.{bool_byte}
use Rattle.run_merge.specs.Heads.{is_behind}
use Rattle.run_merge.proofs.Heaping.{counted_first, left_first, same_test, behind_weak}
use Rattle.run_merge.proofs.heap.first_child.Goals as goal

pub returns-then-right-heads-clause-first : goal.returns-then-right-heads-clause-first
returns-then-right-heads-clause-first c = λ k d a b h.
    counted_first (is_behind c.args.tapes.now) (behind_weak c.args.tapes.now) c.args.heads.now c.args.parent d bool_byte
    c.is_behind.result refl refl
    (same_test (is_behind c.args.tapes.now) c.args.heads.now _ _ _ d _ (omega arith) (omega arith) (sym c.is_behind.ensures))
    k a b h

pub returns-else-right-heads-clause-first : goal.returns-else-right-heads-clause-first
returns-else-right-heads-clause-first c = λ k d a b h.
    left_first (is_behind c.args.tapes.now) (behind_weak c.args.tapes.now) c.args.heads.now c.args.parent d
    (λ there. absurd (omega arith)) k a b h
