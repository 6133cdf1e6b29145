use Rattle.std.proofs.Common.{◌≡◌, ◌≢◌, ◌++◌, ◌∷◌, ◌-◌, [], List, ℕ, slice_index, refl, subst, arith}
use Rattle.std.proofs.lemmas.Grind.{common_steps}
use Rattle.std.proofs.lemmas.Bool.Decides.{nat_tests}
use Rattle.opclass.specs.Pass.{PutsClear}
use Rattle.opclass.proofs.Reading.{read_start, read_end, read_stuck, read_short, read_next}
use Rattle.opclass.proofs.reader.read_marked.Goals as goal

pub loop-left-init : goal.loop-left-init
loop-left-init c = (
  read_start c.args.mark c.put_clear.new.out.items c.args.bytes.now c.in_ok-left.left.now
      (subst (λ (old : List ℕ). PutsClear c.args.mark old c.put_clear.new.out.items c.args.bytes.now c.in_ok-left.left.now) c.new-inside.ensures.items c.in_ok-left.ensures.ok),
  c.in_ok-left.ensures.ok.stop,
)

pub returns-then-second-mark : goal.returns-then-second-mark
returns-then-second-mark c =
    let second : slice_index c.loop-left.left.now 1 ≡ c.args.mark = grind (arith, nat_tests) in
    read_end c.args.mark c.args.bytes.now c.loop-left.inside.items c.loop-left.left.now _ c.loop-left.invariant.0 refl c.in-len2-up.len_at_least
    c.loop-left.invariant.1 second

pub returns-then-second-mark-2 : goal.returns-then-second-mark-2
returns-then-second-mark-2 c =
    let end : slice_index c.loop-left.left.now 1 ≢ c.args.mark = λ e. grind (arith, nat_tests) in
    let other : slice_index c.loop-left.left.now 1 ≢ 255 - c.args.mark = λ e. grind (arith, nat_tests) in
    read_stuck c.args.mark c.args.bytes.now c.loop-left.inside.items c.loop-left.left.now c.loop-left.invariant.0 c.in-len2-up.len_at_least
    c.loop-left.invariant.1 end other

pub loop-left-preserved : goal.loop-left-preserved
loop-left-preserved c =
    let second : slice_index c.loop-left.left.now 1 ≡ 255 - c.args.mark = grind (arith, nat_tests) in
    let put : c.push.new.self.items ≡ c.loop-left.inside.items ++ c.args.mark ∷ [] = grind (arith, common_steps, c.in_ok-push.ensures.items) in (
      read_next c.args.mark c.args.bytes.now c.loop-left.inside.items _ _ c.loop-left.left.now _ _ c.loop-left.invariant.0 c.in_ok-left-2.ensures.ok refl
          c.in-len2-up.len_at_least c.loop-left.invariant.1 second put,
      c.in_ok-left-2.ensures.ok.stop,
    )

pub returns : goal.returns
returns c =
    read_short c.args.mark c.args.bytes.now c.loop-left.inside.items c.loop-left.left.now c.loop-left.invariant.0 c.in_default.len_below
    c.loop-left.invariant.1
