use Rattle.std.proofs.Common.{◌≡◌, List, ◌++◌, ℕ, take, drop, length, ◌-◌, sym, subst, arith}
use Rattle.std.proofs.lemmas.Grind.{common_steps}
use Rattle.opclass.specs.Pass.{PutsClear}
use Rattle.opclass.proofs.Bytes.{puts_clear}
use Rattle.shared_tape.proofs.text.put_clear.Goals as goal

pub returns : goal.returns
returns c =
    let bytes : List ℕ = c.args.bytes.now in
    let n : ℕ = c.clear_len-clear.result in
    let new : List ℕ = c.extend_from_slice.new.self.items in
    let put : new ≡ c.args.text.now.items ++ take n bytes = grind (arith, common_steps, c.in_ok-extend_from_slice.ensures.items) in
    let left : take (length bytes - n) (drop n bytes) ≡ drop n bytes = grind (arith, common_steps) in
    subst (PutsClear c.args.mark c.args.text.now.items new bytes) (sym left)
    (puts_clear c.args.mark c.args.text.now.items new bytes n c.clear_len-clear.ensures.clear c.clear_len-clear.ensures.stop put)
