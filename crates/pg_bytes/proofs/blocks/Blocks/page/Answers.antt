use Rattle.std.proofs.Common.{◌≡◌, List, ℕ, ◌+◌, ◌-◌, ◌*◌, take, drop, ap, ◌∙◌, arith}
use Rattle.pg_bytes.specs.Blocks.{block_at}
use Rattle.pg_bytes.proofs.blocks.Blocks.page.Goals as goal

pub returns : goal.returns
unfolding block_at
returns c =
    let start : ℕ = 8192 * c.args.block in
    c.of_block.ensures
    ∙ ap (λ (n : ℕ). take n (drop start c.self.inside.bytes.now)) (let e : start + 8192 - start ≡ 8192 = omega arith in e)
    ∙ ap (λ (file : List ℕ). take 8192 (drop start file)) c.self.view_is
