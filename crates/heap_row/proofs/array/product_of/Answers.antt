use Rattle.std.proofs.Common.{◌≡◌, ℕ, ◌+◌, ◌-◌, ◌*◌, ◌^◌, ◌<◌, ◌≤◌, min, None, refl, sym, ap, ◌∙◌, arith}
use Rattle.heap_row.specs.Array.{dimension, product_of}
use Rattle.heap_row.proofs.Products.{min_times, none_stays, product_none, product_step}
use Rattle.heap_row.proofs.array.product_of.Goals as goal

pub returns-then-dimension-ge-NEGATIVE : goal.returns-then-dimension-ge-NEGATIVE
returns-then-dimension-ge-NEGATIVE c =
    let (product, is, held) = c.loop-n.invariant in
    let above : 2 ^ 31 ≤ dimension c.args.content.now c.loop-n.n = omega (arith, c.word_at-dimension.ensures) in
    let none = product_none c.args.content.now c.loop-n.n product is above in
    let stays = none_stays c.args.content.now (c.loop-n.n + 1) (c.args.ndim - (c.loop-n.n + 1)) none in
    let e : c.args.ndim - (c.loop-n.n + 1) + (c.loop-n.n + 1) ≡ c.args.ndim = omega arith in
    let all : product_of c.args.content.now c.args.ndim ≡ None = sym (ap (λ (n : ℕ). product_of c.args.content.now n) e) ∙ stays in
    rw all refl

pub loop-n-preserved : goal.loop-n-preserved
loop-n-preserved c =
    let (product, is, held) = c.loop-n.invariant in
    let below : dimension c.args.content.now c.loop-n.n < 2 ^ 31 = omega (arith, c.word_at-dimension.ensures) in
    let held' : c.saturating_mul-product.result ≡ min (product * dimension c.args.content.now c.loop-n.n) (2 ^ 64 - 1) =
    rw (c.saturating_mul-product.ensures, held, c.from.ensures, c.word_at-dimension.ensures) (min_times (2 ^ 64 - 1) product (dimension c.args.content.now c.loop-n.n)) in
    (product * dimension c.args.content.now c.loop-n.n, product_step c.args.content.now c.loop-n.n product is below, held')
