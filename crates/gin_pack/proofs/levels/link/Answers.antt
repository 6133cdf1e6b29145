use Rattle.std.proofs.Common.{◌+◌}
use Rattle.gin_pack.proofs.PageParts.{linked-page}
use Rattle.gin_pack.proofs.Placings.{link-before}
use Rattle.gin_pack.proofs.levels.link.Goals as goal

pub returns-then-block-end : goal.returns-then-block-end
returns-then-block-end c =
    λ flags tuples room is.
    rw (c.put_u32.ensures, is, link-before c.args.block c.args.end c.if-block-end.true) (linked-page flags _ (c.args.block + 1) tuples room)
