use Rattle.std.proofs.Common.{arith}
use Rattle.posting_tree.proofs.ReadVarbytes.{at-last, at-more, no-rest, seven-groups}
use Rattle.posting_tree.proofs.varbyte.+read_groups.Goals as goal

pub returns-then-low-lt-GROUP-clause-read : goal.returns-then-low-lt-GROUP-clause-read
returns-then-low-lt-GROUP-clause-read t c = at-last _ _ _ c.in-len1-up.len_at_least (omega arith) c.from-low.ensures c.if-low-lt-GROUP.true

pub returns-in_err-high-clause-read : goal.returns-in_err-high-clause-read
returns-in_err-high-clause-read t c =
    rw c.from_residual.ensures (no-rest _ _ _ c.in-len1-up.len_at_least c.from-low.ensures c.if-low-lt-GROUP.false c.in_err-high.ensures.read)

pub returns-clause-read : goal.returns-clause-read
returns-clause-read t c =
    at-more _ _ _ _ _ c.in-len1-up.len_at_least (omega arith) c.from-low.ensures c.if-low-lt-GROUP.false (omega (arith, c.type_inv.bytes 0, c.from-low.ensures)) (omega arith) c.in_ok-high.ensures.read

pub returns-clause-bound : goal.returns-clause-bound
returns-clause-bound t c =
    seven-groups _ _ c.requires
    (at-more _ _ _ _ _ c.in-len1-up.len_at_least (omega arith) c.from-low.ensures c.if-low-lt-GROUP.false (omega (arith, c.type_inv.bytes 0, c.from-low.ensures)) (omega arith) c.in_ok-high.ensures.read).fits
