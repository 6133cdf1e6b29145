use Rattle.std.proofs.Common.{◌∷◌, [], ap, length, length-append, arith}
use Rattle.btree_pack.proofs.grouper.+append.Goals as goal

pub append-requires : goal.append-requires
append-requires t c = omega (arith, c.decreases, ap length c.in-Some.ensures, length-append c.pop.new.self (c.in-Some.last ∷ []))
