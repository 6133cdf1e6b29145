use Rattle.btree_pack.proofs.OpenPages.{first_form-tuple}
use Rattle.btree_pack.proofs.open_page.make_first.Goals as goal

pub returns-then-level-gt0-clause-tuple : goal.returns-then-level-gt0-clause-tuple
returns-then-level-gt0-clause-tuple c = rw c.make_minus_infinity.ensures (first_form-tuple 1 c.args.tuple.now.items c.requires)
