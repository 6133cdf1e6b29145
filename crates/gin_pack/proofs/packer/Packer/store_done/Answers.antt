use Rattle.std.proofs.Common.{refl}
use Rattle.gin_pack.proofs.Receivings.{done-storable, keeps-taken, taking-storing}
use Rattle.gin_pack.proofs.packer.Packer.store_done.Goals as goal

pub store_in-requires-clause-storing : goal.store_in-requires-clause-storing
store_in-requires-clause-storing c = taking-storing c.args.self.now c.requires

pub store_in-requires-clause-listed : goal.store_in-requires-clause-listed
store_in-requires-clause-listed c = (done-storable c.args.self.now c.requires).listed

pub store_in-requires-clause-few : goal.store_in-requires-clause-few
store_in-requires-clause-few c = (done-storable c.args.self.now c.requires).few

pub returns : goal.returns
returns c =
    keeps-taken c.args.self.now
    (record c.args.self.now { store = c.store_in.new.store; writer = record c.args.self.now.writer { done = c.clear.new.self } })
    c.in_ok-store_in.ensures c.clear.ensures refl refl
