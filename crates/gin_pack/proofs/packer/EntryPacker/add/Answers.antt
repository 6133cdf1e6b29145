use Rattle.gin_pack.proofs.Addings.{add-few, add-listed, add-storing, adds}
use Rattle.gin_pack.proofs.packer.EntryPacker.add.Goals as goal

pub store_in-requires-clause-storing : goal.store_in-requires-clause-storing
store_in-requires-clause-storing c = add-storing c.args.self.now c.args.run c.requires

pub store_in-requires-clause-listed : goal.store_in-requires-clause-listed
store_in-requires-clause-listed c = add-listed c.args.self.now c.args.run c.requires

pub store_in-requires-clause-few : goal.store_in-requires-clause-few
store_in-requires-clause-few c = add-few c.args.self.now c.args.run c.requires

pub returns : goal.returns
returns c = adds c.args.self.now (record { store = c.store_in.new.store }) c.args.run c.in_ok-store_in.ensures
