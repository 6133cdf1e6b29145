use Rattle.gin_pack.proofs.Runs.{still-storing}
use Rattle.gin_pack.proofs.Receivings.{closed-storable, taking-columns, taking-storing, whole-file}
use Rattle.gin_pack.proofs.packer.Packer.finish.Goals as goal

pub close-requires : goal.close-requires
close-requires c = taking-columns c.args.self c.requires

pub store_in-requires-clause-storing : goal.store_in-requires-clause-storing
store_in-requires-clause-storing c = taking-storing c.args.self c.requires

pub store_in-requires-clause-listed : goal.store_in-requires-clause-listed
store_in-requires-clause-listed c = (closed-storable c.args.self c.close.new.self c.requires c.in_ok-close.ensures).listed

pub store_in-requires-clause-few : goal.store_in-requires-clause-few
store_in-requires-clause-few c = (closed-storable c.args.self c.close.new.self c.requires c.in_ok-close.ensures).few

pub finish-requires : goal.finish-requires
finish-requires c = still-storing c.args.self.store c.store_in.new.store c.close.new.self.done (taking-storing c.args.self c.requires) c.in_ok-store_in.ensures

pub returns : goal.returns
returns c =
    whole-file c.args.self c.close.new.self c.store_in.new.store c.in_ok-file.file c.in_ok-close.ensures
    c.in_ok-store_in.ensures c.in_ok-file.ensures
