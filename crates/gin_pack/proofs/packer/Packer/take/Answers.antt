use Rattle.std.proofs.Common.{refl}
use Rattle.gin_pack.proofs.Receivings.{kept-columns, receives}
use Rattle.gin_pack.proofs.packer.Packer.take.Goals as goal

pub take-requires : goal.take-requires
take-requires c = kept-columns c.args.self.now c.store_done.new.self c.requires c.in_ok-store_done.ensures

pub returns : goal.returns
returns c =
    receives c.args.self.now c.store_done.new.self (record c.store_done.new.self { writer = c.take.new.self }) c.args.row.now.keys c.args.row.now.ptr
    c.in_ok-store_done.ensures c.in_ok-take.ensures refl
