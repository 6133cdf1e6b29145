use Rattle.gin_pack.proofs.Addings.{added-file, adding-storing}
use Rattle.gin_pack.proofs.packer.EntryPacker.finish.Goals as goal

pub finish-requires : goal.finish-requires
finish-requires c = adding-storing c.args.self c.requires

pub returns : goal.returns
returns c = added-file c.args.self c.in_ok-file.file c.in_ok-file.ensures
