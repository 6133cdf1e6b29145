use Rattle.gin_pack.proofs.Addings.{none-added}
use Rattle.gin_pack.proofs.packer.EntryPacker.new.Goals as goal

pub returns : goal.returns
returns c = none-added c.args.kind _ c.in_ok-store.ensures
