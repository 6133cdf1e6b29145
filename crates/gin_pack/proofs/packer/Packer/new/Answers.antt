use Rattle.gin_pack.proofs.Receivings.{none-taken}
use Rattle.gin_pack.proofs.packer.Packer.new.Goals as goal

pub returns : goal.returns
returns c = none-taken c.args.kind _ c.in_ok-store.ensures (c.new-2.ensures c.args.kind)
