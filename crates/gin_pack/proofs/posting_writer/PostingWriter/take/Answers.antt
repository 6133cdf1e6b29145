use Rattle.std.proofs.Common.{refl}
use Rattle.gin_pack.proofs.Takings.{take-joins}
use Rattle.gin_pack.proofs.posting_writer.PostingWriter.take.Goals as goal

pub returns : goal.returns
returns c =
    take-joins c.args.self.now (record c.args.self.now { ptrs = c.push.new.self }) c.args.keys.now c.args.ptr (c.is_coming.ensures.0 c.if-not-is_coming.false) refl refl c.in_ok-push.ensures.items
