use Rattle.std.proofs.Common.{Some, ap, refl}
use Rattle.gin_pack.proofs.Takings.{take-begins}
use Rattle.gin_pack.proofs.posting_writer.PostingWriter.begin.Goals as goal

pub returns : goal.returns
returns c =
    take-begins c.args.self.now c.close.new.self (record c.close.new.self { pending = Some c.replace.result; ptrs = c.push.new.self })
    c.args.keys.now c.args.ptr c.requires.other c.in_ok-close.ensures refl (ap Some c.replace.ensures.value) c.in_ok-push.ensures.items
