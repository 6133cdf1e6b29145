use Rattle.std.proofs.Common.{sym, refl}
use Rattle.gin_pack.proofs.Takings.{close-done, close-nothing, pending-columns}
use Rattle.gin_pack.proofs.posting_writer.PostingWriter.close.Goals as goal

pub returns-in_default : goal.returns-in_default
returns-in_default c = close-nothing c.args.self.now _ (sym c.in_default.ensures.value) refl c.take.ensures.after refl

pub entry_of-entry-requires : goal.entry_of-entry-requires
entry_of-entry-requires c = pending-columns c.args.self.now c.in-Some.keys c.requires (sym c.in-Some.ensures.value)

pub returns : goal.returns
returns c =
    close-done c.args.self.now _ c.in-Some.keys c.entry_of-entry.result c.deref.result.now (sym c.in-Some.ensures.value)
    c.entry_of-entry.ensures c.deref.ensures.value c.in_ok-push.ensures.ok c.take.ensures.after c.clear.ensures.items
