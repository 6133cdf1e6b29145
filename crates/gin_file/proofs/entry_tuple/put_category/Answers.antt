use Rattle.std.proofs.Common.{◌∙◌, sym}
use Rattle.gin_file.proofs.EntryTuples.{key-puts, placeholder-puts}
use Rattle.gin_file.proofs.entry_tuple.put_category.Goals as goal

pub returns-then-entry-number : goal.returns-then-entry-number
returns-then-entry-number c = key-puts c.args.entry.now c.args.out.now.items (c.if-entry-number.true ∙ c.number.ensures)

pub returns : goal.returns
returns c =
    placeholder-puts c.args.entry.now c.args.out.now.items _ (λ e. c.if-entry-number.false (e ∙ sym c.number.ensures)) c.in_ok-extend_from_slice.ensures.items
