use Rattle.std.proofs.Common.{◌∙◌, sym}
use Rattle.gin_file.proofs.TupleFronts.{byte-at, known-category}
use Rattle.gin_file.proofs.entry_reading.read_placeholder.Goals as goal

pub returns-in_err-category-clause-only : goal.returns-in_err-category-clause-only
returns-in_err-category-clause-only c = λ entry rest is some behind.
    let known = known-category entry is.entry_is some in
    absurd (c.in_err-category.ensures known.0 (known.1 ∙ sym (byte-at c.args.bytes.now rest 16 _ c.in_ok-get.field-0.now behind) ∙ sym c.in_ok-get.ensures.lookup.1))
