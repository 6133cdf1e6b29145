use Rattle.std.proofs.Common.{◌∙◌, ◌++◌, List, ℕ, ap, sym}
use Rattle.tuple_data.specs.Nulls.{has_null}
use Rattle.gin_file.proofs.EntryTuples.{null-bitmap}
use Rattle.gin_file.proofs.entry_tuple.put_bitmap.Goals as goal

pub returns : goal.returns
returns c =
    c.in_ok-extend_from_slice.ensures.items
    ∙ ap (λ (l : List ℕ). c.args.out.now.items ++ l)
    (sym (null-bitmap c.args.entry.now.key (sym (c.has_null.ensures ∙ ap has_null c.from_ref.ensures.value) ∙ c.if-not-has_null.false)))
