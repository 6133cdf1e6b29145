use Rattle.std.proofs.Common.{◌^◌, ◌<◌, sym, subst, inl, inr, arith}
use Rattle.pg_bytes.specs.PageLayout.{page_size}
use Rattle.heap_row.specs.Typed.{ElementHasAtMost}
use Rattle.gin_entry.specs.declared.entry.Entry.{Entry}
use Rattle.gin_entry.specs.EntrySize.{entry_size}
use Rattle.build_leader.proofs.WideEntries.{element_size, not_wide}
use Rattle.build_leader.proofs.gin.wide_entry.is_wide.Goals as goal

pub entry_size-requires : goal.entry_size-requires
entry_size-requires c =
    let size = element_size c.args.kind page_size c.args.element.now (omega arith) c.requires in
    subst (λ (e : Entry). entry_size c.args.kind e < 2 ^ 63) (sym c.in_ok-entry-in-Raw-2.ensures) (omega (arith, size))

pub returns-in-Raw : goal.returns-in-Raw
returns-in-Raw c =
    not_wide c.args.kind c.args.element.now
    (subst (ElementHasAtMost 2676) (sym c.in-Raw.is) (omega (arith, c.len.ensures, c.if-len-le-SHORT_TEXT.true)))

pub returns-in-Null-2 : goal.returns-in-Null-2
returns-in-Null-2 c =
    not_wide c.args.kind c.args.element.now
    (elim c.in-Null.is [
      | inl none ↦ subst (ElementHasAtMost 2676) (sym none) tt
      | inr number ↦ subst (ElementHasAtMost 2676) (sym number.1) tt
    ])
