use Rattle.std.proofs.Common.{◌∙◌, arith, ap, sym}
use Rattle.pg_bytes.specs.declared.row_ptr.RowPtr.{RowPtr}
use Rattle.gin_file.proofs.EntryItems.{inner-read, list-read, tree-read, tuple-begins, tuple-small}
use Rattle.gin_file.proofs.entry_reading.read_entry.Goals as goal

pub returns-then-bytes-gt-SIZE_MOST : goal.returns-then-bytes-gt-SIZE_MOST
returns-then-bytes-gt-SIZE_MOST c = λ said t.
    let small = tuple-small _ _ c.args.bytes.now said t in
    let many = c.if-bytes-gt-SIZE_MOST.true in
    absurd (omega arith)

pub returns-in_default : goal.returns-in_default
returns-in_default c = λ said t.
    let begins = tuple-begins _ _ c.args.bytes.now said t in
    c.in_default.not-Some begins.0 (c.in_ok-entry.ensures.only begins.0 begins.1)

pub returns-then-not-leaf : goal.returns-then-not-leaf
returns-then-not-leaf c =
    rw c.if-not-leaf.true
    (inner-read c.args.kind c.args.bytes.now c.in-Some.entry c.at-front.result.block c.read_inner.result c.read_inner.ensures
    (rw c.in-Some.is at c.in_ok-entry.ensures.only) (ap (λ (p : RowPtr). p.block) c.at-front.ensures))

pub returns-then-front : goal.returns-then-front
returns-then-front c =
    rw c.if-not-leaf.false
    (tree-read c.args.kind c.args.bytes.now c.in-Some.entry c.at-front.result.block c.read_tree.result c.read_tree.ensures
    (rw c.in-Some.is at c.in_ok-entry.ensures.only) (ap (λ (p : RowPtr). p.block) c.at-front.ensures)
    (sym (ap (λ (p : RowPtr). p.offset) c.at-front.ensures) ∙ c.if-front.true))

pub returns-else-front : goal.returns-else-front
returns-else-front c =
    rw c.if-not-leaf.false
    (list-read c.args.kind c.args.bytes.now c.in-Some.entry c.read_list.result c.read_list.ensures
    (rw c.in-Some.is at c.in_ok-entry.ensures.only)
    (λ mark. c.if-front.false (ap (λ (p : RowPtr). p.offset) c.at-front.ensures ∙ mark)))
