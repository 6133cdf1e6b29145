use Rattle.std.proofs.Common.{arith, ap, ◌∙◌, List, Some}
use Rattle.pg_bytes.specs.declared.row_ptr.RowPtr.{RowPtr}
use Rattle.btree_item.proofs.Pointers.{begins-long, begins-read}
use Rattle.btree_item.proofs.item_reading.read_pointers.Goals as goal

pub returns-then-count-bytes-clause-only : goal.returns-then-count-bytes-clause-only
returns-then-count-bytes-clause-only c = λ ptrs many begins.
    let long = begins-long c.args.bytes.now ptrs begins in
    let more = c.if-count-bytes.true in
    absurd (omega arith)

pub returns-in_ok-pointers_of-clause-only : goal.returns-in_ok-pointers_of-clause-only
returns-in_ok-pointers_of-clause-only c = λ ptrs many begins.
    ap (λ (l : List RowPtr). Some l) (c.in_ok-pointers_of.ensures.are ∙ begins-read c.args.count c.args.bytes.now ptrs many begins)
