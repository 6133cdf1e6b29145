use Rattle.std.proofs.Common.{◌≡◌, ◌<◌, ◌≤◌, length, take, ap, sym, subst, arith, length-take}
use Rattle.std.specs.Prelude.{IfOk}
use Rattle.pg_bytes.specs.Pointers.{row_pointer_at}
use Rattle.pg_bytes.specs.declared.row_ptr.RowPtr.{RowPtr}
use Rattle.btree_item.proofs.IndexItems.{index-sized, none-shared, pivot-read, row-read, shared-read}
use Rattle.btree_item.proofs.ItemReads.{IsAnswer, plain-read, posting-read}
use Rattle.btree_item.proofs.item_reading.read_item.Goals as goal
use Rattle.btree_item.proofs.item_reading.read_item.Goals.{then-bytes-lt-HEAD-via-then-bytes-lt-HEAD, then-bytes-lt-HEAD-via-else-bytes-lt-HEAD+then-bytes-gt-PIVOT_MOST}

pub returns-then-bytes-lt-HEAD : goal.returns-then-bytes-lt-HEAD
returns-then-bytes-lt-HEAD c = λ said t.
    let least = (index-sized c.args.kinds.now c.args.key_count c.args.bytes.now said t).least in
    let most = (index-sized c.args.kinds.now c.args.key_count c.args.bytes.now said t).most in
    elim c.then-bytes-lt-HEAD.branch [
      | then-bytes-lt-HEAD-via-then-bytes-lt-HEAD w ↦ let few = w.if-bytes-lt-HEAD.true in absurd (omega arith)
      | then-bytes-lt-HEAD-via-else-bytes-lt-HEAD+then-bytes-gt-PIVOT_MOST w ↦ let many = w.if-bytes-gt-PIVOT_MOST.true in absurd (omega arith)
    ]

pub returns-then-u16_at-lt-NO_ROW : goal.returns-then-u16_at-lt-NO_ROW
returns-then-u16_at-lt-NO_ROW c =
    let info = c.u16_at.ensures in
    let low = c.if-u16_at-lt-NO_ROW.true in
    row-read c.args.kinds.now c.args.key_count c.args.bytes.now c.read_plain.result (omega arith)
    (plain-read c.args.kinds.now c.args.bytes.now c.at-front.result c.read_plain.result c.at-front.ensures (omega arith)
    (rw c.as_slice-kinds.ensures at c.read_plain.ensures))

pub returns-then-front-lt-POSTING : goal.returns-then-front-lt-POSTING
returns-then-front-lt-POSTING c =
    let info = c.u16_at.ensures in
    let high = c.if-u16_at-lt-NO_ROW.false in
    let low = c.if-front-lt-POSTING.true in
    let offset = ap (λ (p : RowPtr). p.offset) c.at-front.ensures in
    pivot-read c.args.kinds.now c.args.key_count c.args.bytes.now c.read_any_pivot.result (omega arith) (omega arith)
    (rw (c.as_slice-kinds.ensures, c.from.ensures) at c.read_any_pivot.ensures)

pub returns-then-keys-kinds : goal.returns-then-keys-kinds
returns-then-keys-kinds c =
    let info = c.u16_at.ensures in
    let high = c.if-u16_at-lt-NO_ROW.false in
    let mark = c.if-front-lt-POSTING.false in
    let offset = ap (λ (p : RowPtr). p.offset) c.at-front.ensures in
    let less : length (take c.args.key_count c.args.kinds.now) < length c.args.kinds.now = rw (c.as_slice-kinds.ensures, c.from.ensures) at c.if-keys-kinds.true in
    let many = length-take c.args.key_count c.args.kinds.now in
    none-shared c.args.kinds.now c.args.key_count c.args.bytes.now c.requires.few (omega arith) (omega arith) (omega arith)

pub returns-else-keys-kinds : goal.returns-else-keys-kinds
returns-else-keys-kinds c =
    let info = c.u16_at.ensures in
    let high = c.if-u16_at-lt-NO_ROW.false in
    let mark = c.if-front-lt-POSTING.false in
    let offset = ap (λ (p : RowPtr). p.offset) c.at-front.ensures in
    let all : length c.args.kinds.now ≤ length (take c.args.key_count c.args.kinds.now) = rw (c.as_slice-kinds.ensures, c.from.ensures) at c.if-keys-kinds.false in
    let many = length-take c.args.key_count c.args.kinds.now in
    shared-read c.args.kinds.now c.args.key_count c.args.bytes.now c.read_posting.result c.requires.few (omega arith) (omega arith) (omega arith)
    (posting-read c.args.kinds.now c.args.bytes.now c.at-front.result c.read_posting.result c.requires.few c.at-front.ensures (omega arith) (omega arith)
    (rw c.as_slice-kinds.ensures at c.read_posting.ensures))
