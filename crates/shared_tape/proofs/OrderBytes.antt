-- How order bytes compare: as the records do.
use Rattle.std.proofs.Common.{◌≡◌, ℕ, ◌^◌, ◌<◌, List, [], sym, ap, ◌∙◌, append-nil, Equal, nat_cmp}
use Rattle.std.specs.Cmp.{IsTotalOrder}
use Rattle.std.specs.Ordering.{ordering_then}
use Rattle.std.specs.Int.{bytes_high_first}
use Rattle.std.proofs.lemmas.Cmp.{nat_list_cmp_total, tied_itself, on_total}
use Rattle.byteorder.specs.Endian.{big_from}
use Rattle.byteorder.specs.Numbers.{length-bytes_high_first, big_number-reads_back}
use Rattle.pg_bytes.specs.declared.row_ptr.RowPtr.{RowPtr}
use Rattle.opclass.specs.declared.spec.SortPart.{SortPart}
use Rattle.opclass.specs.declared.value.KeyVal.{KeyVal}
use Rattle.opclass.specs.Order.{bytes_cmp, key_cmp, pointer_cmp}
use Rattle.opclass.proofs.KeyOrder.{row_cmp_total, row_cmp_exact}
use Rattle.opclass.proofs.Norms.{norms_show_end}
use Rattle.opclass.proofs.Pieces.{AreBytes-high_first, bytes_cmp-big, bytes_cmp-settled, settled-same_length}
use Rattle.shared_tape.specs.declared.stored.Record.{Record}
use Rattle.shared_tape.specs.Stored.{record_cmp, pointer_bytes, order_bytes, IsPointer, IsStorable}

-- numbers of so many bytes compare as their bytes do
high_first-cmp : (n a b : ℕ) → a < 256 ^ n → b < 256 ^ n → bytes_cmp (bytes_high_first n a) (bytes_high_first n b) ≡ nat_cmp a b
high_first-cmp n a b p q =
    bytes_cmp-big n (bytes_high_first n a) (bytes_high_first n b) (length-bytes_high_first n a) (length-bytes_high_first n b)
    (AreBytes-high_first n a) (AreBytes-high_first n b)
    ∙ (λ i. nat_cmp (back a p i) (back b q i))
  where
    back : (x : ℕ) → x < 256 ^ n → big_from 0 n (bytes_high_first n x) ≡ x
    back x h = ap (big_from 0 n) (sym (append-nil (bytes_high_first n x))) ∙ big_number-reads_back n x [] h

pointer_bytes-cmp : (p q : RowPtr) → IsPointer p → IsPointer q → bytes_cmp (pointer_bytes p) (pointer_bytes q) ≡ pointer_cmp p q
pointer_bytes-cmp p q pf qf =
    bytes_cmp-settled (bytes_high_first 4 p.block) (bytes_high_first 4 q.block) (bytes_high_first 2 p.offset) (bytes_high_first 2 q.offset)
    (bytes_cmp (bytes_high_first 4 p.block) (bytes_high_first 4 q.block))
    (settled-same_length (bytes_high_first 4 p.block) (bytes_high_first 4 q.block)
    (length-bytes_high_first 4 p.block ∙ sym (length-bytes_high_first 4 q.block)))
    ∙ (λ i. ordering_then (high_first-cmp 4 p.block q.block pf.0 qf.0 i) (high_first-cmp 2 p.offset q.offset pf.1 qf.1 i))

pub order_bytes_ordered : (order : List SortPart) (a b : Record) → IsStorable order a → IsStorable order b
    → bytes_cmp (order_bytes order a) (order_bytes order b) ≡ record_cmp order a b
unfolding order_bytes
order_bytes_ordered order a b p q =
    norms_show_end order a.keys b.keys (pointer_bytes a.ptr) (pointer_bytes b.ptr) p.keys q.keys
    ∙ ap (ordering_then (key_cmp order a.keys b.keys)) (pointer_bytes-cmp a.ptr b.ptr p.pointer q.pointer)

pub order_bytes_apart : (order : List SortPart) (a b : Record) → IsStorable order a → IsStorable order b
    → order_bytes order a ≡ order_bytes order b → (a.keys ≡ b.keys) × (a.ptr ≡ b.ptr)
order_bytes_apart order a b p q same =
    let level : record_cmp order a b ≡ Equal =
    sym (order_bytes_ordered order a b p q)
    ∙ ap (bytes_cmp (order_bytes order a)) (sym same)
    ∙ tied_itself nat_list_cmp_total (order_bytes order a) in
    let row = row_cmp_exact order (a.keys, a.ptr) (b.keys, b.ptr) level in
    (ap (λ (r : List KeyVal × RowPtr). r.0) row, ap (λ (r : List KeyVal × RowPtr). r.1) row)

pub record_cmp_total : (order : List SortPart) → IsTotalOrder (record_cmp order)
record_cmp_total order = on_total (λ (row : Record). (row.keys, row.ptr)) (row_cmp_total order)
