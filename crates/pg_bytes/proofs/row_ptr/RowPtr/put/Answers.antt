use Rattle.std.proofs.Common.{◌≡◌, ℕ, ◌+◌, ◌≤◌, List, ◌++◌, length, ap, ◌∙◌, arith, length-append}
use Rattle.std.proofs.lemmas.List.{append_assoc}
use Rattle.pg_bytes.proofs.Writes.{length-number_bytes, written-written}
use Rattle.pg_bytes.specs.Places.{written}
use Rattle.pg_bytes.specs.Pointers.{row_pointer_bytes}
use Rattle.pg_bytes.proofs.row_ptr.RowPtr.put.Goals as goal

-- three writes of two bytes, one behind the other, are one write
three : (a b c bytes : List ℕ) (place : ℕ) → length a ≡ 2 → length b ≡ 2 → length c ≡ 2 → place + 6 ≤ length bytes
    → written c (place + 4) (written b (place + 2) (written a place bytes)) ≡ written (a ++ (b ++ c)) place bytes
three a b c bytes place la lb lc fits =
    let ab : length (a ++ b) ≡ 4 = length-append a b ∙ omega arith in
    ap (written c (place + 4)) (written-written a b place (place + 2) bytes (omega arith) (omega arith))
    ∙ written-written (a ++ b) c place (place + 4) bytes (omega arith) (omega arith)
    ∙ ap (λ (piece : List ℕ). written piece place bytes) (append_assoc a b c)

pub returns : goal.returns
unfolding row_pointer_bytes
returns c =
    rw (c.put_u16_at-3.ensures, c.put_u16_at-2.ensures, c.put_u16_at.ensures)
    (three _ _ _ c.args.bytes.now c.args.place (length-number_bytes 2 _) (length-number_bytes 2 _) (length-number_bytes 2 _) c.requires)
