-- How many bytes the parts of a page have.
use Rattle.std.proofs.Common.{◌≡◌, length, refl, length-append}
use Rattle.pg_bytes.proofs.Writes.{length-number_bytes}
use Rattle.pg_bytes.specs.Pointers.{row_pointer_bytes}
use Rattle.pg_bytes.specs.declared.row_ptr.RowPtr.{RowPtr}

pub length-row_pointer_bytes : (ptr : RowPtr) → length (row_pointer_bytes ptr) ≡ 6
unfolding row_pointer_bytes
length-row_pointer_bytes ptr = simp (length-append, length-number_bytes) refl
