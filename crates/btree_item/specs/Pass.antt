-- What the reading of a B-tree's tuple keeps on its way.
use Rattle.std.specs.Prelude.{◌≡◌, ℕ, zero, suc, List, [], ◌∷◌, ◌++◌, drop, All}
use Rattle.std.specs.List.{flat_map}
use Rattle.pg_bytes.specs.Pointers.{row_pointer_at, row_pointer_bytes}
use Rattle.pg_bytes.specs.declared.row_ptr.RowPtr.{RowPtr}
use Rattle.btree_item.specs.Item.{IsPointer}

-- so many row pointers, of six bytes each, from the front of bytes
abbrev pub pointers_in : ℕ → List ℕ → List RowPtr
pointers_in zero bytes = []
pointers_in (suc count) bytes = row_pointer_at bytes 0 ∷ pointers_in count (drop 6 bytes)

-- bytes begin with those of row pointers
pub record BeginsWithPointers (bytes : List ℕ) (ptrs : List RowPtr) : Type 0 where
  pub fit : All IsPointer ptrs
  pub rest : List ℕ
  pub bytes_are : bytes ≡ flat_map row_pointer_bytes ptrs ++ rest
