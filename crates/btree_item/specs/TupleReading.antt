-- What the reading of an index tuple keeps on its way (index_deform_tuple of indextuple.c).
use Rattle.std.specs.Prelude.{◌≡◌, ℕ, ◌^◌, ◌<◌, List, ◌++◌}
use Rattle.std.specs.List.{AllZip}
use Rattle.pg_bytes.specs.declared.row_ptr.RowPtr.{RowPtr}
use Rattle.opclass.specs.declared.types.ColType.{ColType}
use Rattle.opclass.specs.declared.value.KeyVal.{KeyVal}
use Rattle.opclass.specs.Values.{IsValueOf}
use Rattle.btree_item.specs.Tuple.{index_tuple, info_of}

-- Bytes begin with the index tuple of these values, with this in the place of its row pointer. The size in t_info may
-- be that of more than the tuple, and the bit above it, the method's own, may be set.
pub record BeginsWithTuple
    (kinds : List ColType) (bytes : List ℕ) (front : RowPtr) (size : ℕ) (values : List KeyVal) : Type 0 where
  pub typed : AllZip IsValueOf kinds values
  pub small : size < 2 ^ 14
  pub rest : List ℕ
  pub bytes_are : bytes ≡ index_tuple front (info_of size kinds values) kinds values ++ rest
