-- Index tuples (IndexTupleData of itup.h).
use Rattle.std.specs.Prelude.{ℕ, ◌/◌, ◌%◌, ◌^◌, List, ◌++◌, drop}
use Rattle.pg_bytes.specs.Numbers.{number_bytes}

-- a pivot tuple led to a child (BTreeTupleSetDownLink of nbtree.h): the child's block in its first four bytes
unfoldable pub with_child : ℕ → List ℕ → List ℕ
with_child child pivot = number_bytes 2 (child / 2 ^ 16) ++ (number_bytes 2 (child % 2 ^ 16) ++ drop 4 pivot)
