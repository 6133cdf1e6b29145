use Rattle.std.proofs.Common.{◌≡◌, ◌++◌, take}
use Rattle.std.specs.List.{flat_map}
use Rattle.pg_bytes.specs.Pointers.{row_pointer_bytes}
use Rattle.btree_item.proofs.posting_tuple.put_pointers.Given as goal

abbrev pub invariant-loop-ptr : goal.invariant-loop-ptr
invariant-loop-ptr l = l.out.items ≡ l.fn.out.items ++ flat_map row_pointer_bytes (take l.ptr-index l.ptrs)
