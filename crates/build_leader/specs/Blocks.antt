-- The file of a heap: its size (RELSEG_SIZE of pg_config.h).
use Rattle.std.specs.Prelude.{ℕ, ◌*◌, ◌≤◌, List, length}
use Rattle.pg_bytes.specs.Blocks.{IsWhole}
use Rattle.pg_bytes.specs.PageLayout.{page_size}

-- the most blocks of a heap: 1 GiB, one segment of a table's file
abbrev pub most_blocks : ℕ
most_blocks = 131072

abbrev pub most_bytes : ℕ
most_bytes = most_blocks * page_size

-- the heap is of whole blocks, and not too many
abbrev pub IsHeapFile : List ℕ → Type 0
IsHeapFile heap = (length heap ≤ most_bytes) × IsWhole heap
