-- The blocks of a file, which is one page after the other (md.c).
use Rattle.std.specs.Prelude.{◌≡◌, ℕ, ◌*◌, ◌/◌, ◌%◌, List, length, take, drop}
use Rattle.pg_bytes.specs.PageLayout.{page_size}

-- how many whole blocks a file has (mdnblocks)
abbrev pub block_count : List ℕ → ℕ
block_count file = length file / page_size

-- the block of this number of a file, counted from 0 (mdread)
unfoldable pub block_at : ℕ → List ℕ → List ℕ
block_at block file = take page_size (drop (page_size * block) file)

-- the file has no part of a block
abbrev pub IsWhole : List ℕ → Type 0
IsWhole file = length file % page_size ≡ 0
