-- The special space of a page of a GIN index (GinPageOpaqueData of ginblock.h).
use Rattle.std.specs.Prelude.{ℕ, ◌+◌, ◌-◌, List, ◌++◌}
use Rattle.pg_bytes.specs.Numbers.{number_at, number_bytes}
use Rattle.pg_bytes.specs.PageLayout.{page_size}

-- where it begins, eight bytes before the page's end
abbrev pub special_start : ℕ
special_start = page_size - 8

-- GIN_DATA, GIN_LEAF, GIN_META and GIN_COMPRESSED: a page of a posting tree, a leaf, the meta page, segments on a leaf
abbrev pub data_flag : ℕ
data_flag = 1

abbrev pub leaf_flag : ℕ
leaf_flag = 2

abbrev pub meta_flag : ℕ
meta_flag = 8

abbrev pub compressed_flag : ℕ
compressed_flag = 0x80

-- right link, how many items a page above a posting tree's leaves has (maxoff), and flags
unfoldable pub special_space : ℕ → ℕ → ℕ → List ℕ
special_space right maxoff flags = number_bytes 4 right ++ (number_bytes 2 maxoff ++ number_bytes 2 flags)

-- the three of a page
abbrev pub right_of : List ℕ → ℕ
right_of page = number_at 4 page special_start

abbrev pub maxoff_of : List ℕ → ℕ
maxoff_of page = number_at 2 page (special_start + 4)

abbrev pub flags_of : List ℕ → ℕ
flags_of page = number_at 2 page (special_start + 6)
