-- The special space of a B-tree's page (BTPageOpaqueData of nbtree.h).
use Rattle.std.specs.Prelude.{◌≡◌, ℕ, ◌+◌, ◌-◌, ◌/◌, ◌%◌, List, ◌++◌}
use Rattle.pg_bytes.specs.Numbers.{number_at, number_bytes}
use Rattle.pg_bytes.specs.PageLayout.{page_size}
use Rattle.btree_page.specs.declared.special.PageFlag.{PageFlag}
use Rattle.btree_page.specs.declared.special.PageFlag.TheVariants.{Leaf, Root, Deleted, Meta, HalfDead, SplitEnd, HasGarbage, IncompleteSplit, HasFullXid}
use Rattle.btree_page.specs.declared.special.SpecialSpace.{SpecialSpace}

-- the bits of a page's flags: BTP_LEAF and the others
abbrev pub flag_bit : PageFlag → ℕ
flag_bit Leaf = 1
flag_bit Root = 2
flag_bit Deleted = 4
flag_bit Meta = 8
flag_bit HalfDead = 16
flag_bit SplitEnd = 32
flag_bit HasGarbage = 64
flag_bit IncompleteSplit = 128
flag_bit HasFullXid = 256

-- flags have this bit
abbrev pub HasFlag : PageFlag → ℕ → Type 0
HasFlag flag flags = flags / flag_bit flag % 2 ≡ 1

-- where the special space begins, of 16 bytes (sizeof(BTPageOpaqueData))
abbrev pub special_start : ℕ
special_start = page_size - 16

-- its bytes: left and right neighbour, 0 for none (P_NONE), the level above the leaves, flags, and the cycle of the
-- last vacuum
unfoldable pub special_bytes : SpecialSpace → List ℕ
special_bytes space =
    number_bytes 4 space.prev ++ (number_bytes 4 space.next
    ++ (number_bytes 4 space.level ++ (number_bytes 2 space.flags ++ number_bytes 2 space.cycle)))

-- the special space of a page that no vacuum has seen
abbrev pub special_space : ℕ → ℕ → ℕ → ℕ → List ℕ
special_space prev next level flags = special_bytes (record {
  prev = prev;
  next = next;
  level = level;
  flags = flags;
  cycle = 0;
})

-- what the special space of a page says (BTPageGetOpaque)
abbrev pub space_of_page : List ℕ → SpecialSpace
space_of_page page = record {
  prev = number_at 4 page special_start;
  next = number_at 4 page (special_start + 4);
  level = number_at 4 page (special_start + 8);
  flags = number_at 2 page (special_start + 12);
  cycle = number_at 2 page (special_start + 14);
}
