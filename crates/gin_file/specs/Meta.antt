-- The meta page of a GIN index (GinMetaPageData of ginblock.h).
use Rattle.std.specs.Prelude.{ℕ, ◌+◌, ◌-◌, List, ◌++◌}
use Rattle.pg_bytes.specs.Numbers.{number_bytes}
use Rattle.pg_bytes.specs.Places.{zeros}
use Rattle.pg_bytes.specs.PageLayout.{header_size, page_header}
use Rattle.posting_tree.specs.Levels.{no_link}
use Rattle.posting_tree.specs.Special.{meta_flag, special_space, special_start}
use Rattle.gin_file.specs.declared.meta.Counts.{Counts}

-- GIN_CURRENT_VERSION
abbrev pub gin_version : ℕ
gin_version = 2

-- where the fields end, which are 56 bytes (sizeof(GinMetaPageData))
abbrev pub meta_end : ℕ
meta_end = header_size + 56

-- The fields. The list of pending entries is empty: it has no head and no tail, nothing is free on its last page, and it
-- has no pages and no rows.
unfoldable pub meta_fields : Counts → List ℕ
meta_fields counts =
    number_bytes 4 no_link ++ (number_bytes 4 no_link ++ (number_bytes 4 0 ++ (number_bytes 4 0 ++ (number_bytes 8 0
    ++ (number_bytes 4 counts.blocks ++ (number_bytes 4 counts.entry_pages ++ (number_bytes 4 counts.data_pages ++ (zeros 4
    ++ (number_bytes 8 counts.entries ++ (number_bytes 4 gin_version ++ zeros 4))))))))))

-- block 0
unfoldable pub meta_page : Counts → List ℕ
meta_page counts =
    page_header meta_end special_start special_start
    ++ (meta_fields counts ++ (zeros (special_start - meta_end) ++ special_space no_link 0 meta_flag))
