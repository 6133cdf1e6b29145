-- A page while its tuples are put: the line pointers that are reserved for a high key are zero, and those of the tuples
-- stand behind them (_bt_blnewpage of nbtsort.c).
use Rattle.std.specs.Prelude.{ℕ, ◌+◌, ◌-◌, ◌*◌, List, ◌++◌, length}
use Rattle.pg_bytes.specs.ItemPage.{line_pointers, placed_items, upper_at}
use Rattle.pg_bytes.specs.PageLayout.{header_size, line_pointer_size, page_header, page_size}
use Rattle.pg_bytes.specs.Places.{zeros}

-- where the line pointers end
abbrev pub lower_behind : ℕ → List (List ℕ) → ℕ
lower_behind reserved tuples = header_size + line_pointer_size * (reserved + length tuples)

unfoldable pub begun_page : List ℕ → ℕ → List (List ℕ) → List ℕ
begun_page special reserved tuples =
    page_header (lower_behind reserved tuples) (upper_at special tuples) (page_size - length special)
    ++ ((zeros (line_pointer_size * reserved) ++ line_pointers (page_size - length special) tuples)
    ++ (zeros (upper_at special tuples - lower_behind reserved tuples) ++ (placed_items tuples ++ special)))
