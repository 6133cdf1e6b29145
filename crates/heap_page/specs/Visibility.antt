-- Which tuples are rows, by their hint bits alone (the settled cases of HeapTupleSatisfiesVacuum and
-- HeapTupleSatisfiesMVCC in heapam_visibility.c, where no transaction runs).
use Rattle.std.specs.Prelude.{ℕ, not, ◌||◌, if◌then◌else◌, Option, Some, None}
use Rattle.heap_page.specs.Infomask.{is_moved, xmin_aborted, xmin_committed, xmin_invalid}
use Rattle.heap_page.specs.Infomask.{xmax_committed, xmax_invalid, xmax_is_multi, is_locked_only}
use Rattle.heap_page.specs.declared.row_state.RowState.{RowState}
use Rattle.heap_page.specs.declared.row_state.RowState.TheVariants.{Live, Dead}

-- The first line that holds says what the tuple is; None where its hint bits don't settle it.
abbrev pub state_of : ℕ → Option RowState
state_of infomask =
    if is_moved infomask then None else
    if not (xmin_committed infomask || xmin_invalid infomask) then None else
    if xmin_aborted infomask then Some Dead else
    if xmax_invalid infomask then Some Live else
    if is_locked_only infomask then Some Live else
    if xmax_is_multi infomask then None else
    if xmax_committed infomask then Some Dead else
    None
