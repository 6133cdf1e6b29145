use Rattle.std.proofs.Common.{slice_get, Some, arith, length-drop}
use Rattle.heap_page.specs.Tuple.{header_of, item_of}
use Rattle.heap_row.specs.Attribute.{attribute_behind, end_of}
use Rattle.heap_row.specs.Tuple.{tuple_of}
use Rattle.heap_row.proofs.Places.{behind_placed}
use Rattle.heap_row.proofs.Readings.{bind_ok}
use Rattle.heap_row.proofs.laws.attributes_are_inside.Goals as goal

pub returns : goal.returns
returns c page item columns before attribute place is has =
    let (start, ends, found) = bind_ok (end_of (tuple_of page item) columns before) (attribute_behind (tuple_of page item) (slice_get columns before) before) (Some attribute) is in
    let end = (behind_placed (tuple_of page item) (slice_get columns before) before start attribute found).end in
    omega (arith, end, has.0, has.1, length-drop (header_of page item).hoff (item_of page item))
