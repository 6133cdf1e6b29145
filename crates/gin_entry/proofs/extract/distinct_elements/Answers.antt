use Rattle.std.proofs.Common.{List, subst}
use Rattle.std.specs.List.Sorted.{IsPermutation}
use Rattle.opclass.specs.declared.value.Elem.{Elem}
use Rattle.gin_entry.specs.Entries.{elements_of}
use Rattle.gin_entry.proofs.Borrowed.{sorted_distinct}
use Rattle.gin_entry.proofs.extract.distinct_elements.Goals as goal

pub returns : goal.returns
returns c =
    let sorted : List Elem = elements_of c.sort_elements.new.list.items in
    sorted_distinct c.args.elements.now sorted _
    (subst (λ (elements : List Elem). IsPermutation elements sorted) c.in_ok-list.ensures c.sort_elements.ensures.moved)
    c.sort_elements.ensures.ascending c.drop_repeats.ensures
