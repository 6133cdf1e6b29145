use Rattle.std.proofs.Common.{rules, refl, sym, ap, ◌∙◌, subst}
use Rattle.pg_bytes.specs.declared.row_ptr.RowPtr.{RowPtr}
use Rattle.shared_tape.specs.Stored.{IsStorable}
use Rattle.gin_entry.specs.Entries.{elements_of, entry_of}
use Rattle.gin_entry.specs.EntryOrder.{entry_order}
use Rattle.spool.specs.Gathers.{entry_record}
use Rattle.spool.proofs.Gathering.{element_storable, element_taken}
use Rattle.spool.proofs.entry_spool.EntrySpool.put_elements.Goals as goal

pub put_element-requires-clause-storable : goal.put_element-requires-clause-storable
put_element-requires-clause-storable c =
    subst (λ (ptr : RowPtr). IsStorable entry_order (entry_record ptr (entry_of c.element-item.result.now))) (sym c.loop-element.invariant.ptr)
    (element_storable _ c.args.elements.now c.deref-element-items.result.now c.loop-element.element-index c.element-item.result
    (ap elements_of c.deref-element-items.ensures.value ∙ c.in_ok-distinct_elements.ensures) c.requires.storable (search rules) c.element-item.is)

pub loop-element-preserved : goal.loop-element-preserved
loop-element-preserved c =
    element_taken _ c.deref-element-items.result.now c.loop-element.element-index c.element-item.result _ c.loop-element.self _ refl
    (search rules) c.element-item.is c.loop-element.invariant c.in_ok-put_element.ensures
