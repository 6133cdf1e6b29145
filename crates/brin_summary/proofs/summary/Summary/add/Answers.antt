use Rattle.std.proofs.Common.{[], ◌∷◌, length, sym, ap, ◌∙◌, arith}
use Rattle.std.proofs.lemmas.List.{with_items_is}
use Rattle.brin_summary.specs.Summary.{joined, summary_of}
use Rattle.brin_summary.proofs.Storing.{kept-nulls, kept-row}
use Rattle.brin_summary.proofs.Joining.{summary_of_append}
use Rattle.brin_summary.proofs.summary.Summary.add.Goals as goal

pub add_values-requires-clause-bounds : goal.add_values-requires-clause-bounds
add_values-requires-clause-bounds c =
    let nulls = kept-nulls _ c.self.inside.bounds.items c.self.inside.nulls.items c.args.self.now c.self.view_is (length c.args.keys.now) c.self.invariant c.requires in
    let even = c.self.invariant in
    let bounds = ap length c.deref_mut.ensures.value in
    let keys = ap length c.as_slice.ensures in
    omega arith

pub add_values-requires-clause-nulls : goal.add_values-requires-clause-nulls
add_values-requires-clause-nulls c =
    let nulls = kept-nulls _ c.self.inside.bounds.items c.self.inside.nulls.items c.args.self.now c.self.view_is (length c.args.keys.now) c.self.invariant c.requires in
    let bounds = ap length c.deref_mut-2.ensures.value in
    let keys = ap length c.as_slice.ensures in
    omega arith

pub returns-clause-ok : goal.returns-clause-ok
returns-clause-ok c =
    kept-row c.self.inside.has_rows c.self.inside.bounds.items c.self.inside.nulls.items c.args.self.now c.self.view_is c.args.keys.now
    c.add_values.new.bounds _ c.add_values.new.nulls _
    (with_items_is c.self.inside.bounds c.add_values.new.bounds (c.add_values.auto.bounds ∙ c.deref_mut.ensures.len))
    (with_items_is c.self.inside.nulls c.add_values.new.nulls (c.add_values.auto.nulls ∙ c.deref_mut-2.ensures.len))
    (rw (← c.deref_mut.ensures.value, ← c.deref_mut-2.ensures.value, ← c.as_slice.ensures) c.in_ok-add_values.ensures.ok)

pub returns-clause-rows : goal.returns-clause-rows
returns-clause-rows c rows are =
    kept-row c.self.inside.has_rows c.self.inside.bounds.items c.self.inside.nulls.items c.args.self.now c.self.view_is c.args.keys.now
    c.add_values.new.bounds _ c.add_values.new.nulls _
    (with_items_is c.self.inside.bounds c.add_values.new.bounds (c.add_values.auto.bounds ∙ c.deref_mut.ensures.len))
    (with_items_is c.self.inside.nulls c.add_values.new.nulls (c.add_values.auto.nulls ∙ c.deref_mut-2.ensures.len))
    (rw (← c.deref_mut.ensures.value, ← c.deref_mut-2.ensures.value, ← c.as_slice.ensures) c.in_ok-add_values.ensures.ok)
    ∙ ap (λ s. joined s (summary_of (length c.args.keys.now) (c.args.keys.now ∷ []))) are
    ∙ sym (summary_of_append (length c.args.keys.now) rows (c.args.keys.now ∷ []))
