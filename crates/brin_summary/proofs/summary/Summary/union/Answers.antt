use Rattle.std.proofs.Common.{length, refl, ap, ◌∙◌, arith}
use Rattle.std.proofs.lemmas.List.{with_items_is}
use Rattle.brin_summary.proofs.Storing.{kept-nulls, kept-join}
use Rattle.brin_summary.proofs.summary.Summary.union.Goals as goal

pub join_columns-requires-clause-bounds : goal.join_columns-requires-clause-bounds
join_columns-requires-clause-bounds c =
    let mine = kept-nulls _ c.self.inside.bounds.items c.self.inside.nulls.items c.args.self.now c.self.view_is (length c.args.other.columns) c.self.invariant c.requires in
    let theirs = kept-nulls _ c.other.inside.bounds.items c.other.inside.nulls.items c.args.other c.other.view_is (length c.args.other.columns) c.other.invariant refl in
    let even = c.self.invariant in
    let bounds = ap length c.deref_mut.ensures.value in
    let nulls = ap length c.deref.ensures.value in
    omega arith

pub join_columns-requires-clause-nulls : goal.join_columns-requires-clause-nulls
join_columns-requires-clause-nulls c =
    let mine = kept-nulls _ c.self.inside.bounds.items c.self.inside.nulls.items c.args.self.now c.self.view_is (length c.args.other.columns) c.self.invariant c.requires in
    let theirs = kept-nulls _ c.other.inside.bounds.items c.other.inside.nulls.items c.args.other c.other.view_is (length c.args.other.columns) c.other.invariant refl in
    let bounds = ap length c.deref_mut-2.ensures.value in
    let nulls = ap length c.deref.ensures.value in
    omega arith

pub returns : goal.returns
returns c =
    kept-join c.self.inside.has_rows c.self.inside.bounds.items c.self.inside.nulls.items c.args.self.now c.self.view_is
    c.other.inside.has_rows c.other.inside.bounds.items c.other.inside.nulls.items c.args.other c.other.view_is
    c.join_columns.new.bounds _ c.join_columns.new.nulls _
    (with_items_is c.self.inside.bounds c.join_columns.new.bounds (c.join_columns.auto.bounds ∙ c.deref_mut.ensures.len))
    (with_items_is c.self.inside.nulls c.join_columns.new.nulls (c.join_columns.auto.nulls ∙ c.deref_mut-2.ensures.len))
    (rw (← c.deref_mut.ensures.value, ← c.deref_mut-2.ensures.value, ← c.deref_mut-3.ensures.value, ← c.deref.ensures.value) c.join_columns.ensures)
