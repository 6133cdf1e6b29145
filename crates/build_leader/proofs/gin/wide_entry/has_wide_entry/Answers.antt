use Rattle.std.proofs.Common.{◌↔◌, ◌∙◌, IfOk, IsTrue, [], ◌∷◌, sym, subst}
use Rattle.std.specs.List.{AllZip}
use Rattle.opclass.specs.Values.{IsValueOf}
use Rattle.build_leader.specs.Entries.{HasWideEntry}
use Rattle.build_leader.proofs.WideEntries.{only}
use Rattle.build_leader.proofs.gin.wide_entry.has_wide_entry.Goals as goal

pub is_wide_value-requires-clause-typed : goal.is_wide_value-requires-clause-typed
is_wide_value-requires-clause-typed c =
    let kinds = c.args.kinds.now in
    let values = c.args.values.now in
    let kind = c.get.result.now in
    let value = c.get-2.result.now in
    let one = only kinds kind (sym c.len.ensures ∙ c.if-len-ne1.false) c.get.ensures in
    let alone = only values value (sym c.len-else-len-ne1.ensures ∙ c.if-len-ne1-2.false) c.get-2.ensures in
    let typed = subst (λ ks. AllZip IsValueOf ks values) one c.requires.typed in
    (subst (AllZip IsValueOf (kind ∷ [])) alone typed).0

pub returns : goal.returns
returns c =
    let kinds = c.args.kinds.now in
    let values = c.args.values.now in
    let kind = c.get.result.now in
    let value = c.get-2.result.now in
    let one = only kinds kind (sym c.len.ensures ∙ c.if-len-ne1.false) c.get.ensures in
    let alone = only values value (sym c.len-else-len-ne1.ensures ∙ c.if-len-ne1-2.false) c.get-2.ensures in
    subst (λ ks. IfOk c.is_wide_value.result (λ wide. IsTrue wide ↔ HasWideEntry ks values)) (sym one)
    (subst (λ vs. IfOk c.is_wide_value.result (λ wide. IsTrue wide ↔ HasWideEntry (kind ∷ []) vs)) (sym alone)
    c.is_wide_value.ensures)
