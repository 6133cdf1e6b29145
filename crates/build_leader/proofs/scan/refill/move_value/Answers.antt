use Rattle.std.proofs.Common.{◌≡◌, List, [], ◌∷◌, ◌++◌, Some, slice_get, sym, ap, subst, ◌∙◌}
use Rattle.std.proofs.lemmas.Result.{on_ok_weaker}
use Rattle.opclass.specs.declared.value.KeyVal.{KeyVal}
use Rattle.build_leader.specs.Reader.{AreAt}
use Rattle.build_leader.proofs.PickedValues.{last_of_front}
use Rattle.build_leader.proofs.scan.refill.move_value.Goals as goal

pub returns : goal.returns
returns c =
    let values = c.args.values.now in
    let place = c.args.place in
    let value = c.in-Some.value in
    let at : slice_get values place ≡ Some value =
    last_of_front values c.pop.new.self place value c.requires (sym c.cut_behind.ensures ∙ c.in-Some.ensures) in
    on_ok_weaker c.push.result
    (λ put.
    let alone : c.push.new.values ≡ value ∷ [] = put ∙ ap (λ (before : List KeyVal). before ++ value ∷ []) c.clear.ensures in
    subst (λ (picked : List KeyVal). AreAt values (place ∷ []) picked) (sym alone) (ap (λ o. o ∷ []) at))
    c.push.ensures
