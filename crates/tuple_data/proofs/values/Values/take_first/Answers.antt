use Rattle.std.proofs.Common.{◌≡◌, ◌∷◌, ◌-◌, List, length, get_or, take, drop, sym, ap, subst, ◌∙◌}
use Rattle.opclass.specs.declared.types.ColType.{ColType}
use Rattle.opclass.specs.declared.types.ColType.TheVariants.{Bool}
use Rattle.tuple_data.specs.Fetch.{values_at}
use Rattle.tuple_data.specs.InPlace.{AreInPlace}
use Rattle.tuple_data.specs.Reading.{value_of}
use Rattle.tuple_data.proofs.InPlaceLemmas.{in_place_behind, values_behind}
use Rattle.tuple_data.proofs.ReadList.{first_left}
use Rattle.tuple_data.proofs.values.Values.take_first.Goals as goal

pub invariant_of-self : goal.invariant_of-self
invariant_of-self c =
    let self = c.self.inside in
    let kinds : List ColType = self.kinds.now in
    in_place_behind self.place (get_or kinds 0 Bool) (take (length kinds - 1) (drop 1 kinds)) self.present self.rest.now
    (value_of c.in-Some.first) c.in-Some.behind.now
    (subst (λ (ks : List ColType). AreInPlace self.place ks self.present self.rest.now) (first_left kinds Bool c.in-len1-up.len_at_least) c.self.invariant)
    c.in-Some.ensures

pub returns : goal.returns
returns c =
    let self = c.self.inside in
    let kinds : List ColType = self.kinds.now in
    let first : kinds ≡ get_or kinds 0 Bool ∷ take (length kinds - 1) (drop 1 kinds) = first_left kinds Bool c.in-len1-up.len_at_least in
    sym c.self.view_is
    ∙ ap (λ (ks : List ColType). values_at self.place ks self.present self.rest.now) first
    ∙ values_behind self.place (get_or kinds 0 Bool) (take (length kinds - 1) (drop 1 kinds)) self.present self.rest.now
    (value_of c.in-Some.first) c.in-Some.behind.now
    (subst (λ (ks : List ColType). AreInPlace self.place ks self.present self.rest.now) first c.self.invariant)
    c.in-Some.ensures
