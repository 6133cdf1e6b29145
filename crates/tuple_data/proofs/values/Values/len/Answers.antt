use Rattle.std.proofs.Common.{length, sym, ap, ◌∙◌}
use Rattle.opclass.specs.declared.value.KeyVal.{KeyVal}
use Rattle.tuple_data.proofs.InPlaceLemmas.{length-values_at}
use Rattle.tuple_data.proofs.values.Values.len.Goals as goal

pub returns : goal.returns
returns c =
    let self = c.self.inside in
    sym (length-values_at self.place self.kinds.now self.present self.rest.now) ∙ ap (length {A = KeyVal}) c.self.view_is
