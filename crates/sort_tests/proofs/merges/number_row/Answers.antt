use Rattle.std.proofs.Common.{◌∷◌, [], ◌∙◌, ap, rules, arith, FitsSigned}
use Rattle.std.specs.Int.{w64}
use Rattle.std.proofs.lemmas.Int.{to_z-of_z}
use Rattle.opclass.specs.declared.value.KeyVal.TheVariants.{Num}
use Rattle.run_merge.proofs.Rows.{number_storable}
use Rattle.sort_tests.proofs.merges.number_row.Goals as goal

pub returns : goal.returns
returns c =
    let fits : FitsSigned w64 c.args.number = search rules in
    number_storable c.args.part c.args.number _ fits (c.in_ok-one_key.ensures
    ∙ ap (λ n. Num n ∷ []) (to_z-of_z w64 c.args.number fits)) c.new.ensures (omega arith, omega arith)
