use Rattle.std.proofs.Common.{◌≡◌, ℕ, ◌-◌, ◌<◌, List, ◌++◌, length, OnOk, sym, subst, rules}
use Rattle.tuple_data.proofs.Pieces.{number-piece, piece-takes, variable-below}
use Rattle.tuple_data.proofs.datum.put_piece.Goals as goal

pub put_variable-requires-clause-size : goal.put_variable-requires-clause-size
put_variable-requires-clause-size c =
    let place : ℕ = length c.args.out.now.items - c.args.start in
    let takes = piece-takes place c.args.kind c.args.value.now c.in-Raw-Variable.bytes c.facts-facts.result c.facts-facts.ensures c.in-Raw-Variable.is-0 c.in-Raw-Variable.is-1 in
    let Below : List ℕ → Type 0 = λ bytes. length bytes < 1073741820 in
    subst Below (sym c.as_slice-in-Raw-Variable.ensures) (variable-below _ _ _ takes c.requires.size)

pub returns-in-Num-Fixed-clause-ok : goal.returns-in-Num-Fixed-clause-ok
returns-in-Num-Fixed-clause-ok c =
    let place : ℕ = length c.args.out.now.items - c.args.start in
    let Puts : List ℕ → Type 0 = λ bytes. OnOk c.put_number.result (c.put_number.new.out.items ≡ c.args.out.now.items ++ bytes) in
    subst Puts
    (number-piece place c.args.kind c.args.value.now _ _ _ c.facts-facts.ensures c.in-Num-Fixed.is-0 c.in-Num-Fixed.is-1)
    (search rules)
