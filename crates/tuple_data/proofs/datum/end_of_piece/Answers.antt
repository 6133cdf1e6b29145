use Rattle.std.proofs.Common.{length, sym, subst}
use Rattle.tuple_data.specs.Datum.{piece_at}
use Rattle.tuple_data.proofs.Pieces.{TakesVariable, end-fixed, end-number, end-variable, number-takes, piece-takes}
use Rattle.tuple_data.proofs.datum.end_of_piece.Goals as goal

pub returns-in-Num-Fixed : goal.returns-in-Num-Fixed
returns-in-Num-Fixed c =
    let takes = number-takes c.args.place c.args.kind c.args.value.now c.in-Num-Fixed.field-0-0 c.in-Num-Fixed.width c.facts-facts.result c.facts-facts.ensures c.in-Num-Fixed.is-0 c.in-Num-Fixed.is-1 in
    end-number _ _ _ _ c.end_of_number.result takes c.end_of_number.ensures.narrow c.end_of_number.ensures.wide

pub returns-in-Raw-Fixed : goal.returns-in-Raw-Fixed
returns-in-Raw-Fixed c =
    end-fixed _ _ _ _ _ _ _ _ c.facts-facts.ensures c.in-Raw-Fixed.is-0 c.in-Raw-Fixed.is-1 c.aligned.ensures c.len.ensures

pub returns-in-Raw-Variable : goal.returns-in-Raw-Variable
returns-in-Raw-Variable c =
    let takes = piece-takes c.args.place c.args.kind c.args.value.now c.in-Raw-Variable.bytes c.facts-facts.result c.facts-facts.ensures c.in-Raw-Variable.is-0 c.in-Raw-Variable.is-1 in
    end-variable c.args.place c.len-in-Raw-Variable.result (length (piece_at c.args.place c.args.kind c.args.value.now)) c.end_of_variable.result
    (subst (λ count. TakesVariable c.args.place count (length (piece_at c.args.place c.args.kind c.args.value.now))) (sym c.len-in-Raw-Variable.ensures) takes)
    c.end_of_variable.ensures.short c.end_of_variable.ensures.long
