use Rattle.std.proofs.Common.{◌∙◌, [], ap, arith, length, length-drop, sym}
use Rattle.std.proofs.lemmas.Result.{err_from_is_err_and}
use Rattle.stmt_token.specs.declared.sign.Sign.TheVariants.{Comma}
use Rattle.index_stmt.specs.IndexStatement.{included}
use Rattle.index_stmt.specs.Rule.{is_sign, separated}
use Rattle.index_stmt.proofs.Lists.{fault_same, separated-fault, separated-last, separated-more}
use Rattle.index_stmt.proofs.Taking.{included_takes}
use Rattle.index_stmt.proofs.index_statement.all_included.Goals as goal

pub loop-columns-smaller : goal.loop-columns-smaller
loop-columns-smaller c =
    let less = (included_takes c.args.table.now c.args.keys c.loop-columns.columns).fewer _ _ _ c.in_ok-columns.ensures.read.0 in
    let left = ap (λ ahead. length ahead.tokens) c.if-not-take_sign.ensures.left in
    omega (arith, less, left, length-drop 1 c.included.new.statement.tokens)

pub loop-columns-preserved : goal.loop-columns-preserved
loop-columns-preserved c = record {
  same = rw c.if-not-take_sign.ensures.left (
      sym (separated-more (is_sign Comma) (included c.args.table.now c.args.keys) (included_takes c.args.table.now c.args.keys) _ _ _ _ c.in_ok-columns.ensures.read.0 (sym c.if-not-take_sign.ensures.found))
      ∙ c.loop-columns.invariant.same);
  text = rw c.if-not-take_sign.ensures.left (c.in_ok-columns.ensures.read.1 ∙ c.loop-columns.invariant.text);
  room = c.in_ok-columns.ensures.room;
}

pub returns-then-not-take_sign : goal.returns-then-not-take_sign
returns-then-not-take_sign c = rw c.if-not-take_sign.ensures.left (
  sym c.loop-columns.invariant.same
      ∙ separated-last (is_sign Comma) (included c.args.table.now c.args.keys) (included_takes c.args.table.now c.args.keys) _ _ _ _ c.in_ok-columns.ensures.read.0 (sym c.if-not-take_sign.ensures.found),
  c.in_ok-columns.ensures.read.1 ∙ c.loop-columns.invariant.text,
)

pub returns-in_err-columns : goal.returns-in_err-columns
returns-in_err-columns c =
    let p = err_from_is_err_and c.from_residual.result c.from_residual.ensures.1 in
    rw (p.1, p.2) (fault_same (included c.args.table.now c.args.keys c.loop-columns.columns) (separated (is_sign Comma) (included c.args.table.now c.args.keys) []) c.loop-columns.statement c.args.statement.now _ _
    (λ fault read. sym c.loop-columns.invariant.same ∙ separated-fault (is_sign Comma) (included c.args.table.now c.args.keys) (included_takes c.args.table.now c.args.keys) _ _ fault read)
    c.loop-columns.invariant.text c.in_err-columns.ensures.read)
