use Rattle.std.proofs.Common.{◌∙◌, [], ap, arith, length, length-drop, sym}
use Rattle.std.proofs.lemmas.Result.{err_from_is_err_and}
use Rattle.stmt_token.specs.declared.sign.Sign.TheVariants.{Comma}
use Rattle.index_stmt.specs.IndexStatement.{key}
use Rattle.index_stmt.specs.Rule.{is_sign, separated}
use Rattle.index_stmt.proofs.Lists.{fault_same, separated-fault, separated-last, separated-more}
use Rattle.index_stmt.proofs.Taking.{key_takes}
use Rattle.index_stmt.proofs.index_statement.keys.Goals as goal

pub loop-keys-smaller : goal.loop-keys-smaller
loop-keys-smaller c =
    let less = (key_takes c.args.table.now c.args.method c.loop-keys.keys).fewer _ _ _ c.in_ok-keys.ensures.read.0 in
    let left = ap (λ ahead. length ahead.tokens) c.if-not-take_sign.ensures.left in
    omega (arith, less, left, length-drop 1 c.key.new.statement.tokens)

pub loop-keys-preserved : goal.loop-keys-preserved
loop-keys-preserved c = record {
  same = rw c.if-not-take_sign.ensures.left (
      sym (separated-more (is_sign Comma) (key c.args.table.now c.args.method) (key_takes c.args.table.now c.args.method) _ _ _ _ c.in_ok-keys.ensures.read.0 (sym c.if-not-take_sign.ensures.found))
      ∙ c.loop-keys.invariant.same);
  text = rw c.if-not-take_sign.ensures.left (c.in_ok-keys.ensures.read.1 ∙ c.loop-keys.invariant.text);
  room = c.in_ok-keys.ensures.room;
}

pub returns-then-not-take_sign-clause-read : goal.returns-then-not-take_sign-clause-read
returns-then-not-take_sign-clause-read c = rw c.if-not-take_sign.ensures.left (
  sym c.loop-keys.invariant.same
      ∙ separated-last (is_sign Comma) (key c.args.table.now c.args.method) (key_takes c.args.table.now c.args.method) _ _ _ _ c.in_ok-keys.ensures.read.0 (sym c.if-not-take_sign.ensures.found),
  c.in_ok-keys.ensures.read.1 ∙ c.loop-keys.invariant.text,
)

pub returns-in_err-keys-clause-read : goal.returns-in_err-keys-clause-read
returns-in_err-keys-clause-read c =
    let p = err_from_is_err_and c.from_residual.result c.from_residual.ensures.1 in
    rw (p.1, p.2) (fault_same (key c.args.table.now c.args.method c.loop-keys.keys) (separated (is_sign Comma) (key c.args.table.now c.args.method) []) c.loop-keys.statement c.args.statement.now _ _
    (λ fault read. sym c.loop-keys.invariant.same ∙ separated-fault (is_sign Comma) (key c.args.table.now c.args.method) (key_takes c.args.table.now c.args.method) _ _ fault read)
    c.loop-keys.invariant.text c.in_err-keys.ensures.read)
