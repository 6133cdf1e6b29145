use Rattle.std.proofs.Common.{◌∙◌, ap, arith, length, length-drop, sym}
use Rattle.std.proofs.lemmas.Result.{err_from_is_err_and}
use Rattle.stmt_token.specs.declared.sign.Sign.TheVariants.{Comma}
use Rattle.index_stmt.specs.Options.{option, unset}
use Rattle.index_stmt.specs.Rule.{is_sign, separated}
use Rattle.index_stmt.proofs.Lists.{free_fault_same, separated-fault, separated-last, separated-more}
use Rattle.index_stmt.proofs.Taking.{option_takes}
use Rattle.index_stmt.proofs.options.listed.Goals as goal

pub loop-settings-smaller : goal.loop-settings-smaller
loop-settings-smaller c =
    let less = (option_takes c.args.method c.loop-settings.settings).fewer _ _ _ c.in_ok-settings.ensures.0 in
    let left = ap (λ ahead. length ahead.tokens) c.if-not-take_sign.ensures.left in
    omega (arith, less, left, length-drop 1 c.option.new.statement.tokens)

pub loop-settings-preserved : goal.loop-settings-preserved
loop-settings-preserved c = record {
  same = rw c.if-not-take_sign.ensures.left (
      sym (separated-more (is_sign Comma) (option c.args.method) (option_takes c.args.method) _ _ _ _ c.in_ok-settings.ensures.0 (sym c.if-not-take_sign.ensures.found))
      ∙ c.loop-settings.invariant.same);
  text = rw c.if-not-take_sign.ensures.left (c.in_ok-settings.ensures.1 ∙ c.loop-settings.invariant.text);
}

pub returns-then-not-take_sign : goal.returns-then-not-take_sign
returns-then-not-take_sign c = rw c.if-not-take_sign.ensures.left (
  sym c.loop-settings.invariant.same
      ∙ separated-last (is_sign Comma) (option c.args.method) (option_takes c.args.method) _ _ _ _ c.in_ok-settings.ensures.0 (sym c.if-not-take_sign.ensures.found),
  c.in_ok-settings.ensures.1 ∙ c.loop-settings.invariant.text,
)

pub returns-in_err-settings : goal.returns-in_err-settings
returns-in_err-settings c =
    let p = err_from_is_err_and c.from_residual.result c.from_residual.ensures.1 in
    rw (p.1, p.2) (free_fault_same (option c.args.method c.loop-settings.settings) (separated (is_sign Comma) (option c.args.method) unset) c.loop-settings.statement c.args.statement.now _ _
    (λ fault read. sym c.loop-settings.invariant.same ∙ separated-fault (is_sign Comma) (option c.args.method) (option_takes c.args.method) _ _ fault read)
    c.loop-settings.invariant.text c.in_err-settings.ensures)
