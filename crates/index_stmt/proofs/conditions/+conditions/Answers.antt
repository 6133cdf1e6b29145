use Rattle.std.proofs.Common.{◌≡◌, ◌∙◌, ℕ, zero, suc, List, false, ap, arith, codes, length, length-drop, refl, sym}
use Rattle.std.proofs.lemmas.Result.{err_from_is_err_and}
use Rattle.stmt_token.specs.declared.sign.Sign.TheVariants.{LeftParen}
use Rattle.stmt_token.specs.Tokens.{TokenValue}
use Rattle.opclass.specs.declared.filter.Cond.{Cond}
use Rattle.opclass.specs.declared.table.Table.{Table}
use Rattle.index_stmt.specs.Conditions.{condition, conjunction, item}
use Rattle.index_stmt.specs.Rule.{is_sign, is_word, next_is, separated}
use Rattle.index_stmt.proofs.Lists.{fault_same, reads_same, separated-fault, separated-last, separated-more}
use Rattle.index_stmt.proofs.Taking.{item_takes}
use Rattle.index_stmt.proofs.conditions.+conditions.Goals as goal

pub conjunction-loop-conditions-smaller : goal.conjunction-loop-conditions-smaller
conjunction-loop-conditions-smaller t c =
    let less = (item_takes c.args.depth c.args.table.now c.loop-conditions.conditions).fewer _ _ _ c.in_ok-conditions.ensures.0 in
    let left = ap (λ ahead. length ahead.tokens) c.if-not-take_word.ensures.left in
    omega (arith, less, left, length-drop 1 c.item.new.statement.tokens)

pub conjunction-loop-conditions-preserved : goal.conjunction-loop-conditions-preserved
conjunction-loop-conditions-preserved t c = record {
  same = rw c.if-not-take_word.ensures.left (
      sym (separated-more (is_word (codes "and")) (item c.args.depth c.args.table.now) (item_takes c.args.depth c.args.table.now) _ _ _ _
      c.in_ok-conditions.ensures.0 (sym c.if-not-take_word.ensures.found))
      ∙ c.loop-conditions.invariant.same);
  text = rw c.if-not-take_word.ensures.left (c.in_ok-conditions.ensures.1 ∙ c.loop-conditions.invariant.text);
}

pub conjunction-returns-then-not-take_word : goal.conjunction-returns-then-not-take_word
unfolding conjunction
conjunction-returns-then-not-take_word t c = rw c.if-not-take_word.ensures.left (
  sym c.loop-conditions.invariant.same
      ∙ separated-last (is_word (codes "and")) (item c.args.depth c.args.table.now) (item_takes c.args.depth c.args.table.now) _ _ _ _
      c.in_ok-conditions.ensures.0 (sym c.if-not-take_word.ensures.found),
  c.in_ok-conditions.ensures.1 ∙ c.loop-conditions.invariant.text,
)

pub conjunction-returns-in_err-conditions : goal.conjunction-returns-in_err-conditions
unfolding conjunction
conjunction-returns-in_err-conditions t c =
    let p = err_from_is_err_and c.from_residual.result c.from_residual.ensures.1 in
    rw (p.1, p.2) (fault_same (item c.args.depth c.args.table.now c.loop-conditions.conditions)
    (separated (is_word (codes "and")) (item c.args.depth c.args.table.now) c.args.conditions)
    c.loop-conditions.statement c.args.statement.now _ _
    (λ fault read. sym c.loop-conditions.invariant.same
    ∙ separated-fault (is_word (codes "and")) (item c.args.depth c.args.table.now) (item_takes c.args.depth c.args.table.now) _ _ fault read)
    c.loop-conditions.invariant.text c.in_err-conditions.ensures)

-- where no parenthesis is opened, an item is a condition
item_plain : (depth : ℕ) (table : Table) (conditions : List Cond) (tokens : List TokenValue) → next_is (is_sign LeftParen) tokens ≡ false
    → item depth table conditions tokens ≡ condition table conditions tokens
item_plain zero table conditions tokens closed = refl
item_plain (suc depth) table conditions tokens closed = rw closed refl

pub item-returns-then-not-take_sign : goal.item-returns-then-not-take_sign
item-returns-then-not-take_sign t c =
    reads_same (condition c.args.table.now c.args.conditions) (item c.args.depth c.args.table.now c.args.conditions)
    c.take_sign.new.self c.args.statement.now _ _
    (item_plain c.args.depth c.args.table.now c.args.conditions c.args.statement.now.tokens (sym c.if-not-take_sign.ensures.found)
    ∙ ap (λ ahead. condition c.args.table.now c.args.conditions ahead.tokens) (sym c.if-not-take_sign.ensures.left))
    (ap (λ ahead. ahead.text) c.if-not-take_sign.ensures.left)
    c.condition-then-not-take_sign.ensures
