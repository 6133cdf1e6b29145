use Rattle.std.proofs.Common.{◌≡◌, ◌+◌, ◌*◌, codes, length}
use Rattle.index_stmt.specs.Conditions.{item}
use Rattle.index_stmt.specs.Rule.{is_word, separated}
use Rattle.index_stmt.proofs.conditions.+conditions.Given as goal

abbrev pub decreases-conjunction : goal.decreases-conjunction
decreases-conjunction l = 2 * l.depth + 1

abbrev pub decreases-item : goal.decreases-item
decreases-item l = 2 * l.depth

abbrev pub invariant-conjunction-loop-conditions : goal.invariant-conjunction-loop-conditions
invariant-conjunction-loop-conditions l = record {
  same : separated (is_word (codes "and")) (item l.depth l.table) l.conditions l.statement.tokens
      ≡ separated (is_word (codes "and")) (item l.fn.depth l.fn.table) l.fn.conditions l.fn.statement.tokens;
  text : l.statement.text ≡ l.fn.statement.text;
}

abbrev pub decreases-conjunction-loop-conditions : goal.decreases-conjunction-loop-conditions
decreases-conjunction-loop-conditions l = length l.statement.tokens
