use Rattle.std.proofs.Common.{◌≡◌, ◌-◌, ℕ, List, length, get_or, set, sym, ap, subst, ◌∙◌, arith}
use Rattle.std.specs.Prelude.{vec_len}
use Rattle.std.proofs.lemmas.Result.{on_ok_weaker}
use Rattle.brin_summary.specs.declared.ranges.SummedRange.{SummedRange}
use Rattle.build_leader.specs.Tally.{TakesIn}
use Rattle.build_leader.proofs.RangeTallies.{added_columns, set_alike, takes_in}
use Rattle.build_leader.proofs.brin.ranges.RangeTally.add_to_last.Goals as goal

pub returns-clause-taken : goal.returns-clause-taken
returns-clause-taken c =
    let ranges : List SummedRange = c.args.self.now.ranges.items in
    let last : SummedRange = c.in-Some.last.now in
    let count : vec_len c.args.self.now.ranges ≡ length ranges = omega arith in
    let is : last ≡ get_or ranges (vec_len c.args.self.now.ranges - 1) last = c.in-Some.ensures.value in
    on_ok_weaker c.add.result
    (λ taken.
    subst (λ (n : ℕ). TakesIn c.args.row.now.keys ranges (set ranges (n - 1) (record { range = last.range; summary = c.add.new.self }))) (sym count)
    (takes_in c.args.row.now.keys ranges last c.add.new.self c.requires.some
    (is ∙ ap (λ (n : ℕ). get_or ranges (n - 1) last) count) taken))
    c.add.ensures.ok

pub returns-clause-alike : goal.returns-clause-alike
returns-clause-alike c =
    let ranges : List SummedRange = c.args.self.now.ranges.items in
    let last : SummedRange = c.in-Some.last.now in
    let count : vec_len c.args.self.now.ranges ≡ length ranges = omega arith in
    let is : last ≡ get_or ranges (vec_len c.args.self.now.ranges - 1) last = c.in-Some.ensures.value in
    set_alike (length c.args.row.now.keys) ranges (vec_len c.args.self.now.ranges - 1) last c.add.new.self (omega arith) is
    c.requires.columns (added_columns c.args.row.now.keys last.summary c.add.new.self c.add.result c.add.ensures.ok c.add.ensures.err)
