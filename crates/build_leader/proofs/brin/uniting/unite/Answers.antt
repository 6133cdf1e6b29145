use Rattle.std.proofs.Common.{◌≡◌, ◌<◌, ◌≤◌, ℕ, List, length, get_or, refl, sym, subst, rules}
use Rattle.std.proofs.lemmas.List.Elements.{All-get_or, All-set}
use Rattle.brin_summary.specs.Summary.{RangeSummary}
use Rattle.build_leader.proofs.RangeSummaries.{joined_has_columns}
use Rattle.build_leader.proofs.UnitedRanges.{told_beyond, told_united}
use Rattle.build_leader.proofs.brin.uniting.unite.Goals as goal

pub returns-then-place-known-clause-alike : goal.returns-then-place-known-clause-alike
returns-then-place-known-clause-alike c =
    let known : List RangeSummary = c.args.known.now in
    let summed = c.args.summed in
    let count : ℕ = length summed.summary.columns in
    let inside : summed.range < length known = search rules in
    let before : RangeSummary = get_or known summed.range c.index-known-place.result in
    let its : length before.columns ≡ count =
    All-get_or (λ (r : RangeSummary). length r.columns ≡ count) known summed.range c.index-known-place.result inside c.requires.alike in
    All-set (λ (r : RangeSummary). length r.columns ≡ count) known summed.range c.union.new.self
    (subst (λ (r : RangeSummary). length r.columns ≡ count) (sym c.union.ensures)
    (joined_has_columns count before summed.summary its refl))
    c.requires.alike

pub returns-then-place-known-clause-told : goal.returns-then-place-known-clause-told
returns-then-place-known-clause-told c = λ columns ranges told.
    let known : List RangeSummary = c.args.known.now in
    let inside : c.args.summed.range < length known = search rules in
    told_united columns ranges known told c.args.summed c.union.new.self c.index-known-place.result inside
    c.union.ensures

pub returns-else-place-known-clause-told : goal.returns-else-place-known-clause-told
returns-else-place-known-clause-told c = λ columns ranges told.
    let known : List RangeSummary = c.args.known.now in
    let beyond : length known ≤ c.args.summed.range = search rules in
    told_beyond columns ranges known told c.args.summed beyond
