use Rattle.std.proofs.Common.{rules}
use Rattle.std.proofs.lemmas.List.Sorted.{IsPermutation-map}
use Rattle.gin_entry.proofs.Borrowed.{elements_sorted}
use Rattle.gin_entry.proofs.extract.sort_elements.Goals as goal

pub returns-clause-moved : goal.returns-clause-moved
returns-clause-moved c = IsPermutation-map (λ element. element.now) _ _ c.sort_unstable_by.ensures.permutation

pub returns-clause-ascending : goal.returns-clause-ascending
returns-clause-ascending c = elements_sorted _ c.sort_unstable_by.ensures.sorted (λ a r q k. search rules)
