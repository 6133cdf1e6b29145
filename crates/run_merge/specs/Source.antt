-- A merge, wherever its records come from.
use Rattle.run_merge.specs.Merging.{Merging}
use Rattle.run_merge.specs.declared.merged.Source.{Source}
use Rattle.run_merge.specs.declared.merged.Source.TheVariants.{Heap, Ordered}

-- the merge by a heap, or of runs in order
abbrev pub merging_of : Source → Merging
merging_of (Heap merge) = merge
merging_of (Ordered runs) = runs
