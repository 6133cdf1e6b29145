use Rattle.std.proofs.Common.{length}
use Rattle.gin_pack.proofs.levels.+place_levels.Given as goal

abbrev pub decreases-place_levels : goal.decreases-place_levels
decreases-place_levels l = length l.pages.items
