use Rattle.std.proofs.Common.{◌-◌, length}
use Rattle.btree_pack.proofs.open_tower.OpenTower.+carry.Given as goal

abbrev pub decreases-carry : goal.decreases-carry
decreases-carry l = length l.self.now.pages.items - l.level
