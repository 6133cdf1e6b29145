use Rattle.btree_pack.proofs.open_tower.OpenTower.+close.Given as goal

abbrev pub decreases-close : goal.decreases-close
decreases-close l = l.most
