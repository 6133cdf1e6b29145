use Rattle.std.proofs.Common.{◌≡◌, take}
use Rattle.std.specs.Prelude.{sum}
use Rattle.btree_page.specs.SpecialSpace.{special_bytes}
use Rattle.btree_pack.specs.Pass.Begun.{begun_page}
use Rattle.btree_pack.proofs.tuples.Tuples.page.Given as goal

abbrev pub invariant-loop-at : goal.invariant-loop-at
invariant-loop-at l = record {
  place : l.place ≡ sum (take l.at l.self-inside.sizes.items);
  page : l.page ≡ begun_page (special_bytes l.special) l.reserved (take l.at l.self);
}
