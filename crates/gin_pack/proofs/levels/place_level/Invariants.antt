use Rattle.std.proofs.Common.{◌≡◌, ◌+◌, ◌++◌, ◌∷◌, [], ℕ, List, length, drop}
use Rattle.pg_bytes.specs.Blocks.{block_count}
use Rattle.opclass.specs.declared.types.ColType.{ColType}
use Rattle.gin_file.specs.EntryTree.{Item}
use Rattle.gin_pack.specs.Pass.Placing.{AreCut}
use Rattle.gin_pack.proofs.Placements.{AreUnderWay}
use Rattle.gin_pack.proofs.levels.place_level.Given as goal

abbrev pub invariant-loop-at : goal.invariant-loop-at
invariant-loop-at l = record {
  rest : drop l.at l.pages.items ≡ drop l.at l.fn.pages.items;
  count : length l.pages.items ≡ length l.fn.pages.items;
  end_is : l.end ≡ block_count l.fn.image + length l.fn.pages.items;
  way : (kind : ColType) → (flags : ℕ) → (full : List (List Item)) → (last : List Item) → AreCut kind flags full last l.fn.pages.items
      → AreUnderWay kind flags (full ++ last ∷ []) l.at l.fn.image l.image l.above;
}
