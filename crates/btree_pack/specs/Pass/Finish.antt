-- What holds of the packing of leaf items.
use Rattle.std.specs.Prelude.{◌≡◌, ℕ, Bool, List, [], ◌∷◌, ◌++◌, All}
use Rattle.btree_pack.specs.Break.{Item}
use Rattle.btree_pack.specs.Laws.{IsSmall, IsWritten}
use Rattle.btree_pack.specs.Leaves.{Content}
use Rattle.btree_pack.specs.Nodes.{file_of}
use Rattle.btree_pack.specs.Tower.{ArriveInTurn, levels}
use Rattle.btree_item.specs.Pivot.{minus_infinity}
use Rattle.btree_pack.specs.Pass.Packed.{arrived, packed}
use Rattle.btree_pack.specs.Pass.Packing.{Packing}
use Rattle.btree_pack.specs.Pass.Sight.{IsFinished}

-- nothing is before the first of the items
abbrev pub BeginsAtMinusInfinity : List (Item Content) → Type 0
BeginsAtMinusInfinity [] = Unit {0}
BeginsAtMinusInfinity (first ∷ others) = first.content.separator ≡ minus_infinity 0

-- the separator of the last of some items behind one with a separator
abbrev pub last_separator : List ℕ → List (Item Content) → List ℕ
last_separator separator [] = separator
last_separator separator (item ∷ items) = last_separator item.content.separator items

-- one item more is one arrival
abbrev pub PackingGrowsByAnArrival : Type 0
PackingGrowsByAnArrival =
    (fillfactor : ℕ) (items : List (Item Content)) (item : Item Content)
    → packed fillfactor (items ++ item ∷ []) ≡ arrived fillfactor (last_separator [] items) (packed fillfactor items) item

-- items that a packing takes: no larger than a third of a page and written with the sizes that they tell, which arrive
-- one a moment, and nothing is before the first
pub record ArePackable (items : List (Item Content)) : Type 0 where
  pub small : All IsSmall items
  pub written : All IsWritten items
  pub turn : ArriveInTurn items
  pub begin : BeginsAtMinusInfinity items

-- a file is that of the levels over whatever items are packed
abbrev pub IsFileOfThePacked : ℕ → Bool → Packing → List ℕ → Type 0
IsFileOfThePacked fillfactor equal_images packing file =
    (items : List (Item Content)) → packing ≡ packed fillfactor items → ArePackable items
    → file ≡ file_of equal_images (levels fillfactor items)

-- what is kept of leaf items, finished, is the file of their levels
abbrev pub FinishedPackingIsTheFile : Type 0
FinishedPackingIsTheFile =
    (equal_images : Bool) (fillfactor : ℕ) (items : List (Item Content)) (file : List ℕ)
    → ArePackable items → IsFinished fillfactor equal_images (packed fillfactor items) file
    → file ≡ file_of equal_images (levels fillfactor items)
