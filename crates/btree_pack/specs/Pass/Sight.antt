-- What the program's open tower keeps.
use Rattle.std.specs.Prelude.{◌≡◌, ℕ, Bool, List, [], ◌∷◌, Some}
use Rattle.pg_bytes.specs.Image.{placed}
use Rattle.btree_pack.specs.Nodes.{Root}
use Rattle.btree_page.specs.Meta.{meta_page}
use Rattle.btree_pack.specs.Pass.Packing.{Packing, closed}
use Rattle.btree_pack.specs.declared.open_tower.OpenTower.{OpenTower}

abbrev pub packing_of : OpenTower → Packing
packing_of tower = record { pages = tower.pages.items; tuples = tower.tuples; blocks = tower.blocks; image = tower.image }

-- how full it packs leaves, in hundredths
abbrev pub fillfactor_of : OpenTower → ℕ
fillfactor_of tower = tower.fillfactor

-- all but the open pages is as it was
pub record KeepsAllButPages (old new : OpenTower) : Type 0 where
  pub tuples : new.tuples ≡ old.tuples
  pub blocks : new.blocks ≡ old.blocks
  pub image : new.image ≡ old.image
  pub fillfactor : new.fillfactor ≡ old.fillfactor

-- The root's block and its level, and the image behind the meta page, once the open pages of a packing are finished:
-- there are no more levels than leaf tuples.
abbrev pub Closes : ℕ → Packing → Root → List ℕ → Type 0
Closes fillfactor packing root image = elim packing.pages [
  | [] ↦ (root ≡ record { block = 0; level = 0 }) × (image ≡ packing.image)
  | page ∷ above ↦
      closed packing.tuples fillfactor 0 packing.pages packing.blocks packing.image ≡ Some (record { image = image; root = root })
]

-- an image is the file of a packing once its open pages are finished
abbrev pub IsFinished : ℕ → Bool → Packing → List ℕ → Type 0
IsFinished fillfactor equal_images packing file =
    (root : Root) × ((image : List ℕ) × (Closes fillfactor packing root image
    × (file ≡ placed 0 (meta_page root.block root.level equal_images) image)))
