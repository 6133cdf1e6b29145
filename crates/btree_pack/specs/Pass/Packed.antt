-- What the packer keeps once these leaf items came, one after the other. The separator of the last item is the high key
-- of the page that is finished when the next one breaks the open leaf.
use Rattle.std.specs.Prelude.{ℕ, List, [], ◌∷◌, length, if◌then◌else◌}
use Rattle.btree_pack.specs.Break.{Item}
use Rattle.btree_pack.specs.Leaves.{Content}
use Rattle.btree_pack.specs.Pass.Packing.{Packing, added, breaks_leaf, turned}

-- one tuple more, behind one with this separator
abbrev pub tuple_came : ℕ → List ℕ → Packing → List ℕ → ℕ → Packing
tuple_came fillfactor separator packing tuple extra =
    added tuple extra
    (if breaks_leaf fillfactor packing (length tuple) then turned fillfactor separator packing else packing)

-- one item more, behind one with this separator
abbrev pub arrived : ℕ → List ℕ → Packing → Item Content → Packing
arrived fillfactor separator packing item =
    added item.content.tuple item.extra
    (if breaks_leaf fillfactor packing item.size then turned fillfactor separator packing else packing)

abbrev pub packed_behind : ℕ → List ℕ → Packing → List (Item Content) → Packing
packed_behind fillfactor separator packing [] = packing
packed_behind fillfactor separator packing (item ∷ items) =
    packed_behind fillfactor item.content.separator (arrived fillfactor separator packing item) items

-- nothing came yet
abbrev pub nothing : Packing
nothing = record { pages = []; tuples = 0; blocks = 0; image = [] }

unfoldable pub packed : ℕ → List (Item Content) → Packing
packed fillfactor items = packed_behind fillfactor [] nothing items
