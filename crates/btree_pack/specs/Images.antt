-- The tuples of an index with these columns, of which the first are the keys.
use Rattle.std.specs.Prelude.{ℕ, List, length, take}
use Rattle.opclass.specs.declared.types.ColType.{ColType}
use Rattle.btree_item.specs.Leaf.{plain_image, posting_image}
use Rattle.btree_item.specs.Pivot.{image_of_attributes}
use Rattle.btree_pack.specs.Leaves.{Images}

abbrev pub images_of : List ColType → ℕ → Images
images_of kinds keys = record {
  plain = plain_image kinds;
  posting = posting_image (take keys kinds);
  pivot = λ separator. image_of_attributes (take (length separator.keys) (take keys kinds)) separator.keys
      (length separator.keys) separator.pointer 0;
}
