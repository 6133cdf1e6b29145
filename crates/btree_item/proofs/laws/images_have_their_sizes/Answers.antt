use Rattle.btree_item.specs.Tuple.{info_of, size_of}
use Rattle.btree_item.proofs.Sizes.{length-attributes, length-index_tuple, length-posting}
use Rattle.btree_item.proofs.laws.images_have_their_sizes.Goals as goal

pub returns : goal.returns
returns c = record {
  plain = λ kinds values ptr. length-index_tuple ptr (info_of (size_of kinds values) kinds values) kinds values;
  posting = length-posting;
  pivot = length-attributes;
}
