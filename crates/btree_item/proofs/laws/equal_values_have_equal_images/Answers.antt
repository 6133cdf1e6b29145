use Rattle.std.proofs.Common.{sym, ◌∙◌}
use Rattle.btree_item.specs.Tuple.{info_of, size_of}
use Rattle.btree_item.proofs.Sizes.{drop-index_tuple}
use Rattle.btree_item.proofs.laws.equal_values_have_equal_images.Goals as goal

pub returns : goal.returns
returns c kinds values p q =
    drop-index_tuple p (info_of (size_of kinds values) kinds values) kinds values
    ∙ sym (drop-index_tuple q (info_of (size_of kinds values) kinds values) kinds values)
