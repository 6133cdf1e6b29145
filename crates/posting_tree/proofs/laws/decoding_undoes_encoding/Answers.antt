use Rattle.std.proofs.Common.{sym, subst}
use Rattle.posting_tree.proofs.OneList.{segment-of, segments-one}
use Rattle.posting_tree.specs.Segments.{AreSegmentsOf, segment}
use Rattle.posting_tree.proofs.laws.decoding_undoes_encoding.Goals as goal

pub returns : goal.returns
returns c ptrs decoded some few ascending blocks = (
  λ is. segments-one (segment ptrs) decoded ptrs is (segment-of ptrs some few ascending blocks),
  λ same. subst (λ d. AreSegmentsOf d (segment ptrs)) (sym same) (segment-of ptrs some few ascending blocks),
)
