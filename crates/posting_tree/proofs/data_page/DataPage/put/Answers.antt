use Rattle.std.proofs.Common.{length, sym, ap, ◌∙◌}
use Rattle.posting_tree.proofs.DataWrites.{extends-result}
use Rattle.posting_tree.proofs.data_page.DataPage.put.Goals as goal

pub returns-clause-extends : goal.returns-clause-extends
returns-clause-extends c =
    extends-result _ _ _ _ c.append.ensures.ok c.append.ensures.err (ap length (sym c.bytes-bytes.ensures.value) ∙ c.bytes-bytes.ensures.size)
