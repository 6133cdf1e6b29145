use Rattle.std.proofs.Common.{length, sym, ap, ◌∙◌}
use Rattle.pg_bytes.proofs.Growth.{appended-result, size-result}
use Rattle.pg_bytes.proofs.image.IndexImage.append.Goals as goal

pub returns-clause-ok : goal.returns-clause-ok
returns-clause-ok c = appended-result _ _ _ _ _ c.blocks-number.ensures c.place.ensures.ok

pub returns-clause-size : goal.returns-clause-size
returns-clause-size c =
    size-result _ _ _ _ (appended-result _ _ _ _ _ c.blocks-number.ensures c.place.ensures.ok) (ap length (sym c.bytes-bytes.ensures.value) ∙ c.bytes-bytes.ensures.size)
