use Rattle.std.proofs.Common.{◌≡◌, if◌then◌else◌, ◌∙◌, arith}
use Rattle.brin_summary.proofs.Headers.{info-none, info-some}
use Rattle.brin_summary.proofs.tuple_head.TupleHead.info.Goals as goal
use Rattle.brin_summary.proofs.tuple_head.TupleHead.info.Goals.{then-self, else-self, then-self-eq0, else-self-eq0}

pub returns : goal.returns
returns c =
    let empty : c.if-self.empty ≡ (if c.args.self.now.has_rows then 0 else 32) =
    elim c.if-self.branch [ then-self w ↦ rw w.if-self.true w.empty-is | else-self w ↦ rw w.if-self.false w.empty-is ] in
    elim c.if-self-eq0.branch [
      | then-self-eq0 w ↦
          let nulls = w.nulls-is in
          (omega arith) ∙ info-none c.args.self.now.has_rows c.args.columns c.args.self.now.bits c.requires.bits c.data_place.result c.data_place.ensures.value w.if-self-eq0.true
      | else-self-eq0 w ↦
          let nulls = w.nulls-is in
          let set = w.if-self-eq0.false in
          (omega arith) ∙ info-some c.args.self.now.has_rows c.args.columns c.args.self.now.bits c.requires.bits c.data_place.result c.data_place.ensures.value (omega arith)
    ]
