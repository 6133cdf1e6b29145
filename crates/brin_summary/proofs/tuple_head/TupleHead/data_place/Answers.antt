use Rattle.std.proofs.Common.{◌≡◌, ℕ, ◌+◌, ◌*◌, ◌/◌, ap, sym, ◌∙◌, true, arith}
use Rattle.pg_bytes.specs.Numbers.{rounded_up}
use Rattle.brin_summary.proofs.Headers.{place-none, place-some}
use Rattle.brin_summary.proofs.tuple_head.TupleHead.data_place.Goals as goal
use Rattle.brin_summary.proofs.tuple_head.TupleHead.data_place.Goals.{then-self-eq0, else-self-eq0}

pub returns-clause-value : goal.returns-clause-value
returns-clause-value c =
    elim c.if-self-eq0.branch [
      | then-self-eq0 w ↦
          c.al8.ensures ∙ ap (λ (n : ℕ). rounded_up 8 (5 + n)) w.bitmap-is
          ∙ sym (place-none true c.args.columns c.args.self.now.bits c.requires.bits w.if-self-eq0.true)
      | else-self-eq0 w ↦
          let size : c.if-self-eq0.bitmap ≡ (2 * c.args.columns + 7) / 8 = w.bitmap-is ∙ w.div_ceil-bitmap.ensures ∙ omega arith in
          let set = w.if-self-eq0.false in
          c.al8.ensures ∙ ap (λ (n : ℕ). rounded_up 8 (5 + n)) size
          ∙ sym (place-some true c.args.columns c.args.self.now.bits c.requires.bits (omega arith))
    ]
