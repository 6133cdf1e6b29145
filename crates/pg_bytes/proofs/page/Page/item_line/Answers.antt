use Rattle.std.proofs.Common.{◌≡◌, refl, length, arith}
use Rattle.pg_bytes.proofs.LineReading.{none-behind}
use Rattle.pg_bytes.specs.Lines.{HasItem}
use Rattle.pg_bytes.proofs.page.Page.item_line.Goals.{then-number-eq0-via-then-number-eq0, then-number-eq0-via-else-number-eq0+then-number-line_count, then-number-eq0-via-else-number-eq0+else-number-line_count+then-number-gt-MOST_LINES}
use Rattle.pg_bytes.proofs.page.Page.item_line.Goals as goal

pub returns-then-number-eq0-clause-refused : goal.returns-then-number-eq0-clause-refused
returns-then-number-eq0-clause-refused c =
    let size : length c.args.self.now ≡ 8192 = rw (← c.self.view_is) c.self.invariant in
    let none : HasItem c.args.self.now c.args.number → ⊥ = elim c.then-number-eq0.branch [
      | then-number-eq0-via-then-number-eq0 w ↦ λ has. absurd (omega (arith, has.counted.0, w.if-number-eq0.true))
      | then-number-eq0-via-else-number-eq0+then-number-line_count w ↦ λ has.
          absurd (omega (arith, has.counted.1, w.line_count.ensures, w.if-number-line_count.true))
      | then-number-eq0-via-else-number-eq0+else-number-line_count+then-number-gt-MOST_LINES w ↦ λ has.
          none-behind c.args.self.now c.args.number size (omega (arith, w.if-number-gt-MOST_LINES.true)) has
    ] in
    ((λ _. none), λ _. refl)
