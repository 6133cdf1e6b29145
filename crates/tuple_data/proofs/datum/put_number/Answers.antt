use Rattle.std.proofs.Common.{◌≡◌, ℕ, ◌-◌, ◌≤◌, List, ◌++◌, length, take, ap, ◌∙◌, refl, arith, rules}
use Rattle.std.specs.Int.{cast_unsigned, w64}
use Rattle.pg_bytes.specs.Numbers.{number_bytes}
use Rattle.pg_bytes.proofs.Writes.{length-number_bytes}
use Rattle.tuple_data.specs.Datum.{padding}
use Rattle.tuple_data.proofs.Pieces.{cut-behind, number-low}
use Rattle.tuple_data.proofs.datum.put_number.Goals as goal

pub returns-clause-ok : goal.returns-clause-ok
returns-clause-ok c =
    let old : List ℕ = c.args.out.now.items in
    let width : ℕ = c.args.width in
    let place : ℕ = length c.args.out.now.items - c.args.start in
    let pad : List ℕ = padding c.args.alignment place in
    let bytes : List ℕ = c.number_bytes.result in
    let put : c.put_aligned.new.out.items ≡ old ++ (pad ++ bytes) = c.in_ok-put_aligned.ensures.ok in
    let narrow : c.args.width ≤ 8 = omega arith in
    let low : c.number_bytes.result ≡ number_bytes 8 (cast_unsigned w64 c.args.number) = search rules in
    let eight : length bytes ≡ 8 = ap length low ∙ length-number_bytes 8 (cast_unsigned w64 c.args.number) in
    let end : c.len.result - c.from.result ≡ length c.put_aligned.new.out.items - (8 - width) =
    let size = c.put_aligned.new.out.ok.0 in omega (arith, c.len.ensures, c.from.ensures) in
    c.truncate.ensures.items
    ∙ ap (λ n. take n c.put_aligned.new.out.items) end
    ∙ ap (λ all. take (length all - (8 - width)) all) put
    ∙ cut-behind old pad bytes 8 width eight narrow
    ∙ ap (λ b. old ++ b) (number-low place width width c.args.alignment c.args.number bytes narrow low refl)
