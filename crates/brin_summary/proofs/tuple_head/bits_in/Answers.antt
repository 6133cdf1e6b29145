use Rattle.std.proofs.Common.{◌≡◌, List, ℕ, ◌+◌, ◌-◌, ◌*◌, ◌/◌, drop, get_or, length, take, nat_lt, false, ap, ◌∙◌, arith, length-drop}
use Rattle.std.proofs.lemmas.Bool.{le-ltb}
use Rattle.std.proofs.lemmas.List.{take_all}
use Rattle.byteorder.specs.Endian.{little_number}
use Rattle.pg_bytes.specs.Numbers.{number_at}
use Rattle.brin_summary.proofs.tuple_head.bits_in.Goals as goal

pub returns-else-bytes-size-clause-value : goal.returns-else-bytes-size-clause-value
unfolding number_at
returns-else-bytes-size-clause-value c =
    let bytes : List ℕ = c.args.bytes.now in
    let big : nat_lt (get_or c.args.bytes.now 4 0) 128 ≡ false = le-ltb (get_or c.args.bytes.now 4 0) 128 c.if-bytes-lt-NULLS_THERE.false in
    let size : c.div_ceil-size.result ≡ (2 * c.args.columns + 7) / 8 = c.div_ceil-size.ensures ∙ omega arith in
    let rest : take (length bytes - 5) (drop 5 bytes) ≡ drop 5 bytes = take_all (length bytes - 5) (drop 5 bytes) (omega (arith, length-drop 5 bytes)) in
    rw big
    (c.read_uint.ensures ∙ ap (little_number c.div_ceil-size.result) rest ∙ ap (λ (n : ℕ). little_number n (drop 5 bytes)) size)
