use Rattle.std.proofs.Common.{◌≡◌, ◌∙◌, ◌+◌, ◌*◌, ◌^◌, ◌<◌, length, ap, arith, length-append}
use Rattle.pg_bytes.specs.Numbers.{number_at}
use Rattle.tuple_data.proofs.ReadContent.{cases_of, long_back, long_word}
use Rattle.tuple_data.proofs.ReadNumber.{are_bytes}
use Rattle.tuple_data.proofs.content.under_header.Goals as goal

pub returns-then-word-ne0 : goal.returns-then-word-ne0
returns-then-word-ne0 c own behind long fits is whole =
    let word = long_word c.args.header.now (length own) fits is in
    c.if-word-ne0.true (let e = c.u32_at-word.ensures in omega (arith, e, word))

pub returns-then-word : goal.returns-then-word
returns-then-word c own behind long fits is whole =
    let word = long_word c.args.header.now (length own) fits is in
    let small = c.if-word.true in
    let e = c.u32_at-word.ensures in
    omega (arith, e, word, small)

pub returns : goal.returns
returns c =
    let large = c.if-word.false in
    let four = c.if-word-ne0.false in
    let e = c.u32_at-word.ensures in
    let fits = c.u32_at-word.type_inv in
    cases_of c.split.result c.split.ensures
    (λ few own behind long fits is whole.
    let word = long_word c.args.header.now (length own) fits is in
    let both = ap length whole ∙ length-append own behind in
    omega (arith, e, word, few, both))
    (λ parts is.
    let word : number_at 4 c.args.header.now 0 ≡ 4 * (4 + length parts.0.now) = let many = is.0 in omega (arith, e, many, large, four) in
    let below : 4 * (4 + length parts.0.now) < 2 ^ 32 = omega (arith, e, word, fits) in
    let many : 126 < length parts.0.now = let many = is.0 in omega (arith, many, large) in
    (many, long_back c.args.header.now (length parts.0.now) (are_bytes c.args.header.now (λ k. (c.type_inv.header k).fits)) c.requires word below, is.1))
