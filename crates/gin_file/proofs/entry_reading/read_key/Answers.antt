use Rattle.std.proofs.Common.{rules, arith}
use Rattle.std.proofs.lemmas.List.{take_rest}
use Rattle.gin_file.proofs.TupleFronts.{key-only, long-front, placeholder-front}
use Rattle.gin_file.proofs.entry_reading.read_key.Goals as goal

pub returns-then-bytes-lt-HEAD-clause-only : goal.returns-then-bytes-lt-HEAD-clause-only
returns-then-bytes-lt-HEAD-clause-only c = λ entry b. let long = long-front _ _ entry b in let few = c.if-bytes-lt-HEAD.true in absurd (omega arith)

pub returns-then-u16_at-lt-HAS_NULL-clause-only : goal.returns-then-u16_at-lt-HAS_NULL-clause-only
returns-then-u16_at-lt-HAS_NULL-clause-only c = key-only _ c.args.bytes.now _ c.read_key_value.result (search (rules, take_rest)) c.read_key_value.ensures.only (search rules)

pub returns-else-u16_at-lt-HAS_NULL-clause-only : goal.returns-else-u16_at-lt-HAS_NULL-clause-only
returns-else-u16_at-lt-HAS_NULL-clause-only c = λ entry b.
    let p = placeholder-front _ c.args.bytes.now entry b (search rules) in
    c.read_placeholder.ensures.only entry p.rest b.entry_is p.some p.behind
