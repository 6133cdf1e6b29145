use Rattle.std.proofs.Common.{◌∙◌, ◌+◌, ◌*◌, ◌++◌, ℕ, List, length, sym, ap}
use Rattle.pg_bytes.proofs.Writes.{length-number_bytes}
use Rattle.tuple_data.specs.Datum.{long_header, padding}
use Rattle.tuple_data.proofs.ReadContent.{cases_of, long_whole, same_header}
use Rattle.tuple_data.proofs.content.long_at.Goals as goal

pub returns-in-None : goal.returns-in-None
returns-in-None c own behind long fits whole =
    c.in-None.ensures (long_header (length own)) (own ++ behind) (length-number_bytes 4 (4 * (4 + length own)))
    (whole ∙ long_whole (padding 4 c.args.place) (long_header (length own)) own behind)

pub returns-in-Some : goal.returns-in-Some
returns-in-Some c =
    let pad : List ℕ = padding 4 c.args.place in
    let header : List ℕ = c.in-Some.header.now in
    let rest : List ℕ = c.in-Some.rest.now in
    let found = c.in-Some.ensures {u = tt} in
    cases_of c.under_header.result c.under_header.ensures
    (λ none own behind long fits whole.
    let same =
    same_header pad header (long_header (length own)) rest (own ++ behind) (found.0 ∙ sym (length-number_bytes 4 (4 * (4 + length own))))
    (sym found.1 ∙ whole ∙ long_whole pad (long_header (length own)) own behind) in
    none own behind long fits same.0 same.1)
    (λ parts is. (
      is.0,
      found.1
          ∙ ap (λ (h : List ℕ). (pad ++ h) ++ rest) is.1
          ∙ ap (λ (r : List ℕ). (pad ++ long_header (length parts.0.now)) ++ r) is.2
          ∙ sym (long_whole pad (long_header (length parts.0.now)) parts.0.now parts.1.now),
    ))
