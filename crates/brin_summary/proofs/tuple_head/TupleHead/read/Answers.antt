use Rattle.std.proofs.Common.{◌≡◌, ℕ, ◌*◌, take, sym, ap, subst, ◌∙◌, arith}
use Rattle.std.specs.Cmp.Lexicographic.{other_text, same_text}
use Rattle.brin_summary.proofs.Headers.{determined, length-flags_of}
use Rattle.brin_summary.specs.Pass.{seen_header}
use Rattle.brin_summary.specs.Reading.{HasHeader}
use Rattle.brin_summary.specs.Tuple.{Header}
use Rattle.brin_summary.proofs.tuple_head.TupleHead.read.Goals as goal
use Rattle.brin_summary.proofs.tuple_head.TupleHead.read.Goals.{else-bytes-place-via-then-bytes-place+else-eq, else-bytes-place-via-else-bytes-place}

pub returns-then-eq-clause-some : goal.returns-then-eq-clause-some
returns-then-eq-clause-some c =
    let place = c.data_place-place.ensures.value in
    let same = same_text (take c.data_place-place.result c.args.bytes.now) (take c.data_place-place.result c.bytes-image.result) c.if-eq.ensures in
    record {
      block = c.in_ok-head.ensures.block;
      flags = length-flags_of (2 * c.args.columns) c.in_ok-head.head.bits;
      front = ap (λ (n : ℕ). take n c.args.bytes.now) (sym place) ∙ same ∙ ap (λ (n : ℕ). take n c.bytes-image.result) place ∙ c.bytes-image.ensures;
    }

pub returns-else-bytes-place-clause-none : goal.returns-else-bytes-place-clause-none
returns-else-bytes-place-clause-none c = λ none header has.
    let place = c.data_place-place.ensures.value in
    let only = determined c.args.columns header c.args.bytes.now c.requires.columns has in
    let is : header ≡ seen_header c.args.columns c.in_ok-head.head = only.is ∙ sym c.in_ok-head.ensures.header in
    let mine : HasHeader c.args.columns (seen_header c.args.columns c.in_ok-head.head) c.args.bytes.now =
    subst (λ (h : Header). HasHeader c.args.columns h c.args.bytes.now) is has in
    let within = (determined c.args.columns (seen_header c.args.columns c.in_ok-head.head) c.args.bytes.now c.requires.columns mine).within in
    let same : take c.data_place-place.result c.args.bytes.now ≡ take c.data_place-place.result c.bytes-image.result =
    ap (λ (n : ℕ). take n c.args.bytes.now) place ∙ mine.front ∙ sym c.bytes-image.ensures ∙ ap (λ (n : ℕ). take n c.bytes-image.result) (sym place) in
    elim c.else-bytes-place.branch [
      | else-bytes-place-via-then-bytes-place+else-eq w ↦
          other_text (take c.data_place-place.result c.args.bytes.now) (take c.data_place-place.result c.bytes-image.result) w.if-eq.ensures same
      | else-bytes-place-via-else-bytes-place w ↦ let short = w.if-bytes-place.false in omega arith
    ]
