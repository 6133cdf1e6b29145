use Rattle.std.proofs.Common.{◌≡◌, ◌+◌, ◌%◌, ℕ, length, sym, subst, ◌∙◌, refl, true, false, arith}
use Rattle.posting_tree.proofs.Heads.{block-fits, found-segment, told-segment}
use Rattle.posting_tree.specs.Pass.{HasZeros}
use Rattle.posting_tree.specs.Segments.{IsStorable}
use Rattle.posting_tree.proofs.decoding.split_segment.Goals as goal

pub returns-then-bytes-lt-HEAD : goal.returns-then-bytes-lt-HEAD
returns-then-bytes-lt-HEAD c first deltas left s =
    let told = told-segment _ first deltas left s in
    let long = told.long in
    omega (arith, c.if-bytes-lt-HEAD.true)

pub returns-then-not-is_storable : goal.returns-then-not-is_storable
returns-then-not-is_storable c first deltas left s =
    let told = told-segment _ first deltas left s in
    let same : c.at-first.result ≡ first = c.at-first.ensures ∙ told.first_is in
    let no : false ≡ true = c.if-not-is_storable.ensures.1 (subst IsStorable (sym same) s.storable) in
    cc

pub returns-then-not-is_padded : goal.returns-then-not-is_padded
returns-then-not-is_padded c first deltas left s =
    let told = told-segment _ first deltas left s in
    let same : c.from-count.result ≡ length deltas = c.from-count.ensures ∙ c.u16_at.ensures ∙ told.count_is in
    let no : false ≡ true = c.if-not-is_padded.ensures.1 (subst (λ (count : ℕ). HasZeros c.args.bytes.now (8 + count) (count % 2)) (sym same) told.padded) in
    cc

pub returns : goal.returns
returns c =
    found-segment _ _ _ c.if-bytes-lt-HEAD.false (λ i. omega (arith, c.type_inv.bytes i)) c.at-first.ensures (c.from-count.ensures ∙ c.u16_at.ensures) (omega (arith, c.u16_at.type_inv, c.from-count.ensures))
    (block-fits _ _ _ (λ i. omega (arith, c.type_inv.bytes i)) c.at-first.ensures) (c.if-not-is_storable.ensures.0 refl) (c.if-not-is_padded.ensures.0 refl)
