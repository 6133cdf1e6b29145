use Rattle.std.proofs.Common.{◌+◌, ◌++◌, ◌∷◌, [], ℕ, length-append, refl, sym, ap, ◌∙◌, subst, arith, add-one}
use Rattle.std.proofs.lemmas.List.{length-set}
use Rattle.pg_bytes.specs.Blocks.{block_count}
use Rattle.gin_pack.proofs.Placements.{AreUnderWay, all-placed, can_place, have-some, here-at, left-behind, length-zip, none-placed, page-more}
use Rattle.gin_pack.proofs.levels.place_level.Goals as goal

pub loop-at-init : goal.loop-at-init
loop-at-init c = record {
  rest = refl;
  count = refl;
  end_is = let blocks = c.blocks-2.ensures in let len = c.len.ensures in omega arith;
  way = λ kind flags full last cut. none-placed kind flags (full ++ last ∷ []) c.args.image.now _ (c.in_ok-above.ensures kind);
}

pub place_page-requires : goal.place_page-requires
place_page-requires c =
    let r = c.requires.placeable in
    let long = length-zip _ _ _ r.cut.have in
    let one = length-append r.full (r.last ∷ []) in
    let many = c.requires.many in
    let count = c.loop-at.invariant.count in
    let inside = c.loop-at-test.true in
    let len = c.len-at-end.ensures in
    can_place r.kind r.flags (r.full ++ r.last ∷ []) c.args.pages.items c.loop-at.at c.index_mut.result.now _ c.args.image.now _ _
    (have-some r.kind r.flags r.full r.last _ r.cut.have r.cut.filled (r.cut.some (omega arith)))
    (here-at c.args.pages.items c.loop-at.pages.items c.loop-at.at c.index_mut.result.now c.index_mut.ensures.value (omega arith) c.loop-at.invariant.rest)
    (c.loop-at.invariant.way r.kind r.flags r.full r.last r.cut)

pub loop-at-preserved : goal.loop-at-preserved
loop-at-preserved c =
    let count = c.loop-at.invariant.count in
    let inside = c.loop-at-test.true in
    let len = c.len-at-end.ensures in
    let blocks = c.blocks-2.ensures in
    record {
      rest = left-behind c.args.pages.items c.loop-at.pages.items c.loop-at.at _ c.loop-at.invariant.rest;
      count = length-set c.loop-at.pages.items c.loop-at.at _ ∙ count;
      end_is = c.loop-at.invariant.end_is;
      way = λ kind flags full last cut.
          let even = length-zip _ _ _ cut.have in
          let one = length-append full (last ∷ []) in
          let many = c.requires.many in
          subst (λ (n : ℕ). AreUnderWay kind flags (full ++ last ∷ []) n c.args.image.now c.place_page.new.image c.place_page.new.above)
          (sym (add-one c.loop-at.at))
          (page-more kind flags (full ++ last ∷ []) c.args.pages.items c.loop-at.at c.index_mut.result.now _ c.args.image.now _ _ _ _ _
          (have-some kind flags full last _ cut.have cut.filled (cut.some (omega arith)))
          (here-at c.args.pages.items c.loop-at.pages.items c.loop-at.at c.index_mut.result.now c.index_mut.ensures.value (omega arith) c.loop-at.invariant.rest)
          (omega arith)
          (c.loop-at.invariant.end_is ∙ ap (λ (n : ℕ). block_count c.args.image.now + n) (sym even))
          c.in_ok-place_page.ensures.page c.in_ok-place_page.ensures.link
          (c.loop-at.invariant.way kind flags full last cut));
    }

pub returns : goal.returns
returns c =
    λ kind flags full last cut.
    let even = length-zip _ _ _ cut.have in
    let behind = c.loop-at-test.false in
    let len = c.len-at-end.ensures in
    let blocks = c.blocks-2.ensures in
    all-placed kind flags (full ++ last ∷ []) c.loop-at.at c.args.image.now _ _ (omega arith) (omega arith)
    (c.loop-at.invariant.way kind flags full last cut)
