use Rattle.std.proofs.Common.{◌++◌, length, sym, ap, ◌∙◌, arith, length-append}
use Rattle.std.proofs.lemmas.List.{append_assoc, append-nil}
use Rattle.brin_summary.specs.File.{revmap_of}
use Rattle.brin_summary.specs.Page.{revmap_page}
use Rattle.brin_summary.proofs.Pointers.{few-on-page, length-revmap_of, revmap-more, revmap-none}
use Rattle.brin_summary.proofs.revmap.put_revmap.Goals as goal

pub loop-page-init : goal.loop-page-init
loop-page-init c = sym (ap (λ l. c.args.image.now ++ l) (revmap-none c.args.pointers.now) ∙ append-nil c.args.image.now)

pub revmap_page-requires : goal.revmap_page-requires
revmap_page-requires c = rw c.items_from.ensures (few-on-page c.args.pointers.now c.loop-page.page)

pub append-requires : goal.append-requires
append-requires c =
    let image = ap length c.loop-page.invariant ∙ length-append c.args.image.now (revmap_of c.loop-page.page c.args.pointers.now) in
    let pages = length-revmap_of c.loop-page.page c.args.pointers.now in
    let more = c.loop-page-test.true in
    let room = c.requires.room in
    omega arith

pub loop-page-preserved : goal.loop-page-preserved
loop-page-preserved c =
    c.in_ok-append.ensures.ok
    ∙ ap (λ l. l ++ c.in_ok-revmap_page.field-0) c.loop-page.invariant
    ∙ append_assoc c.args.image.now (revmap_of c.loop-page.page c.args.pointers.now) c.in_ok-revmap_page.field-0
    ∙ ap (λ l. c.args.image.now ++ (revmap_of c.loop-page.page c.args.pointers.now ++ l))
    (c.in_ok-revmap_page.ensures ∙ ap revmap_page c.items_from.ensures)
    ∙ ap (λ l. c.args.image.now ++ l) (sym (revmap-more c.loop-page.page c.args.pointers.now))
