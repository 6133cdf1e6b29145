use Rattle.gin_pack.proofs.Placings.{link-put, link-takes, page-placed}
use Rattle.gin_pack.proofs.levels.place_page.Goals as goal

pub lead_to-requires : goal.lead_to-requires
lead_to-requires c = let names = c.requires.has.key c.requires.entry c.requires.greatest_is in names.tuple_is.least

pub put-requires : goal.put-requires
put-requires c =
    rw (c.deref.ensures.value, c.deref-2.ensures.value)
    (link-takes c.blocks-block.result _ c.args.full.now c.args.above.now c.lead_to.ensures c.requires)

pub returns-clause-page : goal.returns-clause-page
returns-clause-page c =
    page-placed c.blocks-block.result c.args.end c.args.image.now _ _ c.args.full.now c.blocks-block.ensures c.in_ok-append.ensures.ok c.link.ensures

pub returns-clause-link : goal.returns-clause-link
returns-clause-link c =
    link-put c.blocks-block.result c.args.image.now _ c.args.full.now c.args.above.now _ c.blocks-block.ensures c.lead_to.ensures
    (rw (c.deref.ensures.value, c.deref-2.ensures.value) at c.in_ok-put.ensures)
