use Rattle.gin_pack.proofs.Finishing.{file-has, placeable, room-counted}
use Rattle.gin_pack.proofs.store.EntryStore.finish.Goals as goal

pub place_levels-requires : goal.place_levels-requires
place_levels-requires c = placeable c.args.self c.in_ok-pages.pages.items c.requires c.in_ok-pages.ensures

pub counts_of-requires : goal.counts_of-requires
counts_of-requires c =
    room-counted c.args.self c.blocks-data_pages.result c.in_ok-pages.pages.items _ c.requires c.blocks-data_pages.ensures
    c.in_ok-pages.ensures c.in_ok-place_levels.ensures

pub returns : goal.returns
returns c =
    let n = c.counts_of.ensures in
    file-has c.args.self c.blocks-data_pages.result c.in_ok-pages.pages.items _ _ _ c.counts_of.result c.blocks-data_pages.ensures
    c.in_ok-pages.ensures c.in_ok-place_levels.ensures n.fits n.blocks n.entry_pages n.data_pages n.entries c.in_ok-meta.ensures c.in_ok-place.ensures.ok
