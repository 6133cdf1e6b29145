use Rattle.std.proofs.Common.{◌++◌, [], ap, ◌∙◌}
use Rattle.brin_summary.proofs.Files.{room-left, written-file}
use Rattle.brin_summary.proofs.file.file_of.Goals as goal

pub put_tuples-requires-clause-room : goal.put_tuples-requires-clause-room
put_tuples-requires-clause-room c =
    room-left c.args.kinds.now c.args.pages_per_range c.args.ranges.now c.args.sizes.now c.revmap_pages-revmap.result c.deref.result.now
    c.append.new.self c.put_revmap.new.image []
    (c.in_ok-append.ensures.ok ∙ ap (λ l. l ++ c.in_ok-meta_page.field-0) c.new-image.ensures ∙ ap (λ l. [] ++ l) c.in_ok-meta_page.ensures)
    c.in_ok-put_revmap.ensures
    c.requires.some_pages c.requires.blocks c.revmap_pages-revmap.ensures

pub returns : goal.returns
returns c =
    written-file c.args.kinds.now c.args.pages_per_range c.args.ranges.now c.args.sizes.now c.revmap_pages-revmap.result c.deref.result.now
    c.append.new.self c.put_revmap.new.image c.put_tuples.new.image
    (c.in_ok-append.ensures.ok ∙ ap (λ l. l ++ c.in_ok-meta_page.field-0) c.new-image.ensures ∙ ap (λ l. [] ++ l) c.in_ok-meta_page.ensures)
    c.in_ok-put_revmap.ensures
    c.requires.sizes c.revmap_pages-revmap.ensures
    (c.deref.ensures.value ∙ c.in_ok-pointers.ensures)
    c.in_ok-put_tuples.ensures
