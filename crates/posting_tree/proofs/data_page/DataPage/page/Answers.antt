use Rattle.std.proofs.Common.{refl, ◌∙◌, ap, ◌+◌, length}
use Rattle.posting_tree.proofs.DataWrites.{written-data_page}
use Rattle.posting_tree.specs.PostingTree.{data_page}
use Rattle.posting_tree.proofs.data_page.DataPage.page.Goals as goal

pub returns : goal.returns
returns c =
    rw (c.put_slice-3.ensures, c.put_slice-2.ensures, c.put_slice.ensures, c.put_u16.ensures, c.in_ok-page.ensures)
    (written-data_page c.args.self.now.flags c.args.self.now.maxoff c.args.self.now.right (32 + length c.args.content.now) c.bound.result c.args.content.now _ _
    c.requires refl c.bytes.ensures c.special.ensures
    ∙ ap (λ bound. data_page c.args.self.now.flags c.args.self.now.maxoff c.args.self.now.right bound c.args.content.now) c.bound.ensures)
