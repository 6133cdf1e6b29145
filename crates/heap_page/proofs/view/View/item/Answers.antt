use Rattle.std.proofs.Common.{◌≡◌, ap, arith}
use Rattle.heap_page.specs.CheckedPage.{CheckedPage}
use Rattle.heap_page.proofs.Sound.{sound-item-read}
use Rattle.heap_page.proofs.view.View.item.Goals as goal

pub bytes_of-requires : goal.bytes_of-requires
bytes_of-requires c =
    let same : c.self.inside.page ≡ c.args.self.now.bytes = ap (λ (v : CheckedPage). v.bytes) c.self.view_is in
    let inside = sound-item-read c.self.inside.page c.self.inside.columns c.args.item c.line-line.result (rw same c.line-line.ensures) c.self.invariant (rw same c.requires) in
    omega arith
