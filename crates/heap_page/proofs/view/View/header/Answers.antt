use Rattle.std.proofs.Common.{◌≡◌, ap, arith}
use Rattle.heap_page.specs.CheckedPage.{CheckedPage}
use Rattle.heap_page.proofs.Sound.{sound-item-read}
use Rattle.heap_page.proofs.view.View.header.Goals as goal

pub header_at-requires : goal.header_at-requires
header_at-requires c =
    let same : c.self.inside.page ≡ c.args.self.now.bytes = ap (λ (v : CheckedPage). v.bytes) c.self.view_is in
    let inside = sound-item-read c.self.inside.page c.self.inside.columns c.args.item c.line.result (rw same c.line.ensures) c.self.invariant (rw same c.requires) in
    omega arith
