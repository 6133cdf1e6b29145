use Rattle.std.proofs.Common.{◌≡◌, ap}
use Rattle.heap_page.specs.CheckedPage.{CheckedPage}
use Rattle.heap_page.proofs.Sound.{sound-line}
use Rattle.heap_page.proofs.view.View.line.Goals as goal

pub line-requires-clause-inside : goal.line-requires-clause-inside
line-requires-clause-inside c =
    let same : c.self.inside.page ≡ c.args.self.now.bytes = ap (λ (v : CheckedPage). v.bytes) c.self.view_is in
    sound-line c.self.inside.page c.self.inside.columns c.args.item c.self.invariant (rw same c.requires)
