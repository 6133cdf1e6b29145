use Rattle.std.proofs.Common.{◌∙◌, ◌++◌, ◌∷◌, [], refl, ap, arith}
use Rattle.gin_pack.proofs.Fillings.{page-turned}
use Rattle.gin_pack.proofs.level.Level.make_room.Goals as goal

pub returns-clause-kept : goal.returns-clause-kept
returns-clause-kept c =
    λ kind flags items has.
    page-turned kind flags items c.args.self.now _ c.args.size c.requires.size (omega arith) refl
    (c.in_ok-push.ensures.items ∙ ap (λ v. c.args.self.now.full.items ++ v ∷ []) c.replace-full.ensures.value) refl refl
    (ap (λ p. p.page) c.replace-full.ensures.after ∙ c.in_ok-empty_page.ensures) has
