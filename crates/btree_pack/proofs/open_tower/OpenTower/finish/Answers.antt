use Rattle.std.proofs.Common.{ap, ◌∙◌, subst}
use Rattle.pg_bytes.specs.Image.{placed}
use Rattle.btree_page.specs.Meta.{page_of_meta}
use Rattle.btree_pack.specs.Pass.Packing.{Packing}
use Rattle.btree_pack.specs.Pass.Sight.{IsFinished}
use Rattle.btree_pack.proofs.Finishing.{finished_packing_is_the_file}
use Rattle.btree_pack.proofs.open_tower.OpenTower.finish.Goals as goal

pub returns-clause-finished : goal.returns-clause-finished
returns-clause-finished c = (
  record { block = c.in_ok-root.root; level = c.in_ok-root.level },
  (
    c.close_all.new.self.image,
    (
      c.in_ok-root.ensures.root,
      c.in_ok-place.ensures.ok ∙ ap (λ p. placed 0 p c.close_all.new.self.image) (c.in_ok-page.ensures ∙ ap page_of_meta c.built.ensures),
    ),
  ),
)

pub returns-clause-file : goal.returns-clause-file
returns-clause-file c =
    λ items is are.
    finished_packing_is_the_file c.args.equal_images c.args.self.fillfactor items _ are
    (subst (λ (p : Packing). IsFinished c.args.self.fillfactor c.args.equal_images p c.place.new.self) is (
      record { block = c.in_ok-root.root; level = c.in_ok-root.level },
      (
        c.close_all.new.self.image,
        (
          c.in_ok-root.ensures.root,
          c.in_ok-place.ensures.ok ∙ ap (λ p. placed 0 p c.close_all.new.self.image) (c.in_ok-page.ensures ∙ ap page_of_meta c.built.ensures),
        ),
      ),
    ))
