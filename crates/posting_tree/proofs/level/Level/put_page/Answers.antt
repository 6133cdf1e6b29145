use Rattle.std.proofs.Common.{◌≡◌, ◌∙◌, ◌++◌, ◌-◌, [], ap, List, ℕ, length, get_or, arith}
use Rattle.std.specs.List.{flat_map}
use Rattle.posting_tree.proofs.InnerSteps.{content-size, inner-page, last-link}
use Rattle.posting_tree.specs.Building.{links_from}
use Rattle.posting_tree.specs.PostingTree.{posting_item}
use Rattle.posting_tree.proofs.level.Level.put_page.Goals as goal

pub put-requires-clause-content : goal.put-requires-clause-content
put-requires-clause-content c =
    let items : List ℕ = flat_map posting_item (links_from c.args.child c.args.keys.now) in
    let content : c.deref.result.now ≡ [] ++ items = c.deref.ensures.value ∙ c.in_ok-put_items.ensures ∙ ap (λ (l : List ℕ). l ++ items) c.in_ok-content.ensures.items in
    let size = content-size _ _ _ content in
    omega (arith, c.requires.few)

pub returns-clause-ok : goal.returns-clause-ok
returns-clause-ok c =
    let items : List ℕ = flat_map posting_item (links_from c.args.child c.args.keys.now) in
    let content : c.deref.result.now ≡ [] ++ items = c.deref.ensures.value ∙ c.in_ok-put_items.ensures ∙ ap (λ (l : List ℕ). l ++ items) c.in_ok-content.ensures.items in
    c.in_ok-put.ensures.ok
    ∙ ap (λ (p : List ℕ). c.args.image.now ++ p) (inner-page c.args.right c.args.child c.args.keys.now c.deref.result.now (record { block = 0; offset = 0 }) c.requires.some content)

pub returns-clause-keys : goal.returns-clause-keys
returns-clause-keys c = (
  get_or c.args.keys.now (length c.args.keys.now - 1) (record { block = 0; offset = 0 }),
  last-link c.args.child c.args.keys.now (record { block = 0; offset = 0 }) c.requires.some,
  c.in_ok-push.ensures.items,
)
