-- A tree that stands in a file is read as what its leaves hold.
use Rattle.std.proofs.Common.{◌≡◌, ℕ, zero, suc, ◌+◌, ◌-◌, ◌<◌, ◌≤◌, Bool, true, false, List, [], ◌∷◌, ◌++◌, length, map, refl, sym, ap, ◌∙◌, arith}
use Rattle.std.specs.Prelude.{Option, Some, if◌then◌else◌, nat_eq, nat_lt}
use Rattle.std.specs.List.{AllByRecursion, flat_map}
use Rattle.std.specs.Option.{option_and_then, option_map}
use Rattle.std.proofs.lemmas.Bool.Decides.{nat_tests}
use Rattle.pg_bytes.specs.Blocks.{block_at, block_count}
use Rattle.posting_tree.proofs.Lists.{all-back, all-front}
use Rattle.posting_tree.specs.Laws.{IsSeenAbove, IsSeenIn}
use Rattle.posting_tree.specs.Levels.{AreAbove, AreLevel, Downlink, IsRootOf, IsTree, Kind, Node, Page, Tree, first_block, items_of, no_link, nodes_linked, nodes_of_level, said, to_say, top_of}
use Rattle.posting_tree.specs.Reading.{Sight, StandIn, along, contents_below, leftmost, sight_at}
use Rattle.posting_tree.specs.Reading.Sight.{SeenInner, SeenLeaf, SeenOther}

lt-true : (a b : ℕ) → a < b → nat_lt a b ≡ true
lt-true a b h = grind (arith, nat_tests)

eq-false : (a b : ℕ) → a < b → nat_eq a b ≡ false
eq-false a b h = grind (arith, nat_tests)

eq-true : (a : ℕ) → nat_eq a a ≡ true
eq-true a = grind (arith, nat_tests)

-- a page that stands in a file is seen there
pub seen-at : {Content : Type 0} (sight : List ℕ → Sight Content) (file : List ℕ) (node : Node) (s : Sight Content) → node.block < block_count file
    → block_at node.block file ≡ node.bytes → sight node.bytes ≡ s → sight_at sight file node.block ≡ s
seen-at {Content = Content} sight file node s inside stands sees =
    ap (λ (t : Bool). if t then sight (block_at node.block file) else SeenOther) (lt-true node.block (block_count file) inside)
    ∙ ap sight stands ∙ sees

-- ---- one step

leftmost-leaf : {Content : Type 0} (seen : ℕ → Sight Content) (most block right : ℕ) (content : Content) → seen block ≡ SeenLeaf right content
    → leftmost seen (suc most) block ≡ Some block
leftmost-leaf seen most block right content e = rw (e, leftmost) refl

leftmost-inner : {Content : Type 0} (seen : ℕ → Sight Content) (most block child : ℕ) → seen block ≡ SeenInner child
    → leftmost seen (suc most) block ≡ leftmost seen most child
leftmost-inner seen most block child e = rw (e, leftmost) refl

along-leaf : {Content : Type 0} (seen : ℕ → Sight Content) (most block right : ℕ) (content : Content) → seen block ≡ SeenLeaf right content
    → along seen (suc most) block
    ≡ (if nat_eq right no_link then Some (content ∷ []) else option_map (λ contents. content ∷ contents) (along seen most right))
along-leaf seen most block right content e = rw (e, along) refl

along-end : {Content : Type 0} (seen : ℕ → Sight Content) (most block : ℕ) (content : Content) → seen block ≡ SeenLeaf no_link content
    → along seen (suc most) block ≡ Some (content ∷ [])
along-end seen most block content e = along-leaf seen most block no_link content e

along-more : {Content : Type 0} (seen : ℕ → Sight Content) (most block right : ℕ) (content : Content) (contents : List Content)
    → seen block ≡ SeenLeaf right content → right < no_link → along seen most right ≡ Some contents
    → along seen (suc most) block ≡ Some (content ∷ contents)
along-more {Content = Content} seen most block right content contents e below rest =
    along-leaf seen most block right content e
    ∙ ap (λ (t : Bool). if t then Some (content ∷ []) else option_map (λ more. content ∷ more) (along seen most right)) (eq-false right no_link below)
    ∙ ap (option_map (λ (more : List Content). content ∷ more)) rest

-- ---- along the leaves

-- each leaf leads to the next
along-leaves : {Leaf Key Content : Type 0} (sight : List ℕ → Sight Content) (content : List Leaf → Content) (leaf : Kind Leaf Key) (file : List ℕ)
    (page : Page Leaf) (pages : List (Page Leaf)) (most : ℕ) → suc (length pages) ≤ most → block_count file ≤ no_link
    → StandIn file (nodes_linked leaf no_link (page ∷ pages))
    → AllByRecursion (λ node. node.block < block_count file) (nodes_linked leaf no_link (page ∷ pages))
    → AllByRecursion (λ p. (right : ℕ) → right ≤ no_link → sight (leaf.image right p.items) ≡ SeenLeaf right (content p.items)) (page ∷ pages)
    → along (sight_at sight file) most page.block ≡ Some (content page.items ∷ map (λ p. content p.items) pages)
along-leaves sight content leaf file page pages zero short linked stand inside sees = absurd (omega arith)
along-leaves sight content leaf file page [] (suc most) short linked stand inside sees =
    let here = seen-at sight file (record { block = page.block; bytes = leaf.image no_link page.items }) (SeenLeaf no_link (content page.items)) inside.0 stand.0 (sees.0 no_link (omega arith)) in
    along-end (sight_at sight file) most page.block (content page.items) here
along-leaves sight content leaf file page (next ∷ pages) (suc most) short linked stand inside sees =
    let before = inside.1.0 in
    let right : next.block < no_link = omega arith in
    let here = seen-at sight file (record { block = page.block; bytes = leaf.image next.block page.items }) (SeenLeaf next.block (content page.items)) inside.0 stand.0 (sees.0 next.block (omega arith)) in
    let rest = along-leaves sight content leaf file next pages most (omega arith) linked stand.1 inside.1 sees.1 in
    along-more (sight_at sight file) most page.block next.block (content page.items) _ here right rest

-- ---- down to the first leaf

level-some : {Item Key : Type 0} (kind : Kind Item Key) (page : Page Item) (pages : List (Page Item)) → AreLevel kind (page ∷ pages) → 0 < length page.items
level-some kind page [] level = level.some
level-some kind page (next ∷ pages) level = level.0.some

-- a right link is a block or none
first-linked : {Item Key : Type 0} (kind : Kind Item Key) (file : List ℕ) (pages : List (Page Item)) → block_count file ≤ no_link
    → AllByRecursion (λ node. node.block < block_count file) (nodes_of_level kind pages) → first_block no_link pages ≤ no_link
first-linked kind file [] linked inside = omega arith
first-linked kind file (page ∷ pages) linked inside = let here = inside.0 in omega arith

-- what stands first above leads to what stands first below
down : {Key Content : Type 0} (sight : List ℕ → Sight Content) (inner : Kind (Downlink Key) Key) (file : List ℕ) (above : List (List (Page (Downlink Key))))
    (first : ℕ × Option Key) (rest : List (ℕ × Option Key)) (blocks : List ℕ) (root most : ℕ) → AreAbove inner (first ∷ rest) above
    → top_of (first.0 ∷ blocks) above ≡ root ∷ [] → first.0 < no_link → block_count file ≤ no_link
    → StandIn file (flat_map (nodes_of_level inner) above)
    → AllByRecursion (λ node. node.block < block_count file) (flat_map (nodes_of_level inner) above)
    → AllByRecursion (AllByRecursion (IsSeenAbove sight inner)) above
    → leftmost (sight_at sight file) (length above + most) root ≡ leftmost (sight_at sight file) most first.0
down sight inner file [] first rest blocks root most a top block linked stand inside sees =
    let same : first.0 ≡ root = cc in
    let count : 0 + most ≡ most = omega arith in
    ap (λ (n : ℕ). leftmost (sight_at sight file) n root) count ∙ ap (leftmost (sight_at sight file) most) (sym same)
down sight inner file ([] ∷ above) first rest blocks root most a top block linked stand inside sees = absurd a.2.0
down sight inner file ((page ∷ pages) ∷ above) first rest blocks root most a top block linked stand inside sees =
    by_items page.items refl (level-some inner page pages a.2.0) a.1 sees.0.0 stand.0 inside.0
    (first-linked inner file pages linked (all-front (λ node. node.block < block_count file) (nodes_of_level inner pages) (flat_map (nodes_of_level inner) above) inside.1))
    (down sight inner file above (to_say inner page) (map (to_say inner) pages) (map (λ p. p.block) pages) root (suc most) a.2.1 top (let here = inside.0 in omega arith) linked
    (all-back (λ node. block_at node.block file ≡ node.bytes) (nodes_of_level inner (page ∷ pages)) (flat_map (nodes_of_level inner) above) stand)
    (all-back (λ node. node.block < block_count file) (nodes_of_level inner (page ∷ pages)) (flat_map (nodes_of_level inner) above) inside) sees.1)
  where
    right : ℕ
    right = first_block no_link pages

    by_items : (items : List (Downlink _)) → page.items ≡ items → 0 < length page.items → map said (page.items ++ items_of pages) ≡ first ∷ rest
        → IsSeenAbove sight inner page → block_at page.block file ≡ inner.image right page.items → page.block < block_count file → right ≤ no_link
        → leftmost (sight_at sight file) (length above + suc most) root ≡ leftmost (sight_at sight file) (suc most) page.block
        → leftmost (sight_at sight file) (suc (length above) + most) root ≡ leftmost (sight_at sight file) most first.0
    by_items [] is some names sees_page stands within low deeper = let e = ap length is in absurd (omega arith)
    by_items (link ∷ links) is some names sees_page stands within low deeper =
        let count : suc (length above) + most ≡ length above + suc most = omega arith in
        let told : map said ((link ∷ links) ++ items_of pages) ≡ first ∷ rest = ap (λ (i : List (Downlink _)). map said (i ++ items_of pages)) (sym is) ∙ names in
        let head : (link.child, Some link.key) ≡ first = cc in
        let child : link.child ≡ first.0 = ap (λ p. p.0) head in
        let here = seen-at sight file (record { block = page.block; bytes = inner.image right page.items }) (SeenInner link.child) within stands
        (sees_page right link links low (omega arith) is) in
        ap (λ (n : ℕ). leftmost (sight_at sight file) n root) count ∙ deeper
        ∙ leftmost-inner (sight_at sight file) most page.block link.child here
        ∙ ap (leftmost (sight_at sight file) most) child

-- ---- the whole

no-pages : {Key : Type 0} (inner : Kind (Downlink Key) Key) (above : List (List (Page (Downlink Key)))) → AreAbove inner [] above → ⊥
no-pages inner [] a = absurd (omega arith)
no-pages inner (pages ∷ above) a = let few = a.0 in absurd (omega arith)

both : {A B : Type 0} (f : A → Option B) (o : Option A) (x : A) (y : B) → o ≡ Some x → f x ≡ Some y → option_and_then f o ≡ Some y
both f o x y first second = ap (option_and_then f) first ∙ second

read-levels : {Leaf Key Content : Type 0} (sight : List ℕ → Sight Content) (content : List Leaf → Content) (leaf : Kind Leaf Key)
    (inner : Kind (Downlink Key) Key) (file : List ℕ) (leaves : List (Page Leaf)) (above : List (List (Page (Downlink Key)))) (root : ℕ)
    → AreAbove inner (map (to_say leaf) leaves) above → top_of (map (λ page. page.block) leaves) above ≡ root ∷ []
    → IsSeenIn sight content leaf inner file (record { leaves = leaves; above = above })
    → contents_below sight file root ≡ Some (map (λ page. content page.items) leaves)
read-levels sight content leaf inner file [] above root a top seen = absurd (no-pages inner above a)
read-levels sight content leaf inner file (page ∷ pages) above root a top seen =
    let low = seen.levels in
    let short = seen.leaves in
    let more : ℕ = block_count file - length above - 1 in
    let count : block_count file ≡ length above + suc more = omega arith in
    let nodes : List Node = nodes_of_level leaf (page ∷ pages) in
    let others : List Node = flat_map (nodes_of_level inner) above in
    let stand = all-front (λ node. block_at node.block file ≡ node.bytes) nodes others seen.stand in
    let within = all-front (λ node. node.block < block_count file) nodes others seen.inside in
    let here = seen-at sight file (record { block = page.block; bytes = leaf.image (first_block no_link pages) page.items })
    (SeenLeaf (first_block no_link pages) (content page.items)) within.0 stand.0
    (seen.seen_leaves.0 (first_block no_link pages) (first-linked leaf file pages seen.linked within.1)) in
    let first : leftmost (sight_at sight file) (block_count file) root ≡ Some page.block =
    ap (λ (n : ℕ). leftmost (sight_at sight file) n root) count
    ∙ down sight inner file above (to_say leaf page) (map (to_say leaf) pages) (map (λ p. p.block) pages) root (suc more) a top (let inside = within.0 in let small = seen.linked in omega arith) seen.linked
    (all-back (λ node. block_at node.block file ≡ node.bytes) nodes others seen.stand)
    (all-back (λ node. node.block < block_count file) nodes others seen.inside) seen.seen_above
    ∙ leftmost-leaf (sight_at sight file) more page.block (first_block no_link pages) (content page.items) here in
    both (along (sight_at sight file) (block_count file)) (leftmost (sight_at sight file) (block_count file) root) page.block _ first
    (along-leaves sight content leaf file page pages (block_count file) short seen.linked stand within seen.seen_leaves)

pub trees-are-read : {Leaf Key Content : Type 0} (sight : List ℕ → Sight Content) (content : List Leaf → Content) (leaf : Kind Leaf Key)
    (inner : Kind (Downlink Key) Key) (file : List ℕ) (tree : Tree Leaf Key) (root : ℕ) → IsTree leaf inner tree → IsRootOf tree root
    → IsSeenIn sight content leaf inner file tree → contents_below sight file root ≡ Some (map (λ page. content page.items) tree.leaves)
trees-are-read sight content leaf inner file tree root is root_is seen =
    read-levels sight content leaf inner file tree.leaves tree.above root is.above root_is seen

-- pages stand in a file wherever their blocks are as in one in which they stand
pub stand-still : (file other : List ℕ) (nodes : List Node) → AllByRecursion (λ node. block_at node.block other ≡ block_at node.block file) nodes
    → StandIn file nodes → StandIn other nodes
stand-still file other [] same stand = tt
stand-still file other (node ∷ nodes) same stand = (same.0 ∙ stand.0, stand-still file other nodes same.1 stand.1)
