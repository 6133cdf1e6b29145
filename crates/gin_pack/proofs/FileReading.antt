-- A file that has postings is read as them.
use Rattle.std.proofs.Common.{◌≡◌, ℕ, zero, suc, ◌+◌, ◌<◌, ◌≤◌, List, [], ◌∷◌, ◌++◌, length, refl, sym, ap, subst, ◌∙◌, arith, length-append, inl, inr}
use Rattle.std.specs.Prelude.{◌⊎◌, IfSome, Option, Some, None, map, All}
use Rattle.std.specs.List.{AllByRecursion, AllZip, flat_map, last_or, range_with_len, sum_by}
use Rattle.std.specs.List.Sorted.{IsPermutation, IsStrictlySortedBy}
use Rattle.std.proofs.lemmas.List.Elements.{All-from_recursion, recursion_from_All}
use Rattle.std.proofs.lemmas.List.Sorted.{All-permutation, IsPermutation-sym}
use Rattle.std.proofs.lemmas.List.{map-append}
use Rattle.std.proofs.lemmas.List.Concat.{flat_map-cons}
use Rattle.std.proofs.lemmas.List.Sums.{sum_by-cons}
use Rattle.pg_bytes.specs.Blocks.{block_count}
use Rattle.opclass.specs.declared.types.ColType.{ColType}
use Rattle.gin_entry.specs.declared.entry.Entry.{Entry}
use Rattle.gin_entry.specs.EntryMap.{IsPostingList, Posting}
use Rattle.gin_entry.specs.EntryOrder.{entry_cmp}
use Rattle.gin_entry.specs.EntrySize.{entry_size}
use Rattle.posting_tree.specs.Laws.{IsSeenAbove}
use Rattle.posting_tree.specs.Levels.{AreAbove, AreLevel, Downlink, IsEmptyRoot, IsPage, IsRootOf, Kind, Node, Page, Tree, items_of, no_link, nodes_linked, nodes_of, nodes_of_level, said, to_say, top_of}
use Rattle.posting_tree.specs.PostingTree.{inner_kind as list_inner_kind, leaf_kind as list_leaf_kind}
use Rattle.posting_tree.specs.Reading.Sight.{SeenLeaf}
use Rattle.posting_tree.specs.Special.{leaf_flag}
use Rattle.posting_tree.proofs.PostingReading.{all-pages, standing-is-read}
use Rattle.posting_tree.proofs.TreeReading.{trees-are-read}
use Rattle.gin_file.specs.EntryTree.{Item, entry_page, entry_sight, inner_flags, inner_kind, item_size, leaf_kind, link_item}
use Rattle.gin_file.specs.EntryTuple.{inner_tuple, most_size, IsTuple}
use Rattle.gin_pack.specs.File.{HasPostings, IsStored, ListTree, Stored, blocks_had, blocks_of, item_of, nodes_apart, pages_apart, tuple_of}
use Rattle.gin_file.specs.Reading.{IsReadAsPostings, Tells}
use Rattle.gin_file.specs.Entry.{IsEntry}
use Rattle.gin_pack.specs.Pass.Placing.{HaveRoom}
use Rattle.gin_pack.specs.Postings.{IsListed}
use Rattle.gin_file.proofs.EntryItems.{listed as listed-in}
use Rattle.gin_file.proofs.EntryTuples.{leading-is_tuple, list-is_tuple}
use Rattle.gin_pack.proofs.Fillings.{fill-is, tuples_of}
use Rattle.gin_pack.proofs.PageReading.{inner-seen, leaf-seen}
use Rattle.gin_pack.proofs.Rising.{length-nodes}

-- ---- lists

all-front : {X : Type 0} (P : X → Type 0) (xs ys : List X) → AllByRecursion P (xs ++ ys) → AllByRecursion P xs
all-front P [] ys all = tt
all-front P (x ∷ xs) ys all = (all.0, all-front P xs ys all.1)

all-back : {X : Type 0} (P : X → Type 0) (xs ys : List X) → AllByRecursion P (xs ++ ys) → AllByRecursion P ys
all-back P [] ys all = all
all-back P (x ∷ xs) ys all = all-back P xs ys all.1

-- ---- the blocks of a file

-- a page has one of so many blocks
abbrev IsBelow : ℕ → Node → Type 0
IsBelow most node = node.block < most

numbers-below : (most from count : ℕ) → from + count ≤ most → AllByRecursion (λ block. block < most) (range_with_len from count)
numbers-below most from zero fits = tt
numbers-below most from (suc count) fits = (omega arith, numbers-below most (from + 1) count (omega arith))

nodes-below : (most : ℕ) (nodes : List Node) → AllByRecursion (λ block. block < most) (blocks_of nodes) → AllByRecursion (IsBelow most) nodes
nodes-below most [] all = tt
nodes-below most (node ∷ nodes) all = (all.0, nodes-below most nodes all.1)

-- blocks that are those of a file, each once, are below its count
had-below : (most : ℕ) (blocks : List ℕ) → IsPermutation blocks (range_with_len 0 most) → AllByRecursion (λ block. block < most) blocks
had-below most blocks same =
    let Below : ℕ → Type 0 = λ block. block < most in
    recursion_from_All Below blocks
    (All-permutation Below (range_with_len 0 most) blocks (IsPermutation-sym blocks (range_with_len 0 most) same)
    (All-from_recursion Below (range_with_len 0 most) (numbers-below most 0 most (omega arith))))

-- ---- the root of a tree

-- the blocks of a level's pages are those of its nodes
level-inside : {I K : Type 0} (most : ℕ) (kind : Kind I K) (link : ℕ) (pages : List (Page I)) → AllByRecursion (λ node. node.block < most) (nodes_linked kind link pages)
    → AllByRecursion (λ block. block < most) (map (λ page. page.block) pages)
level-inside most kind link [] all = tt
level-inside most kind link (page ∷ pages) all = (all.0, level-inside most kind link pages all.1)

top-inside : {K : Type 0} (most : ℕ) (inner : Kind (Downlink K) K) (blocks : List ℕ) (above : List (List (Page (Downlink K)))) (root : ℕ)
    → AllByRecursion (λ block. block < most) blocks → AllByRecursion (λ node. node.block < most) (flat_map (nodes_of_level inner) above)
    → top_of blocks above ≡ root ∷ [] → root < most
top-inside most inner blocks [] root here all is = (subst (AllByRecursion (λ block. block < most)) is here).0
top-inside most inner blocks (pages ∷ above) root here all is =
    let both = subst (AllByRecursion (λ node. node.block < most)) (flat_map-cons (nodes_of_level inner) pages above) all in
    top-inside most inner (map (λ page. page.block) pages) above root
    (level-inside most inner no_link pages (all-front (λ (n : Node). n.block < most) (nodes_of_level inner pages) (flat_map (nodes_of_level inner) above) both))
    (all-back (λ (n : Node). n.block < most) (nodes_of_level inner pages) (flat_map (nodes_of_level inner) above) both)
    is

-- the root of a tree has one of its blocks
root-inside : {L K : Type 0} (most : ℕ) (leaf : Kind L K) (inner : Kind (Downlink K) K) (tree : Tree L K) (root : ℕ)
    → AllByRecursion (λ node. node.block < most) (nodes_of leaf inner tree) → IsRootOf tree root → root < most
root-inside most leaf inner tree root all is =
    let leaves : List Node = nodes_of_level leaf tree.leaves in
    let above : List Node = flat_map (nodes_of_level inner) tree.above in
    top-inside most inner (map (λ page. page.block) tree.leaves) tree.above root
    (level-inside most leaf no_link tree.leaves (all-front (λ (n : Node). n.block < most) leaves above all))
    (all-back (λ (n : Node). n.block < most) leaves above all)
    is

-- ---- what each tuple tells

-- an entry that is stored tells its posting
tells : (kind : ColType) (file : List ℕ) (stored : Stored) → IsListed kind stored.posting → IsStored kind file stored → pages_apart stored ≤ block_count file
    → block_count file ≤ no_link → AllByRecursion (IsBelow (block_count file)) (nodes_apart stored)
    → Tells kind file (tuple_of kind stored) stored.posting
tells kind file stored its is few linked inside = by stored.posting stored.apart its is few inside
  where
    by : (posting : Posting) (apart : Option ListTree) → IsListed kind posting → IsStored kind file (record { posting = posting; apart = apart })
        → pages_apart (record { posting = posting; apart = apart }) ≤ block_count file
        → AllByRecursion (IsBelow (block_count file)) (nodes_apart (record { posting = posting; apart = apart }))
        → Tells kind file (tuple_of kind (record { posting = posting; apart = apart })) posting
    by posting None entry is few inside =
        inl (record {
          is_item = (
            entry.is_entry,
            listed-in kind posting.entry posting.pointers entry.some entry.ascending entry.blocks (omega arith),
          );
          bytes_are = refl;
        })
    by posting (Some apart) entry is few inside =
        inr (
          apart.root,
          record {
            is_item = (
              entry.is_entry,
              record {
                size = let small = entry.small in omega arith;
                block_is =
                    let below = root-inside (block_count file) list_leaf_kind list_inner_kind apart.tree apart.root inside is.root in
                    omega arith;
              },
            );
            bytes_are = refl;
          },
          standing-is-read file apart.tree apart.root posting.pointers is.tree is.root is.stands inside few linked entry.some entry.ascending entry.blocks,
        )

all-tell : (kind : ColType) (file : List ℕ) (stored : List Stored) → AllByRecursion (λ each. IsListed kind each.posting) stored
    → AllByRecursion (IsStored kind file) stored → sum_by pages_apart stored ≤ block_count file → block_count file ≤ no_link
    → AllByRecursion (IsBelow (block_count file)) (flat_map nodes_apart stored)
    → AllZip (Tells kind file) (map (tuple_of kind) stored) (map (λ each. each.posting) stored)
all-tell kind file [] listed are few linked inside = tt
all-tell kind file (each ∷ stored) listed are few linked inside =
    let parts = sum_by-cons pages_apart each stored in
    let both = subst (AllByRecursion (IsBelow (block_count file))) (flat_map-cons nodes_apart each stored) inside in (
      tells kind file each listed.0 are.0 (omega arith) linked
          (all-front (IsBelow (block_count file)) (nodes_apart each) (flat_map nodes_apart stored) both),
      all-tell kind file stored listed.1 are.1 (omega arith) linked
          (all-back (IsBelow (block_count file)) (nodes_apart each) (flat_map nodes_apart stored) both),
    )

-- ---- pages are seen as what they are

-- an entry whose tuples have the sizes of tuples
abbrev IsGood : ColType → Entry → Type 0
IsGood kind entry = IsEntry entry × (entry_size kind entry ≤ most_size)

-- items of such entries, whose tuples are tuples
abbrev AreGood : ColType → List Item → Type 0
AreGood kind items = AllByRecursion (λ item. IsTuple item.tuple × IsGood kind item.entry) items

good-item : (kind : ColType) (file : List ℕ) (stored : Stored) → IsListed kind stored.posting → IsStored kind file stored
    → IsTuple (item_of kind stored).tuple × IsGood kind (item_of kind stored).entry
good-item kind file stored listed is = (by stored.posting stored.apart listed is, (listed.is_entry.entry_is, listed.small))
  where
    by : (posting : Posting) (apart : Option ListTree) → IsListed kind posting → IsStored kind file (record { posting = posting; apart = apart })
        → IsTuple (tuple_of kind (record { posting = posting; apart = apart }))
    by posting None listed is = list-is_tuple kind posting.entry posting.pointers listed.is_entry.entry_is is
    by posting (Some apart) listed is = leading-is_tuple kind posting.entry _ listed.is_entry.entry_is listed.small

good-items : (kind : ColType) (file : List ℕ) (stored : List Stored) → AllByRecursion (λ each. IsListed kind each.posting) stored
    → AllByRecursion (IsStored kind file) stored → AreGood kind (map (item_of kind) stored)
good-items kind file [] listed are = tt
good-items kind file (each ∷ stored) listed are = (good-item kind file each listed.0 are.0, good-items kind file stored listed.1 are.1)

all-weaker : {X : Type 0} (P Q : X → Type 0) → ((x : X) → P x → Q x) → (xs : List X) → AllByRecursion P xs → AllByRecursion Q xs
all-weaker P Q weaker [] all = tt
all-weaker P Q weaker (x ∷ xs) all = (weaker x all.0, all-weaker P Q weaker xs all.1)

-- the items of pages, page by page
by-page : {X : Type 0} (P : X → Type 0) (pages : List (Page X)) → AllByRecursion P (items_of pages) → AllByRecursion (λ page. AllByRecursion P page.items) pages
by-page P [] all = tt
by-page {X = X} P (page ∷ pages) all =
    let both = subst (AllByRecursion P) (flat_map-cons (λ (p : Page X). p.items) page pages) all in
    (all-front P page.items (items_of pages) both, by-page P pages (all-back P page.items (items_of pages) both))

-- tuples that fill no more than a page have room there
room : (kind : ColType) (flags : ℕ) (items : List Item) → AreGood kind items → sum_by item_size items ≤ 8160 → HaveRoom (tuples_of items)
room kind flags items good fits =
    let taken = fill-is flags items (all-weaker (λ (i : Item). IsTuple i.tuple × IsGood kind i.entry) (λ (i : Item). IsTuple i.tuple) (λ i both. both.0) items good) in
    omega arith

seen-leaves : (kind : ColType) (pages : List (Page Item)) → AllByRecursion (IsPage leaf_kind) pages → AllByRecursion (λ page. AreGood kind page.items) pages
    → AllByRecursion (λ page. (right : ℕ) → right ≤ no_link → entry_sight (leaf_kind.image right page.items) ≡ SeenLeaf right (tuples_of page.items)) pages
seen-leaves kind [] are good = tt
seen-leaves kind (page ∷ pages) are good = (
  λ right small. leaf-seen right (tuples_of page.items) (room kind leaf_flag page.items good.0 are.0.room) (omega arith),
  seen-leaves kind pages are.1 good.1,
)

-- ---- the levels above

abbrev AreGoodLinks : ColType → List (Downlink Entry) → Type 0
AreGoodLinks kind links = AllByRecursion (λ link. IsGood kind link.key) links

good-links : (kind : ColType) (links : List (Downlink Entry)) → AreGoodLinks kind links → AreGood kind (map (link_item kind) links)
good-links kind [] good = tt
good-links kind (link ∷ links) good = ((leading-is_tuple kind link.key _ good.0.0 good.0.1, good.0), good-links kind links good.1)

links-sum : (kind : ColType) (links : List (Downlink Entry)) → sum_by item_size (map (link_item kind) links) ≡ sum_by (λ link. item_size (link_item kind link)) links
links-sum kind [] = refl
links-sum kind (link ∷ links) =
    let a = sum_by-cons item_size (link_item kind link) (map (link_item kind) links) in
    let b = sum_by-cons (λ (l : Downlink Entry). item_size (link_item kind l)) link links in
    let rest = links-sum kind links in
    omega arith

links-tuples : (kind : ColType) (links : List (Downlink Entry)) → tuples_of (map (link_item kind) links) ≡ map (λ link. inner_tuple kind link) links
links-tuples kind [] = refl
links-tuples kind (link ∷ links) = ap (λ l. inner_tuple kind link ∷ l) (links-tuples kind links)

links-room : (kind : ColType) (page : Page (Downlink Entry)) → IsPage (inner_kind kind) page → AreGoodLinks kind page.items
    → HaveRoom (map (λ link. inner_tuple kind link) page.items)
links-room kind page is good =
    let fits = is.room in
    let same = links-sum kind page.items in
    subst HaveRoom (links-tuples kind page.items) (room kind inner_flags (map (link_item kind) page.items) (good-links kind page.items good) (omega arith))

seen-page : (kind : ColType) (page : Page (Downlink Entry)) → IsPage (inner_kind kind) page → AreGoodLinks kind page.items
    → IsSeenAbove entry_sight (inner_kind kind) page
seen-page kind page is good right link links small child are =
    ap (λ (l : List (Downlink Entry)). entry_sight (entry_page inner_flags right (map (λ x. inner_tuple kind x) l))) are
    ∙ inner-seen kind right link (map (λ x. inner_tuple kind x) links)
    (subst (λ (l : List (Downlink Entry)). HaveRoom (map (λ x. inner_tuple kind x) l)) are (links-room kind page is good)) (omega arith)

seen-pages : (kind : ColType) (pages : List (Page (Downlink Entry))) → AllByRecursion (IsPage (inner_kind kind)) pages
    → AllByRecursion (λ page. AreGoodLinks kind page.items) pages → AllByRecursion (IsSeenAbove entry_sight (inner_kind kind)) pages
seen-pages kind [] are good = tt
seen-pages kind (page ∷ pages) are good = (seen-page kind page are.0 good.0, seen-pages kind pages are.1 good.1)

-- what is said of pages below, of good entries
abbrev AreGoodKeys : ColType → List (ℕ × Option Entry) → Type 0
AreGoodKeys kind below = AllByRecursion (λ each. IfSome each.1 (IsGood kind)) below

good-said : (kind : ColType) (links : List (Downlink Entry)) (below : List (ℕ × Option Entry)) → map said links ≡ below → AreGoodKeys kind below → AreGoodLinks kind links
good-said kind [] below same good = tt
good-said kind (link ∷ links) below same good =
    let one = subst (AreGoodKeys kind) (sym same) good in
    (one.0, good-said kind links (map said links) refl one.1)

good-last : (kind : ColType) (keys : List Entry) (otherwise : Option Entry) → IfSome otherwise (IsGood kind) → AllByRecursion (IsGood kind) keys
    → IfSome (last_or otherwise keys) (IsGood kind)
good-last kind [] otherwise is good = is
good-last kind (key ∷ keys) otherwise is good = good-last kind keys (Some key) good.0 good.1

good-keys : (kind : ColType) (items : List Item) → AreGood kind items → AllByRecursion (IsGood kind) (map (λ item. item.entry) items)
good-keys kind [] good = tt
good-keys kind (item ∷ items) good = (good.0.1, good-keys kind items good.1)

good-link_keys : (kind : ColType) (links : List (Downlink Entry)) → AreGoodLinks kind links → AllByRecursion (IsGood kind) (map (λ link. link.key) links)
good-link_keys kind [] good = tt
good-link_keys kind (link ∷ links) good = (good.0, good-link_keys kind links good.1)

leaves-say : (kind : ColType) (pages : List (Page Item)) → AllByRecursion (λ page. AreGood kind page.items) pages → AreGoodKeys kind (map (to_say leaf_kind) pages)
leaves-say kind [] good = tt
leaves-say kind (page ∷ pages) good =
    (good-last kind (map (λ item. item.entry) page.items) None tt (good-keys kind page.items good.0), leaves-say kind pages good.1)

links-say : (kind : ColType) (pages : List (Page (Downlink Entry))) → AllByRecursion (λ page. AreGoodLinks kind page.items) pages
    → AreGoodKeys kind (map (to_say (inner_kind kind)) pages)
links-say kind [] good = tt
links-say kind (page ∷ pages) good =
    (good-last kind (map (λ link. link.key) page.items) None tt (good-link_keys kind page.items good.0), links-say kind pages good.1)

seen-levels : (kind : ColType) (below : List (ℕ × Option Entry)) (above : List (List (Page (Downlink Entry)))) → AreAbove (inner_kind kind) below above
    → AreGoodKeys kind below → AllByRecursion (AllByRecursion (IsSeenAbove entry_sight (inner_kind kind))) above
seen-levels kind below [] are good = tt
seen-levels kind below (pages ∷ above) are good =
    let links = by-page (λ (l : Downlink Entry). IsGood kind l.key) pages (good-said kind (items_of pages) below are.1 good) in (
      seen-pages kind pages (all-pages (inner_kind kind) pages are.2.0) links,
      seen-levels kind (map (to_say (inner_kind kind)) pages) above are.2.1 (links-say kind pages links),
    )

-- ---- how many there are

some-pages : {I K : Type 0} (kind : Kind I K) (pages : List (Page I)) → AreLevel kind pages → 1 ≤ length pages
some-pages kind [] level = absurd level
some-pages kind (page ∷ pages) level = omega arith

levels-few : (kind : ColType) (below : List (ℕ × Option Entry)) (above : List (List (Page (Downlink Entry)))) → AreAbove (inner_kind kind) below above
    → length above ≤ length (flat_map (nodes_of_level (inner_kind kind)) above)
levels-few kind below [] are = omega arith
levels-few kind below (pages ∷ above) are =
    let some = some-pages (inner_kind kind) pages are.2.0 in
    let here = length-nodes (inner_kind kind) no_link pages in
    let rest = levels-few kind (map (to_say (inner_kind kind)) pages) above are.2.1 in
    let parts = ap length (flat_map-cons (nodes_of_level (inner_kind kind)) pages above) ∙ length-append (nodes_of_level (inner_kind kind) pages) (flat_map (nodes_of_level (inner_kind kind)) above) in
    omega arith

-- ---- the leaves, some or one that is empty

record SeenLeaves (kind : ColType) (pages : List (Page Item)) : Type 0 where
  pub seen : AllByRecursion (λ page. (right : ℕ) → right ≤ no_link → entry_sight (leaf_kind.image right page.items) ≡ SeenLeaf right (tuples_of page.items)) pages
  pub some : 1 ≤ length pages

leaves-seen : (kind : ColType) (pages : List (Page Item)) → AreLevel leaf_kind pages ⊎ IsEmptyRoot pages → AllByRecursion (λ page. AreGood kind page.items) pages → SeenLeaves kind pages
leaves-seen kind pages (inl level) good = record {
  seen = seen-leaves kind pages (all-pages leaf_kind pages level) good;
  some = some-pages leaf_kind pages level;
}
leaves-seen kind pages (inr empty) good =
    subst (λ (p : List (Page Item)). SeenLeaves kind p) (sym empty.alone)
    (record {
      seen = (
        λ right small. subst (λ (items : List Item). entry_sight (leaf_kind.image right items) ≡ SeenLeaf right (tuples_of items)) (sym empty.empty)
            (leaf-seen right [] (omega arith) (omega arith)),
        tt,
      );
      some = omega arith;
    })

-- ---- the whole file

flat-tuples : (pages : List (Page Item)) → flat_map (λ tuples. tuples) (map (λ page. tuples_of page.items) pages) ≡ tuples_of (items_of pages)
flat-tuples [] = refl
flat-tuples (page ∷ pages) =
    flat_map-cons (λ (t : List (List ℕ)). t) (tuples_of page.items) (map (λ p. tuples_of p.items) pages)
    ∙ ap (λ (l : List (List ℕ)). tuples_of page.items ++ l) (flat-tuples pages)
    ∙ sym (ap tuples_of (flat_map-cons (λ (p : Page Item). p.items) page pages) ∙ map-append (λ (i : Item). i.tuple) page.items (items_of pages))

stored-tuples : (kind : ColType) (stored : List Stored) → tuples_of (map (item_of kind) stored) ≡ map (tuple_of kind) stored
stored-tuples kind [] = refl
stored-tuples kind (each ∷ stored) = ap (λ l. tuple_of kind each ∷ l) (stored-tuples kind stored)

listed-stored : (kind : ColType) (stored : List Stored) → AllByRecursion (IsListed kind) (map (λ each. each.posting) stored) → AllByRecursion (λ each. IsListed kind each.posting) stored
listed-stored kind [] all = tt
listed-stored kind (each ∷ stored) all = (all.0, listed-stored kind stored all.1)

pub file-is-read : (kind : ColType) (file : List ℕ) (postings : List Posting) → HasPostings kind file postings → AllByRecursion (IsListed kind) postings
    → IsStrictlySortedBy entry_cmp (map (λ posting. posting.entry) postings) → All (λ posting. IsPostingList posting.pointers) postings
    → IsReadAsPostings kind file postings
file-is-read kind file postings has listed ascending lists =
    let tree : Tree Item Entry = has.tree in
    let each = listed-stored kind has.stored (subst (AllByRecursion (IsListed kind)) (sym has.postings_are) listed) in
    let good = by-page (λ (i : Item). IsTuple i.tuple × IsGood kind i.entry) tree.leaves
    (subst (AreGood kind) (sym has.items) (good-items kind file has.stored each has.lists)) in
    let leaves = leaves-seen kind tree.leaves has.levels.leaves good in
    let leaf_nodes : List Node = nodes_of_level leaf_kind tree.leaves in
    let above_nodes : List Node = flat_map (nodes_of_level (inner_kind kind)) tree.above in
    let count = length-append leaf_nodes above_nodes in
    let leaf_count : length leaf_nodes ≡ length tree.leaves = length-nodes leaf_kind no_link tree.leaves in
    let levels = levels-few kind (map (to_say leaf_kind) tree.leaves) tree.above has.levels.above in
    let some = leaves.some in
    let blocks = has.blocks in
    let total : block_count file ≡ 1 + (length (leaf_nodes ++ above_nodes) + sum_by pages_apart has.stored) = omega arith in
    let nodes : List Node = leaf_nodes ++ above_nodes in
    let below = (had-below (block_count file) (blocks_had kind tree has.stored) has.each_once).1 in
    let mine = all-front (λ block. block < block_count file) (blocks_of nodes) (blocks_of (flat_map nodes_apart has.stored)) below in
    let theirs = all-back (λ block. block < block_count file) (blocks_of nodes) (blocks_of (flat_map nodes_apart has.stored)) below in
    let read = trees-are-read entry_sight tuples_of leaf_kind (inner_kind kind) file tree 1 has.levels has.root
    (record {
      stand = has.stands;
      inside = nodes-below (block_count file) nodes mine;
      linked = has.numbered;
      leaves = omega arith;
      levels = omega arith;
      seen_leaves = leaves.seen;
      seen_above = seen-levels kind (map (to_say leaf_kind) tree.leaves) tree.above has.levels.above (leaves-say kind tree.leaves good);
    }) in
    record {
      leaves = map (λ page. tuples_of page.items) tree.leaves;
      found = read;
      told =
          subst (λ (t : List (List ℕ)). AllZip (Tells kind file) t postings)
          (sym (flat-tuples tree.leaves ∙ ap tuples_of has.items ∙ stored-tuples kind has.stored))
          (subst (λ (p : List Posting). AllZip (Tells kind file) (map (tuple_of kind) has.stored) p) has.postings_are
          (all-tell kind file has.stored each has.lists (omega arith) has.numbered (nodes-below (block_count file) (flat_map nodes_apart has.stored) theirs)));
      ascending = ascending;
      lists = lists;
    }
