-- How the entries that are stored become a file.
use Rattle.std.proofs.Common.{◌≡◌, ℕ, suc, ◌+◌, ◌-◌, ◌*◌, ◌^◌, ◌<◌, ◌≤◌, List, [], ◌∷◌, ◌++◌, length, drop, refl, sym, ap, subst, ◌∙◌, arith, length-append, inl, inr}
use Rattle.std.specs.Prelude.{◌⊎◌, Option, Some, None, map}
use Rattle.std.specs.List.{AllByRecursion, flat_map, range_with_len, sum_by}
use Rattle.std.specs.List.Sorted.{IsPermutation}
use Rattle.std.proofs.lemmas.List.{append_assoc, length-map}
use Rattle.std.proofs.lemmas.List.FromFn.{length-range_with_len}
use Rattle.std.proofs.lemmas.List.Sorted.{IsPermutation-append_comm, IsPermutation-cons, IsPermutation-to_front, IsPermutation-trans}
use Rattle.pg_bytes.specs.Blocks.{block_at, block_count}
use Rattle.pg_bytes.specs.Image.{placed}
use Rattle.pg_bytes.specs.PageLayout.{page_size}
use Rattle.opclass.specs.declared.types.ColType.{ColType}
use Rattle.gin_entry.specs.declared.entry.Entry.{Entry}
use Rattle.gin_entry.specs.EntryMap.{Posting}
use Rattle.posting_tree.specs.Levels.{AreLevel, IsEmptyRoot, Node, Page, Tree, no_link, nodes_of, nodes_of_level}
use Rattle.posting_tree.specs.PostingTree.{inner_kind as list_inner_kind, leaf_kind as list_leaf_kind}
use Rattle.posting_tree.specs.Reading.{StandIn}
use Rattle.posting_tree.specs.Special.{leaf_flag}
use Rattle.gin_file.specs.EntryTree.{Item, inner_kind, leaf_kind}
use Rattle.gin_pack.specs.File.{HasPostings, IsStored, ListTree, Stored, blocks_had, blocks_of, item_of, nodes_apart, pages_apart}
use Rattle.gin_file.specs.Meta.{meta_page}
use Rattle.gin_pack.specs.Pass.Filling.{IsLevelOf}
use Rattle.gin_pack.specs.Pass.Placing.{AreCut, ArePagesOf, ArePlaceable, IsBehindMeta, KeepsAllButRoot, Rises, pages_above}
use Rattle.gin_pack.specs.Pass.Storing.{HasStored, IsStoredIn, IsStoring, IsWithin}
use Rattle.gin_pack.specs.declared.level.FullPage.{FullPage}
use Rattle.gin_file.specs.declared.meta.Counts.{Counts}
use Rattle.gin_pack.specs.declared.store.EntryStore.{EntryStore}
use Rattle.gin_pack.proofs.Blocks.{all-append, behind-meta-kept, length-meta-placed, meta-placed, meta-stands, range-append, stand-kept}
use Rattle.gin_file.proofs.MetaWrites.{length-meta_page}
use Rattle.gin_pack.proofs.Rising.{are_level, items-of-cut, length-nodes}

-- ---- before the levels rise

-- the pages of the leaves may come into the image
pub placeable : (store : EntryStore) (pages : List FullPage) → IsStoring store
    → ((kind : ColType) → (flags : ℕ) → (items : List Item) → IsLevelOf kind flags items store.leaves → ArePagesOf kind flags items pages)
    → ArePlaceable store.image pages
placeable store pages storing finished =
    let made = finished store.kind leaf_flag _ storing.has.level in
    let grown = storing.has.grown in
    record {
      kind = store.kind;
      flags = leaf_flag;
      full = made.full;
      last = made.last;
      cut = made.cut;
      begun = omega arith;
    }

-- ---- what stays

kept-nodes : (old new : List ℕ) (nodes : List Node) → KeepsAllButRoot old new → AllByRecursion (IsWithin old) nodes
    → AllByRecursion (λ node. block_at node.block new ≡ block_at node.block old) nodes
kept-nodes old new [] keeps all = tt
kept-nodes old new (node ∷ nodes) keeps all =
    let from = all.0.from in
    (keeps node.block (λ (e : node.block ≡ 1). absurd (omega arith)) all.0.below, kept-nodes old new nodes keeps all.1)

behind-nodes : (page old : List ℕ) (nodes : List Node) → length page ≡ 8192 → AllByRecursion (λ node. 1 ≤ node.block) nodes
    → AllByRecursion (λ node. block_at node.block (page ++ drop 8192 old) ≡ block_at node.block old) nodes
behind-nodes page old [] size all = tt
behind-nodes page old (node ∷ nodes) size all = (behind-meta-kept page old node.block size all.0, behind-nodes page old nodes size all.1)

from-one : (file : List ℕ) (nodes : List Node) → AllByRecursion (IsBehindMeta file) nodes → AllByRecursion (λ node. 1 ≤ node.block) nodes
from-one file [] all = tt
from-one file (node ∷ nodes) all = (all.0.from, from-one file nodes all.1)

from-two : (file : List ℕ) (nodes : List Node) → AllByRecursion (IsWithin file) nodes → AllByRecursion (λ node. 1 ≤ node.block) nodes
from-two file [] all = tt
from-two file (node ∷ nodes) all = (let from = all.0.from in omega arith, from-two file nodes all.1)

-- an entry's list stands in the file
list-stands : (kind : ColType) (old risen page : List ℕ) (stored : Stored) → KeepsAllButRoot old risen → length page ≡ 8192
    → IsStoredIn kind old stored → IsStored kind (page ++ drop 8192 risen) stored
list-stands kind old risen page stored keeps size is = stands stored.posting stored.apart is
  where
    stands : (posting : Posting) (apart : Option ListTree) → IsStoredIn kind old (record { posting = posting; apart = apart })
        → IsStored kind (page ++ drop 8192 risen) (record { posting = posting; apart = apart })
    stands posting None is = is.list
    stands posting (Some apart) is =
        let nodes : List Node = nodes_of list_leaf_kind list_inner_kind apart.tree in
        record {
          large = is.list.large;
          tree = is.list.tree;
          root = is.list.root;
          stands =
              stand-kept risen (page ++ drop 8192 risen) nodes (behind-nodes page risen nodes size (from-two old nodes is.within))
              (stand-kept old risen nodes (kept-nodes old risen nodes keeps is.within) is.list.stands);
        }

lists-stand : (kind : ColType) (old risen page : List ℕ) (stored : List Stored) → KeepsAllButRoot old risen → length page ≡ 8192
    → AllByRecursion (IsStoredIn kind old) stored → AllByRecursion (IsStored kind (page ++ drop 8192 risen)) stored
lists-stand kind old risen page [] keeps size all = tt
lists-stand kind old risen page (each ∷ stored) keeps size all =
    (list-stands kind old risen page each keeps size all.0, lists-stand kind old risen page stored keeps size all.1)

-- ---- the leaves

-- leaves that have tuples are a level, and else there is one leaf without
leaves-are : (kind : ColType) (full : List (List Item)) (last : List Item) (packed : List FullPage) (pages : List (Page Item))
    → AreCut kind leaf_flag full last packed → map (λ page. page.items) pages ≡ full ++ last ∷ []
    → AreLevel leaf_kind pages ⊎ IsEmptyRoot pages
leaves-are kind [] [] packed [] cut same = absurd cc
leaves-are kind [] [] packed (page ∷ []) cut same = inr (record { root = page; alone = refl; empty = cc })
leaves-are kind [] [] packed (page ∷ next ∷ pages) cut same = absurd cc
leaves-are kind [] (item ∷ last) packed pages cut same =
    inl (are_level kind leaf_flag [] (item ∷ last) packed pages cut.have cut.filled (omega arith) same)
leaves-are kind (items ∷ full) last packed pages cut same =
    inl (are_level kind leaf_flag (items ∷ full) last packed pages cut.have cut.filled (cut.some (omega arith)) same)

-- ---- the blocks

-- The blocks that were given out, with those of the meta page and of the root, are the numbers from 0 on: posting trees
-- have the first ones from 2 on, the entry tree has those behind.
given-once : (apart behind : ℕ)
    → IsPermutation (0 ∷ ((range_with_len (2 + apart) behind ++ 1 ∷ []) ++ range_with_len 2 apart)) (range_with_len 0 (2 + (apart + behind)))
given-once apart behind =
    let mine : List ℕ = range_with_len (2 + apart) behind in
    let theirs : List ℕ = range_with_len 2 apart in
    let swapped : IsPermutation ((mine ++ 1 ∷ []) ++ theirs) (theirs ++ (mine ++ 1 ∷ [])) = IsPermutation-append_comm (mine ++ 1 ∷ []) theirs in
    let front : IsPermutation ((theirs ++ mine) ++ 1 ∷ []) (1 ∷ (theirs ++ mine)) = IsPermutation-to_front (theirs ++ mine) 1 in
    let ordered : IsPermutation ((mine ++ 1 ∷ []) ++ theirs) (1 ∷ (theirs ++ mine)) =
    IsPermutation-trans ((mine ++ 1 ∷ []) ++ theirs) ((theirs ++ mine) ++ 1 ∷ []) (1 ∷ (theirs ++ mine))
    (subst (IsPermutation ((mine ++ 1 ∷ []) ++ theirs)) (sym (append_assoc theirs mine (1 ∷ []))) swapped) front in
    let numbers : 0 ∷ 1 ∷ range_with_len 2 (apart + behind) ≡ range_with_len 0 (2 + (apart + behind)) =
    ap (range_with_len 0) (let e : suc (suc (apart + behind)) ≡ 2 + (apart + behind) = omega arith in e) in
    subst (IsPermutation (0 ∷ ((mine ++ 1 ∷ []) ++ theirs))) (ap (λ (l : List ℕ). 0 ∷ 1 ∷ l) (range-append 2 apart behind) ∙ numbers)
    (IsPermutation-cons 0 ((mine ++ 1 ∷ []) ++ theirs) (1 ∷ (theirs ++ mine)) ordered)

-- ---- the file

-- the numbers of the meta page
counts-are : (counts : Counts) (blocks entry_pages data_pages entries : ℕ)
    → counts.blocks ≡ blocks → counts.entry_pages ≡ entry_pages → counts.data_pages ≡ data_pages → counts.entries ≡ entries
    → counts ≡ record { blocks = blocks; entry_pages = entry_pages; data_pages = data_pages; entries = entries }
counts-are counts blocks entry_pages data_pages entries a b c d =
    ap (λ (n : ℕ). record { blocks = n; entry_pages = counts.entry_pages; data_pages = counts.data_pages; entries = counts.entries }) a
    ∙ ap (λ (n : ℕ). record { blocks = blocks; entry_pages = n; data_pages = counts.data_pages; entries = counts.entries }) b
    ∙ ap (λ (n : ℕ). record { blocks = blocks; entry_pages = entry_pages; data_pages = n; entries = counts.entries }) c
    ∙ ap (λ (n : ℕ). record { blocks = blocks; entry_pages = entry_pages; data_pages = data_pages; entries = n }) d

-- so many blocks are behind the lists
pub room-counted : (store : EntryStore) (blocks : ℕ) (pages : List FullPage) (risen : List ℕ) → IsStoring store → blocks * page_size ≡ length store.image
    → ((kind : ColType) → (flags : ℕ) → (items : List Item) → IsLevelOf kind flags items store.leaves → ArePagesOf kind flags items pages)
    → Rises store.image risen pages → (1 + (blocks - 2)) * page_size ≤ length risen
room-counted store blocks pages risen storing here finished rises =
    let made = finished store.kind leaf_flag _ storing.has.level in
    let up = rises store.kind leaf_flag made.full made.last made.cut in
    let grown = storing.has.grown in
    let more = up.grown in
    let same = ap length up.cut_is in
    let long = length-map up.pages (λ (p : Page Item). p.items) in
    let cut_long = length-append made.full (made.last ∷ []) in
    omega arith

pub file-has : (store : EntryStore) (blocks : ℕ) (pages : List FullPage) (risen page file : List ℕ) (counts : Counts)
    → blocks * page_size ≡ length store.image
    → ((kind : ColType) → (flags : ℕ) → (items : List Item) → IsLevelOf kind flags items store.leaves → ArePagesOf kind flags items pages)
    → Rises store.image risen pages
    → counts.blocks < 2 ^ 32 → counts.blocks * page_size ≡ length risen → counts.entry_pages + (1 + (blocks - 2)) ≡ counts.blocks → counts.data_pages ≡ blocks - 2
    → counts.entries ≡ store.entries
    → page ≡ meta_page counts → file ≡ placed 0 page risen
    → (kind : ColType) (stored : List Stored) → HasStored kind stored store → HasPostings kind file (map (λ each. each.posting) stored)
file-has store blocks pages risen page file counts here finished rises fits counted_blocks counted_entry counted_data counted_entries is_meta is_file kind stored has =
    let made = finished kind leaf_flag (map (item_of kind) stored) has.level in
    let up = rises kind leaf_flag made.full made.last made.cut in
    let tree : Tree Item Entry = record { leaves = up.pages; above = up.above } in
    let leaf_nodes : List Node = nodes_of_level leaf_kind up.pages in
    let above_nodes : List Node = flat_map (nodes_of_level (inner_kind kind)) up.above in
    let nodes : List Node = leaf_nodes ++ above_nodes in
    let size : length page ≡ 8192 = ap length is_meta ∙ length-meta_page counts in
    let grown = has.grown in
    let more = up.grown in
    let same = ap length up.cut_is in
    let long = length-map up.pages (λ (p : Page Item). p.items) in
    let cut_long = length-append made.full (made.last ∷ []) in
    let leaf_count : length leaf_nodes ≡ length up.pages = length-nodes leaf_kind no_link up.pages in
    let count : length nodes ≡ length up.pages + pages_above kind up.above = length-append leaf_nodes above_nodes ∙ omega arith in
    let apart : ℕ = sum_by pages_apart stored in
    let total : length risen ≡ (1 + (length nodes + apart)) * page_size = omega arith in
    let there : file ≡ page ++ drop 8192 risen = is_file ∙ meta-placed page risen size (omega arith) in
    let same_long = length-meta-placed page risen size (omega arith) in
    let file_long : length file ≡ length risen = ap length there ∙ same_long in
    let stand : StandIn risen nodes = all-append (λ (n : Node). block_at n.block risen ≡ n.bytes) leaf_nodes above_nodes up.level_stands up.above_stand in
    let ones : AllByRecursion (λ (n : Node). 1 ≤ n.block) nodes =
    all-append (λ (n : Node). 1 ≤ n.block) leaf_nodes above_nodes (from-one risen leaf_nodes up.level_within) (from-one risen above_nodes up.above_within) in
    let numbers : counts ≡ record { blocks = 1 + (length nodes + apart); entry_pages = length nodes; data_pages = apart; entries = length stored } =
    counts-are counts (1 + (length nodes + apart)) (length nodes) apart (length stored) (omega arith) (omega arith) (omega arith) (counted_entries ∙ has.count) in
    record {
      stored = stored;
      postings_are = refl;
      lists = subst (λ (f : List ℕ). AllByRecursion (IsStored kind f) stored) (sym there) (lists-stand kind store.image risen page stored up.kept size has.lists);
      tree = tree;
      levels = record { leaves = leaves-are kind made.full made.last pages up.pages made.cut up.cut_is; above = up.rises };
      items = items-of-cut up.pages made.full made.last up.cut_is ∙ made.all;
      root = up.root;
      stands = subst (λ (f : List ℕ). StandIn f nodes) (sym there) (stand-kept risen (page ++ drop 8192 risen) nodes (behind-nodes page risen nodes size ones) stand);
      each_once =
          let given : blocks_of nodes ≡ range_with_len (2 + apart) up.behind ++ 1 ∷ [] =
          up.given ∙ ap (λ (b : ℕ). range_with_len b up.behind ++ 1 ∷ []) (let e : block_count store.image ≡ 2 + apart = omega arith in e) in
          let many = ap length given in
          let named = length-map nodes (λ (n : Node). n.block) in
          let ranged = length-range_with_len (2 + apart) up.behind in
          let ended = length-append (range_with_len (2 + apart) up.behind) (1 ∷ []) in
          let whole : block_count file ≡ 2 + (apart + up.behind) = omega arith in
          subst (λ (n : ℕ). IsPermutation (blocks_had kind tree stored) (range_with_len 0 n)) (sym whole)
          (subst (λ (l : List ℕ). IsPermutation (0 ∷ (l ++ blocks_of (flat_map nodes_apart stored))) (range_with_len 0 (2 + (apart + up.behind)))) (sym given)
          (subst (λ (l : List ℕ). IsPermutation (0 ∷ ((range_with_len (2 + apart) up.behind ++ 1 ∷ []) ++ l)) (range_with_len 0 (2 + (apart + up.behind)))) (sym has.given)
          (given-once apart up.behind)));
      meta = ap (block_at 0) there ∙ meta-stands page risen size ∙ is_meta ∙ ap meta_page numbers;
      blocks = file_long ∙ total;
      numbered = omega arith;
    }
