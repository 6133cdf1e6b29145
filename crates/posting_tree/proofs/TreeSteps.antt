-- A tree, level by level.
use Rattle.std.proofs.Common.{◌≡◌, ℕ, zero, suc, ◌+◌, ◌*◌, ◌<◌, inl, List, [], ◌∷◌, ◌++◌, length, map, refl, sym, ap, subst, ◌∙◌, arith, length-append}
use Rattle.std.specs.Prelude.{Option, Some}
use Rattle.std.specs.List.{AllByRecursion, flat_map, range_with_len}
use Rattle.std.proofs.lemmas.List.{append_assoc, append-nil, length-map, map-append}
use Rattle.pg_bytes.specs.Blocks.{block_count}
use Rattle.pg_bytes.specs.declared.row_ptr.RowPtr.{RowPtr}
use Rattle.posting_tree.proofs.Lists.{flat-append}
use Rattle.posting_tree.specs.Building.{LeafLevelPut, LevelPut, TreePut, bytes_of, links_from, told_from}
use Rattle.posting_tree.specs.Levels.{AreAbove, Kind, Node, Page, nodes_linked, nodes_of_level, said, to_say, top_of}
use Rattle.posting_tree.specs.PostingTree.{AddsTree, inner_kind, leaf_kind}

-- ---- consecutive blocks

pub length-told : (first : ℕ) (keys : List RowPtr) → length (told_from first keys) ≡ length keys
length-told first [] = refl
length-told first (key ∷ keys) = ap suc (length-told (first + 1) keys)

said-links : (first : ℕ) (keys : List RowPtr) → map said (links_from first keys) ≡ told_from first keys
said-links first [] = refl
said-links first (key ∷ keys) = ap (λ (rest : List (ℕ × Option RowPtr)). (first, Some key) ∷ rest) (said-links (first + 1) keys)

blocks-told : {Item : Type 0} (kind : Kind Item RowPtr) (pages : List (Page Item)) (first : ℕ) (keys : List RowPtr) → map (to_say kind) pages ≡ told_from first keys
    → map (λ page. page.block) pages ≡ range_with_len first (length keys)
blocks-told kind [] first [] told = refl
blocks-told kind [] first (key ∷ keys) told = cc
blocks-told kind (page ∷ pages) first [] told = cc
blocks-told kind (page ∷ pages) first (key ∷ keys) told =
    let head : to_say kind page ≡ (first, Some key) = cc in
    let rest : map (to_say kind) pages ≡ told_from (first + 1) keys = cc in
    let block : page.block ≡ first = ap (λ (p : ℕ × Option RowPtr). p.0) head in
    ap (λ (b : ℕ). b ∷ map (λ p. p.block) pages) block ∙ ap (λ (l : List ℕ). first ∷ l) (blocks-told kind pages (first + 1) keys rest)

pub blocks-nodes : {Item Key : Type 0} (kind : Kind Item Key) (link : ℕ) (pages : List (Page Item))
    → map (λ node. node.block) (nodes_linked kind link pages) ≡ map (λ page. page.block) pages
blocks-nodes kind link [] = refl
blocks-nodes kind link (page ∷ pages) = ap (λ (rest : List ℕ). page.block ∷ rest) (blocks-nodes kind link pages)

pub length-nodes : {Item Key : Type 0} (kind : Kind Item Key) (link : ℕ) (pages : List (Page Item)) → length (nodes_linked kind link pages) ≡ length pages
length-nodes kind link [] = refl
length-nodes kind link (page ∷ pages) = ap suc (length-nodes kind link pages)

range-append : (a m n : ℕ) → range_with_len a (m + n) ≡ range_with_len a m ++ range_with_len (a + m) n
range-append a zero n =
    ap (range_with_len a) (let e : 0 + n ≡ n = omega arith in e) ∙ ap (λ (k : ℕ). range_with_len k n) (let e : a ≡ a + 0 = omega arith in e)
range-append a (suc m) n =
    ap (range_with_len a) (let e : suc m + n ≡ suc (m + n) = omega arith in e)
    ∙ ap (λ (rest : List ℕ). a ∷ rest)
    (range-append (a + 1) m n ∙ ap (λ (k : ℕ). range_with_len (a + 1) m ++ range_with_len k n) (let e : a + 1 + m ≡ a + suc m = omega arith in e))

-- the blocks of a level's pages
level-blocks : {Item : Type 0} (kind : Kind Item RowPtr) (pages : List (Page Item)) (first : ℕ) (keys : List RowPtr) → map (to_say kind) pages ≡ told_from first keys
    → (map (λ node. node.block) (nodes_of_level kind pages) ≡ range_with_len first (length keys)) × (length (nodes_of_level kind pages) ≡ length keys)
level-blocks kind pages first keys told =
    let blocks = blocks-told kind pages first keys told in (
      blocks-nodes kind 0xFFFFFFFF pages ∙ blocks,
      length-nodes kind 0xFFFFFFFF pages ∙ sym (length-map pages (to_say kind)) ∙ ap length told ∙ length-told first keys,
    )

-- ---- a tree under way

pub tree-leaves : (old new : List ℕ) (first : ℕ) (keys ptrs : List RowPtr) → LeafLevelPut old new first keys ptrs → first * 8192 ≡ length old
    → TreePut old new first keys ptrs
tree-leaves old new first keys ptrs l at =
    let put = l.put in
    let nodes : List Node = nodes_of_level leaf_kind put.pages in
    let same : nodes ++ [] ≡ nodes = append-nil nodes in
    let blocks = level-blocks leaf_kind put.pages first keys put.told in
    let count = blocks.1 in
    let number : block_count old ≡ first = omega arith in
    record {
      leaves = put.pages;
      middle = [];
      level = put.level;
      parts = subst (AllByRecursion _) (sym put.items_are) l.each;
      whole = l.whole ∙ ap (flat_map (λ (p : List RowPtr). p)) (sym put.items_are);
      above = λ more a. subst (λ (below : List (ℕ × Option RowPtr)). AreAbove inner_kind below more) (sym put.told) a;
      top = λ more. ap (λ (b : List ℕ). top_of b more) (blocks-told leaf_kind put.pages first keys put.told);
      blocks = ap (map (λ (node : Node). node.block)) same ∙ blocks.0
          ∙ ap (λ (n : ℕ). range_with_len first n) (sym (ap length same ∙ count))
          ∙ ap (λ (n : ℕ). range_with_len n (length (nodes ++ []))) (sym number);
      next = (let size = ap length same in omega arith);
      bytes = put.bytes ∙ ap (λ (n : List Node). old ++ bytes_of n) (sym same);
    }

pub tree-level : (old now next : List ℕ) (first first' : ℕ) (keys keys' ptrs : List RowPtr) → TreePut old now first keys ptrs
    → LevelPut inner_kind now next first' keys' (links_from first keys) → 1 < length keys → first' ≡ first + length keys → TreePut old next first' keys' ptrs
tree-level old now next first first' keys keys' ptrs t put several at =
    let leaf_nodes : List Node = nodes_of_level leaf_kind t.leaves in
    let before : List Node = leaf_nodes ++ flat_map (nodes_of_level inner_kind) t.middle in
    let nodes : List Node = nodes_of_level inner_kind put.pages in
    let blocks = level-blocks inner_kind put.pages first' keys' put.told in
    let count = blocks.1 in
    let told_size = length-told first keys in
    let joined : leaf_nodes ++ flat_map (nodes_of_level inner_kind) (t.middle ++ put.pages ∷ []) ≡ before ++ nodes =
    ap (λ (n : List Node). leaf_nodes ++ n) (flat-append (nodes_of_level inner_kind) t.middle (put.pages ∷ []))
    ∙ ap (λ (n : List Node). leaf_nodes ++ (flat_map (nodes_of_level inner_kind) t.middle ++ n)) (append-nil nodes)
    ∙ sym (append_assoc leaf_nodes (flat_map (nodes_of_level inner_kind) t.middle) nodes) in
    let size = ap length joined ∙ length-append before nodes in
    let was = t.next in
    record {
      leaves = t.leaves;
      middle = t.middle ++ put.pages ∷ [];
      level = t.level;
      parts = t.parts;
      whole = t.whole;
      above = λ more a.
          subst (AreAbove inner_kind (map (to_say leaf_kind) t.leaves)) (sym (append_assoc t.middle (put.pages ∷ []) more))
          (t.above (put.pages ∷ more) (
            (let e : 1 < length (told_from first keys) = omega arith in e),
            ap (map said) put.items_are ∙ said-links first keys,
            (put.level, subst (λ (below : List (ℕ × Option RowPtr)). AreAbove inner_kind below more) (sym put.told) a),
          ));
      top = λ more.
          ap (top_of (map (λ page. page.block) t.leaves)) (append_assoc t.middle (put.pages ∷ []) more)
          ∙ t.top (put.pages ∷ more)
          ∙ ap (λ (b : List ℕ). top_of b more) (blocks-told inner_kind put.pages first' keys' put.told);
      blocks =
          ap (map (λ (node : Node). node.block)) joined
          ∙ map-append (λ (node : Node). node.block) before nodes
          ∙ ap (λ (b : List ℕ). b ++ map (λ (node : Node). node.block) nodes) t.blocks
          ∙ ap (λ (b : List ℕ). range_with_len (block_count old) (length before) ++ b) blocks.0
          ∙ ap (λ (n : ℕ). range_with_len (block_count old) (length before) ++ range_with_len n (length keys')) (at ∙ was)
          ∙ sym (range-append (block_count old) (length before) (length keys'))
          ∙ ap (range_with_len (block_count old)) (let e : length before + length keys' ≡ length (leaf_nodes ++ flat_map (nodes_of_level inner_kind) (t.middle ++ put.pages ∷ [])) = omega arith in e);
      next = omega arith;
      bytes =
          put.bytes ∙ ap (λ (b : List ℕ). b ++ bytes_of nodes) t.bytes ∙ append_assoc old (bytes_of before) (bytes_of nodes)
          ∙ ap (λ (b : List ℕ). old ++ b) (sym (flat-append (λ (node : Node). node.bytes) before nodes))
          ∙ ap (λ (n : List Node). old ++ bytes_of n) (sym joined);
    }

pub tree-whole : (old new : List ℕ) (first : ℕ) (keys ptrs : List RowPtr) → TreePut old new first keys ptrs → length keys ≡ 1 → AddsTree old new first ptrs
tree-whole old new first keys ptrs t one =
    let same : t.middle ++ [] ≡ t.middle = append-nil t.middle in
    record {
      tree = record { leaves = t.leaves; above = t.middle };
      is_tree = record {
        levels = record {
          leaves = inl t.level;
          above = subst (AreAbove inner_kind (map (to_say leaf_kind) t.leaves)) same (t.above [] (length-told first keys ∙ one));
        };
        parts = t.parts;
        whole = t.whole;
      };
      root_is = ap (top_of (map (λ page. page.block) t.leaves)) (sym same) ∙ t.top [] ∙ ap (range_with_len first) one;
      blocks = t.blocks;
      bytes = t.bytes;
    }
