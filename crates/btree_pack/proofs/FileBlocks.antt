-- The file of a tower has each node at its block.
use Rattle.std.proofs.Common.{◌≡◌, ℕ, zero, suc, ◌+◌, ◌*◌, ◌<◌, ◌≤◌, Bool, true, false, cond, get_or, List, [], ◌∷◌, ◌++◌, length, map, take, drop, refl, sym, ap, ◌∙◌, subst, arith, length-append, length-drop, append_assoc, append-nil}
use Rattle.std.proofs.lemmas.Bool.{cases_eq}
use Rattle.std.proofs.lemmas.Bool.Decides.{nat_tests}
use Rattle.std.proofs.Common.{⊎_elim}
use Rattle.std.proofs.lemmas.List.{length-map, take-append-drop, take_at, drop_at, nil_from_length, get_or-map, drop-drop}
use Rattle.std.proofs.lemmas.List.FromFn.{get_or-range_with_len, length-range_with_len}
use Rattle.std.proofs.lemmas.List.Sums.{length-filter, sum_by-cons}
use Rattle.std.proofs.lemmas.List.Sorted.{All-permutation, IsPermutation-sym, sum_by-IsPermutation}
use Rattle.std.specs.List.{filter, flat_map, count_by, sum_by, range_with_len}
use Rattle.std.specs.List.Sorted.{IsPermutation}
use Rattle.std.specs.Prelude.{All, nat_eq}
use Rattle.pg_bytes.specs.Blocks.{block_at}
use Rattle.btree_pack.specs.Break.{Item}
use Rattle.btree_pack.specs.Laws.{IsFileOf, IsSmall, IsWritten}
use Rattle.btree_pack.specs.Leaves.{Content}
use Rattle.btree_pack.specs.Nodes.{Node, bytes_at, file_of, meta_page_of, nodes_of}
use Rattle.btree_pack.specs.Pages.{Page}
use Rattle.btree_pack.specs.Tower.{ArriveInTurn, levels}
use Rattle.btree_page.proofs.MetaWrites.{length-meta_page}
use Rattle.btree_pack.proofs.NodeBlocks.{nodes_have_the_blocks}
use Rattle.btree_pack.proofs.NodePages.{nodes_are_pages}

-- ---- a list in pieces of one size

-- the pieces of numbers from one on, behind a front
piece-at : (size : ℕ) (f : ℕ → List ℕ) (from count k : ℕ) (front : List ℕ)
    → ((j : ℕ) → from ≤ j → j < from + count → length (f j) ≡ size)
    → length front ≡ size * from → from ≤ k → k < from + count
    → take size (drop (size * k) (front ++ flat_map f (range_with_len from count))) ≡ f k
piece-at size f from zero k front each ends low high = absurd (omega arith)
piece-at size f from (suc count) k front each ends low high =
    ⊎_elim
    (λ same.
    let here : length front ≡ size * k = ends ∙ ap (λ (n : ℕ). size * n) same in
    ap (take size) (drop_at front (flat_map f (range_with_len from (suc count))) (size * k) here)
    ∙ take_at (f from) (flat_map f (range_with_len (from + 1) count)) size (each from (omega arith) (omega arith))
    ∙ ap f same)
    (λ apart.
    let first = each from (omega arith) (omega arith) in
    let long = length-append front (f from) in
    let next : size * (from + 1) ≡ size * from + size = omega arith in
    ap (λ l. take size (drop (size * k) l)) (sym (append_assoc front (f from) (flat_map f (range_with_len (from + 1) count))))
    ∙ piece-at size f (from + 1) count k (front ++ f from)
    (λ j low high. each j (omega arith) (omega arith)) (omega arith) (omega arith) (omega arith))
    (cases_eq from k)

length-pieces : (size : ℕ) (f : ℕ → List ℕ) (from count : ℕ) → ((j : ℕ) → from ≤ j → j < from + count → length (f j) ≡ size)
    → length (flat_map f (range_with_len from count)) ≡ size * count
length-pieces size f from zero each = omega arith
length-pieces size f from (suc count) each =
    let first = each from (omega arith) (omega arith) in
    let rest = length-pieces size f (from + 1) count (λ j low high. each j (omega arith) (omega arith)) in
    let long = length-append (f from) (flat_map f (range_with_len (from + 1) count)) in
    let more : size * suc count ≡ size + size * count = omega arith in
    omega arith

-- two lists of so many pieces that are alike piece by piece
same-pieces : (size count : ℕ) (xs ys : List ℕ) → length xs ≡ size * count → length ys ≡ size * count
    → ((k : ℕ) → k < count → take size (drop (size * k) xs) ≡ take size (drop (size * k) ys)) → xs ≡ ys
same-pieces size zero xs ys long long' same = nil_from_length xs (omega arith) ∙ sym (nil_from_length ys (omega arith))
same-pieces size (suc count) xs ys long long' same =
    let left = length-drop size xs in
    let left' = length-drop size ys in
    let more : size * suc count ≡ size + size * count = omega arith in
    let first : take size xs ≡ take size ys =
    subst (λ (n : ℕ). take size (drop n xs) ≡ take size (drop n ys)) (let e : size * 0 ≡ 0 = omega arith in e) (same 0 (omega arith)) in
    let rest : drop size xs ≡ drop size ys =
    same-pieces size count (drop size xs) (drop size ys) (omega arith) (omega arith)
    (λ k inside.
    let next : size * suc k ≡ size + size * k = omega arith in
    ap (take size) (drop-drop (size * k) size xs ∙ ap (λ (n : ℕ). drop n xs) (sym next))
    ∙ same (suc k) (omega arith)
    ∙ ap (take size) (ap (λ (n : ℕ). drop n ys) next ∙ sym (drop-drop (size * k) size ys))) in
    sym (take-append-drop size xs) ∙ ap (λ l. l ++ drop size xs) first ∙ ap (λ l. take size ys ++ l) rest ∙ take-append-drop size ys

-- ---- how often a number stands among others

count_of : ℕ → List ℕ → ℕ
count_of k xs = sum_by (λ x. cond (nat_eq x k) 1 0) xs

count-below : (k from count : ℕ) → k < from → count_of k (range_with_len from count) ≡ 0
unfolding count_of
count-below k from zero below = refl
count-below k from (suc count) below =
    let rest = count-below k (from + 1) count (omega arith) in
    let test : nat_eq from k ≡ false = grind (arith, nat_tests) in
    sum_by-cons (λ x. cond (nat_eq x k) 1 0) from (range_with_len (from + 1) count)
    ∙ ap (λ t. cond t 1 0 + sum_by (λ x. cond (nat_eq x k) 1 0) (range_with_len (from + 1) count)) test
    ∙ (let e : 0 + sum_by (λ x. cond (nat_eq x k) 1 0) (range_with_len (from + 1) count) ≡ 0 = omega arith in e)

count-range : (k from count : ℕ) → from ≤ k → k < from + count → count_of k (range_with_len from count) ≡ 1
unfolding count_of
count-range k from zero low high = absurd (omega arith)
count-range k from (suc count) low high =
    ⊎_elim
    (λ same.
    let rest = count-below k (from + 1) count (omega arith) in
    let test : nat_eq from k ≡ true = grind (arith, nat_tests) in
    sum_by-cons (λ x. cond (nat_eq x k) 1 0) from (range_with_len (from + 1) count)
    ∙ ap (λ t. cond t 1 0 + sum_by (λ x. cond (nat_eq x k) 1 0) (range_with_len (from + 1) count)) test
    ∙ (let e : 1 + sum_by (λ x. cond (nat_eq x k) 1 0) (range_with_len (from + 1) count) ≡ 1 = omega arith in e))
    (λ apart.
    let rest = count-range k (from + 1) count (omega arith) (omega arith) in
    let test : nat_eq from k ≡ false = grind (arith, nat_tests) in
    sum_by-cons (λ x. cond (nat_eq x k) 1 0) from (range_with_len (from + 1) count)
    ∙ ap (λ t. cond t 1 0 + sum_by (λ x. cond (nat_eq x k) 1 0) (range_with_len (from + 1) count)) test
    ∙ (let e : 0 + sum_by (λ x. cond (nat_eq x k) 1 0) (range_with_len (from + 1) count) ≡ 1 = omega arith in e))
    (cases_eq from k)

count-map : (k : ℕ) (nodes : List Node) → count_by (λ node. nat_eq node.block k) nodes ≡ count_of k (map (λ node. node.block) nodes)
unfolding count_of
count-map k [] = refl
count-map k (node ∷ nodes) =
    sum_by-cons (λ (node : Node). cond (nat_eq node.block k) 1 0) node nodes
    ∙ ap (λ (n : ℕ). cond (nat_eq node.block k) 1 0 + n) (count-map k nodes)
    ∙ sym (sum_by-cons (λ x. cond (nat_eq x k) 1 0) node.block (map (λ node. node.block) nodes))

-- ---- the one node of a block

one-node : (nodes : List Node) → length nodes ≡ 1 → (node : Node) × (nodes ≡ node ∷ [])
one-node [] one = absurd (omega arith)
one-node (node ∷ []) one = (node, refl)
one-node (node ∷ next ∷ nodes) one = absurd (omega arith)

-- what the nodes that pass a test are made of
filter-All : (P : Node → Type 0) (p : Node → Bool) (nodes : List Node) → All P nodes → (node : Node) → filter p nodes ≡ node ∷ [] → P node
filter-All P p [] all node is = cc
filter-All P p (first ∷ nodes) all node is = go (p first) refl (filter-All P p nodes (λ k d inside. all (suc k) d (omega arith)) node)
  where
    go : (t : Bool) → p first ≡ t → (filter p nodes ≡ node ∷ [] → P node) → P node
    go true here later =
        let both : first ∷ filter p nodes ≡ node ∷ [] = ap (λ t. cond t (first ∷ filter p nodes) (filter p nodes)) (sym here) ∙ is in
        let same : first ≡ node = cc in
        subst P same (all 0 first (omega arith))
    go false here later = later (ap (λ t. cond t (first ∷ filter p nodes) (filter p nodes)) (sym here) ∙ is)

filter-passes : (p : Node → Bool) (nodes : List Node) (node : Node) → filter p nodes ≡ node ∷ [] → p node ≡ true
filter-passes p [] node is = cc
filter-passes p (first ∷ nodes) node is = go (p first) refl (filter-passes p nodes node)
  where
    go : (t : Bool) → p first ≡ t → (filter p nodes ≡ node ∷ [] → p node ≡ true) → p node ≡ true
    go true here later =
        let both : first ∷ filter p nodes ≡ node ∷ [] = ap (λ t. cond t (first ∷ filter p nodes) (filter p nodes)) (sym here) ∙ is in
        let same : first ≡ node = cc in
        ap p (sym same) ∙ here
    go false here later = later (ap (λ t. cond t (first ∷ filter p nodes) (filter p nodes)) (sym here) ∙ is)

-- a node that passes is among them
filter-none : (p : Node → Bool) (nodes : List Node) (k : ℕ) (d : Node) → k < length nodes → p (get_or nodes k d) ≡ true → filter p nodes ≡ [] → ⊥
filter-none p [] k d inside passes empty = absurd (omega arith)
filter-none p (first ∷ nodes) zero d inside passes empty =
    let both : first ∷ filter p nodes ≡ [] = ap (λ t. cond t (first ∷ filter p nodes) (filter p nodes)) (sym passes) ∙ empty in cc
filter-none p (first ∷ nodes) (suc k) d inside passes empty = go (p first) refl (filter-none p nodes k d (omega arith) passes)
  where
    go : (t : Bool) → p first ≡ t → (filter p nodes ≡ [] → ⊥) → ⊥
    go true here later =
        let both : first ∷ filter p nodes ≡ [] = ap (λ t. cond t (first ∷ filter p nodes) (filter p nodes)) (sym here) ∙ empty in cc
    go false here later = later (ap (λ t. cond t (first ∷ filter p nodes) (filter p nodes)) (sym here) ∙ empty)

filter-has : (p : Node → Bool) (nodes : List Node) (k : ℕ) (d : Node) → k < length nodes → p (get_or nodes k d) ≡ true
    → (node : Node) → filter p nodes ≡ node ∷ [] → node ≡ get_or nodes k d
filter-has p [] k d inside passes node is = absurd (omega arith)
filter-has p (first ∷ nodes) zero d inside passes node is =
    let both : first ∷ filter p nodes ≡ node ∷ [] = ap (λ t. cond t (first ∷ filter p nodes) (filter p nodes)) (sym passes) ∙ is in cc
filter-has p (first ∷ nodes) (suc k) d inside passes node is =
    go (p first) refl (filter-has p nodes k d (omega arith) passes node)
  where
    go : (t : Bool) → p first ≡ t → (filter p nodes ≡ node ∷ [] → node ≡ get_or nodes k d) → node ≡ get_or nodes k d
    go true here later =
        let both : first ∷ filter p nodes ≡ node ∷ [] = ap (λ t. cond t (first ∷ filter p nodes) (filter p nodes)) (sym here) ∙ is in
        let empty : filter p nodes ≡ [] = cc in
        absurd (filter-none p nodes k d (omega arith) passes empty)
    go false here later = later (ap (λ t. cond t (first ∷ filter p nodes) (filter p nodes)) (sym here) ∙ is)

-- ---- nodes at the blocks 1, 2, 3 and so on

on_block : ℕ → Node → Bool
on_block k node = nat_eq node.block k

module _ (nodes : List Node) (same : IsPermutation (map (λ node. node.block) nodes) (range_with_len 1 (length nodes))) where
  -- the node of a block
  node-of : (k : ℕ) → 1 ≤ k → k < 1 + length nodes → (node : Node) × (filter (on_block k) nodes ≡ node ∷ [])
  unfolding on_block count_of
  node-of k low high =
      let count : length (filter (on_block k) nodes) ≡ 1 =
      length-filter (on_block k) nodes
      ∙ count-map k nodes
      ∙ sym (sum_by-IsPermutation (λ x. cond (nat_eq x k) 1 0) (map (λ node. node.block) nodes) (range_with_len 1 (length nodes)) same)
      ∙ count-range k 1 (length nodes) low high in
      one-node (filter (on_block k) nodes) count

  bytes-of : (k : ℕ) (node : Node) → filter (on_block k) nodes ≡ node ∷ [] → bytes_at nodes k ≡ node.bytes
  unfolding on_block
  bytes-of k node is = ap (flat_map (λ node. node.bytes)) is ∙ append-nil node.bytes

  -- a node's block is one of them
  block-inside : (k : ℕ) (d : Node) → k < length nodes → (1 ≤ (get_or nodes k d).block) × ((get_or nodes k d).block < 1 + length nodes)
  block-inside k d inside =
      let count = length-map nodes (λ (node : Node). node.block) in
      let all : All (λ b. (1 ≤ b) × (b < 1 + length nodes)) (range_with_len 1 (length nodes)) =
      λ k e inside.
      let long = length-range_with_len 1 (length nodes) in
      let at = get_or-range_with_len 1 (length nodes) k e (omega arith) in
      (omega arith, omega arith) in
      let all' = All-permutation (λ b. (1 ≤ b) × (b < 1 + length nodes)) (range_with_len 1 (length nodes)) (map (λ node. node.block) nodes)
      (IsPermutation-sym (map (λ node. node.block) nodes) (range_with_len 1 (length nodes)) same) all k 0 (omega arith) in
      subst (λ (b : ℕ). (1 ≤ b) × (b < 1 + length nodes)) (get_or-map (λ node. node.block) nodes k d 0 inside) all'

  module _ (meta : List ℕ) (size : ℕ) (whole : length meta ≡ size) (pages : All (λ node. length node.bytes ≡ size) nodes) where
    all_of : List ℕ
    all_of = meta ++ flat_map (bytes_at nodes) (range_with_len 1 (length nodes))

    each-whole : (j : ℕ) → 1 ≤ j → j < 1 + length nodes → length (bytes_at nodes j) ≡ size
    each-whole j low high =
        let found = node-of j low high in
        ap length (bytes-of j found.0 found.1) ∙ filter-All (λ node. length node.bytes ≡ size) (on_block j) nodes pages found.0 found.1

    length-all_of : length all_of ≡ size * (1 + length nodes)
    unfolding all_of
    length-all_of =
        let rest = length-pieces size (bytes_at nodes) 1 (length nodes) each-whole in
        let long = length-append meta (flat_map (bytes_at nodes) (range_with_len 1 (length nodes))) in
        let more : size * (1 + length nodes) ≡ size + size * length nodes = omega arith in
        omega arith

    piece-of : (k : ℕ) → 1 ≤ k → k < 1 + length nodes → take size (drop (size * k) all_of) ≡ bytes_at nodes k
    unfolding all_of
    piece-of k low high =
        piece-at size (bytes_at nodes) 1 (length nodes) k meta each-whole (whole ∙ (let e : size ≡ size * 1 = omega arith in e)) low high

    meta-of : take size (drop (size * 0) all_of) ≡ meta
    unfolding all_of
    meta-of =
        ap (λ (n : ℕ). take size (drop n all_of)) (let e : size * 0 ≡ 0 = omega arith in e)
        ∙ take_at meta (flat_map (bytes_at nodes) (range_with_len 1 (length nodes))) size whole

    nodes-of : All (λ node. take size (drop (size * node.block) all_of) ≡ node.bytes) nodes
    unfolding on_block
    nodes-of k d inside =
        let node = get_or nodes k d in
        let within = block-inside k d inside in
        let found = node-of node.block within.0 within.1 in
        let itself : nat_eq node.block node.block ≡ true = grind (arith, nat_tests) in
        piece-of node.block within.0 within.1
        ∙ bytes-of node.block found.0 found.1
        ∙ ap (λ (node : Node). node.bytes) (filter-has (on_block node.block) nodes k d inside itself found.0 found.1)

    -- a list that has them is the same
    determined : (file : List ℕ) → length file ≡ size * (1 + length nodes) → take size (drop (size * 0) file) ≡ meta
        → All (λ node. take size (drop (size * node.block) file) ≡ node.bytes) nodes → file ≡ all_of
    unfolding on_block
    determined file long first each =
        same-pieces size (1 + length nodes) file all_of long length-all_of at
      where
        at : (k : ℕ) → k < 1 + length nodes → take size (drop (size * k) file) ≡ take size (drop (size * k) all_of)
        at zero inside = first ∙ sym meta-of
        at (suc k) inside =
            let found = node-of (suc k) (omega arith) inside in
            let node = found.0 in
            let passes : nat_eq node.block (suc k) ≡ true = filter-passes (on_block (suc k)) nodes node found.1 in
            let here : node.block ≡ suc k = grind (arith, nat_tests) in
            subst (λ (n : ℕ). take size (drop (size * n) file) ≡ node.bytes) here
            (filter-All (λ node. take size (drop (size * node.block) file) ≡ node.bytes) (on_block (suc k)) nodes each node found.1)
            ∙ sym (piece-of (suc k) (omega arith) inside ∙ bytes-of (suc k) node found.1)

-- ---- the file

length-meta_page_of : (equal : Bool) (tree : List (List (Page Content))) → length (meta_page_of equal tree) ≡ 8192
unfolding meta_page_of
length-meta_page_of equal tree = length-meta_page _ _ equal

pub file_has_the_nodes : (equal : Bool) (fillfactor : ℕ) (items : List (Item Content)) → All IsSmall items → All IsWritten items → ArriveInTurn items
    → IsFileOf equal (levels fillfactor items) (file_of equal (levels fillfactor items))
unfolding file_of block_at all_of
file_has_the_nodes equal fillfactor items small written turn =
    let tree = levels fillfactor items in
    let nodes = nodes_of tree in
    let same = nodes_have_the_blocks fillfactor items turn in
    let whole = length-meta_page_of equal tree in
    let pages = nodes_are_pages fillfactor items small written in
    record {
      blocks = length-all_of nodes same (meta_page_of equal tree) 8192 whole pages;
      meta = meta-of nodes same (meta_page_of equal tree) 8192 whole pages;
      nodes = nodes-of nodes same (meta_page_of equal tree) 8192 whole pages;
    }

pub file_is_determined : (equal : Bool) (fillfactor : ℕ) (items : List (Item Content)) (file : List ℕ)
    → All IsSmall items → All IsWritten items → ArriveInTurn items
    → IsFileOf equal (levels fillfactor items) file → file ≡ file_of equal (levels fillfactor items)
unfolding file_of block_at all_of
file_is_determined equal fillfactor items file small written turn is =
    let tree = levels fillfactor items in
    determined (nodes_of tree) (nodes_have_the_blocks fillfactor items turn) (meta_page_of equal tree) 8192
    (length-meta_page_of equal tree) (nodes_are_pages fillfactor items small written) file is.blocks is.meta is.nodes
