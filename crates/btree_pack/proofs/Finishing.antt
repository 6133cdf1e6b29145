-- What the packer keeps of leaf items, finished, is the file of their levels.
use Rattle.std.proofs.Common.{◌≡◌, ℕ, zero, suc, ◌+◌, ◌*◌, ◌<◌, ◌≤◌, Bool, List, [], ◌∷◌, ◌++◌, length, map, get_or, refl, sym, ap, ◌∙◌, subst, arith, append-nil, append_assoc}
use Rattle.std.proofs.lemmas.List.{length-map, map_push}
use Rattle.std.proofs.lemmas.List.Elements.{All-append, All-cons, All-map}
use Rattle.std.proofs.lemmas.List.FromFn.{get_or-range_with_len}
use Rattle.std.proofs.lemmas.List.Sorted.{All-permutation, IsPermutation-append_left, IsPermutation-map, IsPermutation-refl, IsPermutation-sym, IsPermutation-to_front, IsPermutation-trans, IsPermutation-cons}
use Rattle.std.specs.List.{range_with_len}
use Rattle.std.specs.List.Sorted.{IsPermutation}
use Rattle.std.specs.Prelude.{All, Option, Some, None}
use Rattle.pg_bytes.specs.Blocks.{block_at}
use Rattle.pg_bytes.specs.Image.{placed}
use Rattle.btree_pack.specs.Births.{Birth, births_of}
use Rattle.btree_pack.specs.Break.{Item}
use Rattle.btree_pack.specs.Laws.{IsFileOf, IsSmall, IsWritten}
use Rattle.btree_pack.specs.Leaves.{Content}
use Rattle.btree_pack.specs.Nodes.{Node, Root, file_of, meta_page_of, nodes_from, nodes_of, root_from}
use Rattle.btree_page.specs.Meta.{meta_page}
use Rattle.btree_pack.specs.Tower.{ArriveInTurn, levels}
use Rattle.btree_pack.specs.Pass.Emission.{made_by, made_closing, made_from, with_nodes}
use Rattle.btree_pack.specs.Pass.Finish.{ArePackable, BeginsAtMinusInfinity, last_separator}
use Rattle.btree_pack.specs.Pass.History.{born_by, born_closing, history, history_from}
use Rattle.btree_pack.specs.Pass.Open.{Open, close, finished_by, step, tower}
use Rattle.btree_pack.specs.Pass.Packed.{arrived, nothing, packed, packed_behind}
use Rattle.btree_pack.specs.Pass.Packing.{Packing}
use Rattle.btree_pack.specs.Pass.Sight.{IsFinished}
use Rattle.btree_pack.proofs.Arrivals.{TopIsAlone, alone-step, arrived-on, packing_with, told-step, IsBehind}
use Rattle.btree_pack.proofs.Carrying.{AllTold, Follow, Told, ToldAll}
use Rattle.btree_pack.proofs.Closings.{Ends, closed-on, follow-parts, nodes-closing, nodes-step, nodes_in, with_nodes-append}
use Rattle.btree_pack.proofs.FileBlocks.{file_is_determined}
use Rattle.btree_page.proofs.MetaWrites.{length-meta_page}
use Rattle.btree_pack.proofs.NodeBlocks.{nodes_have_the_blocks}
use Rattle.btree_pack.proofs.NodePages.{nodes_are_pages}
use Rattle.btree_pack.proofs.Numbers.{numbered_in_turn}
use Rattle.btree_pack.proofs.Placing.{ArePages, all-placed, distinct-numbered, most-placed}
use Rattle.btree_pack.proofs.Towers.{close_tower, step-breaks, step-joins, tower_step}
use Rattle.std.specs.Prelude.{Option}
use Rattle.btree_pack.specs.Pages.{Page}

module _ (births : List Birth) (fillfactor : ℕ) where
  -- a tower after some items
  abbrev pub steps : List (Open Content) → List (Item Content) → List (Open Content)
  steps opens [] = opens
  steps opens (x ∷ items) = steps (step fillfactor 0 opens x) items

  pub steps-tower : (done rest : List (Item Content)) → steps (tower fillfactor done) rest ≡ tower fillfactor (done ++ rest)
  steps-tower done [] = ap (tower fillfactor) (sym (append-nil done))
  steps-tower done (x ∷ rest) =
      ap (λ opens. steps opens rest) (sym (tower_step fillfactor done x))
      ∙ steps-tower (done ++ x ∷ []) rest
      ∙ ap (tower fillfactor) (append_assoc done (x ∷ []) rest)

  behind-step : (opens : List (Open Content)) (x y : Item Content) → IsBehind births fillfactor x.content.separator (step fillfactor 0 opens x) y
  behind-step [] x y = refl
  behind-step (o ∷ above) x y = go (finished_by fillfactor 0 o x) refl
    where
      go : (f : Option (Page Content)) → finished_by fillfactor 0 o x ≡ f → IsBehind births fillfactor x.content.separator (step fillfactor 0 (o ∷ above) x) y
      go None is = subst (λ l. IsBehind births fillfactor x.content.separator l y) (sym (step-joins fillfactor 0 o above x is)) refl
      go (Some page) is = subst (λ l. IsBehind births fillfactor x.content.separator l y) (sym (step-breaks fillfactor 0 o above x page is)) refl

  -- how a file comes from what was kept and the items behind it
  pub record IsMade (equal : Bool) (bound moment : ℕ) (opens : List (Open Content)) (items : List (Item Content)) (image file : List ℕ) : Type 0 where
    pub ends : Ends births fillfactor bound 0 moment (steps opens items)
    pub alone : TopIsAlone births fillfactor (steps opens items)
    pub file_is :
        file ≡ placed 0 (meta_page (root_from births 0 (close bound fillfactor 0 moment (steps opens items))).block
        (root_from births 0 (close bound fillfactor 0 moment (steps opens items))).level equal)
        (with_nodes (made_from births bound fillfactor moment opens items) image)

  abbrev pub FirstBehind : List ℕ → List (Open Content) → List (Item Content) → Type 0
  FirstBehind separator opens [] = Unit {0}
  FirstBehind separator opens (x ∷ items) = IsBehind births fillfactor separator opens x

  next-behind : (opens : List (Open Content)) (x : Item Content) (items : List (Item Content)) → FirstBehind x.content.separator (step fillfactor 0 opens x) items
  next-behind opens x [] = tt
  next-behind opens x (y ∷ items) = behind-step opens x y

  pub is_made : (equal : Bool) (bound moment : ℕ) (items : List (Item Content)) (separator : List ℕ) (opens : List (Open Content)) (tuples blocks : ℕ) (image file : List ℕ)
      → AllTold births 0 opens → TopIsAlone births fillfactor opens → ToldAll births 0 items → FirstBehind separator opens items
      → Follow births fillfactor blocks (history_from bound fillfactor moment opens items) → tuples + length items ≡ bound → 1 ≤ length opens + length items
      → IsFinished fillfactor equal (packed_behind fillfactor separator (packing_with births fillfactor opens tuples blocks image) items) file
      → IsMade equal bound moment opens items image file
  is_made equal bound moment [] separator [] tuples blocks image file told alone items_told behind follow count some finished = absurd (omega arith)
  is_made equal bound moment [] separator (o ∷ above) tuples blocks image file told alone items_told behind follow count some finished =
      let root = finished.0 in
      let made = finished.1.0 in
      let is = closed-on births fillfactor tuples 0 moment (o ∷ above) blocks image (record { image = made; root = root }) told alone
      (subst (λ (n : ℕ). Follow births fillfactor blocks (born_closing n fillfactor 0 moment (o ∷ above))) (let e : bound ≡ tuples = omega arith in e) follow)
      finished.1.1.0 in
      let same : tuples ≡ bound = omega arith in
      subst (λ (n : ℕ). IsMade equal n moment (o ∷ above) [] image file) same
      (record {
        ends = is.ends;
        alone = alone;
        file_is =
            finished.1.1.1
            ∙ ap (λ (r : Root). placed 0 (meta_page r.block r.level equal) made) is.root
            ∙ ap (λ i. placed 0 (meta_page (root_from births 0 (close tuples fillfactor 0 moment (o ∷ above))).block (root_from births 0 (close tuples fillfactor 0 moment (o ∷ above))).level equal) i) is.image_is;
      })
  is_made equal bound moment (x ∷ items) separator opens tuples blocks image file told alone items_told behind follow count some finished =
      let next = step fillfactor 0 opens x in
      let new : List Birth = born_by fillfactor 0 opens x in
      let nodes = made_by births fillfactor 0 opens x in
      let parts = follow-parts births fillfactor blocks new (history_from bound fillfactor moment next items) follow in
      let came = arrived-on births fillfactor separator opens x tuples blocks image told behind parts.0 in
      let stays = alone-step births fillfactor 0 opens x alone in
      let rest = is_made equal bound moment items x.content.separator next (suc tuples) (blocks + length new) (with_nodes nodes image) file
      (told-step births fillfactor 0 opens x told items_told.0) stays.0 items_told.1 (next-behind opens x items) parts.1 (omega arith)
      (let e = stays.1 in omega arith)
      (subst (λ p. IsFinished fillfactor equal (packed_behind fillfactor x.content.separator p items) file) came finished) in
      record {
        ends = rest.ends;
        alone = rest.alone;
        file_is = rest.file_is
            ∙ ap (placed 0 (meta_page (root_from births 0 (close bound fillfactor 0 moment (steps next items))).block (root_from births 0 (close bound fillfactor 0 moment (steps next items))).level equal))
            (sym (with_nodes-append births fillfactor nodes (made_from births bound fillfactor moment next items) image));
      }

  -- the nodes of the levels in the order in which they are made
  pub nodes-run : (bound moment : ℕ) (items : List (Item Content)) (opens : List (Open Content))
      → IsPermutation (nodes_in births fillfactor 0 (steps opens items) ++ made_closing births bound fillfactor 0 moment (steps opens items))
      (nodes_in births fillfactor 0 opens ++ made_from births bound fillfactor moment opens items)
  nodes-run bound moment [] opens = IsPermutation-refl _
  nodes-run bound moment (x ∷ items) opens =
      let next = step fillfactor 0 opens x in
      let made = made_by births fillfactor 0 opens x in
      let behind = made_from births bound fillfactor moment next items in
      let there = nodes_in births fillfactor 0 opens in
      IsPermutation-trans _ (nodes_in births fillfactor 0 next ++ behind) _ (nodes-run bound moment items next)
      (subst (IsPermutation (nodes_in births fillfactor 0 next ++ behind)) (append_assoc there made behind)
      (IsPermutation-append_left behind (nodes_in births fillfactor 0 next) (there ++ made) (nodes-step births fillfactor 0 opens x)))

-- ---- the whole file

told-written : (births : List Birth) (x : Item Content) → IsWritten x → Told births 0 x
told-written births x is = record { separator = is.separator; some = is.some; size = is.tuple }

told-items : (births : List Birth) (items : List (Item Content)) → All IsWritten items → ToldAll births 0 items
told-items births [] are = tt
told-items births (x ∷ items) are =
    (told-written births x (are 0 x (omega arith)), told-items births items (λ k d inside. are (suc k) d (omega arith)))

-- nodes placed, and then the meta page
file-of-nodes : (equal : Bool) (tree : List (List (Page Content))) (nodes : List Node) (file : List ℕ)
    → IsPermutation nodes (nodes_of tree) → IsPermutation (map (λ node. node.block) (nodes_of tree)) (range_with_len 1 (length (nodes_of tree)))
    → ArePages (nodes_of tree) → length (meta_page_of equal tree) ≡ 8192
    → file ≡ placed 0 (meta_page_of equal tree) (with_nodes nodes []) → IsFileOf equal tree file
file-of-nodes equal tree nodes file same numbered pages size is =
    let count : ℕ = length (nodes_of tree) in
    let meta : Node = record { block = 0; bytes = meta_page_of equal tree } in
    let all : List Node = nodes ++ meta ∷ [] in
    let back = IsPermutation-sym nodes (nodes_of tree) same in
    let their_pages = All-permutation (λ (n : Node). length n.bytes ≡ 8192) (nodes_of tree) nodes back pages in
    let all_pages = All-append (λ (n : Node). length n.bytes ≡ 8192) nodes (meta ∷ []) their_pages
    (All-cons (λ (n : Node). length n.bytes ≡ 8192) meta [] size (λ k d inside. absurd (omega arith))) in
    let blocks = IsPermutation-trans (map (λ node. node.block) nodes) (map (λ node. node.block) (nodes_of tree)) (range_with_len 1 count)
    (IsPermutation-map (λ (n : Node). n.block) nodes (nodes_of tree) same) numbered in
    let with_meta : IsPermutation (map (λ node. node.block) all) (range_with_len 0 (suc count)) =
    subst (λ l. IsPermutation l (range_with_len 0 (suc count))) (sym (map_push (λ (n : Node). n.block) nodes meta))
    (IsPermutation-trans (map (λ node. node.block) nodes ++ 0 ∷ []) (0 ∷ map (λ node. node.block) nodes) (range_with_len 0 (suc count))
    (IsPermutation-to_front (map (λ node. node.block) nodes) 0)
    (IsPermutation-cons 0 (map (λ node. node.block) nodes) (range_with_len 1 count) blocks)) in
    let file_is : file ≡ with_nodes all [] = is ∙ sym (with_nodes-append [] 0 nodes (meta ∷ []) []) in
    let placed' = all-placed all [] all_pages (distinct-numbered all 0 (suc count) with_meta) in
    let most = most-placed all [] (8192 * (1 + count)) all_pages
    (λ k d inside.
    let small = All-permutation (λ (b : ℕ). b ≤ count) (range_with_len 0 (suc count)) (map (λ node. node.block) all)
    (IsPermutation-sym (map (λ node. node.block) all) (range_with_len 0 (suc count)) with_meta)
    (λ i e within. let at = get_or-range_with_len 0 (suc count) i e (let l = length-range 0 (suc count) in omega arith) in let l = length-range 0 (suc count) in omega arith) in
    let here = small k d.block (let l = length-map all (λ (n : Node). n.block) in omega arith) in
    let got = get-map all k d inside in
    omega arith)
    (omega arith) in
    let lasts = All-permutation (λ (b : ℕ). (b + 1) * 8192 ≤ length file) (map (λ node. node.block) all) (range_with_len 0 (suc count)) with_meta
    (All-map (λ (b : ℕ). (b + 1) * 8192 ≤ length file) (λ (n : Node). n.block) all
    (λ k d inside. subst (λ l. ((get_or all k d).block + 1) * 8192 ≤ length l) (sym file_is) (placed' k d inside).1)) in
    let top = lasts count 0 (let l = length-range 0 (suc count) in omega arith) in
    let at = get_or-range_with_len 0 (suc count) count 0 (omega arith) in
    let small' = ap length file_is in
    let holds : All (λ (n : Node). block_at n.block file ≡ n.bytes) all = λ k d inside.
    subst (λ l. block_at (get_or all k d).block l ≡ (get_or all k d).bytes) (sym file_is) (placed' k d inside).0 in
    let order = IsPermutation-trans all (meta ∷ nodes) (meta ∷ nodes_of tree) (IsPermutation-to_front nodes meta) (IsPermutation-cons meta nodes (nodes_of tree) same) in
    let moved = All-permutation (λ (n : Node). block_at n.block file ≡ n.bytes) all (meta ∷ nodes_of tree) order holds in
    record {
      blocks = omega arith;
      meta = moved 0 meta (omega arith);
      nodes = λ k d inside. moved (suc k) d (omega arith);
    }
  where
    length-range : (a n : ℕ) → length (range_with_len a n) ≡ n
    length-range a zero = refl
    length-range a (suc n) = ap suc (length-range (a + 1) n)

    get-map : (nodes : List Node) (k : ℕ) (d : Node) → k < length nodes → get_or (map (λ node. node.block) nodes) k d.block ≡ (get_or nodes k d).block
    get-map [] k d inside = refl
    get-map (n ∷ nodes) zero d inside = refl
    get-map (n ∷ nodes) (suc k) d inside = get-map nodes k d (omega arith)

-- no items at all
none-file : (equal : Bool) (fillfactor : ℕ) (file : List ℕ) → IsFinished fillfactor equal (packed fillfactor []) file
    → IsFileOf equal (levels fillfactor []) file
unfolding packed levels nodes_of meta_page_of
none-file equal fillfactor file finished =
    file-of-nodes equal [] [] file (IsPermutation-refl []) (IsPermutation-refl []) (λ k d inside. absurd (omega arith)) (length-meta_page 0 0 equal)
    (finished.1.1.1
    ∙ ap (λ (r : Root). placed 0 (meta_page r.block r.level equal) finished.1.0) finished.1.1.0.0
    ∙ ap (placed 0 (meta_page 0 0 equal)) finished.1.1.0.1)

some-file : (equal : Bool) (fillfactor : ℕ) (items : List (Item Content)) (file : List ℕ) → 1 ≤ length items
    → All IsSmall items → All IsWritten items → ArriveInTurn items → FirstBehind (births_of (levels fillfactor items)) fillfactor [] [] items
    → IsFinished fillfactor equal (packed fillfactor items) file → IsFileOf equal (levels fillfactor items) file
unfolding packed history tower nodes_of meta_page_of
some-file equal fillfactor items file some small written turn begins finished =
    let tree = levels fillfactor items in
    let births = births_of tree in
    let n : ℕ = length items in
    let m = is_made births fillfactor equal n (n + 1) items [] [] 0 0 [] file tt tt (told-items births items written) begins
    (numbered_in_turn fillfactor items turn) (omega arith) (omega arith) finished in
    let opens = steps births fillfactor [] items in
    let levels_are : close n fillfactor 0 (n + 1) opens ≡ tree =
    ap (close n fillfactor 0 (n + 1)) (steps-tower births fillfactor [] items) ∙ close_tower fillfactor items in
    let made = made_from births n fillfactor (n + 1) [] items in
    let order : IsPermutation (nodes_from births 0 (close n fillfactor 0 (n + 1) opens)) made =
    IsPermutation-trans _ _ _ (nodes-closing births fillfactor n 0 (n + 1) opens m.alone m.ends) (nodes-run births fillfactor n (n + 1) items []) in
    let same : IsPermutation made (nodes_of tree) =
    IsPermutation-sym (nodes_of tree) made (subst (λ l. IsPermutation (nodes_from births 0 l) made) levels_are order) in
    file-of-nodes equal tree made file same (nodes_have_the_blocks fillfactor items turn) (nodes_are_pages fillfactor items small written)
    (length-meta_page (root_from births 0 tree).block (root_from births 0 tree).level equal)
    (m.file_is ∙ ap (λ l. placed 0 (meta_page (root_from births 0 l).block (root_from births 0 l).level equal) (with_nodes made [])) levels_are)

first-behind : (births : List Birth) (fillfactor : ℕ) (items : List (Item Content)) → BeginsAtMinusInfinity items → FirstBehind births fillfactor [] [] items
first-behind births fillfactor [] begins = tt
first-behind births fillfactor (x ∷ items) begins = begins

pub finished_packing_is_the_file : (equal : Bool) (fillfactor : ℕ) (items : List (Item Content)) (file : List ℕ)
    → ArePackable items → IsFinished fillfactor equal (packed fillfactor items) file
    → file ≡ file_of equal (levels fillfactor items)
finished_packing_is_the_file equal fillfactor [] file are finished =
    file_is_determined equal fillfactor [] file are.small are.written are.turn (none-file equal fillfactor file finished)
finished_packing_is_the_file equal fillfactor (x ∷ items) file are finished =
    file_is_determined equal fillfactor (x ∷ items) file are.small are.written are.turn
    (some-file equal fillfactor (x ∷ items) file (omega arith) are.small are.written are.turn
    (first-behind (births_of (levels fillfactor (x ∷ items))) fillfactor (x ∷ items) are.begin) finished)

packed_behind-push : (fillfactor : ℕ) (separator : List ℕ) (packing : Packing) (items : List (Item Content)) (x : Item Content)
    → packed_behind fillfactor separator packing (items ++ x ∷ []) ≡ arrived fillfactor (last_separator separator items) (packed_behind fillfactor separator packing items) x
packed_behind-push fillfactor separator packing [] x = refl
packed_behind-push fillfactor separator packing (y ∷ items) x = packed_behind-push fillfactor y.content.separator (arrived fillfactor separator packing y) items x

pub packing_grows : (fillfactor : ℕ) (items : List (Item Content)) (x : Item Content)
    → packed fillfactor (items ++ x ∷ []) ≡ arrived fillfactor (last_separator [] items) (packed fillfactor items) x
unfolding packed
packing_grows fillfactor items x = packed_behind-push fillfactor [] nothing items x
