-- The pages of a posting tree.
use Rattle.std.proofs.Common.{◌≡◌, ℕ, suc, ◌+◌, ◌-◌, ◌*◌, ◌%◌, ◌≤◌, List, [], ◌∷◌, ◌++◌, length, refl, sym, ap, subst, ◌∙◌, add-one, arith, length-append, inl, inr}
use Rattle.std.specs.Prelude.{Option, map}
use Rattle.std.specs.List.{AllByRecursion, flat_map, range_with_len, sum_by}
use Rattle.std.proofs.lemmas.List.Concat.{flat_map-cons, length-flat_map}
use Rattle.std.proofs.lemmas.List.Sums.{sum_by-cons}
use Rattle.std.proofs.lemmas.List.{append-nil}
use Rattle.pg_bytes.proofs.ItemPage.{length-page_header}
use Rattle.pg_bytes.proofs.Writes.{length-number_bytes, length-zeros}
use Rattle.pg_bytes.specs.Blocks.{block_count}
use Rattle.pg_bytes.specs.PageLayout.{page_header, page_size}
use Rattle.pg_bytes.specs.Places.{zeros}
use Rattle.pg_bytes.specs.Pointers.{row_pointer_bytes}
use Rattle.pg_bytes.specs.declared.row_ptr.RowPtr.{RowPtr}
use Rattle.btree_item.proofs.Sizes.{length-row_pointer}
use Rattle.posting_tree.specs.Levels.{AreAbove, AreLevel, Downlink, IsTree, Kind, Node, Page, Tree, fill, nodes_linked, nodes_of, nodes_of_level, no_link, to_say}
use Rattle.posting_tree.specs.PostingTree.{data_page, inner_kind, leaf_kind, posting_item}
use Rattle.posting_tree.specs.Reading.{StandIn}
use Rattle.posting_tree.specs.Segments.{segment}
use Rattle.posting_tree.specs.Special.{special_space}
use Rattle.gin_pack.specs.Pass.Storing.{IsWithin}
use Rattle.gin_pack.proofs.Blocks.{AreSized, FollowFrom, all-append, bytes_of, each-node, length-bytes_of, stand-behind}
use Rattle.gin_file.proofs.SpecialSpaces.{length-special_space}

-- ---- the pages of a posting tree

length-data_page : (flags maxoff right : ℕ) (bound : RowPtr) (content : List ℕ) → length content ≤ 8152 → length (data_page flags maxoff right bound content) ≡ 8192
unfolding data_page
length-data_page flags maxoff right bound content fits =
    let header : List ℕ = page_header (32 + length content) 8184 8184 in
    let hole : List ℕ = zeros (8152 - length content) in
    let special : List ℕ = special_space right maxoff flags in
    let h = length-page_header (32 + length content) 8184 8184 in
    let p = length-row_pointer bound in
    let t = length-zeros 2 in
    let z = length-zeros (8152 - length content) in
    let s = length-special_space right maxoff flags in
    let a = length-append header (row_pointer_bytes bound ++ (zeros 2 ++ (content ++ (hole ++ special)))) in
    let b = length-append (row_pointer_bytes bound) (zeros 2 ++ (content ++ (hole ++ special))) in
    let c = length-append (zeros 2) (content ++ (hole ++ special)) in
    let d = length-append content (hole ++ special) in
    let e = length-append hole special in
    omega arith

length-posting_item : (link : Downlink RowPtr) → length (posting_item link) ≡ 10
unfolding posting_item
length-posting_item link = simp (length-append, length-number_bytes, length-row_pointer) refl

length-posting_items : (links : List (Downlink RowPtr)) → length (flat_map posting_item links) ≡ sum_by (λ link. 10) links
length-posting_items [] = refl
length-posting_items (link ∷ links) =
    let rest = length-posting_items links in
    let one = length-posting_item link in
    let parts = sum_by-cons (λ (l : Downlink RowPtr). 10) link links in
    ap length (flat_map-cons posting_item link links) ∙ length-append (posting_item link) (flat_map posting_item links) ∙ omega arith

-- pages of a kind have the size of a page where their items have room
abbrev FillPages : {I K : Type 0} → Kind I K → Type 0
FillPages {I = I} kind = (right : ℕ) (items : List I) → fill kind items ≤ kind.room → length (kind.image right items) ≡ 8192

leaves-fill : FillPages leaf_kind
leaves-fill right parts fits = length-data_page _ _ right _ (flat_map segment parts) (let l = length-flat_map segment parts in omega arith)

inners-fill : FillPages inner_kind
inners-fill right links fits = length-data_page _ _ right _ (flat_map posting_item links) (let l = length-posting_items links in omega arith)

sized-level : {I K : Type 0} (kind : Kind I K) (link : ℕ) (pages : List (Page I)) → FillPages kind → AreLevel kind pages → AreSized (nodes_linked kind link pages)
sized-level kind link [] fills are = tt
sized-level kind link (page ∷ []) fills are = (fills link page.items are.room, tt)
sized-level kind link (page ∷ next ∷ pages) fills are =
    (fills next.block page.items are.0.room, sized-level kind link (next ∷ pages) fills are.2)

sized-above : (below : List (ℕ × Option RowPtr)) (above : List (List (Page (Downlink RowPtr)))) → AreAbove inner_kind below above
    → AreSized (flat_map (nodes_of_level inner_kind) above)
sized-above below [] are = tt
sized-above below (pages ∷ above) are =
    subst AreSized (sym (flat_map-cons (nodes_of_level inner_kind) pages above))
    (all-append (λ (n : Node). length n.bytes ≡ 8192) (nodes_of_level inner_kind pages) (flat_map (nodes_of_level inner_kind) above)
    (sized-level inner_kind no_link pages inners-fill are.2.0)
    (sized-above (map (to_say inner_kind) pages) above are.2.1))

-- all pages of a posting tree have the size of a page
pub sized-tree : (tree : Tree (List RowPtr) RowPtr) → IsTree leaf_kind inner_kind tree → AreSized (nodes_of leaf_kind inner_kind tree)
sized-tree tree is =
    all-append (λ (n : Node). length n.bytes ≡ 8192) (nodes_of_level leaf_kind tree.leaves) (flat_map (nodes_of_level inner_kind) tree.above)
    (elim is.leaves [
      | inl are ↦ sized-level leaf_kind no_link tree.leaves leaves-fill are
      | inr empty ↦
          subst (λ (pages : List (Page (List RowPtr))). AreSized (nodes_of_level leaf_kind pages)) (sym empty.alone)
          (leaves-fill no_link empty.root.items (subst (λ (items : List (List RowPtr)). fill leaf_kind items ≤ 8152) (sym empty.empty) (omega arith)), tt)
    ])
    (sized-above _ tree.above is.above)

-- nodes whose blocks are a range follow one another
follow-range : (block : ℕ) (nodes : List Node) → map (λ node. node.block) nodes ≡ range_with_len block (length nodes) → FollowFrom block nodes
follow-range block [] same = tt
follow-range block (node ∷ nodes) same =
    let first : node.block ≡ block = cc in
    let rest : map (λ (n : Node). n.block) nodes ≡ range_with_len (block + 1) (length nodes) = cc in
    (first, follow-range (suc block) nodes (rest ∙ ap (λ (b : ℕ). range_with_len b (length nodes)) (add-one block)))

-- a tree that was added stands in the file, behind its old blocks
pub record Stands (old new : List ℕ) (nodes : List Node) : Type 0 where
  pub there : StandIn new nodes
  pub within : AllByRecursion (IsWithin new) nodes
  pub longer : length (bytes_of nodes) ≡ length nodes * page_size

pub added-stands : (old new : List ℕ) (nodes : List Node) → length old % page_size ≡ 0 → 2 * page_size ≤ length old → AreSized nodes
    → map (λ node. node.block) nodes ≡ range_with_len (block_count old) (length nodes) → new ≡ old ++ bytes_of nodes → Stands old new nodes
added-stands old new nodes whole begun sized blocks bytes =
    let base : ℕ = block_count old in
    let here : length old ≡ base * 8192 = omega arith in
    let follow = follow-range base nodes blocks in
    let long = length-bytes_of nodes sized in
    let total = ap length bytes ∙ length-append old (bytes_of nodes) in
    record {
      there = subst (λ (file : List ℕ). StandIn file nodes) (ap (λ (l : List ℕ). old ++ l) (append-nil (bytes_of nodes)) ∙ sym bytes)
          (stand-behind base old nodes [] here follow sized);
      within = each-node (IsWithin new) base nodes follow
          (λ (b : ℕ) (bytes : List ℕ) from below. record { from = omega arith; below = omega arith });
      longer = long;
    }
