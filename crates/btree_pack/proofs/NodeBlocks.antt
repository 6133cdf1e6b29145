-- The nodes of a tower stand at the blocks of its pages.
use Rattle.std.proofs.Common.{◌≡◌, ℕ, suc, Bool, true, false, List, [], ◌∷◌, ◌++◌, length, map, refl, sym, ap, ◌∙◌, subst, append-nil}
use Rattle.std.proofs.lemmas.List.{length-map, map-append}
use Rattle.std.specs.List.{range_with_len}
use Rattle.std.specs.List.Sorted.{IsPermutation}
use Rattle.btree_pack.specs.Births.{Birth, births_from, births_of, block_of}
use Rattle.btree_pack.specs.Break.{Item}
use Rattle.btree_pack.specs.Leaves.{Content}
use Rattle.btree_pack.specs.Nodes.{block_on, nodes_behind, nodes_from, nodes_of}
use Rattle.btree_pack.specs.Pages.{Page}
use Rattle.btree_pack.specs.Tower.{ArriveInTurn, levels}
use Rattle.btree_pack.proofs.Numbers.{blocks_are_exact}

blocks-behind : (births : List Birth) (level : ℕ) (root : Bool) (prev : ℕ) (pages : List (Page Content))
    → map (λ node. node.block) (nodes_behind births level root prev pages)
    ≡ map (block_of births) (map (λ moment. record { moment = moment; level = level }) (map (λ page. page.born) pages))
blocks-behind births level root prev [] = refl
blocks-behind births level root prev (page ∷ []) = refl
blocks-behind births level root prev (page ∷ next ∷ others) =
    ap (λ l. block_on births level page ∷ l) (blocks-behind births level root (block_on births level page) (next ∷ others))

blocks-from : (births : List Birth) (level : ℕ) (levels : List (List (Page Content)))
    → map (λ node. node.block) (nodes_from births level levels)
    ≡ map (block_of births) (births_from level (map (map (λ page. page.born)) levels))
blocks-from births level [] = refl
blocks-from births level (pages ∷ []) =
    blocks-behind births level true 0 pages
    ∙ ap (map (block_of births)) (sym (append-nil (map (λ moment. record { moment = moment; level = level }) (map (λ page. page.born) pages))))
blocks-from births level (pages ∷ above ∷ others) =
    map-append (λ node. node.block) (nodes_behind births level false 0 pages) (nodes_from births (suc level) (above ∷ others))
    ∙ ap (λ l. l ++ map (λ node. node.block) (nodes_from births (suc level) (above ∷ others))) (blocks-behind births level false 0 pages)
    ∙ ap (λ l. map (block_of births) (map (λ moment. record { moment = moment; level = level }) (map (λ page. page.born) pages)) ++ l) (blocks-from births (suc level) (above ∷ others))
    ∙ sym (map-append (block_of births) (map (λ moment. record { moment = moment; level = level }) (map (λ page. page.born) pages))
    (births_from (suc level) (map (map (λ page. page.born)) (above ∷ others))))

pub node_blocks : (levels : List (List (Page Content))) → map (λ node. node.block) (nodes_of levels) ≡ map (block_of (births_of levels)) (births_of levels)
unfolding nodes_of
node_blocks levels = blocks-from (births_of levels) 0 levels

pub nodes_have_the_blocks : (fillfactor : ℕ) (items : List (Item Content)) → ArriveInTurn items
    → IsPermutation (map (λ node. node.block) (nodes_of (levels fillfactor items)))
    (range_with_len 1 (length (nodes_of (levels fillfactor items))))
nodes_have_the_blocks fillfactor items turn =
    let all = levels fillfactor items in
    let births = births_of all in
    let same = node_blocks all in
    let count : length births ≡ length (nodes_of all) =
    sym (length-map births (block_of births)) ∙ ap length (sym same) ∙ length-map (nodes_of all) (λ node. node.block) in
    subst (λ l. IsPermutation l (range_with_len 1 (length (nodes_of all)))) (sym same)
    (subst (λ (n : ℕ). IsPermutation (map (block_of births) births) (range_with_len 1 n)) count (blocks_are_exact fillfactor items turn))
