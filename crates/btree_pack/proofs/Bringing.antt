-- A group's tuple comes to the leaves, and what they have then.
use Rattle.std.proofs.Common.{◌≡◌, ℕ, ◌+◌, ◌-◌, ◌≤◌, Bool, true, false, List, [], ◌∷◌, ◌++◌, length, refl, sym, ap, ◌∙◌, subst, arith}
use Rattle.std.specs.Prelude.{Option, Some, None, MatchOption, All, if◌then◌else◌}
use Rattle.std.proofs.lemmas.List.Elements.{All-push}
use Rattle.opclass.specs.declared.types.ColType.{ColType}
use Rattle.btree_pack.specs.Break.{Item, spare}
use Rattle.btree_pack.specs.Groups.{Group}
use Rattle.btree_pack.specs.Images.{images_of}
use Rattle.btree_pack.specs.Laws.{IsSmall}
use Rattle.btree_pack.specs.Leaves.{Content, Images, leaf_item, leaf_items_behind, plain_of, tuple_of_group}
use Rattle.btree_pack.specs.Pass.Finish.{last_separator}
use Rattle.btree_pack.specs.Pass.Grouped.{IsGroupOf, separator_image}
use Rattle.btree_pack.specs.Pass.Packed.{packed, tuple_came}
use Rattle.btree_pack.specs.Pass.Packing.{PageState, Packing, added, breaks_leaf, high_key_room, turned}
use Rattle.btree_pack.specs.Pass.Sight.{fillfactor_of, packing_of}
use Rattle.btree_pack.specs.Pass.Taken.{AreReady, HasBrought, HasLaid, IsDone, LeafIsFirst, Tells, last_group, last_image}
use Rattle.btree_pack.specs.declared.grouper.Grouper.{Grouper}
use Rattle.btree_pack.specs.declared.open_leaves.OpenLeaves.{OpenLeaves}
use Rattle.btree_pack.specs.declared.row_group.RowGroup.{RowGroup}
use Rattle.btree_pack.proofs.Finishing.{packing_grows}
use Rattle.btree_pack.proofs.TupleImages.{separator-tuple}

leaf-added : (tuple : List ℕ) (extra : ℕ) (pages : List PageState) (tuples blocks : ℕ) (image : List ℕ) → LeafIsFirst pages
    → LeafIsFirst (added tuple extra (record { pages = pages; tuples = tuples; blocks = blocks; image = image })).pages
    × (high_key_room (added tuple extra (record { pages = pages; tuples = tuples; blocks = blocks; image = image })) ≡ length tuple + 8)
unfolding added
leaf-added tuple extra [] tuples blocks image leaf = (refl, refl)
leaf-added tuple extra (page ∷ above) tuples blocks image leaf =
    (leaf, ap (λ (l : ℕ). length tuple + spare l) leaf)

leaf-turned : (fillfactor : ℕ) (high_key : List ℕ) (pages : List PageState) (tuples blocks : ℕ) (image : List ℕ) → LeafIsFirst pages
    → LeafIsFirst (turned fillfactor high_key (record { pages = pages; tuples = tuples; blocks = blocks; image = image })).pages
unfolding turned
leaf-turned fillfactor high_key [] tuples blocks image leaf = leaf
leaf-turned fillfactor high_key (page ∷ above) tuples blocks image leaf = leaf

-- a tuple on the leaves, whether or not it breaks the open one
pub leaf-arrived : (fillfactor : ℕ) (broken : Bool) (high_key tuple : List ℕ) (extra : ℕ) (packing : Packing) → LeafIsFirst packing.pages
    → LeafIsFirst (added tuple extra (if broken then turned fillfactor high_key packing else packing)).pages
    × (high_key_room (added tuple extra (if broken then turned fillfactor high_key packing else packing)) ≡ length tuple + 8)
leaf-arrived fillfactor true high_key tuple extra packing leaf =
    let now = turned fillfactor high_key packing in
    leaf-added tuple extra now.pages now.tuples now.blocks now.image (leaf-turned fillfactor high_key packing.pages packing.tuples packing.blocks packing.image leaf)
leaf-arrived fillfactor false high_key tuple extra packing leaf = leaf-added tuple extra packing.pages packing.tuples packing.blocks packing.image leaf

pub ready-brought : (s : Grouper) (old new : OpenLeaves) (group : RowGroup) → AreReady s.kinds s.keys old → IsDone s group → HasBrought s old new group
    → AreReady s.kinds s.keys new
ready-brought s old new group ready done made =
    let was = packing_of old.tower in
    let tuple = s.tuple.items in
    let high_key = last_image s.kinds s.keys old.last in
    let broken = breaks_leaf (fillfactor_of old.tower) was (length tuple) in
    let leaf = leaf-arrived (fillfactor_of old.tower) broken high_key tuple (length tuple - group.size) was ready.leaf in
    let bound = (separator-tuple s.kinds s.keys group done.is).1 in
    let size = done.size in
    let room : high_key_room (packing_of new.tower) ≡ length tuple + 8 = ap high_key_room made.packing ∙ leaf.1 in
    record {
      leaf = subst LeafIsFirst (sym (ap (λ (p : Packing). p.pages) made.packing)) leaf.0;
      last = subst (λ l. MatchOption l ((packing_of new.tower).pages ≡ []) (λ g.
          IsGroupOf s.kinds s.keys g × (length (separator_image s.kinds s.keys g) ≤ high_key_room (packing_of new.tower)))) (sym made.last)
          (done.is, omega arith);
    }

-- ---- the leaf items of one group more

-- the group before one that stands behind these, which stand behind another
abbrev pub behind_of : Option Group → List Group → Option Group
behind_of left [] = left
behind_of left (g ∷ done) = behind_of (Some g) done

pub items-push : (images : Images) (moment : ℕ) (left : Option Group) (done : List Group) (group : Group) (before : Option Group)
    → before ≡ behind_of left done → (at : ℕ) → at ≡ moment + length done
    → leaf_items_behind images moment left (done ++ group ∷ []) ≡ leaf_items_behind images moment left done ++ leaf_item images at before group ∷ []
items-push images moment left [] group before is at same =
    ap (λ (n : ℕ). leaf_item images n left group ∷ []) (let e : moment ≡ at = omega arith in e)
    ∙ ap (λ l. leaf_item images at l group ∷ []) (sym is)
items-push images moment left (g ∷ done) group before is at same =
    ap (λ l. leaf_item images moment left g ∷ l) (items-push images (moment + 1) (Some g) done group before is at (omega arith))

pub last-behind : (done : List Group) → last_group done ≡ behind_of None done
last-behind [] = refl
last-behind (g ∷ done) = go g done
  where
    go : (g : Group) (done : List Group) → last_group (g ∷ done) ≡ behind_of (Some g) done
    go g [] = refl
    go g (next ∷ done) = go next done

pub last-separator-push : (separator : List ℕ) (items : List (Item Content)) (x : Item Content) → last_separator separator (items ++ x ∷ []) ≡ x.content.separator
last-separator-push separator [] x = refl
last-separator-push separator (y ∷ items) x = last-separator-push y.content.separator items x

high_key-is : (kinds : List ColType) (keys : ℕ) (done : List Group) (last : Option RowGroup)
    → MatchOption last (done ≡ []) (λ last. separator_image kinds keys last ≡ last_separator [] (leaf_items_behind (images_of kinds keys) 1 None done))
    → last_image kinds keys last ≡ last_separator [] (leaf_items_behind (images_of kinds keys) 1 None done)
high_key-is kinds keys done None none = sym (ap (λ d. last_separator [] (leaf_items_behind (images_of kinds keys) 1 None d)) none)
high_key-is kinds keys done (Some last) same = same

-- the leaves have one group more
pub laid-more : (s : Grouper) (old new : OpenLeaves) (done : List Group) (group : Group) (p : RowGroup)
    → HasLaid s.kinds s.keys done old → IsDone s p → Tells s (last_group done) group p → HasBrought s old new p
    → HasLaid s.kinds s.keys (done ++ group ∷ []) new
laid-more s old new done group p laid is tells made =
    let images = images_of s.kinds s.keys in
    let ff = fillfactor_of old.tower in
    let items = leaf_items_behind images 1 None done in
    let x = leaf_item images (1 + length done) (last_group done) group in
    let all = items-push images 1 None done group (last_group done) (last-behind done) (1 + length done) refl in
    let plain = tells.size in
    let was = packing_of old.tower in
    let hk = last_image s.kinds s.keys old.last in
    let high = high_key-is s.kinds s.keys done old.last laid.last in
    let whole : List ℕ → ℕ → List ℕ → Packing → Packing = λ (t : List ℕ) (n : ℕ) (k : List ℕ) (w : Packing). tuple_came ff k w t (length t - n) in
    let arrives : packing_of new.tower ≡ packed ff (items ++ x ∷ []) =
    made.packing
    ∙ ap (λ t. whole t p.size hk was) tells.tuple
    ∙ ap (λ (n : ℕ). whole (tuple_of_group images group) n hk was) plain
    ∙ ap (λ k. whole (tuple_of_group images group) (length (plain_of images group.first)) k was) high
    ∙ ap (whole (tuple_of_group images group) (length (plain_of images group.first)) (last_separator [] items)) laid.packing
    ∙ sym (packing_grows ff items x) in
    let bound = (separator-tuple s.kinds s.keys p is.is).1 in
    let size = is.size in
    let small = is.small in
    let long = ap length tells.tuple in
    let sep = ap length tells.separator in
    record {
      packing = arrives ∙ ap (packed ff) (sym all) ∙ ap (λ (n : ℕ). packed n (leaf_items_behind images 1 None (done ++ group ∷ []))) (sym made.fillfactor);
      last = subst (λ l. MatchOption l (done ++ group ∷ [] ≡ []) (λ last. separator_image s.kinds s.keys last
          ≡ last_separator [] (leaf_items_behind images 1 None (done ++ group ∷ [])))) (sym made.last)
          (tells.separator ∙ sym (last-separator-push [] items x) ∙ ap (last_separator []) (sym all));
      small = subst (All IsSmall) (sym all) (All-push IsSmall items x laid.small (record { size = omega arith; bound = omega arith }));
    }
