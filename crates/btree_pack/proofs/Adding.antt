-- Runs of leaf tuples come to the leaves.
use Rattle.std.proofs.Common.{◌≡◌, ℕ, suc, ◌+◌, ◌-◌, ◌<◌, ◌≤◌, Bool, false, nat_lt, List, [], ◌∷◌, ◌++◌, length, map, take, drop, get_or, refl, sym, ap, ◌∙◌, subst, arith, append-nil}
use Rattle.std.specs.Prelude.{◌==◌, All, Option, Some, None, MatchOption, IfSome, IsSomeAnd, slice_get, if◌then◌else◌}
use Rattle.std.specs.List.{common_prefix_len}
use Rattle.std.specs.Option.{option_or}
use Rattle.std.proofs.Math.Seq.{take-add}
use Rattle.std.proofs.lemmas.Bool.Decides.{nat_tests}
use Rattle.std.proofs.lemmas.List.{drop-drop, length-take-le, take-append-drop}
use Rattle.std.proofs.lemmas.List.Elements.{All-append, All-cons}
use Rattle.pg_bytes.specs.declared.row_ptr.RowPtr.{RowPtr}
use Rattle.opclass.specs.declared.spec.IndexSpec.{IndexSpec}
use Rattle.opclass.specs.declared.types.ColType.{ColType}
use Rattle.opclass.specs.declared.value.KeyVal.{KeyVal}
use Rattle.btree_item.specs.Truncation.{KeepsUpToDifference}
use Rattle.btree_pack.specs.Break.{Item}
use Rattle.btree_pack.specs.Ends.{last_of}
use Rattle.btree_pack.specs.Groups.{KeysPart, Row, Group, have_same_keys, leaf_groups}
use Rattle.btree_pack.specs.Images.{images_of}
use Rattle.btree_pack.specs.Laws.{IsSmall}
use Rattle.btree_pack.specs.Leaves.{Content, Images, leaf_item, leaf_items, leaf_items_behind, pivot_between, plain_of}
use Rattle.btree_pack.specs.Nodes.{btree_file, shares_tuples}
use Rattle.btree_pack.specs.Separators.{Separator, greatest_pointer, is_same_value, separator}
use Rattle.btree_pack.specs.Pass.Added.{Adding, AreRunsReady, HasAdded, HasAddedAll, HasAddedRun, KeepsKeys, keeping, last_key, leaves_came, with_separator}
use Rattle.btree_pack.specs.Pass.Buffer.{leaves_between, leaves_from}
use Rattle.btree_pack.specs.Pass.Finish.{IsFileOfThePacked, last_separator}
use Rattle.btree_pack.specs.Pass.Grouped.{IsGroupOf, separator_image}
use Rattle.btree_pack.specs.Pass.Packed.{arrived, packed, packed_behind, tuple_came}
use Rattle.btree_pack.specs.Pass.Joining.{AreJoining, all_added}
use Rattle.btree_pack.specs.Pass.Packing.{IsHighKey, IsTuple, PageState, Packing, breaks_leaf, high_key_room}
use Rattle.btree_pack.specs.Pass.Put.{AreColumnsOf}
use Rattle.btree_pack.specs.Pass.Rows.{alone}
use Rattle.btree_pack.specs.Pass.Run.{AreLeavesOf, HasLastKeys, IsLeaf, IsOfTheFirst, IsRun, Leaf, RunView, leaf_of}
use Rattle.btree_pack.specs.Pass.Sight.{fillfactor_of, packing_of}
use Rattle.btree_pack.specs.Pass.Taken.{LeafIsFirst}
use Rattle.btree_pack.specs.declared.row_group.RowGroup.{RowGroup}
use Rattle.btree_pack.proofs.Bringing.{behind_of, leaf-arrived}
use Rattle.btree_pack.proofs.Joinings.{between-is, came-are-added}
use Rattle.btree_pack.proofs.LeafBuffer.{of-at}
use Rattle.btree_pack.proofs.Places.{at-got, some-at}
use Rattle.btree_pack.proofs.Parting.{groups-begin, groups-end, groups-part, items-part, last_separator-part, leaves-any-moment}
use Rattle.btree_pack.proofs.Takings.{keep-is, separator-none, tells-keys}
use Rattle.btree_pack.proofs.Puts.{alone-is, file-of-rows}
use Rattle.btree_pack.proofs.TupleImages.{separator-tuple}

-- ---- leaf tuples that come

-- some of them, and then others
pub came-part : (fillfactor : ℕ) (separator : List ℕ) (packing : Packing) (leaves more : List Leaf)
    → leaves_came fillfactor separator packing (leaves ++ more)
    ≡ leaves_came fillfactor (last_key separator leaves) (leaves_came fillfactor separator packing leaves) more
came-part fillfactor separator packing [] more = refl
came-part fillfactor separator packing (leaf ∷ leaves) more =
    came-part fillfactor leaf.separator (tuple_came fillfactor separator packing leaf.tuple leaf.extra) leaves more

pub key-part : (separator : List ℕ) (leaves more : List Leaf) → last_key separator (leaves ++ more) ≡ last_key (last_key separator leaves) more
key-part separator [] more = refl
key-part separator (leaf ∷ leaves) more = key-part leaf.separator leaves more

-- the separator of a tuple can finish the leaf that it came to
pub key-came : (fillfactor : ℕ) (separator : List ℕ) (packing : Packing) (leaf : Leaf) (key : List ℕ) → LeafIsFirst packing.pages → IsTuple key
    → length key ≤ length leaf.tuple + 8
    → LeafIsFirst (tuple_came fillfactor separator packing leaf.tuple leaf.extra).pages
    × IsHighKey key (tuple_came fillfactor separator packing leaf.tuple leaf.extra)
key-came fillfactor separator packing leaf key first tuple bound =
    let came = leaf-arrived fillfactor (breaks_leaf fillfactor packing (length leaf.tuple)) separator leaf.tuple leaf.extra packing first in
    let room = came.1 in
    (came.0, record { tuple = tuple; room = omega arith })

leaf-first : (fillfactor : ℕ) (separator : List ℕ) (packing : Packing) (leaves : List Leaf) → LeafIsFirst packing.pages
    → LeafIsFirst (leaves_came fillfactor separator packing leaves).pages
leaf-first fillfactor separator packing [] first = first
leaf-first fillfactor separator packing (leaf ∷ leaves) first =
    leaf-first fillfactor leaf.separator (tuple_came fillfactor separator packing leaf.tuple leaf.extra) leaves
    (leaf-arrived fillfactor (breaks_leaf fillfactor packing (length leaf.tuple)) separator leaf.tuple leaf.extra packing first).0

-- what the leaves have with the tuples from a number up to another
pub record PageLaid (fillfactor : ℕ) (key : List ℕ) (packing : Packing) (leaves : List Leaf) (first last : ℕ) (separator : List ℕ) (now : Packing) : Type 0 where
  pub laid : leaves_came fillfactor separator now (drop (last + 1) leaves) ≡ leaves_came fillfactor key packing (drop first leaves)
  pub last_is : last_key separator (drop (last + 1) leaves) ≡ last_key key (drop first leaves)
  pub leaf : LeafIsFirst now.pages
  pub room : IsHighKey separator now

pub page-laid : (fillfactor : ℕ) (key : List ℕ) (packing : Packing) (leaves : List Leaf) (first last : ℕ) (separator : List ℕ) (now : Packing)
    → first ≤ last → last < length leaves → All IsLeaf leaves → LeafIsFirst packing.pages → IfSome (slice_get leaves last) (λ leaf. separator ≡ leaf.separator)
    → now ≡ leaves_came fillfactor key packing (leaves_between first last leaves) → PageLaid fillfactor key packing leaves first last separator now
page-laid fillfactor key packing leaves first last separator now order inside are begin s made =
    let empty : Leaf = record { tuple = []; extra = 0; separator = [] } in
    let leaf = get_or leaves last empty in
    let is = are last empty inside in
    let front = leaves_from first (last - first) leaves in
    let part = leaves_between first last leaves in
    let behind = drop (last + 1) leaves in
    let split : part ≡ front ++ leaf ∷ [] = between-is first last leaves empty order inside in
    let separator-is : separator ≡ leaf.separator = of-at (λ l. separator ≡ l.separator) leaves last empty inside s in
    let rest : drop first leaves ≡ part ++ behind =
    sym (take-append-drop (last - first + 1) (drop first leaves)) ∙ ap (λ l. part ++ l) (drop-drop (last - first + 1) first leaves
    ∙ ap (λ (n : ℕ). drop n leaves) (let e : first + (last - first + 1) ≡ last + 1 = omega arith in e)) in
    let ends : last_key key part ≡ separator = ap (last_key key) split ∙ key-part key front (leaf ∷ []) ∙ sym separator-is in
    let mid = leaves_came fillfactor key packing front in
    let here : now ≡ tuple_came fillfactor (last_key key front) mid leaf.tuple leaf.extra =
    made ∙ ap (leaves_came fillfactor key packing) split ∙ came-part fillfactor key packing front (leaf ∷ []) in
    let came = key-came fillfactor (last_key key front) mid leaf separator (leaf-first fillfactor key packing front begin)
    (subst IsTuple (sym separator-is) is.separator) (let bound = is.bound in let long = ap length separator-is in omega arith) in
    record {
      laid = ap (λ p. leaves_came fillfactor separator p behind) made
          ∙ ap (λ k. leaves_came fillfactor k (leaves_came fillfactor key packing part) behind) (sym ends)
          ∙ sym (came-part fillfactor key packing part behind) ∙ ap (leaves_came fillfactor key packing) (sym rest);
      last_is = ap (λ k. last_key k behind) (sym ends) ∙ sym (key-part key part behind) ∙ ap (last_key key) (sym rest);
      leaf = subst (λ (p : Packing). LeafIsFirst p.pages) (sym here) came.0;
      room = subst (IsHighKey separator) (sym here) came.1;
    }

some-pages : (pages : List PageState) (tuples blocks : ℕ) (image : List ℕ)
    → 0 < high_key_room (record { pages = pages; tuples = tuples; blocks = blocks; image = image }) → 0 < length pages
some-pages [] tuples blocks image room = room
some-pages (page ∷ pages) tuples blocks image room = omega arith

-- the leaves have the tuple of a number
pub one-came : (fillfactor : ℕ) (key : List ℕ) (packing : Packing) (leaves : List Leaf) (number : ℕ) (tuple : List ℕ) (extra : ℕ) (now : Packing)
    → number < length leaves → LeafIsFirst packing.pages → IfSome (slice_get leaves number) (λ leaf. tuple ≡ leaf.tuple)
    → IfSome (slice_get leaves number) (λ leaf. extra ≡ leaf.extra) → now ≡ tuple_came fillfactor key packing tuple extra
    → (now ≡ leaves_came fillfactor key packing (leaves_between number number leaves)) × (0 < length now.pages)
one-came fillfactor key packing leaves number tuple extra now inside first t e made =
    let empty : Leaf = record { tuple = []; extra = 0; separator = [] } in
    let leaf = get_or leaves number empty in
    let tuple-is : tuple ≡ leaf.tuple = of-at (λ l. tuple ≡ l.tuple) leaves number empty inside t in
    let extra-is : extra ≡ leaf.extra = of-at (λ l. extra ≡ l.extra) leaves number empty inside e in
    let here : now ≡ tuple_came fillfactor key packing leaf.tuple leaf.extra =
    made ∙ ap (λ u. tuple_came fillfactor key packing u extra) tuple-is ∙ ap (tuple_came fillfactor key packing leaf.tuple) extra-is in
    let one : leaves_between number number leaves ≡ leaf ∷ [] =
    between-is number number leaves empty (omega arith) inside
    ∙ ap (λ (n : ℕ). take n (drop number leaves) ++ leaf ∷ []) (let n : number - number ≡ 0 = omega arith in n) in
    let came = leaf-arrived fillfactor (breaks_leaf fillfactor packing (length leaf.tuple)) key leaf.tuple leaf.extra packing first in
    let room : high_key_room now ≡ length leaf.tuple + 8 = ap high_key_room here ∙ came.1 in
    (here ∙ ap (leaves_came fillfactor key packing) (sym one), some-pages now.pages now.tuples now.blocks now.image (omega arith))

-- so many leaf tuples join the open leaf
pub joining-of : (fillfactor fillfactor' : ℕ) (packing : Packing) (leaves : List Leaf) (count : ℕ) → 0 < length packing.pages → fillfactor' ≡ fillfactor
    → IfSome (slice_get packing.pages 0) (λ page. AreJoining fillfactor' page leaves count)
    → (page : PageState) × (slice_get packing.pages 0 ≡ Some page) × AreJoining fillfactor page leaves count
joining-of fillfactor fillfactor' packing leaves count some same are =
    let at = some-at packing.pages 0 some in
    (at.0, at.1, subst (λ (n : ℕ). AreJoining n at.0 leaves count) same (at-got (λ page. AreJoining fillfactor' page leaves count) packing.pages 0 at.0 at.1 are))

-- a tuple came, and so many behind it joined the open leaf
pub more-came : (fillfactor : ℕ) (key : List ℕ) (packing mid now : Packing) (leaves : List Leaf) (number first last count : ℕ)
    → mid ≡ leaves_came fillfactor key packing (leaves_between number number leaves) → first ≡ number + 1 → last ≡ number + count → 0 < count
    → (page : PageState) × (slice_get mid.pages 0 ≡ Some page) × AreJoining fillfactor page (drop first leaves) count
    → now ≡ all_added (leaves_between first last leaves) mid → now ≡ leaves_came fillfactor key packing (leaves_between number last leaves)
more-came fillfactor key packing mid now leaves number first last count begun f l some joining made =
    let one = leaves_between number number leaves in
    let others = take count (drop first leaves) in
    let same : leaves_between first last leaves ≡ others = ap (λ (n : ℕ). take n (drop first leaves)) (let e : last - first + 1 ≡ count = omega arith in e) in
    let whole : leaves_between number last leaves ≡ one ++ others =
    ap (λ (n : ℕ). take n (drop number leaves)) (let e : last - number + 1 ≡ (number - number + 1) + count = omega arith in e)
    ∙ take-add (number - number + 1) count (drop number leaves)
    ∙ ap (λ l. one ++ take count l) (drop-drop (number - number + 1) number leaves
    ∙ ap (λ (n : ℕ). drop n leaves) (let e : number + (number - number + 1) ≡ first = omega arith in e)) in
    made ∙ ap (λ ls. all_added ls mid) same
    ∙ sym (came-are-added fillfactor (last_key key one) others mid joining.0 joining.1 joining.2.join)
    ∙ ap (λ p. leaves_came fillfactor (last_key key one) p others) begun
    ∙ sym (came-part fillfactor key packing one others) ∙ ap (leaves_came fillfactor key packing) (sym whole)

-- the first tuple of a run has come
pub first-laid : (fillfactor : ℕ) (key : List ℕ) (packing : Packing) (leaves : List Leaf) (first : RowGroup) (separator : List ℕ) (now : Packing)
    → IsOfTheFirst first leaves → LeafIsFirst packing.pages → IsTuple separator → length separator ≤ first.size + 8
    → IfSome (slice_get leaves 0) (λ leaf. now ≡ tuple_came fillfactor key packing leaf.tuple leaf.extra)
    → LeafIsFirst now.pages × IsHighKey separator now
    × (leaves_came fillfactor separator now (drop 1 leaves) ≡ leaves_came fillfactor key packing (with_separator separator leaves))
    × (last_key separator (drop 1 leaves) ≡ last_key [] (with_separator separator leaves))
first-laid fillfactor key packing [] first separator now begin leaf tuple bound came = absurd begin
first-laid fillfactor key packing (x ∷ leaves) first separator now begin leaf tuple bound came =
    let is = key-came fillfactor key packing x separator leaf tuple (omega arith) in (
      subst (λ (p : Packing). LeafIsFirst p.pages) (sym came) is.0,
      subst (IsHighKey separator) (sym came) is.1,
      ap (λ p. leaves_came fillfactor separator p leaves) came,
      refl,
    )

came-is : (images : Images) (fillfactor : ℕ) (separator : List ℕ) (packing : Packing) (moment : ℕ) (left : Option Group) (groups : List Group)
    → packed_behind fillfactor separator packing (leaf_items_behind images moment left groups)
    ≡ leaves_came fillfactor separator packing (map leaf_of (leaf_items_behind images moment left groups))
came-is images fillfactor separator packing moment left [] = refl
came-is images fillfactor separator packing moment left (group ∷ groups) =
    came-is images fillfactor (pivot_between images left group) (arrived fillfactor separator packing (leaf_item images moment left group)) (moment + 1) (Some group) groups

packed_behind-part : (fillfactor : ℕ) (separator : List ℕ) (packing : Packing) (items more : List (Item Content))
    → packed_behind fillfactor separator packing (items ++ more)
    ≡ packed_behind fillfactor (last_separator separator items) (packed_behind fillfactor separator packing items) more
packed_behind-part fillfactor separator packing [] more = refl
packed_behind-part fillfactor separator packing (item ∷ items) more =
    packed_behind-part fillfactor item.content.separator (arrived fillfactor separator packing item) items more

packed-part : (fillfactor : ℕ) (items more : List (Item Content))
    → packed fillfactor (items ++ more) ≡ packed_behind fillfactor (last_separator [] items) (packed fillfactor items) more
unfolding packed
packed-part fillfactor items more = packed_behind-part fillfactor [] _ items more

last-key-is : (separator : List ℕ) (items : List (Item Content)) → last_key separator (map leaf_of items) ≡ last_separator separator items
last-key-is separator [] = refl
last-key-is separator (item ∷ items) = last-key-is item.content.separator items

-- leaf tuples behind a group: the first has another separator
leaves-behind : (images : Images) (a b : ℕ) (left : Option Group) (group : Group) (groups : List Group)
    → map leaf_of (leaf_items_behind images a left (group ∷ groups))
    ≡ with_separator (pivot_between images left group) (map leaf_of (leaf_items_behind images b None (group ∷ groups)))
leaves-behind images a b left group groups =
    ap (λ l. leaf_of (leaf_item images a left group) ∷ l) (leaves-any-moment images (a + 1) (b + 1) (Some group) groups)

small-of : (images : Images) (moment : ℕ) (left : Option Group) (groups : List Group)
    → All IsLeaf (map leaf_of (leaf_items_behind images moment left groups)) → All IsSmall (leaf_items_behind images moment left groups)
small-of images moment left [] are = λ k d inside. absurd (omega arith)
small-of images moment left (group ∷ groups) are =
    let first = are 0 (leaf_of (leaf_item images moment left group)) (omega arith) in
    All-cons IsSmall (leaf_item images moment left group) (leaf_items_behind images (moment + 1) (Some group) groups)
    (record { size = first.small; bound = first.bound })
    (small-of images (moment + 1) (Some group) groups (λ k d inside. are (suc k) d (omega arith)))

-- ---- the separator between runs

pub kept-few : (keys : ℕ) (last : Option RowGroup) (first : RowGroup) (kept : ℕ) → KeepsKeys keys last first kept → kept ≤ keys
kept-few keys None first kept keeps = omega arith
kept-few keys (Some before) first kept keeps = let is = keeps.1.1 in omega arith

pub group-keeping : (kinds : List ColType) (keys : ℕ) (first : RowGroup) (kept : ℕ) → IsGroupOf kinds keys first → kept ≤ keys → IsGroupOf kinds keys (keeping kept first)
group-keeping kinds keys first kept is few = record {
  keys_few = is.keys_few;
  few = is.few;
  columns = is.columns;
  size = is.size;
  small = is.small;
  kept = few;
}

separator-by-keys : (a b c d : Group) → a.first.keys ≡ b.first.keys → c.first.keys ≡ d.first.keys → greatest_pointer a ≡ greatest_pointer b → separator a c ≡ separator b d
unfolding separator
separator-by-keys a b c d left right pointer =
    let made : List KeyVal → List KeyVal → RowPtr → Separator = λ (l : List KeyVal) (r : List KeyVal) (p : RowPtr).
    if nat_lt (common_prefix_len is_same_value l r) (length r)
    then record { keys = take (common_prefix_len is_same_value l r + 1) r; pointer = None }
    else record { keys = r; pointer = Some p } in
    ap (λ l. made l c.first.keys (greatest_pointer a)) left ∙ ap (λ r. made b.first.keys r (greatest_pointer a)) right ∙ ap (made b.first.keys d.first.keys) pointer

between : (kinds : List ColType) (keys : ℕ) (before first : RowGroup) (left right : Group) (kept : ℕ) → IsGroupOf kinds keys before → IsGroupOf kinds keys first
    → take keys before.values ≡ left.first.keys → take keys first.values ≡ right.first.keys → have_same_keys left.first right.first ≡ false
    → KeepsKeys keys (Some before) first kept → separator_image kinds keys (keeping kept first) ≡ pivot_between (images_of kinds keys) (Some left) right
between kinds keys before first left right kept was is l r apart keeps =
    let a : Group = record { first = record { keys = take keys before.values; extra = drop keys before.values; pointer = left.first.pointer }; others = left.others } in
    let b : Row = record { keys = take keys first.values; extra = drop keys first.values; pointer = right.first.pointer } in
    let within = was.keys_few in
    let a-all : length a.first.keys ≡ keys = length-take-le keys before.values (let c = was.columns in omega arith) in
    let b-all : length b.keys ≡ keys = length-take-le keys first.values (let c = is.columns in omega arith) in
    let whole : first.values ≡ b.keys ++ b.extra = sym (take-append-drop keys first.values) in
    let keeps-all : KeepsUpToDifference (a.first.keys ++ a.first.extra) (b.keys ++ b.extra) keeps.0 =
    subst (λ v. KeepsUpToDifference v (b.keys ++ b.extra) keeps.0) (sym (take-append-drop keys before.values))
    (subst (λ v. KeepsUpToDifference before.values v keeps.0) whole keeps.1.0) in
    let differ : have_same_keys a.first b ≡ false =
    ap (λ k. have_same_keys (record { keys = k; extra = []; pointer = left.first.pointer }) b) l
    ∙ ap (λ k. have_same_keys left.first (record { keys = k; extra = []; pointer = left.first.pointer })) r ∙ apart in
    let few : keeps.0 ≤ keys = lt-not keys keeps.0 (keep-is keys a.first b keeps.0 a-all b-all keeps-all ∙ differ) in
    let all : kept ≡ keeps.0 = let m = keeps.1.1 in omega arith in
    ap (λ (n : ℕ). separator_image kinds keys (keeping n first)) all
    ∙ tells-keys kinds keys first.size a b first.values keeps.0 a-all b-all whole keeps-all few
    ∙ ap (images_of kinds keys).pivot (separator-by-keys a left (alone b) right l r (pointer left.first left.others))
  where
    lt-not : (m n : ℕ) → nat_lt m n ≡ false → n ≤ m
    lt-not m n is = grind (arith, nat_tests)

    pointer : (row : Row) (others : List Row)
        → greatest_pointer (record { first = record { keys = take keys before.values; extra = drop keys before.values; pointer = row.pointer }; others = others })
        ≡ greatest_pointer (record { first = row; others = others })
    pointer row [] = refl
    pointer row (next ∷ others) = refl

-- the separator that a run's first tuple has behind other rows
separator-is : (kinds : List ColType) (keys : ℕ) (size_of : Row → ℕ) (shares : Bool) (rows more : List Row) (next : Row) (last : Option RowGroup) (first : RowGroup)
    (kept : ℕ) (group : Group) → KeysPart rows (next ∷ more) → HasLastKeys keys rows last → MatchOption last (Unit {0}) (IsGroupOf kinds keys)
    → IsGroupOf kinds keys first → take keys first.values ≡ next.keys → group.first ≡ next → KeepsKeys keys last first kept
    → separator_image kinds keys (keeping kept first) ≡ pivot_between (images_of kinds keys) (behind_of None (leaf_groups size_of shares rows)) group
separator-is kinds keys size_of shares [] more next last first kept group part none was is same begins keeps =
    let zero-kept : kept ≡ 0 = subst (λ o. KeepsKeys keys o first kept) none keeps in
    ap (λ (n : ℕ). separator_image kinds keys (keeping n first)) zero-kept ∙ separator-none kinds keys first.values first.size
separator-is kinds keys size_of shares (row ∷ rows) more next last first kept group part has was is same begins keeps =
    let end = groups-end size_of shares row rows in
    go last has was keeps ∙ ap (λ l. pivot_between (images_of kinds keys) l group) (sym end.is)
  where
    go : (last : Option RowGroup) → IsSomeAnd last (λ g. take keys g.values ≡ (last_of row rows).keys) → MatchOption last (Unit {0}) (IsGroupOf kinds keys)
        → KeepsKeys keys last first kept
        → separator_image kinds keys (keeping kept first) ≡ pivot_between (images_of kinds keys) (Some (groups-end size_of shares row rows).group) group
    go None has was keeps = absurd has
    go (Some before) has was keeps =
        let end = groups-end size_of shares row rows in
        let ends : (last_of row rows).keys ≡ end.group.first.keys = end.keys in
        let apart : have_same_keys end.group.first group.first ≡ false =
        ap (λ k. have_same_keys (record { keys = k; extra = []; pointer = next.pointer }) group.first) (sym ends)
        ∙ ap (have_same_keys (last_of row rows)) begins ∙ part in
        between kinds keys before first end.group group kept was is (has ∙ ends) (same ∙ ap (λ (r : Row). r.keys) (sym begins)) apart keeps

-- ---- one run more

last-behind-rows : (keys : ℕ) (rows : List Row) (next : Row) (more : List Row) (last : Option RowGroup) → HasLastKeys keys (next ∷ more) last
    → HasLastKeys keys (rows ++ next ∷ more) last
last-behind-rows keys [] next more last has = has
last-behind-rows keys (row ∷ []) next more last has = has
last-behind-rows keys (row ∷ other ∷ rows) next more last has = last-behind-rows keys (other ∷ rows) next more last has

last-keeping : (keys : ℕ) (next : Row) (more : List Row) (last : Option RowGroup) (first : RowGroup) (kept : ℕ)
    → HasLastKeys keys (next ∷ more) (option_or last (Some first)) → HasLastKeys keys (next ∷ more) (option_or last (Some (keeping kept first)))
last-keeping keys next more None first kept has = has
last-keeping keys next more (Some last) first kept has = has

-- the leaf tuples of a run behind others
all-with : (separator : List ℕ) (leaves : List Leaf) (first : RowGroup) → All IsLeaf leaves → IsOfTheFirst first leaves → IsTuple separator
    → length separator ≤ first.size + 8 → All IsLeaf (with_separator separator leaves)
all-with separator [] first are begin tuple bound = λ k d inside. absurd (omega arith)
all-with separator (leaf ∷ leaves) first are begin tuple bound =
    let here = are 0 leaf (omega arith) in
    All-cons IsLeaf (record leaf { separator = separator }) leaves
    (record { tuple = here.tuple; small = here.small; extra = here.extra; separator = tuple; bound = omega arith })
    (λ k d inside. are (suc k) d (omega arith))

group-of-last : (kinds : List ColType) (keys : ℕ) (last : Option RowGroup) (packing : Packing) (key : List ℕ)
    → MatchOption last (packing.pages ≡ []) (λ group. IsGroupOf kinds keys group × IsHighKey key packing) → MatchOption last (Unit {0}) (IsGroupOf kinds keys)
group-of-last kinds keys None packing key has = tt
group-of-last kinds keys (Some last) packing key has = has.0

pub added-run : (spec : IndexSpec) (kinds : List ColType) (rows more : List Row) (next : Row) (was now : Adding) (run : RunView) (first : RowGroup)
    → HasAdded spec kinds rows was → AreLeavesOf spec kinds (next ∷ more) run → KeysPart rows (next ∷ more) → IsRun run → AreRunsReady was.runs → run.first ≡ Some first
    → HasAddedRun was.runs now.runs run.leaves first run.last → HasAdded spec kinds (rows ++ next ∷ more) now
unfolding leaf_items
added-run spec kinds rows more next was now run first has are part is ready some made =
    let keys = length spec.keys in
    let images = images_of kinds keys in
    let shares = shares_tuples spec in
    let size_of : Row → ℕ = λ row. length (plain_of images row) in
    let groups = leaf_groups size_of shares rows in
    let others = leaf_groups size_of shares (next ∷ more) in
    let begin = groups-begin size_of shares next more in
    let items = leaf_items_behind images 1 None groups in
    let left = behind_of None groups in
    let tail = leaf_items_behind images (1 + length groups) left others in
    let all : leaf_items images shares (rows ++ next ∷ more) ≡ items ++ tail =
    ap (leaf_items_behind images 1 None) (groups-part size_of shares rows (next ∷ more) part)
    ∙ items-part images 1 None groups others (1 + length groups) refl in
    let first-is = subst (λ o. MatchOption o (run.leaves ≡ []) (λ g. IsGroupOf run.kinds run.keys g × IsOfTheFirst g run.leaves)) some is.first in
    let group : IsGroupOf kinds keys first =
    subst (λ (n : ℕ). IsGroupOf kinds n first) are.keys (subst (λ k. IsGroupOf k run.keys first) are.kinds_are first-is.0) in
    let kept = made.kept in
    let keeps : KeepsKeys keys was.runs.last first kept = subst (λ (n : ℕ). KeepsKeys n was.runs.last first kept) has.keys made.keeps in
    let last-group : MatchOption was.runs.last (Unit {0}) (IsGroupOf kinds keys) =
    subst (λ (n : ℕ). MatchOption was.runs.last (Unit {0}) (IsGroupOf kinds n)) has.keys
    (subst (λ k. MatchOption was.runs.last (Unit {0}) (IsGroupOf k was.runs.keys)) has.kinds_are
    (group-of-last was.runs.kinds was.runs.keys was.runs.last (packing_of was.runs.tower) was.runs.high_key.items ready.last)) in
    let front : take keys first.values ≡ next.keys = subst (λ o. IsSomeAnd o (λ g. take keys g.values ≡ next.keys)) some are.first in
    let sep : List ℕ = separator_image kinds keys (keeping kept first) in
    let sep-old : separator_image was.runs.kinds was.runs.keys (keeping kept first) ≡ sep =
    ap (λ k. separator_image k was.runs.keys (keeping kept first)) has.kinds_are ∙ ap (λ (n : ℕ). separator_image kinds n (keeping kept first)) has.keys in
    let pivot : sep ≡ pivot_between images left begin.group =
    separator-is kinds keys size_of shares rows more next was.runs.last first kept begin.group part has.last last-group group front begin.first keeps in
    let leaves : with_separator (separator_image was.runs.kinds was.runs.keys (keeping kept first)) run.leaves ≡ map leaf_of tail =
    ap (λ s. with_separator s run.leaves) (sep-old ∙ pivot) ∙ ap (with_separator (pivot_between images left begin.group)) are.leaves
    ∙ ap (λ g. with_separator (pivot_between images left begin.group) (map leaf_of (leaf_items_behind images 1 None g))) begin.are
    ∙ sym (leaves-behind images (1 + length groups) 1 left begin.group begin.others)
    ∙ ap (λ g. map leaf_of (leaf_items_behind images (1 + length groups) left g)) (sym begin.are) in
    let written = separator-tuple kinds keys (keeping kept first) (group-keeping kinds keys first kept group (kept-few keys was.runs.last first kept keeps)) in
    let fill : fillfactor_of was.runs.tower ≡ spec.fillfactor = has.fillfactor in
    record {
      kinds_are = made.kinds ∙ has.kinds_are;
      keys = made.keys ∙ has.keys;
      columns = has.columns;
      fillfactor = made.fillfactor ∙ fill;
      packing = made.packing
          ∙ ap (leaves_came (fillfactor_of was.runs.tower) was.runs.high_key.items (packing_of was.runs.tower)) leaves
          ∙ ap (λ (n : ℕ). leaves_came n was.runs.high_key.items (packing_of was.runs.tower) (map leaf_of tail)) fill
          ∙ ap (λ k. leaves_came spec.fillfactor k (packing_of was.runs.tower) (map leaf_of tail)) has.high_key
          ∙ ap (λ p. leaves_came spec.fillfactor (last_separator [] items) p (map leaf_of tail)) has.packing
          ∙ sym (came-is images spec.fillfactor (last_separator [] items) (packed spec.fillfactor items) (1 + length groups) left others)
          ∙ sym (packed-part spec.fillfactor items tail) ∙ ap (packed spec.fillfactor) (sym all);
      high_key = made.high_key ∙ ap (last_key []) leaves ∙ last-key-is [] tail
          ∙ ap (λ g. last_separator [] (leaf_items_behind images (1 + length groups) left g)) begin.are
          ∙ ap (λ g. last_separator (last_separator [] items) (leaf_items_behind images (1 + length groups) left g)) (sym begin.are)
          ∙ sym (last_separator-part [] items tail) ∙ ap (last_separator []) (sym all);
      last = subst (HasLastKeys keys (rows ++ next ∷ more)) (sym made.last)
          (last-behind-rows keys rows next more (option_or run.last (Some (keeping kept first)))
          (last-keeping keys next more run.last first kept (subst (λ o. HasLastKeys keys (next ∷ more) (option_or run.last o)) some are.last)));
      small = subst (All IsSmall) (sym all)
          (All-append IsSmall items tail has.small (small-of images (1 + length groups) left others
          (subst (All IsLeaf) leaves (subst (λ s. All IsLeaf (with_separator s run.leaves)) (sym sep-old)
          (all-with sep run.leaves first is.leaves first-is.1 written.0 written.1)))));
    }

pub added-all : (spec : IndexSpec) (kinds : List ColType) (rows more : List Row) (was now : Adding) (run : RunView)
    → HasAdded spec kinds rows was → AreLeavesOf spec kinds more run → KeysPart rows more → IsRun run → AreRunsReady was.runs
    → HasAddedAll was.runs now.runs run → HasAdded spec kinds (rows ++ more) now
added-all spec kinds rows more was now run has are part is ready made = go more run.first refl are part made
  where
    go : (more : List Row) (first : Option RowGroup) → run.first ≡ first → AreLeavesOf spec kinds more run → KeysPart rows more
        → MatchOption first (now.runs ≡ was.runs) (λ first. HasAddedRun was.runs now.runs run.leaves first run.last) → HasAdded spec kinds (rows ++ more) now
    go [] None none are part same =
        subst (λ l. HasAdded spec kinds l now) (sym (append-nil rows))
        (let fit : HasAdded spec kinds rows (record { runs = was.runs; spent = now.spent }) = record {
          kinds_are = has.kinds_are;
          keys = has.keys;
          columns = has.columns;
          fillfactor = has.fillfactor;
          packing = has.packing;
          high_key = has.high_key;
          last = has.last;
          small = has.small;
        } in subst (λ r. HasAdded spec kinds rows (record { runs = r; spent = now.spent })) (sym same) fit)
    go [] (Some first) some are part made = let none : run.first ≡ None = are.first in let impossible : None ≡ Some first = sym none ∙ some in cc
    go (next ∷ more) None none are part same = absurd (subst (λ o. IsSomeAnd o (λ g. take (length spec.keys) g.values ≡ next.keys)) none are.first)
    go (next ∷ more) (Some first) some are part made = added-run spec kinds rows more next was now run first has are part is ready some made

-- ---- no run and all runs

pub added-none : (spec : IndexSpec) (kinds : List ColType) (packer : Adding) → AreColumnsOf spec kinds → packer.runs.kinds ≡ kinds → packer.runs.keys ≡ length spec.keys
    → fillfactor_of packer.runs.tower ≡ spec.fillfactor → packing_of packer.runs.tower ≡ packed spec.fillfactor [] → packer.runs.high_key.items ≡ []
    → packer.runs.last ≡ None → HasAdded spec kinds [] packer
unfolding leaf_items
added-none spec kinds packer columns k n fill packing key last = record {
  kinds_are = k;
  keys = n;
  columns = columns;
  fillfactor = fill;
  packing = packing;
  high_key = key;
  last = last;
  small = λ k d inside. absurd (omega arith);
}

-- the file of all runs
pub file-of-runs : (spec : IndexSpec) (kinds : List ColType) (rows : List Row) (packer : Adding) (equal : Bool) (file : List ℕ) → HasAdded spec kinds rows packer
    → equal ≡ (packer.runs.keys == length packer.runs.kinds) → IsFileOfThePacked (fillfactor_of packer.runs.tower) equal (packing_of packer.runs.tower) file
    → file ≡ btree_file (images_of kinds (length spec.keys)) spec rows
file-of-runs spec kinds rows packer equal file has same finished =
    let alone' = same ∙ ap (λ (n : ℕ). packer.runs.keys == n) (ap length has.kinds_are) ∙ alone-is spec kinds packer.runs.keys has.keys has.columns in
    let images = images_of kinds (length spec.keys) in
    file-of-rows spec kinds (length spec.keys) (fillfactor_of packer.runs.tower) (shares_tuples spec) equal rows (packing_of packer.runs.tower) file
    refl refl has.fillfactor alone'
    (has.packing ∙ ap (λ (n : ℕ). packed n (leaf_items images (shares_tuples spec) rows)) (sym has.fillfactor)) has.small finished
