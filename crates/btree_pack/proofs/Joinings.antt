-- Leaf tuples that join the open leaf, one by one and all at once.
use Rattle.std.proofs.Common.{◌≡◌, ℕ, suc, ◌+◌, ◌-◌, ◌*◌, ◌<◌, ◌≤◌, Bool, true, false, nat_lt, List, [], ◌∷◌, ◌++◌, length, map, take, drop, get_or, set, refl, sym, ap, ◌∙◌, subst, arith, append_assoc, drop-cons}
use Rattle.std.specs.Prelude.{◌||◌, if◌then◌else◌, All, Some, IfSome, slice_get}
use Rattle.std.specs.List.{flat_map}
use Rattle.std.proofs.lemmas.Bool.Decides.{nat_tests}
use Rattle.std.proofs.lemmas.List.{drop_all, get_or-drop, get_or-map, length-drop, length-map, length-take-le, take_more, take_rest}
use Rattle.std.proofs.lemmas.List.Concat.{length-flat_map}
use Rattle.std.proofs.lemmas.List.Elements.{All-drop, All-get_or, All-map, All-take}
use Rattle.std.proofs.lemmas.List.Sums.{sum_by-append, sum_by-cons, sum_by_push}
use Rattle.btree_pack.specs.Break.{page_room, spare}
use Rattle.btree_pack.specs.Pass.Added.{leaves_came}
use Rattle.btree_pack.specs.Pass.Buffer.{leaves_between, leaves_from, size_of, tuples_cut, tuples_size}
use Rattle.btree_pack.specs.Pass.Joining.{AllJoin, AreJoining, FirstBreaks, HasRoomFor, all_added, fill_breaks, fill_of, with_leaves}
use Rattle.btree_pack.specs.Pass.Packed.{tuple_came}
use Rattle.btree_pack.specs.Pass.Packing.{IsOpen, IsTuple, PageState, Packing, added, is_full, room_of, turned, used, with_tuple}
use Rattle.btree_pack.specs.Pass.Run.{IsLeaf, Leaf}
use Rattle.btree_pack.specs.declared.leaves.LeafSize.{LeafSize}
use Rattle.btree_pack.specs.declared.page_fill.PageFill.{PageFill}
use Rattle.btree_pack.proofs.LeafBuffer.{cut-again, of-at, tuple_size, tuples_size-of}
use Rattle.btree_pack.proofs.OpenPages.{one-more, spare-few}
use Rattle.btree_pack.proofs.Places.{added-to, kept}

-- ---- a page with leaf tuples more

with_leaves-push : (leaves : List Leaf) (leaf : Leaf) (page : PageState) → with_leaves (leaves ++ leaf ∷ []) page ≡ with_tuple leaf.tuple leaf.extra (with_leaves leaves page)
with_leaves-push [] leaf page = refl
with_leaves-push (first ∷ leaves) leaf page = with_leaves-push leaves leaf (with_tuple first.tuple first.extra page)

all_join-push : (fillfactor : ℕ) (leaves : List Leaf) (leaf : Leaf) (page : PageState) → AllJoin fillfactor page leaves
    → is_full fillfactor (with_leaves leaves page) (length leaf.tuple) ≡ false → AllJoin fillfactor page (leaves ++ leaf ∷ [])
all_join-push fillfactor [] leaf page are is = (is, tt)
all_join-push fillfactor (first ∷ leaves) leaf page are is = (are.0, all_join-push fillfactor leaves leaf (with_tuple first.tuple first.extra page) are.1 is)

level-same : (leaves : List Leaf) (page : PageState) → (with_leaves leaves page).level ≡ page.level
level-same [] page = refl
level-same (leaf ∷ leaves) page = level-same leaves (with_tuple leaf.tuple leaf.extra page)

with_leaves-whole : (leaves : List Leaf) (leaf : Leaf) (page : PageState)
    → with_leaves (leaves ++ leaf ∷ []) page
    ≡ record page { before = page.before ++ page.last ∷ map (λ (l : Leaf). l.tuple) leaves; last = leaf.tuple; extra = leaf.extra }
with_leaves-whole [] leaf page = refl
with_leaves-whole (first ∷ leaves) leaf page =
    with_leaves-whole leaves leaf (with_tuple first.tuple first.extra page)
    ∙ ap (λ (b : List (List ℕ)). record page { before = b; last = leaf.tuple; extra = leaf.extra })
    (append_assoc page.before (page.last ∷ []) (first.tuple ∷ map (λ (l : Leaf). l.tuple) leaves))

-- ---- how full it is

fill-full : (fillfactor : ℕ) (page : PageState) (size : ℕ) → fill_breaks fillfactor (fill_of page) size ≡ is_full fillfactor page size
fill-full fillfactor page size = choose page.before _
  where
    choose : (before : List (List ℕ)) (b : Bool)
        → (if (elim before [ [] ↦ true | first ∷ others ↦ false ]) then false else b) ≡ elim before [ [] ↦ false | first ∷ others ↦ b ]
    choose [] b = refl
    choose (x ∷ xs) b = refl

fill-more : (page : PageState) (tuple : List ℕ) (extra : ℕ)
    → fill_of (with_tuple tuple extra page) ≡ record (fill_of page) { alone = false; taken = used page + (length tuple + 4); extra = extra }
fill-more page tuple extra =
    let more = sum_by_push (λ (t : List ℕ). length t + 4) page.before page.last in
    let taken : used (with_tuple tuple extra page) ≡ used page + (length tuple + 4) = omega arith in
    ap (λ (b : Bool). record { level = page.level; alone = b; taken = used (with_tuple tuple extra page); extra = extra }) (others page.before page.last)
    ∙ ap (λ (n : ℕ). record { level = page.level; alone = false; taken = n; extra = extra }) taken
  where
    others : (before : List (List ℕ)) (last : List ℕ) → (elim (before ++ last ∷ []) [ [] ↦ true | first ∷ others ↦ false ]) ≡ false
    others [] last = refl
    others (x ∷ xs) last = refl

-- a tuple that doesn't break the page has room there
fits : (fillfactor level extra size : ℕ) (before : List (List ℕ)) (last : List ℕ) → IsTuple last → size ≤ 2704
    → is_full fillfactor (record { level = level; block = 0; prev = 0; low_key = []; before = before; last = last; extra = extra }) size ≡ false
    → room_of before + (length last + 4) + (size + spare level) ≤ page_room
fits fillfactor level extra size [] last is small full = let s = spare-few level in let most = is.most in omega arith
fits fillfactor level extra size (x ∷ xs) last is small full =
    let test : nat_lt page_room (room_of (x ∷ xs) + (length last + 4) + (size + spare level)) ≡ false = by_case _ _ full in
    grind (arith, nat_tests)
  where
    by_case : (a b : Bool) → (a || b) ≡ false → a ≡ false
    by_case true b e = e
    by_case false b e = refl

open-more : (fillfactor : ℕ) (page : PageState) (taken : ℕ) (leaf : Leaf) → IsOpen page taken → IsLeaf leaf → is_full fillfactor page (length leaf.tuple) ≡ false
    → IsOpen (with_tuple leaf.tuple leaf.extra page) (taken + (length leaf.tuple + 4))
open-more fillfactor page taken leaf opened is full =
    let small = is.tuple.most in
    let extra = is.extra in
    one-more page taken leaf.tuple leaf.extra _ opened is.tuple (fits fillfactor page.level page.extra (length leaf.tuple) page.before page.last opened.last is.small full)
    (omega arith) refl

-- ---- a pass over the leaf tuples

-- so many of them join the page, which is so full then
pub record Joined (fillfactor : ℕ) (page : PageState) (leaves : List Leaf) (count : ℕ) (fill : PageFill) : Type 0 where
  pub full : fill ≡ fill_of (with_leaves (take count leaves) page)
  pub join : AllJoin fillfactor page (take count leaves)
  pub opened : IsOpen (with_leaves (take count leaves) page) fill.taken

-- the leaf tuple that comes next has this size
pub record IsNext (leaves : List Leaf) (count : ℕ) (size : LeafSize) : Type 0 where
  pub inside : count < length leaves
  pub is : size ≡ size_of (get_or leaves count (record { tuple = []; extra = 0; separator = [] }))

pub is-next : (leaves : List Leaf) (from most count : ℕ) (sizes : List LeafSize) → sizes ≡ map size_of (leaves_from from most leaves) → most ≡ length leaves - from
    → count < length sizes → IsNext (drop from leaves) count (get_or sizes count (record { tuple = 0; extra = 0; separator = 0 }))
is-next leaves from most count sizes are rest within =
    let empty : Leaf = record { tuple = []; extra = 0; separator = [] } in
    let all : sizes ≡ map size_of (drop from leaves) = are ∙ ap (λ (n : ℕ). map size_of (leaves_from from n leaves)) rest ∙ ap (map size_of) (take_rest leaves from) in
    let long = ap length all in
    let same = length-map (drop from leaves) size_of in
    let inside : count < length (drop from leaves) = omega arith in
    record {
      inside = inside;
      is = ap (λ l. get_or l count (record { tuple = 0; extra = 0; separator = 0 })) all ∙ get_or-map size_of (drop from leaves) count empty _ inside;
    }

pub next-small : (leaves : List Leaf) (count : ℕ) (size : LeafSize) → All IsLeaf leaves → IsNext leaves count size → size.tuple ≤ 2704
next-small leaves count size are next =
    let empty : Leaf = record { tuple = []; extra = 0; separator = [] } in
    let small = (All-get_or IsLeaf leaves count empty next.inside are).small in
    let tuple : size.tuple ≡ length (get_or leaves count empty).tuple = ap (λ (s : LeafSize). s.tuple) next.is in
    omega arith

next-full : (fillfactor : ℕ) (page : PageState) (leaves : List Leaf) (count : ℕ) (fill : PageFill) (size : LeafSize) (test : Bool) → Joined fillfactor page leaves count fill
    → IsNext leaves count size → fill_breaks fillfactor fill size.tuple ≡ test
    → is_full fillfactor (with_leaves (take count leaves) page) (length (get_or leaves count (record { tuple = []; extra = 0; separator = [] })).tuple) ≡ test
next-full fillfactor page leaves count fill size test so next is =
    let tuple = (get_or leaves count (record { tuple = []; extra = 0; separator = [] })).tuple in
    let now = with_leaves (take count leaves) page in
    sym (fill-full fillfactor now (length tuple)) ∙ ap (λ f. fill_breaks fillfactor f (length tuple)) (sym so.full)
    ∙ ap (λ (s : LeafSize). fill_breaks fillfactor fill s.tuple) (sym next.is) ∙ is

pub joined-more : (fillfactor : ℕ) (page : PageState) (leaves : List Leaf) (count : ℕ) (fill : PageFill) (size : LeafSize) → Joined fillfactor page leaves count fill
    → All IsLeaf leaves → IsNext leaves count size → fill_breaks fillfactor fill size.tuple ≡ false
    → Joined fillfactor page leaves (count + 1) (record fill { alone = false; taken = fill.taken + (size.tuple + 4); extra = size.extra })
joined-more fillfactor page leaves count fill size so are next test =
    let empty : Leaf = record { tuple = []; extra = 0; separator = [] } in
    let leaf = get_or leaves count empty in
    let now = with_leaves (take count leaves) page in
    let full : is_full fillfactor now (length leaf.tuple) ≡ false = next-full fillfactor page leaves count fill size false so next test in
    let one : take (count + 1) leaves ≡ take count leaves ++ leaf ∷ [] = take_more leaves count empty next.inside in
    let page-next : with_leaves (take (count + 1) leaves) page ≡ with_tuple leaf.tuple leaf.extra now = ap (λ l. with_leaves l page) one ∙ with_leaves-push (take count leaves) leaf page in
    let more = open-more fillfactor now fill.taken leaf so.opened (All-get_or IsLeaf leaves count empty next.inside are) full in
    let taken : fill.taken + (size.tuple + 4) ≡ fill.taken + (length leaf.tuple + 4) = ap (λ (s : LeafSize). fill.taken + (s.tuple + 4)) next.is in
    record {
      full = ap (λ (f : PageFill). record f { alone = false; taken = f.taken + (size.tuple + 4); extra = size.extra }) so.full
          ∙ ap (λ (s : LeafSize). record (fill_of now) { alone = false; taken = used now + (s.tuple + 4); extra = s.extra }) next.is
          ∙ sym (fill-more now leaf.tuple leaf.extra) ∙ ap fill_of (sym page-next);
      join = subst (AllJoin fillfactor page) (sym one) (all_join-push fillfactor (take count leaves) leaf page so.join full);
      opened = subst (λ p. IsOpen p (fill.taken + (size.tuple + 4))) (sym page-next) (subst (IsOpen (with_tuple leaf.tuple leaf.extra now)) (sym taken) more);
    }

has-room : (fillfactor : ℕ) (page : PageState) (leaves : List Leaf) (count : ℕ) (fill : PageFill) → Joined fillfactor page leaves count fill → HasRoomFor (take count leaves) page
has-room fillfactor page leaves count fill so =
    let room = so.opened.room in
    let level = ap spare (level-same (take count leaves) page) in
    omega arith

-- the next one breaks the page
pub joined-breaks : (fillfactor : ℕ) (page : PageState) (leaves : List Leaf) (count : ℕ) (fill : PageFill) (size : LeafSize) → Joined fillfactor page leaves count fill
    → IsNext leaves count size → fill_breaks fillfactor fill size.tuple ≡ true → AreJoining fillfactor page leaves count
joined-breaks fillfactor page leaves count fill size so next test =
    let empty : Leaf = record { tuple = []; extra = 0; separator = [] } in
    let inside = next.inside in
    record {
      within = omega arith;
      join = so.join;
      end = subst (FirstBreaks fillfactor (with_leaves (take count leaves) page)) (sym (drop-cons leaves count empty inside))
          (next-full fillfactor page leaves count fill size true so next test);
      room = has-room fillfactor page leaves count fill so;
    }

-- all join it
pub joined-all : (fillfactor : ℕ) (page : PageState) (leaves : List Leaf) (count : ℕ) (fill : PageFill) → Joined fillfactor page leaves count fill
    → count ≡ length leaves → AreJoining fillfactor page leaves count
joined-all fillfactor page leaves count fill so all = record {
  within = omega arith;
  join = so.join;
  end = subst (FirstBreaks fillfactor (with_leaves (take count leaves) page)) (sym (drop_all count leaves (omega arith))) tt;
  room = has-room fillfactor page leaves count fill so;
}

-- ---- all at once

pub room-cut : (sizes : List LeafSize) (bytes : List ℕ) → tuples_size sizes ≡ length bytes → room_of (tuples_cut sizes bytes) ≡ length bytes + 4 * length sizes
room-cut [] bytes whole = omega arith
room-cut (size ∷ sizes) bytes whole =
    let parts = sum_by-cons tuple_size size sizes in
    let fits : size.tuple ≤ length bytes = omega arith in
    let first = length-take-le size.tuple bytes fits in
    let behind : tuples_size sizes ≡ length (drop size.tuple bytes) = omega (arith, length-drop size.tuple bytes) in
    let long = length-drop size.tuple bytes in
    let rest = room-cut sizes (drop size.tuple bytes) behind in
    let room = sum_by-cons (λ (t : List ℕ). length t + 4) (take size.tuple bytes) (tuples_cut sizes (drop size.tuple bytes)) in
    omega arith

-- what a page wants to know of the leaf tuples from a number up to another, and what it has with them
pub record AllLaid (page : PageState) (leaves : List Leaf) (bytes : List ℕ) (sizes : List LeafSize) (tuple : List ℕ) (extra : ℕ) : Type 0 where
  pub whole : tuples_size sizes ≡ length bytes
  pub tuples : All IsTuple (tuples_cut sizes bytes)
  pub last : IsTuple tuple
  pub room : used page + room_of (tuples_cut sizes bytes) + (length tuple + spare page.level) ≤ page_room
  pub few : extra ≤ 8192
  pub is : record page { before = page.before ++ page.last ∷ tuples_cut sizes bytes; last = tuple; extra = extra } ≡ with_leaves leaves page

pub all-laid : (page : PageState) (front : List Leaf) (leaf : Leaf) → All IsLeaf front → IsLeaf leaf → HasRoomFor (front ++ leaf ∷ []) page
    → AllLaid page (front ++ leaf ∷ []) (flat_map (λ (l : Leaf). l.tuple) front) (map size_of front) leaf.tuple leaf.extra
all-laid page front leaf are is room =
    let cut = cut-again front in
    let whole = with_leaves-whole front leaf page in
    let tuples = map (λ (l : Leaf). l.tuple) front in
    let end : used (with_leaves (front ++ leaf ∷ []) page) ≡ room_of (page.before ++ page.last ∷ tuples) + (length leaf.tuple + 4) = ap used whole in
    let parts = sum_by-append (λ (t : List ℕ). length t + 4) page.before (page.last ∷ tuples) in
    let last = sum_by-cons (λ (t : List ℕ). length t + 4) page.last tuples in
    let cut-room : room_of (tuples_cut (map size_of front) (flat_map (λ (l : Leaf). l.tuple) front)) ≡ room_of tuples = ap room_of cut in
    let extra = is.extra in
    let small = is.small in
    record {
      whole = tuples_size-of front ∙ sym (length-flat_map (λ (l : Leaf). l.tuple) front);
      tuples = subst (All IsTuple) (sym cut) (All-map IsTuple (λ (l : Leaf). l.tuple) front (λ k d inside. (are k d inside).tuple));
      last = is.tuple;
      room = omega arith;
      few = omega arith;
      is = ap (λ (t : List (List ℕ)). record page { before = page.before ++ page.last ∷ t; last = leaf.tuple; extra = leaf.extra }) cut ∙ sym whole;
    }

pub between-is : (first last : ℕ) (leaves : List Leaf) (d : Leaf) → first ≤ last → last < length leaves
    → leaves_between first last leaves ≡ leaves_from first (last - first) leaves ++ get_or leaves last d ∷ []
between-is first last leaves d order inside =
    let long = length-drop first leaves in
    take_more (drop first leaves) (last - first) d (omega arith)
    ∙ ap (λ l. leaves_from first (last - first) leaves ++ l ∷ [])
    (get_or-drop first leaves (last - first) d ∙ ap (λ (n : ℕ). get_or leaves n d) (let e : first + (last - first) ≡ last = omega arith in e))

pub length-between : (first last : ℕ) (leaves : List Leaf) → first ≤ last → last < length leaves → length (leaves_between first last leaves) ≡ last - first + 1
length-between first last leaves order inside =
    let long = length-drop first leaves in
    length-take-le (last - first + 1) (drop first leaves) (omega arith)

pub laid-between : (page : PageState) (leaves : List Leaf) (first last : ℕ) (bytes : List ℕ) (sizes : List LeafSize) (tuple : List ℕ) (extra : ℕ)
    → All IsLeaf leaves → first ≤ last → last < length leaves → HasRoomFor (leaves_between first last leaves) page
    → bytes ≡ flat_map (λ (l : Leaf). l.tuple) (leaves_from first (last - first) leaves) → sizes ≡ map size_of (leaves_from first (last - first) leaves)
    → IfSome (slice_get leaves last) (λ leaf. tuple ≡ leaf.tuple) → IfSome (slice_get leaves last) (λ leaf. extra ≡ leaf.extra)
    → AllLaid page (leaves_between first last leaves) bytes sizes tuple extra
laid-between page leaves first last bytes sizes tuple extra are order inside room b s t e =
    let empty : Leaf = record { tuple = []; extra = 0; separator = [] } in
    let leaf = get_or leaves last empty in
    let front = leaves_from first (last - first) leaves in
    let split = between-is first last leaves empty order inside in
    let tuple-is : tuple ≡ leaf.tuple = of-at (λ l. tuple ≡ l.tuple) leaves last empty inside t in
    let extra-is : extra ≡ leaf.extra = of-at (λ l. extra ≡ l.extra) leaves last empty inside e in
    let laid = all-laid page front leaf (All-take IsLeaf (last - first) (drop first leaves) (All-drop IsLeaf first leaves are)) (All-get_or IsLeaf leaves last empty inside are)
    (subst (λ l. HasRoomFor l page) split room) in
    subst (λ l. AllLaid page l bytes sizes tuple extra) (sym split)
    (subst (λ u. AllLaid page (front ++ leaf ∷ []) u sizes tuple extra) (sym b)
    (subst (λ u. AllLaid page (front ++ leaf ∷ []) (flat_map (λ (l : Leaf). l.tuple) front) u tuple extra) (sym s)
    (subst (λ u. AllLaid page (front ++ leaf ∷ []) (flat_map (λ (l : Leaf). l.tuple) front) (map size_of front) u extra) (sym tuple-is)
    (subst (λ (u : ℕ). AllLaid page (front ++ leaf ∷ []) (flat_map (λ (l : Leaf). l.tuple) front) (map size_of front) leaf.tuple u) (sym extra-is) laid))))

-- ---- the open leaf of a packing

all-added-to : (leaves : List Leaf) (page : PageState) (above : List PageState) (tuples blocks : ℕ) (image : List ℕ)
    → all_added leaves (kept (page ∷ above) tuples blocks image) ≡ kept (with_leaves leaves page ∷ above) (tuples + length leaves) blocks image
all-added-to [] page above tuples blocks image = ap (λ (n : ℕ). kept (page ∷ above) n blocks image) (let e : tuples ≡ tuples + 0 = omega arith in e)
all-added-to (leaf ∷ leaves) page above tuples blocks image =
    ap (all_added leaves) (added-to leaf.tuple leaf.extra page above tuples blocks image)
    ∙ all-added-to leaves (with_tuple leaf.tuple leaf.extra page) above (suc tuples) blocks image
    ∙ ap (λ (n : ℕ). kept (with_leaves (leaf ∷ leaves) page ∷ above) n blocks image) (let e : suc tuples + length leaves ≡ tuples + suc (length leaves) = omega arith in e)

pub all-joins : (leaves : List Leaf) (pages : List PageState) (page : PageState) (tuples blocks : ℕ) (image : List ℕ) → slice_get pages 0 ≡ Some page
    → kept (set pages 0 (with_leaves leaves page)) (tuples + length leaves) blocks image ≡ all_added leaves (kept pages tuples blocks image)
all-joins leaves [] page tuples blocks image here = cc
all-joins leaves (first ∷ above) page tuples blocks image here =
    let same : page ≡ first = cc in
    ap (λ p. kept (with_leaves leaves p ∷ above) (tuples + length leaves) blocks image) same ∙ sym (all-added-to leaves first above tuples blocks image)

-- where none breaks the leaf at its turn, they come as they are added
came-joined : (fillfactor : ℕ) (key : List ℕ) (leaves : List Leaf) (page : PageState) (above : List PageState) (tuples blocks : ℕ) (image : List ℕ)
    → AllJoin fillfactor page leaves
    → leaves_came fillfactor key (kept (page ∷ above) tuples blocks image) leaves ≡ all_added leaves (kept (page ∷ above) tuples blocks image)
came-joined fillfactor key [] page above tuples blocks image are = refl
came-joined fillfactor key (leaf ∷ leaves) page above tuples blocks image are =
    let was = kept (page ∷ above) tuples blocks image in
    let here : tuple_came fillfactor key was leaf.tuple leaf.extra ≡ kept (with_tuple leaf.tuple leaf.extra page ∷ above) (suc tuples) blocks image =
    ap (λ (b : Bool). added leaf.tuple leaf.extra (if b then turned fillfactor key was else was)) are.0 ∙ added-to leaf.tuple leaf.extra page above tuples blocks image in
    ap (λ p. leaves_came fillfactor leaf.separator p leaves) here
    ∙ came-joined fillfactor leaf.separator leaves (with_tuple leaf.tuple leaf.extra page) above (suc tuples) blocks image are.1
    ∙ ap (all_added leaves) (sym (added-to leaf.tuple leaf.extra page above tuples blocks image))

pub came-are-added : (fillfactor : ℕ) (key : List ℕ) (leaves : List Leaf) (packing : Packing) (page : PageState) → slice_get packing.pages 0 ≡ Some page
    → AllJoin fillfactor page leaves → leaves_came fillfactor key packing leaves ≡ all_added leaves packing
came-are-added fillfactor key leaves packing page here are = go packing.pages here
  where
    go : (pages : List PageState) → slice_get pages 0 ≡ Some page
        → leaves_came fillfactor key (kept pages packing.tuples packing.blocks packing.image) leaves ≡ all_added leaves (kept pages packing.tuples packing.blocks packing.image)
    go [] none = cc
    go (first ∷ above) some =
        let same : page ≡ first = cc in
        came-joined fillfactor key leaves first above packing.tuples packing.blocks packing.image (subst (λ p. AllJoin fillfactor p leaves) same are)
