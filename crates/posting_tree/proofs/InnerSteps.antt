-- Levels above the leaves, page by page.
use Rattle.std.proofs.Common.{◌≡◌, ℕ, suc, ◌+◌, ◌-◌, ◌*◌, ◌<◌, ◌≤◌, List, [], ◌∷◌, ◌++◌, length, map, take, drop, get_or, refl, sym, ap, subst, ◌∙◌, arith, length-append}
use Rattle.std.specs.Prelude.{Option, Some, None, if◌then◌else◌, nat_eq}
use Rattle.std.specs.List.{flat_map, last_or}
use Rattle.std.specs.Option.{unwrap_or}
use Rattle.std.proofs.lemmas.List.{append_assoc, append-nil, length-take-le, length_push, take-append-drop, take_all, take_more}
use Rattle.std.proofs.lemmas.List.Sums.{sum_by-cons}
use Rattle.pg_bytes.proofs.Writes.{length-number_bytes}
use Rattle.pg_bytes.specs.declared.row_ptr.RowPtr.{RowPtr}
use Rattle.posting_tree.proofs.LeafSteps.{last_or-push}
use Rattle.posting_tree.proofs.LevelSteps.{Fills, level-whole, pages-more, pages-none}
use Rattle.posting_tree.proofs.Segments.{length-row_pointer}
use Rattle.posting_tree.proofs.Lists.{flat-append}
use Rattle.posting_tree.specs.Building.{IsPushed, LevelPut, PagesPut, links_from}
use Rattle.posting_tree.specs.Levels.{Downlink, fill, greatest, no_link}
use Rattle.posting_tree.specs.PostingTree.{data_page, inner_flags, inner_kind, posting_item, zero_pointer}

-- ---- items that lead to consecutive blocks

pub links-append : (child : ℕ) (front back : List RowPtr) → links_from child (front ++ back) ≡ links_from child front ++ links_from (child + length front) back
links-append child [] back = ap (λ (n : ℕ). links_from n back) (let e : child ≡ child + 0 = omega arith in e)
links-append child (key ∷ front) back =
    ap (λ (rest : List (Downlink RowPtr)). record { child = child; key = key } ∷ rest)
    (links-append (child + 1) front back
    ∙ ap (λ (n : ℕ). links_from (child + 1) front ++ links_from n back) (let e : child + 1 + length front ≡ child + suc (length front) = omega arith in e))

pub length-links : (child : ℕ) (keys : List RowPtr) → length (links_from child keys) ≡ length keys
length-links child [] = refl
length-links child (key ∷ keys) = ap suc (length-links (child + 1) keys)

keys-of-links : (child : ℕ) (keys : List RowPtr) → map inner_kind.key_of (links_from child keys) ≡ keys
keys-of-links child [] = refl
keys-of-links child (key ∷ keys) = ap (λ (rest : List RowPtr). key ∷ rest) (keys-of-links (child + 1) keys)

-- the item of one child more
pub items-more : (old now next : List ℕ) (child at : ℕ) (keys : List RowPtr) (d : RowPtr) → at < length keys
    → now ≡ old ++ flat_map posting_item (links_from child (take at keys))
    → next ≡ now ++ posting_item (record { child = child + at; key = get_or keys at d })
    → next ≡ old ++ flat_map posting_item (links_from child (take (at + 1) keys))
items-more old now next child at keys d inside before put =
    let key : RowPtr = get_or keys at d in
    let size : length (take at keys) ≡ at = length-take-le at keys (omega arith) in
    put
    ∙ ap (λ (l : List ℕ). l ++ posting_item (record { child = child + at; key = key })) before
    ∙ append_assoc old (flat_map posting_item (links_from child (take at keys))) (posting_item (record { child = child + at; key = key }))
    ∙ ap (λ (l : List ℕ). old ++ (flat_map posting_item (links_from child (take at keys)) ++ l)) (sym (append-nil (posting_item (record { child = child + at; key = key }))))
    ∙ ap (λ (l : List ℕ). old ++ l) (sym (flat-append posting_item (links_from child (take at keys)) (record { child = child + at; key = key } ∷ [])))
    ∙ ap (λ (n : ℕ). old ++ flat_map posting_item (links_from child (take at keys) ++ record { child = child + n; key = key } ∷ [])) (sym size)
    ∙ ap (λ (l : List (Downlink RowPtr)). old ++ flat_map posting_item l) (sym (links-append child (take at keys) (key ∷ [])))
    ∙ ap (λ (k : List RowPtr). old ++ flat_map posting_item (links_from child k)) (sym (take_more keys at d inside))

-- ---- a page

-- the greatest pointer of a page is the last one's
pub last-link : (child : ℕ) (keys : List RowPtr) (d : RowPtr) → 0 < length keys
    → greatest inner_kind (links_from child keys) ≡ Some (get_or keys (length keys - 1) d)
last-link child keys d some =
    let count : ℕ = length keys - 1 in
    let split : keys ≡ take count keys ++ get_or keys count d ∷ [] =
    sym (take_all (count + 1) keys (omega arith)) ∙ take_more keys count d (omega arith) in
    ap (last_or None) (keys-of-links child keys) ∙ ap (last_or None) split ∙ last_or-push None (take count keys) (get_or keys count d)

pub inner-page : (right child : ℕ) (keys : List RowPtr) (content : List ℕ) (d : RowPtr) → 0 < length keys
    → content ≡ [] ++ flat_map posting_item (links_from child keys)
    → data_page inner_flags (length keys) right (if nat_eq right no_link then zero_pointer else get_or keys (length keys - 1) d) content
    ≡ inner_kind.image right (links_from child keys)
inner-page right child keys content d some is =
    ap (λ (bytes : List ℕ). data_page inner_flags (length keys) right (if nat_eq right no_link then zero_pointer else get_or keys (length keys - 1) d) bytes) is
    ∙ ap (λ (n : ℕ). data_page inner_flags n right (if nat_eq right no_link then zero_pointer else get_or keys (length keys - 1) d) (flat_map posting_item (links_from child keys)))
    (sym (length-links child keys))
    ∙ ap (λ (o : Option RowPtr). data_page inner_flags (length (links_from child keys)) right (if nat_eq right no_link then zero_pointer else unwrap_or o zero_pointer)
    (flat_map posting_item (links_from child keys)))
    (sym (last-link child keys d some))

length-item : (link : Downlink RowPtr) → length (posting_item link) ≡ 10
unfolding posting_item
length-item link = simp (length-append, length-number_bytes, length-row_pointer) refl

pub length-items : (links : List (Downlink RowPtr)) → length (flat_map posting_item links) ≡ 10 * length links
length-items [] = refl
length-items (link ∷ links) =
    let one = length-item link in
    let rest = length-items links in
    length-append (posting_item link) (flat_map posting_item links) ∙ omega arith

pub content-size : (child : ℕ) (keys : List RowPtr) (content : List ℕ) → content ≡ [] ++ flat_map posting_item (links_from child keys)
    → length content ≡ 10 * length keys
content-size child keys content is = ap length is ∙ length-items (links_from child keys) ∙ ap (λ (n : ℕ). 10 * n) (length-links child keys)

pub fill-inner : (links : List (Downlink RowPtr)) → fill inner_kind links ≡ 10 * length links
fill-inner [] = refl
fill-inner (link ∷ links) =
    let rest = fill-inner links in
    sum_by-cons (λ (l : Downlink RowPtr). 10) link links ∙ omega arith

fills : (child : ℕ) (keys : List RowPtr) (key : RowPtr) → 0 < length keys → length keys ≤ 815 → greatest inner_kind (links_from child keys) ≡ Some key
    → Fills inner_kind (links_from child keys) key
fills child keys key some few last =
    let size = length-links child keys in
    let all = fill-inner (links_from child keys) in
    record { some = omega arith; room = omega arith; last = last }

-- ---- a level under way

pub record InnerTaken (old now : List ℕ) (first : ℕ) (keys : List RowPtr) (below : ℕ) (all : List RowPtr) (child : ℕ) (left : List RowPtr) : Type 0 where
  pub taken : List RowPtr
  pub split : all ≡ taken ++ left
  pub child_is : child ≡ below + length taken
  pub count : 815 * length keys ≡ length taken
  pub put : PagesPut inner_kind old now first keys (links_from below taken)

pub inner-none : (old : List ℕ) (first : ℕ) (keys : List RowPtr) (below : ℕ) (all : List RowPtr) → keys ≡ [] → InnerTaken old old first keys below all below all
inner-none old first keys below all none = subst (λ (k : List RowPtr). InnerTaken old old first k below all below all) (sym none)
    (record {
      taken = [];
      split = refl;
      child_is = omega arith;
      count = refl;
      put = pages-none inner_kind old first;
    })

pub inner-more : (old now next : List ℕ) (first : ℕ) (keys keys' : List RowPtr) (below : ℕ) (all : List RowPtr) (child child' right : ℕ) (left full behind : List RowPtr)
    → InnerTaken old now first keys below all child left → 815 < length left → full ≡ take 815 left → behind ≡ drop 815 left → child' ≡ child + 815
    → right ≡ first + length keys + 1 → next ≡ now ++ inner_kind.image right (links_from child full)
    → IsPushed keys keys' (greatest inner_kind (links_from child full)) → InnerTaken old next first keys' below all child' behind
inner-more old now next first keys keys' below all child child' right left full behind t long full_is behind_is child_is right_is put pushed =
    let size : length full ≡ 815 = ap length full_is ∙ length-take-le 815 left (omega arith) in
    let items : links_from child full ≡ links_from (below + length t.taken) full = ap (λ (n : ℕ). links_from n full) t.child_is in
    let joined : links_from below t.taken ++ links_from child full ≡ links_from below (t.taken ++ full) =
    ap (λ (l : List (Downlink RowPtr)). links_from below t.taken ++ l) items ∙ sym (links-append below t.taken full) in
    let filled = fill-inner (links_from child full) in
    let links = length-links child full in
    let before = t.child_is in
    let count = t.count in
    let more = length-append t.taken full in
    let pages : PagesPut inner_kind old next first (keys ++ pushed.0 ∷ []) (links_from below t.taken ++ links_from child full) =
    pages-more inner_kind old now next first keys (links_from below t.taken) (links_from child full) pushed.0 right t.put
    (fills child full pushed.0 (omega arith) (omega arith) pushed.1) (omega arith) right_is put in
    let cut : left ≡ full ++ behind =
    sym (take-append-drop 815 left) ∙ ap (λ (l : List RowPtr). l ++ drop 815 left) (sym full_is) ∙ ap (λ (l : List RowPtr). full ++ l) (sym behind_is) in
    record {
      taken = t.taken ++ full;
      split = t.split ∙ ap (λ (l : List RowPtr). t.taken ++ l) cut ∙ sym (append_assoc t.taken full behind);
      child_is = omega arith;
      count = (let pushed_size = ap length pushed.2 ∙ length_push keys pushed.0 in omega arith);
      put = subst (λ (k : List RowPtr). PagesPut inner_kind old next first k (links_from below (t.taken ++ full))) (sym pushed.2)
          (subst (PagesPut inner_kind old next first (keys ++ pushed.0 ∷ [])) joined pages);
    }

pub inner-whole : (old now next : List ℕ) (first : ℕ) (keys keys' : List RowPtr) (below : ℕ) (all : List RowPtr) (child : ℕ) (left : List RowPtr)
    → InnerTaken old now first keys below all child left → 0 < length left → length left ≤ 815
    → next ≡ now ++ inner_kind.image no_link (links_from child left) → IsPushed keys keys' (greatest inner_kind (links_from child left))
    → LevelPut inner_kind old next first keys' (links_from below all)
inner-whole old now next first keys keys' below all child left t some few put pushed =
    let items : links_from child left ≡ links_from (below + length t.taken) left = ap (λ (n : ℕ). links_from n left) t.child_is in
    let joined : links_from below t.taken ++ links_from child left ≡ links_from below all =
    ap (λ (l : List (Downlink RowPtr)). links_from below t.taken ++ l) items ∙ sym (links-append below t.taken left)
    ∙ ap (links_from below) (sym t.split) in
    let level : LevelPut inner_kind old next first (keys ++ pushed.0 ∷ []) (links_from below t.taken ++ links_from child left) =
    level-whole inner_kind old now next first keys (links_from below t.taken) (links_from child left) pushed.0 t.put
    (fills child left pushed.0 some few pushed.1) put in
    subst (λ (k : List RowPtr). LevelPut inner_kind old next first k (links_from below all)) (sym pushed.2)
    (subst (LevelPut inner_kind old next first (keys ++ pushed.0 ∷ [])) joined level)

-- how many pages the level has
pub inner-count : (old now : List ℕ) (first : ℕ) (keys keys' : List RowPtr) (below : ℕ) (all : List RowPtr) (child : ℕ) (left : List RowPtr) (o : Option RowPtr)
    → InnerTaken old now first keys below all child left → 0 < length left → 1 < length all → IsPushed keys keys' o → 2 * length keys' ≤ length all
inner-count old now first keys keys' below all child left o t some several pushed =
    let count = t.count in
    let split = ap length t.split ∙ length-append t.taken left in
    let more = ap length pushed.2 ∙ length_push keys pushed.0 in
    omega arith

-- the children of what is left
pub inner-children : (old now : List ℕ) (first : ℕ) (keys : List RowPtr) (below : ℕ) (all : List RowPtr) (child : ℕ) (left : List RowPtr)
    → InnerTaken old now first keys below all child left
    → (child + length left ≡ below + length all) × (815 * length keys + length left ≡ length all)
inner-children old now first keys below all child left t =
    let count = t.count in
    let at = t.child_is in
    let split = ap length t.split ∙ length-append t.taken left in
    (omega arith, omega arith)
