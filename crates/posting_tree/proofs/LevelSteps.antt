-- A level of pages on consecutive blocks, page by page.
use Rattle.std.proofs.Common.{◌≡◌, ℕ, suc, ◌+◌, ◌<◌, ◌≤◌, List, [], ◌∷◌, ◌++◌, length, map, refl, sym, ap, ◌∙◌, arith}
use Rattle.std.specs.Prelude.{Option, Some}
use Rattle.std.specs.List.{AllByRecursion}
use Rattle.std.proofs.lemmas.List.{append_assoc, append-nil, length_push, map-append}
use Rattle.pg_bytes.specs.declared.row_ptr.RowPtr.{RowPtr}
use Rattle.posting_tree.proofs.Lists.{all-push, flat-append}
use Rattle.posting_tree.specs.Building.{IsFilled, LevelPut, PagesPut, bytes_of, told_from}
use Rattle.posting_tree.specs.Levels.{AreLevel, IsPage, Kind, Node, Page, fill, first_block, greatest, items_of, least_fill, no_link, nodes_linked, to_say}

pub told-push : (first : ℕ) (keys : List RowPtr) (key : RowPtr) → told_from first (keys ++ key ∷ []) ≡ told_from first keys ++ (first + length keys, Some key) ∷ []
told-push first [] key = ap (λ (n : ℕ). (n, Some key) ∷ []) (let e : first ≡ first + 0 = omega arith in e)
told-push first (k ∷ keys) key =
    ap (λ (rest : List (ℕ × Option RowPtr)). (first, Some k) ∷ rest) (told-push (first + 1) keys key)
    ∙ ap (λ (n : ℕ). (first, Some k) ∷ (told_from (first + 1) keys ++ (n, Some key) ∷ [])) (let e : first + 1 + length keys ≡ first + suc (length keys) = omega arith in e)

first-push : {Item : Type 0} (link : ℕ) (pages : List (Page Item)) (page : Page Item) → first_block link (pages ++ page ∷ []) ≡ first_block page.block pages
first-push link [] page = refl
first-push link (p ∷ pages) page = refl

-- one page more, to which the one before it leads
pub nodes-push : {Item Key : Type 0} (kind : Kind Item Key) (link : ℕ) (pages : List (Page Item)) (page : Page Item)
    → nodes_linked kind link (pages ++ page ∷ [])
    ≡ nodes_linked kind page.block pages ++ record { block = page.block; bytes = kind.image link page.items } ∷ []
nodes-push kind link [] page = refl
nodes-push kind link (p ∷ pages) page =
    ap (λ (right : ℕ). record { block = p.block; bytes = kind.image right p.items } ∷ nodes_linked kind link (pages ++ page ∷ [])) (first-push link pages page)
    ∙ ap (λ (rest : List Node). record { block = p.block; bytes = kind.image (first_block page.block pages) p.items } ∷ rest) (nodes-push kind link pages page)

bytes-push : {Item Key : Type 0} (kind : Kind Item Key) (link : ℕ) (pages : List (Page Item)) (page : Page Item)
    → bytes_of (nodes_linked kind link (pages ++ page ∷ [])) ≡ bytes_of (nodes_linked kind page.block pages) ++ kind.image link page.items
bytes-push kind link pages page =
    ap bytes_of (nodes-push kind link pages page)
    ∙ flat-append (λ (node : Node). node.bytes) (nodes_linked kind page.block pages) (record { block = page.block; bytes = kind.image link page.items } ∷ [])
    ∙ ap (λ (l : List ℕ). bytes_of (nodes_linked kind page.block pages) ++ l) (append-nil (kind.image link page.items))

told-page : {Item : Type 0} (kind : Kind Item RowPtr) (pages : List (Page Item)) (items : List Item) (first : ℕ) (keys : List RowPtr) (key : RowPtr)
    → map (to_say kind) pages ≡ told_from first keys → greatest kind items ≡ Some key
    → map (to_say kind) (pages ++ record { block = first + length keys; items = items } ∷ []) ≡ told_from first (keys ++ key ∷ [])
told-page kind pages items first keys key told is =
    map-append (to_say kind) pages (record { block = first + length keys; items = items } ∷ [])
    ∙ ap (λ (front : List (ℕ × Option RowPtr)). front ++ (first + length keys, greatest kind items) ∷ []) told
    ∙ ap (λ (k : Option RowPtr). told_from first keys ++ (first + length keys, k) ∷ []) is
    ∙ sym (told-push first keys key)

items-page : {Item : Type 0} (pages : List (Page Item)) (page : Page Item) (before : List Item) → items_of pages ≡ before
    → items_of (pages ++ page ∷ []) ≡ before ++ page.items
items-page {Item = Item} pages page before are =
    flat-append (λ (p : Page Item). p.items) pages (page ∷ [])
    ∙ ap (λ (l : List Item). items_of pages ++ l) (append-nil page.items)
    ∙ ap (λ (l : List Item). l ++ page.items) are

put-page : {Item : Type 0} (kind : Kind Item RowPtr) (pages : List (Page Item)) (items : List Item) (old now next : List ℕ) (block link : ℕ)
    → now ≡ old ++ bytes_of (nodes_linked kind block pages) → next ≡ now ++ kind.image link items
    → next ≡ old ++ bytes_of (nodes_linked kind link (pages ++ record { block = block; items = items } ∷ []))
put-page kind pages items old now next block link before put =
    put ∙ ap (λ (l : List ℕ). l ++ kind.image link items) before
    ∙ append_assoc old (bytes_of (nodes_linked kind block pages)) (kind.image link items)
    ∙ ap (λ (l : List ℕ). old ++ l) (sym (bytes-push kind link pages (record { block = block; items = items })))

-- what a page must have to be put
pub record Fills {Item : Type 0} (kind : Kind Item RowPtr) (items : List Item) (key : RowPtr) : Type 0 where
  pub some : 0 < length items
  pub room : fill kind items ≤ kind.room
  pub last : greatest kind items ≡ Some key

pub pages-none : {Item : Type 0} (kind : Kind Item RowPtr) (old : List ℕ) (first : ℕ) → PagesPut kind old old first [] []
pages-none kind old first = record {
  pages = [];
  filled = tt;
  told = refl;
  items_are = refl;
  bytes = sym (append-nil old);
}

-- a page that others follow
pub pages-more : {Item : Type 0} (kind : Kind Item RowPtr) (old now next : List ℕ) (first : ℕ) (keys : List RowPtr) (before items : List Item) (key : RowPtr) (link : ℕ)
    → PagesPut kind old now first keys before → Fills kind items key → least_fill ≤ fill kind items → link ≡ first + length keys + 1
    → next ≡ now ++ kind.image link items → PagesPut kind old next first (keys ++ key ∷ []) (before ++ items)
pages-more kind old now next first keys before items key link p f filled link_is put =
    let page : Page _ = record { block = first + length keys; items = items } in
    let at : link ≡ first + length (keys ++ key ∷ []) = let e = length_push keys key in omega arith in
    record {
      pages = p.pages ++ page ∷ [];
      filled = all-push (IsFilled kind) p.pages page p.filled (record { is_page = record { some = f.some; room = f.room }; filled = filled });
      told = told-page kind p.pages items first keys key p.told f.last;
      items_are = items-page p.pages page before p.items_are;
      bytes = put-page kind p.pages items old now next (first + length keys) link p.bytes put
          ∙ ap (λ (n : ℕ). old ++ bytes_of (nodes_linked kind n (p.pages ++ page ∷ []))) at;
    }

level-push : {Item : Type 0} (kind : Kind Item RowPtr) (pages : List (Page Item)) (page : Page Item) → AllByRecursion (IsFilled kind) pages
    → IsPage kind page → AreLevel kind (pages ++ page ∷ [])
level-push kind [] page all is = is
level-push kind (p ∷ []) page all is = (all.0.is_page, all.0.filled, is)
level-push kind (p ∷ q ∷ pages) page all is = (all.0.is_page, all.0.filled, level-push kind (q ∷ pages) page all.1 is)

-- the rightmost page
pub level-whole : {Item : Type 0} (kind : Kind Item RowPtr) (old now next : List ℕ) (first : ℕ) (keys : List RowPtr) (before items : List Item) (key : RowPtr)
    → PagesPut kind old now first keys before → Fills kind items key → next ≡ now ++ kind.image no_link items
    → LevelPut kind old next first (keys ++ key ∷ []) (before ++ items)
level-whole kind old now next first keys before items key p f put =
    let page : Page _ = record { block = first + length keys; items = items } in
    record {
      pages = p.pages ++ page ∷ [];
      level = level-push kind p.pages page p.filled (record { some = f.some; room = f.room });
      told = told-page kind p.pages items first keys key p.told f.last;
      items_are = items-page p.pages page before p.items_are;
      bytes = put-page kind p.pages items old now next (first + length keys) no_link p.bytes put;
    }
