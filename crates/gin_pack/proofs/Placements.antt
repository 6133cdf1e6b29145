-- The pages of a level as they come into a file one by one.
use Rattle.std.proofs.Common.{◌≡◌, ℕ, zero, suc, ◌+◌, ◌*◌, ◌%◌, ◌<◌, ◌≤◌, List, [], ◌∷◌, ◌++◌, length, take, drop, refl, sym, ap, subst, ◌∙◌, arith, length-append, lt-ltb}
use Rattle.std.specs.Prelude.{Bool, Option, Some, None, cond, map, nat_lt, if◌then◌else◌, true, false}
use Rattle.std.specs.List.{AllByRecursion, AllZip, flat_map, last_or}
use Rattle.std.proofs.lemmas.List.{append_assoc, append-nil, drop-drop, drop-set-lt, length-take-le, map-append, take_all}
use Rattle.std.proofs.lemmas.Grind.{flat_map-append}
use Rattle.std.proofs.Math.Seq.{drop-cons}
use Rattle.std.proofs.Math.ListN.{get_or, set}
use Rattle.std.proofs.lemmas.Bool.{le-ltb, ltb-false, ltb-true}
use Rattle.pg_bytes.specs.Blocks.{block_count}
use Rattle.pg_bytes.specs.PageLayout.{page_size}
use Rattle.opclass.specs.declared.types.ColType.{ColType}
use Rattle.gin_entry.specs.declared.entry.Entry.{Entry}
use Rattle.posting_tree.specs.Levels.{Downlink, Kind, Node, Page, first_block, no_link, nodes_linked, nodes_of_level, said, to_say}
use Rattle.gin_file.specs.EntryTree.{Item, entry_page, inner_flags, item_kind, link_item}
use Rattle.gin_pack.specs.Pass.Filling.{HasItems, IsFilled, IsLevelOf}
use Rattle.gin_pack.specs.Pass.Placing.{ArePlaced, CanPlace, LeadsToPage, PlacesPage, leads_to, link_behind, numbered}
use Rattle.gin_pack.specs.declared.level.FullPage.{FullPage}
use Rattle.gin_pack.specs.declared.level.Level.{Level}
use Rattle.gin_pack.proofs.Fillings.{tuples_of}
use Rattle.gin_pack.proofs.PageParts.{length-entry_page}
use Rattle.gin_pack.proofs.Placings.{have_room}

-- ---- lists place by place

-- the items of two lists at a place
pub record MeetAt {X Y : Type 0} (R : X → Y → Type 0) (xs : List X) (y : Y) (at : ℕ) : Type 0 where
  pub item : X
  pub front : take (suc at) xs ≡ take at xs ++ item ∷ []
  pub meets : R item y
  pub inside : at < length xs

pub meet-at : {X Y : Type 0} (R : X → Y → Type 0) (xs : List X) (ys : List Y) (at : ℕ) (y : Y) (rest : List Y)
    → AllZip R xs ys → drop at ys ≡ y ∷ rest → MeetAt R xs y at
meet-at R [] [] zero y rest all here = absurd cc
meet-at R [] [] (suc at) y rest all here = absurd cc
meet-at R [] (b ∷ ys) at y rest all here = absurd all
meet-at R (a ∷ xs) [] at y rest all here = absurd all
meet-at R (a ∷ xs) (b ∷ ys) zero y rest all here =
    let same : b ≡ y = cc in
    record { item = a; front = refl; meets = subst (R a) same all.0; inside = omega arith }
meet-at R (a ∷ xs) (b ∷ ys) (suc at) y rest all here =
    let later = meet-at R xs ys at y rest all.1 here in
    let within = later.inside in
    record { item = later.item; front = ap (λ l. a ∷ l) later.front; meets = later.meets; inside = omega arith }

pub length-zip : {X Y : Type 0} (R : X → Y → Type 0) (xs : List X) (ys : List Y) → AllZip R xs ys → length xs ≡ length ys
length-zip R [] [] all = refl
length-zip R [] (b ∷ ys) all = absurd all
length-zip R (a ∷ xs) [] all = absurd all
length-zip R (a ∷ xs) (b ∷ ys) all = ap suc (length-zip R xs ys all.1)

-- ---- pages of a level that has some tuples on each

-- a page with some tuples
abbrev pub HasSome : ColType → ℕ → List Item → FullPage → Type 0
HasSome kind flags items page = HasItems kind flags items page × (1 ≤ length items)

pub have-some : (kind : ColType) (flags : ℕ) (full : List (List Item)) (last : List Item) (pages : List FullPage)
    → AllZip (HasItems kind flags) (full ++ last ∷ []) pages → AllByRecursion (IsFilled flags) full → 1 ≤ length last
    → AllZip (HasSome kind flags) (full ++ last ∷ []) pages
have-some kind flags [] last [] have filled some = absurd have
have-some kind flags [] last (page ∷ []) have filled some = ((have.0, some), tt)
have-some kind flags [] last (page ∷ next ∷ pages) have filled some = absurd have.1
have-some kind flags (items ∷ full) last [] have filled some = absurd have
have-some kind flags (items ∷ full) last (page ∷ pages) have filled some =
    let many = filled.0.many in
    ((have.0, omega arith), have-some kind flags full last pages have.1 filled.1 some)

-- some items have a last one
pub last-entry : (otherwise : Option Entry) (items : List Item) → 1 ≤ length items
    → (entry : Entry) × (last_or otherwise (map (λ item. item.entry) items) ≡ Some entry)
last-entry otherwise [] some = absurd (omega arith)
last-entry otherwise (item ∷ []) some = (item.entry, refl)
last-entry otherwise (item ∷ next ∷ items) some = last-entry (Some item.entry) (next ∷ items) (omega arith)

-- ---- one page more

pub numbered-push : (block : ℕ) (cut : List (List Item)) (items : List Item)
    → numbered block (cut ++ items ∷ []) ≡ numbered block cut ++ record { block = block + length cut; items = items } ∷ []
numbered-push block [] items = ap (λ (b : ℕ). record { block = b; items = items } ∷ []) (let e : block ≡ block + 0 = omega arith in e)
numbered-push block (first ∷ cut) items =
    ap (λ (l : List (Page Item)). record { block = block; items = first } ∷ l) (numbered-push (suc block) cut items
    ∙ ap (λ (b : ℕ). numbered (suc block) cut ++ record { block = b; items = items } ∷ []) (let e : suc block + length cut ≡ block + suc (length cut) = omega arith in e))

pub first_block-push : (link : ℕ) (pages : List (Page Item)) (page : Page Item) → first_block link (pages ++ page ∷ []) ≡ first_block page.block pages
first_block-push link [] page = refl
first_block-push link (first ∷ pages) page = refl

pub nodes_linked-push : (kind : Kind Item Entry) (link : ℕ) (pages : List (Page Item)) (page : Page Item)
    → nodes_linked kind link (pages ++ page ∷ [])
    ≡ nodes_linked kind page.block pages ++ record { block = page.block; bytes = kind.image link page.items } ∷ []
nodes_linked-push kind link [] page = refl
nodes_linked-push kind link (first ∷ pages) page =
    ap (λ (b : ℕ). record { block = first.block; bytes = kind.image b first.items } ∷ nodes_linked kind link (pages ++ page ∷ [])) (first_block-push link pages page)
    ∙ ap (λ (l : List Node). record { block = first.block; bytes = kind.image (first_block page.block pages) first.items } ∷ l) (nodes_linked-push kind link pages page)

-- the link of the last of so many pages, which leads to the next one
abbrev pub link_at : List ℕ → ℕ → List (List Item) → ℕ
link_at old at cut = if nat_lt at (length cut) then block_count old + at else no_link

-- so many pages of a level have come behind the blocks of a file
pub record AreUnderWay (kind : ColType) (flags : ℕ) (cut : List (List Item)) (at : ℕ) (old new : List ℕ) (above : Level) : Type 0 where
  pub links : List (Downlink Entry)
  pub said_are : map said links ≡ map (to_say (item_kind flags)) (numbered (block_count old) (take at cut))
  pub level : IsLevelOf kind inner_flags (map (link_item kind) links) above
  pub bytes : new ≡ old ++ flat_map (λ node. node.bytes) (nodes_linked (item_kind flags) (link_at old at cut) (numbered (block_count old) (take at cut)))
  pub grown : length new ≡ length old + at * page_size

pub none-placed : (kind : ColType) (flags : ℕ) (cut : List (List Item)) (file : List ℕ) (above : Level) → IsLevelOf kind inner_flags [] above
    → AreUnderWay kind flags cut 0 file file above
none-placed kind flags cut file above is = record {
  links = [];
  said_are = refl;
  level = is;
  bytes = sym (append-nil file);
  grown = omega arith;
}

-- the link behind a page is that of the pages with it
pub link-step : (block at count : ℕ) → at < count → link_behind (block + at) (block + count) ≡ (if nat_lt (suc at) count then block + suc at else no_link)
link-step block at count inside =
    elim (nat_lt (suc at) count) as (λ (b : Bool). nat_lt (suc at) count ≡ b → link_behind (block + at) (block + count) ≡ cond b (block + suc at) no_link) [
      | true ↦ λ is.
          let before : suc at < count = ltb-true (suc at) count is in
          ap (λ (b : Bool). cond b (block + at + 1) no_link) (lt-ltb (block + at + 1) (block + count) (omega arith))
          ∙ (let e : block + at + 1 ≡ block + suc at = omega arith in e)
      | false ↦ λ is.
          let behind : count ≤ suc at = ltb-false (suc at) count is in
          ap (λ (b : Bool). cond b (block + at + 1) no_link) (le-ltb (block + at + 1) (block + count) (omega arith))
    ] refl

-- one page more
pub page-more : (kind : ColType) (flags : ℕ) (cut : List (List Item)) (pages : List FullPage) (at : ℕ) (page : FullPage) (rest : List FullPage)
    (old now new : List ℕ) (above after : Level) (end : ℕ)
    → AllZip (HasSome kind flags) cut pages → drop at pages ≡ page ∷ rest → length old % page_size ≡ 0 → end ≡ block_count old + length cut
    → PlacesPage now new page end → LeadsToPage now page above after
    → AreUnderWay kind flags cut at old now above → AreUnderWay kind flags cut (suc at) old new after
page-more kind flags cut pages at page rest old now new above after end have here whole ends places leads way =
    let met = meet-at (HasSome kind flags) cut pages at page rest have here in
    let items : List Item = met.item in
    let has = met.meets.0 in
    let inside = met.inside in
    let last = last-entry None items met.meets.1 in
    let grown = way.grown in
    let block : ℕ = block_count old + at in
    let here_is : block_count now ≡ block = omega arith in
    let before : length (take at cut) ≡ at = length-take-le at cut (omega arith) in
    let link : Downlink Entry = record { child = block; key = last.0 } in
    let node : Page Item = record { block = block; items = items } in
    let right : ℕ = link_at old (suc at) cut in
    let image : List ℕ = entry_page flags right (tuples_of items) in
    let numbers : numbered (block_count old) (take (suc at) cut) ≡ numbered (block_count old) (take at cut) ++ node ∷ [] =
    ap (numbered (block_count old)) met.front
    ∙ numbered-push (block_count old) (take at cut) items
    ∙ ap (λ (n : ℕ). numbered (block_count old) (take at cut) ++ record { block = block_count old + n; items = items } ∷ []) before in
    let bytes_of : List Node → List ℕ = flat_map (λ node. node.bytes) in
    let linked : nodes_linked (item_kind flags) right (numbered (block_count old) (take (suc at) cut))
    ≡ nodes_linked (item_kind flags) block (numbered (block_count old) (take at cut)) ++ record { block = block; bytes = image } ∷ [] =
    ap (nodes_linked (item_kind flags) right) numbers ∙ nodes_linked-push (item_kind flags) right (numbered (block_count old) (take at cut)) node in
    let to_here : link_at old at cut ≡ block = ap (λ (b : Bool). cond b block no_link) (lt-ltb at (length cut) inside) in
    let page_bytes : new ≡ now ++ image =
    places kind flags items has
    ∙ ap (λ (b : ℕ). now ++ entry_page flags (link_behind b end) (tuples_of items)) here_is
    ∙ ap (λ (e : ℕ). now ++ entry_page flags (link_behind block e) (tuples_of items)) ends
    ∙ ap (λ (r : ℕ). now ++ entry_page flags r (tuples_of items)) (link-step (block_count old) at (length cut) inside) in
    record {
      links = way.links ++ link ∷ [];
      said_are =
          map-append said way.links (link ∷ [])
          ∙ ap (λ l. l ++ (block, Some last.0) ∷ []) way.said_are
          ∙ ap (λ (g : Option Entry). map (to_say (item_kind flags)) (numbered (block_count old) (take at cut)) ++ (block, g) ∷ []) (sym last.1)
          ∙ sym (map-append (to_say (item_kind flags)) (numbered (block_count old) (take at cut)) (node ∷ []))
          ∙ ap (map (to_say (item_kind flags))) (sym numbers);
      level =
          subst (λ (l : List Item). IsLevelOf kind inner_flags l after)
          (ap (λ (b : ℕ). map (link_item kind) way.links ++ leads_to kind b last.0 ∷ []) here_is
          ∙ sym (map-append (link_item kind) way.links (link ∷ [])))
          (leads kind flags items last.0 (map (link_item kind) way.links) has last.1 way.level.put);
      bytes =
          page_bytes
          ∙ ap (λ (l : List ℕ). l ++ image) (way.bytes ∙ ap (λ (r : ℕ). old ++ bytes_of (nodes_linked (item_kind flags) r (numbered (block_count old) (take at cut)))) to_here)
          ∙ append_assoc old _ image
          ∙ ap (λ (l : List ℕ). old ++ l)
          (sym (ap bytes_of linked
          ∙ flat_map-append (λ (n : Node). n.bytes) (nodes_linked (item_kind flags) block (numbered (block_count old) (take at cut))) (record { block = block; bytes = image } ∷ [])
          ∙ ap (λ (l : List ℕ). bytes_of (nodes_linked (item_kind flags) block (numbered (block_count old) (take at cut))) ++ l) (append-nil image)));
      grown =
          let size = length-entry_page flags right (tuples_of items) (have_room kind flags items page has) in
          let both = length-append now image in
          let longer = ap length page_bytes in
          omega arith;
    }

-- a page may be placed
pub can_place : (kind : ColType) (flags : ℕ) (cut : List (List Item)) (pages : List FullPage) (at : ℕ) (page : FullPage) (rest : List FullPage)
    (old now : List ℕ) (above : Level)
    → AllZip (HasSome kind flags) cut pages → drop at pages ≡ page ∷ rest → AreUnderWay kind flags cut at old now above → CanPlace above page
can_place kind flags cut pages at page rest old now above have here way =
    let met = meet-at (HasSome kind flags) cut pages at page rest have here in
    let last = last-entry None met.item met.meets.1 in
    record {
      kind = kind;
      flags = flags;
      items = met.item;
      has = met.meets.0;
      entry = last.0;
      greatest_is = last.1;
      links = map (link_item kind) way.links;
      put = way.level.put;
    }

-- all of them
pub all-placed : (kind : ColType) (flags : ℕ) (cut : List (List Item)) (at : ℕ) (old new : List ℕ) (above : Level)
    → length old % page_size ≡ 0 → length cut ≤ at → AreUnderWay kind flags cut at old new above → ArePlaced kind flags cut old new above
all-placed kind flags cut at old new above whole_blocks all way =
    let whole : take at cut ≡ cut = take_all at cut all in
    let none : link_at old at cut ≡ no_link = ap (λ (b : Bool). cond b (block_count old + at) no_link) (le-ltb at (length cut) all) in
    record {
      whole = whole_blocks;
      links = way.links;
      said_are = way.said_are ∙ ap (λ c. map (to_say (item_kind flags)) (numbered (block_count old) c)) whole;
      level = way.level;
      bytes =
          way.bytes
          ∙ ap (λ (r : ℕ). old ++ flat_map (λ node. node.bytes) (nodes_linked (item_kind flags) r (numbered (block_count old) (take at cut)))) none
          ∙ ap (λ c. old ++ flat_map (λ node. node.bytes) (nodes_of_level (item_kind flags) (numbered (block_count old) c))) whole;
    }

-- the page at a place of those that are left
pub here-at : (pages now : List FullPage) (at : ℕ) (page : FullPage) → page ≡ get_or now at page → at < length now → drop at now ≡ drop at pages
    → drop at pages ≡ page ∷ drop (suc at) now
here-at pages now at page is inside same =
    sym same ∙ drop-cons now at page inside ∙ ap (λ (p : FullPage). p ∷ drop (suc at) now) (sym is)

-- those behind it stay
pub left-behind : (pages now : List FullPage) (at : ℕ) (page : FullPage) → drop at now ≡ drop at pages
    → drop (at + 1) (set now at page) ≡ drop (at + 1) pages
left-behind pages now at page same =
    drop-set-lt (at + 1) now at page (omega arith)
    ∙ sym (drop-drop 1 at now) ∙ ap (drop 1) same ∙ drop-drop 1 at pages
