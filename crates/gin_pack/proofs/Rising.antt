-- How the levels of the entry tree rise, each from the one below.
use Rattle.std.proofs.Common.{◌≡◌, ◌≢◌, ℕ, zero, suc, ◌+◌, ◌*◌, ◌%◌, ◌<◌, ◌≤◌, List, [], ◌∷◌, ◌++◌, length, take, drop, refl, sym, ap, subst, ◌∙◌, arith, length-append}
use Rattle.std.specs.Prelude.{Option, None, map}
use Rattle.std.specs.List.{AllByRecursion, AllZip, flat_map, last_or, range_with_len, sum_by}
use Rattle.std.proofs.Math.ListN.{get_or}
use Rattle.std.proofs.lemmas.List.{append_assoc, append-nil, length-map, map-append}
use Rattle.std.proofs.lemmas.List.Sums.{sum_by-cons}
use Rattle.std.proofs.lemmas.List.Concat.{flat_map-cons}
use Rattle.std.proofs.lemmas.Grind.{flat_map-append}
use Rattle.pg_bytes.specs.Blocks.{block_at, block_count}
use Rattle.pg_bytes.specs.Image.{placed}
use Rattle.pg_bytes.specs.PageLayout.{page_size}
use Rattle.opclass.specs.declared.types.ColType.{ColType}
use Rattle.gin_entry.specs.declared.entry.Entry.{Entry}
use Rattle.posting_tree.specs.Levels.{AreAbove, AreLevel, Downlink, IsPage, Kind, Node, Page, fill, first_block, items_of, no_link, nodes_linked, nodes_of_level, said, to_say, top_of}
use Rattle.posting_tree.specs.Reading.{StandIn}
use Rattle.gin_file.specs.EntryTree.{Item, entry_page, inner_flags, inner_kind, item_kind, item_size, link_item}
use Rattle.gin_pack.specs.File.{blocks_of}
use Rattle.gin_pack.specs.Pass.Filling.{HasItems, IsFilled, IsLevelOf}
use Rattle.gin_pack.specs.Pass.Placing.{AreCut, ArePagesOf, ArePlaceable, ArePlaced, HasRisen, IsBehindMeta, Rises, numbered}
use Rattle.gin_pack.specs.declared.level.FullPage.{FullPage}
use Rattle.gin_pack.specs.declared.level.Level.{Level}
use Rattle.gin_pack.proofs.Blocks.{AreSized, FollowFrom, all-append, block-kept, bytes_of, each-block, each-node, follow-blocks, length-bytes_of, length-root-placed, others-kept, range-append, root-placed, root-stands, stand-behind, stand-kept}
use Rattle.gin_pack.proofs.Fillings.{tuples_of, two-each}
use Rattle.gin_pack.proofs.PageParts.{length-entry_page}
use Rattle.gin_pack.proofs.Placements.{length-zip}
use Rattle.gin_pack.proofs.Placings.{have_room}

-- ---- items told as others

map-map : {A B C : Type 0} (g : B → C) (f : A → B) (xs : List A) → map g (map f xs) ≡ map (λ x. g (f x)) xs
map-map g f [] = refl
map-map g f (x ∷ xs) = ap (λ l. g (f x) ∷ l) (map-map g f xs)

sum-map : {A B : Type 0} (g : B → ℕ) (f : A → B) (xs : List A) → sum_by g (map f xs) ≡ sum_by (λ x. g (f x)) xs
sum-map g f [] = refl
sum-map g f (x ∷ xs) =
    let a = sum_by-cons g (f x) (map f xs) in
    let b = sum_by-cons (λ x. g (f x)) x xs in
    let rest = sum-map g f xs in
    omega arith

-- a list that is one behind another, told as others
pub record Apart {A B : Type 0} (f : A → B) (ys zs : List B) (xs : List A) : Type 0 where
  pub front : List A
  pub back : List A
  pub all : front ++ back ≡ xs
  pub front_is : map f front ≡ ys
  pub back_is : map f back ≡ zs

apart : {A B : Type 0} (f : A → B) (ys zs : List B) (xs : List A) → ys ++ zs ≡ map f xs → Apart f ys zs xs
apart f [] zs xs same = record { front = []; back = xs; all = refl; front_is = refl; back_is = sym same }
apart f (y ∷ ys) zs [] same = absurd cc
apart {B = B} f (y ∷ ys) zs (x ∷ xs) same =
    let first : f x ≡ y = cc in
    let rest : ys ++ zs ≡ map f xs = cc in
    let later = apart f ys zs xs rest in
    record {
      front = x ∷ later.front;
      back = later.back;
      all = ap (λ l. x ∷ l) later.all;
      front_is = ap (λ l. f x ∷ l) later.front_is ∙ ap (λ (b : B). b ∷ ys) first;
      back_is = later.back_is;
    }

-- a page whose items are told as others
abbrev pub retold : {A B : Type 0} → (A → B) → Page A → Page B
retold f page = record { block = page.block; items = map f page.items }

-- pages of these items, told as others
pub record Regrouped {A B : Type 0} (f : A → B) (pages : List (Page B)) (xs : List A) : Type 0 where
  pub pages_are : List (Page A)
  pub same : map (retold f) pages_are ≡ pages
  pub all : items_of pages_are ≡ xs

pub regrouped : {A B : Type 0} (f : A → B) (pages : List (Page B)) (xs : List A) → items_of pages ≡ map f xs → Regrouped f pages xs
regrouped f [] [] same = record { pages_are = []; same = refl; all = refl }
regrouped f [] (x ∷ xs) same = absurd cc
regrouped {A = A} {B = B} f (page ∷ pages) xs same =
    let split = apart f page.items (items_of pages) xs (sym (flat_map-cons (λ (p : Page B). p.items) page pages) ∙ same) in
    let later = regrouped f pages split.back (sym split.back_is) in
    let first : Page A = record { block = page.block; items = split.front } in
    record {
      pages_are = first ∷ later.pages_are;
      same =
          ap (λ (p : Page B). p ∷ map (retold f) later.pages_are)
          (ap (λ (l : List B). record { block = page.block; items = l }) split.front_is)
          ∙ ap (λ l. page ∷ l) later.same;
      all =
          flat_map-cons (λ (p : Page A). p.items) first later.pages_are
          ∙ ap (λ (l : List A). split.front ++ l) later.all
          ∙ split.all;
    }

-- ---- links told as tuples

links-said : (kind : ColType) (pages : List (Page (Downlink Entry)))
    → map (to_say (item_kind inner_flags)) (map (retold (link_item kind)) pages) ≡ map (to_say (inner_kind kind)) pages
links-said kind [] = refl
links-said kind (page ∷ pages) =
    ap (λ (keys : List Entry). (page.block, last_or None keys) ∷ map (to_say (item_kind inner_flags)) (map (retold (link_item kind)) pages))
    (map-map (λ (i : Item). i.entry) (link_item kind) page.items)
    ∙ ap (λ l. to_say (inner_kind kind) page ∷ l) (links-said kind pages)

blocks-retold : (kind : ColType) (pages : List (Page (Downlink Entry)))
    → map (λ (p : Page Item). p.block) (map (retold (link_item kind)) pages) ≡ map (λ p. p.block) pages
blocks-retold kind [] = refl
blocks-retold kind (page ∷ pages) = ap (λ l. page.block ∷ l) (blocks-retold kind pages)

first-retold : (kind : ColType) (link : ℕ) (pages : List (Page (Downlink Entry)))
    → first_block link (map (retold (link_item kind)) pages) ≡ first_block link pages
first-retold kind link [] = refl
first-retold kind link (page ∷ pages) = refl

nodes-retold : (kind : ColType) (link : ℕ) (pages : List (Page (Downlink Entry)))
    → nodes_linked (item_kind inner_flags) link (map (retold (link_item kind)) pages) ≡ nodes_linked (inner_kind kind) link pages
nodes-retold kind link [] = refl
nodes-retold kind link (page ∷ pages) =
    ap (λ (r : ℕ). record { block = page.block; bytes = entry_page inner_flags r (tuples_of (map (link_item kind) page.items)) }
    ∷ nodes_linked (item_kind inner_flags) link (map (retold (link_item kind)) pages)) (first-retold kind link pages)
    ∙ ap (λ (t : List (List ℕ)). record { block = page.block; bytes = entry_page inner_flags (first_block link pages) t }
    ∷ nodes_linked (item_kind inner_flags) link (map (retold (link_item kind)) pages)) (map-map (λ (i : Item). i.tuple) (link_item kind) page.items)
    ∙ ap (λ l. record { block = page.block; bytes = (inner_kind kind).image (first_block link pages) page.items } ∷ l) (nodes-retold kind link pages)

page-retold : (kind : ColType) (page : Page (Downlink Entry)) → IsPage (item_kind inner_flags) (retold (link_item kind) page) → IsPage (inner_kind kind) page
page-retold kind page is =
    let some = is.some in
    let room = is.room in
    let long = length-map page.items (link_item kind) in
    let same = sum-map item_size (link_item kind) page.items in
    record { some = omega arith; room = omega arith }

level-retold : (kind : ColType) (pages : List (Page (Downlink Entry)))
    → AreLevel (item_kind inner_flags) (map (retold (link_item kind)) pages) → AreLevel (inner_kind kind) pages
level-retold kind [] are = are
level-retold kind (page ∷ []) are = page-retold kind page are
level-retold kind (page ∷ next ∷ pages) are =
    let same = sum-map item_size (link_item kind) page.items in
    let filled = are.1 in
    (page-retold kind page are.0, omega arith, level-retold kind (next ∷ pages) are.2)

-- ---- a level that is cut

pub are_level : (kind : ColType) (flags : ℕ) (full : List (List Item)) (last : List Item) (packed : List FullPage) (pages : List (Page Item))
    → AllZip (HasItems kind flags) (full ++ last ∷ []) packed → AllByRecursion (IsFilled flags) full → 1 ≤ length last
    → map (λ page. page.items) pages ≡ full ++ last ∷ [] → AreLevel (item_kind flags) pages
are_level kind flags [] last [] pages have filled some same = absurd have
are_level kind flags [] last (p ∷ packed) [] have filled some same = absurd cc
are_level kind flags [] last (p ∷ packed) (page ∷ []) have filled some same =
    let is : last ≡ page.items = cc in
    subst (λ (items : List Item). IsPage (item_kind flags) (record { block = page.block; items = items })) is
    (record { some = omega arith; room = have.0.room })
are_level kind flags [] last (p ∷ packed) (page ∷ next ∷ pages) have filled some same = absurd cc
are_level kind flags (items ∷ full) last [] pages have filled some same = absurd have
are_level kind flags (items ∷ full) last (p ∷ packed) [] have filled some same = absurd cc
are_level kind flags (items ∷ []) last (p ∷ packed) (page ∷ []) have filled some same = absurd cc
are_level kind flags (items ∷ more ∷ full) last (p ∷ packed) (page ∷ []) have filled some same = absurd cc
are_level kind flags (items ∷ full) last (p ∷ packed) (page ∷ next ∷ pages) have filled some same =
    let is : items ≡ page.items = cc in
    let rest : map (λ (page : Page Item). page.items) (next ∷ pages) ≡ full ++ last ∷ [] = cc in
    let many = filled.0.many in (
      subst (λ (l : List Item). IsPage (item_kind flags) (record { block = page.block; items = l })) is
          (record { some = omega arith; room = have.0.room }),
      subst (λ (l : List Item). 4000 ≤ fill (item_kind flags) l) is filled.0.filled,
      are_level kind flags full last packed (next ∷ pages) have.1 filled.1 some rest,
    )

pub items-numbered : (block : ℕ) (cut : List (List Item)) → map (λ page. page.items) (numbered block cut) ≡ cut
items-numbered block [] = refl
items-numbered block (items ∷ cut) = ap (λ l. items ∷ l) (items-numbered (suc block) cut)

pub length-numbered : (block : ℕ) (cut : List (List Item)) → length (numbered block cut) ≡ length cut
length-numbered block [] = refl
length-numbered block (items ∷ cut) = ap suc (length-numbered (suc block) cut)

pub length-nodes : {I K : Type 0} (kind : Kind I K) (link : ℕ) (pages : List (Page I)) → length (nodes_linked kind link pages) ≡ length pages
length-nodes kind link [] = refl
length-nodes kind link (page ∷ pages) = ap suc (length-nodes kind link pages)

follow-numbered : (kind : Kind Item Entry) (link block : ℕ) (cut : List (List Item)) → FollowFrom block (nodes_linked kind link (numbered block cut))
follow-numbered kind link block [] = tt
follow-numbered kind link block (items ∷ cut) = (refl, follow-numbered kind link (suc block) cut)

sized-numbered : (kind : ColType) (flags link block : ℕ) (cut : List (List Item)) (pages : List FullPage) → AllZip (HasItems kind flags) cut pages
    → AreSized (nodes_linked (item_kind flags) link (numbered block cut))
sized-numbered kind flags link block [] pages have = tt
sized-numbered kind flags link block (items ∷ cut) [] have = absurd have
sized-numbered kind flags link block (items ∷ cut) (page ∷ pages) have = (
  length-entry_page flags (first_block link (numbered (suc block) cut)) (tuples_of items) (have_room kind flags items page have.0),
  sized-numbered kind flags link (suc block) cut pages have.1,
)

-- the tuples of pages are those of the cut
pub items-of-cut : (pages : List (Page Item)) (full : List (List Item)) (last : List Item) → map (λ page. page.items) pages ≡ full ++ last ∷ []
    → items_of pages ≡ flat_map (λ page. page) full ++ last
items-of-cut pages full last same =
    items-of pages ∙ ap (flat_map (λ (l : List Item). l)) same
    ∙ flat_map-append (λ (l : List Item). l) full (last ∷ [])
    ∙ ap (λ (l : List Item). flat_map (λ page. page) full ++ l) (append-nil last)
  where
    items-of : (pages : List (Page Item)) → items_of pages ≡ flat_map (λ (l : List Item). l) (map (λ page. page.items) pages)
    items-of [] = refl
    items-of (page ∷ pages) =
        flat_map-cons (λ (p : Page Item). p.items) page pages
        ∙ ap (λ (l : List Item). page.items ++ l) (items-of pages)
        ∙ sym (flat_map-cons (λ (l : List Item). l) page.items (map (λ page. page.items) pages))

-- ---- the root

-- one page alone is the root
pub root-risen : (kind : ColType) (flags : ℕ) (full : List (List Item)) (last : List Item) (root : FullPage) (old new : List ℕ)
    → 2 * page_size ≤ length old → new ≡ placed 1 root.page old → AreCut kind flags full last (root ∷ [])
    → HasRisen kind flags (full ++ last ∷ []) old new
root-risen kind flags [] last root old new begun is cut =
    let has = cut.have.0 in
    let image : List ℕ = entry_page flags no_link (tuples_of last) in
    let size : length image ≡ 8192 = length-entry_page flags no_link (tuples_of last) (have_room kind flags last root has) in
    let there : new ≡ take 8192 old ++ (image ++ drop 16384 old) =
    is ∙ ap (λ (page : List ℕ). placed 1 page old) has.bytes ∙ root-placed image old size begun in
    record {
      pages = record { block = 1; items = last } ∷ [];
      cut_is = refl;
      above = [];
      rises = refl;
      root = refl;
      level_stands = (ap (block_at 1) there ∙ root-stands image old size begun, tt);
      above_stand = tt;
      level_within = (record { from = omega arith; below = let same = length-root-placed image old size begun in let long = ap length there in omega arith }, tt);
      above_within = tt;
      kept = λ block other inside. ap (block_at block) there ∙ others-kept image old block size begun other inside;
      grown = let same = length-root-placed image old size begun in let long = ap length there in omega arith;
      behind = 0;
      given = refl;
    }
root-risen kind flags (items ∷ full) last root old new begun is cut =
    absurd (let even = length-zip (HasItems kind flags) ((items ∷ full) ++ last ∷ []) (root ∷ []) cut.have in
    let more = length-append full (last ∷ []) in omega arith)

-- where there are tuples, the last page has some
cut-some : (kind : ColType) (flags : ℕ) (full : List (List Item)) (last : List Item) (pages : List FullPage) → AreCut kind flags full last pages
    → 1 ≤ length (flat_map (λ page. page) full ++ last) → 1 ≤ length last
cut-some kind flags [] last pages cut some = some
cut-some kind flags (items ∷ full) last pages cut some = cut.some (omega arith)

-- what leads to a level's pages is as many as they are
pub count-links : (kind : ColType) (flags : ℕ) (cut : List (List Item)) (old middle : List ℕ) (above : Level) (placed : ArePlaced kind flags cut old middle above)
    → length (map (link_item kind) placed.links) ≡ length cut
count-links kind flags cut old middle above placed =
    let a = length-map placed.links (link_item kind) in
    let b = length-map placed.links (said {Key = Entry}) in
    let c = ap length placed.said_are in
    let d = length-map (numbered (block_count old) cut) (to_say (item_kind flags)) in
    let e = length-numbered (block_count old) cut in
    omega arith

-- ---- a level and those above it

pub level-risen : (kind : ColType) (flags : ℕ) (full : List (List Item)) (last : List Item) (pages packed : List FullPage) (old middle new : List ℕ) (above : Level)
    (up : List (List Item)) (top : List Item)
    → 2 * page_size ≤ length old → length old % page_size ≡ 0 → 1 < length pages → AreCut kind flags full last pages
    → (placed : ArePlaced kind flags (full ++ last ∷ []) old middle above)
    → AreCut kind inner_flags up top packed → flat_map (λ page. page) up ++ top ≡ map (link_item kind) placed.links
    → HasRisen kind inner_flags (up ++ top ∷ []) middle new
    → HasRisen kind flags (full ++ last ∷ []) old new
level-risen kind flags full last pages packed old middle new above up top begun whole many cut placed above_cut items risen =
    let all : List (List Item) = full ++ last ∷ [] in
    let base : ℕ = block_count old in
    let here : length old ≡ base * 8192 = omega arith in
    let level : List (Page Item) = numbered base all in
    let nodes : List Node = nodes_of_level (item_kind flags) level in
    let sized = sized-numbered kind flags no_link base all pages cut.have in
    let follow = follow-numbered (item_kind flags) no_link base all in
    let count : length nodes ≡ length all = length-nodes (item_kind flags) no_link level ∙ length-numbered base all in
    let size : length (bytes_of nodes) ≡ length all * 8192 = length-bytes_of nodes sized ∙ ap (λ (n : ℕ). n * 8192) count in
    let longer : length middle ≡ length old + length all * 8192 =
    ap length placed.bytes ∙ length-append old (bytes_of nodes) ∙ omega arith in
    let even : length all ≡ length pages = length-zip (HasItems kind flags) all pages cut.have in
    let stands_behind : StandIn middle nodes =
    subst (λ (file : List ℕ). StandIn file nodes) (ap (λ (l : List ℕ). old ++ l) (append-nil (bytes_of nodes)) ∙ sym placed.bytes)
    (stand-behind base old nodes [] here follow sized) in
    let stands : StandIn new nodes =
    stand-kept middle new nodes
    (each-block (λ (b : ℕ). block_at b new ≡ block_at b middle) base nodes follow
    (λ b from below. risen.kept b (λ (e : b ≡ 1). absurd (omega arith)) (omega arith))) stands_behind in
    let group = regrouped (link_item kind) risen.pages placed.links
    (items-of-cut risen.pages up top risen.cut_is ∙ items) in
    let links : List (Page (Downlink Entry)) = group.pages_are in
    let leading = ap length items ∙ count-links kind flags all old middle above placed in
    let risen_count = ap length risen.cut_is in
    let risen_long = length-map risen.pages (λ (p : Page Item). p.items) in
    let up_long = length-append up (top ∷ []) in
    let risen_grown = risen.grown in
    let some_up = cut-some kind inner_flags up top packed above_cut (omega arith) in
    let above_nodes : nodes_of_level (item_kind inner_flags) risen.pages ≡ nodes_of_level (inner_kind kind) links =
    ap (nodes_of_level (item_kind inner_flags)) (sym group.same) ∙ nodes-retold kind no_link links in
    let above_count : length risen.pages ≡ length links = ap length (sym group.same) ∙ length-map links (retold (link_item kind)) in
    let said_above : map (to_say (item_kind inner_flags)) risen.pages ≡ map (to_say (inner_kind kind)) links =
    ap (map (to_say (item_kind inner_flags))) (sym group.same) ∙ links-said kind links in
    let blocks_above : map (λ (p : Page Item). p.block) risen.pages ≡ map (λ p. p.block) links =
    ap (map (λ (p : Page Item). p.block)) (sym group.same) ∙ blocks-retold kind links in
    let levels : List Node = nodes_of_level (inner_kind kind) links in
    let others : List Node = flat_map (nodes_of_level (inner_kind kind)) risen.above in
    let together : flat_map (nodes_of_level (inner_kind kind)) (links ∷ risen.above) ≡ levels ++ others =
    flat_map-cons (nodes_of_level (inner_kind kind)) links risen.above in
    record {
      pages = level;
      cut_is = items-numbered base all;
      above = links ∷ risen.above;
      rises = (
        (let long = length-map level (to_say (item_kind flags)) in let n = length-numbered base all in omega arith),
        ap (map said) group.all ∙ placed.said_are,
        (
          level-retold kind links (subst (λ (l : List (Page Item)). AreLevel (item_kind inner_flags) l) (sym group.same)
              (are_level kind inner_flags up top packed risen.pages above_cut.have above_cut.filled some_up risen.cut_is)),
          subst (λ (b : List (ℕ × Option Entry)). AreAbove (inner_kind kind) b risen.above) said_above risen.rises,
        ),
      );
      root = ap (λ (b : List ℕ). top_of b risen.above) (sym blocks_above) ∙ risen.root;
      level_stands = stands;
      above_stand =
          subst (λ (n : List Node). StandIn new n) (sym together)
          (all-append (λ (n : Node). block_at n.block new ≡ n.bytes) levels others
          (subst (λ (n : List Node). StandIn new n) above_nodes risen.level_stands) risen.above_stand);
      level_within = each-node (IsBehindMeta new) base nodes follow
          (λ (b : ℕ) (bytes : List ℕ) from below. record { from = omega arith; below = omega arith });
      above_within =
          subst (λ (n : List Node). AllByRecursion (IsBehindMeta new) n) (sym together)
          (all-append (IsBehindMeta new) levels others
          (subst (λ (n : List Node). AllByRecursion (IsBehindMeta new) n) above_nodes risen.level_within) risen.above_within);
      kept = λ block other inside.
          risen.kept block other (omega arith)
          ∙ ap (block_at block) placed.bytes
          ∙ block-kept block old (bytes_of nodes) inside;
      grown =
          let n = length-numbered base all in
          let up_count = length-nodes (inner_kind kind) no_link links in
          let sum = ap length together ∙ length-append levels others in
          let was = risen.grown in
          omega arith;
      behind = length all + risen.behind;
      given =
          map-append (λ (n : Node). n.block) nodes (flat_map (nodes_of_level (inner_kind kind)) (links ∷ risen.above))
          ∙ ap (λ (l : List ℕ). l ++ blocks_of (flat_map (nodes_of_level (inner_kind kind)) (links ∷ risen.above)))
          (follow-blocks base nodes follow ∙ ap (range_with_len base) count)
          ∙ ap (λ (l : List Node). range_with_len base (length all) ++ blocks_of l) (together ∙ ap (λ (l : List Node). l ++ others) (sym above_nodes))
          ∙ ap (λ (l : List ℕ). range_with_len base (length all) ++ l) (risen.given
          ∙ ap (λ (b : ℕ). range_with_len b risen.behind ++ 1 ∷ []) (let e : block_count middle ≡ base + length all = omega arith in e))
          ∙ sym (append_assoc (range_with_len base (length all)) (range_with_len (base + length all) risen.behind) (1 ∷ []))
          ∙ ap (λ (l : List ℕ). l ++ 1 ∷ []) (range-append base (length all) risen.behind);
    }

-- so many pages are fewer than the tuples on them
pub fewer-pages : (kind : ColType) (flags : ℕ) (full : List (List Item)) (last : List Item) (pages : List FullPage) → AreCut kind flags full last pages
    → 1 < length (flat_map (λ page. page) full ++ last) → length pages < length (flat_map (λ page. page) full ++ last)
fewer-pages kind flags full last pages cut many =
    let even = length-zip (HasItems kind flags) (full ++ last ∷ []) pages cut.have in
    let one = length-append full (last ∷ []) in
    let both = length-append (flat_map (λ page. page) full) last in
    let some = cut-some kind flags full last pages cut (omega arith) in
    let twice = two-each flags full cut.filled in
    omega arith

-- one page is the only one
pub only-page : (pages : List FullPage) (page : FullPage) → length pages ≡ 1 → page ≡ get_or pages 0 page → pages ≡ page ∷ []
only-page [] page one here = absurd (omega arith)
only-page (first ∷ []) page one here = ap (λ (p : FullPage). p ∷ []) (sym here)
only-page (first ∷ next ∷ pages) page one here = absurd (omega arith)

-- the level above may come into the file, and has fewer pages
pub record Goes (pages packed : List FullPage) (middle : List ℕ) : Type 0 where
  pub fewer : length packed < length pages
  pub placeable : ArePlaceable middle packed

pub goes-on : (kind : ColType) (flags : ℕ) (full : List (List Item)) (last : List Item) (pages packed : List FullPage) (old middle : List ℕ) (above : Level)
    → 2 * page_size ≤ length old → length pages ≢ 1 → AreCut kind flags full last pages
    → (placed : ArePlaced kind flags (full ++ last ∷ []) old middle above)
    → ((kind : ColType) → (flags : ℕ) → (items : List Item) → IsLevelOf kind flags items above → ArePagesOf kind flags items packed)
    → Goes pages packed middle
goes-on kind flags full last pages packed old middle above begun other cut placed finished =
    let links = count-links kind flags (full ++ last ∷ []) old middle above placed in
    let even = length-zip (HasItems kind flags) (full ++ last ∷ []) pages cut.have in
    let one = length-append full (last ∷ []) in
    let many : 1 < length pages = several (length pages) other (omega arith) in
    let made = finished kind inner_flags (map (link_item kind) placed.links) placed.level in
    let items = ap length made.all in
    let fewer = fewer-pages kind inner_flags made.full made.last packed made.cut (omega arith) in
    let longer = ap length placed.bytes in
    let sum = length-append old (flat_map (λ (n : Node). n.bytes) (nodes_of_level (item_kind flags) (numbered (block_count old) (full ++ last ∷ [])))) in
    record {
      fewer = omega arith;
      placeable = record {
        kind = kind;
        flags = inner_flags;
        full = made.full;
        last = made.last;
        cut = made.cut;
        begun = omega arith;
      };
    }
  where
    several : (n : ℕ) → n ≢ 1 → 1 ≤ n → 1 < n
    several zero other some = absurd (omega arith)
    several (suc zero) other some = absurd (other refl)
    several (suc (suc n)) other some = omega arith

-- all levels have risen
pub levels-risen : (pages packed : List FullPage) (old middle new : List ℕ) (above : Level)
    → 2 * page_size ≤ length old → length pages ≢ 1
    → ((kind : ColType) → (flags : ℕ) → (full : List (List Item)) → (last : List Item) → AreCut kind flags full last pages → ArePlaced kind flags (full ++ last ∷ []) old middle above)
    → ((kind : ColType) → (flags : ℕ) → (items : List Item) → IsLevelOf kind flags items above → ArePagesOf kind flags items packed)
    → Rises middle new packed → Rises old new pages
levels-risen pages packed old middle new above begun other placed finished rises =
    λ kind flags full last cut.
    let here = placed kind flags full last cut in
    let links = count-links kind flags (full ++ last ∷ []) old middle above here in
    let even = length-zip (HasItems kind flags) (full ++ last ∷ []) pages cut.have in
    let one = length-append full (last ∷ []) in
    let many : 1 < length pages = several (length pages) other (omega arith) in
    let made = finished kind inner_flags (map (link_item kind) here.links) here.level in
    level-risen kind flags full last pages packed old middle new above made.full made.last begun here.whole many cut here made.cut made.all
    (rises kind inner_flags made.full made.last made.cut)
  where
    several : (n : ℕ) → n ≢ 1 → 1 ≤ n → 1 < n
    several zero other some = absurd (omega arith)
    several (suc zero) other some = absurd (other refl)
    several (suc (suc n)) other some = omega arith

pub several-pages : (kind : ColType) (flags : ℕ) (full : List (List Item)) (last : List Item) (pages : List FullPage) → AreCut kind flags full last pages
    → length pages ≢ 1 → 1 < length pages
several-pages kind flags full last pages cut other =
    let even = length-zip (HasItems kind flags) (full ++ last ∷ []) pages cut.have in
    let one = length-append full (last ∷ []) in
    several (length pages) other (omega arith)
  where
    several : (n : ℕ) → n ≢ 1 → 1 ≤ n → 1 < n
    several zero other some = absurd (omega arith)
    several (suc zero) other some = absurd (other refl)
    several (suc (suc n)) other some = omega arith
