-- The pages that are finished at the end, from below, and the root.
use Rattle.std.proofs.Common.{◌≡◌, ℕ, zero, suc, ◌+◌, ◌≤◌, Bool, true, false, List, [], ◌∷◌, ◌++◌, length, map, refl, sym, ap, ◌∙◌, subst, arith, length-append, append-nil, append_assoc}
use Rattle.std.proofs.lemmas.List.{map_push, map-append, length-map}
use Rattle.std.specs.List.{range_with_len}
use Rattle.std.specs.List.Sorted.{IsPermutation}
use Rattle.std.proofs.lemmas.List.Sorted.{IsPermutation-refl, IsPermutation-trans, IsPermutation-append_left, IsPermutation-append_right, IsPermutation-middle, IsPermutation-sym}
use Rattle.std.specs.Prelude.{Option, Some, None}
use Rattle.pg_bytes.specs.Image.{placed}
use Rattle.btree_pack.specs.Births.{Birth, block_of}
use Rattle.btree_pack.specs.Break.{Item, breaks}
use Rattle.btree_pack.specs.Leaves.{Content}
use Rattle.btree_pack.specs.Nodes.{Node, block_on, flags_on, first_tuple_on, nodes_behind, nodes_from, root_from, tuple_on, tuples_on}
use Rattle.btree_page.specs.Node.{rightmost_page}
use Rattle.btree_pack.specs.Pages.{Page}
use Rattle.btree_pack.specs.Tower.{item_above}
use Rattle.btree_pack.specs.Pass.Emission.{full_node, last_node, made_by, made_closing, number, prev_behind, state_of, states, with_nodes}
use Rattle.btree_pack.specs.Pass.History.{born_by, born_closing}
use Rattle.btree_pack.specs.Pass.Open.{Open, all_pages, broken_by, close, finished_by, joined_by, last_page, step}
use Rattle.btree_pack.specs.Pass.Packing.{Carried, Closed, PageState, carried, closed, last_bytes, pivot_of}
use Rattle.btree_pack.proofs.Towers.{step-joins, step-breaks}
use Rattle.btree_pack.proofs.Carrying.{AllTold, Follow, Told, ToldAll, breaks-made, carried-on, open_at, pivot-on, stepped, told-above}
use Rattle.btree_pack.proofs.Arrivals.{AllTold-parts, TopIsAlone, alone-step, told-step}

module _ (births : List Birth) (fillfactor : ℕ) where
  -- numbers that follow one behind the other
  range-append : (a m n : ℕ) → range_with_len a (m + n) ≡ range_with_len a m ++ range_with_len (a + m) n
  range-append a zero n =
      ap (range_with_len a) (let e : 0 + n ≡ n = omega arith in e) ∙ ap (λ (k : ℕ). range_with_len k n) (let e : a ≡ a + 0 = omega arith in e)
  range-append a (suc m) n =
      ap (range_with_len a) (let e : suc m + n ≡ suc (m + n) = omega arith in e)
      ∙ ap (λ l. a ∷ l) (range-append (a + 1) m n ∙ ap (λ (k : ℕ). range_with_len (a + 1) m ++ range_with_len k n) (let e : a + 1 + m ≡ a + suc m = omega arith in e))

  length-range : (a n : ℕ) → length (range_with_len a n) ≡ n
  length-range a zero = refl
  length-range a (suc n) = ap suc (length-range (a + 1) n)

  front-same : {X : Type 0} (a b c d : List X) → length a ≡ length c → a ++ b ≡ c ++ d → (a ≡ c) × (b ≡ d)
  front-same [] b [] d same e = (refl, e)
  front-same [] b (y ∷ c) d same e = absurd (omega arith)
  front-same (x ∷ a) b [] d same e = absurd (omega arith)
  front-same (x ∷ a) b (y ∷ c) d same e =
      let head : x ≡ y = cc in
      let tail : a ++ b ≡ c ++ d = cc in
      let rest = front-same a b c d (omega arith) tail in
      (ap (λ z. z ∷ a) head ∙ ap (λ l. y ∷ l) rest.0, rest.1)

  pub follow-parts : (blocks : ℕ) (first second : List Birth) → Follow births fillfactor blocks (first ++ second)
      → Follow births fillfactor blocks first × Follow births fillfactor (blocks + length first) second
  follow-parts blocks first second follow =
      let number' : Birth → ℕ = block_of births in
      let whole : map number' first ++ map number' second ≡ range_with_len (blocks + 1) (length first) ++ range_with_len (blocks + 1 + length first) (length second) =
      sym (map-append number' first second) ∙ follow
      ∙ ap (range_with_len (blocks + 1)) (length-append first second) ∙ range-append (blocks + 1) (length first) (length second) in
      let parts = front-same (map number' first) (map number' second) (range_with_len (blocks + 1) (length first)) (range_with_len (blocks + 1 + length first) (length second))
      (length-map first number' ∙ sym (length-range (blocks + 1) (length first))) whole in
      (parts.0, parts.1 ∙ ap (λ (n : ℕ). range_with_len n (length second)) (let e : blocks + 1 + length first ≡ blocks + length first + 1 = omega arith in e))

  -- ---- the last page of a level

  last_at : ℕ → List (Page Content) → List (Item Content) → Item Content → ℕ → Page Content
  last_at moment full before last born = last_page moment (open_at births fillfactor full before last born)

  tuples-last : (level moment : ℕ) (full : List (Page Content)) (before : List (Item Content)) (last : Item Content) (born : ℕ)
      → (state_of births level (open_at births fillfactor full before last born)).before ++ (state_of births level (open_at births fillfactor full before last born)).last ∷ []
      ≡ tuples_on births level (last_page moment (open_at births fillfactor full before last born))
  tuples-last level moment full [] last born = refl
  tuples-last level moment full (first ∷ others) last born = ap (λ l. first_tuple_on births level first ∷ l) (sym (map_push (tuple_on births level) others last))

  -- its node
  node-last : (level moment : ℕ) (root : Bool) (full : List (Page Content)) (before : List (Item Content)) (last : Item Content) (born : ℕ) (image : List ℕ)
      → placed (state_of births level (open_at births fillfactor full before last born)).block
      (last_bytes root (state_of births level (open_at births fillfactor full before last born))) image
      ≡ with_nodes (last_node births level root (prev_behind births level 0 full) (last_page moment (open_at births fillfactor full before last born)) ∷ []) image
  node-last level moment root full [] last born image = refl
  node-last level moment root full (first ∷ others) last born image =
      ap (λ l. placed (number births level born) (rightmost_page (prev_behind births level 0 full) level (flags_on level root) l) image)
      (tuples-last level moment full (first ∷ others) last born)

  pivot-last : (level moment : ℕ) (full : List (Page Content)) (before : List (Item Content)) (last : Item Content) (born : ℕ)
      → pivot_of (state_of births level (open_at births fillfactor full before last born))
      ≡ tuple_on births (suc level) (item_above (last_page moment (open_at births fillfactor full before last born)))
  pivot-last level moment full [] last born = pivot-on births level born last [] moment
  pivot-last level moment full (first ∷ others) last born = pivot-on births level born first (others ++ last ∷ []) moment

  told-last : (level moment : ℕ) (full : List (Page Content)) (before : List (Item Content)) (last : Item Content) (born : ℕ)
      → ToldAll births level before → Told births level last
      → Told births (suc level) (item_above (last_page moment (open_at births fillfactor full before last born)))
  told-last level moment full [] last born told one = told-above births level (record { first = last; others = []; born = born; finished = moment }) one
  told-last level moment full (first ∷ others) last born told one =
      told-above births level (record { first = first; others = others ++ last ∷ []; born = born; finished = moment }) told.0

  level-of-state : (level : ℕ) (full : List (Page Content)) (before : List (Item Content)) (last : Item Content) (born : ℕ)
      → ((state_of births level (open_at births fillfactor full before last born)).level ≡ level)
      × ((state_of births level (open_at births fillfactor full before last born)).block ≡ number births level born)
  level-of-state level full [] last born = (refl, refl)
  level-of-state level full (first ∷ others) last born = (refl, refl)

  born-last : (moment : ℕ) (full : List (Page Content)) (before : List (Item Content)) (last : Item Content) (born : ℕ)
      → (last_page moment (open_at births fillfactor full before last born)).born ≡ born
  born-last moment full [] last born = refl
  born-last moment full (first ∷ others) last born = refl

  -- ---- closing

  -- closing comes to a root within so many levels
  abbrev pub Ends : ℕ → ℕ → ℕ → List (Open Content) → Type 0
  Ends zero level moment opens = ⊥
  Ends (suc bound) level moment [] = ⊥
  Ends (suc bound) level moment (o ∷ []) = Unit {0}
  Ends (suc bound) level moment (o ∷ next ∷ above) =
      Ends bound (suc level) (suc moment) (step fillfactor (suc level) (next ∷ above) (item_above (last_page moment o)))

  pub record IsClosed (bound level moment : ℕ) (opens : List (Open Content)) (image : List ℕ) (c : Closed) : Type 0 where
    pub ends : Ends bound level moment opens
    pub image_is : c.image ≡ with_nodes (made_closing births bound fillfactor level moment opens) image
    pub root : c.root ≡ root_from births level (close bound fillfactor level moment opens)

  pub closed-root : (bound level : ℕ) (page : PageState) (blocks : ℕ) (image : List ℕ)
      → closed (suc bound) fillfactor level (page ∷ []) blocks image
      ≡ Some (record { image = placed page.block (last_bytes true page) image; root = record { block = page.block; level = page.level } })
  unfolding closed
  closed-root bound level page blocks image = refl

  pub closed-more : (bound level : ℕ) (page next : PageState) (above : List PageState) (blocks : ℕ) (image : List ℕ)
      → closed (suc bound) fillfactor level (page ∷ next ∷ above) blocks image
      ≡ (let rest = carried fillfactor (suc level) (next ∷ above) blocks (placed page.block (last_bytes false page) image) (pivot_of page) in
      closed bound fillfactor (suc level) rest.pages rest.blocks rest.image)
  unfolding closed
  closed-more bound level page next above blocks image = refl

  closed-nothing : (level : ℕ) (pages : List PageState) (blocks : ℕ) (image : List ℕ) → closed zero fillfactor level pages blocks image ≡ None
  unfolding closed
  closed-nothing level pages blocks image = refl

  closed-none : (bound level : ℕ) (blocks : ℕ) (image : List ℕ) → closed bound fillfactor level [] blocks image ≡ None
  unfolding closed
  closed-none zero level blocks image = refl
  closed-none (suc bound) level blocks image = refl

  pub with_nodes-append : (first second : List Node) (image : List ℕ) → with_nodes (first ++ second) image ≡ with_nodes second (with_nodes first image)
  with_nodes-append [] second image = refl
  with_nodes-append (node ∷ first) second image = with_nodes-append first second (placed node.block node.bytes image)

  root-more : (bound level moment : ℕ) (pages : List (Page Content)) (last : Page Content) (opens : List (Open Content)) → 1 ≤ length opens
      → root_from births level ((pages ++ last ∷ []) ∷ close (suc bound) fillfactor (suc level) moment opens)
      ≡ root_from births (suc level) (close (suc bound) fillfactor (suc level) moment opens)
  root-more bound level moment [] last [] some = absurd (omega arith)
  root-more bound level moment [] last (o ∷ []) some = refl
  root-more bound level moment [] last (o ∷ next ∷ above) some = refl
  root-more bound level moment (page ∷ pages) last [] some = absurd (omega arith)
  root-more bound level moment (page ∷ pages) last (o ∷ []) some = refl
  root-more bound level moment (page ∷ pages) last (o ∷ next ∷ above) some = refl

  pub closed-on : (bound level moment : ℕ) (opens : List (Open Content)) (blocks : ℕ) (image : List ℕ) (c : Closed)
      → AllTold births level opens → TopIsAlone births fillfactor opens
      → Follow births fillfactor blocks (born_closing bound fillfactor level moment opens)
      → closed bound fillfactor level (states births level opens) blocks image ≡ Some c
      → IsClosed bound level moment opens image c
  closed-on zero level moment opens blocks image c told alone follow is =
      let none = closed-nothing level (states births level opens) blocks image in let impossible : None ≡ Some c = sym none ∙ is in cc
  closed-on (suc bound) level moment [] blocks image c told alone follow is =
      let none = closed-none (suc bound) level blocks image in let impossible : None ≡ Some c = sym none ∙ is in cc
  closed-on (suc bound) level moment (o ∷ []) blocks image c told alone follow is =
      at o.full o.before o.last o.born alone is
    where
      at : (full : List (Page Content)) (before : List (Item Content)) (last : Item Content) (born : ℕ)
          → TopIsAlone births fillfactor (open_at births fillfactor full before last born ∷ [])
          → closed (suc bound) fillfactor level (state_of births level (open_at births fillfactor full before last born) ∷ []) blocks image ≡ Some c
          → IsClosed (suc bound) level moment (open_at births fillfactor full before last born ∷ []) image c
      at full before last born alone' is' =
          let o' = open_at births fillfactor full before last born in
          let st = state_of births level o' in
          let found : Some (record { image = placed st.block (last_bytes true st) image; root = record { block = st.block; level = st.level } }) ≡ Some c =
          sym (closed-root bound level st blocks image) ∙ is' in
          let there : record { image = placed st.block (last_bytes true st) image; root = record { block = st.block; level = st.level } } ≡ c = cc in
          let same = level-of-state level full before last born in
          let page = last_page moment o' in
          record {
            ends = tt;
            image_is = sym (ap (λ (c : Closed). c.image) there) ∙ node-last level moment true full before last born image;
            root =
                sym (ap (λ (c : Closed). c.root) there)
                ∙ ap (λ (n : ℕ). record { block = n; level = st.level }) (same.1 ∙ ap (number births level) (sym (born-last moment full before last born)))
                ∙ ap (λ (n : ℕ). record { block = number births level page.born; level = n }) same.0
                ∙ ap (λ (f : List (Page Content)). root_from births level ((f ++ page ∷ []) ∷ [])) (sym alone');
          }
  closed-on (suc bound) level moment (o ∷ next ∷ above) blocks image c told alone follow is =
      at o.full o.before o.last o.born (AllTold-parts births fillfactor level o (next ∷ above) told).0 (AllTold-parts births fillfactor level o (next ∷ above) told).1 follow is
      (λ opens b i. closed-on bound (suc level) (suc moment) opens b i c)
    where
      uppers : List (Open Content)
      uppers = next ∷ above

      alone-uppers : TopIsAlone births fillfactor (o ∷ next ∷ above) → TopIsAlone births fillfactor (next ∷ above)
      alone-uppers alone = alone

      at : (full : List (Page Content)) (before : List (Item Content)) (last : Item Content) (born : ℕ)
          → ToldAll births level before → Told births level last
          → Follow births fillfactor blocks (born_closing (suc bound) fillfactor level moment (open_at births fillfactor full before last born ∷ next ∷ above))
          → closed (suc bound) fillfactor level (states births level (open_at births fillfactor full before last born ∷ next ∷ above)) blocks image ≡ Some c
          → ((opens : List (Open Content)) (b : ℕ) (i : List ℕ) → AllTold births (suc level) opens → TopIsAlone births fillfactor opens
          → Follow births fillfactor b (born_closing bound fillfactor (suc level) (suc moment) opens)
          → closed bound fillfactor (suc level) (states births (suc level) opens) b i ≡ Some c
          → IsClosed bound (suc level) (suc moment) opens i c)
          → IsClosed (suc bound) level moment (open_at births fillfactor full before last born ∷ next ∷ above) image c
      at full before last born told' one follow' is' later =
          let o' = open_at births fillfactor full before last born in
          let st = state_of births level o' in
          let page = last_page moment o' in
          let item = item_above page in
          let uppers : List (Open Content) = next ∷ above in
          let opens = step fillfactor (suc level) uppers item in
          let i' : List ℕ = placed st.block (last_bytes false st) image in
          let new : List Birth = born_by fillfactor (suc level) uppers item in
          let follows = follow-parts blocks new (born_closing bound fillfactor (suc level) (suc moment) opens) follow' in
          let told_uppers = (AllTold-parts births fillfactor level o uppers told).2 in
          let told_item = told-last level moment full before last born told' one in
          let close_rest : Carried → Option Closed = λ r. closed bound fillfactor (suc level) r.pages r.blocks r.image in
          let up = stepped births fillfactor (suc level) uppers item blocks i' in
          let went : carried fillfactor (suc level) (states births (suc level) uppers) blocks i' (pivot_of st) ≡ up =
          ap (carried fillfactor (suc level) (states births (suc level) uppers) blocks i') (pivot-last level moment full before last born)
          ∙ carried-on births fillfactor level uppers item blocks i' told_uppers told_item follows.0 in
          let found : close_rest up ≡ Some c =
          sym (closed-more bound level st (state_of births (suc level) next) (states births (suc (suc level)) above) blocks image ∙ ap close_rest went) ∙ is' in
          let alone_step = alone-step births fillfactor (suc level) uppers item (alone-uppers alone) in
          let rest = after opens new i' item uppers page alone_step.1 (told-step births fillfactor (suc level) uppers item told_uppers told_item) alone_step.0 follows.1 found later in
          record {
            ends = rest.ends;
            image_is =
                rest.image_is
                ∙ ap (λ i. with_nodes (made_closing births bound fillfactor (suc level) (suc moment) opens) (with_nodes (made_by births fillfactor (suc level) uppers item) i))
                (node-last level moment false full before last born image)
                ∙ sym (with_nodes-append (made_by births fillfactor (suc level) uppers item) (made_closing births bound fillfactor (suc level) (suc moment) opens)
                (with_nodes (last_node births level false (prev_behind births level 0 full) page ∷ []) image));
            root = rest.root ∙ sym (root-of bound full page opens alone_step.1 rest.ends);
          }
        where
          after : (opens : List (Open Content)) (new : List Birth) (i' : List ℕ) (item : Item Content) (uppers : List (Open Content)) (page : Page Content)
              → 1 ≤ length opens → AllTold births (suc level) opens → TopIsAlone births fillfactor opens
              → Follow births fillfactor (blocks + length new) (born_closing bound fillfactor (suc level) (suc moment) opens)
              → closed bound fillfactor (suc level) (states births (suc level) opens) (blocks + length new) (with_nodes (made_by births fillfactor (suc level) uppers item) i') ≡ Some c
              → ((opens : List (Open Content)) (b : ℕ) (i : List ℕ) → AllTold births (suc level) opens → TopIsAlone births fillfactor opens
              → Follow births fillfactor b (born_closing bound fillfactor (suc level) (suc moment) opens)
              → closed bound fillfactor (suc level) (states births (suc level) opens) b i ≡ Some c
              → IsClosed bound (suc level) (suc moment) opens i c)
              → IsClosed bound (suc level) (suc moment) opens (with_nodes (made_by births fillfactor (suc level) uppers item) i') c
          after opens new i' item uppers page some told' alone' follow' found later =
              later opens (blocks + length new) (with_nodes (made_by births fillfactor (suc level) uppers item) i') told' alone' follow' found

          root-of : (bound : ℕ) (full : List (Page Content)) (page : Page Content) (opens : List (Open Content)) → 1 ≤ length opens
              → Ends bound (suc level) (suc moment) opens
              → root_from births level ((full ++ page ∷ []) ∷ close bound fillfactor (suc level) (suc moment) opens)
              ≡ root_from births (suc level) (close bound fillfactor (suc level) (suc moment) opens)
          root-of zero full page opens some ends = absurd ends
          root-of (suc bound) full page opens some ends = root-more bound level (suc moment) full page opens some

  -- ---- all nodes

  -- the nodes of full pages, behind one at a block, where the next page has a block and begins with an item
  abbrev pub full_nodes : ℕ → ℕ → List (Page Content) → ℕ → Item Content → List Node
  full_nodes level prev [] next item = []
  full_nodes level prev (page ∷ []) next item = full_node births level prev page next item ∷ []
  full_nodes level prev (page ∷ after ∷ pages) next item =
      full_node births level prev page (block_on births level after) after.first ∷ full_nodes level (block_on births level page) (after ∷ pages) next item

  full_nodes-push : (level prev : ℕ) (pages : List (Page Content)) (page : Page Content) (next : ℕ) (item : Item Content)
      → full_nodes level prev (pages ++ page ∷ []) next item
      ≡ full_nodes level prev pages (block_on births level page) page.first ++ full_node births level (prev_behind births level prev pages) page next item ∷ []
  full_nodes-push level prev [] page next item = refl
  full_nodes-push level prev (p ∷ []) page next item = refl
  full_nodes-push level prev (p ∷ q ∷ pages) page next item =
      ap (λ l. full_node births level prev p (block_on births level q) q.first ∷ l) (full_nodes-push level (block_on births level p) (q ∷ pages) page next item)

  abbrev pub first_open : Open Content → Item Content
  first_open o = elim o.before [ [] ↦ o.last | first ∷ others ↦ first ]

  abbrev pub nodes_in : ℕ → List (Open Content) → List Node
  nodes_in level [] = []
  nodes_in level (o ∷ above) = full_nodes level 0 o.full (number births level o.born) (first_open o) ++ nodes_in (suc level) above

  moved : (a b : List Node) (one : Node) (steps new : List Node) → IsPermutation steps (b ++ new)
      → IsPermutation ((a ++ one ∷ []) ++ steps) ((a ++ b) ++ one ∷ new)
  moved a b one steps new same =
      let went : IsPermutation (one ∷ steps) (b ++ one ∷ new) =
      IsPermutation-trans (one ∷ steps) (one ∷ (b ++ new)) (b ++ one ∷ new)
      (IsPermutation-append_right (one ∷ []) steps (b ++ new) same)
      (IsPermutation-sym (b ++ one ∷ new) (one ∷ (b ++ new)) (IsPermutation-middle b one new)) in
      let whole : IsPermutation (a ++ one ∷ steps) (a ++ (b ++ one ∷ new)) = IsPermutation-append_right a (one ∷ steps) (b ++ one ∷ new) went in
      subst (λ l. IsPermutation l ((a ++ b) ++ one ∷ new)) (sym (append_assoc a (one ∷ []) steps))
      (subst (IsPermutation (a ++ one ∷ steps)) (sym (append_assoc a b (one ∷ new))) whole)

  nodes-joined : (level : ℕ) (full : List (Page Content)) (before : List (Item Content)) (last : Item Content) (born : ℕ) (x : Item Content)
      → first_open (joined_by (open_at births fillfactor full before last born) x) ≡ first_open (open_at births fillfactor full before last born)
  nodes-joined level full [] last born x = refl
  nodes-joined level full (first ∷ others) last born x = refl

  finished-page : (level : ℕ) (full : List (Page Content)) (before : List (Item Content)) (last : Item Content) (born : ℕ) (x : Item Content) (page : Page Content)
      → finished_by fillfactor level (open_at births fillfactor full before last born) x ≡ Some page
      → (page.born ≡ born) × (page.first ≡ first_open (open_at births fillfactor full before last born))
  finished-page level full [] last born x page e = cc
  finished-page level full (first ∷ others) last born x page e = go (breaks fillfactor level (first ∷ others) last x) refl
    where
      go : (t : Bool) → breaks fillfactor level (first ∷ others) last x ≡ t → (page.born ≡ born) × (page.first ≡ first)
      go true is =
          let same : Some (record { first = first; others = others; born = born; finished = x.arrival }) ≡ Some page = rw is at e in
          let there : record { first = first; others = others; born = born; finished = x.arrival } ≡ page = cc in
          (sym (ap (λ (p : Page Content). p.born) there), sym (ap (λ (p : Page Content). p.first) there))
      go false is = let none : None ≡ Some page = rw is at e in cc

  none-made : (level : ℕ) (o : Open Content) (above : List (Open Content)) (x : Item Content) → finished_by fillfactor level o x ≡ None
      → made_by births fillfactor level (o ∷ above) x ≡ []
  none-made level o above x is = rw (is, made_by) refl

  -- a step's nodes join those there are
  pub nodes-step : (level : ℕ) (opens : List (Open Content)) (x : Item Content)
      → IsPermutation (nodes_in level (step fillfactor level opens x)) (nodes_in level opens ++ made_by births fillfactor level opens x)
  nodes-step level [] x = IsPermutation-refl _
  nodes-step level (o ∷ above) x = go (finished_by fillfactor level o x) refl (λ page. nodes-step (suc level) above (item_above page))
    where
      here : Open Content → List Node
      here o = full_nodes level 0 o.full (number births level o.born) (first_open o)

      go : (f : Option (Page Content)) → finished_by fillfactor level o x ≡ f
          → ((page : Page Content) → IsPermutation (nodes_in (suc level) (step fillfactor (suc level) above (item_above page)))
          (nodes_in (suc level) above ++ made_by births fillfactor (suc level) above (item_above page)))
          → IsPermutation (nodes_in level (step fillfactor level (o ∷ above) x)) (nodes_in level (o ∷ above) ++ made_by births fillfactor level (o ∷ above) x)
      go None is later =
          let same : nodes_in level (joined_by o x ∷ above) ≡ nodes_in level (o ∷ above) =
          ap (λ i. full_nodes level 0 o.full (number births level o.born) i ++ nodes_in (suc level) above) (nodes-joined level o.full o.before o.last o.born x) in
          subst (λ l. IsPermutation (nodes_in level l) (nodes_in level (o ∷ above) ++ made_by births fillfactor level (o ∷ above) x)) (sym (step-joins fillfactor level o above x is))
          (subst (λ l. IsPermutation l (nodes_in level (o ∷ above) ++ made_by births fillfactor level (o ∷ above) x)) (sym same)
          (subst (λ l. IsPermutation (nodes_in level (o ∷ above)) (nodes_in level (o ∷ above) ++ l)) (sym (none-made level o above x is))
          (subst (IsPermutation (nodes_in level (o ∷ above))) (sym (append-nil (nodes_in level (o ∷ above)))) (IsPermutation-refl (nodes_in level (o ∷ above))))))
      go (Some page) is later =
          let rest = step fillfactor (suc level) above (item_above page) in
          let new = made_by births fillfactor (suc level) above (item_above page) in
          let node = full_node births level (prev_behind births level 0 o.full) page (number births level x.arrival) o.last in
          let parts = finished-page level o.full o.before o.last o.born x page is in
          let grown : nodes_in level (broken_by o page x ∷ rest) ≡ (here o ++ node ∷ []) ++ nodes_in (suc level) rest =
          ap (λ l. l ++ nodes_in (suc level) rest)
          (full_nodes-push level 0 o.full page (number births level x.arrival) o.last
          ∙ ap (λ (b : ℕ). full_nodes level 0 o.full (number births level b) page.first ++ node ∷ []) parts.0
          ∙ ap (λ i. full_nodes level 0 o.full (number births level o.born) i ++ node ∷ []) parts.1) in
          subst (λ l. IsPermutation (nodes_in level l) (nodes_in level (o ∷ above) ++ made_by births fillfactor level (o ∷ above) x)) (sym (step-breaks fillfactor level o above x page is))
          (subst (λ l. IsPermutation (nodes_in level (broken_by o page x ∷ rest)) (nodes_in level (o ∷ above) ++ l)) (sym (breaks-made births fillfactor level o above x page is))
          (subst (λ l. IsPermutation l (nodes_in level (o ∷ above) ++ node ∷ new)) (sym grown)
          (moved (here o) (nodes_in (suc level) above) node (nodes_in (suc level) rest) new (later page))))

  -- the nodes of a level whose open page is finished
  nodes-level : (level prev : ℕ) (pages : List (Page Content)) (last : Page Content)
      → nodes_behind births level false prev (pages ++ last ∷ [])
      ≡ full_nodes level prev pages (block_on births level last) last.first ++ last_node births level false (prev_behind births level prev pages) last ∷ []
  nodes-level level prev [] last = refl
  nodes-level level prev (p ∷ []) last = refl
  nodes-level level prev (p ∷ q ∷ pages) last =
      ap (λ l. full_node births level prev p (block_on births level q) q.first ∷ l) (nodes-level level (block_on births level p) (q ∷ pages) last)

  first-last : (moment : ℕ) (full : List (Page Content)) (before : List (Item Content)) (last : Item Content) (born : ℕ)
      → (last_page moment (open_at births fillfactor full before last born)).first ≡ first_open (open_at births fillfactor full before last born)
  first-last moment full [] last born = refl
  first-last moment full (first ∷ others) last born = refl

  -- closing a level below others
  nodes-from : (bound level moment : ℕ) (pages : List (Page Content)) (opens : List (Open Content)) → 1 ≤ length opens
      → nodes_from births level (pages ∷ close (suc bound) fillfactor (suc level) moment opens)
      ≡ nodes_behind births level false 0 pages ++ nodes_from births (suc level) (close (suc bound) fillfactor (suc level) moment opens)
  nodes-from bound level moment pages [] some = absurd (omega arith)
  nodes-from bound level moment pages (o ∷ []) some = refl
  nodes-from bound level moment pages (o ∷ next ∷ above) some = refl

  -- the nodes of the levels are those of the open tower and those that closing makes
  pub nodes-closing : (bound level moment : ℕ) (opens : List (Open Content)) → TopIsAlone births fillfactor opens → Ends bound level moment opens
      → IsPermutation (nodes_from births level (close bound fillfactor level moment opens))
      (nodes_in level opens ++ made_closing births bound fillfactor level moment opens)
  nodes-closing zero level moment opens alone ends = absurd ends
  nodes-closing (suc bound) level moment [] alone ends = absurd ends
  nodes-closing (suc bound) level moment (o ∷ []) alone ends =
      let page = last_page moment o in
      let whole : List (Page Content) → List (Page Content) → Type 0 = λ (f g : List (Page Content)).
      IsPermutation (nodes_from births level ((f ++ page ∷ []) ∷ []))
      ((full_nodes level 0 g (number births level o.born) (first_open o) ++ []) ++ last_node births level true (prev_behind births level 0 g) page ∷ []) in
      subst (λ f. whole f f) (sym alone) (IsPermutation-refl (last_node births level true 0 page ∷ []))
  nodes-closing (suc bound) level moment (o ∷ next ∷ above) alone ends =
      go bound ends (nodes-closing bound (suc level) (suc moment))
    where
      page : Page Content
      page = last_page moment o

      uppers : List (Open Content)
      uppers = next ∷ above

      opens : List (Open Content)
      opens = step fillfactor (suc level) (next ∷ above) (item_above (last_page moment o))

      made : List Node
      made = made_by births fillfactor (suc level) (next ∷ above) (item_above (last_page moment o))

      node : Node
      node = last_node births level false (prev_behind births level 0 o.full) (last_page moment o)

      here : List Node
      here = full_nodes level 0 o.full (number births level o.born) (first_open o)

      go : (bound : ℕ) → Ends bound (suc level) (suc moment) opens
          → ((opens : List (Open Content)) → TopIsAlone births fillfactor opens → Ends bound (suc level) (suc moment) opens
          → IsPermutation (nodes_from births (suc level) (close bound fillfactor (suc level) (suc moment) opens))
          (nodes_in (suc level) opens ++ made_closing births bound fillfactor (suc level) (suc moment) opens))
          → IsPermutation (nodes_from births level (all_pages moment o ∷ close bound fillfactor (suc level) (suc moment) opens))
          (nodes_in level (o ∷ next ∷ above) ++ node ∷ (made ++ made_closing births bound fillfactor (suc level) (suc moment) opens))
      go zero ends' later = absurd ends'
      go (suc b) ends' later =
          let alone_step = alone-step births fillfactor (suc level) uppers (item_above page) alone in
          let closing = made_closing births (suc b) fillfactor (suc level) (suc moment) opens in
          let closed' = nodes_from births (suc level) (close (suc b) fillfactor (suc level) (suc moment) opens) in
          let there = nodes_in (suc level) uppers in
          let parts : nodes_from births level (all_pages moment o ∷ close (suc b) fillfactor (suc level) (suc moment) opens) ≡ (here ++ node ∷ []) ++ closed' =
          nodes-from b level (suc moment) (all_pages moment o) opens alone_step.1
          ∙ ap (λ l. l ++ closed') (nodes-level level 0 o.full page
          ∙ ap (λ (n : ℕ). full_nodes level 0 o.full (number births level n) page.first ++ node ∷ []) (born-last moment o.full o.before o.last o.born)
          ∙ ap (λ i. full_nodes level 0 o.full (number births level o.born) i ++ node ∷ []) (first-last moment o.full o.before o.last o.born)) in
          let steps : IsPermutation closed' ((there ++ made) ++ closing) =
          IsPermutation-trans closed' (nodes_in (suc level) opens ++ closing) ((there ++ made) ++ closing)
          (later opens alone_step.0 ends')
          (IsPermutation-append_left closing (nodes_in (suc level) opens) (there ++ made) (nodes-step (suc level) uppers (item_above page))) in
          let steps' : IsPermutation closed' (there ++ (made ++ closing)) = subst (IsPermutation closed') (append_assoc there made closing) steps in
          subst (λ l. IsPermutation l ((here ++ there) ++ node ∷ (made ++ closing))) (sym parts)
          (moved here there node closed' (made ++ closing) steps')
