-- What the packer keeps is the open tower as bytes: a tuple that comes is a step.
use Rattle.std.proofs.Common.{◌≡◌, ℕ, zero, suc, ◌+◌, ◌/◌, ◌%◌, ◌^◌, ◌≤◌, Bool, true, false, ◌||◌, nat_lt, List, [], ◌∷◌, ◌++◌, length, map, take, drop, refl, sym, ap, ◌∙◌, subst, arith, length-append, append_assoc}
use Rattle.std.proofs.lemmas.List.{map_push, take_at, drop_at, length-drop}
use Rattle.std.proofs.lemmas.List.Sums.{sum_by-append, sum_by-cons}
use Rattle.std.specs.List.{range_with_len, sum_by}
use Rattle.std.specs.Prelude.{Some, None}
use Rattle.pg_bytes.proofs.Writes.{length-number_bytes}
use Rattle.pg_bytes.specs.Image.{placed}
use Rattle.pg_bytes.specs.ItemPage.{first_lowest_page}
use Rattle.pg_bytes.specs.Numbers.{number_bytes}
use Rattle.pg_bytes.specs.Pointers.{row_pointer_bytes}
use Rattle.btree_pack.specs.Births.{Birth, block_of}
use Rattle.btree_pack.specs.Break.{Item, breaks, first_size, page_room, soft_limit, spare, taken}
use Rattle.btree_pack.specs.Leaves.{Content}
use Rattle.btree_pack.specs.Nodes.{block_on, child_block, first_tuple_on, flags_on, high_key_on, tuple_on, tuples_on}
use Rattle.btree_page.specs.SpecialSpace.{special_space}
use Rattle.btree_pack.specs.Pages.{Page}
use Rattle.btree_pack.specs.Tower.{item_above}
use Rattle.btree_item.specs.Pivot.{minus_infinity}
use Rattle.btree_pack.specs.Tuple.{with_child}
use Rattle.btree_pack.specs.Pass.Emission.{full_node, made_by, number, prev_behind, state_of, states, with_nodes}
use Rattle.btree_pack.specs.Pass.History.{born_by}
use Rattle.btree_pack.specs.Pass.Open.{Open, broken_by, finished_by, joined_by, step}
use Rattle.btree_pack.specs.Pass.Packing.{Carried, PageState, below, carried, finished_bytes, first_form, first_page, is_full, next_page, pivot_of, room_of, with_tuple}
use Rattle.btree_pack.proofs.Towers.{step-joins, step-breaks}

-- ---- tuples that lead to a child

child_bytes : ℕ → List ℕ
child_bytes child = number_bytes 2 (child / 2 ^ 16) ++ number_bytes 2 (child % 2 ^ 16)

length-child_bytes : (child : ℕ) → length (child_bytes child) ≡ 4
unfolding child_bytes
length-child_bytes child =
    let whole = length-append (number_bytes 2 (child / 2 ^ 16)) (number_bytes 2 (child % 2 ^ 16)) in
    let a = length-number_bytes 2 (child / 2 ^ 16) in
    let b = length-number_bytes 2 (child % 2 ^ 16) in
    omega arith

with_child-bytes : (child : ℕ) (pivot : List ℕ) → with_child child pivot ≡ child_bytes child ++ drop 4 pivot
unfolding with_child child_bytes
with_child-bytes child pivot = sym (append_assoc (number_bytes 2 (child / 2 ^ 16)) (number_bytes 2 (child % 2 ^ 16)) (drop 4 pivot))

length-with_child : (child : ℕ) (pivot : List ℕ) → 4 ≤ length pivot → length (with_child child pivot) ≡ length pivot
length-with_child child pivot least =
    let front = length-child_bytes child in
    let back = length-drop 4 pivot in
    ap length (with_child-bytes child pivot) ∙ length-append (child_bytes child) (drop 4 pivot) ∙ omega arith

with_child-again : (child other : ℕ) (pivot : List ℕ) → with_child child (with_child other pivot) ≡ with_child child pivot
with_child-again child other pivot =
    with_child-bytes child (with_child other pivot)
    ∙ ap (λ l. child_bytes child ++ drop 4 l) (with_child-bytes other pivot)
    ∙ ap (λ l. child_bytes child ++ l) (drop_at (child_bytes other) (drop 4 pivot) 4 (length-child_bytes other))
    ∙ sym (with_child-bytes child pivot)

minus_infinity-bytes : (child : ℕ) → minus_infinity child ≡ child_bytes child ++ (number_bytes 2 0 ++ number_bytes 2 8200)
unfolding child_bytes row_pointer_bytes
minus_infinity-bytes child =
    let a : List ℕ = number_bytes 2 (child / 2 ^ 16) in
    let b : List ℕ = number_bytes 2 (child % 2 ^ 16) in
    append_assoc a (b ++ number_bytes 2 0) (number_bytes 2 8200)
    ∙ ap (λ l. a ++ l) (append_assoc b (number_bytes 2 0) (number_bytes 2 8200))
    ∙ sym (append_assoc a b (number_bytes 2 0 ++ number_bytes 2 8200))

pub length-minus_infinity : (child : ℕ) → length (minus_infinity child) ≡ 8
length-minus_infinity child =
    let front = length-child_bytes child in
    let whole = length-append (child_bytes child) (number_bytes 2 0 ++ number_bytes 2 8200) in
    let behind = length-append (number_bytes 2 0) (number_bytes 2 8200) in
    let a = length-number_bytes 2 0 in
    let b = length-number_bytes 2 8200 in
    ap length (minus_infinity-bytes child) ∙ omega arith

module _ (births : List Birth) where
  pub first_form-on : (level : ℕ) (item : Item Content) → first_form level (tuple_on births level item) ≡ first_tuple_on births level item
  first_form-on zero item = refl
  first_form-on (suc below) item =
      let child : ℕ = child_block births below item in
      ap (λ l. take 4 l ++ (number_bytes 2 0 ++ number_bytes 2 8200)) (with_child-bytes child item.content.separator)
      ∙ ap (λ l. l ++ (number_bytes 2 0 ++ number_bytes 2 8200)) (take_at (child_bytes child) (drop 4 item.content.separator) 4 (length-child_bytes child))
      ∙ sym (minus_infinity-bytes child)

  pub pivot-on : (level born : ℕ) (first : Item Content) (others : List (Item Content)) (finished : ℕ)
      → with_child (number births level born) (high_key_on births level first)
      ≡ tuple_on births (suc level) (item_above (record { first = first; others = others; born = born; finished = finished }))
  pivot-on zero born first others finished = refl
  pivot-on (suc below) born first others finished =
      with_child-again (number births (suc below) born) (child_block births below first) first.content.separator

  -- ---- sizes

  abbrev pub SizeOn : ℕ → Item Content → Type 0
  SizeOn zero item = length item.content.tuple ≡ item.size
  SizeOn (suc below) item = (item.bound ≡ item.size) × (item.extra ≡ 0)

  -- an item tells the sizes of its tuple and of its separator
  pub record Told (level : ℕ) (item : Item Content) : Type 0 where
    pub separator : length item.content.separator ≡ item.bound
    pub some : 8 ≤ item.bound
    pub size : SizeOn level item

  abbrev pub ToldAll : ℕ → List (Item Content) → Type 0
  ToldAll level [] = Unit {0}
  ToldAll level (item ∷ items) = Told level item × ToldAll level items

  pub ToldAll-push : (level : ℕ) (items : List (Item Content)) (item : Item Content) → ToldAll level items → Told level item → ToldAll level (items ++ item ∷ [])
  ToldAll-push level [] item told last = (last, tt)
  ToldAll-push level (first ∷ items) item told last = (told.0, ToldAll-push level items item told.1 last)

  abbrev pub AllTold : ℕ → List (Open Content) → Type 0
  AllTold level [] = Unit {0}
  AllTold level (o ∷ above) = ToldAll level o.before × Told level o.last × AllTold (suc level) above

  pub told-above : (level : ℕ) (page : Page Content) → Told level page.first → Told (suc level) (item_above page)
  told-above level page told = record { separator = told.separator; some = told.some; size = (refl, refl) }

  pub length-tuple_on : (level : ℕ) (item : Item Content) → Told level item → length (tuple_on births level item) ≡ item.size
  length-tuple_on zero item told = told.size
  length-tuple_on (suc below) item told =
      let some = told.some in
      let separator = told.separator in
      length-with_child (child_block births below item) item.content.separator (omega arith) ∙ separator ∙ told.size.0

  length-first_tuple_on : (level : ℕ) (item : Item Content) → Told level item → length (first_tuple_on births level item) ≡ first_size level item
  length-first_tuple_on zero item told = told.size
  length-first_tuple_on (suc below) item told = length-minus_infinity (child_block births below item)

  room-others : (level : ℕ) (items : List (Item Content)) → ToldAll level items
      → room_of (map (tuple_on births level) items) ≡ sum_by (λ (item : Item Content). item.size + 4) items
  room-others level [] told = refl
  room-others level (item ∷ items) told =
      sum_by-cons (λ (t : List ℕ). length t + 4) (tuple_on births level item) (map (tuple_on births level) items)
      ∙ ap (λ (n : ℕ). n + 4 + room_of (map (tuple_on births level) items)) (length-tuple_on level item told.0)
      ∙ ap (λ (n : ℕ). item.size + 4 + n) (room-others level items told.1)
      ∙ sym (sum_by-cons (λ (item : Item Content). item.size + 4) item items)

  -- what the tuples of an open page take
  used-on : (level : ℕ) (first : Item Content) (others : List (Item Content)) (last : Item Content)
      → Told level first → ToldAll level others → Told level last
      → room_of (first_tuple_on births level first ∷ map (tuple_on births level) others) + (length (tuple_on births level last) + 4)
      ≡ taken level ((first ∷ others) ++ last ∷ [])
  used-on level first others last a b c =
      let parts = sum_by-cons (λ (t : List ℕ). length t + 4) (first_tuple_on births level first) (map (tuple_on births level) others) in
      let front = length-first_tuple_on level first a in
      let middle = room-others level others b in
      let back = length-tuple_on level last c in
      let whole = sum_by-append (λ (item : Item Content). item.size + 4) others (last ∷ []) in
      let one = sum_by-cons (λ (item : Item Content). item.size + 4) last [] in
      omega arith

  prev-push : (level prev : ℕ) (pages : List (Page Content)) (page : Page Content)
      → prev_behind births level prev (pages ++ page ∷ []) ≡ block_on births level page
  prev-push level prev [] page = refl
  prev-push level prev (p ∷ pages) page = prev-push level (block_on births level p) pages page

  module _ (fillfactor : ℕ) where
    -- ---- the open page of a level

    abbrev pub open_at : List (Page Content) → List (Item Content) → Item Content → ℕ → Open Content
    open_at full before last born = record { full = full; before = before; last = last; born = born }

    -- whether an item breaks an open page
    abbrev pub is_broken : ℕ → List (Item Content) → Item Content → Item Content → Bool
    is_broken level before last item = elim before [ [] ↦ false | first ∷ others ↦ breaks fillfactor level (first ∷ others) last item ]

    pub is_full-on : (level : ℕ) (full : List (Page Content)) (before : List (Item Content)) (last : Item Content) (born : ℕ) (x : Item Content) (size : ℕ)
        → ToldAll level before → Told level last → size ≡ x.size
        → is_full fillfactor (state_of births level (open_at full before last born)) size ≡ is_broken level before last x
    is_full-on level full [] last born x size told one same = refl
    is_full-on level full (first ∷ others) last born x size told one same =
        let room : room_of (first_tuple_on births level first ∷ map (tuple_on births level) others) + (length (tuple_on births level last) + 4) ≡ taken level ((first ∷ others) ++ last ∷ []) =
        used-on level first others last told.0 told.1 one in
        let tests : ℕ → ℕ → Bool = λ (n s : ℕ). nat_lt page_room (n + (s + spare level)) || nat_lt (page_room + last.extra) (n + soft_limit fillfactor level) in
        ap (λ (n : ℕ). tests n size) room ∙ ap (λ (s : ℕ). tests (taken level ((first ∷ others) ++ last ∷ [])) s) same

    pub unbroken : (level : ℕ) (full : List (Page Content)) (before : List (Item Content)) (last : Item Content) (born : ℕ) (x : Item Content)
        → is_broken level before last x ≡ false → finished_by fillfactor level (open_at full before last born) x ≡ None
    unbroken level full [] last born x is = refl
    unbroken level full (first ∷ others) last born x is = rw is refl

    -- a page without its last item, finished by one
    abbrev pub page_of : Item Content → List (Item Content) → ℕ → Item Content → Page Content
    page_of first others born x = record { first = first; others = others; born = born; finished = x.arrival }

    pub broken : (level : ℕ) (full : List (Page Content)) (first : Item Content) (others : List (Item Content)) (last : Item Content) (born : ℕ) (x : Item Content)
        → breaks fillfactor level (first ∷ others) last x ≡ true
        → finished_by fillfactor level (open_at full (first ∷ others) last born) x ≡ Some (page_of first others born x)
    broken level full first others last born x is = rw is refl

    pub joined-on : (level : ℕ) (full : List (Page Content)) (before : List (Item Content)) (last : Item Content) (born : ℕ) (x : Item Content)
        → state_of births level (joined_by (open_at full before last born) x)
        ≡ with_tuple (tuple_on births level x) x.extra (state_of births level (open_at full before last born))
    joined-on level full [] last born x = refl
    joined-on level full (first ∷ others) last born x =
        ap (λ l. record {
          level = level;
          block = number births level born;
          prev = prev_behind births level 0 full;
          low_key = high_key_on births level first;
          before = first_tuple_on births level first ∷ l;
          last = tuple_on births level x;
          extra = x.extra;
        }) (map_push (tuple_on births level) others last)

    pub broken-on : (level : ℕ) (full : List (Page Content)) (first : Item Content) (others : List (Item Content)) (last : Item Content) (born : ℕ) (x : Item Content)
        → state_of births level (broken_by (open_at full (first ∷ others) last born) (page_of first others born x) x)
        ≡ with_tuple (tuple_on births level x) x.extra
        (next_page (number births level x.arrival) (high_key_on births level last) (state_of births level (open_at full (first ∷ others) last born)))
    broken-on level full first others last born x =
        ap (λ (p : ℕ). record {
          level = level;
          block = number births level x.arrival;
          prev = p;
          low_key = high_key_on births level last;
          before = first_tuple_on births level last ∷ [];
          last = tuple_on births level x;
          extra = x.extra;
        }) (prev-push level 0 full (page_of first others born x))
        ∙ ap (λ l. record {
          level = level;
          block = number births level x.arrival;
          prev = number births level born;
          low_key = high_key_on births level last;
          before = l ∷ [];
          last = tuple_on births level x;
          extra = x.extra;
        }) (sym (first_form-on level last))

    -- ---- a step

    -- the births get the numbers behind those given
    abbrev pub Follow : ℕ → List Birth → Type 0
    Follow blocks new = map (block_of births) new ≡ range_with_len (blocks + 1) (length new)

    pub carried-joins : (level : ℕ) (page : PageState) (above : List PageState) (blocks : ℕ) (image pivot : List ℕ) → is_full fillfactor page (length pivot) ≡ false
        → carried fillfactor level (page ∷ above) blocks image pivot ≡ record { pages = with_tuple pivot 0 page ∷ above; blocks = blocks; image = image }
    unfolding carried
    carried-joins level page above blocks image pivot is = rw is refl

    pub carried-breaks : (level : ℕ) (page : PageState) (above : List PageState) (blocks : ℕ) (image pivot : List ℕ) → is_full fillfactor page (length pivot) ≡ true
        → carried fillfactor level (page ∷ above) blocks image pivot
        ≡ below (with_tuple pivot 0 (next_page (suc blocks) page.last page))
        (carried fillfactor (suc level) above (suc blocks) (placed page.block (finished_bytes (suc blocks) page.last page) image) (pivot_of page))
    unfolding carried
    carried-breaks level page above blocks image pivot is = rw is refl

    pub carried-begins : (level : ℕ) (blocks : ℕ) (image pivot : List ℕ)
        → carried fillfactor level [] blocks image pivot ≡ record { pages = first_page level (suc blocks) pivot pivot 0 ∷ []; blocks = suc blocks; image = image }
    unfolding carried
    carried-begins level blocks image pivot = refl

    -- what is kept of the levels from one on after a step
    abbrev pub stepped : ℕ → List (Open Content) → Item Content → ℕ → List ℕ → Carried
    stepped level opens x blocks image = record {
      pages = states births level (step fillfactor level opens x);
      blocks = blocks + length (born_by fillfactor level opens x);
      image = with_nodes (made_by births fillfactor level opens x) image;
    }

    pub first-number : (blocks : ℕ) (b : Birth) (bs : List Birth) → Follow blocks (b ∷ bs) → (block_of births b ≡ suc blocks) × Follow (suc blocks) bs
    first-number blocks b bs follow =
        let one : suc blocks ≡ blocks + 1 = omega arith in
        let head : block_of births b ≡ blocks + 1 = cc in
        let tail : map (block_of births) bs ≡ range_with_len (blocks + 1 + 1) (length bs) = cc in
        (head ∙ sym one, tail ∙ ap (λ (n : ℕ). range_with_len n (length bs)) (let e : blocks + 1 + 1 ≡ suc blocks + 1 = omega arith in e))

    -- the first page of a level above the leaves
    step-begins : (below : ℕ) (x : Item Content) (blocks : ℕ) (image : List ℕ) → Told (suc below) x → Follow blocks (born_by fillfactor (suc below) [] x)
        → carried fillfactor (suc below) [] blocks image (tuple_on births (suc below) x) ≡ stepped (suc below) [] x blocks image
    step-begins below x blocks image told follow =
        let t : List ℕ = tuple_on births (suc below) x in
        let here : number births (suc below) x.arrival ≡ suc blocks = (first-number blocks _ [] follow).0 in
        let page : ℕ → List ℕ → ℕ → List PageState = λ (b : ℕ) (l : List ℕ) (e : ℕ). record {
          level = suc below;
          block = b;
          prev = 0;
          low_key = t;
          before = [];
          last = l;
          extra = e;
        } ∷ [] in
        let made : ℕ → List ℕ → ℕ → ℕ → Carried = λ (b : ℕ) (l : List ℕ) (e n : ℕ). record { pages = page b l e; blocks = n; image = image } in
        carried-begins (suc below) blocks image t
        ∙ ap (λ (b : ℕ). made b (first_form (suc below) t) 0 (suc blocks)) (sym here)
        ∙ ap (λ l. made (number births (suc below) x.arrival) l 0 (suc blocks)) (first_form-on (suc below) x)
        ∙ ap (λ (e : ℕ). made (number births (suc below) x.arrival) (first_tuple_on births (suc below) x) e (suc blocks)) (sym told.size.1)
        ∙ ap (λ (n : ℕ). made (number births (suc below) x.arrival) (first_tuple_on births (suc below) x) x.extra n) (let e : suc blocks ≡ blocks + 1 = omega arith in e)

    -- the item joins the open page
    pub stepped-joins : (level : ℕ) (o : Open Content) (above : List (Open Content)) (x : Item Content) (blocks : ℕ) (image : List ℕ)
        → finished_by fillfactor level o x ≡ None
        → record { pages = state_of births level (joined_by o x) ∷ states births (suc level) above; blocks = blocks; image = image }
        ≡ stepped level (o ∷ above) x blocks image
    stepped-joins level o above x blocks image is =
        let nothing : blocks ≡ blocks + 0 = omega arith in
        let made : List PageState → ℕ → List ℕ → Carried = λ (p : List PageState) (n : ℕ) (i : List ℕ). record { pages = p; blocks = n; image = i } in
        ap (λ (n : ℕ). made (state_of births level (joined_by o x) ∷ states births (suc level) above) n image) nothing
        ∙ ap (λ l. made (states births level l) (blocks + 0) image) (sym (step-joins fillfactor level o above x is))
        ∙ ap (λ l. made (states births level (step fillfactor level (o ∷ above) x)) (blocks + length l) image) (sym (joins-born level o above x is))
        ∙ ap (λ l. made (states births level (step fillfactor level (o ∷ above) x)) (blocks + length (born_by fillfactor level (o ∷ above) x)) (with_nodes l image)) (sym (joins-made level o above x is))
      where
        joins-born : (level : ℕ) (o : Open Content) (above : List (Open Content)) (x : Item Content) → finished_by fillfactor level o x ≡ None
            → born_by fillfactor level (o ∷ above) x ≡ []
        joins-born level o above x is = rw (is, born_by) refl

        joins-made : (level : ℕ) (o : Open Content) (above : List (Open Content)) (x : Item Content) → finished_by fillfactor level o x ≡ None
            → made_by births fillfactor level (o ∷ above) x ≡ []
        joins-made level o above x is = rw (is, made_by) refl

    pub breaks-born : (level : ℕ) (o : Open Content) (above : List (Open Content)) (x : Item Content) (page : Page Content) → finished_by fillfactor level o x ≡ Some page
        → born_by fillfactor level (o ∷ above) x ≡ record { moment = x.arrival; level = level } ∷ born_by fillfactor (suc level) above (item_above page)
    breaks-born level o above x page is = rw (is, born_by) refl

    pub breaks-made : (level : ℕ) (o : Open Content) (above : List (Open Content)) (x : Item Content) (page : Page Content) → finished_by fillfactor level o x ≡ Some page
        → made_by births fillfactor level (o ∷ above) x
        ≡ full_node births level (prev_behind births level 0 o.full) page (number births level x.arrival) o.last
        ∷ made_by births fillfactor (suc level) above (item_above page)
    breaks-made level o above x page is = rw (is, made_by) refl

    -- the item breaks it
    pub stepped-breaks : (level : ℕ) (o : Open Content) (above : List (Open Content)) (x : Item Content) (page : Page Content) (blocks : ℕ) (image : List ℕ)
        → finished_by fillfactor level o x ≡ Some page
        → below (state_of births level (broken_by o page x))
        (stepped (suc level) above (item_above page) (suc blocks)
        (placed (block_on births level page)
        (first_lowest_page (special_space (prev_behind births level 0 o.full) (number births level x.arrival) level (flags_on level false)) (high_key_on births level o.last) (tuples_on births level page))
        image))
        ≡ stepped level (o ∷ above) x blocks image
    stepped-breaks level o above x page blocks image is =
        let made : List PageState → ℕ → List ℕ → Carried = λ (p : List PageState) (n : ℕ) (i : List ℕ). record { pages = p; blocks = n; image = i } in
        let new : List Birth = born_by fillfactor (suc level) above (item_above page) in
        let node = full_node births level (prev_behind births level 0 o.full) page (number births level x.arrival) o.last in
        let after : List ℕ = with_nodes (made_by births fillfactor (suc level) above (item_above page)) (placed node.block node.bytes image) in
        ap (λ (n : ℕ). made (states births level (broken_by o page x ∷ step fillfactor (suc level) above (item_above page))) n after)
        (let e : suc blocks + length new ≡ blocks + suc (length new) = omega arith in e)
        ∙ ap (λ l. made (states births level l) (blocks + suc (length new)) after) (sym (step-breaks fillfactor level o above x page is))
        ∙ ap (λ l. made (states births level (step fillfactor level (o ∷ above) x)) (blocks + length l) after) (sym (breaks-born level o above x page is))
        ∙ ap (λ l. made (states births level (step fillfactor level (o ∷ above) x)) (blocks + length (born_by fillfactor level (o ∷ above) x)) (with_nodes l image)) (sym (breaks-made level o above x page is))

    -- a tuple that comes to a level above the leaves is a step there
    pub carried-on : (lower : ℕ) (opens : List (Open Content)) (x : Item Content) (blocks : ℕ) (image : List ℕ)
        → AllTold (suc lower) opens → Told (suc lower) x → Follow blocks (born_by fillfactor (suc lower) opens x)
        → carried fillfactor (suc lower) (states births (suc lower) opens) blocks image (tuple_on births (suc lower) x)
        ≡ stepped (suc lower) opens x blocks image
    carried-on lower [] x blocks image all told follow = step-begins lower x blocks image told follow
    carried-on lower (o ∷ above) x blocks image all told follow =
        at o.full o.before o.last o.born (let told' : ToldAll (suc lower) o.before = (AllTold-parts (suc lower) o above all).0 in told') (AllTold-parts (suc lower) o above all).1 follow
        (λ item b i told' follow'. carried-on (suc lower) above item b i (AllTold-parts (suc lower) o above all).2 told' follow')
      where
        level : ℕ
        level = suc lower

        t : List ℕ
        t = tuple_on births level x

        AllTold-parts : (level : ℕ) (o : Open Content) (above : List (Open Content)) → AllTold level (o ∷ above)
            → ToldAll level o.before × Told level o.last × AllTold (suc level) above
        AllTold-parts level o above all = all

        SizeOn-parts : Told level x → (x.bound ≡ x.size) × (x.extra ≡ 0)
        SizeOn-parts told = told.size

        joins : (full : List (Page Content)) (before : List (Item Content)) (last : Item Content) (born : ℕ)
            → ToldAll level before → Told level last → is_broken level before last x ≡ false
            → carried fillfactor level (states births level (open_at full before last born ∷ above)) blocks image t
            ≡ stepped level (open_at full before last born ∷ above) x blocks image
        joins full before last born told' one is =
            let st = state_of births level (open_at full before last born) in
            let made : PageState → Carried = λ p. record { pages = p ∷ states births (suc level) above; blocks = blocks; image = image } in
            carried-joins level st (states births (suc level) above) blocks image t
            (is_full-on level full before last born x (length t) told' one (length-tuple_on level x told) ∙ is)
            ∙ ap (λ (e : ℕ). made (with_tuple t e st)) (sym (SizeOn-parts told).1)
            ∙ ap made (sym (joined-on level full before last born x))
            ∙ stepped-joins level (open_at full before last born) above x blocks image (unbroken level full before last born x is)

        Goes : Type 0
        Goes = (item : Item Content) (b : ℕ) (i : List ℕ) → Told (suc level) item → Follow b (born_by fillfactor (suc level) above item)
            → carried fillfactor (suc level) (states births (suc level) above) b i (tuple_on births (suc level) item) ≡ stepped (suc level) above item b i

        breaks' : (full : List (Page Content)) (first : Item Content) (others : List (Item Content)) (last : Item Content) (born : ℕ)
            → ToldAll level (first ∷ others) → Told level last → breaks fillfactor level (first ∷ others) last x ≡ true
            → Follow blocks (born_by fillfactor level (open_at full (first ∷ others) last born ∷ above) x) → Goes
            → carried fillfactor level (states births level (open_at full (first ∷ others) last born ∷ above)) blocks image t
            ≡ stepped level (open_at full (first ∷ others) last born ∷ above) x blocks image
        breaks' full first others last born told' one is follow' later =
            let o = open_at full (first ∷ others) last born in
            let page = page_of first others born x in
            let finished = broken level full first others last born x is in
            let st = state_of births level o in
            let numbers = first-number blocks _ _ (subst (Follow blocks) (breaks-born level o above x page finished) follow') in
            let here : number births level x.arrival ≡ suc blocks = numbers.0 in
            let bytes : ℕ → List ℕ = λ (n : ℕ). first_lowest_page (special_space (prev_behind births level 0 full) n level (flags_on level false)) (tuple_on births level last) (tuples_on births level page) in
            let rest : ℕ → List ℕ → Carried = λ (n : ℕ) (pivot : List ℕ). carried fillfactor (suc level) (states births (suc level) above) (suc blocks) (placed st.block (bytes n) image) pivot in
            carried-breaks level st (states births (suc level) above) blocks image t
            (is_full-on level full (first ∷ others) last born x (length t) told' one (length-tuple_on level x told) ∙ is)
            ∙ ap (λ (n : ℕ). below (with_tuple t 0 (next_page n st.last st)) (rest n (pivot_of st))) (sym here)
            ∙ ap (λ (e : ℕ). below (with_tuple t e (next_page (number births level x.arrival) st.last st)) (rest (number births level x.arrival) (pivot_of st))) (sym (SizeOn-parts told).1)
            ∙ ap (λ p. below p (rest (number births level x.arrival) (pivot_of st))) (sym (broken-on level full first others last born x))
            ∙ ap (λ pivot. below (state_of births level (broken_by o page x)) (rest (number births level x.arrival) pivot)) (pivot-on level born first others x.arrival)
            ∙ ap (below (state_of births level (broken_by o page x)))
            (later (item_above page) (suc blocks) (placed st.block (bytes (number births level x.arrival)) image) (told-above level page told'.0) numbers.1)
            ∙ stepped-breaks level o above x page blocks image finished

        at : (full : List (Page Content)) (before : List (Item Content)) (last : Item Content) (born : ℕ)
            → ToldAll level before → Told level last → Follow blocks (born_by fillfactor level (open_at full before last born ∷ above) x) → Goes
            → carried fillfactor level (states births level (open_at full before last born ∷ above)) blocks image t
            ≡ stepped level (open_at full before last born ∷ above) x blocks image
        at full [] last born told' one follow' later = joins full [] last born told' one refl
        at full (first ∷ others) last born told' one follow' later = go (breaks fillfactor level (first ∷ others) last x) refl
          where
            go : (b : Bool) → breaks fillfactor level (first ∷ others) last x ≡ b
                → carried fillfactor level (states births level (open_at full (first ∷ others) last born ∷ above)) blocks image t
                ≡ stepped level (open_at full (first ∷ others) last born ∷ above) x blocks image
            go false is = joins full (first ∷ others) last born told' one is
            go true is = breaks' full first others last born told' one is follow' later
