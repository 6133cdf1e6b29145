-- A page of the open tower at its level, and those below and above it.
use Rattle.std.proofs.Common.{◌≡◌, Bool, ℕ, zero, suc, ◌+◌, ◌-◌, ◌<◌, ◌≤◌, List, [], ◌∷◌, ◌++◌, length, length-append, take, drop, set, get_or, refl, sym, ap, ◌∙◌, subst, arith, append_assoc}
use Rattle.std.proofs.lemmas.List.{drop_all, drop_at, drop-set-lt, length-drop, length-take-le, take_all, take_more_set}
use Rattle.std.specs.Prelude.{Option, Some, slice_get, IfSome, ◌==◌, true, false}
use Rattle.std.proofs.lemmas.Bool.Decides.{nat_tests}
use Rattle.pg_bytes.specs.Image.{placed}
use Rattle.btree_pack.specs.Pass.Packing.{Carried, Closed, PageState, Packing, added, carried, closed, finished_bytes, first_page, is_full, last_bytes, next_page, pivot_of, turned, with_carried, with_tuple}
use Rattle.btree_item.specs.Pivot.{minus_infinity}
use Rattle.btree_pack.proofs.Carrying.{carried-begins, carried-joins, carried-breaks}
use Rattle.btree_pack.proofs.Closings.{closed-root, closed-more}

pub got : {X : Type 0} (xs : List X) (i : ℕ) (x : X) → i < length xs → x ≡ get_or xs i x → slice_get xs i ≡ Some x
got [] i x inside is = absurd (omega arith)
got (y ∷ xs) zero x inside is = ap Some (sym is)
got (y ∷ xs) (suc i) x inside is = got xs i x (omega arith) is

pub at-got : {X : Type 0} (P : X → Type 0) (xs : List X) (i : ℕ) (x : X) → slice_get xs i ≡ Some x → IfSome (slice_get xs i) P → P x
at-got P xs i x is holds = subst (λ o. IfSome o P) is holds

pub if-got : {X : Type 0} (P : X → Type 0) (xs : List X) (i : ℕ) (x : X) → slice_get xs i ≡ Some x → P x → IfSome (slice_get xs i) P
if-got P xs i x is holds = subst (λ o. IfSome o P) (sym is) holds

pub drop-got : {X : Type 0} (xs : List X) (i : ℕ) (x : X) → slice_get xs i ≡ Some x → drop i xs ≡ x ∷ drop (suc i) xs
drop-got [] zero x is = cc
drop-got [] (suc i) x is = cc
drop-got (y ∷ xs) zero x is = let same : y ≡ x = cc in ap (λ z. z ∷ xs) same
drop-got (y ∷ xs) (suc i) x is = drop-got xs i x is

pub set-split : {X : Type 0} (xs : List X) (i : ℕ) (y : X) → i < length xs → set xs i y ≡ take i xs ++ y ∷ drop (suc i) xs
set-split [] i y inside = absurd (omega arith)
set-split (x ∷ xs) zero y inside = refl
set-split (x ∷ xs) (suc i) y inside = ap (λ l. x ∷ l) (set-split xs i y (omega arith))

abbrev pub kept : List PageState → ℕ → ℕ → List ℕ → Packing
kept pages tuples blocks image = record { pages = pages; tuples = tuples; blocks = blocks; image = image }

-- the tuple joins the page at its level
pub carry-joins : (fillfactor level : ℕ) (pages : List PageState) (page : PageState) (tuples blocks : ℕ) (image pivot : List ℕ)
    → level < length pages → slice_get pages level ≡ Some page → is_full fillfactor page (length pivot) ≡ false
    → kept (set pages level (with_tuple pivot 0 page)) tuples blocks image
    ≡ with_carried (take level pages) (carried fillfactor level (drop level pages) blocks image pivot) (kept pages tuples blocks image)
carry-joins fillfactor level pages page tuples blocks image pivot inside here full =
    ap (λ l. kept l tuples blocks image) (set-split pages level (with_tuple pivot 0 page) inside)
    ∙ sym (ap (λ c. with_carried (take level pages) c (kept pages tuples blocks image))
    (ap (λ l. carried fillfactor level l blocks image pivot) (drop-got pages level page here)
    ∙ carried-joins [] fillfactor level page (drop (suc level) pages) blocks image pivot full))

-- it breaks the page, and a tuple comes to the level above
pub carry-breaks : (fillfactor level : ℕ) (pages : List PageState) (page : PageState) (tuples blocks : ℕ) (image pivot : List ℕ)
    → level < length pages → slice_get pages level ≡ Some page → is_full fillfactor page (length pivot) ≡ true
    → (let now = set pages level (with_tuple pivot 0 (next_page (suc blocks) page.last page)) in
    let placed' = placed page.block (finished_bytes (suc blocks) page.last page) image in
    with_carried (take (level + 1) now) (carried fillfactor (level + 1) (drop (level + 1) now) (suc blocks) placed' (pivot_of page))
    (kept now tuples (suc blocks) placed'))
    ≡ with_carried (take level pages) (carried fillfactor level (drop level pages) blocks image pivot) (kept pages tuples blocks image)
carry-breaks fillfactor level pages page tuples blocks image pivot inside here full =
    let q = with_tuple pivot 0 (next_page (suc blocks) page.last page) in
    let now = set pages level q in
    let placed' = placed page.block (finished_bytes (suc blocks) page.last page) image in
    let up : ℕ → List PageState → Carried = λ (n : ℕ) (l : List PageState). carried fillfactor n l (suc blocks) placed' (pivot_of page) in
    let whole : List PageState → Carried → Packing = λ (l : List PageState) (c : Carried). kept (l ++ c.pages) tuples c.blocks c.image in
    let next : level + 1 ≡ suc level = omega arith in
    ap (λ l. whole l (up (level + 1) (drop (level + 1) now))) (take_more_set pages level q inside)
    ∙ ap (λ l. whole (take level pages ++ q ∷ []) (up (level + 1) l)) (drop-set-lt (level + 1) pages level q (omega arith))
    ∙ ap (λ (n : ℕ). whole (take level pages ++ q ∷ []) (up n (drop n pages))) next
    ∙ ap (λ l. kept l tuples (up (suc level) (drop (suc level) pages)).blocks (up (suc level) (drop (suc level) pages)).image)
    (append_assoc (take level pages) (q ∷ []) (up (suc level) (drop (suc level) pages)).pages)
    ∙ sym (ap (λ c. with_carried (take level pages) c (kept pages tuples blocks image))
    (ap (λ l. carried fillfactor level l blocks image pivot) (drop-got pages level page here)
    ∙ carried-breaks [] fillfactor level page (drop (suc level) pages) blocks image pivot full))

pub kept-same : (pages pages' : List PageState) (tuples tuples' blocks blocks' : ℕ) (image image' : List ℕ)
    → pages' ≡ pages → tuples' ≡ tuples → blocks' ≡ blocks → image' ≡ image
    → kept pages' tuples' blocks' image' ≡ kept pages tuples blocks image
kept-same pages pages' tuples tuples' blocks blocks' image image' a b c d =
    ap (λ l. kept l tuples' blocks' image') a ∙ ap (λ (n : ℕ). kept pages n blocks' image') b
    ∙ ap (λ (n : ℕ). kept pages tuples n image') c ∙ ap (λ i. kept pages tuples blocks i) d

pub carry-same : (level fillfactor fillfactor' : ℕ) (pages pages' : List PageState) (tuples tuples' blocks blocks' : ℕ) (image image' pivot pivot' : List ℕ)
    → fillfactor' ≡ fillfactor → pages' ≡ pages → tuples' ≡ tuples → blocks' ≡ blocks → image' ≡ image → pivot' ≡ pivot
    → with_carried (take level pages') (carried fillfactor' level (drop level pages') blocks' image' pivot') (kept pages' tuples' blocks' image')
    ≡ with_carried (take level pages) (carried fillfactor level (drop level pages) blocks image pivot) (kept pages tuples blocks image)
carry-same level fillfactor fillfactor' pages pages' tuples tuples' blocks blocks' image image' pivot pivot' f a b c d e =
    let whole : ℕ → List PageState → ℕ → ℕ → List ℕ → List ℕ → Packing = λ (f : ℕ) (l : List PageState) (t b : ℕ) (i p : List ℕ).
    with_carried (take level l) (carried f level (drop level l) b i p) (kept l t b i) in
    ap (λ (n : ℕ). whole n pages' tuples' blocks' image' pivot') f
    ∙ ap (λ l. whole fillfactor l tuples' blocks' image' pivot') a
    ∙ ap (λ (n : ℕ). whole fillfactor pages n blocks' image' pivot') b
    ∙ ap (λ (n : ℕ). whole fillfactor pages tuples n image' pivot') c
    ∙ ap (λ i. whole fillfactor pages tuples blocks i pivot') d
    ∙ ap (λ p. whole fillfactor pages tuples blocks image p) e

-- the first page of a level above all others
pub carry-begins : (fillfactor level : ℕ) (pages : List PageState) (tuples blocks : ℕ) (image pivot : List ℕ) → level ≡ length pages
    → kept (pages ++ first_page level (suc blocks) pivot pivot 0 ∷ []) tuples (suc blocks) image
    ≡ with_carried (take level pages) (carried fillfactor level (drop level pages) blocks image pivot) (kept pages tuples blocks image)
carry-begins fillfactor level pages tuples blocks image pivot is =
    sym
    (ap (λ l. with_carried l (carried fillfactor level (drop level pages) blocks image pivot) (kept pages tuples blocks image)) (take_all level pages (omega arith))
    ∙ ap (λ l. with_carried pages (carried fillfactor level l blocks image pivot) (kept pages tuples blocks image)) (drop_all level pages (omega arith))
    ∙ ap (λ c. with_carried pages c (kept pages tuples blocks image)) (carried-begins [] fillfactor level blocks image pivot))

-- ---- the leaf

first-split : (pages : List PageState) (page : PageState) → slice_get pages 0 ≡ Some page → pages ≡ page ∷ drop 1 pages
first-split pages page here = drop-got pages 0 page here

pub added-to : (tuple : List ℕ) (extra : ℕ) (page : PageState) (above : List PageState) (tuples blocks : ℕ) (image : List ℕ)
    → added tuple extra (kept (page ∷ above) tuples blocks image) ≡ kept (with_tuple tuple extra page ∷ above) (suc tuples) blocks image
unfolding added
added-to tuple extra page above tuples blocks image = refl

added-first : (tuple : List ℕ) (extra tuples blocks : ℕ) (image : List ℕ)
    → added tuple extra (kept [] tuples blocks image) ≡ kept (first_page 0 (suc blocks) (minus_infinity 0) tuple extra ∷ []) (suc tuples) (suc blocks) image
unfolding added
added-first tuple extra tuples blocks image = refl

pub add-joins : (tuple : List ℕ) (extra : ℕ) (pages : List PageState) (page : PageState) (tuples blocks : ℕ) (image : List ℕ) → slice_get pages 0 ≡ Some page
    → kept (set pages 0 (with_tuple tuple extra page)) (suc tuples) blocks image ≡ added tuple extra (kept pages tuples blocks image)
add-joins tuple extra [] page tuples blocks image here = cc
add-joins tuple extra (first ∷ above) page tuples blocks image here =
    let same : page ≡ first = cc in
    ap (λ p. kept (with_tuple tuple extra p ∷ above) (suc tuples) blocks image) same ∙ sym (added-to tuple extra first above tuples blocks image)

pub add-begins : (tuple : List ℕ) (extra : ℕ) (pages : List PageState) (tuples blocks : ℕ) (image : List ℕ) → length pages ≡ 0
    → kept (first_page 0 (suc blocks) (minus_infinity 0) tuple extra ∷ []) (suc tuples) (suc blocks) image ≡ added tuple extra (kept pages tuples blocks image)
add-begins tuple extra [] tuples blocks image none = sym (added-first tuple extra tuples blocks image)
add-begins tuple extra (page ∷ pages) tuples blocks image none = absurd (omega arith)

turned-first : (fillfactor : ℕ) (high_key : List ℕ) (page : PageState) (above : List PageState) (tuples blocks : ℕ) (image : List ℕ)
    → turned fillfactor high_key (kept (page ∷ above) tuples blocks image)
    ≡ with_carried (next_page (suc blocks) high_key page ∷ [])
    (carried fillfactor 1 above (suc blocks) (placed page.block (finished_bytes (suc blocks) high_key page) image) (pivot_of page))
    (kept (page ∷ above) tuples blocks image)
unfolding turned
turned-first fillfactor high_key page above tuples blocks image = refl

pub turns-leaf : (fillfactor : ℕ) (high_key tuple : List ℕ) (extra : ℕ) (pages : List PageState) (page : PageState) (tuples blocks : ℕ) (image : List ℕ)
    → slice_get pages 0 ≡ Some page
    → (let now = set pages 0 (with_tuple tuple extra (next_page (suc blocks) high_key page)) in
    let placed' = placed page.block (finished_bytes (suc blocks) high_key page) image in
    with_carried (take 1 now) (carried fillfactor 1 (drop 1 now) (suc blocks) placed' (pivot_of page)) (kept now (suc tuples) (suc blocks) placed'))
    ≡ added tuple extra (turned fillfactor high_key (kept pages tuples blocks image))
turns-leaf fillfactor high_key tuple extra [] page tuples blocks image here = cc
turns-leaf fillfactor high_key tuple extra (first ∷ above) page tuples blocks image here =
    let same : page ≡ first = cc in
    let q : PageState → PageState = λ p. next_page (suc blocks) high_key p in
    let c : PageState → Carried = λ p. carried fillfactor 1 above (suc blocks) (placed p.block (finished_bytes (suc blocks) high_key p) image) (pivot_of p) in
    ap (λ p. kept (with_tuple tuple extra (q p) ∷ (c p).pages) (suc tuples) (c p).blocks (c p).image) same
    ∙ sym (added-to tuple extra (q first) (c first).pages tuples (c first).blocks (c first).image)
    ∙ sym (ap (added tuple extra) (turned-first fillfactor high_key first above tuples blocks image))

-- ---- the end

pub close-root : (fillfactor most level : ℕ) (pages : List PageState) (page : PageState) (blocks : ℕ) (image : List ℕ) → 1 ≤ most
    → slice_get pages level ≡ Some page → level + 1 ≡ length pages
    → closed most fillfactor level (drop level pages) blocks image
    ≡ Some (record { image = placed page.block (last_bytes true page) image; root = record { block = page.block; level = page.level } })
close-root fillfactor zero level pages page blocks image some here is = absurd (omega arith)
close-root fillfactor (suc most) level pages page blocks image some here is =
    let none : drop (suc level) pages ≡ [] = drop_all (suc level) pages (omega arith) in
    ap (λ l. closed (suc most) fillfactor level l blocks image) (drop-got pages level page here ∙ ap (λ l. page ∷ l) none)
    ∙ closed-root [] fillfactor most level page blocks image

-- the levels above, once the page of a level is its last
pub close-more : (fillfactor most level : ℕ) (pages : List PageState) (page : PageState) (blocks : ℕ) (image : List ℕ) → 1 ≤ most
    → slice_get pages level ≡ Some page → level + 1 < length pages
    → (let c = carried fillfactor (level + 1) (drop (level + 1) pages) blocks (placed page.block (last_bytes false page) image) (pivot_of page) in
    closed (most - 1) fillfactor (level + 1) (drop (level + 1) (take (level + 1) pages ++ c.pages)) c.blocks c.image)
    ≡ closed most fillfactor level (drop level pages) blocks image
close-more fillfactor zero level pages page blocks image some here inside = absurd (omega arith)
close-more fillfactor (suc most) level pages page blocks image some here inside =
    let up : ℕ → Carried = λ (n : ℕ). carried fillfactor n (drop n pages) blocks (placed page.block (last_bytes false page) image) (pivot_of page) in
    let next : level + 1 ≡ suc level = omega arith in
    let left : suc most - 1 ≡ most = omega arith in
    ap (λ (n : ℕ). closed n fillfactor (level + 1) (drop (level + 1) (take (level + 1) pages ++ (up (level + 1)).pages)) (up (level + 1)).blocks (up (level + 1)).image) left
    ∙ ap (λ l. closed most fillfactor (level + 1) l (up (level + 1)).blocks (up (level + 1)).image)
    (drop_at (take (level + 1) pages) (up (level + 1)).pages (level + 1) (length-take-le (level + 1) pages (omega arith)))
    ∙ ap (λ (n : ℕ). closed most fillfactor n (up n).pages (up n).blocks (up n).image) next
    ∙ sym (cons (drop (suc level) pages) (let l = length-drop (suc level) pages in omega arith))
    ∙ sym (ap (λ l. closed (suc most) fillfactor level l blocks image) (drop-got pages level page here))
  where
    cons : (rest : List PageState) → 1 ≤ length rest
        → closed (suc most) fillfactor level (page ∷ rest) blocks image
        ≡ (let c = carried fillfactor (suc level) rest blocks (placed page.block (last_bytes false page) image) (pivot_of page) in
        closed most fillfactor (suc level) c.pages c.blocks c.image)
    cons [] some' = absurd (omega arith)
    cons (next ∷ above) some' = closed-more [] fillfactor most level page next above blocks image

-- a level that a tuple came to has a page
pub carried-some : (fillfactor level : ℕ) (pages : List PageState) (blocks : ℕ) (image pivot : List ℕ) → 1 ≤ length (carried fillfactor level pages blocks image pivot).pages
carried-some fillfactor level [] blocks image pivot = subst (λ (c : Carried). 1 ≤ length c.pages) (sym (carried-begins [] fillfactor level blocks image pivot)) (omega arith)
carried-some fillfactor level (page ∷ above) blocks image pivot = go (is_full fillfactor page (length pivot)) refl
  where
    go : (t : Bool) → is_full fillfactor page (length pivot) ≡ t → 1 ≤ length (carried fillfactor level (page ∷ above) blocks image pivot).pages
    go true is = subst (λ (c : Carried). 1 ≤ length c.pages) (sym (carried-breaks [] fillfactor level page above blocks image pivot is)) (omega arith)
    go false is = subst (λ (c : Carried). 1 ≤ length c.pages) (sym (carried-joins [] fillfactor level page above blocks image pivot is)) (omega arith)

pub some-at : {X : Type 0} (xs : List X) (i : ℕ) → i < length xs → (x : X) × (slice_get xs i ≡ Some x)
some-at [] i inside = absurd (omega arith)
some-at (x ∷ xs) zero inside = (x, refl)
some-at (x ∷ xs) (suc i) inside = some-at xs i (omega arith)

pub come-up : (fillfactor level : ℕ) (pages pages' now : List PageState) (blocks : ℕ) (image pivot : List ℕ) → level + 1 < length pages → pages' ≡ pages
    → now ≡ take (level + 1) pages' ++ (carried fillfactor (level + 1) (drop (level + 1) pages') blocks image pivot).pages
    → level + 1 < length now
come-up fillfactor level pages pages' now blocks image pivot inside same is =
    let up = carried fillfactor (level + 1) (drop (level + 1) pages') blocks image pivot in
    let count = ap length same in
    let whole = length-append (take (level + 1) pages') up.pages in
    let front = length-take-le (level + 1) pages' (omega arith) in
    let some = carried-some fillfactor (level + 1) (drop (level + 1) pages') blocks image pivot in
    let long = ap length is in
    omega arith

pub closes-up : (most level fillfactor fillfactor' fillfactor'' : ℕ) (pages pages' pages'' : List PageState) (page : PageState)
    (tuples' tuples'' blocks blocks' blocks'' : ℕ) (image image' image'' pivot : List ℕ)
    → 1 ≤ most → slice_get pages level ≡ Some page → level + 1 < length pages
    → fillfactor' ≡ fillfactor → fillfactor'' ≡ fillfactor' → pages' ≡ pages → blocks' ≡ blocks → image' ≡ placed page.block (last_bytes false page) image → pivot ≡ pivot_of page
    → kept pages'' tuples'' blocks'' image''
    ≡ with_carried (take (level + 1) pages') (carried fillfactor' (level + 1) (drop (level + 1) pages') blocks' image' pivot) (kept pages' tuples' blocks' image')
    → closed most fillfactor level (drop level pages) blocks image
    ≡ closed (most - 1) fillfactor'' (level + 1) (drop (level + 1) pages'') blocks'' image''
closes-up most level fillfactor fillfactor' fillfactor'' pages pages' pages'' page tuples' tuples'' blocks blocks' blocks'' image image' image'' pivot some here inside f g a b c d is =
    let whole : Packing → Option Closed = λ p. closed (most - 1) fillfactor (level + 1) (drop (level + 1) p.pages) p.blocks p.image in
    sym (close-more fillfactor most level pages page blocks image some here inside)
    ∙ sym (ap whole (is ∙ carry-same (level + 1) fillfactor fillfactor' pages pages' tuples' tuples' blocks blocks' (placed page.block (last_bytes false page) image) image' (pivot_of page) pivot
    f a refl b c d))
    ∙ ap (λ (n : ℕ). closed (most - 1) n (level + 1) (drop (level + 1) pages'') blocks'' image'') (sym (g ∙ f))

abbrev pub closed_with : List ℕ → ℕ → ℕ → Option Closed
closed_with image block level = Some (record { image = image; root = record { block = block; level = level } })

pub closed-same : (image image' : List ℕ) (block block' level level' : ℕ) → image' ≡ image → block' ≡ block → level' ≡ level
    → closed_with image block level ≡ closed_with image' block' level'
closed-same image image' block block' level level' a b c =
    ap (λ i. closed_with i block level) (sym a) ∙ ap (λ (n : ℕ). closed_with image' n level) (sym b) ∙ ap (λ (m : ℕ). closed_with image' block' m) (sym c)

pub none-there : (test : Bool) (count : ℕ) → test ≡ (count == 0) → test ≡ true → count ≡ 0
none-there test count is holds = grind (arith, nat_tests)

pub some-there : (test : Bool) (count : ℕ) → test ≡ (count == 0) → test ≡ false → 0 < count
some-there test count is fails = grind (arith, nat_tests)
