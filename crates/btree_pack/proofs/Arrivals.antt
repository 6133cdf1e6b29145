-- What the packer keeps once leaf items came is the tower over them as bytes, and what closing leaves is the levels.
use Rattle.std.proofs.Common.{◌≡◌, ℕ, suc, ◌+◌, ◌≤◌, Bool, true, false, List, [], ◌∷◌, length, refl, sym, ap, ◌∙◌, subst, arith}
use Rattle.std.specs.Prelude.{Option, Some, None}
use Rattle.pg_bytes.specs.Image.{placed}
use Rattle.pg_bytes.specs.ItemPage.{first_lowest_page}
use Rattle.btree_pack.specs.Births.{Birth}
use Rattle.btree_pack.specs.Break.{Item, breaks}
use Rattle.btree_pack.specs.Leaves.{Content}
use Rattle.btree_pack.specs.Nodes.{flags_on, tuples_on}
use Rattle.btree_page.specs.SpecialSpace.{special_space}
use Rattle.btree_pack.specs.Pages.{Page}
use Rattle.btree_pack.specs.Tower.{item_above}
use Rattle.btree_item.specs.Pivot.{minus_infinity}
use Rattle.btree_pack.specs.Pass.Emission.{number, prev_behind, state_of, states}
use Rattle.btree_pack.specs.Pass.History.{born_by}
use Rattle.btree_pack.specs.Pass.Open.{Open, broken_by, finished_by, joined_by, step}
use Rattle.btree_pack.specs.Pass.Packed.{arrived}
use Rattle.btree_pack.specs.Pass.Packing.{Carried, PageState, Packing, added, breaks_leaf, carried, finished_bytes, first_page, next_page, pivot_of, turned, with_carried, with_tuple}
use Rattle.btree_pack.proofs.Towers.{step-joins, step-breaks}
use Rattle.btree_pack.proofs.Carrying.{AllTold, Follow, Told, ToldAll, ToldAll-push, broken, broken-on, breaks-born, carried-on, first-number, is_broken, is_full-on, joined-on, open_at, page_of, stepped, stepped-breaks, stepped-joins, told-above, unbroken}

module _ (births : List Birth) (fillfactor : ℕ) where
  -- all that is kept
  abbrev pub packing_with : List (Open Content) → ℕ → ℕ → List ℕ → Packing
  packing_with opens tuples blocks image = record { pages = states births 0 opens; tuples = tuples; blocks = blocks; image = image }

  abbrev pub packing_after : ℕ → Carried → Packing
  packing_after tuples c = record { pages = c.pages; tuples = tuples; blocks = c.blocks; image = c.image }

  -- the separator of the last item, and of the first one of all
  abbrev pub IsBehind : List ℕ → List (Open Content) → Item Content → Type 0
  IsBehind separator [] x = x.content.separator ≡ minus_infinity 0
  IsBehind separator (o ∷ above) x = separator ≡ o.last.content.separator

  arrived-turns : (separator : List ℕ) (packing : Packing) (x : Item Content) → breaks_leaf fillfactor packing x.size ≡ true
      → arrived fillfactor separator packing x ≡ added x.content.tuple x.extra (turned fillfactor separator packing)
  arrived-turns separator packing x is = rw is refl

  arrived-adds : (separator : List ℕ) (packing : Packing) (x : Item Content) → breaks_leaf fillfactor packing x.size ≡ false
      → arrived fillfactor separator packing x ≡ added x.content.tuple x.extra packing
  arrived-adds separator packing x is = rw is refl

  added-first : (tuple : List ℕ) (extra tuples blocks : ℕ) (image : List ℕ)
      → added tuple extra (record { pages = []; tuples = tuples; blocks = blocks; image = image })
      ≡ record { pages = first_page 0 (suc blocks) (minus_infinity 0) tuple extra ∷ []; tuples = suc tuples; blocks = suc blocks; image = image }
  unfolding added
  added-first tuple extra tuples blocks image = refl

  added-more : (tuple : List ℕ) (extra : ℕ) (page : PageState) (above : List PageState) (tuples blocks : ℕ) (image : List ℕ)
      → added tuple extra (record { pages = page ∷ above; tuples = tuples; blocks = blocks; image = image })
      ≡ record { pages = with_tuple tuple extra page ∷ above; tuples = suc tuples; blocks = blocks; image = image }
  unfolding added
  added-more tuple extra page above tuples blocks image = refl

  turned-on : (high_key : List ℕ) (page : PageState) (above : List PageState) (tuples blocks : ℕ) (image : List ℕ)
      → turned fillfactor high_key (record { pages = page ∷ above; tuples = tuples; blocks = blocks; image = image })
      ≡ with_carried (next_page (suc blocks) high_key page ∷ [])
      (carried fillfactor 1 above (suc blocks) (placed page.block (finished_bytes (suc blocks) high_key page) image) (pivot_of page))
      (record { pages = page ∷ above; tuples = tuples; blocks = blocks; image = image })
  unfolding turned
  turned-on high_key page above tuples blocks image = refl

  first-arrives : (separator : List ℕ) (x : Item Content) (tuples blocks : ℕ) (image : List ℕ)
      → x.content.separator ≡ minus_infinity 0 → Follow births fillfactor blocks (born_by fillfactor 0 [] x)
      → arrived fillfactor separator (packing_with [] tuples blocks image) x ≡ packing_after (suc tuples) (stepped births fillfactor 0 [] x blocks image)
  first-arrives separator x tuples blocks image is follow =
      let here : number births 0 x.arrival ≡ suc blocks = (first-number births fillfactor blocks _ [] follow).0 in
      let made : ℕ → List ℕ → ℕ → Packing = λ (b : ℕ) (k : List ℕ) (n : ℕ). record {
        pages = record { level = 0; block = b; prev = 0; low_key = k; before = []; last = x.content.tuple; extra = x.extra } ∷ [];
        tuples = suc tuples;
        blocks = n;
        image = image;
      } in
      added-first x.content.tuple x.extra tuples blocks image
      ∙ ap (λ (b : ℕ). made b (minus_infinity 0) (suc blocks)) (sym here)
      ∙ ap (λ k. made (number births 0 x.arrival) k (suc blocks)) (sym is)
      ∙ ap (λ (n : ℕ). made (number births 0 x.arrival) x.content.separator n) (let e : suc blocks ≡ blocks + 1 = omega arith in e)

  joins : (separator : List ℕ) (full : List (Page Content)) (before : List (Item Content)) (last : Item Content) (born : ℕ) (above : List (Open Content))
      (x : Item Content) (tuples blocks : ℕ) (image : List ℕ)
      → ToldAll births 0 before → Told births 0 last → is_broken births fillfactor 0 before last x ≡ false
      → arrived fillfactor separator (packing_with (open_at births fillfactor full before last born ∷ above) tuples blocks image) x
      ≡ packing_after (suc tuples) (stepped births fillfactor 0 (open_at births fillfactor full before last born ∷ above) x blocks image)
  joins separator full before last born above x tuples blocks image told one is =
      let o = open_at births fillfactor full before last born in
      arrived-adds separator (packing_with (o ∷ above) tuples blocks image) x (is_full-on births fillfactor 0 full before last born x x.size told one refl ∙ is)
      ∙ added-more x.content.tuple x.extra (state_of births 0 o) (states births 1 above) tuples blocks image
      ∙ ap (λ p. packing_after (suc tuples) (record { pages = p ∷ states births 1 above; blocks = blocks; image = image })) (sym (joined-on births fillfactor 0 full before last born x))
      ∙ ap (packing_after (suc tuples)) (stepped-joins births fillfactor 0 o above x blocks image (unbroken births fillfactor 0 full before last born x is))

  -- the open leaf is broken
  turns : (full : List (Page Content)) (first : Item Content) (others : List (Item Content)) (last : Item Content) (born : ℕ) (above : List (Open Content))
      (x : Item Content) (tuples blocks : ℕ) (image : List ℕ)
      → ToldAll births 0 (first ∷ others) → Told births 0 last → AllTold births 1 above → breaks fillfactor 0 (first ∷ others) last x ≡ true
      → Follow births fillfactor blocks (born_by fillfactor 0 (open_at births fillfactor full (first ∷ others) last born ∷ above) x)
      → arrived fillfactor last.content.separator (packing_with (open_at births fillfactor full (first ∷ others) last born ∷ above) tuples blocks image) x
      ≡ packing_after (suc tuples) (stepped births fillfactor 0 (open_at births fillfactor full (first ∷ others) last born ∷ above) x blocks image)
  turns full first others last born above x tuples blocks image told one all is follow =
      let o = open_at births fillfactor full (first ∷ others) last born in
      let page = page_of births fillfactor first others born x in
      let finished = broken births fillfactor 0 full first others last born x is in
      let st = state_of births 0 o in
      let hk : List ℕ = last.content.separator in
      let numbers = first-number births fillfactor blocks _ _ (subst (Follow births fillfactor blocks) (breaks-born births fillfactor 0 o above x page finished) follow) in
      let here : number births 0 x.arrival ≡ suc blocks = numbers.0 in
      let bytes : ℕ → List ℕ = λ (n : ℕ). first_lowest_page (special_space (prev_behind births 0 0 full) n 0 (flags_on 0 false)) hk (tuples_on births 0 page) in
      let rest : ℕ → Carried = λ (n : ℕ). carried fillfactor 1 (states births 1 above) (suc blocks) (placed st.block (bytes n) image) (pivot_of st) in
      let whole : PageState → Carried → Packing = λ p c. record { pages = p ∷ c.pages; tuples = suc tuples; blocks = c.blocks; image = c.image } in
      arrived-turns hk (packing_with (o ∷ above) tuples blocks image) x (is_full-on births fillfactor 0 full (first ∷ others) last born x x.size told one refl ∙ is)
      ∙ ap (added x.content.tuple x.extra) (turned-on hk st (states births 1 above) tuples blocks image)
      ∙ added-more x.content.tuple x.extra (next_page (suc blocks) hk st) (rest (suc blocks)).pages tuples (rest (suc blocks)).blocks (rest (suc blocks)).image
      ∙ ap (λ (n : ℕ). whole (with_tuple x.content.tuple x.extra (next_page n hk st)) (rest n)) (sym here)
      ∙ ap (λ p. whole p (rest (number births 0 x.arrival))) (sym (broken-on births fillfactor 0 full first others last born x))
      ∙ ap (whole (state_of births 0 (broken_by o page x)))
      (carried-on births fillfactor 0 above (item_above page) (suc blocks) (placed st.block (bytes (number births 0 x.arrival)) image) all (told-above births 0 page told.0) numbers.1)
      ∙ ap (packing_after (suc tuples)) (stepped-breaks births fillfactor 0 o above x page blocks image finished)

  pub AllTold-parts : (level : ℕ) (o : Open Content) (above : List (Open Content)) → AllTold births level (o ∷ above)
      → ToldAll births level o.before × Told births level o.last × AllTold births (suc level) above
  AllTold-parts level o above all = all

  -- a leaf item that comes is a step of the tower
  pub arrived-on : (separator : List ℕ) (opens : List (Open Content)) (x : Item Content) (tuples blocks : ℕ) (image : List ℕ)
      → AllTold births 0 opens → IsBehind separator opens x → Follow births fillfactor blocks (born_by fillfactor 0 opens x)
      → arrived fillfactor separator (packing_with opens tuples blocks image) x ≡ packing_after (suc tuples) (stepped births fillfactor 0 opens x blocks image)
  arrived-on separator [] x tuples blocks image all behind follow = first-arrives separator x tuples blocks image behind follow
  arrived-on separator (o ∷ above) x tuples blocks image all behind follow =
      let told = AllTold-parts 0 o above all in
      at o.full o.before o.last o.born told.0 told.1 behind follow
    where
      at : (full : List (Page Content)) (before : List (Item Content)) (last : Item Content) (born : ℕ)
          → ToldAll births 0 before → Told births 0 last → separator ≡ last.content.separator
          → Follow births fillfactor blocks (born_by fillfactor 0 (open_at births fillfactor full before last born ∷ above) x)
          → arrived fillfactor separator (packing_with (open_at births fillfactor full before last born ∷ above) tuples blocks image) x
          ≡ packing_after (suc tuples) (stepped births fillfactor 0 (open_at births fillfactor full before last born ∷ above) x blocks image)
      at full [] last born told one same follow' = joins separator full [] last born above x tuples blocks image told one refl
      at full (first ∷ others) last born told one same follow' = go (breaks fillfactor 0 (first ∷ others) last x) refl
        where
          go : (b : Bool) → breaks fillfactor 0 (first ∷ others) last x ≡ b
              → arrived fillfactor separator (packing_with (open_at births fillfactor full (first ∷ others) last born ∷ above) tuples blocks image) x
              ≡ packing_after (suc tuples) (stepped births fillfactor 0 (open_at births fillfactor full (first ∷ others) last born ∷ above) x blocks image)
          go false is = joins separator full (first ∷ others) last born above x tuples blocks image told one is
          go true is =
              ap (λ s. arrived fillfactor s (packing_with (open_at births fillfactor full (first ∷ others) last born ∷ above) tuples blocks image) x) same
              ∙ turns full first others last born above x tuples blocks image told one (AllTold-parts 0 o above all).2 is follow'

  -- ---- what a step keeps

  pub told-step : (level : ℕ) (opens : List (Open Content)) (x : Item Content) → AllTold births level opens → Told births level x
      → AllTold births level (step fillfactor level opens x)
  told-step level [] x all told = (tt, told, tt)
  told-step level (o ∷ above) x all told = at o.full o.before o.last o.born all.0 all.1 (λ item told'. told-step (suc level) above item all.2 told')
    where
      at : (full : List (Page Content)) (before : List (Item Content)) (last : Item Content) (born : ℕ)
          → ToldAll births level before → Told births level last
          → ((item : Item Content) → Told births (suc level) item → AllTold births (suc level) (step fillfactor (suc level) above item))
          → AllTold births level (step fillfactor level (open_at births fillfactor full before last born ∷ above) x)
      at full [] last born told' one later = ((one, tt), told, all.2)
      at full (first ∷ others) last born told' one later = go (breaks fillfactor level (first ∷ others) last x) refl
        where
          o' : Open Content
          o' = open_at births fillfactor full (first ∷ others) last born

          go : (b : Bool) → breaks fillfactor level (first ∷ others) last x ≡ b → AllTold births level (step fillfactor level (o' ∷ above) x)
          go false is =
              subst (AllTold births level) (sym (step-joins fillfactor level o' above x (unbroken births fillfactor level full (first ∷ others) last born x is)))
              (ToldAll-push births level (first ∷ others) last told' one, told, all.2)
          go true is =
              let page = page_of births fillfactor first others born x in
              subst (AllTold births level) (sym (step-breaks fillfactor level o' above x page (broken births fillfactor level full first others last born x is)))
              ((one, tt), told, later (item_above page) (told-above births level page told'.0))

  -- the last of the levels has no full page
  abbrev pub TopIsAlone : List (Open Content) → Type 0
  TopIsAlone [] = Unit {0}
  TopIsAlone (o ∷ []) = o.full ≡ []
  TopIsAlone (o ∷ next ∷ above) = TopIsAlone (next ∷ above)

  alone-below : (o : Open Content) (above : List (Open Content)) → 1 ≤ length above → TopIsAlone above → TopIsAlone (o ∷ above)
  alone-below o [] some alone = absurd (omega arith)
  alone-below o (next ∷ above) some alone = alone

  alone-joined : (o joined : Open Content) (above : List (Open Content)) → joined.full ≡ o.full → TopIsAlone (o ∷ above) → TopIsAlone (joined ∷ above)
  alone-joined o joined [] same alone = same ∙ alone
  alone-joined o joined (next ∷ above) same alone = alone

  alone-above : (o : Open Content) (above : List (Open Content)) → TopIsAlone (o ∷ above) → TopIsAlone above
  alone-above o [] alone = tt
  alone-above o (next ∷ above) alone = alone

  pub alone-step : (level : ℕ) (opens : List (Open Content)) (x : Item Content) → TopIsAlone opens
      → TopIsAlone (step fillfactor level opens x) × (1 ≤ length (step fillfactor level opens x))
  alone-step level [] x alone = (refl, omega arith)
  alone-step level (o ∷ above) x alone = go (finished_by fillfactor level o x) refl (λ item. alone-step (suc level) above item (alone-above o above alone))
    where
      go : (f : Option (Page Content)) → finished_by fillfactor level o x ≡ f
          → ((item : Item Content) → TopIsAlone (step fillfactor (suc level) above item) × (1 ≤ length (step fillfactor (suc level) above item)))
          → TopIsAlone (step fillfactor level (o ∷ above) x) × (1 ≤ length (step fillfactor level (o ∷ above) x))
      go None is later =
          let same = sym (step-joins fillfactor level o above x is) in
          subst (λ l. TopIsAlone l × (1 ≤ length l)) same (alone-joined o (joined_by o x) above refl alone, omega arith)
      go (Some page) is later =
          let same = sym (step-breaks fillfactor level o above x page is) in
          let rest = later (item_above page) in
          subst (λ l. TopIsAlone l × (1 ≤ length l)) same (alone-below (broken_by o page x) (step fillfactor (suc level) above (item_above page)) rest.1 rest.0, omega arith)
