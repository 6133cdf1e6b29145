-- The pages of a level that is filled: what they take, and one tuple more.
use Rattle.std.proofs.Common.{◌≡◌, ℕ, ◌+◌, ◌-◌, ◌*◌, ◌<◌, ◌≤◌, ◌^◌, List, [], ◌∷◌, ◌++◌, length, refl, sym, ap, ◌∙◌, arith, length-append, subst}
use Rattle.std.specs.Prelude.{Some, None, map}
use Rattle.std.specs.List.{AllByRecursion, AllZip, flat_map, last_or}
use Rattle.std.proofs.lemmas.Grind.{flat_map-append}
use Rattle.std.proofs.lemmas.List.Concat.{flat_map-cons}
use Rattle.std.proofs.lemmas.List.{append_assoc, append-nil, length-map, map-append}
use Rattle.std.proofs.lemmas.List.Sums.{sum_by-append, sum_by-cons}
use Rattle.pg_bytes.specs.ItemPage.{item_page, lower_at, space_taken, upper_at}
use Rattle.pg_bytes.specs.Numbers.{rounded_up}
use Rattle.pg_bytes.specs.PageLayout.{lower_of, lower_with, upper_of, with_item}
use Rattle.pg_bytes.proofs.ItemPage.{lower_of-item_page, upper_of-item_page, with_item-item_page}
use Rattle.opclass.specs.declared.types.ColType.{ColType}
use Rattle.gin_entry.specs.declared.entry.Entry.{Entry}
use Rattle.posting_tree.specs.Levels.{fill, greatest, no_link}
use Rattle.posting_tree.specs.Special.{special_space}
use Rattle.gin_file.specs.EntryTree.{Item, entry_page, item_kind, item_size}
use Rattle.gin_pack.specs.declared.level.FullPage.{FullPage}
use Rattle.gin_pack.specs.declared.level.Level.{Level}
use Rattle.gin_pack.specs.Pass.Filling.{HasItems, HasPut, Holds, IsFilled, IsLevelOf, NamesEntry}
use Rattle.gin_file.specs.EntryTuple.{IsTuple}
use Rattle.gin_pack.specs.Pass.Placing.{ArePagesOf}
use Rattle.gin_file.proofs.SpecialSpaces.{length-special_space}
use Rattle.gin_pack.proofs.Places.{all-push, last_or-push, zip-push}

-- the tuples of items
abbrev pub tuples_of : List Item → List (List ℕ)
tuples_of items = map (λ item. item.tuple) items

-- what tuples take is their space on the page and a line pointer each
pub fill-is : (flags : ℕ) (items : List Item) → AllByRecursion (λ item. IsTuple item.tuple) items
    → fill (item_kind flags) items ≡ space_taken (tuples_of items) + 4 * length (tuples_of items)
fill-is flags [] all = refl
fill-is flags (item ∷ items) all =
    let parts = sum_by-cons item_size item items in
    let rest = fill-is flags items all.1 in
    let whole = all.0.whole in
    omega arith

-- tuples take at most 2,716 bytes each
pub fill-most : (flags : ℕ) (items : List Item) → AllByRecursion (λ item. IsTuple item.tuple) items
    → fill (item_kind flags) items ≤ 2716 * length items
fill-most flags [] all = omega arith
fill-most flags (item ∷ items) all =
    let parts = sum_by-cons item_size item items in
    let rest = fill-most flags items all.1 in
    let most = all.0.most in
    omega arith

-- a page without tuples
pub no-items : (kind : ColType) (flags : ℕ) (page : FullPage) → page.page ≡ entry_page flags no_link [] → HasItems kind flags [] page
no-items kind flags page bytes = record {
  bytes = bytes;
  key = λ last is. absurd cc;
  room = omega arith;
  tuples = tt;
}

-- a tuple has its place on a page with these
pub record HasPlace (tuple : List ℕ) (count : ℕ) (page : List ℕ) (grown : List ℕ) : Type 0 where
  pub few : count < 2 ^ 15
  pub upper : upper_of page ≤ 8192
  pub room : lower_with (count + 1) page + rounded_up 8 (length tuple) ≤ upper_of page
  pub after : with_item (count + 1) tuple page ≡ grown

pub has_place : (kind : ColType) (flags : ℕ) (pages : List (List Item)) (last : List Item) (level : Level) (tuple : List ℕ)
    → Holds kind flags pages last level → IsTuple tuple → length tuple + 4 ≤ level.free
    → HasPlace tuple level.count level.open_page.page (entry_page flags no_link (tuples_of last ++ tuple ∷ []))
has_place kind flags pages last level tuple holds is fits =
    let special : List ℕ = special_space no_link 0 flags in
    let size : length special ≡ 8 = length-special_space no_link 0 flags in
    let tuples : List (List ℕ) = tuples_of last in
    let taken = fill-is flags last holds.open_has.tuples in
    let many : length tuples ≡ length last = length-map last (λ item. item.tuple) in
    let free = holds.free in
    let count = holds.count in
    let whole = is.whole in
    let least = is.least in
    let page : level.open_page.page ≡ item_page special tuples = holds.open_has.bytes in
    let lower : lower_of level.open_page.page ≡ lower_at tuples = ap lower_of page ∙ lower_of-item_page special tuples (omega arith) in
    let upper : upper_of level.open_page.page ≡ upper_at special tuples = ap upper_of page ∙ upper_of-item_page special tuples in
    record {
      few = omega arith;
      upper = omega arith;
      room = omega arith;
      after =
          ap (λ (n : ℕ). with_item (n + 1) tuple level.open_page.page) (let e : level.count ≡ length tuples = omega arith in e)
          ∙ ap (with_item (length tuples + 1) tuple) page
          ∙ with_item-item_page special tuples tuple (omega arith);
    }

-- one tuple more on the open page
pub item-added : (kind : ColType) (flags : ℕ) (items : List Item) (entry : Entry) (old new : Level) (tuple : List ℕ)
    → IsTuple tuple → length tuple + 4 ≤ old.free
    → new.flags ≡ old.flags → new.full ≡ old.full → new.count ≡ old.count + 1 → new.free ≡ old.free - (length tuple + 4)
    → new.open_page.page ≡ with_item (old.count + 1) tuple old.open_page.page
    → HasPut kind flags items old → NamesEntry kind entry new.open_page.key.items
    → IsLevelOf kind flags (items ++ record { entry = entry; tuple = tuple } ∷ []) new
item-added kind flags items entry old new tuple is fits same_flags same_full count free page has names =
    let item : Item = record { entry = entry; tuple = tuple } in
    let h = has.holds in
    let at = has_place kind flags has.pages has.last old tuple h is fits in
    let grown : List Item = has.last ++ item ∷ [] in
    let filled : fill (item_kind flags) grown ≡ fill (item_kind flags) has.last + (length tuple + 4) =
    sum_by-append item_size has.last (item ∷ []) ∙ omega arith in
    let was_free = h.free in
    let was_count = h.count in
    let longer : length grown ≡ length has.last + 1 = length-append has.last (item ∷ []) in
    let tuples : tuples_of grown ≡ tuples_of has.last ++ tuple ∷ [] = map-append (λ (i : Item). i.tuple) has.last (item ∷ []) in
    let greatest_is : greatest (item_kind flags) grown ≡ Some entry =
    ap (last_or None) (map-append (λ (i : Item). i.entry) has.last (item ∷ [])) ∙ last_or-push None (map (λ i. i.entry) has.last) entry in
    record {
      put = record {
        pages = has.pages;
        last = grown;
        all = sym (append_assoc (flat_map (λ page. page) has.pages) has.last (item ∷ [])) ∙ ap (λ (l : List Item). l ++ item ∷ []) has.all;
        holds = record {
          flags_are = same_flags ∙ h.flags_are;
          full = subst (λ (v : List FullPage). AllZip (HasItems kind flags) has.pages v) (sym (ap (λ v. v.items) same_full)) h.full;
          filled = h.filled;
          open_has = record {
            bytes = page ∙ at.after ∙ ap (entry_page flags no_link) (sym tuples);
            key = λ last last_is.
                let same : entry ≡ last = cc in
                subst (λ (e : Entry). NamesEntry kind e new.open_page.key.items) same names;
            room = omega arith;
            tuples = all-push (λ (i : Item). IsTuple i.tuple) has.last item h.open_has.tuples is;
          };
          count = omega arith;
          free = omega arith;
        };
      };
      some = λ some. omega arith;
    }

-- another page is open, and this one is full
pub page-turned : (kind : ColType) (flags : ℕ) (items : List Item) (old new : Level) (size : ℕ)
    → size ≤ 2712 → old.free < size + 4
    → new.flags ≡ old.flags → new.full.items ≡ old.full.items ++ old.open_page ∷ [] → new.count ≡ 0 → new.free ≡ 8160
    → new.open_page.page ≡ entry_page old.flags no_link []
    → HasPut kind flags items old → HasPut kind flags items new
page-turned kind flags items old new size small full same_flags grown count free page has =
    let h = has.holds in
    let was_free = h.free in
    let most = fill-most flags has.last h.open_has.tuples in
    record {
      pages = has.pages ++ has.last ∷ [];
      last = [];
      all =
          append-nil (flat_map (λ page. page) (has.pages ++ has.last ∷ []))
          ∙ flat_map-append (λ (page : List Item). page) has.pages (has.last ∷ [])
          ∙ ap (λ (l : List Item). flat_map (λ page. page) has.pages ++ l) (append-nil has.last)
          ∙ has.all;
      holds = record {
        flags_are = same_flags ∙ h.flags_are;
        full = subst (λ (v : List FullPage). AllZip (HasItems kind flags) (has.pages ++ has.last ∷ []) v) (sym grown)
            (zip-push (HasItems kind flags) has.pages old.full.items has.last old.open_page h.full h.open_has);
        filled = all-push (IsFilled flags) has.pages has.last h.filled (record { filled = omega arith; many = omega arith });
        open_has = no-items kind flags new.open_page (page ∙ ap (λ (f : ℕ). entry_page f no_link []) h.flags_are);
        count = count;
        free = omega arith;
      };
    }

-- full pages have two tuples each at least
pub two-each : (flags : ℕ) (full : List (List Item)) → AllByRecursion (IsFilled flags) full → 2 * length full ≤ length (flat_map (λ page. page) full)
two-each flags [] filled = omega arith
two-each flags (items ∷ full) filled =
    let many = filled.0.many in
    let rest = two-each flags full filled.1 in
    let parts = ap length (flat_map-cons (λ (p : List Item). p) items full) ∙ length-append items (flat_map (λ page. page) full) in
    omega arith

-- the pages of a level that is finished
pub finished-pages : (kind : ColType) (flags : ℕ) (items : List Item) (level : Level) (pages : List FullPage)
    → pages ≡ level.full.items ++ level.open_page ∷ [] → IsLevelOf kind flags items level → ArePagesOf kind flags items pages
finished-pages kind flags items level pages are is =
    let has = is.put in
    let twice = two-each flags has.pages has.holds.filled in
    let whole = ap length has.all in
    let both = length-append (flat_map (λ page. page) has.pages) has.last in
    record {
      full = has.pages;
      last = has.last;
      all = has.all;
      cut = record {
        have = subst (λ (v : List FullPage). AllZip (HasItems kind flags) (has.pages ++ has.last ∷ []) v) (sym are)
            (zip-push (HasItems kind flags) has.pages level.full.items has.last level.open_page has.holds.full has.holds.open_has);
        filled = has.holds.filled;
        some = λ some. is.some (omega arith);
      };
    }
