-- A page that is made of items is read as them.
use Rattle.std.proofs.Common.{◌≡◌, ℕ, zero, suc, ◌+◌, ◌-◌, ◌*◌, ◌<◌, ◌≤◌, ◌^◌, Some, List, [], ◌∷◌, ◌++◌, length, drop, refl, sym, ap, ◌∙◌, arith, length-append}
use Rattle.std.specs.Prelude.{filter_map, slice_get}
use Rattle.std.specs.List.{range_with_len}
use Rattle.std.proofs.lemmas.List.{append_assoc, append-nil, drop_at}
use Rattle.pg_bytes.proofs.ItemPage.{length-aligned, length-line_pointers, length-page_header, length-placed_items, lower_of-page_header, number_at-first, number_at-past}
use Rattle.pg_bytes.proofs.LineReading.{item-read}
use Rattle.pg_bytes.proofs.Writes.{length-number_bytes, length-zeros}
use Rattle.pg_bytes.specs.ItemPage.{first_lowest_page, item_page, line_pointers, lower_at, placed_items, space_of, space_taken, upper_at}
use Rattle.pg_bytes.specs.Laws.{HaveRoomBefore, IsReadAs}
use Rattle.pg_bytes.specs.Lines.{item_at, items_on, line_count}
use Rattle.pg_bytes.specs.Numbers.{number_at, number_bytes}
use Rattle.pg_bytes.specs.PageLayout.{aligned, lower_of, normal_word, page_header, special_of, special_space_of}
use Rattle.pg_bytes.specs.Places.{zeros}

-- ---- items in front and behind

space-append : (xs ys : List (List ℕ)) → space_taken (xs ++ ys) ≡ space_taken xs + space_taken ys
space-append [] ys = omega arith
space-append (x ∷ xs) ys = let rest = space-append xs ys in omega arith

lines-append : (end : ℕ) (xs ys : List (List ℕ)) → line_pointers end (xs ++ ys) ≡ line_pointers end xs ++ line_pointers (end - space_taken xs) ys
lines-append end [] ys = ap (λ (n : ℕ). line_pointers n ys) (let e : end ≡ end - 0 = omega arith in e)
lines-append end (x ∷ xs) ys =
    let word : List ℕ = number_bytes 4 (normal_word (end - space_of x) (length x)) in
    ap (λ (l : List ℕ). word ++ l) (lines-append (end - space_of x) xs ys)
    ∙ sym (append_assoc word (line_pointers (end - space_of x) xs) (line_pointers (end - space_of x - space_taken xs) ys))
    ∙ ap (λ (n : ℕ). (word ++ line_pointers (end - space_of x) xs) ++ line_pointers n ys)
    (let e : end - space_of x - space_taken xs ≡ end - (space_of x + space_taken xs) = omega arith in e)

placed-append : (xs ys : List (List ℕ)) → placed_items (xs ++ ys) ≡ placed_items ys ++ placed_items xs
placed-append [] ys = sym (append-nil (placed_items ys))
placed-append (x ∷ xs) ys =
    ap (λ (l : List ℕ). l ++ aligned x) (placed-append xs ys) ∙ append_assoc (placed_items ys) (placed_items xs) (aligned x)

-- ---- a page by its parts: header, line pointers before those of the items, those, what lies below the items, these

record Parted (page header words gap special : List ℕ) (lines : ℕ) (items : List (List ℕ)) : Type 0 where
  is : page ≡ header ++ (words ++ (line_pointers (8192 - length special) items ++ (gap ++ (placed_items items ++ special))))
  head : length header ≡ 24
  leading : length words ≡ 4 * lines
  whole : 24 + (4 * lines + (4 * length items + (length gap + (space_taken items + length special)))) ≡ 8192
  count : line_count page ≡ lines + length items

-- the item behind some is read under its line pointer
one-read : (page header words gap special : List ℕ) (lines : ℕ) (all before : List (List ℕ)) (item : List ℕ) (items : List (List ℕ))
    → Parted page header words gap special lines all → all ≡ before ++ item ∷ items → item_at page (1 + lines + length before) ≡ Some item
unfolding aligned
one-read page header words gap special lines all before item items p is =
    let end : ℕ = 8192 - length special in
    let offset : ℕ = end - space_taken before - space_of item in
    let word : List ℕ = number_bytes 4 (normal_word offset (length item)) in
    let pad : List ℕ = zeros (space_of item - length item) in
    let later : List ℕ = line_pointers offset items in
    let many = ap length is ∙ length-append before (item ∷ items) in
    let space = ap space_taken is ∙ space-append before (item ∷ items) in
    let lines_are : line_pointers end all ≡ line_pointers end before ++ (word ++ later) = ap (line_pointers end) is ∙ lines-append end before (item ∷ items) in
    let placed_are : placed_items all ≡ (placed_items items ++ (item ++ pad)) ++ placed_items before = ap placed_items is ∙ placed-append before (item ∷ items) in
    let front : List ℕ = header ++ (words ++ line_pointers end before) in
    let below : List ℕ = header ++ (words ++ (line_pointers end all ++ (gap ++ placed_items items))) in
    let f1 = length-append header (words ++ line_pointers end before) in
    let f2 = length-append words (line_pointers end before) in
    let f3 = length-line_pointers end before in
    let here : length front ≡ 20 + 4 * (1 + lines + length before) = omega (arith, f1, f2, f3, p.head, p.leading) in
    let b1 = length-append header (words ++ (line_pointers end all ++ (gap ++ placed_items items))) in
    let b2 = length-append words (line_pointers end all ++ (gap ++ placed_items items)) in
    let b3 = length-append (line_pointers end all) (gap ++ placed_items items) in
    let b4 = length-append gap (placed_items items) in
    let b5 = length-line_pointers end all in
    let b6 = length-placed_items items in
    let low : length below ≡ offset = omega (arith, b1, b2, b3, b4, b5, b6, p.head, p.leading, p.whole, space) in
    let inside : length below + length item ≤ 8192 = omega (arith, low, p.whole, space) in
    let split : page ≡ front ++ (word ++ (later ++ (gap ++ (placed_items all ++ special)))) =
    p.is
    ∙ ap (λ (l : List ℕ). header ++ (words ++ (l ++ (gap ++ (placed_items all ++ special))))) lines_are
    ∙ regroup-word header words (line_pointers end before) word later (gap ++ (placed_items all ++ special)) in
    let split' = split ∙ ap (λ (n : ℕ). front ++ (number_bytes 4 (normal_word n (length item)) ++ (later ++ (gap ++ (placed_items all ++ special))))) (sym low) in
    let parts : page ≡ below ++ (item ++ (pad ++ (placed_items before ++ special))) =
    p.is
    ∙ ap (λ (l : List ℕ). header ++ (words ++ (line_pointers end all ++ (gap ++ (l ++ special))))) placed_are
    ∙ regroup-item header words (line_pointers end all) gap (placed_items items) item pad (placed_items before) special in
    item-read page (1 + lines + length before) item front _ below _ (omega arith) (omega (arith, p.count, many)) split' here parts inside
  where
    regroup-word : (h w l x r m : List ℕ) → h ++ (w ++ ((l ++ (x ++ r)) ++ m)) ≡ (h ++ (w ++ l)) ++ (x ++ (r ++ m))
    regroup-word h w l x r m = simp append_assoc

    regroup-item : (h w l g b i p a s : List ℕ) → h ++ (w ++ (l ++ (g ++ (((b ++ (i ++ p)) ++ a) ++ s)))) ≡ (h ++ (w ++ (l ++ (g ++ b)))) ++ (i ++ (p ++ (a ++ s)))
    regroup-item h w l g b i p a s = simp append_assoc

-- item k of those behind some
each-read : (page header words gap special : List ℕ) (lines : ℕ) (all before items : List (List ℕ))
    → Parted page header words gap special lines all → all ≡ before ++ items
    → (k : ℕ) (item : List ℕ) → slice_get items k ≡ Some item → item_at page (1 + lines + length before + k) ≡ Some item
each-read page header words gap special lines all before [] p is k item found = absurd (search (arith, found))
each-read page header words gap special lines all before (first ∷ items) p is zero item found =
    ap (item_at page) (let e : 1 + lines + length before + 0 ≡ 1 + lines + length before = omega arith in e)
    ∙ one-read page header words gap special lines all before first items p is ∙ found
each-read page header words gap special lines all before (first ∷ items) p is (suc k) item found =
    let longer = length-append before (first ∷ []) in
    ap (item_at page) (let e : 1 + lines + length before + suc k ≡ 1 + lines + length (before ++ first ∷ []) + k = omega arith in e)
    ∙ each-read page header words gap special lines all (before ++ first ∷ []) items p (is ∙ sym (append_assoc before (first ∷ []) items)) k item found

-- all items behind some
all-read : (page header words gap special : List ℕ) (lines : ℕ) (all before items : List (List ℕ))
    → Parted page header words gap special lines all → all ≡ before ++ items
    → filter_map (item_at page) (range_with_len (1 + lines + length before) (length items)) ≡ items
all-read page header words gap special lines all before [] p is = refl
all-read page header words gap special lines all before (item ∷ items) p is =
    let longer = length-append before (item ∷ []) in
    rw (one-read page header words gap special lines all before item items p is)
    (ap (λ (n : ℕ). item ∷ filter_map (item_at page) (range_with_len n (length items))) (let e : 1 + lines + length before + 1 ≡ 1 + lines + length (before ++ item ∷ []) = omega arith in e)
    ∙ ap (λ (l : List (List ℕ)). item ∷ l)
    (all-read page header words gap special lines all (before ++ item ∷ []) items p (is ∙ sym (append_assoc before (item ∷ []) items))))

-- ---- the header's last field, and the special space

special_of-page_header : (lower upper special : ℕ) (rest : List ℕ) → special < 2 ^ 16 → special_of (page_header lower upper special ++ rest) ≡ special
unfolding page_header
special_of-page_header lower upper special rest fits =
    let after : List ℕ = number_bytes 2 8196 ++ zeros 4 in
    let front : List ℕ = zeros 12 ++ (number_bytes 2 lower ++ number_bytes 2 upper) in
    let a = length-append (zeros 12) (number_bytes 2 lower ++ number_bytes 2 upper) in
    let b = length-append (number_bytes 2 lower) (number_bytes 2 upper) in
    let z = length-zeros 12 in
    let l = length-number_bytes 2 lower in
    let u = length-number_bytes 2 upper in
    let here : length front ≡ 16 = omega arith in
    let regroup : (zeros 12 ++ (number_bytes 2 lower ++ (number_bytes 2 upper ++ (number_bytes 2 special ++ after)))) ++ rest ≡ front ++ (number_bytes 2 special ++ (after ++ rest)) = simp append_assoc in
    ap (λ (page : List ℕ). number_at 2 page 16) regroup
    ∙ number_at-past 2 front (number_bytes 2 special ++ (after ++ rest)) 16 here
    ∙ number_at-first 2 special (after ++ rest) fits

-- the size of a page by its parts, and its special space
parted-size : (page header words gap special : List ℕ) (lines : ℕ) (items : List (List ℕ)) → Parted page header words gap special lines items → length page ≡ 8192
parted-size page header words gap special lines items p =
    let end : ℕ = 8192 - length special in
    let a1 = ap length p.is in
    let a2 = length-append header (words ++ (line_pointers end items ++ (gap ++ (placed_items items ++ special)))) in
    let a3 = length-append words (line_pointers end items ++ (gap ++ (placed_items items ++ special))) in
    let a4 = length-append (line_pointers end items) (gap ++ (placed_items items ++ special)) in
    let a5 = length-append gap (placed_items items ++ special) in
    let a6 = length-append (placed_items items) special in
    let l = length-line_pointers end items in
    let s = length-placed_items items in
    omega (arith, a1, a2, a3, a4, a5, a6, l, s, p.head, p.leading, p.whole)

parted-special : (page header words gap special : List ℕ) (lines : ℕ) (items : List (List ℕ)) → Parted page header words gap special lines items
    → special_of page ≡ 8192 - length special → special_space_of page ≡ special
parted-special page header words gap special lines items p starts =
    let end : ℕ = 8192 - length special in
    let front : List ℕ = header ++ (words ++ (line_pointers end items ++ (gap ++ placed_items items))) in
    let split : page ≡ front ++ special = p.is ∙ regroup header words (line_pointers end items) gap (placed_items items) special in
    let whole = sym (ap length split ∙ length-append front special) ∙ parted-size page header words gap special lines items p in
    ap (λ (n : ℕ). drop n page) starts
    ∙ ap (drop end) split
    ∙ drop_at front special end (omega (arith, whole))
  where
    regroup : (h w l g p s : List ℕ) → h ++ (w ++ (l ++ (g ++ (p ++ s)))) ≡ (h ++ (w ++ (l ++ (g ++ p)))) ++ s
    regroup h w l g p s = simp append_assoc

-- ---- the two pages

pub items-read : (special : List ℕ) (items : List (List ℕ)) → HaveRoomBefore special items → IsReadAs (item_page special items) special items
unfolding item_page items_on
items-read special items h =
    let page : List ℕ = item_page special items in
    let end : ℕ = 8192 - length special in
    let header : List ℕ = page_header (lower_at items) (upper_at special items) end in
    let gap : List ℕ = zeros (upper_at special items - lower_at items) in
    let z = length-zeros (upper_at special items - lower_at items) in
    let lower : lower_of page ≡ lower_at items = lower_of-page_header (lower_at items) (upper_at special items) end _ (omega (arith, h.room)) in
    let counted : line_count page ≡ length items = omega (arith, lower) in
    let parted : Parted page header [] gap special 0 items = record {
      is = refl;
      head = length-page_header (lower_at items) (upper_at special items) end;
      leading = refl;
      whole = omega (arith, h.room, z);
      count = omega (arith, counted);
    } in
    let starts : special_of page ≡ end = special_of-page_header (lower_at items) (upper_at special items) end _ (omega arith) in
    record {
      size = parted-size page header [] gap special 0 items parted;
      count = counted;
      each = λ k item found.
          ap (item_at page) (let e : 1 + k ≡ 1 + 0 + 0 + k = omega arith in e) ∙ each-read page header [] gap special 0 items [] items parted refl k item found;
      all =
          ap (λ (n : ℕ). filter_map (item_at page) (range_with_len 1 n)) counted
          ∙ all-read page header [] gap special 0 items [] items parted refl;
      special_starts = starts;
      special_is = parted-special page header [] gap special 0 items parted starts;
    }

pub lowest-read : (special first : List ℕ) (items : List (List ℕ)) → HaveRoomBefore special (first ∷ items)
    → IsReadAs (first_lowest_page special first items) special (first ∷ items)
unfolding first_lowest_page items_on aligned
lowest-read special first items h =
    let all : List (List ℕ) = first ∷ items in
    let page : List ℕ = first_lowest_page special first items in
    let end : ℕ = 8192 - length special in
    let upper : ℕ = upper_at special all in
    let header : List ℕ = page_header (lower_at all) upper end in
    let hole : List ℕ = zeros (upper - lower_at all) in
    let word : List ℕ = number_bytes 4 (normal_word upper (length first)) in
    let pad : List ℕ = zeros (space_of first - length first) in
    let gap : List ℕ = hole ++ aligned first in
    let lines : List ℕ = line_pointers end items in
    let body : List ℕ = placed_items items ++ special in
    let z = length-zeros (upper - lower_at all) in
    let g = length-append hole (aligned first) in
    let f = length-aligned first in
    let w = length-number_bytes 4 (normal_word upper (length first)) in
    let l = length-line_pointers end items in
    let head : length header ≡ 24 = length-page_header (lower_at all) upper end in
    let lower : lower_of page ≡ lower_at all = lower_of-page_header (lower_at all) upper end _ (omega (arith, h.room)) in
    let counted : line_count page ≡ length all = omega (arith, lower) in
    let parted : Parted page header word gap special 1 items = record {
      is = regroup header word lines hole (aligned first) body;
      head = head;
      leading = w;
      whole = omega (arith, h.room, z, g, f);
      count = omega (arith, counted);
    } in
    let starts : special_of page ≡ end = special_of-page_header (lower_at all) upper end _ (omega arith) in
    let below : List ℕ = header ++ (word ++ (lines ++ hole)) in
    let b1 = length-append header (word ++ (lines ++ hole)) in
    let b2 = length-append word (lines ++ hole) in
    let b3 = length-append lines hole in
    let low : length below ≡ upper = omega (arith, b1, b2, b3, head, w, l, z, h.room) in
    let split : page ≡ header ++ (number_bytes 4 (normal_word (length below) (length first)) ++ (lines ++ (hole ++ (aligned first ++ body)))) =
    ap (λ (n : ℕ). header ++ (number_bytes 4 (normal_word n (length first)) ++ (lines ++ (hole ++ (aligned first ++ body))))) (sym low) in
    let lowest : item_at page 1 ≡ Some first =
    item-read page 1 first header _ below (pad ++ body) (omega arith) (omega (arith, counted)) split head
    (regroup-first header word lines hole first pad body) (omega (arith, low, h.room)) in
    record {
      size = parted-size page header word gap special 1 items parted;
      count = counted;
      each = each page lowest (λ k item found. each-read page header word gap special 1 items [] items parted refl k item found);
      all =
          ap (λ (n : ℕ). filter_map (item_at page) (range_with_len 1 n)) counted
          ∙ rw lowest (ap (λ (l : List (List ℕ)). first ∷ l) (all-read page header word gap special 1 items [] items parted refl));
      special_starts = starts;
      special_is = parted-special page header word gap special 1 items parted starts;
    }
  where
    regroup : (h w l z a b : List ℕ) → h ++ (w ++ (l ++ (z ++ (a ++ b)))) ≡ h ++ (w ++ (l ++ ((z ++ a) ++ b)))
    regroup h w l z a b = simp append_assoc

    regroup-first : (h w l z f p b : List ℕ) → h ++ (w ++ (l ++ (z ++ ((f ++ p) ++ b)))) ≡ (h ++ (w ++ (l ++ z))) ++ (f ++ (p ++ b))
    regroup-first h w l z f p b = simp append_assoc

    each : (page : List ℕ) → item_at page 1 ≡ Some first
        → ((k : ℕ) (item : List ℕ) → slice_get items k ≡ Some item → item_at page (1 + 1 + 0 + k) ≡ Some item)
        → (k : ℕ) (item : List ℕ) → slice_get (first ∷ items) k ≡ Some item → item_at page (1 + k) ≡ Some item
    each page lowest others zero item found = ap (item_at page) (let e : 1 + 0 ≡ 1 = omega arith in e) ∙ lowest ∙ found
    each page lowest others (suc k) item found = ap (item_at page) (let e : 1 + suc k ≡ 1 + 1 + 0 + k = omega arith in e) ∙ others k item found
