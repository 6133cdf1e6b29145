-- Rows in groups: one row more at the end.
use Rattle.std.proofs.Common.{◌≡◌, ℕ, zero, suc, ◌+◌, ◌-◌, ◌<◌, ◌≤◌, ◌&&◌, Bool, true, false, max, nat_le, nat_lt, List, [], ◌∷◌, ◌++◌, length, take, drop, refl, sym, ap, ◌∙◌, subst, arith, length-append, append-nil}
use Rattle.std.proofs.Common.{inl, inr}
use Rattle.std.proofs.lemmas.Bool.Decides.{nat_tests}
use Rattle.std.proofs.lemmas.List.{take_all, drop_all, length-drop, take-append-le, drop-append-le}
use Rattle.std.specs.List.{flat_map}
use Rattle.std.specs.Prelude.{◌⊎◌, ◌↔◌, if◌then◌else◌, IsTrue}
use Rattle.opclass.proofs.KeyOrder.{is_eq-key_cmp}
use Rattle.btree_pack.specs.Groups.{Row, Group, greatest, have_same_keys, most_sharing, pieces, pieces_within, posting_limit, posting_size, rows_of, runs, with_row}
use Rattle.btree_pack.specs.Pass.Rows.{alone, grown, with_last}

-- ---- how many rows share a tuple

greatest-max : (test : ℕ → Bool) (n k : ℕ) → k ≤ n → test k ≡ true → k ≤ greatest test n
greatest-max test zero k below holds = omega arith
greatest-max test (suc n) k below holds = go (test (suc n)) refl (cases k n below) (λ low. greatest-max test n k low holds)
  where
    cases : (k n : ℕ) → k ≤ suc n → (k ≡ suc n) ⊎ (k ≤ n)
    cases zero n low = inr (omega arith)
    cases (suc k) zero low = inl (omega arith)
    cases (suc k) (suc n) low = next (cases k n (omega arith))
      where
        next : (k ≡ suc n) ⊎ (k ≤ n) → (suc k ≡ suc (suc n)) ⊎ (suc k ≤ suc n)
        next (inl e) = inl (ap suc e)
        next (inr l) = inr (omega arith)

    go : (t : Bool) → test (suc n) ≡ t → (k ≡ suc n) ⊎ (k ≤ n) → (k ≤ n → k ≤ greatest test n) → k ≤ greatest test (suc n)
    go true is split later = rw is below
    go false is (inl same) later = absurd (let e : true ≡ false = sym holds ∙ ap test same ∙ is in cc)
    go false is (inr low) later = rw is (later low)

greatest-holds : (test : ℕ → Bool) (n : ℕ) → (greatest test n ≡ 0) ⊎ (test (greatest test n) ≡ true)
greatest-holds test zero = inl refl
greatest-holds test (suc n) = go (test (suc n)) refl (greatest-holds test n)
  where
    go : (t : Bool) → test (suc n) ≡ t → (greatest test n ≡ 0) ⊎ (test (greatest test n) ≡ true) → (greatest test (suc n) ≡ 0) ⊎ (test (greatest test (suc n)) ≡ true)
    go true is later = inr (rw is is)
    go false is later = rw is later

lt-holds : (a b : ℕ) → a < b → nat_lt a b ≡ true
lt-holds a b less = grind (arith, nat_tests)

lt-fails : (a b : ℕ) → b ≤ a → nat_lt a b ≡ false
lt-fails a b less = grind (arith, nat_tests)

le-is : (a b : ℕ) → nat_le a b ≡ true → a ≤ b
le-is a b holds = grind (arith, nat_tests)

le-not : (a b : ℕ) → nat_le a b ≡ false → b < a
le-not a b fails = grind (arith, nat_tests)

-- more rows take no less
posting-more : (plain a b : ℕ) → a ≤ b → posting_size plain a ≤ posting_size plain b
posting-more plain a b less = omega arith

six-fit : (plain count : ℕ) → posting_size plain count ≤ 812 → count ≤ 812
six-fit plain count small = omega arith

max-least : (a b : ℕ) → a ≤ max 1 a
max-least a b = omega arith

max-both : (a b : ℕ) → 1 ≤ b → a ≤ b → max 1 a ≤ b
max-both a b one less = omega arith

test-fits : ℕ → ℕ → Bool
test-fits plain count = nat_le (posting_size plain count) posting_limit

below-most : (plain count most : ℕ) → 1 ≤ count → posting_size plain most ≤ 812 → 812 < posting_size plain (count + 1) → most ≤ count
below-most plain count most some small large = omega arith

-- one row more has room exactly where fewer than the most share the tuple
pub room-sharing : (plain count : ℕ) → 1 ≤ count → nat_lt count (most_sharing plain) ≡ nat_le (posting_size plain (count + 1)) 812
unfolding most_sharing test-fits
room-sharing plain count some = go (nat_le (posting_size plain (count + 1)) 812) refl
  where
    most : ℕ
    most = greatest (test-fits plain) posting_limit

    no : (most ≡ 0) ⊎ (test-fits plain most ≡ true) → nat_le (posting_size plain (count + 1)) 812 ≡ false → most ≤ count
    no (inl none) fails = omega arith
    no (inr holds) fails = below-most plain count most some (le-is (posting_size plain most) 812 holds) (le-not (posting_size plain (count + 1)) 812 fails)

    go : (t : Bool) → nat_le (posting_size plain (count + 1)) 812 ≡ t → nat_lt count (max 1 most) ≡ t
    go true is =
        let reached : count + 1 ≤ most = greatest-max (test-fits plain) posting_limit (count + 1) (six-fit plain (count + 1) (le-is (posting_size plain (count + 1)) 812 is)) is in
        let above = max-least most 0 in
        lt-holds count (max 1 most) (omega arith)
    go false is = lt-fails count (max 1 most) (max-both most count some (no (greatest-holds (test-fits plain) posting_limit) is))

-- ---- runs of equal keys

pub same-keys : (a b : Row) → IsTrue (have_same_keys a b) ↔ (a.keys ≡ b.keys)
same-keys a b = is_eq-key_cmp [] a.keys b.keys (have_same_keys a b) refl

-- a row at the end of runs
abbrev pub with_run : List Group → Row → List Group
with_run [] row = alone row ∷ []
with_run (run ∷ []) row = if have_same_keys run.first row then grown run row ∷ [] else run ∷ alone row ∷ []
with_run (run ∷ next ∷ runs) row = run ∷ with_run (next ∷ runs) row

with_row-with_run : (row : Row) (groups : List Group) (last : Row) → with_row row (with_run groups last) ≡ with_run (with_row row groups) last
with_row-with_run row [] last = go (have_same_keys row last) refl
  where
    go : (t : Bool) → have_same_keys row last ≡ t → with_row row (alone last ∷ []) ≡ with_run (alone row ∷ []) last
    go true is = rw is refl
    go false is = rw is refl
with_row-with_run row (g ∷ []) last = go (have_same_keys row g.first) refl (have_same_keys g.first last) refl
  where
    go : (b : Bool) → have_same_keys row g.first ≡ b → (a : Bool) → have_same_keys g.first last ≡ a
        → with_row row (with_run (g ∷ []) last) ≡ with_run (with_row row (g ∷ [])) last
    go true is true has =
        let same : have_same_keys row last ≡ have_same_keys g.first last = ap (λ k. have_same_keys (record row { keys = k }) last) ((same-keys row g.first).0 is) in
        rw (has, is, same ∙ has) refl
    go true is false has =
        let same : have_same_keys row last ≡ have_same_keys g.first last = ap (λ k. have_same_keys (record row { keys = k }) last) ((same-keys row g.first).0 is) in
        rw (has, is, same ∙ has) refl
    go false is true has = rw (has, is, has) refl
    go false is false has = rw (has, is, has) refl
with_row-with_run row (g ∷ next ∷ groups) last = go (have_same_keys row g.first) refl
  where
    go : (b : Bool) → have_same_keys row g.first ≡ b → with_row row (g ∷ with_run (next ∷ groups) last) ≡ with_run (with_row row (g ∷ next ∷ groups)) last
    go true is = rw is refl
    go false is = rw is refl

pub runs-push : (rows : List Row) (row : Row) → runs (rows ++ row ∷ []) ≡ with_run (runs rows) row
runs-push [] row = refl
runs-push (first ∷ rows) row = ap (with_row first) (runs-push rows row) ∙ with_row-with_run first (runs rows) row

-- ---- pieces of a run

-- a row at the end of pieces that hold so many rows each
abbrev pub with_piece : ℕ → List Group → Row → List Group
with_piece most [] row = alone row ∷ []
with_piece most (p ∷ []) row = if nat_lt (length (rows_of p)) most then grown p row ∷ [] else p ∷ alone row ∷ []
with_piece most (p ∷ next ∷ ps) row = p ∷ with_piece most (next ∷ ps) row

pieces-one : (cuts most : ℕ) (first : Row) (others : List Row) → drop (most - 1) others ≡ []
    → pieces_within (suc cuts) most (record { first = first; others = others }) ≡ record { first = first; others = others } ∷ []
pieces-one cuts most first others is = rw (is, pieces_within) refl

pieces-cut : (cuts most : ℕ) (first : Row) (others : List Row) (next : Row) (behind : List Row) → drop (most - 1) others ≡ next ∷ behind
    → pieces_within (suc cuts) most (record { first = first; others = others })
    ≡ record { first = first; others = take (most - 1) others } ∷ pieces_within cuts most (record { first = next; others = behind })
pieces-cut cuts most first others next behind is = rw (is, pieces_within) refl

drop-none : {X : Type 0} (n : ℕ) → drop {A = X} n [] ≡ []
drop-none zero = refl
drop-none (suc n) = refl

pieces-single : (cuts most : ℕ) (row : Row) → pieces_within cuts most (alone row) ≡ alone row ∷ []
pieces-single zero most row = refl
pieces-single (suc cuts) most row = pieces-one cuts most row [] (drop-none (most - 1))

length-pieces : (cuts most : ℕ) (group : Group) → 1 ≤ length (pieces_within cuts most group)
length-pieces zero most group = omega arith
length-pieces (suc cuts) most group = go (drop (most - 1) group.others) refl
  where
    go : (l : List Row) → drop (most - 1) group.others ≡ l → 1 ≤ length (pieces_within (suc cuts) most group)
    go [] is = let e = ap length (pieces-one cuts most group.first group.others is) in omega arith
    go (next ∷ behind) is = let e = ap length (pieces-cut cuts most group.first group.others next behind is) in omega arith

with_piece-cons : (most : ℕ) (p : Group) (ps : List Group) (row : Row) → 1 ≤ length ps → with_piece most (p ∷ ps) row ≡ p ∷ with_piece most ps row
with_piece-cons most p [] row some = absurd (omega arith)
with_piece-cons most p (q ∷ ps) row some = refl

piece-grows : (most : ℕ) (p : Group) (row : Row) → length (rows_of p) < most → with_piece most (p ∷ []) row ≡ grown p row ∷ []
piece-grows most p row less = let test : nat_lt (length (rows_of p)) most ≡ true = grind (arith, nat_tests) in rw test refl

piece-full : (most : ℕ) (p : Group) (row : Row) → most ≤ length (rows_of p) → with_piece most (p ∷ []) row ≡ p ∷ alone row ∷ []
piece-full most p row full = let test : nat_lt (length (rows_of p)) most ≡ false = grind (arith, nat_tests) in rw test refl

pieces-push : (cuts most : ℕ) (first : Row) (others : List Row) (row : Row) → 1 ≤ most → length others ≤ cuts
    → pieces_within (suc cuts) most (record { first = first; others = others ++ row ∷ [] })
    ≡ with_piece most (pieces_within cuts most (record { first = first; others = others })) row
pieces-push zero most first others row some few = base others few
  where
    base : (others : List Row) → length others ≤ 0
        → pieces_within 1 most (record { first = first; others = others ++ row ∷ [] }) ≡ with_piece most (record { first = first; others = others } ∷ []) row
    base (other ∷ others) few = absurd (omega arith)
    base [] few = one most some
      where
        one : (most : ℕ) → 1 ≤ most → pieces_within 1 most (record { first = first; others = row ∷ [] }) ≡ with_piece most (alone first ∷ []) row
        one zero some = absurd (omega arith)
        one (suc zero) some = pieces-cut 0 1 first (row ∷ []) row [] (ap (λ (n : ℕ). drop n (row ∷ [])) (let e : 1 - 1 ≡ 0 = omega arith in e)) ∙ ap (λ l. record { first = first; others = l } ∷ alone row ∷ []) (ap (λ (n : ℕ). take n (row ∷ [])) (let e : 1 - 1 ≡ 0 = omega arith in e)) ∙ sym (piece-full 1 (alone first) row (omega arith))
        one (suc (suc n)) some = pieces-one 0 (suc (suc n)) first (row ∷ []) (drop_all (suc (suc n) - 1) (row ∷ []) (omega arith)) ∙ sym (piece-grows (suc (suc n)) (alone first) row (omega arith))
pieces-push (suc cuts) most first others row some few =
    go (drop (most - 1) others) refl (λ next behind. pieces-push cuts most next behind row some)
  where
    whole : Group
    whole = record { first = first; others = others }

    none : drop (most - 1) others ≡ [] → pieces_within (suc cuts) most whole ≡ whole ∷ []
    none is = pieces-one cuts most first others is

    short : drop (most - 1) others ≡ [] → (length others < most - 1) ⊎ (most - 1 ≤ length others)
    short is = cases (length others) (most - 1)
      where
        cases : (a b : ℕ) → (a < b) ⊎ (b ≤ a)
        cases a zero = inr (omega arith)
        cases zero (suc b) = inl (omega arith)
        cases (suc a) (suc b) = next (cases a b)
          where
            next : (a < b) ⊎ (b ≤ a) → (suc a < suc b) ⊎ (suc b ≤ suc a)
            next (inl l) = inl (omega arith)
            next (inr l) = inr (omega arith)

    fits : drop (most - 1) others ≡ [] → (length others < most - 1) ⊎ (most - 1 ≤ length others)
        → pieces_within (suc (suc cuts)) most (record { first = first; others = others ++ row ∷ [] }) ≡ with_piece most (pieces_within (suc cuts) most whole) row
    fits is (inl less) =
        let long = length-append others (row ∷ []) in
        pieces-one (suc cuts) most first (others ++ row ∷ []) (drop_all (most - 1) (others ++ row ∷ []) (omega arith))
        ∙ sym (piece-grows most whole row (omega arith)) ∙ sym (ap (λ l. with_piece most l row) (none is))
    fits is (inr full) =
        let gone = ap length is in
        let left = length-drop (most - 1) others in
        pieces-cut (suc cuts) most first (others ++ row ∷ []) row []
        (drop-append-le (most - 1) others (row ∷ []) full ∙ ap (λ l. l ++ row ∷ []) is)
        ∙ ap (λ l. record { first = first; others = l } ∷ pieces_within (suc cuts) most (alone row))
        (take-append-le (most - 1) others (row ∷ []) full ∙ take_all (most - 1) others (omega arith))
        ∙ ap (λ l. whole ∷ l) (pieces-single (suc cuts) most row)
        ∙ sym (piece-full most whole row (omega arith)) ∙ sym (ap (λ l. with_piece most l row) (none is))

    go : (l : List Row) → drop (most - 1) others ≡ l
        → ((next : Row) (behind : List Row) → length behind ≤ cuts
        → pieces_within (suc cuts) most (record { first = next; others = behind ++ row ∷ [] }) ≡ with_piece most (pieces_within cuts most (record { first = next; others = behind })) row)
        → pieces_within (suc (suc cuts)) most (record { first = first; others = others ++ row ∷ [] }) ≡ with_piece most (pieces_within (suc cuts) most whole) row
    go [] is later = fits is (short is)
    go (next ∷ behind) is later =
        let left = length-drop (most - 1) others in
        let l = ap length is in
        let inside : most - 1 ≤ length others = omega arith in
        let p : Group = record { first = first; others = take (most - 1) others } in
        pieces-cut (suc cuts) most first (others ++ row ∷ []) next (behind ++ row ∷ [])
        (drop-append-le (most - 1) others (row ∷ []) inside ∙ ap (λ l. l ++ row ∷ []) is)
        ∙ ap (λ l. record { first = first; others = l } ∷ pieces_within (suc cuts) most (record { first = next; others = behind ++ row ∷ [] }))
        (take-append-le (most - 1) others (row ∷ []) inside)
        ∙ ap (λ l. p ∷ l) (later next behind (omega arith))
        ∙ sym (with_piece-cons most p (pieces_within cuts most (record { first = next; others = behind })) row (length-pieces cuts most (record { first = next; others = behind })))
        ∙ sym (ap (λ l. with_piece most l row) (pieces-cut cuts most first others next behind is))

-- ---- groups

-- rows of one key, of which as many share a tuple as of another
abbrev pub AllLike : (Row → ℕ) → Row → List Row → Type 0
AllLike weight first [] = Unit {0}
AllLike weight first (row ∷ rows) = ((row.keys ≡ first.keys) × (weight row ≡ weight first)) × AllLike weight first rows

-- the first rows of groups
abbrev pub AllFirstLike : (Row → ℕ) → Row → List Group → Type 0
AllFirstLike weight first [] = Unit {0}
AllFirstLike weight first (g ∷ gs) = ((g.first.keys ≡ first.keys) × (weight g.first ≡ weight first)) × AllFirstLike weight first gs

AllLike-moved : (weight : Row → ℕ) (a b : Row) (rows : List Row) → b.keys ≡ a.keys → weight b ≡ weight a → AllLike weight a rows → AllLike weight b rows
AllLike-moved weight a b [] keys same like = tt
AllLike-moved weight a b (row ∷ rows) keys same like = ((like.0.0 ∙ sym keys, like.0.1 ∙ sym same), AllLike-moved weight a b rows keys same like.1)

AllFirstLike-moved : (weight : Row → ℕ) (a b : Row) (gs : List Group) → b.keys ≡ a.keys → weight b ≡ weight a → AllFirstLike weight a gs → AllFirstLike weight b gs
AllFirstLike-moved weight a b [] keys same like = tt
AllFirstLike-moved weight a b (g ∷ gs) keys same like = ((like.0.0 ∙ sym keys, like.0.1 ∙ sym same), AllFirstLike-moved weight a b gs keys same like.1)

AllLike-drop : (weight : Row → ℕ) (first : Row) (n : ℕ) (rows : List Row) → AllLike weight first rows → AllLike weight first (drop n rows)
AllLike-drop weight first zero rows like = like
AllLike-drop weight first (suc n) [] like = tt
AllLike-drop weight first (suc n) (row ∷ rows) like = AllLike-drop weight first n rows like.1

pieces-like : (weight : Row → ℕ) (cuts most : ℕ) (first : Row) (others : List Row) → AllLike weight first others
    → AllFirstLike weight first (pieces_within cuts most (record { first = first; others = others }))
pieces-like weight zero most first others like = ((refl, refl), tt)
pieces-like weight (suc cuts) most first others like = go (drop (most - 1) others) refl (λ next behind. pieces-like weight cuts most next behind)
  where
    go : (l : List Row) → drop (most - 1) others ≡ l
        → ((next : Row) (behind : List Row) → AllLike weight next behind → AllFirstLike weight next (pieces_within cuts most (record { first = next; others = behind })))
        → AllFirstLike weight first (pieces_within (suc cuts) most (record { first = first; others = others }))
    go [] is later = subst (AllFirstLike weight first) (sym (pieces-one cuts most first others is)) ((refl, refl), tt)
    go (next ∷ behind) is later =
        let left : AllLike weight first (next ∷ behind) = subst (AllLike weight first) is (AllLike-drop weight first (most - 1) others like) in
        subst (AllFirstLike weight first) (sym (pieces-cut cuts most first others next behind is)) (
          (refl, refl),
          AllFirstLike-moved weight next first (pieces_within cuts most (record { first = next; others = behind })) (sym left.0.0) (sym left.0.1)
              (later next behind (AllLike-moved weight first next behind left.0.0 left.0.1 left.1)),
        )

-- where the keys are those of the last piece
with_last-piece : (weight : Row → ℕ) (first row : Row) (ps : List Group) → AllFirstLike weight first ps → have_same_keys first row ≡ true
    → with_last (λ g. weight g.first) ps row ≡ with_piece (weight first) ps row
with_last-piece weight first row [] like same = refl
with_last-piece weight first row (p ∷ []) like same =
    let here : have_same_keys p.first row ≡ true = ap (λ k. have_same_keys (record p.first { keys = k }) row) like.0.0 ∙ same in
    let test : Bool → Bool → List Group = λ (b c : Bool). if b && c then grown p row ∷ [] else p ∷ alone row ∷ [] in
    ap (λ b. test b (nat_lt (length (rows_of p)) (weight p.first))) here
    ∙ ap (λ (n : ℕ). test true (nat_lt (length (rows_of p)) n)) like.0.1
with_last-piece weight first row (p ∷ q ∷ ps) like same = ap (λ l. p ∷ l) (with_last-piece weight first row (q ∷ ps) like.1 same)

-- and where they are others
with_last-other : (weight : Row → ℕ) (first row : Row) (ps : List Group) → AllFirstLike weight first ps → have_same_keys first row ≡ false
    → with_last (λ g. weight g.first) ps row ≡ ps ++ alone row ∷ []
with_last-other weight first row [] like same = refl
with_last-other weight first row (p ∷ []) like same =
    let here : have_same_keys p.first row ≡ false = ap (λ k. have_same_keys (record p.first { keys = k }) row) like.0.0 ∙ same in
    ap (λ b. if b && nat_lt (length (rows_of p)) (weight p.first) then grown p row ∷ [] else p ∷ alone row ∷ []) here
with_last-other weight first row (p ∷ q ∷ ps) like same = ap (λ l. p ∷ l) (with_last-other weight first row (q ∷ ps) like.1 same)

pub with_last-behind : (most : Group → ℕ) (front ps : List Group) (row : Row) → 1 ≤ length ps → with_last most (front ++ ps) row ≡ front ++ with_last most ps row
with_last-behind most [] ps row some = refl
with_last-behind most (p ∷ []) [] row some = absurd (omega arith)
with_last-behind most (p ∷ []) (q ∷ ps) row some = refl
with_last-behind most (p ∷ q ∷ front) ps row some = ap (λ l. p ∷ l) (with_last-behind most (q ∷ front) ps row some)

-- the pieces of a run
abbrev pub pieces_of : (Row → ℕ) → Group → List Group
pieces_of weight run = pieces (weight run.first) run

pieces_of-push : (weight : Row → ℕ) (run : Group) (row : Row) → 1 ≤ weight run.first
    → pieces_of weight (grown run row) ≡ with_piece (weight run.first) (pieces_of weight run) row
unfolding pieces
pieces_of-push weight run row some =
    ap (λ (n : ℕ). pieces_within n (weight run.first) (grown run row)) (let long = length-append run.others (row ∷ []) in let e : length (run.others ++ row ∷ []) ≡ suc (length run.others) = omega arith in e)
    ∙ pieces-push (length run.others) (weight run.first) run.first run.others row some (omega arith)

pub pieces_of-alone : (weight : Row → ℕ) (row : Row) → pieces_of weight (alone row) ≡ alone row ∷ []
unfolding pieces
pieces_of-alone weight row = refl

pieces_of-like : (weight : Row → ℕ) (run : Group) → AllLike weight run.first run.others → AllFirstLike weight run.first (pieces_of weight run)
unfolding pieces
pieces_of-like weight run like = pieces-like weight (length run.others) (weight run.first) run.first run.others like

pieces_of-some : (weight : Row → ℕ) (run : Group) → 1 ≤ length (pieces_of weight run)
unfolding pieces
pieces_of-some weight run = length-pieces (length run.others) (weight run.first) run

abbrev pub AllUniform : (Row → ℕ) → List Group → Type 0
AllUniform weight [] = Unit {0}
AllUniform weight (run ∷ runs) = AllLike weight run.first run.others × AllUniform weight runs

cut-push : (weight : Row → ℕ) (runs : List Group) (row : Row) → ((r : Row) → 1 ≤ weight r) → AllUniform weight runs
    → flat_map (pieces_of weight) (with_run runs row) ≡ with_last (λ g. weight g.first) (flat_map (pieces_of weight) runs) row
cut-push weight [] row least uniform = append-nil (pieces_of weight (alone row)) ∙ pieces_of-alone weight row
cut-push weight (run ∷ []) row least uniform = go (have_same_keys run.first row) refl
  where
    like : AllFirstLike weight run.first (pieces_of weight run)
    like = pieces_of-like weight run uniform.0

    go : (t : Bool) → have_same_keys run.first row ≡ t
        → flat_map (pieces_of weight) (with_run (run ∷ []) row) ≡ with_last (λ g. weight g.first) (flat_map (pieces_of weight) (run ∷ [])) row
    go true is =
        ap (λ t. flat_map (pieces_of weight) (if t then grown run row ∷ [] else run ∷ alone row ∷ [])) is
        ∙ append-nil (pieces_of weight (grown run row))
        ∙ pieces_of-push weight run row (least run.first)
        ∙ sym (with_last-piece weight run.first row (pieces_of weight run) like is)
        ∙ ap (λ l. with_last (λ g. weight g.first) l row) (sym (append-nil (pieces_of weight run)))
    go false is =
        ap (λ t. flat_map (pieces_of weight) (if t then grown run row ∷ [] else run ∷ alone row ∷ [])) is
        ∙ ap (λ l. pieces_of weight run ++ l) (append-nil (pieces_of weight (alone row)) ∙ pieces_of-alone weight row)
        ∙ sym (with_last-other weight run.first row (pieces_of weight run) like is)
        ∙ ap (λ l. with_last (λ g. weight g.first) l row) (sym (append-nil (pieces_of weight run)))
cut-push weight (run ∷ next ∷ runs) row least uniform =
    ap (λ l. pieces_of weight run ++ l) (cut-push weight (next ∷ runs) row least uniform.1)
    ∙ sym (with_last-behind (λ g. weight g.first) (pieces_of weight run) (flat_map (pieces_of weight) (next ∷ runs)) row
    (let some = pieces_of-some weight next in let long = length-append (pieces_of weight next) (flat_map (pieces_of weight) runs) in omega arith))

module _ (weight : Row → ℕ) (Is : Row → Type 0) (even : (a b : Row) → Is a → Is b → a.keys ≡ b.keys → weight a ≡ weight b) where
  abbrev pub AllFirst : List Group → Type 0
  AllFirst [] = Unit {0}
  AllFirst (g ∷ gs) = Is g.first × AllFirst gs

  abbrev pub AllAre : List Row → Type 0
  AllAre [] = Unit {0}
  AllAre (row ∷ rows) = Is row × AllAre rows

  uniform-row : (row : Row) (runs : List Group) → Is row → AllUniform weight runs × AllFirst runs → AllUniform weight (with_row row runs) × AllFirst (with_row row runs)
  uniform-row row [] is are = ((tt, tt), (is, tt))
  uniform-row row (run ∷ runs) is are = go (have_same_keys row run.first) refl
    where
      go : (t : Bool) → have_same_keys row run.first ≡ t → AllUniform weight (with_row row (run ∷ runs)) × AllFirst (with_row row (run ∷ runs))
      go true holds =
          let keys = (same-keys row run.first).0 holds in
          let same = even row run.first is are.1.0 keys in
          let all : AllUniform weight (record { first = row; others = rows_of run } ∷ runs) × AllFirst (record { first = row; others = rows_of run } ∷ runs) =
          ((((sym keys, sym same), AllLike-moved weight run.first row run.others keys same are.0.0), are.0.1), (is, are.1.1)) in
          subst (λ t. AllUniform weight (if t then record { first = row; others = rows_of run } ∷ runs else record { first = row; others = [] } ∷ run ∷ runs)
          × AllFirst (if t then record { first = row; others = rows_of run } ∷ runs else record { first = row; others = [] } ∷ run ∷ runs)) (sym holds) all
      go false fails =
          let all : AllUniform weight (record { first = row; others = [] } ∷ run ∷ runs) × AllFirst (record { first = row; others = [] } ∷ run ∷ runs) = ((tt, are.0), (is, are.1)) in
          subst (λ t. AllUniform weight (if t then record { first = row; others = rows_of run } ∷ runs else record { first = row; others = [] } ∷ run ∷ runs)
          × AllFirst (if t then record { first = row; others = rows_of run } ∷ runs else record { first = row; others = [] } ∷ run ∷ runs)) (sym fails) all

  uniform-runs : (rows : List Row) → AllAre rows → AllUniform weight (runs rows) × AllFirst (runs rows)
  uniform-runs [] are = (tt, tt)
  uniform-runs (row ∷ rows) are = uniform-row row (runs rows) are.0 (uniform-runs rows are.1)

  -- the groups of one row more
  pub groups-push : (rows : List Row) (row : Row) → ((r : Row) → 1 ≤ weight r) → AllAre rows
      → flat_map (pieces_of weight) (runs (rows ++ row ∷ [])) ≡ with_last (λ g. weight g.first) (flat_map (pieces_of weight) (runs rows)) row
  groups-push rows row least are =
      ap (flat_map (pieces_of weight)) (runs-push rows row) ∙ cut-push weight (runs rows) row least (uniform-runs rows are).0
