-- The lesser and the greater of two values: whichever comes first, and however they are put together.
use Rattle.std.proofs.Common.{◌≡◌, ◌⊎◌, Bool, true, false, inl, inr, refl, sym}
use Rattle.std.proofs.lemmas.Cmp.{upto, tied_itself}
use Rattle.std.specs.Cmp.{IsTotalOrder, back_total}
use Rattle.std.specs.Ordering.{flip_args, is_gt, is_lt, ordering_reverse}
use Rattle.std.specs.declared.cmp.Ordering.{Ordering}
use Rattle.std.specs.declared.cmp.Ordering.TheVariants.{Less, Equal, Greater}
use Rattle.std.specs.Prelude.{if◌then◌else◌}
use Rattle.opclass.specs.declared.value.KeyVal.{KeyVal}
use Rattle.opclass.specs.declared.value.KeyVal.TheVariants.{Nil, Num, Raw, Items}
use Rattle.opclass.specs.Order.{column_cmp}
use Rattle.opclass.proofs.KeyOrder.{column_cmp_exact, column_cmp_total}
use Rattle.brin_summary.specs.Summary.{ascending, greater, lesser}

-- the second where it is below the first
abbrev pub chosen : {K : Type 0} → (K → K → Ordering) → K → K → K
chosen R a b = if is_lt (R b a) then b else a

module _ {K : Type 0} (R : K → K → Ordering) (o : IsTotalOrder R) (exact : (x y : K) → R x y ≡ Equal → x ≡ y) where
  pub chosen-either : (a b : K) → (chosen R a b ≡ a) ⊎ (chosen R a b ≡ b)
  chosen-either a b = go (is_lt (R b a)) refl
    where
      go : (t : Bool) → is_lt (R b a) ≡ t → (chosen R a b ≡ a) ⊎ (chosen R a b ≡ b)
      go true is = inr (rw is refl)
      go false is = inl (rw is refl)

  -- it is above neither
  first-side : (a b : K) (r : Ordering) → R b a ≡ r → is_gt (R (chosen R a b) a) ≡ false
  first-side a b Less is = rw is (rw is refl)
  first-side a b Equal is = rw is (rw (tied_itself o a) refl)
  first-side a b Greater is = rw is (rw (tied_itself o a) refl)

  pub chosen-first : (a b : K) → is_gt (R (chosen R a b) a) ≡ false
  chosen-first a b = first-side a b (R b a) refl

  second-side : (a b : K) (r : Ordering) → R b a ≡ r → is_gt (R (chosen R a b) b) ≡ false
  second-side a b Less is = rw is (rw (tied_itself o b) refl)
  second-side a b Equal is = rw is (rw (o.antisymm a b) (rw is refl))
  second-side a b Greater is = rw is (rw (o.antisymm a b) (rw is refl))

  pub chosen-second : (a b : K) → is_gt (R (chosen R a b) b) ≡ false
  chosen-second a b = second-side a b (R b a) refl

  -- what is above neither isn't above it
  pub chosen-above : (m a b : K) → is_gt (R m a) ≡ false → is_gt (R m b) ≡ false → is_gt (R m (chosen R a b)) ≡ false
  chosen-above m a b first second = elim (chosen-either a b) [
    | inl e ↦ rw e first
    | inr e ↦ rw e second
  ]

  one-by-sides : (x y : K) (r : Ordering) → R x y ≡ r → is_gt r ≡ false → is_gt (ordering_reverse r) ≡ false → x ≡ y
  one-by-sides x y Less is a b = let no : ◌≡◌ {A = Bool} true false = b in cc
  one-by-sides x y Equal is a b = exact x y is
  one-by-sides x y Greater is a b = let no : ◌≡◌ {A = Bool} true false = a in cc

  -- two that aren't above each other are one
  pub is-one : (x y : K) → is_gt (R x y) ≡ false → is_gt (R y x) ≡ false → x ≡ y
  is-one x y a b = one-by-sides x y (R x y) refl a (rw (← o.antisymm y x) b)

  pub chosen-comm : (a b : K) → chosen R a b ≡ chosen R b a
  chosen-comm a b =
      is-one (chosen R a b) (chosen R b a)
      (chosen-above (chosen R a b) b a (chosen-second a b) (chosen-first a b))
      (chosen-above (chosen R b a) a b (chosen-second b a) (chosen-first b a))

  pub chosen-assoc : (a b c : K) → chosen R (chosen R a b) c ≡ chosen R a (chosen R b c)
  chosen-assoc a b c =
      let m : K = chosen R (chosen R a b) c in
      let n : K = chosen R a (chosen R b c) in
      let m-ab = chosen-first (chosen R a b) c in
      let n-bc = chosen-second a (chosen R b c) in
      is-one m n
      (chosen-above m a (chosen R b c) (upto o m (chosen R a b) a m-ab (chosen-first a b))
      (chosen-above m b c (upto o m (chosen R a b) b m-ab (chosen-second a b)) (chosen-second (chosen R a b) c)))
      (chosen-above n (chosen R a b) c
      (chosen-above n a b (chosen-first a (chosen R b c)) (upto o n (chosen R b c) b n-bc (chosen-first b c)))
      (upto o n (chosen R b c) c n-bc (chosen-second b c)))

  pub chosen-itself : (a : K) → chosen R a a ≡ a
  chosen-itself a = rw (tied_itself o a) refl

-- ---- values

total : IsTotalOrder (column_cmp (ascending false))
total = column_cmp_total (ascending false)

back : IsTotalOrder (flip_args (column_cmp (ascending true)))
back = back_total (column_cmp_total (ascending true))

back-exact : (a b : KeyVal) → flip_args (column_cmp (ascending true)) a b ≡ Equal → a ≡ b
back-exact a b e = sym (column_cmp_exact (ascending true) b a e)

pub lesser-comm : (a b : KeyVal) → lesser a b ≡ lesser b a
unfolding lesser
lesser-comm a b = chosen-comm (column_cmp (ascending false)) total (column_cmp_exact (ascending false)) a b

pub lesser-assoc : (a b c : KeyVal) → lesser (lesser a b) c ≡ lesser a (lesser b c)
unfolding lesser
lesser-assoc a b c = chosen-assoc (column_cmp (ascending false)) total (column_cmp_exact (ascending false)) a b c

pub lesser-itself : (a : KeyVal) → lesser a a ≡ a
unfolding lesser
lesser-itself a = chosen-itself (column_cmp (ascending false)) total (column_cmp_exact (ascending false)) a

pub greater-comm : (a b : KeyVal) → greater a b ≡ greater b a
unfolding greater
greater-comm a b = chosen-comm (flip_args (column_cmp (ascending true))) back back-exact a b

pub greater-assoc : (a b c : KeyVal) → greater (greater a b) c ≡ greater a (greater b c)
unfolding greater
greater-assoc a b c = chosen-assoc (flip_args (column_cmp (ascending true))) back back-exact a b c

pub greater-itself : (a : KeyVal) → greater a a ≡ a
unfolding greater
greater-itself a = chosen-itself (flip_args (column_cmp (ascending true))) back back-exact a

-- a null counts for nothing
pub lesser-null : (a : KeyVal) → lesser a Nil ≡ a
unfolding lesser
lesser-null Nil = refl
lesser-null (Num a) = refl
lesser-null (Raw a) = refl
lesser-null (Items a) = refl

pub greater-null : (a : KeyVal) → greater a Nil ≡ a
unfolding greater
greater-null Nil = refl
greater-null (Num a) = refl
greater-null (Raw a) = refl
greater-null (Items a) = refl

-- the lesser is above neither, and neither is above the greater
pub lesser-either : (a b : KeyVal) → (lesser a b ≡ a) ⊎ (lesser a b ≡ b)
unfolding lesser
lesser-either a b = chosen-either (column_cmp (ascending false)) total (column_cmp_exact (ascending false)) a b

pub greater-either : (a b : KeyVal) → (greater a b ≡ a) ⊎ (greater a b ≡ b)
unfolding greater
greater-either a b = chosen-either (flip_args (column_cmp (ascending true))) back back-exact a b

pub lesser-first : (a b : KeyVal) → is_gt (column_cmp (ascending false) (lesser a b) a) ≡ false
unfolding lesser
lesser-first a b = chosen-first (column_cmp (ascending false)) total (column_cmp_exact (ascending false)) a b

pub lesser-second : (a b : KeyVal) → is_gt (column_cmp (ascending false) (lesser a b) b) ≡ false
unfolding lesser
lesser-second a b = chosen-second (column_cmp (ascending false)) total (column_cmp_exact (ascending false)) a b

pub greater-first : (a b : KeyVal) → is_gt (column_cmp (ascending true) a (greater a b)) ≡ false
unfolding greater
greater-first a b = chosen-first (flip_args (column_cmp (ascending true))) back back-exact a b

pub greater-second : (a b : KeyVal) → is_gt (column_cmp (ascending true) b (greater a b)) ≡ false
unfolding greater
greater-second a b = chosen-second (flip_args (column_cmp (ascending true))) back back-exact a b

pub not-above : (nulls_first : Bool) (a b c : KeyVal) → is_gt (column_cmp (ascending nulls_first) a b) ≡ false
    → is_gt (column_cmp (ascending nulls_first) b c) ≡ false → is_gt (column_cmp (ascending nulls_first) a c) ≡ false
not-above nulls_first a b c = upto (column_cmp_total (ascending nulls_first)) a b c
