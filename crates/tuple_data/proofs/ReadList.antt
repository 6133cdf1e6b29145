-- The values of several columns, read one after the other.
use Rattle.std.proofs.Common.{◌≡◌, ◌≢◌, ℕ, ◌+◌, ◌-◌, ◌/◌, ◌%◌, ◌^◌, ◌<◌, ◌≤◌, Bool, true, false, if◌then◌else◌, List, [], ◌∷◌, ◌++◌, length, take, drop, get_or, refl, sym, ap, subst, ◌∙◌, arith, length-append}
use Rattle.std.specs.List.{AllZip}
use Rattle.std.proofs.lemmas.List.{append_assoc, append_cancel_left, take_all}
use Rattle.opclass.specs.declared.types.ColType.{ColType}
use Rattle.opclass.specs.declared.types.Width.{Width}
use Rattle.opclass.specs.declared.types.Width.TheVariants.{Fixed, Variable}
use Rattle.opclass.specs.declared.value.KeyVal.{KeyVal}
use Rattle.opclass.specs.declared.value.KeyVal.TheVariants.{Nil}
use Rattle.opclass.specs.Types.{facts_of}
use Rattle.opclass.specs.Values.{IsValueOf}
use Rattle.tuple_data.specs.Datum.{datum_of, piece_at, stored_at}
use Rattle.tuple_data.specs.Data.{data_from}
use Rattle.tuple_data.specs.InPlace.{ReadsAt}
use Rattle.tuple_data.specs.Nulls.{is_null, null_bits}
use Rattle.tuple_data.specs.Reading.{AreStored, BeginsWithData, BeginsWithValue, IsNext, IsStored}
use Rattle.tuple_data.proofs.OneReading.{first_stored, more_stored, piece_once}

null_stored : (width : Width) (alignment place : ℕ) → stored_at place (datum_of width alignment Nil) ≡ []
null_stored (Fixed width) alignment place = refl
null_stored Variable alignment place = refl

pub null_next : (place : ℕ) (kind : ColType) (bytes : List ℕ) → IsNext place kind 0 bytes Nil bytes
null_next place kind bytes = record {
  typed = tt;
  bit = refl;
  «data» = ap (λ (b : List ℕ). b ++ bytes) (sym (null_stored (facts_of kind).width (facts_of kind).alignment place));
}

bit_of_some : (b : Bool) → b ≡ false → ◌≡◌ {A = ℕ} (if b then 0 else 1) 1
bit_of_some true e = cc
bit_of_some false e = refl

some_of_bit : (b : Bool) → ◌≡◌ {A = ℕ} (if b then 0 else 1) 1 → b ≡ false
some_of_bit true e = absurd (omega arith)
some_of_bit false e = refl

pub some_next : (place : ℕ) (kind : ColType) (bytes : List ℕ) (value : KeyVal) (behind : List ℕ)
    → BeginsWithValue place kind bytes value behind → IsNext place kind 1 bytes value behind
some_next place kind bytes value behind is = record { typed = is.typed; bit = bit_of_some (is_null value) is.there; «data» = is.data }

pub next_some : (place : ℕ) (kind : ColType) (bytes : List ℕ) (value : KeyVal) (behind : List ℕ)
    → IsNext place kind 1 bytes value behind → BeginsWithValue place kind bytes value behind
next_some place kind bytes value behind is = record { typed = is.typed; there = some_of_bit (is_null value) is.bit; «data» = is.data }

same_bit : (b c : Bool) (n : ℕ) → (if b then 0 else 1) ≡ n → (if c then 0 else 1) ≡ n → b ≡ c
same_bit true true n e f = refl
same_bit true false n e f = absurd (omega arith)
same_bit false true n e f = absurd (omega arith)
same_bit false false n e f = refl

bit_below : (b : Bool) → (if b then 0 else 1) < 2
bit_below true = omega arith
bit_below false = omega arith

-- a value more in front
pub reads_more : (place : ℕ) (kind : ColType) (kinds : List ColType) (bits : ℕ) (bytes : List ℕ) (value : KeyVal) (rest : List ℕ) (more : List KeyVal)
    → IsNext place kind (bits % 2) bytes value rest → ReadsAt (place + length (piece_at place kind value)) kinds (bits / 2) rest more
    → ReadsAt place (kind ∷ kinds) bits bytes (value ∷ more)
reads_more place kind kinds bits bytes value rest more next reads =
    let piece : List ℕ = piece_at place kind value in
    let front = next.bit in
    let back = reads.present in record {
      typed = (next.typed, reads.typed);
      present = omega (arith, front, back);
      behind = reads.behind;
      whole =
          next.data
          ∙ ap (λ (b : List ℕ). piece ++ b) reads.whole
          ∙ sym (append_assoc piece (data_from (place + length piece) kinds more) reads.behind);
    }

-- the first value is next, and the others are behind it
pub record FirstIs (place : ℕ) (kind : ColType) (kinds : List ColType) (bits : ℕ) (bytes : List ℕ) (value : KeyVal) (more : List KeyVal) : Type 0 where
  pub rest : List ℕ
  pub next : IsNext place kind (bits % 2) bytes value rest
  pub reads : ReadsAt (place + length (piece_at place kind value)) kinds (bits / 2) rest more

pub first_is : (place : ℕ) (kind : ColType) (kinds : List ColType) (bits : ℕ) (bytes : List ℕ) (value : KeyVal) (more : List KeyVal)
    → ReadsAt place (kind ∷ kinds) bits bytes (value ∷ more) → FirstIs place kind kinds bits bytes value more
first_is place kind kinds bits bytes value more reads =
    let piece : List ℕ = piece_at place kind value in
    let present = reads.present in
    let below = bit_below (is_null value) in
    let rest : List ℕ = data_from (place + length piece) kinds more ++ reads.behind in record {
      rest = rest;
      next = record {
        typed = reads.typed.0;
        bit = omega (arith, present, below);
        «data» = reads.whole ∙ append_assoc piece (data_from (place + length piece) kinds more) reads.behind;
      };
      reads = record { typed = reads.typed.1; present = omega (arith, present, below); behind = reads.behind; whole = refl };
    }

-- the same where the values aren't known to be some
pub record FirstOf (place : ℕ) (kind : ColType) (kinds : List ColType) (bits : ℕ) (bytes : List ℕ) : Type 0 where
  pub value : KeyVal
  pub more : List KeyVal
  pub first : FirstIs place kind kinds bits bytes value more

pub first_of : (place : ℕ) (kind : ColType) (kinds : List ColType) (bits : ℕ) (bytes : List ℕ) (values : List KeyVal)
    → ReadsAt place (kind ∷ kinds) bits bytes values → FirstOf place kind kinds bits bytes
first_of place kind kinds bits bytes [] reads = absurd reads.typed
first_of place kind kinds bits bytes (value ∷ more) reads =
    record { value = value; more = more; first = first_is place kind kinds bits bytes value more reads }

-- the same where the first value is known
pub reads_behind : (place : ℕ) (kind : ColType) (kinds : List ColType) (bits : ℕ) (bytes : List ℕ) (value : KeyVal) (rest : List ℕ)
    (values : List KeyVal) → IsStored (facts_of kind).form → length bytes < 2 ^ 30 → IsNext place kind (bits % 2) bytes value rest
    → ReadsAt place (kind ∷ kinds) bits bytes values → (more : List KeyVal) × ReadsAt (place + length (piece_at place kind value)) kinds (bits / 2) rest more
reads_behind place kind kinds bits bytes value rest values stored size next reads =
    let found = first_of place kind kinds bits bytes values reads in
    let same : found.value ≡ value =
    piece_once place kind found.value value found.first.rest rest stored found.first.next.typed next.typed
    (same_bit (is_null found.value) (is_null value) (bits % 2) found.first.next.bit next.bit)
    (subst (λ (b : List ℕ). length b < 2 ^ 30) found.first.next.data size)
    (sym found.first.next.data ∙ next.data) in
    let tail : found.first.rest ≡ rest =
    append_cancel_left (piece_at place kind value) found.first.rest rest
    (ap (λ (v : KeyVal). piece_at place kind v ++ found.first.rest) (sym same) ∙ sym found.first.next.data ∙ next.data) in (
      found.more,
      subst (λ (b : List ℕ). ReadsAt (place + length (piece_at place kind value)) kinds (bits / 2) b found.more) tail
          (subst (λ (v : KeyVal). ReadsAt (place + length (piece_at place kind v)) kinds (bits / 2) found.first.rest found.more) same found.first.reads),
    )

-- ---- the loop

-- what reads the bytes that are left completes the columns in front, and nothing else does
pub record ReadsSoFar (all : List ColType) (present : ℕ) (bytes : List ℕ) (kinds : List ColType) (bits : ℕ) (rest : List ℕ) : Type 0 where
  pub stored : AreStored kinds
  pub left : length rest ≤ length bytes
  pub sound : (more : List KeyVal) → ReadsAt (length bytes - length rest) kinds bits rest more → (whole : List KeyVal) × ReadsAt 0 all present bytes whole
  pub only : (whole : List KeyVal) → ReadsAt 0 all present bytes whole → (more : List KeyVal) × ReadsAt (length bytes - length rest) kinds bits rest more

pub so_far_none : (all : List ColType) (present : ℕ) (bytes : List ℕ) → AreStored all → ReadsSoFar all present bytes all present bytes
so_far_none all present bytes stored =
    let none : length bytes - length bytes ≡ 0 = omega arith in record {
      stored = stored;
      left = omega arith;
      sound = λ more reads. (more, subst (λ (p : ℕ). ReadsAt p all present bytes more) none reads);
      only = λ whole reads. (whole, subst (λ (p : ℕ). ReadsAt p all present bytes whole) (sym none) reads);
    }

pub so_far_more : (all : List ColType) (present : ℕ) (bytes : List ℕ) (kind : ColType) (kinds : List ColType) (bits : ℕ) (rest : List ℕ)
    (value : KeyVal) (behind : List ℕ) → length bytes < 2 ^ 30
    → ReadsSoFar all present bytes (kind ∷ kinds) bits rest → IsNext (length bytes - length rest) kind (bits % 2) rest value behind
    → ReadsSoFar all present bytes kinds (bits / 2) behind
so_far_more all present bytes kind kinds bits rest value behind size so_far next =
    let place : ℕ = length bytes - length rest in
    let piece : List ℕ = piece_at place kind value in
    let left = so_far.left in
    let both = ap length next.data ∙ length-append piece behind in
    let at : length bytes - length behind ≡ place + length piece = omega (arith, left, both) in record {
      stored = more_stored kind kinds so_far.stored;
      left = omega (arith, left, both);
      sound =
          λ more reads.
          so_far.sound (value ∷ more)
          (reads_more place kind kinds bits rest value behind more next (subst (λ (p : ℕ). ReadsAt p kinds (bits / 2) behind more) at reads));
      only =
          λ whole reads.
          let here = so_far.only whole reads in
          let there =
          reads_behind place kind kinds bits rest value behind here.0 (first_stored kind kinds so_far.stored) (omega (arith, left, size)) next here.1 in
          (there.0, subst (λ (p : ℕ). ReadsAt p kinds (bits / 2) behind there.0) (sym at) there.1);
    }

reads_of : (kinds : List ColType) (present : ℕ) (bytes : List ℕ) (values : List KeyVal) → BeginsWithData kinds present bytes values
    → ReadsAt 0 kinds present bytes values
reads_of kinds present bytes values is = record { typed = is.typed; present = is.bits; behind = is.behind; whole = is.data }

-- where no value is next, none reads the whole
pub none_next : (all : List ColType) (present : ℕ) (bytes : List ℕ) (kind : ColType) (kinds : List ColType) (bits : ℕ) (rest : List ℕ)
    (whole : List KeyVal) → ReadsSoFar all present bytes (kind ∷ kinds) bits rest
    → ((value : KeyVal) (behind : List ℕ) → IsNext (length bytes - length rest) kind (bits % 2) rest value behind → ⊥)
    → BeginsWithData all present bytes whole → ⊥
none_next all present bytes kind kinds bits rest whole so_far none begins =
    let here = so_far.only whole (reads_of all present bytes whole begins) in
    let found = first_of (length bytes - length rest) kind kinds bits rest here.0 here.1 in
    none found.value found.first.rest found.first.next

-- at the end no bit may be left
no_values : (values : List KeyVal) → AllZip IsValueOf [] values → values ≡ []
no_values [] typed = refl
no_values (value ∷ values) typed = absurd typed

pub bits_left : (all : List ColType) (present : ℕ) (bytes : List ℕ) (bits : ℕ) (rest : List ℕ) (whole : List KeyVal)
    → ReadsSoFar all present bytes [] bits rest → bits ≢ 0 → BeginsWithData all present bytes whole → ⊥
bits_left all present bytes bits rest whole so_far some begins =
    let here = so_far.only whole (reads_of all present bytes whole begins) in
    some (sym here.1.present ∙ ap null_bits (no_values here.0 here.1.typed))

pub all_read : (all : List ColType) (present : ℕ) (bytes : List ℕ) (bits : ℕ) (rest : List ℕ)
    → ReadsSoFar all present bytes [] bits rest → bits ≡ 0 → (values : List KeyVal) × ReadsAt 0 all present bytes values
all_read all present bytes bits rest so_far none = so_far.sound [] (record { typed = tt; present = sym none; behind = rest; whole = refl })

-- no column is left
pub nothing_left : (all : List ColType) (present : ℕ) (bytes : List ℕ) (kinds : List ColType) (bits : ℕ) (rest : List ℕ)
    → length kinds < 1 → ReadsSoFar all present bytes kinds bits rest → ReadsSoFar all present bytes [] bits rest
nothing_left all present bytes [] bits rest below so_far = so_far
nothing_left all present bytes (kind ∷ kinds) bits rest below so_far = absurd (omega arith)

-- the first of the columns that are left, and those behind it
pub first_left : (kinds : List ColType) (d : ColType) → 1 ≤ length kinds
    → kinds ≡ get_or kinds 0 d ∷ take (length kinds - 1) (drop 1 kinds)
first_left [] d some = absurd (omega arith)
first_left (kind ∷ kinds) d some =
    let many : length (kind ∷ kinds) - 1 ≡ length kinds = omega arith in
    ap (λ (ks : List ColType). kind ∷ ks) (sym (take_all (length (kind ∷ kinds) - 1) kinds (omega arith)))
