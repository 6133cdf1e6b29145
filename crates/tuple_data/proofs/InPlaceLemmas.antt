-- The values of a tuple where they stand in its bytes.
use Rattle.std.proofs.Common.{◌≡◌, ℕ, suc, ◌+◌, ◌-◌, ◌/◌, ◌%◌, ◌^◌, ◌<◌, ◌≤◌, nat_eq, Bool, true, false, if◌then◌else◌, Option, Some, None, MatchOption, List, [], ◌∷◌, length, drop, get_or, refl, sym, ap, subst, ◌∙◌, inl, inr, arith, length-append, length-drop}
use Rattle.std.specs.List.{slice_get}
use Rattle.std.proofs.lemmas.List.{drop-drop, get_or-drop}
use Rattle.std.proofs.lemmas.Option.{slice_get-get_or}
use Rattle.opclass.specs.declared.types.ColType.{ColType}
use Rattle.opclass.specs.declared.value.KeyVal.{KeyVal}
use Rattle.opclass.specs.declared.value.KeyVal.TheVariants.{Nil}
use Rattle.opclass.specs.Types.{facts_of}
use Rattle.tuple_data.specs.Datum.{piece_at}
use Rattle.tuple_data.specs.Fetch.{content_of, own_at, value_at, values_at}
use Rattle.tuple_data.specs.InPlace.{AreInPlace, ReadsAt}
use Rattle.tuple_data.specs.Nulls.{is_null}
use Rattle.tuple_data.specs.Reading.{AreStored, BeginsWithData, IsNext, IsStored, value_of}
use Rattle.tuple_data.specs.declared.attribute.Attribute.{Attribute}
use Rattle.tuple_data.proofs.Fetched.{drop_front, value_fetched}
use Rattle.tuple_data.proofs.OneReading.{either, first_stored, more_stored, null_is}
use Rattle.tuple_data.proofs.ReadList.{first_is, next_some, reads_behind}

-- the value that is next is the one that is fetched
bit_of_null : (b : Bool) (n : ℕ) → (if b then 0 else 1) ≡ n → b ≡ true → n ≡ 0
bit_of_null true n e is = sym e
bit_of_null false n e is = cc

bit_of_some : (b : Bool) (n : ℕ) → (if b then 0 else 1) ≡ n → b ≡ false → n ≡ 1
bit_of_some true n e is = cc
bit_of_some false n e is = sym e

pub next_fetched : (place : ℕ) (kind : ColType) (present : ℕ) (bytes : List ℕ) (value : KeyVal) (behind : List ℕ)
    → IsStored (facts_of kind).form → length bytes < 2 ^ 30 → IsNext place kind present bytes value behind → value_at place kind present bytes ≡ value
next_fetched place kind present bytes value behind stored size next =
    let fetched : KeyVal = content_of (facts_of kind).form (own_at place (facts_of kind).width (facts_of kind).alignment bytes) in
    elim (either (is_null value)) [
      | inl null ↦
          let none : present ≡ 0 = bit_of_null (is_null value) present next.bit null in
          ap (λ (n : ℕ). if nat_eq n 0 then Nil else fetched) none ∙ sym (null_is value null)
      | inr some ↦
          let one : present ≡ 1 = bit_of_some (is_null value) present next.bit some in
          ap (λ (n : ℕ). if nat_eq n 0 then Nil else fetched) one
          ∙ value_fetched kind place bytes value behind stored size
          (next_some place kind bytes value behind (subst (λ (n : ℕ). IsNext place kind n bytes value behind) one next))
    ]

-- the values that are fetched from a place on, by the first of them
pub values_next : (place : ℕ) (kind : ColType) (kinds : List ColType) (bits : ℕ) (bytes : List ℕ) (value : KeyVal) (behind : List ℕ)
    → IsStored (facts_of kind).form → length bytes < 2 ^ 30 → IsNext place kind (bits % 2) bytes value behind
    → values_at place (kind ∷ kinds) bits bytes ≡ value ∷ values_at (place + length (piece_at place kind value)) kinds (bits / 2) behind
values_next place kind kinds bits bytes value behind stored size next =
    let fetched : value_at place kind (bits % 2) bytes ≡ value = next_fetched place kind (bits % 2) bytes value behind stored size next in
    let piece : List ℕ = piece_at place kind value in
    ap
    (λ (v : KeyVal). v ∷ values_at (place + length (piece_at place kind v)) kinds (bits / 2) (drop (length (piece_at place kind v)) bytes)) fetched
    ∙ ap (λ (b : List ℕ). value ∷ values_at (place + length piece) kinds (bits / 2) b)
    (ap (drop (length piece)) next.data ∙ drop_front piece behind)

-- the values that are there are those that are fetched
pub values_fetched : (place : ℕ) (kinds : List ColType) (bits : ℕ) (bytes : List ℕ) (values : List KeyVal) → AreStored kinds
    → length bytes < 2 ^ 30 → ReadsAt place kinds bits bytes values → values_at place kinds bits bytes ≡ values
values_fetched place [] bits bytes [] stored size reads = refl
values_fetched place [] bits bytes (value ∷ values) stored size reads = absurd reads.typed
values_fetched place (kind ∷ kinds) bits bytes [] stored size reads = absurd reads.typed
values_fetched place (kind ∷ kinds) bits bytes (value ∷ values) stored size reads =
    let first = first_is place kind kinds bits bytes value values reads in
    let piece : List ℕ = piece_at place kind value in
    let both = ap length first.next.data ∙ length-append piece first.rest in
    values_next place kind kinds bits bytes value first.rest (first_stored kind kinds stored) size first.next
    ∙ ap (λ (vs : List KeyVal). value ∷ vs)
    (values_fetched (place + length piece) kinds (bits / 2) first.rest values (more_stored kind kinds stored) (omega (arith, both, size)) first.reads)

-- where some values are there, they stand in place
pub in_place : (place : ℕ) (kinds : List ColType) (bits : ℕ) (bytes : List ℕ) (values : List KeyVal) → AreStored kinds → place + length bytes < 2 ^ 30
    → ReadsAt place kinds bits bytes values → AreInPlace place kinds bits bytes
in_place place kinds bits bytes values stored size reads = record {
  stored = stored;
  size = size;
  reads = subst (ReadsAt place kinds bits bytes) (sym (values_fetched place kinds bits bytes values stored (omega (arith, size)) reads)) reads;
}

pub begins : (kinds : List ColType) (bits : ℕ) (bytes : List ℕ) → AreInPlace 0 kinds bits bytes → BeginsWithData kinds bits bytes (values_at 0 kinds bits bytes)
begins kinds bits bytes is =
    record { typed = is.reads.typed; bits = is.reads.present; behind = is.reads.behind; «data» = is.reads.whole }

-- the first of them is next
pub no_next : (place : ℕ) (kind : ColType) (kinds : List ColType) (bits : ℕ) (bytes : List ℕ) → AreInPlace place (kind ∷ kinds) bits bytes
    → ((value : KeyVal) (behind : List ℕ) → IsNext place kind (bits % 2) bytes value behind → ⊥) → ⊥
no_next place kind kinds bits bytes is none =
    let first = first_is place kind kinds bits bytes _ _ is.reads in none _ first.rest first.next

-- and behind it stand the others
pub in_place_behind : (place : ℕ) (kind : ColType) (kinds : List ColType) (bits : ℕ) (bytes : List ℕ) (value : KeyVal) (behind : List ℕ)
    → AreInPlace place (kind ∷ kinds) bits bytes → IsNext place kind (bits % 2) bytes value behind
    → AreInPlace (place + (length bytes - length behind)) kinds (bits / 2) behind
in_place_behind place kind kinds bits bytes value behind is next =
    let stored = first_stored kind kinds is.stored in
    let size = is.size in
    let piece : List ℕ = piece_at place kind value in
    let both = ap length next.data ∙ length-append piece behind in
    let at : place + length piece ≡ place + (length bytes - length behind) = omega (arith, both) in
    let found = reads_behind place kind kinds bits bytes value behind _ stored (omega (arith, size)) next is.reads in
    in_place (place + (length bytes - length behind)) kinds (bits / 2) behind found.0 (more_stored kind kinds is.stored) (omega (arith, both, size))
    (subst (λ (p : ℕ). ReadsAt p kinds (bits / 2) behind found.0) at found.1)

pub values_behind : (place : ℕ) (kind : ColType) (kinds : List ColType) (bits : ℕ) (bytes : List ℕ) (value : KeyVal) (behind : List ℕ)
    → AreInPlace place (kind ∷ kinds) bits bytes → IsNext place kind (bits % 2) bytes value behind
    → values_at place (kind ∷ kinds) bits bytes ≡ value ∷ values_at (place + (length bytes - length behind)) kinds (bits / 2) behind
values_behind place kind kinds bits bytes value behind is next =
    let size = is.size in
    let piece : List ℕ = piece_at place kind value in
    let both = ap length next.data ∙ length-append piece behind in
    let at : place + length piece ≡ place + (length bytes - length behind) = omega (arith, both) in
    values_next place kind kinds bits bytes value behind (first_stored kind kinds is.stored) (omega (arith, size)) next
    ∙ ap (λ (p : ℕ). value ∷ values_at p kinds (bits / 2) behind) at

-- there are as many as there are columns
pub length-values_at : (place : ℕ) (kinds : List ColType) (bits : ℕ) (bytes : List ℕ) → length (values_at place kinds bits bytes) ≡ length kinds
length-values_at place [] bits bytes = refl
length-values_at place (kind ∷ kinds) bits bytes =
    let piece : List ℕ = piece_at place kind (value_at place kind (bits % 2) bytes) in
    ap (λ (n : ℕ). suc n) (length-values_at (place + length piece) kinds (bits / 2) (drop (length piece) bytes))

pub none_at : (place : ℕ) (kinds : List ColType) (bits : ℕ) (bytes : List ℕ) → length kinds < 1 → values_at place kinds bits bytes ≡ []
none_at place [] bits bytes below = refl
none_at place (kind ∷ kinds) bits bytes below = absurd (omega arith)

-- ---- a value behind others

pub skipped : (result : Option Attribute) (all old new : List KeyVal) (n : ℕ) → old ≡ drop n all
    → MatchOption result ((old ≡ []) × (new ≡ [])) (λ first. old ≡ value_of first ∷ new) → new ≡ drop (n + 1) all
skipped None all old new n at none = none.1 ∙ sym (ap (drop 1) none.0) ∙ ap (drop 1) at ∙ drop-drop 1 n all
skipped (Some first) all old new n at some = sym (ap (drop 1) some) ∙ ap (drop 1) at ∙ drop-drop 1 n all

pub not_past : (all old : List KeyVal) (n at : ℕ) → old ≡ drop n all → n ≤ at → at < length all → old ≡ [] → ⊥
not_past all old n at is below inside none =
    let left = length-drop n all in
    let no : length (drop n all) ≡ 0 = ap (length {A = KeyVal}) (sym is ∙ none) in
    omega (arith, left, no, below, inside)

pub value_got : (all old new : List KeyVal) (n at : ℕ) (value : KeyVal) → old ≡ drop n all → n ≡ at → at < length all → old ≡ value ∷ new
    → slice_get all at ≡ Some value
value_got all old new n at value is same inside first =
    slice_get-get_or all at value inside
    ∙ ap Some
    (ap (λ (i : ℕ). get_or all i value) (omega (arith, same))
    ∙ sym (get_or-drop n all 0 value)
    ∙ ap (λ (l : List KeyVal). get_or l 0 value) (sym is ∙ first))
