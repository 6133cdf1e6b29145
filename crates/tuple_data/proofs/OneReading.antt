-- One list of values at most has its data in front of the same bytes.
use Rattle.std.proofs.Common.{◌≡◌, ◌⊎◌, ℕ, ◌+◌, ◌*◌, ◌^◌, ◌<◌, Bool, true, false, if◌then◌else◌, List, [], ◌∷◌, ◌++◌, length, refl, sym, ap, subst, ◌∙◌, inl, inr, arith, length-append}
use Rattle.std.specs.List.{AllZip}
use Rattle.std.proofs.lemmas.List.{append_assoc}
use Rattle.std.proofs.lemmas.List.Elements.{All-head, All-tail}
use Rattle.opclass.specs.declared.types.ColType.{ColType}
use Rattle.opclass.specs.declared.value.KeyVal.{KeyVal}
use Rattle.opclass.specs.declared.value.KeyVal.TheVariants.{Nil, Num, Raw, Items}
use Rattle.opclass.specs.Types.{facts_of}
use Rattle.opclass.specs.Values.{IsValueOf}
use Rattle.tuple_data.specs.Datum.{piece_at}
use Rattle.tuple_data.specs.Data.{data_from}
use Rattle.tuple_data.specs.Nulls.{is_null, null_bits}
use Rattle.tuple_data.specs.Reading.{AreStored, BeginsWithData, IsStored}
use Rattle.tuple_data.proofs.OneNumber.{widths_fit}
use Rattle.tuple_data.proofs.OneValue.{behind_padding, stored_once, typed_of}

-- the lowest bit is the first value's
pub bits_apart : (b c : Bool) (m n : ℕ) → (if b then 0 else 1) + 2 * m ≡ (if c then 0 else 1) + 2 * n → (b ≡ c) × (m ≡ n)
bits_apart true true m n e = (refl, omega arith)
bits_apart true false m n e = absurd (omega arith)
bits_apart false true m n e = absurd (omega arith)
bits_apart false false m n e = (refl, omega arith)

pub either : (b : Bool) → (b ≡ true) ⊎ (b ≡ false)
either true = inl refl
either false = inr refl

pub null_is : (value : KeyVal) → is_null value ≡ true → value ≡ Nil
null_is Nil null = refl
null_is (Num number) null = cc
null_is (Raw bytes) null = cc
null_is (Items elements) null = cc

pub piece_once : (place : ℕ) (kind : ColType) (v w : KeyVal) (b c : List ℕ) → IsStored (facts_of kind).form → IsValueOf kind v
    → IsValueOf kind w → is_null v ≡ is_null w → length (piece_at place kind v ++ b) < 2 ^ 30
    → piece_at place kind v ++ b ≡ piece_at place kind w ++ c → v ≡ w
piece_once place kind v w b c stored is has same fits e =
    elim (either (is_null v)) [
      | inl null ↦ null_is v null ∙ sym (null_is w (sym same ∙ null))
      | inr some ↦
          stored_once (facts_of kind).form (facts_of kind).width (facts_of kind).alignment place v w b c (widths_fit kind stored)
          (typed_of kind v is) (typed_of kind w has) some (sym same ∙ some) fits e
    ]

pub first_stored : (kind : ColType) (kinds : List ColType) → AreStored (kind ∷ kinds) → IsStored (facts_of kind).form
first_stored kind kinds stored = All-head (λ k. IsStored (facts_of k).form) kind kinds stored

pub more_stored : (kind : ColType) (kinds : List ColType) → AreStored (kind ∷ kinds) → AreStored kinds
more_stored kind kinds stored = All-tail (λ k. IsStored (facts_of k).form) kind kinds stored

pub data_once : (place : ℕ) (kinds : List ColType) (v w : List KeyVal) (b c : List ℕ) → AreStored kinds → AllZip IsValueOf kinds v
    → AllZip IsValueOf kinds w → null_bits v ≡ null_bits w → length (data_from place kinds v ++ b) < 2 ^ 30
    → data_from place kinds v ++ b ≡ data_from place kinds w ++ c → v ≡ w
data_once place [] [] [] b c stored is has bits fits e = refl
data_once place [] (v ∷ vs) w b c stored is has bits fits e = absurd is
data_once place [] [] (w ∷ ws) b c stored is has bits fits e = absurd has
data_once place (kind ∷ kinds) [] w b c stored is has bits fits e = absurd is
data_once place (kind ∷ kinds) (v ∷ vs) [] b c stored is has bits fits e = absurd has
data_once place (kind ∷ kinds) (v ∷ vs) (w ∷ ws) b c stored is has bits fits e =
    let piece : List ℕ = piece_at place kind v in
    let next : ℕ = place + length piece in
    let more : List ℕ = data_from next kinds vs in
    let more' : List ℕ = data_from (place + length (piece_at place kind w)) kinds ws in
    let apart = bits_apart (is_null v) (is_null w) (null_bits vs) (null_bits ws) bits in
    let grouped : (piece ++ more) ++ b ≡ piece ++ (more ++ b) = append_assoc piece more b in
    let fits' : length (piece ++ (more ++ b)) < 2 ^ 30 = subst (λ (all : List ℕ). length all < 2 ^ 30) grouped fits in
    let first : v ≡ w =
    piece_once place kind v w (more ++ b) (more' ++ c) (first_stored kind kinds stored) is.0 has.0 apart.0 fits'
    (sym grouped ∙ e ∙ append_assoc (piece_at place kind w) more' c) in
    let whole : (piece ++ more) ++ b ≡ (piece ++ data_from next kinds ws) ++ c =
    e ∙ ap (λ (x : KeyVal). (piece_at place kind x ++ data_from (place + length (piece_at place kind x)) kinds ws) ++ c) (sym first) in
    let rest : more ++ b ≡ data_from next kinds ws ++ c = behind_padding piece more (data_from next kinds ws) b c whole in
    let both = length-append piece (more ++ b) in
    ap (λ (x : KeyVal). x ∷ vs) first
    ∙ ap (λ (xs : List KeyVal). w ∷ xs)
    (data_once next kinds vs ws b c (more_stored kind kinds stored) is.1 has.1 apart.1 (omega arith) rest)

pub reading_once : (kinds : List ColType) (present : ℕ) (bytes : List ℕ) (values others : List KeyVal) → AreStored kinds → length bytes < 2 ^ 30
    → BeginsWithData kinds present bytes values → BeginsWithData kinds present bytes others → values ≡ others
reading_once kinds present bytes values others stored fits here there =
    data_once 0 kinds values others here.behind there.behind stored here.typed there.typed (here.bits ∙ sym there.bits)
    (subst (λ (all : List ℕ). length all < 2 ^ 30) here.data fits)
    (sym here.data ∙ there.data)
