-- The data of several columns.
use Rattle.std.proofs.Common.{◌≡◌, ℕ, zero, suc, ◌+◌, List, [], ◌∷◌, ◌++◌, length, take, refl, sym, ap, ◌∙◌, arith, add-zero, length-append}
use Rattle.std.proofs.lemmas.List.{append_assoc}
use Rattle.opclass.specs.declared.types.ColType.{ColType}
use Rattle.opclass.specs.declared.value.KeyVal.{KeyVal}
use Rattle.tuple_data.specs.Datum.{piece_at}
use Rattle.tuple_data.specs.Data.{data_from}

pub columns_behind : (place : ℕ) (kinds more_kinds : List ColType) (values more_values : List KeyVal) → length kinds ≡ length values
    → data_from place (kinds ++ more_kinds) (values ++ more_values)
    ≡ data_from place kinds values ++ data_from (place + length (data_from place kinds values)) more_kinds more_values
columns_behind place [] more_kinds [] more_values same = ap (λ p. data_from p more_kinds more_values) (sym (add-zero place))
columns_behind place [] more_kinds (value ∷ values) more_values same = absurd (omega arith)
columns_behind place (kind ∷ kinds) more_kinds [] more_values same = absurd (omega arith)
columns_behind place (kind ∷ kinds) more_kinds (value ∷ values) more_values same =
    let piece : List ℕ = piece_at place kind value in
    let next : ℕ = place + length piece in
    let rest : List ℕ = data_from next kinds values in
    let end : next + length rest ≡ place + length (piece ++ rest) = let both = length-append piece rest in omega arith in
    ap (λ bytes. piece ++ bytes) (columns_behind next kinds more_kinds values more_values (omega arith))
    ∙ sym (append_assoc piece rest (data_from (next + length rest) more_kinds more_values))
    ∙ ap (λ p. (piece ++ rest) ++ data_from p more_kinds more_values) end

pub front_columns : (place kept : ℕ) (kinds : List ColType) (values : List KeyVal)
    → (behind : List ℕ) × (data_from place kinds values ≡ data_from place (take kept kinds) (take kept values) ++ behind)
front_columns place zero kinds values = (data_from place kinds values, refl)
front_columns place (suc kept) [] values = ([], refl)
front_columns place (suc kept) (kind ∷ kinds) [] = ([], refl)
front_columns place (suc kept) (kind ∷ kinds) (value ∷ values) =
    let piece : List ℕ = piece_at place kind value in
    let next : ℕ = place + length piece in
    let more = front_columns next kept kinds values in (
      more.0,
      ap (λ bytes. piece ++ bytes) more.1 ∙ sym (append_assoc piece (data_from next (take kept kinds) (take kept values)) more.0),
    )
