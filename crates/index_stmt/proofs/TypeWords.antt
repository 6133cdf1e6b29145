-- The words that begin a type.
use Rattle.std.proofs.Common.{◌≡◌, ℕ, Bool, true, false, cond, List, [], ◌∷◌, map, find, Option, Some, None, option_and_then, refl, ap, ◌∙◌}
use Rattle.std.specs.Option.{option_map}
use Rattle.std.specs.Str.{bytes_eq}
use Rattle.stmt_token.specs.Tokens.{TokenValue, Word, Quoted, Number, Text, Sign, Bad}
use Rattle.index_stmt.specs.declared.type_name.TypeStart.{TypeStart}
use Rattle.index_stmt.specs.Pass.{Row, next_of, started}
use Rattle.index_stmt.specs.TypeNames.{start_in, type_words}

abbrev pub plain : Row → List ℕ × TypeStart
plain row = (row.0.now, row.1)

none_passes : (rows : List Row) → option_map (λ (row : Row). row.1) (find (λ row. false) rows) ≡ None
none_passes [] = refl
none_passes (row ∷ rows) = none_passes rows

chosen : (b : Bool) (row : Row) (x : Option Row) (y : Option (List ℕ × TypeStart))
    → option_map (λ (row : Row). row.1) x ≡ option_map (λ (row : List ℕ × TypeStart). row.1) y
    → option_map (λ (row : Row). row.1) (cond b (Some row) x) ≡ option_map (λ (row : List ℕ × TypeStart). row.1) (cond b (Some (plain row)) y)
chosen true row x y same = refl
chosen false row x y same = same

plain_rows : (word : List ℕ) (rows : List Row)
    → option_map (λ (row : Row). row.1) (find (λ row. bytes_eq word row.0.now) rows)
    ≡ option_map (λ (row : List ℕ × TypeStart). row.1) (find (λ row. bytes_eq word row.0) (map plain rows))
plain_rows word [] = refl
plain_rows word (row ∷ rows) = chosen (bytes_eq word row.0.now) row _ _ (plain_rows word rows)

-- the rows of the code are those of the table
pub starts : (rows : List Row) (tokens : List TokenValue) → map plain rows ≡ type_words
    → started rows tokens ≡ option_and_then start_in (next_of tokens)
unfolding started
starts rows [] same = none_passes rows
starts rows (Word word ∷ tokens) same =
    plain_rows word rows ∙ ap (λ table. option_map (λ (row : List ℕ × TypeStart). row.1) (find (λ row. bytes_eq word row.0) table)) same
starts rows (Quoted bytes ∷ tokens) same = none_passes rows
starts rows (Number number ∷ tokens) same = none_passes rows
starts rows (Text bytes ∷ tokens) same = none_passes rows
starts rows (Sign sign ∷ tokens) same = none_passes rows
starts rows (Bad ∷ tokens) same = none_passes rows
