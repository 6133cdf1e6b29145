-- What a statement has behind a token.
use Rattle.std.proofs.Common.{◌≡◌, ℕ, zero, suc, List, [], ◌∷◌, drop, refl, ◌∙◌, ap}
use Rattle.stmt_token.specs.Tokens.{Lexeme, lexemes_of}
use Rattle.index_stmt.specs.Pass.{EndText}

drop-drop : (read : ℕ) (lexemes : List Lexeme) → drop 1 (drop read lexemes) ≡ drop (suc read) lexemes
drop-drop zero lexemes = refl
drop-drop (suc read) [] = refl
drop-drop (suc read) (lexeme ∷ lexemes) = drop-drop read lexemes

-- what is left behind one more token ends the text's tokens too
pub ends_text : (text : List ℕ) (lexemes : List Lexeme) (end : ℕ) → EndText text lexemes end → EndText text (drop 1 lexemes) end
ends_text text lexemes end ends = record {
  behind = (suc ends.behind.0, ap (drop 1) ends.behind.1 ∙ drop-drop ends.behind.0 (lexemes_of text));
  end_is = ends.end_is;
}
