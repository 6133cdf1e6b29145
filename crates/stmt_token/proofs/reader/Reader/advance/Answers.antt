use Rattle.std.proofs.Common.{List, drop, ap, ◌∙◌}
use Rattle.stmt_token.specs.Borrowed.{value_of}
use Rattle.stmt_token.specs.Reading.{Reading}
use Rattle.stmt_token.specs.Tokens.{Lexeme}
use Rattle.stmt_token.proofs.Steps.{without_next}
use Rattle.stmt_token.proofs.reader.Reader.advance.Goals as goal

pub returns : goal.returns
returns c =
    c.self-2.view_is ∙ c.reading.ensures
    ∙ ap (λ (l : List Lexeme). record { lexemes = l; end = c.self.inside.end })
    (without_next (value_of c.self.inside.token) c.self.inside.place c.self.inside.end c.self.inside.left.now c.self.invariant.nothing_left)
    ∙ ap (λ (r : Reading). record { lexemes = drop 1 r.lexemes; end = r.end }) c.self.view_is
