use Rattle.std.proofs.Common.{◌-◌, List, length, refl, ap}
use Rattle.stmt_token.specs.Tokens.{Lexeme}
use Rattle.stmt_token.proofs.Steps.{read_end, read_next, to_the_end}
use Rattle.stmt_token.proofs.reader.Reader.reading.Goals as goal

pub returns-in_default : goal.returns-in_default
returns-in_default c =
    ap (λ (l : List Lexeme). record { lexemes = l; end = c.args.end })
    (read_end c.args.left.now (c.args.end - length c.args.left.now) c.run.result c.run.ensures.count c.in_default.len_below)

pub returns : goal.returns
returns c =
    ap (λ (l : List Lexeme). record { lexemes = l; end = c.args.end })
    (read_next c.args.left.now _ _ c.args.end _ c.run.result c.first_token-len.result c.requires.left c.run.ensures.count
    (to_the_end c.run.result c.args.left.now) c.in-len1-up.len_at_least refl (to_the_end c.first_token-len.result.1 _)
    c.first_token-len.ensures)
