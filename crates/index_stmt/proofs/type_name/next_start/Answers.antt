use Rattle.std.proofs.Common.{◌∙◌, refl}
use Rattle.index_stmt.proofs.TypeWords.{starts}
use Rattle.index_stmt.proofs.type_name.next_start.Goals as goal

pub returns : goal.returns
returns c = c.start_among.ensures ∙ starts _ c.args.statement.now.tokens refl
