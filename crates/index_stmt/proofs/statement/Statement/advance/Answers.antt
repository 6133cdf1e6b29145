use Rattle.index_stmt.proofs.Ends.{ends_text}
use Rattle.index_stmt.proofs.statement.Statement.advance.Goals as goal

pub invariant_of-self : goal.invariant_of-self
invariant_of-self c = rw c.advance.ensures (ends_text _ _ _ c.self.invariant)
