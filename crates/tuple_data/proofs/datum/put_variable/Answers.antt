use Rattle.std.proofs.Common.{◌≡◌, ◌-◌, List, ℕ, ◌++◌, length, OnOk, sym, subst}
use Rattle.tuple_data.proofs.Pieces.{stored_at-short}
use Rattle.tuple_data.proofs.datum.put_variable.Goals as goal

pub returns-then-bytes-le-SHORT_MOST-clause-ok : goal.returns-then-bytes-le-SHORT_MOST-clause-ok
returns-then-bytes-le-SHORT_MOST-clause-ok c =
    let Puts : List ℕ → Type 0 = λ bytes. OnOk c.put_short.result (c.put_short.new.out.items ≡ c.args.out.now.items ++ bytes) in
    subst Puts (sym (stored_at-short (length c.args.out.now.items - c.args.start) c.args.bytes.now c.if-bytes-le-SHORT_MOST.true)) c.put_short.ensures.ok
