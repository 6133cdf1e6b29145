use Rattle.std.proofs.Common.{◌≡◌, ◌<◌, false, length, get_or, rules}
use Rattle.hot_chain.specs.Roots.{IsLive}
use Rattle.hot_chain.specs.Pass.Rows.{IsInIndex}
use Rattle.hot_chain.proofs.Rows.{rows_add, rows_skip, fault_shared}
use Rattle.hot_chain.proofs.find.add_row.Goals as goal

pub returns-then-not-is_live-clause-ok : goal.returns-then-not-is_live-clause-ok
returns-then-not-is_live-clause-ok c = rows_skip _ _ _ _ c.requires.done (search rules)

pub returns-then-in_index-from-clause-err : goal.returns-then-in_index-from-clause-err
returns-then-in_index-from-clause-err c =
    let live : IsLive c.args.view.now.bytes c.args.item = search rules in
    let shared : IsInIndex c.args.in_index.now c.in-Some.root = search rules in
    rw c.of-then-in_index-from.ensures
    (fault_shared _ _ _ _ c.requires.done c.in-Some.root live (search rules) shared)

pub returns-clause-ok : goal.returns-clause-ok
returns-clause-ok c =
    let live : IsLive c.args.view.now.bytes c.args.item = search rules in
    let free : get_or c.args.in_index.now c.in-Some.root false ≡ false = search rules in
    let inside : c.in-Some.root < length c.args.in_index.now = search rules in
    rw (c.in_ok-push.ensures, c.from-2.ensures)
    (rows_add _ _ _ _ c.requires.done c.in-Some.root live (search rules) free inside)
