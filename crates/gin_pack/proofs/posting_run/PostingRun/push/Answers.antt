use Rattle.gin_pack.proofs.Runs.{postings_in-push}
use Rattle.gin_pack.proofs.posting_run.PostingRun.push.Goals as goal

pub returns-clause-ok : goal.returns-clause-ok
returns-clause-ok c =
    rw (c.push_reserved.ensures.items, c.in_ok-extend_from_slice.ensures.items, c.in_ok-reserve.ensures.items, ← c.self.view_is)
    (postings_in-push c.self.inside.heads.items c.self.inside.ptrs.items c.args.ptrs.now c.args.entry c.self.invariant)
