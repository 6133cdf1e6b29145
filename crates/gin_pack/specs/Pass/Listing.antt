-- Postings one behind the other: their heads, and the pointers of all.
use Rattle.std.specs.Prelude.{List, [], ◌∷◌, take, drop}
use Rattle.pg_bytes.specs.declared.row_ptr.RowPtr.{RowPtr}
use Rattle.gin_entry.specs.EntryMap.{Posting}
use Rattle.gin_pack.specs.declared.posting_run.PostingHead.{PostingHead}

-- each has as many of the pointers as its head says, behind those of the postings before
abbrev pub postings_in : List PostingHead → List RowPtr → List Posting
postings_in [] pointers = []
postings_in (head ∷ heads) pointers =
    record { entry = head.entry; pointers = take head.count pointers } ∷ postings_in heads (drop head.count pointers)
