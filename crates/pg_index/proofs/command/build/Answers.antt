use Rattle.std.proofs.Common.{List, ℕ, Ok, refl, subst, rules}
use Rattle.std.proofs.lemmas.Result.{err_from_is_err_and}
use Rattle.pg_files.specs.Outside.{Outside}
use Rattle.pg_index.proofs.Ending.{asked_is, builds, cut_after, delivered_after, delivery_is, ends_refused, ends_unasked, ends_unread}
use Rattle.pg_index.specs.Calls.BuiltIndex.{IsHeapFault, IsIndexOf, made_of}
use Rattle.pg_index.specs.IndexFile.{Delivery, IsCutShort, IsDelivered}
use Rattle.pg_index.specs.Outcome.{Asks, Usage}
use Rattle.pg_index.specs.Run.{Built, Cut, Refused}
use Rattle.pg_index.specs.Words.{texts_of}
use Rattle.pg_index.proofs.command.build.Goals as goal

pub returns-in-Err-clause-err : goal.returns-in-Err-clause-err
returns-in-Err-clause-err g c = Refused (Usage c.in-Err.word) c.in-Err.ensures.refused refl refl (search rules) refl

pub returns-in_err-asked-clause-err : goal.returns-in_err-asked-clause-err
returns-in_err-asked-clause-err g c =
    let p = err_from_is_err_and c.from_residual.result c.from_residual.ensures.1 in
    rw (p.1, p.2)
    (ends_unasked (texts_of c.args.words.now) c.in-Ok.words.table_statement.now c.in-Ok.words.index_statement.now _ _ c.in_err-asked.field-0.0
    c.in-Ok.ensures.grammar c.in-Ok.ensures.table_statement c.in-Ok.ensures.index_statement c.in_err-asked.ensures.read (search rules))

pub returns-in_err-heap-clause-err : goal.returns-in_err-heap-clause-err
returns-in_err-heap-clause-err g c =
    let words : List (List ℕ) = texts_of c.args.words.now in
    let read = asked_is words c.in-Ok.words.table_statement.now c.in-Ok.words.index_statement.now (Ok c.in_ok-asked.asked) c.in-Ok.ensures.table_statement c.in-Ok.ensures.index_statement c.in_ok-asked.ensures.read in
    let p = err_from_is_err_and c.from_residual-in_err-heap.result c.from_residual-in_err-heap.ensures.1 in
    rw (p.1, p.2)
    (ends_unread words _ _ c.in_ok-asked.asked c.in_err-heap.field-0.0 (c.in-Ok.ensures.grammar, read) c.in_err-heap.ensures.only)

pub returns-in_err-index-clause-err : goal.returns-in_err-index-clause-err
returns-in_err-index-clause-err g c =
    let words : List (List ℕ) = texts_of c.args.words.now in
    let read = asked_is words c.in-Ok.words.table_statement.now c.in-Ok.words.index_statement.now (Ok c.in_ok-asked.asked) c.in-Ok.ensures.table_statement c.in-Ok.ensures.index_statement c.in_ok-asked.ensures.read in
    let asks : Asks words c.in_ok-asked.asked = (c.in-Ok.ensures.grammar, read) in
    let p = err_from_is_err_and c.from_residual-in_err-index.result c.from_residual-in_err-index.ensures.1 in
    let fault = c.in_err-index.field-0.0 in
    let P : List ℕ → Type 0 = λ heap. IsHeapFault c.in_ok-asked.asked heap fault in
    rw (p.1, p.2)
    (ends_refused words c.in-Ok.words.heap.now c.in_ok-heap.heap.items (g.F.Files.outside c.args.files.now) (g.F.Files.outside c.read_heap.new.files) c.in_ok-asked.asked fault
    c.in-Ok.ensures.heap asks c.in_ok-heap.ensures.bytes (subst P c.deref.ensures.value c.in_err-index.ensures.refused) c.in_ok-heap.ensures.only)

pub returns-in_err-deliver-clause-err : goal.returns-in_err-deliver-clause-err
returns-in_err-deliver-clause-err g c =
    let words : List (List ℕ) = texts_of c.args.words.now in
    let read = asked_is words c.in-Ok.words.table_statement.now c.in-Ok.words.index_statement.now (Ok c.in_ok-asked.asked) c.in-Ok.ensures.table_statement c.in-Ok.ensures.index_statement c.in_ok-asked.ensures.read in
    let asks : Asks words c.in_ok-asked.asked = (c.in-Ok.ensures.grammar, read) in
    let p = err_from_is_err_and c.from_residual-in_err-deliver.result c.from_residual-in_err-deliver.ensures.1 in
    let old : Outside = g.F.Files.outside c.args.files.now in
    let mid : Outside = g.F.Files.outside c.read_heap.new.files in
    let new : Outside = g.F.Files.outside c.deliver.new.files in
    let asked = c.in_ok-asked.asked in
    let manner = c.manner.result in
    let index = c.in_ok-index.index in
    let P : List ℕ → Type 0 = λ heap. IsIndexOf asked manner heap index in
    let built = subst P c.deref.ensures.value c.in_ok-index.ensures.built in
    let did = builds words c.in-Ok.words.heap.now c.in_ok-heap.heap.items old asked manner index c.in-Ok.ensures.heap (search rules) asks c.in_ok-asked.ensures.index c.in_ok-heap.ensures.bytes built in
    let is = delivery_is words c.in_ok-heap.heap.items asked manner index c.in-Ok.words.index.now c.bytes.result.now c.as_bytes.result.now c.in-Ok.ensures.index (search rules) built c.bytes.ensures c.as_bytes.ensures.value in
    let Q : Delivery → Type 0 = λ delivered. IsCutShort delivered old new in
    rw (p.1, p.2)
    (Cut asked (made_of c.in_ok-heap.heap.items index built.taken) did refl (subst Q is (cut_after _ old mid new c.in_ok-heap.ensures.only c.in_err-deliver.ensures.cut)) refl)

pub returns-clause-ok : goal.returns-clause-ok
returns-clause-ok g c =
    let words : List (List ℕ) = texts_of c.args.words.now in
    let read = asked_is words c.in-Ok.words.table_statement.now c.in-Ok.words.index_statement.now (Ok c.in_ok-asked.asked) c.in-Ok.ensures.table_statement c.in-Ok.ensures.index_statement c.in_ok-asked.ensures.read in
    let asks : Asks words c.in_ok-asked.asked = (c.in-Ok.ensures.grammar, read) in
    let old : Outside = g.F.Files.outside c.args.files.now in
    let mid : Outside = g.F.Files.outside c.read_heap.new.files in
    let new : Outside = g.F.Files.outside c.deliver.new.files in
    let asked = c.in_ok-asked.asked in
    let manner = c.manner.result in
    let index = c.in_ok-index.index in
    let P : List ℕ → Type 0 = λ heap. IsIndexOf asked manner heap index in
    let built = subst P c.deref.ensures.value c.in_ok-index.ensures.built in
    let did = builds words c.in-Ok.words.heap.now c.in_ok-heap.heap.items old asked manner index c.in-Ok.ensures.heap (search rules) asks c.in_ok-asked.ensures.index c.in_ok-heap.ensures.bytes built in
    let is = delivery_is words c.in_ok-heap.heap.items asked manner index c.in-Ok.words.index.now c.bytes.result.now c.as_bytes.result.now c.in-Ok.ensures.index (search rules) built c.bytes.ensures c.as_bytes.ensures.value in
    let Q : Delivery → Type 0 = λ delivered. IsDelivered delivered old new in
    Built asked (made_of c.in_ok-heap.heap.items index built.taken) did refl (subst Q is (delivered_after _ old mid new c.in_ok-heap.ensures.only c.in_ok-deliver.ensures.done)) built.told
