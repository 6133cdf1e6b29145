-- The records of an array, as they are put one by one.
use Rattle.std.proofs.Common.{◌≡◌, ℕ, ◌+◌, ◌<◌, List, [], ◌∷◌, ◌++◌, map, length, take, get_or, sym, ap, subst, ◌∙◌, append_assoc, append-nil, refl, arith, Bor}
use Rattle.std.specs.List.Sorted.{IsPermutation}
use Rattle.std.proofs.lemmas.List.{map-append}
use Rattle.std.proofs.lemmas.List.{get_or-map, length-map, take_more}
use Rattle.std.proofs.lemmas.List.Elements.{All-get_or}
use Rattle.std.proofs.lemmas.List.Sorted.{IsPermutation-append_left, IsPermutation-refl, IsPermutation-trans}
use Rattle.pg_bytes.specs.declared.row_ptr.RowPtr.{RowPtr}
use Rattle.opclass.specs.declared.value.Elem.{Elem}
use Rattle.gin_entry.specs.Entries.{distinct, elements_of, entry_of}
use Rattle.gin_entry.specs.EntryOrder.{entry_order}
use Rattle.shared_tape.specs.declared.stored.Record.{Record}
use Rattle.shared_tape.specs.Stored.{IsStorable}
use Rattle.spool.specs.Gathers.{AreStorable, element_records, entry_record}
use Rattle.spool.specs.Pass.{IsReady, Takes}
use Rattle.spool.specs.declared.entry_spool.EntrySpool.{EntrySpool}

-- the records of borrowed elements
abbrev pub records_of_elements : RowPtr → List (Bor Elem) → List Record
records_of_elements ptr list = map (entry_record ptr) (map entry_of (elements_of list))

record_at : (ptr : RowPtr) (list : List (Bor Elem)) (k : ℕ) (d : Bor Elem) (d' : Record) → k < length list
    → get_or (records_of_elements ptr list) k d' ≡ entry_record ptr (entry_of (get_or list k d).now)
record_at ptr list k d d' inside =
    let of_now : length (elements_of list) ≡ length list = length-map list (λ (e : Bor Elem). e.now) in
    let of_entry : length (map entry_of (elements_of list)) ≡ length (elements_of list) = length-map (elements_of list) entry_of in
    get_or-map (entry_record ptr) (map entry_of (elements_of list)) k (entry_of d.now) d' (omega arith)
    ∙ ap (entry_record ptr) (get_or-map entry_of (elements_of list) k d.now (entry_of d.now) (omega arith))
    ∙ ap (λ (e : Elem). entry_record ptr (entry_of e)) (get_or-map (λ (e : Bor Elem). e.now) list k d d.now inside)

-- the record of each distinct element of an array can be stored
pub element_storable : (ptr : RowPtr) (elements : List Elem) (list : List (Bor Elem)) (k : ℕ) (e : Bor Elem)
    → elements_of list ≡ distinct elements → AreStorable (element_records elements ptr) → k < length list → e ≡ get_or list k e
    → IsStorable entry_order (entry_record ptr (entry_of e.now))
element_storable ptr elements list k e are storable inside is =
    let each : AreStorable (records_of_elements ptr list) =
    subst (λ (of : List Elem). AreStorable (map (entry_record ptr) (map entry_of of))) (sym are) storable in
    let size : length (records_of_elements ptr list) ≡ length list =
    length-map (map entry_of (elements_of list)) (entry_record ptr)
    ∙ length-map (elements_of list) entry_of ∙ length-map list (λ (b : Bor Elem). b.now) in
    let first : Record = entry_record ptr (entry_of e.now) in
    subst (IsStorable entry_order)
    (record_at ptr list k e first inside ∙ ap (λ (b : Bor Elem). entry_record ptr (entry_of b.now)) (sym is))
    (All-get_or (IsStorable entry_order) (records_of_elements ptr list) k first (omega arith) each)

-- the records of one element more
records_more : (ptr : RowPtr) (list : List (Bor Elem)) (k : ℕ) (e : Bor Elem) → k < length list → e ≡ get_or list k e
    → records_of_elements ptr (take (k + 1) list) ≡ records_of_elements ptr (take k list) ++ entry_record ptr (entry_of e.now) ∷ []
records_more ptr list k e inside is =
    ap (records_of_elements ptr) (take_more list k e inside ∙ ap (λ (b : Bor Elem). take k list ++ b ∷ []) (sym is))
    ∙ ap (λ (of : List Elem). map (entry_record ptr) (map entry_of of)) (map-append (λ (b : Bor Elem). b.now) (take k list) (e ∷ []))
    ∙ ap (map (entry_record ptr)) (map-append entry_of (elements_of (take k list)) (e.now ∷ []))
    ∙ map-append (entry_record ptr) (map entry_of (elements_of (take k list))) (entry_of e.now ∷ [])

-- no records were put
pub none_taken : (entries : EntrySpool) → IsReady entries → Takes entries [] entries
none_taken entries ready = record {
  ready = ready;
  run_rows = refl;
  ptr = refl;
  taken =
      subst (λ (rows : List Record). IsPermutation rows entries.spool.records) (sym (append-nil entries.spool.records))
      (IsPermutation-refl entries.spool.records);
}

-- records and then more were put
pub more_taken : (old middle new : EntrySpool) (rows more : List Record) → Takes old rows middle → Takes middle more new → Takes old (rows ++ more) new
more_taken old middle new rows more first then = record {
  ready = then.ready;
  run_rows = then.run_rows ∙ first.run_rows;
  ptr = then.ptr ∙ first.ptr;
  taken =
      subst (λ (all : List Record). IsPermutation all new.spool.records) (append_assoc old.spool.records rows more)
      (IsPermutation-trans ((old.spool.records ++ rows) ++ more) (middle.spool.records ++ more) new.spool.records
      (IsPermutation-append_left more (old.spool.records ++ rows) middle.spool.records first.taken) then.taken);
}

pub element_taken : (ptr : RowPtr) (list : List (Bor Elem)) (k : ℕ) (e : Bor Elem) (old middle new : EntrySpool) → old.row.ptr ≡ ptr
    → k < length list → e ≡ get_or list k e → Takes old (records_of_elements ptr (take k list)) middle
    → Takes middle (entry_record middle.row.ptr (entry_of e.now) ∷ []) new → Takes old (records_of_elements ptr (take (k + 1) list)) new
element_taken ptr list k e old middle new same inside is first then =
    subst (λ (rows : List Record). Takes old rows new) (sym (records_more ptr list k e inside is))
    (more_taken old middle new _ _ first
    (subst (λ (p : RowPtr). Takes middle (entry_record p (entry_of e.now) ∷ []) new) (first.ptr ∙ same) then))
