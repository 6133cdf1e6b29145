-- The rows of a page go into a sink, one by one, and the least fault of its items.
use Rattle.std.proofs.Common.{◌≡◌, ℕ, ◌+◌, ◌<◌, ◌≤◌, Bool, true, false, List, [], ◌∷◌, ◌++◌, length, take, get_or, Option, slice_get, refl, sym, ap, ap₂, subst, ◌∙◌, inl, inr, arith, All}
use Rattle.std.specs.Option.{IsSomeAnd}
use Rattle.std.proofs.lemmas.Bool.{cases_lt}
use Rattle.std.proofs.lemmas.List.{append-nil, get_or-take, get_or_default, length-append, length-take, take_all, take_more}
use Rattle.std.proofs.lemmas.List.Elements.{All-more, All-same}
use Rattle.std.proofs.lemmas.Option.{slice_get-get_or}
use Rattle.opclass.specs.declared.spec.IndexSpec.{IndexSpec}
use Rattle.opclass.specs.declared.table.Table.{Table}
use Rattle.opclass.specs.declared.types.ColType.{ColType}
use Rattle.opclass.specs.declared.value.KeyVal.{KeyVal}
use Rattle.heap_page.specs.Fault.{IsSoundPage}
use Rattle.hot_chain.specs.Roots.{AreRows, HasSoundChains, IsLive, Row}
use Rattle.heap_row.specs.declared.fault.RowFault.TheVariants.{Value}
use Rattle.shared_tape.specs.declared.stored.Record.{Record}
use Rattle.build_leader.specs.declared.scan.sink.Sink.{Sink}
use Rattle.build_leader.specs.Holding.{TakesInto}
use Rattle.build_leader.proofs.HeldRows.{takes_both, takes_none}
use Rattle.build_leader.specs.HeapRows.{HasSoundItems, IsBlockFault, OfItems}
use Rattle.build_leader.specs.declared.scan.width.WidthCause.{WidthCause}
use Rattle.build_leader.specs.declared.scan.width.WidthCause.TheVariants as width
use Rattle.build_leader.specs.IndexRow.{AreIndexRows, AreTooWide, HasItemFault, ItemCause, TooWide, Unread, index_kinds, number_of_item_cause, number_of_width_cause}
use Rattle.build_leader.specs.Reader.{IsItemFault, IsSoundItem}
use Rattle.build_leader.specs.declared.scan.block.BlockError.{BlockError}
use Rattle.build_leader.specs.declared.scan.block.BlockError.TheVariants as error
use Rattle.build_leader.specs.Scanning.{IsPageError, IsRowError, TakesRow, TakesRows}

-- ---- rows that go into a sink

module _ (table : Table) (spec : IndexSpec) (page : List ℕ) (block : ℕ) where
  index_rows_push : (rows : List Row) (row : Row) (records : List Record) → AreIndexRows table spec page block rows records
      → (last : List Record) → AreIndexRows table spec page block (row ∷ []) last
      → AreIndexRows table spec page block (rows ++ row ∷ []) (records ++ last)
  index_rows_push [] row records are last is =
      subst (λ (all : List Record). AreIndexRows table spec page block (row ∷ []) all) (ap (λ front. front ++ last) (sym are)) is
  index_rows_push (first ∷ rows) row records (inl out) last is =
      inl (out.0, index_rows_push rows row records out.1 last is)
  index_rows_push (first ∷ rows) row records (inr has) last is =
      inr (has.0, (has.1.0 ++ last, ap (λ front. front ++ last) has.1.1, has.1.2, index_rows_push rows row has.1.0 has.1.3 last is))

  -- none at the start
  pub none_taken : (rows : List Row) (sink : Sink) → TakesRows table spec page block (take 0 rows) sink 0 sink
  none_taken rows sink = record { records = []; are = refl; counted = refl; took = takes_none spec sink }

  takes_push : (rows : List Row) (row : Row) (old mid new : Sink) (count : ℕ) (put : Bool)
      → TakesRows table spec page block rows old count mid → TakesRow table spec page block row mid put new
      → TakesRows table spec page block (rows ++ row ∷ []) old (elim put [ true ↦ count + 1 | false ↦ count ]) new
  takes_push rows row old mid new count false before step = record {
    records = before.records ++ [];
    are = index_rows_push rows row before.records before.are [] (inl (step.0, refl));
    counted = before.counted ∙ ap length (sym (append-nil before.records));
    took =
        subst (λ (sink : Sink). TakesInto spec old (before.records ++ []) sink) (sym step.1)
        (subst (λ (all : List Record). TakesInto spec old all mid) (sym (append-nil before.records)) before.took);
  }
  takes_push rows row old mid new count true before step =
      let first = step.0 in
      let longer = length-append before.records (first ∷ []) in
      let counted = before.counted in
      record {
        records = before.records ++ first ∷ [];
        are = index_rows_push rows row before.records before.are (first ∷ []) (inr (first, ([], refl, step.1, refl)));
        counted = omega arith;
        took = takes_both spec old mid new before.records (first ∷ []) before.took step.2;
      }

  -- the row with this item and this root
  is_row : (rows : List Row) (i item root : ℕ) (d : Row) → i < length rows
      → IsSomeAnd (slice_get rows i) (λ (row : Row). row.item ≡ item) → IsSomeAnd (slice_get rows i) (λ (row : Row). row.root ≡ root)
      → get_or rows i d ≡ record { item = item; root = root }
  is_row rows i item root d inside one other =
      let there = slice_get-get_or rows i d inside in
      let P : Option Row → Type 0 = λ o. IsSomeAnd o (λ row. row.item ≡ item) in
      let Q : Option Row → Type 0 = λ o. IsSomeAnd o (λ row. row.root ≡ root) in
      ap₂ (λ (n m : ℕ). record { item = n; root = m }) (subst P there one) (subst Q there other)

  no_row : Row
  no_row = record { item = 0; root = 0 }

  pub row_is_live : (rows : List Row) (i item : ℕ) → AreRows page rows → i < length rows
      → IsSomeAnd (slice_get rows i) (λ (row : Row). row.item ≡ item) → IsLive page item
  row_is_live rows i item are inside one =
      let there = slice_get-get_or rows i no_row inside in
      let P : Option Row → Type 0 = λ o. IsSomeAnd o (λ row. row.item ≡ item) in
      subst (λ (n : ℕ). IsLive page n) (subst P there one) (are.each i no_row inside).0

  pub takes_more : (rows : List Row) (i item root : ℕ) (old mid new : Sink) (count : ℕ) (put : Bool) → i < length rows
      → IsSomeAnd (slice_get rows i) (λ (row : Row). row.item ≡ item) → IsSomeAnd (slice_get rows i) (λ (row : Row). row.root ≡ root)
      → TakesRows table spec page block (take i rows) old count mid
      → TakesRow table spec page block (record { item = item; root = root }) mid put new
      → TakesRows table spec page block (take (i + 1) rows) old (elim put [ true ↦ count + 1 | false ↦ count ]) new
  takes_more rows i item root old mid new count put inside one other before step =
      let row : Row = record { item = item; root = root } in
      let longer : take (i + 1) rows ≡ take i rows ++ row ∷ [] =
      take_more rows i no_row inside ∙ ap (λ (r : Row). take i rows ++ r ∷ []) (is_row rows i item root no_row inside one other) in
      subst (λ (front : List Row). TakesRows table spec page block front old (elim put [ true ↦ count + 1 | false ↦ count ]) new) (sym longer)
      (takes_push (take i rows) row old mid new count put before step)

-- ---- the least fault of a page's items

module _ (table : Table) (spec : IndexSpec) (page : List ℕ) where
  -- the items of these rows have no fault
  abbrev pub AreSoundRows : List Row → Type 0
  AreSoundRows rows = All (λ (row : Row). IsSoundItem table spec page row.item) rows

  pub sound_more : (rows : List Row) (i item : ℕ) → i < length rows → IsSomeAnd (slice_get rows i) (λ (row : Row). row.item ≡ item)
      → AreSoundRows (take i rows) → IsSoundItem table spec page item → AreSoundRows (take (i + 1) rows)
  sound_more rows i item inside one before sound =
      let d : Row = record { item = 0; root = 0 } in
      let there = slice_get-get_or rows i d inside in
      let P : Option Row → Type 0 = λ o. IsSomeAnd o (λ row. row.item ≡ item) in
      All-more (λ (row : Row). IsSoundItem table spec page row.item) rows i d inside before
      (subst (λ (n : ℕ). IsSoundItem table spec page n) (sym (subst P there one)) sound)

  live_fault : (item : ℕ) (cause : ItemCause) → HasItemFault table spec page item cause → IsLive page item
  live_fault item (Unread cause) fault = fault.0
  live_fault item (TooWide cause) fault = fault.0

  pub all_sound : (rows : List Row) (i : ℕ) → AreRows page rows → length rows ≤ i → AreSoundRows (take i rows)
      → HasSoundItems table spec page
  all_sound rows i are past sound item cause fault =
      let whole = All-same (λ (row : Row). IsSoundItem table spec page row.item) rows (take i rows) (sym (take_all i rows past)) sound in
      let place = are.all item (live_fault item cause fault) in
      let S : ℕ → Type 0 = λ n. IsSoundItem table spec page n in
      let R : Row → Type 0 = λ row. IsSoundItem table spec page row.item in
      subst S place.4 (subst R place.3 (whole place.0 place.1 place.2)) cause fault

  -- an index asks for one width
  one_width : (kinds others : List ColType) (values more : List KeyVal) (a b : WidthCause) → AreTooWide a spec kinds values
      → AreTooWide b spec others more → number_of_width_cause a ≡ number_of_width_cause b
  one_width kinds others values more width.Tuple width.Tuple x y = refl
  one_width kinds others values more width.Tuple width.Entry x y =
      let tree = x.0 in
      let gin = y.0 in
      cc
  one_width kinds others values more width.Entry width.Tuple x y =
      let gin = x.0 in
      let tree = y.0 in
      cc
  one_width kinds others values more width.Entry width.Entry x y = refl

  -- an item has one cause
  one_cause : (item : ℕ) (a b : ItemCause) → HasItemFault table spec page item a → HasItemFault table spec page item b
      → number_of_item_cause a ≡ number_of_item_cause b
  one_cause item (Unread a) (Unread b) x y =
      let one = x.1 in
      let other = y.1 in
      let same : a ≡ b = cc in
      ap (λ cause. number_of_item_cause (Unread cause)) same
  one_cause item (Unread a) (TooWide b) x y =
      let err = x.1 in
      let ok = y.1.2.read in
      cc
  one_cause item (TooWide a) (Unread b) x y =
      let err = y.1 in
      let ok = x.1.2.read in
      cc
  one_cause item (TooWide a) (TooWide b) x y =
      let kinds = index_kinds table spec in
      one_width kinds kinds (x.1.0 ++ x.1.1) (y.1.0 ++ y.1.1) a b x.1.3 y.1.3

  -- the first row with a fault has the least
  pub first_item_fault : (rows : List Row) (i item number : ℕ) → IsSoundPage page (length table.columns) → HasSoundChains page
      → AreRows page rows → i < length rows → IsSomeAnd (slice_get rows i) (λ (row : Row). row.item ≡ item)
      → AreSoundRows (take i rows) → IsItemFault table spec page item (Value number) → IsBlockFault table spec page item number
  first_item_fault rows i item number sound chains are inside one before fault =
      let d : Row = record { item = 0; root = 0 } in
      let there = slice_get-get_or rows i d inside in
      let P : Option Row → Type 0 = λ o. IsSomeAnd o (λ row. row.item ≡ item) in
      let here : (get_or rows i d).item ≡ item = subst P there one in
      OfItems sound chains (record {
        cause = fault.0;
        told = fault.2;
        there = fault.1;
        least = λ other its has.
            let place = are.all other (live_fault other its has) in
            let k : ℕ = place.0 in
            let at_k : get_or rows k place.1 ≡ place.1 = place.3 in
            elim (cases_lt k i) [
              | inl earlier ↦
                  let S : ℕ → Type 0 = λ n. IsSoundItem table spec page n in
                  let R : Row → Type 0 = λ row. IsSoundItem table spec page row.item in
                  let taken = before k place.1 (let e = length-take i rows in omega arith) in
                  absurd (subst S place.4 (subst R (get_or-take i rows k place.1 earlier ∙ at_k) taken) its has)
              | inr later ↦ elim (cases_lt i k) [
                | inl behind ↦
                    let up = are.ascending i k d behind place.2 in
                    let same : (get_or rows k d).item ≡ other = ap (λ (row : Row). row.item) (get_or_default rows k d place.1 place.2 ∙ at_k) ∙ place.4 in
                    inl (omega (arith, up, same, here))
                | inr not_behind ↦
                    let same_place : k ≡ i = omega arith in
                    let item_k : (get_or rows k d).item ≡ other = ap (λ (row : Row). row.item) (get_or_default rows k d place.1 place.2 ∙ at_k) ∙ place.4 in
                    let same : item ≡ other = sym here ∙ ap (λ (n : ℕ). (get_or rows n d).item) (sym same_place) ∙ item_k in
                    let one' = one_cause other fault.0 its (subst (λ (n : ℕ). HasItemFault table spec page n fault.0) same fault.1) has in
                    let told = fault.2 in
                    inr (same, omega arith)
              ]
            ];
      })

  -- why a row isn't taken is why the page isn't
  pub page_error : (rows : List Row) (i item : ℕ) (failed : BlockError) → IsSoundPage page (length table.columns) → HasSoundChains page
      → AreRows page rows → i < length rows → IsSomeAnd (slice_get rows i) (λ (row : Row). row.item ≡ item)
      → AreSoundRows (take i rows) → IsRowError table spec page item failed → IsPageError table spec page failed
  page_error rows i item (error.Fault number cause) sound chains are inside one before told =
      subst (λ (n : ℕ). IsBlockFault table spec page n cause) (sym told.0)
      (first_item_fault rows i item cause sound chains are inside one before told.1)
  page_error rows i item error.Memory sound chains are inside one before told = tt
