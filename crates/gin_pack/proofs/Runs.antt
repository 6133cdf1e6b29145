-- Postings one behind the other: one more of them, and those that are left behind some.
use Rattle.std.proofs.Common.{◌≡◌, ℕ, suc, ◌+◌, ◌≤◌, ◌<◌, ◌^◌, List, [], ◌∷◌, ◌++◌, length, take, drop, slice_index_or, drop-cons, refl, sym, ap, subst, ◌∙◌, arith}
use Rattle.std.specs.List.{AllByRecursion, sum_by}
use Rattle.std.proofs.lemmas.List.{append_assoc, append-nil, drop-append-le, drop_all, length-drop, map-append, take-append-le, take_all}
use Rattle.std.proofs.lemmas.List.Sums.{sum_by-cons}
use Rattle.pg_bytes.specs.declared.row_ptr.RowPtr.{RowPtr}
use Rattle.gin_entry.specs.declared.entry.Entry.{Entry}
use Rattle.gin_entry.specs.EntryMap.{Posting}
use Rattle.opclass.specs.declared.types.ColType.{ColType}
use Rattle.gin_pack.specs.File.{Stored}
use Rattle.gin_pack.specs.Postings.{IsListed}
use Rattle.gin_pack.specs.Pass.Listing.{postings_in}
use Rattle.gin_pack.specs.Pass.Storing.{HasStored, IsStoring, Stores, StoresAll}
use Rattle.gin_pack.specs.declared.posting_run.PostingHead.{PostingHead}
use Rattle.gin_pack.specs.declared.store.EntryStore.{EntryStore}
use Rattle.gin_pack.proofs.Telling.{back-of}

-- how many pointers postings have
abbrev pub pointers_of : List PostingHead → ℕ
pointers_of heads = sum_by (λ head. head.count) heads

-- a posting more
pub postings_in-push : (heads : List PostingHead) (pointers more : List RowPtr) (entry : Entry) → pointers_of heads ≡ length pointers
    → postings_in (heads ++ record { entry = entry; count = length more } ∷ []) (pointers ++ more)
    ≡ postings_in heads pointers ++ record { entry = entry; pointers = more } ∷ []
postings_in-push [] [] more entry whole =
    ap (λ (l : List RowPtr). record { entry = entry; pointers = l } ∷ []) (take_all (length more) more (omega arith))
postings_in-push [] (p ∷ pointers) more entry whole = absurd (omega arith)
postings_in-push (head ∷ heads) pointers more entry whole =
    let parts = sum_by-cons (λ (h : PostingHead). h.count) head heads in
    let fits : head.count ≤ length pointers = omega arith in
    let rest : pointers_of heads ≡ length (drop head.count pointers) = omega (arith, length-drop head.count pointers) in
    let one : PostingHead = record { entry = entry; count = length more } in
    ap (λ (l : List RowPtr). record { entry = head.entry; pointers = l } ∷ postings_in (heads ++ one ∷ []) (drop head.count (pointers ++ more)))
    (take-append-le head.count pointers more fits)
    ∙ ap (λ (l : List RowPtr). record { entry = head.entry; pointers = take head.count pointers } ∷ postings_in (heads ++ one ∷ []) l)
    (drop-append-le head.count pointers more fits)
    ∙ ap (λ (l : List Posting). record { entry = head.entry; pointers = take head.count pointers } ∷ l)
    (postings_in-push heads (drop head.count pointers) more entry rest)

-- ---- how they are stored

-- a store that has stored more is one that stores
pub still-storing : (old new : EntryStore) (postings : List Posting) → IsStoring old → StoresAll old new postings → IsStoring new
still-storing old new postings storing stores =
    let made = stores old.kind storing.stored storing.has in
    record {
      stored = storing.stored ++ made.0;
      has = subst (λ (k : ColType). HasStored k (storing.stored ++ made.0) new) (sym made.2.kind_is) made.2;
    }

same-kind : (old new : EntryStore) (postings : List Posting) → IsStoring old → StoresAll old new postings → new.kind ≡ old.kind
same-kind old new postings storing stores = (stores old.kind storing.stored storing.has).2.kind_is

-- some postings of a run are stored, and these heads and pointers are left
pub record AreStored (old new : EntryStore) (run : List Posting) (heads : List PostingHead) (left : List RowPtr) : Type 0 where
  pub done : List Posting
  pub all : run ≡ done ++ postings_in heads left
  pub counted : pointers_of heads ≡ length left
  pub stored : StoresAll old new done

pub none-stored : (store : EntryStore) (run : List Posting) (heads items : List PostingHead) (pointers left : List RowPtr) → postings_in heads pointers ≡ run
    → pointers_of heads ≡ length pointers → items ≡ heads → left ≡ pointers → AreStored store store run (drop 0 items) left
none-stored store run heads items pointers left is counted same_heads same_pointers = record {
  done = [];
  all =
      sym is
      ∙ ap (λ (l : List PostingHead). postings_in l pointers) (sym same_heads)
      ∙ ap (λ (l : List RowPtr). postings_in items l) (sym same_pointers);
  counted = ap pointers_of same_heads ∙ counted ∙ sym (ap length same_pointers);
  stored = λ kind stored has. ([], refl, subst (λ (s : List Stored). HasStored kind s store) (sym (append-nil stored)) has);
}

-- the next posting may be stored
pub record CanStore (store : EntryStore) (head : PostingHead) (left : List RowPtr) : Type 0 where
  pub storing : IsStoring store
  pub fits : head.count ≤ length left
  pub listed : IsListed store.kind (record { entry = head.entry; pointers = take head.count left })
  pub few : length (take head.count left) < 2 ^ 30

next-head : (items : List PostingHead) (at : ℕ) (head : PostingHead) → at < length items → head ≡ slice_index_or items at head
    → drop at items ≡ head ∷ drop (at + 1) items
next-head items at head inside is =
    let one : suc at ≡ at + 1 = omega arith in
    drop-cons items at head inside
    ∙ ap (λ (h : PostingHead). h ∷ drop (suc at) items) (sym is)
    ∙ ap (λ (n : ℕ). head ∷ drop n items) one

pub can-store : (old new : EntryStore) (run : List Posting) (items : List PostingHead) (at : ℕ) (head : PostingHead) (left : List RowPtr)
    → AreStored old new run (drop at items) left → at < length items → head ≡ slice_index_or items at head → IsStoring old
    → AllByRecursion (IsListed old.kind) run → AllByRecursion (λ posting. length posting.pointers < 2 ^ 30) run → CanStore new head left
can-store old new run items at head left are inside is storing listed few =
    let next = next-head items at head inside is in
    let one : Posting = record { entry = head.entry; pointers = take head.count left } in
    let others : List Posting = postings_in (drop (at + 1) items) (drop head.count left) in
    let all : run ≡ are.done ++ one ∷ others = are.all ∙ ap (λ (l : List PostingHead). are.done ++ postings_in l left) next in
    let parts = sum_by-cons (λ (h : PostingHead). h.count) head (drop (at + 1) items) in
    let counted : pointers_of (head ∷ drop (at + 1) items) ≡ length left = sym (ap pointers_of next) ∙ are.counted in
    record {
      storing = still-storing old new are.done storing are.stored;
      fits = omega arith;
      listed =
          subst (λ (k : ColType). IsListed k one) (sym (same-kind old new are.done storing are.stored))
          (back-of (IsListed old.kind) are.done (one ∷ others) (subst (AllByRecursion (IsListed old.kind)) all listed)).0;
      few =
          (back-of (λ (p : Posting). length p.pointers < 2 ^ 30) are.done (one ∷ others)
          (subst (AllByRecursion (λ (p : Posting). length p.pointers < 2 ^ 30)) all few)).0;
    }

-- it is stored
pub one-stored : (old new after : EntryStore) (run : List Posting) (items : List PostingHead) (at : ℕ) (head : PostingHead) (left mine others : List RowPtr)
    → AreStored old new run (drop at items) left → at < length items → head ≡ slice_index_or items at head → mine ≡ take head.count left
    → others ≡ drop head.count left → Stores new after (record { entry = head.entry; pointers = mine }) → AreStored old after run (drop (at + 1) items) others
one-stored old new after run items at head left mine others are inside is mine_is others_is stores =
    let next = next-head items at head inside is in
    let one : Posting = record { entry = head.entry; pointers = mine } in
    let parts = sum_by-cons (λ (h : PostingHead). h.count) head (drop (at + 1) items) in
    let counted : pointers_of (head ∷ drop (at + 1) items) ≡ length left = sym (ap pointers_of next) ∙ are.counted in
    let long = ap length others_is ∙ length-drop head.count left in
    record {
      done = are.done ++ one ∷ [];
      all =
          are.all
          ∙ ap (λ (l : List PostingHead). are.done ++ postings_in l left) next
          ∙ ap (λ (l : List RowPtr). are.done ++ record { entry = head.entry; pointers = l } ∷ postings_in (drop (at + 1) items) (drop head.count left)) (sym mine_is)
          ∙ ap (λ (l : List RowPtr). are.done ++ one ∷ postings_in (drop (at + 1) items) l) (sym others_is)
          ∙ sym (append_assoc are.done (one ∷ []) (postings_in (drop (at + 1) items) others));
      counted = omega arith;
      stored = λ kind stored has.
          let made = are.stored kind stored has in
          let more = stores kind (stored ++ made.0) made.2 in
          let last : Stored = record { posting = one; apart = more.0 } in (
            made.0 ++ last ∷ [],
            map-append (λ (s : Stored). s.posting) made.0 (last ∷ []) ∙ ap (λ (l : List Posting). l ++ one ∷ []) made.1,
            subst (λ (s : List Stored). HasStored kind s after) (append_assoc stored made.0 (last ∷ [])) more.1,
          );
    }

-- all are
pub all-stored : (old new : EntryStore) (run : List Posting) (items : List PostingHead) (at : ℕ) (left : List RowPtr) → AreStored old new run (drop at items) left
    → length items ≤ at → StoresAll old new run
all-stored old new run items at left are past =
    let none : drop at items ≡ [] = drop_all at items past in
    let all : run ≡ are.done =
    are.all ∙ ap (λ (l : List PostingHead). are.done ++ postings_in l left) none ∙ append-nil are.done in
    subst (StoresAll old new) (sym all) are.stored
