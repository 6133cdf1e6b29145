-- The deltas that bytes are to their end are those of one list of pointers.
use Rattle.std.proofs.Common.{◌≡◌, ℕ, ◌-◌, ◌^◌, ◌<◌, ◌≤◌, List, [], ◌∷◌, ◌++◌, length, refl, sym, ap, subst, ◌∙◌, arith, length-append}
use Rattle.std.proofs.lemmas.List.{append-nil, append_assoc}
use Rattle.pg_bytes.specs.declared.row_ptr.RowPtr.{RowPtr}
use Rattle.posting_tree.proofs.ReadVarbytes.{varbyte-one, varbyte-some}
use Rattle.posting_tree.specs.Pass.{AreBehind, AreDeltasOf, DeltasLead, IsPointerBehind, ReadsDeltas, StartsWithDelta, last_number}
use Rattle.posting_tree.specs.Segments.{IsStorable, deltas_behind, number_of, varbyte}

-- storable pointers with one number are one
pub number-one : (p q : RowPtr) → IsStorable p → IsStorable q → number_of p ≡ number_of q → p ≡ q
number-one p q sp sq same =
    let a = sp.below in
    let b = sq.below in
    let block : p.block ≡ q.block = omega arith in
    let offset : p.offset ≡ q.offset = omega arith in
    λ i. record { block = block i; offset = offset i }

-- ---- what bytes that aren't none begin with

-- no deltas are no bytes
some-delta : (number : ℕ) (byte : ℕ) (bytes : List ℕ) (all : List RowPtr) → AreDeltasOf number (byte ∷ bytes) all
    → (ptr : RowPtr) × (rest : List RowPtr) × (all ≡ ptr ∷ rest)
some-delta number byte bytes [] d = let e = d.bytes_are in cc
some-delta number byte bytes (ptr ∷ rest) d = (ptr, rest, refl)

small-delta : (number : ℕ) (ptr : RowPtr) → IsStorable ptr → ptr.block < 2 ^ 32 → number_of ptr - number < 2 ^ 49
small-delta number ptr s block = let a = s.below in omega arith

-- the first delta of pointers behind a number
pub first-delta : (number : ℕ) (bytes : List ℕ) (ptr : RowPtr) (rest : List RowPtr) → AreDeltasOf number bytes (ptr ∷ rest)
    → StartsWithDelta bytes (number_of ptr - number) (deltas_behind (number_of ptr) rest)
first-delta number bytes ptr rest d = record {
  fits = small-delta number ptr d.behind.0 d.behind.1;
  bytes_are = d.bytes_are;
}

pub rest-deltas : (number : ℕ) (bytes : List ℕ) (ptr : RowPtr) (rest : List RowPtr) → AreDeltasOf number bytes (ptr ∷ rest)
    → AreDeltasOf (number_of ptr) (deltas_behind (number_of ptr) rest) rest
rest-deltas number bytes ptr rest d = record { behind = d.behind.2.1; bytes_are = refl }

-- where the bytes begin with a delta, it is the first pointer's
pub told-delta : (number x : ℕ) (bytes left : List ℕ) (ptr : RowPtr) (rest : List RowPtr) → AreDeltasOf number bytes (ptr ∷ rest)
    → StartsWithDelta bytes x left → (x ≡ number_of ptr - number) × (left ≡ deltas_behind (number_of ptr) rest)
told-delta number x bytes left ptr rest d s =
    varbyte-one x (number_of ptr - number) left (deltas_behind (number_of ptr) rest) s.fits (small-delta number ptr d.behind.0 d.behind.1)
    (sym s.bytes_are ∙ d.bytes_are)

-- ---- the refusals

NoDeltas : ℕ → List ℕ → Type 0
NoDeltas number bytes = (all : List RowPtr) → AreDeltasOf number bytes all → ⊥

pub no-delta : (number : ℕ) (bytes : List ℕ) → 0 < length bytes → ((x : ℕ) (left : List ℕ) → StartsWithDelta bytes x left → ⊥)
    → (all : List RowPtr) → AreDeltasOf number bytes all → ⊥
no-delta number bytes some none [] d = let e = ap length d.bytes_are in absurd (omega arith)
no-delta number bytes some none (ptr ∷ rest) d = none (number_of ptr - number) (deltas_behind (number_of ptr) rest) (first-delta number bytes ptr rest d)

pub zero-delta : (number x : ℕ) (bytes left : List ℕ) → 0 < length bytes → StartsWithDelta bytes x left → x ≡ 0
    → (all : List RowPtr) → AreDeltasOf number bytes all → ⊥
zero-delta number x bytes left some s is [] d = let e = ap length d.bytes_are in absurd (omega arith)
zero-delta number x bytes left some s is (ptr ∷ rest) d =
    let told = (told-delta number x bytes left ptr rest d s).0 in
    let above = d.behind.2.0 in
    absurd (omega arith)

pub no-pointer : (number x : ℕ) (bytes left : List ℕ) → 0 < length bytes → StartsWithDelta bytes x left
    → ((ptr : RowPtr) → IsPointerBehind number x ptr → ⊥) → (all : List RowPtr) → AreDeltasOf number bytes all → ⊥
no-pointer number x bytes left some s none [] d = let e = ap length d.bytes_are in absurd (omega arith)
no-pointer number x bytes left some s none (ptr ∷ rest) d =
    let told = (told-delta number x bytes left ptr rest d s).0 in
    let above = d.behind.2.0 in
    none ptr (record { storable = d.behind.0; block = d.behind.1; number_is = omega arith })

-- ---- one delta more

pub lead-start : (number : ℕ) (bytes : List ℕ) → DeltasLead number bytes number bytes []
lead-start number bytes = record {
  gives = λ rest d. d;
  needs = λ all d. (all, refl, d);
  last = refl;
}

last-more : (number : ℕ) (got : List RowPtr) (ptr : RowPtr) → last_number number (got ++ ptr ∷ []) ≡ number_of ptr
last-more number [] ptr = refl
last-more number (first ∷ got) ptr = last-more (number_of first) got ptr

-- a delta in front of others
one-delta : (number x new : ℕ) (bytes left : List ℕ) (ptr : RowPtr) (rest : List RowPtr) → StartsWithDelta bytes x left → 0 < x
    → IsPointerBehind number x ptr → new ≡ number_of ptr → AreDeltasOf new left rest → AreDeltasOf number bytes (ptr ∷ rest)
one-delta number x new bytes left ptr rest s some p is d =
    let number_is = p.number_is in
    let gap : number_of ptr - number ≡ x = omega arith in
    record {
      behind = (p.storable, p.block, (let e = number_is in omega arith, subst (λ (n : ℕ). AreBehind n rest) is d.behind));
      bytes_are = s.bytes_are
          ∙ ap (λ (n : ℕ). varbyte n ++ left) (sym gap)
          ∙ ap (λ (l : List ℕ). varbyte (number_of ptr - number) ++ l) (d.bytes_are ∙ ap (λ (n : ℕ). deltas_behind n rest) is);
    }

-- whatever the list is, it begins with this pointer
same-delta : (number x new : ℕ) (bytes left : List ℕ) (ptr : RowPtr) (all : List RowPtr) → 0 < length bytes → StartsWithDelta bytes x left
    → IsPointerBehind number x ptr → new ≡ number_of ptr → AreDeltasOf number bytes all
    → (rest : List RowPtr) × (all ≡ ptr ∷ rest) × AreDeltasOf new left rest
same-delta number x new bytes left ptr [] some s p is d = let e = ap length d.bytes_are in absurd (omega arith)
same-delta number x new bytes left ptr (first ∷ rest) some s p is d =
    let told = told-delta number x bytes left first rest d s in
    let gap = told.0 in
    let above = d.behind.2.0 in
    let number_is = p.number_is in
    let one : first ≡ ptr = number-one first ptr d.behind.0 p.storable (omega arith) in
    let at : number_of first ≡ new = ap number_of one ∙ sym is in (
      rest,
      ap (λ (q : RowPtr). q ∷ rest) one,
      record {
        behind = subst (λ (n : ℕ). AreBehind n rest) at d.behind.2.1;
        bytes_are = told.1 ∙ ap (λ (n : ℕ). deltas_behind n rest) at;
      },
    )

pub lead-more : (number last x new : ℕ) (bytes now left : List ℕ) (got : List RowPtr) (ptr : RowPtr) → DeltasLead number bytes last now got
    → 0 < length now → StartsWithDelta now x left → 0 < x → IsPointerBehind last x ptr → new ≡ number_of ptr
    → DeltasLead number bytes new left (got ++ ptr ∷ [])
lead-more number last x new bytes now left got ptr l some s positive p is = record {
  gives = λ rest d. subst (AreDeltasOf number bytes) (sym (append_assoc got (ptr ∷ []) rest))
      (l.gives (ptr ∷ rest) (one-delta last x new now left ptr rest s positive p is d));
  needs = λ all d.
      let before = l.needs all d in
      let step = same-delta last x new now left ptr before.0 some s p is before.2 in
      (step.0, before.1 ∙ ap (λ (r : List RowPtr). got ++ r) step.1 ∙ sym (append_assoc got (ptr ∷ []) step.0), step.2);
  last = is ∙ sym (last-more number got ptr);
}

-- nothing is left
no-more : (number : ℕ) (rest : List RowPtr) → AreDeltasOf number [] rest → rest ≡ []
no-more number [] d = refl
no-more number (ptr ∷ rest) d =
    let some = varbyte-some (number_of ptr - number) in
    let e = ap length d.bytes_are ∙ length-append (varbyte (number_of ptr - number)) (deltas_behind (number_of ptr) rest) in
    absurd (omega arith)

pub lead-end : (number last : ℕ) (bytes left : List ℕ) (old new got : List RowPtr) → DeltasLead number bytes last left got → length left ≤ 0
    → new ≡ old ++ got → ReadsDeltas number bytes old new last
lead-end number last bytes [] old new got l none put = record {
  got = got;
  put = put;
  are = subst (AreDeltasOf number bytes) (append-nil got) (l.gives [] (record { behind = tt; bytes_are = refl }));
  only = λ others d.
      let before = l.needs others d in
      before.1 ∙ ap (λ (r : List RowPtr). got ++ r) (no-more last before.0 before.2) ∙ append-nil got;
  last_is = l.last;
}
lead-end number last bytes (byte ∷ left) old new got l none put = absurd (omega arith)

-- where what is left isn't the deltas of any pointers, the whole isn't
pub lead-none : (number last : ℕ) (bytes now : List ℕ) (got : List RowPtr) → DeltasLead number bytes last now got
    → ((all : List RowPtr) → AreDeltasOf last now all → ⊥) → (all : List RowPtr) → AreDeltasOf number bytes all → ⊥
lead-none number last bytes now got l none all d = let before = l.needs all d in none before.0 before.2

-- what was read of deltas so far
pub record DeltasRead (number : ℕ) (bytes : List ℕ) (last : ℕ) (left : List ℕ) (old new : List RowPtr) : Type 0 where
  pub got : List RowPtr
  pub put : new ≡ old ++ got
  pub lead : DeltasLead number bytes last left got

pub read-more : (number last x new : ℕ) (bytes now left : List ℕ) (old before after : List RowPtr) (ptr : RowPtr)
    → DeltasRead number bytes last now old before → 0 < length now → StartsWithDelta now x left → 0 < x → IsPointerBehind last x ptr
    → new ≡ number_of ptr → after ≡ before ++ ptr ∷ [] → DeltasRead number bytes new left old after
read-more number last x new bytes now left old before after ptr r some s positive p is put = record {
  got = r.got ++ ptr ∷ [];
  put = put ∙ ap (λ (q : List RowPtr). q ++ ptr ∷ []) r.put ∙ append_assoc old r.got (ptr ∷ []);
  lead = lead-more number last x new bytes now left r.got ptr r.lead some s positive p is;
}

pub shorter-delta : (x : ℕ) (bytes left : List ℕ) → StartsWithDelta bytes x left → length left < length bytes
shorter-delta x bytes left s =
    let some = varbyte-some x in
    let e = ap length s.bytes_are ∙ length-append (varbyte x) left in
    omega arith
