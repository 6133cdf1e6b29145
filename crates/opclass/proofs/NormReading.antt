-- How the values of a normalised key are read, one by one.
use Rattle.std.proofs.Common.{◌≡◌, ◌≢◌, ℕ, zero, suc, ◌+◌, ◌<◌, ◌≤◌, List, [], ◌∷◌, ◌++◌, length, drop, refl, sym, ap, subst, ◌∙◌, arith, append_assoc, append-nil, slice_index_or}
use Rattle.std.proofs.lemmas.List.Elements.{All-head, All-tail, All-cons}
use Rattle.opclass.specs.declared.value.KeyVal.{KeyVal}
use Rattle.opclass.specs.declared.spec.SortPart.{SortPart}
use Rattle.opclass.specs.Norm.{piece, norm_of, IsKeyValue, IsNormOf}
use Rattle.opclass.specs.Pass.{StartsWithPiece}
use Rattle.opclass.proofs.Norms.{piece_once}

-- These values were read of the bytes, and these parts and bytes are left: what the bytes are read as are these values
-- and then what is left is read as.
pub record IsReadTo (parts : List SortPart) (bytes : List ℕ) (values : List KeyVal) (parts_left : List SortPart) (left : List ℕ) : Type 0 where
  pub goes_on : (more : List KeyVal) → IsNormOf parts_left more left → IsNormOf parts (values ++ more) bytes
  pub only : (all : List KeyVal) → IsNormOf parts all bytes → (more : List KeyVal) × (all ≡ values ++ more) × IsNormOf parts_left more left

pub read_none_yet : (parts : List SortPart) (bytes : List ℕ) → IsReadTo parts bytes [] parts bytes
read_none_yet parts bytes = record { goes_on = λ more norm. norm; only = λ all norm. (all, refl, norm) }

-- a list of values in front of which a piece was read
with_value : (part : SortPart) (parts : List SortPart) (value : KeyVal) (more : List KeyVal) (left behind : List ℕ) → StartsWithPiece part left value behind
    → IsNormOf parts more behind → IsNormOf (part ∷ parts) (value ∷ more) left
with_value part parts value more left behind starts norm = record {
  keys = record {
    columns = ap suc norm.keys.columns;
    each = All-cons IsKeyValue value more starts.is_key norm.keys.each;
  };
  bytes_are = starts.split ∙ ap (λ (rest : List ℕ). piece part value ++ rest) norm.bytes_are;
}

pub read_value : (all_parts parts : List SortPart) (part : SortPart) (bytes left behind : List ℕ) (values : List KeyVal) (value : KeyVal)
    → IsReadTo all_parts bytes values (part ∷ parts) left → StartsWithPiece part left value behind → IsReadTo all_parts bytes (values ++ value ∷ []) parts behind
read_value all_parts parts part bytes left behind values value read starts = record {
  goes_on = λ more norm.
      subst (λ (vs : List KeyVal). IsNormOf all_parts vs bytes) (sym (append_assoc values (value ∷ []) more))
      (read.goes_on (value ∷ more) (with_value part parts value more left behind starts norm));
  only = λ all norm.
      let rest = read.only all norm in
      by_rest all rest.0 rest.1 rest.2;
}
  where
    by_rest : (all rest : List KeyVal) → all ≡ values ++ rest → IsNormOf (part ∷ parts) rest left
        → (more : List KeyVal) × (all ≡ (values ++ value ∷ []) ++ more) × IsNormOf parts more behind
    by_rest all [] is norm = absurd (omega (arith, norm.keys.columns))
    by_rest all (first ∷ more) is norm =
        let once =
        piece_once part first value (norm_of parts more) behind (All-head IsKeyValue first more norm.keys.each) starts.is_key
        (sym norm.bytes_are ∙ starts.split) in (
          more,
          is ∙ ap (λ (v : KeyVal). values ++ v ∷ more) once.0 ∙ sym (append_assoc values (value ∷ []) more),
          record {
            keys = record { columns = omega (arith, norm.keys.columns); each = All-tail IsKeyValue first more norm.keys.each };
            bytes_are = sym once.1;
          },
        )

pub read_fails : (all_parts parts : List SortPart) (part : SortPart) (bytes left : List ℕ) (values : List KeyVal)
    → IsReadTo all_parts bytes values (part ∷ parts) left → ((value : KeyVal) (behind : List ℕ) → StartsWithPiece part left value behind → ⊥)
    → (all : List KeyVal) → IsNormOf all_parts all bytes → ⊥
read_fails all_parts parts part bytes left values read none all norm =
    let rest = read.only all norm in
    by_rest rest.0 rest.2
  where
    by_rest : (rest : List KeyVal) → IsNormOf (part ∷ parts) rest left → ⊥
    by_rest [] found = omega (arith, found.keys.columns)
    by_rest (first ∷ more) found =
        none first (norm_of parts more) (record { is_key = All-head IsKeyValue first more found.keys.each; split = found.bytes_are })

pub read_whole : (parts : List SortPart) (bytes left : List ℕ) (values : List KeyVal) → IsReadTo parts bytes values [] left → left ≡ [] → IsNormOf parts values bytes
read_whole parts bytes left values read none =
    subst (λ (vs : List KeyVal). IsNormOf parts vs bytes) (append-nil values)
    (read.goes_on [] (record { keys = record { columns = refl; each = λ k d inside. absurd (omega arith) }; bytes_are = none }))

pub read_too_short : (parts : List SortPart) (bytes left : List ℕ) (values : List KeyVal) → IsReadTo parts bytes values [] left → left ≢ []
    → (all : List KeyVal) → IsNormOf parts all bytes → ⊥
read_too_short parts bytes left values read some all norm = some (read.only all norm).2.bytes_are

drop-next : (i : ℕ) (parts : List SortPart) (d : SortPart) → i < length parts → drop i parts ≡ slice_index_or parts i d ∷ drop (suc i) parts
drop-next i [] d h = absurd (omega arith)
drop-next zero (part ∷ parts) d h = refl
drop-next (suc i) (part ∷ parts) d h = drop-next i parts d (omega arith)

-- ---- the same by the number of parts that were gone through

pub step_fails : (all_parts items : List SortPart) (i : ℕ) (d : SortPart) (bytes left : List ℕ) (values : List KeyVal) → items ≡ all_parts → i < length items
    → IsReadTo all_parts bytes values (drop i all_parts) left → ((value : KeyVal) (behind : List ℕ) → StartsWithPiece (slice_index_or items i d) left value behind → ⊥)
    → (all : List KeyVal) → IsNormOf all_parts all bytes → ⊥
step_fails all_parts items i d bytes left values same inside read none =
    let next : drop i all_parts ≡ slice_index_or items i d ∷ drop (suc i) items = ap (drop i) (sym same) ∙ drop-next i items d inside in
    read_fails all_parts (drop (suc i) items) (slice_index_or items i d) bytes left values
    (subst (λ (ps : List SortPart). IsReadTo all_parts bytes values ps left) next read) none

pub step_reads : (all_parts items : List SortPart) (i : ℕ) (d : SortPart) (bytes left behind : List ℕ) (values new : List KeyVal) (value : KeyVal)
    → items ≡ all_parts → i < length items → IsReadTo all_parts bytes values (drop i all_parts) left → StartsWithPiece (slice_index_or items i d) left value behind
    → new ≡ values ++ value ∷ [] → IsReadTo all_parts bytes new (drop (i + 1) all_parts) behind
step_reads all_parts items i d bytes left behind values new value same inside read starts put =
    let next : drop i all_parts ≡ slice_index_or items i d ∷ drop (suc i) items = ap (drop i) (sym same) ∙ drop-next i items d inside in
    let more : IsReadTo all_parts bytes (values ++ value ∷ []) (drop (suc i) items) behind =
    read_value all_parts (drop (suc i) items) (slice_index_or items i d) bytes left behind values value
    (subst (λ (ps : List SortPart). IsReadTo all_parts bytes values ps left) next read) starts in
    let one : suc i ≡ i + 1 = omega arith in
    let after : drop (suc i) items ≡ drop (i + 1) all_parts = ap (drop (suc i)) same ∙ ap (λ (n : ℕ). drop n all_parts) one in
    let there : IsReadTo all_parts bytes (values ++ value ∷ []) (drop (i + 1) all_parts) behind =
    subst (λ (ps : List SortPart). IsReadTo all_parts bytes (values ++ value ∷ []) ps behind) after more in
    subst (λ (vs : List KeyVal). IsReadTo all_parts bytes vs (drop (i + 1) all_parts) behind) (sym put) there

drop-past : (i : ℕ) (parts : List SortPart) → length parts ≤ i → drop i parts ≡ []
drop-past zero [] h = refl
drop-past (suc i) [] h = refl
drop-past zero (part ∷ parts) h = absurd (omega arith)
drop-past (suc i) (part ∷ parts) h = drop-past i parts (omega arith)

pub read_through : (all_parts items : List SortPart) (i : ℕ) (bytes left : List ℕ) (values : List KeyVal) → items ≡ all_parts → length items ≤ i
    → IsReadTo all_parts bytes values (drop i all_parts) left → IsReadTo all_parts bytes values [] left
read_through all_parts items i bytes left values same past read =
    subst (λ (ps : List SortPart). IsReadTo all_parts bytes values ps left) (ap (drop i) (sym same) ∙ drop-past i items past) read

pub none_left : (left : List ℕ) → length left ≡ 0 → left ≡ []
none_left [] e = refl
none_left (byte ∷ left) e = absurd (omega arith)
