-- What the first parts of records have become, and one more of them.
use Rattle.std.proofs.Common.{◌≡◌, ℕ, zero, suc, ◌+◌, ◌-◌, ◌<◌, List, [], ◌∷◌, ◌++◌, length, Some, refl, sym, ap, subst, ◌∙◌, inl, inr, arith}
use Rattle.std.specs.Prelude.{slice_get}
use Rattle.std.proofs.lemmas.Bool.{cases_lt}
use Rattle.std.proofs.lemmas.List.{length-append}
use Rattle.std.proofs.lemmas.Option.{same_Some, slice_get_within}
use Rattle.opclass.specs.declared.spec.SortPart.{SortPart}
use Rattle.shared_tape.specs.declared.stored.Record.{Record}
use Rattle.run_merge.specs.Cutting.{part_of}
use Rattle.build_leader.specs.declared.fault.LeadFault.{LeadFault}
use Rattle.build_leader.specs.KeyParts.{AreMade, IsRefused}
use Rattle.build_leader.proofs.PackerRows.{get-left, get-right}

module _ {M : Type 0} (makes : List Record → M → Type 0) (order : List SortPart) (cuts : List (List ℕ)) (records : List Record) where
  none_made : AreMade makes order cuts records 0 []
  none_made = record { count_is = refl; each = λ part one at. cc }

  pub made_more : (count : ℕ) (made : List M) (one : M) → AreMade makes order cuts records count made
      → makes (part_of order cuts count records) one → AreMade makes order cuts records (count + 1) (made ++ one ∷ [])
  made_more count made one are is =
      let long = are.count_is in
      record {
        count_is = length-append made (one ∷ []) ∙ ap (λ (n : ℕ). n + 1) long;
        each = λ part other at. elim (cases_lt part (length made)) [
          | inl below ↦ are.each part other (sym (get-left made (one ∷ []) part below) ∙ at)
          | inr above ↦
              let rest : length made + (part - length made) ≡ part = omega arith in
              let there : slice_get (one ∷ []) (part - length made) ≡ Some other =
              sym (get-right made (one ∷ []) (part - length made)) ∙ ap (slice_get (made ++ one ∷ [])) rest ∙ at in
              let within = slice_get_within (one ∷ []) (part - length made) other there in
              let none : part - length made ≡ 0 = omega (arith, within) in
              let last : count ≡ part = omega (arith, long, none, above) in
              let same : one ≡ other = same_Some one other (ap (slice_get (one ∷ [])) (sym none) ∙ there) in
              subst (makes (part_of order cuts part records)) same
              (subst (λ (n : ℕ). makes (part_of order cuts n records) one) last is)
        ];
      }

  pub first_made : (one : M) → makes (part_of order cuts 0 records) one → AreMade makes order cuts records 1 (one ∷ [])
  first_made one is = made_more 0 [] one none_made is

  module _ (refuses : List Record → LeadFault → Type 0) where
    pub refused_more : (count : ℕ) (fault : LeadFault) → IsRefused makes refuses order cuts records count fault
        → IsRefused makes refuses order cuts records (count + 1) fault
    refused_more count fault (inl memory) = inl memory
    refused_more count fault (inr is) = inr (record {
      part = is.part;
      within = (let within = is.within in omega (arith, within));
      refused = is.refused;
      before = is.before;
    })

    pub refused_last : (count : ℕ) (made : List M) (fault : LeadFault) → AreMade makes order cuts records count made
        → refuses (part_of order cuts count records) fault → IsRefused makes refuses order cuts records (count + 1) fault
    refused_last count made fault are is = inr (record {
      part = count;
      within = omega arith;
      refused = is;
      before = λ lower below.
          let long = are.count_is in
          let there = get made lower (omega (arith, long)) in
          (there.0, are.each lower there.0 there.1);
    })
      where
        get : (xs : List M) (place : ℕ) → place < length xs → (one : M) × (slice_get xs place ≡ Some one)
        get [] place inside = absurd (omega arith)
        get (x ∷ xs) zero inside = (x, refl)
        get (x ∷ xs) (suc place) inside = get xs place (omega arith)

    pub refused_first : (fault : LeadFault) → refuses (part_of order cuts 0 records) fault
        → IsRefused makes refuses order cuts records 1 fault
    refused_first fault is = refused_last 0 [] fault none_made is
