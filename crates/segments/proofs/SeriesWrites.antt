-- A relation that is written segment by segment: what is known after each.
use Rattle.std.proofs.Common.{◌≡◌, ◌≢◌, ℕ, ◌+◌, ◌<◌, ◌^◌, List, Option, Some, None, refl, sym, ap, ◌∙◌, arith, inl, inr, subst}
use Rattle.std.proofs.lemmas.Bool.{cases_lt}
use Rattle.pg_files.specs.Faults.{most_faults}
use Rattle.pg_files.specs.Files.{SetsFile, ToldSets}
use Rattle.pg_files.specs.Outside.{FileMap, KeepsOthers, OnlyWrites, Outside}
use Rattle.segments.proofs.NameLists.{names_differ}
use Rattle.segments.specs.Names.{segment_name}
use Rattle.segments.specs.Writing.{HasFront, HaveParts, HoldsFrontOfRelation, KeepsOtherNames, OnlyWritesSeries, ToldHaveParts, part_of, segments_for}

-- at the start
none_parts : (size : ℕ) (name image : List ℕ) (files : FileMap) → HaveParts size name image 0 files files
none_parts size name image files = record {
  each = λ number below. absurd (omega (arith, below));
  others = λ other apart. refl;
}

pub told_none : (size : ℕ) (name image : List ℕ) (told : Option FileMap) → ToldHaveParts size name image 0 told told
told_none size name image None = refl
told_none size name image (Some files) = none_parts size name image files

-- one segment more, whose number is small enough for its name to differ
parts_more : (size : ℕ) (name image : List ℕ) (count : ℕ) (old mid new : FileMap) → count < 2 ^ 64 → HaveParts size name image count old mid
    → SetsFile (segment_name name count) (part_of size image count) mid new → HaveParts size name image (count + 1) old new
parts_more size name image count old mid new few before sets = record {
  each = λ number below. elim (cases_lt number count) [
    | inl less ↦ let apart : segment_name name number ≢ segment_name name count = λ same.
        let one : number ≡ count = names_differ name number count (omega (arith, less, few)) few same in omega (arith, one, less) in
        sets.others (segment_name name number) apart ∙ before.each number less
    | inr more ↦ let last : number ≡ count = omega (arith, below, more) in
        subst (λ (n : ℕ). new (segment_name name n) ≡ Some (part_of size image n)) (sym last) sets.here
  ];
  others = λ other apart. sets.others other (apart count (omega arith)) ∙ before.others other (λ number below. apart number (omega (arith, below)));
}

pub told_more : (size : ℕ) (name image : List ℕ) (count : ℕ) (old mid new : Option FileMap) → count < 2 ^ 64 → ToldHaveParts size name image count old mid
    → ToldSets (segment_name name count) (λ _. part_of size image count) mid new → ToldHaveParts size name image (count + 1) old new
told_more size name image count None None new few before sets = sets
told_more size name image count None (Some mid) new few before sets = absurd (let no : ⊥ = cc in no)
told_more size name image count (Some old) None new few before sets = absurd before
told_more size name image count (Some old) (Some mid) None few before sets = absurd sets
told_more size name image count (Some old) (Some mid) (Some new) few before sets = parts_more size name image count old mid new few before sets

-- what a failure leaves
pub front_left : (size : ℕ) (name image : List ℕ) (number : ℕ) (old mid new : Outside) → number < segments_for size image
    → ToldHaveParts size name image number old.files mid.files → HasFront (segment_name name number) (part_of size image number) mid.files new.files
    → HoldsFrontOfRelation size name image old new
front_left size name image number old mid new within before here = record {
  number = number;
  within = within;
  between = mid.files;
  before = before;
  here = here;
}

-- ---- what is left alone

others_refl : (name : List ℕ) (told : Option FileMap) → KeepsOtherNames name told told
others_refl name None = refl
others_refl name (Some files) = λ other apart. refl

pub only_refl : (name : List ℕ) (old : Outside) → OnlyWritesSeries name old old
only_refl name old = record {
  others = others_refl name old.files;
  said = refl;
  read_faults = refl;
  write_faults = λ n. omega arith;
  ask_faults = refl;
  say_faults = refl;
}

others_more : (name : List ℕ) (number : ℕ) (old mid new : Option FileMap) → KeepsOtherNames name old mid → KeepsOthers (segment_name name number) mid new
    → KeepsOtherNames name old new
others_more name number None None new before more = more
others_more name number None (Some mid) new before more = absurd (let no : ⊥ = cc in no)
others_more name number (Some old) None new before more = absurd before
others_more name number (Some old) (Some mid) None before more = absurd more
others_more name number (Some old) (Some mid) (Some new) before more = λ other apart. more other (apart number) ∙ before other apart

pub only_more : (name : List ℕ) (number : ℕ) (old mid new : Outside) → OnlyWritesSeries name old mid → OnlyWrites (segment_name name number) mid new
    → OnlyWritesSeries name old new
only_more name number old mid new before more = record {
  others = others_more name number old.files mid.files new.files before.others more.others;
  said = more.said ∙ before.said;
  read_faults = more.read_faults ∙ before.read_faults;
  write_faults = λ n. omega (arith, before.write_faults n, more.write_faults n);
  ask_faults = more.ask_faults ∙ before.ask_faults;
  say_faults = more.say_faults ∙ before.say_faults;
}

-- ---- failures

-- a segment's failure is one of the relation
pub failure_raised : (size : ℕ) (name image : List ℕ) (number : ℕ) (old mid new : Outside) → number < segments_for size image → mid.write_faults ≡ old.write_faults
    → (mid.write_faults (segment_name name number) < most_faults → mid.write_faults (segment_name name number) < new.write_faults (segment_name name number))
    → ((at : ℕ) → old.write_faults (segment_name name at) < most_faults)
    → (at : ℕ) × (at < segments_for size image) × (old.write_faults (segment_name name at) < new.write_faults (segment_name name at))
failure_raised size name image number old mid new within same raised room =
    let here : mid.write_faults (segment_name name number) ≡ old.write_faults (segment_name name number) = ap (λ (counts : List ℕ → ℕ). counts (segment_name name number)) same in
    let rose = raised (let had : old.write_faults (segment_name name number) < most_faults = room number in omega (arith, here, had)) in
    (number, within, omega (arith, here, rose))
