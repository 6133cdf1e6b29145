-- How a list of files with names changes at one name.
use Rattle.std.proofs.Common.{◌≡◌, ◌≢◌, ℕ, ◌<◌, ◌≤◌, Bool, true, false, cond, List, [], ◌∷◌, ◌++◌, length, get_or, Option, Some, None, refl, sym, ap, subst, ◌∙◌, arith}
use Rattle.std.proofs.Math.ListN.{set}
use Rattle.std.proofs.Math.Path.{fun_ext}
use Rattle.std.proofs.lemmas.Bool.Decides.{nat_tests, not_from_Decides}
use Rattle.std.proofs.lemmas.List.Folds.{find_at, find-set, find_past, find-append}
use Rattle.std.proofs.lemmas.List.Quantifiers.{position-Some}
use Rattle.std.proofs.lemmas.List.Sums.{position_or_len_is}
use Rattle.std.proofs.lemmas.Option.{slice_get_past, slice_get-get_or}
use Rattle.std.proofs.lemmas.Slice.Eq.{bytes_eq-Decides}
use Rattle.std.specs.List.{find, position, position_or_len, slice_get}
use Rattle.std.specs.Option.{option_map, option_or}
use Rattle.std.specs.Str.{bytes_eq}
use Rattle.std.specs.String.{string_bytes}
use Rattle.pg_files.specs.NamedFiles.{file_map, is_named}
use Rattle.pg_files.specs.Files.{SetsFile, content}
use Rattle.pg_files.specs.Outside.{FileMap, SameOthers}
use Rattle.pg_files.specs.declared.named_files.NamedFile.{NamedFile}

false_unless : (b : Bool) → (b ≡ true → ⊥) → b ≡ false
false_unless true h = absurd (h refl)
false_unless false h = refl

-- a file has one name
one_name : (name other : List ℕ) (file : NamedFile) → is_named name file ≡ true → other ≢ name → is_named other file ≡ false
one_name name other file named differs =
    let here : string_bytes file.name ≡ name = (bytes_eq-Decides (string_bytes file.name) name).0 named in
    false_unless (is_named other file) (λ t. differs (sym ((bytes_eq-Decides (string_bytes file.name) other).0 t) ∙ here))

-- a list without the name tells no such file
pub absent : (files : List NamedFile) (name : List ℕ) → position (is_named name) files ≡ None → find (is_named name) files ≡ None
absent files name none =
    let past : length files ≤ position_or_len (is_named name) files = grind (arith, nat_tests) in
    find_at (is_named name) files ∙ slice_get_past files (position_or_len (is_named name) files) past

-- a place is the first of its name
first_place : (files : List NamedFile) (name : List ℕ) (place : ℕ) (file : NamedFile) → position (is_named name) files ≡ Some place
    → position_or_len (is_named name) files ≡ place
first_place files name place file found =
    let at = position-Some (is_named name) files place file found in
    let inside : place < length files = at.0 in
    position_or_len_is (is_named name) files place file (omega arith) at.2 (λ _. at.1)

-- the file that a list tells of a name stands at its place
pub found_at : (files : List NamedFile) (name : List ℕ) (place : ℕ) (file : NamedFile) → position (is_named name) files ≡ Some place
    → file_map files name ≡ Some (get_or files place file).bytes.items
found_at files name place file found =
    let at = position-Some (is_named name) files place file found in
    ap (option_map (λ (file : NamedFile). file.bytes.items))
    (find_at (is_named name) files
    ∙ ap (slice_get files) (first_place files name place file found)
    ∙ slice_get-get_or files place file at.0)

-- a file at the place of a name has it
named_at : (files : List NamedFile) (name : List ℕ) (place : ℕ) (old : NamedFile) → position (is_named name) files ≡ Some place
    → old ≡ get_or files place old → is_named name old ≡ true
named_at files name place old found here =
    let at = position-Some (is_named name) files place old found in
    ap (is_named name) here ∙ at.1

-- a write at the place of a name sets that file
pub sets_at : (files : List NamedFile) (name : List ℕ) (place : ℕ) (file : NamedFile) → position (is_named name) files ≡ Some place
    → is_named name file ≡ true → SetsFile name file.bytes.items (file_map files) (file_map (set files place file))
sets_at files name place file found named =
    let at = position-Some (is_named name) files place file found in
    record {
      here = ap (option_map (λ (file : NamedFile). file.bytes.items))
          (find-set (is_named name) files place file (sym (first_place files name place file found)) at.0 named);
      others = λ other differs. ap (option_map (λ (file : NamedFile). file.bytes.items))
          (find_past (is_named other) files place file file (one_name name other (get_or files place file) at.1 differs) (one_name name other file named differs));
    }

one_more : (found : Option NamedFile) (passes : Bool) (file : NamedFile) → found ≡ None → passes ≡ true → option_or found (cond passes (Some file) None) ≡ Some file
one_more found passes file none pass = rw (none, pass) refl

no_more : (found : Option NamedFile) (passes : Bool) (file : NamedFile) → passes ≡ false → option_or found (cond passes (Some file) None) ≡ found
no_more None passes file fails = rw fails refl
no_more (Some x) passes file fails = refl

-- a file at the end, of a name that wasn't there, sets that file
pub sets_push : (files : List NamedFile) (name : List ℕ) (file : NamedFile) → position (is_named name) files ≡ None
    → is_named name file ≡ true → SetsFile name file.bytes.items (file_map files) (file_map (files ++ file ∷ []))
sets_push files name file none named =
    let gone = absent files name none in
    record {
      here = ap (option_map (λ (file : NamedFile). file.bytes.items))
          (find-append (is_named name) files (file ∷ []) ∙ one_more (find (is_named name) files) (is_named name file) file gone named);
      others = λ other differs. ap (option_map (λ (file : NamedFile). file.bytes.items))
          (find-append (is_named other) files (file ∷ []) ∙ no_more (find (is_named other) files) (is_named other file) file (one_name name other file named differs));
    }

-- other bytes of the file at the place of a name
pub sets_bytes : (files : List NamedFile) (name : List ℕ) (place : ℕ) (old new : NamedFile) → position (is_named name) files ≡ Some place
    → old ≡ get_or files place old → new.name ≡ old.name → SetsFile name new.bytes.items (file_map files) (file_map (set files place new))
sets_bytes files name place old new found here same =
    sets_at files name place new found
    (ap (λ (n : _). bytes_eq (string_bytes n) name) same ∙ named_at files name place old found here)

same_at : (name other bytes : List ℕ) (old new : FileMap) → SetsFile name bytes old new → old name ≡ Some bytes
    → (test : Bool) → bytes_eq other name ≡ test → new other ≡ old other
same_at name other bytes old new sets same true is =
    let here : other ≡ name = (bytes_eq-Decides other name).0 is in
    ap new here ∙ sets.here ∙ sym same ∙ sym (ap old here)
same_at name other bytes old new sets same false is =
    sets.others other (not_from_Decides (bytes_eq other name) (bytes_eq-Decides other name) is)

-- the same bytes again leave all files as they were
pub sets_same : (name bytes : List ℕ) (old new : FileMap) → SetsFile name bytes old new → old name ≡ Some bytes → new ≡ old
sets_same name bytes old new sets same =
    fun_ext (λ other. same_at name other bytes old new sets same (bytes_eq other name) refl)

-- what the list tells of the file at the place of a name
tells_at : (files : List NamedFile) (name : List ℕ) (place : ℕ) (old : NamedFile) → position (is_named name) files ≡ Some place
    → old ≡ get_or files place old → file_map files name ≡ Some old.bytes.items
tells_at files name place old found here =
    found_at files name place old found ∙ ap (λ (file : NamedFile). Some file.bytes.items) (sym here)

-- more bytes of the file at the place of a name
pub grows_at : (files : List NamedFile) (name piece : List ℕ) (place : ℕ) (old new : NamedFile) → position (is_named name) files ≡ Some place
    → old ≡ get_or files place old → new.name ≡ old.name → new.bytes.items ≡ old.bytes.items ++ piece
    → SetsFile name (content (file_map files name) ++ piece) (file_map files) (file_map (set files place new))
grows_at files name piece place old new found here same more =
    subst (λ (bytes : List ℕ). SetsFile name bytes (file_map files) (file_map (set files place new)))
    (more ∙ ap (λ (file : Option (List ℕ)). content file ++ piece) (sym (tells_at files name place old found here)))
    (sets_bytes files name place old new found here same)

-- no other bytes of the file at the place of a name
pub keeps_at : (files : List NamedFile) (name : List ℕ) (place : ℕ) (old new : NamedFile) → position (is_named name) files ≡ Some place
    → old ≡ get_or files place old → new.name ≡ old.name → new.bytes.items ≡ old.bytes.items
    → file_map (set files place new) ≡ file_map files
keeps_at files name place old new found here same bytes =
    sets_same name new.bytes.items (file_map files) (file_map (set files place new))
    (sets_bytes files name place old new found here same)
    (tells_at files name place old found here ∙ ap (λ (b : List ℕ). Some b) (sym bytes))

-- an absent file counts as empty
pub empty_where_absent : (files : List NamedFile) (name piece : List ℕ) → position (is_named name) files ≡ None
    → content (file_map files name) ++ piece ≡ piece
empty_where_absent files name piece none =
    ap (λ (found : Option NamedFile). content (option_map (λ (file : NamedFile). file.bytes.items) found) ++ piece) (absent files name none)

-- the same files are the same beside one
pub same_others : (name : List ℕ) (old new : FileMap) → new ≡ old → SameOthers name old new
same_others name old new same = λ other differs. ap (λ (files : FileMap). files other) same
