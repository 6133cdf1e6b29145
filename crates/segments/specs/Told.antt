-- What is known of an object that may not tell its files.
use Rattle.std.specs.Prelude.{ℕ, ⊤, List, Option, Some, None}
use Rattle.pg_files.specs.Outside.{FileMap}

-- a fact of the files, where they are told
abbrev pub OnTold : Option FileMap → (FileMap → Type 0) → Type 0
OnTold None P = ⊤
OnTold (Some files) P = P files

-- a fact of a file's bytes: an absent file has none
abbrev pub OnFile : Option (List ℕ) → (List ℕ → Type 0) → Type 0
OnFile None P = ⊥
OnFile (Some file) P = P file
