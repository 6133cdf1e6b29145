-- A list of files with their names, as a map from names to bytes.
use Rattle.std.specs.Prelude.{List, ℕ, Bool, find, option_map}
use Rattle.std.specs.Str.{bytes_eq}
use Rattle.std.specs.String.{string_bytes}
use Rattle.pg_files.specs.Outside.{FileMap}
use Rattle.pg_files.specs.declared.named_files.NamedFile.{NamedFile}

-- whether a file has this name
abbrev pub is_named : List ℕ → NamedFile → Bool
is_named name file = bytes_eq (string_bytes file.name) name

-- the bytes of each file of a list
abbrev pub file_map : List NamedFile → FileMap
file_map files name = option_map (λ (file : NamedFile). file.bytes.items) (find (is_named name) files)
