-- Parts of a list of bytes.
use Rattle.std.specs.Prelude.{ℕ, ◌+◌, List, ◌++◌, take, drop, length, replicate}

-- so many zero bytes
unfoldable pub zeros : ℕ → List ℕ
zeros n = replicate n 0

-- the bytes after a piece was written over those at a place
unfoldable pub written : List ℕ → ℕ → List ℕ → List ℕ
written piece place bytes = take place bytes ++ (piece ++ drop (place + length piece) bytes)
