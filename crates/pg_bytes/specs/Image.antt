-- The image of an index file, a list of whole pages.
use Rattle.std.specs.Prelude.{ℕ, ◌-◌, ◌*◌, List, ◌++◌, length}
use Rattle.pg_bytes.specs.PageLayout.{page_size}
use Rattle.pg_bytes.specs.Places.{zeros, written}

-- the image with zero bytes up to a place, where it was shorter
abbrev pub filled_up : ℕ → List ℕ → List ℕ
filled_up place image = image ++ zeros (place - length image)

-- the image after one block was set, with zero blocks between where it was shorter
unfoldable pub placed : ℕ → List ℕ → List ℕ → List ℕ
placed number page image = written page (number * page_size) (filled_up (number * page_size) image)
