-- What a view of a page shows.
use Rattle.std.specs.Prelude.{ℕ, List}

-- a page's bytes, and the number of columns of its table
pub record CheckedPage : Type 0 where
  pub bytes : List ℕ
  pub columns : ℕ
