-- The block numbers of pages (_bt_blnewpage of nbtsort.c): pages are numbered as they are born, and of those that are
-- born at one moment the one on the lower level first. Block 0 is the meta page.
use Rattle.std.specs.Prelude.{ℕ, suc, ◌+◌, Bool, nat_eq, nat_lt, ◌||◌, ◌&&◌, List, [], ◌∷◌, ◌++◌, map}
use Rattle.std.specs.List.{count_by}
use Rattle.btree_pack.specs.Pages.{Page}

-- when a page is born, and on which level
pub record Birth : Type 0 where
  pub moment : ℕ
  pub level : ℕ

abbrev pub is_earlier : Birth → Birth → Bool
is_earlier a b = nat_lt a.moment b.moment || (nat_eq a.moment b.moment && nat_lt a.level b.level)

-- the births on each level from one on, given the moments of each
abbrev pub births_from : ℕ → List (List ℕ) → List Birth
births_from level [] = []
births_from level (moments ∷ above) =
    map (λ moment. record { moment = moment; level = level }) moments ++ births_from (suc level) above

-- the births of the pages of levels, leaves first
abbrev pub births_of : {C : Type 0} → List (List (Page C)) → List Birth
births_of levels = births_from 0 (map (map (λ page. page.born)) levels)

-- the block of the page of a birth, among the pages of these
unfoldable pub block_of : List Birth → Birth → ℕ
block_of births birth = 1 + count_by (λ other. is_earlier other birth) births
