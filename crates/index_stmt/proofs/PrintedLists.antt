-- Lists that are printed are read again.
use Rattle.std.proofs.Common.{◌≡◌, Bool, true, false, List, [], ◌∷◌, ◌++◌, map, length, Ok, refl, ap, ◌∙◌, sym, subst, arith, All, append_assoc, length-append}
use Rattle.std.proofs.Math.Seq.{get_or-append_seam}
use Rattle.stmt_token.specs.declared.sign.Sign.TheVariants.{Comma, LeftParen, RightParen}
use Rattle.stmt_token.specs.Tokens.{TokenValue, Sign}
use Rattle.index_stmt.specs.Printer.{enclosed, with_between}
use Rattle.index_stmt.specs.Rule.{Read, Rule, ◌>>=◌, done, is_sign, next_is, separated, sign}
use Rattle.index_stmt.proofs.Lists.{Takes, separated-last, separated-more}

-- each item of a list is read behind those before it, and adds itself to them; a rule may look at the token behind
pub record ReadsItems {X : Type 0} (rule : List X → Rule (List X)) (print : X → List TokenValue) (whole : List X → Type 0) (behind : List TokenValue → Type 0) : Type 0 where
  pub takes : (before : List X) → Takes (rule before)
  pub item : (before : List X) (one : X) (others : List X) (rest : List TokenValue) → whole (before ++ one ∷ others) → behind rest
      → rule before (print one ++ rest) ≡ Ok (before ++ one ∷ [], rest)

-- the items behind the first ones are read, up to what is behind them all
pub items_read : {X : Type 0} (rule : List X → Rule (List X)) (print : X → List TokenValue) (whole : List X → Type 0) (behind : List TokenValue → Type 0)
    (between : TokenValue → Bool) (token : TokenValue) (end : List TokenValue)
    → ReadsItems rule print whole behind → between token ≡ true → next_is between end ≡ false
    → ((rest : List TokenValue) → behind (token ∷ rest)) → behind end
    → (before : List X) (one : X) (others : List X) → whole (before ++ one ∷ others)
    → separated between rule before (with_between token (map print (one ∷ others)) ++ end) ≡ Ok (before ++ one ∷ others, end)
items_read rule print whole behind between token end reads separates ends more last before one [] is =
    separated-last between rule reads.takes before (before ++ one ∷ []) (print one ++ end) end (reads.item before one [] end is last) ends
items_read {X} rule print whole behind between token end reads separates ends more last before one (next ∷ others) is =
    ap (separated between rule before) (append_assoc (print one) (token ∷ with_between token (map print (next ∷ others))) end)
    ∙ separated-more between rule reads.takes before (before ++ one ∷ []) (print one ++ (token ∷ rest)) (token ∷ rest)
    (reads.item before one (next ∷ others) (token ∷ rest) is (more rest)) separates
    ∙ items_read rule print whole behind between token end reads separates ends more last (before ++ one ∷ []) next others
    (subst whole (sym (append_assoc before (one ∷ []) (next ∷ others))) is)
    ∙ ap ended (append_assoc before (one ∷ []) (next ∷ others))
  where
    rest : List TokenValue
    rest = with_between token (map print (next ∷ others)) ++ end

    ended : List X → Read (List X)
    ended items = Ok (items, end)

-- a list in parentheses
abbrev pub in_parentheses : {S : Type 0} → Rule S → Rule S
in_parentheses list = sign LeftParen >>= λ _. (list >>= λ items. (sign RightParen >>= λ _. done items))

-- items in parentheses are read
pub enclosed_read : {X : Type 0} (rule : List X → Rule (List X)) (print : X → List TokenValue) (whole : List X → Type 0) (behind : List TokenValue → Type 0)
    → ReadsItems rule print whole behind → ((rest : List TokenValue) → behind (Sign Comma ∷ rest)) → ((rest : List TokenValue) → behind (Sign RightParen ∷ rest))
    → (one : X) (others : List X) (end : List TokenValue) → whole (one ∷ others)
    → in_parentheses (separated (is_sign Comma) rule []) (enclosed (map print (one ∷ others)) ++ end) ≡ Ok (one ∷ others, end)
enclosed_read rule print whole behind reads more last one others end is =
    ap (λ tokens. (separated (is_sign Comma) rule [] >>= λ items. (sign RightParen >>= λ _. done items)) tokens)
    (append_assoc (with_between (Sign Comma) (map print (one ∷ others))) (Sign RightParen ∷ []) end)
    ∙ rw (items_read rule print whole behind (is_sign Comma) (Sign Comma) (Sign RightParen ∷ end) reads refl refl more (last end) [] one others is) refl

-- what holds of each of a list holds of the one in the middle
pub in_the_middle : {X : Type 0} (P : X → Type 0) (before : List X) (one : X) (others : List X) → All P (before ++ one ∷ others) → P one
in_the_middle P before one others each =
    subst P (get_or-append_seam before one others one) (each (length before) one (omega (arith, length-append before (one ∷ others))))
