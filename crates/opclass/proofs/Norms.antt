-- Normalised keys: their order, and that their bytes are read in one way.
use Rattle.std.proofs.Common.{◌≡◌, ℕ, ◌++◌, List, [], ◌∷◌, length, refl, sym, ap, ◌∙◌, arith, Ordering, Less, Equal, Greater, append-nil, append_assoc}
use Rattle.std.specs.Prelude.{All}
use Rattle.std.specs.Ordering.{ordering_then}
use Rattle.std.proofs.lemmas.Cmp.{nat_list_cmp_total, tied_itself}
use Rattle.std.proofs.lemmas.List.Elements.{All-head, All-tail}
use Rattle.std.proofs.lemmas.Map.Lookups.{exact_bytes}
use Rattle.opclass.specs.declared.value.KeyVal.{KeyVal}
use Rattle.opclass.specs.declared.spec.SortPart.{SortPart}
use Rattle.opclass.specs.Order.{bytes_cmp, column_cmp, key_cmp}
use Rattle.opclass.specs.Norm.{piece, norm_of, IsKeyValue, AreKeys}
use Rattle.opclass.proofs.KeyOrder.{then-Equal, then_level, column_cmp_exact, key_cmp_exact}
use Rattle.opclass.proofs.Pieces.{piece_shows_end}

then-assoc : (o p q : Ordering) → ordering_then (ordering_then o p) q ≡ ordering_then o (ordering_then p q)
then-assoc Less p q = refl
then-assoc Equal p q = refl
then-assoc Greater p q = refl

-- what stands behind normalised keys counts only where the keys are equal
norm_of-behind : (parts : List SortPart) (a b : List KeyVal) (behind_a behind_b : List ℕ) → length parts ≡ length a → length parts ≡ length b
    → All IsKeyValue a → All IsKeyValue b
    → bytes_cmp (norm_of parts a ++ behind_a) (norm_of parts b ++ behind_b) ≡ ordering_then (key_cmp parts a b) (bytes_cmp behind_a behind_b)
norm_of-behind [] [] [] behind_a behind_b al bl ak bk = refl
norm_of-behind [] [] (y ∷ b) behind_a behind_b al bl ak bk = absurd (omega arith)
norm_of-behind [] (x ∷ a) b behind_a behind_b al bl ak bk = absurd (omega arith)
norm_of-behind (part ∷ parts) [] b behind_a behind_b al bl ak bk = absurd (omega arith)
norm_of-behind (part ∷ parts) (x ∷ a) [] behind_a behind_b al bl ak bk = absurd (omega arith)
norm_of-behind (part ∷ parts) (x ∷ a) (y ∷ b) behind_a behind_b al bl ak bk =
    (λ i. bytes_cmp (append_assoc (piece part x) (norm_of parts a) behind_a i) (append_assoc (piece part y) (norm_of parts b) behind_b i))
    ∙ piece_shows_end part x y (norm_of parts a ++ behind_a) (norm_of parts b ++ behind_b) (All-head IsKeyValue x a ak) (All-head IsKeyValue y b bk)
    ∙ ap (ordering_then (column_cmp part x y))
    (norm_of-behind parts a b behind_a behind_b (omega arith) (omega arith) (All-tail IsKeyValue x a ak) (All-tail IsKeyValue y b bk))
    ∙ sym (then-assoc (column_cmp part x y) (key_cmp parts a b) (bytes_cmp behind_a behind_b))

pub norms_show_end : (parts : List SortPart) (a b : List KeyVal) (behind_a behind_b : List ℕ) → AreKeys parts a → AreKeys parts b
    → bytes_cmp (norm_of parts a ++ behind_a) (norm_of parts b ++ behind_b) ≡ ordering_then (key_cmp parts a b) (bytes_cmp behind_a behind_b)
norms_show_end parts a b behind_a behind_b p q = norm_of-behind parts a b behind_a behind_b p.columns q.columns p.each q.each

pub norms_ordered : (parts : List SortPart) (a b : List KeyVal) → AreKeys parts a → AreKeys parts b
    → bytes_cmp (norm_of parts a) (norm_of parts b) ≡ key_cmp parts a b
norms_ordered parts a b p q =
    (λ i. bytes_cmp (sym (append-nil (norm_of parts a)) i) (sym (append-nil (norm_of parts b)) i))
    ∙ norms_show_end parts a b [] [] p q
    ∙ then-Equal (key_cmp parts a b)

pub norms_apart : (parts : List SortPart) (a b : List KeyVal) → AreKeys parts a → AreKeys parts b → norm_of parts a ≡ norm_of parts b → a ≡ b
norms_apart parts a b p q same =
    key_cmp_exact parts a b
    (sym (norms_ordered parts a b p q) ∙ ap (bytes_cmp (norm_of parts a)) (sym same) ∙ tied_itself nat_list_cmp_total (norm_of parts a))

-- a piece at the front of bytes is read in one way
pub piece_once : (part : SortPart) (a b : KeyVal) (behind_a behind_b : List ℕ) → IsKeyValue a → IsKeyValue b
    → piece part a ++ behind_a ≡ piece part b ++ behind_b → (a ≡ b) × (behind_a ≡ behind_b)
piece_once part a b behind_a behind_b p q same =
    let level =
    sym (piece_shows_end part a b behind_a behind_b p q)
    ∙ ap (bytes_cmp (piece part a ++ behind_a)) (sym same)
    ∙ tied_itself nat_list_cmp_total (piece part a ++ behind_a) in
    let both = then_level (column_cmp part a b) (bytes_cmp behind_a behind_b) level in
    (column_cmp_exact part a b both.0, exact_bytes behind_a behind_b both.1)
