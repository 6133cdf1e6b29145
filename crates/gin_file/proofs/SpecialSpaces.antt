-- The special space of a GIN page.
use Rattle.std.proofs.Common.{◌≡◌, ℕ, length, refl, length-append}
use Rattle.pg_bytes.proofs.Writes.{length-number_bytes}
use Rattle.posting_tree.specs.Special.{special_space}

pub length-special_space : (right maxoff flags : ℕ) → length (special_space right maxoff flags) ≡ 8
unfolding special_space
length-special_space right maxoff flags = simp (length-append, length-number_bytes) refl
