-- What a build says once its index is written: where the claims are asked for, a line of each, and then a line of the
-- rows that were indexed and the blocks of the index. The texts are this program's own.
use Rattle.std.specs.Prelude.{ℕ, Bool, true, false, List, [], ◌∷◌, ◌++◌, codes}
use Rattle.std.specs.Fmt.{decimal}
use Rattle.std.specs.List.{flat_map}
use Rattle.block_claim.specs.declared.claim.Claim.{Claim}
use Rattle.opclass.specs.declared.types.Method.{Method}
use Rattle.opclass.specs.declared.types.Method.TheVariants.{BTree, Brin, Gin}

abbrev pub line_end : List ℕ
line_end = 10 ∷ []

-- an index method as CREATE INDEX names it
abbrev pub method_name : Method → List ℕ
method_name BTree = codes "btree"
method_name Brin = codes "brin"
method_name Gin = codes "gin"

-- who claimed, from which number on, and how many numbers
abbrev pub claim_line : Claim → List ℕ
claim_line claim =
    codes "claim " ++ (decimal claim.worker ++ (codes " " ++ (decimal claim.first ++ (codes " " ++ (decimal claim.size ++ line_end)))))

abbrev pub built_line : Method → ℕ → ℕ → List ℕ
built_line method rows blocks =
    codes "built " ++ (method_name method ++ (codes ": " ++ (decimal rows ++ (codes " rows, " ++ (decimal blocks ++ (codes " blocks" ++ line_end))))))

-- the claims that are reported
abbrev pub claims_told : Bool → List Claim → List Claim
claims_told true claims = claims
claims_told false claims = []

-- the report of a build: whether its claims are asked for, its claims, its method, its rows and its index's blocks
abbrev pub report_of : Bool → List Claim → Method → ℕ → ℕ → List ℕ
report_of wanted claims method rows blocks = flat_map claim_line (claims_told wanted claims) ++ built_line method rows blocks
