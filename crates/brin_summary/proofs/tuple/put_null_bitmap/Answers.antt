use Rattle.std.proofs.Common.{◌≡◌, List, ℕ, ◌++◌, take, OnOk, ap, subst, ◌∙◌, rules}
use Rattle.pg_bytes.specs.Numbers.{number_bytes}
use Rattle.tuple_data.proofs.Pieces.{number_bytes-front}
use Rattle.brin_summary.proofs.tuple.put_null_bitmap.Goals as goal

pub returns : goal.returns
returns c =
    let low : take c.args.bitmap.now.size c.number_bytes-bytes.result ≡ number_bytes c.args.bitmap.now.size c.args.bitmap.now.bits =
    ap (take c.args.bitmap.now.size) c.number_bytes-bytes.ensures ∙ number_bytes-front c.args.bitmap.now.size c.args.bitmap.now.bits c.requires in
    let Puts : List ℕ → Type 0 = λ bytes. OnOk c.extend_from_slice.result (c.extend_from_slice.new.self.items ≡ c.args.out.now.items ++ bytes) in
    subst Puts low (search rules)
