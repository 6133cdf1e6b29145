use Rattle.std.proofs.Common.{◌≡◌, ◌∙◌, ◌-◌, ◌*◌, ◌^◌, ◌%◌, length, drop, refl, arith}
use Rattle.byteorder.specs.Endian.{big_from}
use Rattle.byteorder.specs.Numbers.{big_from-take}
use Rattle.shared_tape.proofs.ShortHeads.{head-overlapped}
use Rattle.shared_tape.proofs.place.overlapped.Goals as goal

pub returns : goal.returns
returns c =
    let first : c.from.result ≡ big_from 0 8 c.args.bytes.now = c.from.ensures ∙ c.read_u64-first.ensures in
    let back : c.read_u64.result ≡ big_from 0 8 (drop (length c.args.bytes.now - 8) c.args.bytes.now) =
    c.read_u64.ensures ∙ big_from-take 0 8 (length c.args.bytes.now - (length c.args.bytes.now - 8)) (drop (length c.args.bytes.now - 8) c.args.bytes.now) (omega arith) in
    let last : c.from-2.result ≡ (c.read_u64.result * 2 ^ (8 * (16 - length c.args.bytes.now))) % 2 ^ 64 = c.from-2.ensures in
    rw (first, last, back)
    (head-overlapped (length c.args.bytes.now) c.args.bytes.now (λ k. (c.type_inv.bytes k).fits) refl c.requires.more c.requires.few)
