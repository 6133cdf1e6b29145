use Rattle.std.proofs.Common.{◌≡◌, ℕ, ◌+◌, ◌-◌, ◌≤◌, List, ◌++◌, length, take, sym, ap, ◌∙◌, subst, arith, rules}
use Rattle.std.proofs.KnownBytes.{Consumes-trans}
use Rattle.std.proofs.Math.Seq.{take-append-add}
use Rattle.std.proofs.lemmas.List.{length-take-le, take-append-le}
use Rattle.std.specs.Io.KnownBytes.{Consumes}
use borrow.Rule.Slice.PartMut.{put_mid, post_of}
use Rattle.pg_files.proofs.whole_io.fill.Goals as goal

-- what comes into the rest of a buffer stands behind what is there
front_grows : (place size more : ℕ) (old new : List ℕ) → place ≤ length old → more ≤ length new
    → take (place + more) (put_mid place size old new) ≡ take place old ++ take more new
front_grows place size more old new within fits =
    let front : length (take place old) ≡ place = length-take-le place old within in
    ap (λ (k : ℕ). take (k + more) (put_mid place size old new)) (sym front)
    ∙ take-append-add (take place old) (new ++ post_of place size old) more
    ∙ ap (λ (bytes : List ℕ). take place old ++ bytes) (take-append-le more new (post_of place size old) fits)

pub loop-preserved : goal.loop-preserved
loop-preserved g c =
    let size : length (put_mid c.loop.count (length c.loop.into - c.loop.count) c.loop.into c.read_some.new.into) ≡ length c.loop.into = search rules in
    let within = rw c.in-Some.is at c.in_ok-more.ensures.within in
    let bytes = rw c.in-Some.is at c.in_ok-more.ensures.bytes in
    record {
      size = search rules;
      within = omega arith;
      bytes = subst (Consumes _ _) (sym (front_grows c.loop.count (length c.loop.into - c.loop.count) c.in-Some.more c.loop.into c.read_some.new.into c.loop.invariant.within (omega arith)))
          (Consumes-trans _ _ _ _ _ c.loop.invariant.bytes bytes);
    }
