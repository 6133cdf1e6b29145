use Rattle.std.proofs.Common.{◌≡◌, ◌+◌, ◌∙◌, ℕ, List, Option, inr, ap, sym, subst, refl}
use Rattle.pg_files.proofs.MemoryReads.{goes_on, there}
use Rattle.pg_files.specs.Memory.{GivesAllThatFits, Memory, is_set_to_fail, memory}
use Rattle.pg_files.specs.NamedFiles.{file_map}
use Rattle.pg_files.proofs.mem_files.MemFiles.try_read.Goals as goal

pub returns-in-Some-clause-whole : goal.returns-in-Some-clause-whole
returns-in-Some-clause-whole c =
    let same : file_map c.begin.new.self.files.items c.args.name.now ≡ file_map c.args.self.now.files.items c.args.name.now = ap (λ (m : Memory). m.files c.args.name.now) c.begin.ensures.counted in
    let bound : c.begin.new.self.beyond_one + 1 ≡ c.args.self.now.beyond_one + 1 = ap (λ (m : Memory). m.most) c.begin.ensures.counted in
    subst (λ (file : Option (List ℕ)). GivesAllThatFits (c.args.self.now.beyond_one + 1) file c.args.at c.in-Some.count c.args.into.now c.read_file.new.into) same
    (subst (λ (most : ℕ). GivesAllThatFits most (file_map c.begin.new.self.files.items c.args.name.now) c.args.at c.in-Some.count c.args.into.now c.read_file.new.into) bound c.in-Some.ensures.count)

pub returns-in-Some-clause-failed : goal.returns-in-Some-clause-failed
returns-in-Some-clause-failed c =
    goes_on (is_set_to_fail (memory c.args.self.now)) _ c.in_ok-begin.ensures.set.1 (there _ _ c.args.at c.in-Some.count c.args.into.now c.read_file.new.into (returns-in-Some-clause-whole c))

pub returns-in-None-clause-failed : goal.returns-in-None-clause-failed
returns-in-None-clause-failed c =
    let same : file_map c.begin.new.self.files.items c.args.name.now ≡ file_map c.args.self.now.files.items c.args.name.now = ap (λ (m : Memory). m.files c.args.name.now) c.begin.ensures.counted in
    ((λ _. inr (sym same ∙ c.in-None.ensures.count)), (λ _. refl))
