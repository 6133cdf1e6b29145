use Rattle.std.proofs.Common.{◌≡◌, ◌∙◌, List, ℕ, Option, ap}
use Rattle.std.specs.Prelude.{is_some}
use Rattle.pg_files.specs.Memory.{Memory}
use Rattle.pg_files.specs.NamedFiles.{file_map}
use Rattle.pg_files.proofs.MemoryReads.{presence}
use Rattle.pg_files.proofs.mem_files.MemFiles.try_there.Goals as goal

pub returns-clause-found : goal.returns-clause-found
returns-clause-found c =
    let same : file_map c.begin.new.self.files.items c.args.name.now ≡ file_map c.args.self.now.files.items c.args.name.now = ap (λ (m : Memory). m.files c.args.name.now) c.begin.ensures.counted in
    c.is_some.ensures ∙ presence (λ bytes. bytes.now) c.file.result (file_map c.begin.new.self.files.items c.args.name.now) c.file.ensures ∙ ap (λ (f : Option (List ℕ)). is_some f) same
