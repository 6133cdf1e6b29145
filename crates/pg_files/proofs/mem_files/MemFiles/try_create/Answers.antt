use Rattle.pg_files.proofs.MemoryWrites.{only_begins, others_after}
use Rattle.pg_files.specs.Memory.{memory}
use Rattle.pg_files.specs.NamedFiles.{file_map}
use Rattle.pg_files.proofs.mem_files.MemFiles.try_create.Goals as goal

pub returns-in_err-begin-clause-others : goal.returns-in_err-begin-clause-others
returns-in_err-begin-clause-others c = only_begins c.args.name.now (memory c.args.self.now) (memory c.begin.new.self) c.begin.ensures.counted

pub returns-clause-others : goal.returns-clause-others
returns-clause-others c =
    others_after c.args.name.now (memory c.args.self.now) (memory c.begin.new.self) (file_map c.set_file.new.files.items) c.begin.ensures.counted c.set_file.ensures.others
