use Rattle.pg_files.proofs.MemoryWrites.{grows_after, only_begins, others_after, passes}
use Rattle.pg_files.specs.Memory.{memory}
use Rattle.pg_files.specs.NamedFiles.{file_map}
use Rattle.pg_files.proofs.mem_files.MemFiles.try_append.Goals as goal

pub returns-in_err-begin-clause-others : goal.returns-in_err-begin-clause-others
returns-in_err-begin-clause-others c = only_begins c.args.name.now (memory c.args.self.now) (memory c.begin.new.self) c.begin.ensures.counted

pub returns-then-is_empty-clause-others : goal.returns-then-is_empty-clause-others
returns-then-is_empty-clause-others c = only_begins c.args.name.now (memory c.args.self.now) (memory c.begin.new.self) c.begin.ensures.counted

pub returns-in_err-counted-clause-others : goal.returns-in_err-counted-clause-others
returns-in_err-counted-clause-others c =
    others_after c.args.name.now (memory c.args.self.now) (memory c.begin.new.self) (file_map c.grow_file.new.files.items) c.begin.ensures.counted c.grow_file.ensures.others

pub returns-clause-others : goal.returns-clause-others
returns-clause-others c =
    others_after c.args.name.now (memory c.args.self.now) (memory c.begin.new.self) (file_map c.grow_file.new.files.items) c.begin.ensures.counted c.grow_file.ensures.others

pub returns-clause-appended : goal.returns-clause-appended
returns-clause-appended c =
    let sets = passes _ c.grow_file.result c.counted.result c.in_ok-counted.field-0 c.counted.ensures.err c.in_ok-counted.was c.grow_file.ensures.ok in
    λ some. grows_after c.args.name.now _ (memory c.args.self.now) (memory c.begin.new.self) (file_map c.grow_file.new.files.items) c.begin.ensures.counted sets
