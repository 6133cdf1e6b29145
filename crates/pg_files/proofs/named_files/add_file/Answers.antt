use Rattle.std.proofs.lemmas.Slice.Eq.{bytes_eq-Decides}
use Rattle.pg_files.proofs.NamedFiles.{sets_push}
use Rattle.pg_files.proofs.named_files.add_file.Goals as goal

pub returns-clause-ok : goal.returns-clause-ok
returns-clause-ok c =
    rw c.in_ok-push.ensures.items
    (sets_push c.args.files.now.items c.args.name.now _ c.requires ((bytes_eq-Decides _ c.args.name.now).1 c.in_ok-name.ensures.ok))

pub returns-clause-others : goal.returns-clause-others
returns-clause-others c = (returns-clause-ok c).others
