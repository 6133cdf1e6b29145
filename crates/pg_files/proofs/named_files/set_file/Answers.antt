use Rattle.std.proofs.Common.{◌∙◌, ap, sym, refl}
use Rattle.std.specs.List.{position}
use Rattle.pg_files.specs.NamedFiles.{is_named}
use Rattle.pg_files.proofs.NamedFiles.{sets_bytes}
use Rattle.pg_files.proofs.named_files.set_file.Goals as goal

pub returns-in-Some-clause-ok : goal.returns-in-Some-clause-ok
returns-in-Some-clause-ok c =
    sets_bytes c.args.files.now.items c.args.name.now c.in-Some.place c.index_mut.result.now _ (sym (ap (position (is_named c.args.name.now)) c.deref.ensures.value) ∙ sym c.place_of.ensures ∙ c.in-Some.is) c.index_mut.ensures.value refl

pub returns-in-Some-clause-others : goal.returns-in-Some-clause-others
returns-in-Some-clause-others c = (returns-in-Some-clause-ok c).others
