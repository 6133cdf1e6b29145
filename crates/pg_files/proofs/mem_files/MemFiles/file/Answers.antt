use Rattle.std.proofs.Common.{List, ap, sym, ◌∙◌, ℕ, Some}
use Rattle.std.specs.List.{position}
use Rattle.std.specs.Option.{option_map}
use Rattle.pg_files.specs.NamedFiles.{is_named}
use Rattle.pg_files.specs.declared.named_files.NamedFile.{NamedFile}
use Rattle.pg_files.proofs.NamedFiles.{absent, found_at}
use Rattle.pg_files.proofs.mem_files.MemFiles.file.Goals as goal

pub returns-in_err-place : goal.returns-in_err-place
returns-in_err-place c =
    rw c.from_residual.ensures
    (ap (option_map (λ (file : NamedFile). file.bytes.items)) (absent c.args.self.now.files.items c.args.name.now (sym (ap (position (is_named c.args.name.now)) c.deref.ensures.value) ∙ sym c.place_of.ensures ∙ c.in_err-place.was)))

pub returns : goal.returns
returns c =
    found_at c.args.self.now.files.items c.args.name.now c.in_ok-place.place c.index.result.now (sym (ap (position (is_named c.args.name.now)) c.deref.ensures.value) ∙ sym c.place_of.ensures ∙ c.in_ok-place.was)
    ∙ ap (λ (file : NamedFile). Some file.bytes.items) (sym c.index.ensures)
    ∙ ap (λ (bytes : List ℕ). Some bytes) (sym c.deref-2.ensures.value)
