use Rattle.std.proofs.Common.{◌≡◌, ◌∙◌, ap, sym, refl, rules}
use Rattle.std.specs.List.{position}
use Rattle.std.proofs.lemmas.Result.{err_from_is_err_and}
use Rattle.pg_files.specs.NamedFiles.{is_named}
use Rattle.pg_files.proofs.NamedFiles.{empty_where_absent, grows_at, keeps_at, same_others}
use Rattle.pg_files.proofs.named_files.grow_file.Goals as goal

pub returns-in_err-extend_from_slice-in-Some-clause-err :
    goal.returns-in_err-extend_from_slice-in-Some-clause-err
returns-in_err-extend_from_slice-in-Some-clause-err c =
    let p = err_from_is_err_and c.from_residual.result c.from_residual.ensures.1 in
    let kept = rw c.in_err-extend_from_slice-in-Some.was at c.extend_from_slice.ensures.items in
    rw p.1
    (keeps_at c.args.files.now.items c.args.name.now c.in-Some.place c.index_mut.result.now _ (sym (ap (position (is_named c.args.name.now)) c.deref.ensures.value) ∙ sym c.place_of.ensures ∙ c.in-Some.is) c.index_mut.ensures.value refl kept)

pub returns-in_ok-extend_from_slice-in-Some-clause-ok :
    goal.returns-in_ok-extend_from_slice-in-Some-clause-ok
returns-in_ok-extend_from_slice-in-Some-clause-ok c =
    let more = rw c.in_ok-extend_from_slice-in-Some.was at c.extend_from_slice.ensures.items in
    grows_at c.args.files.now.items c.args.name.now c.args.piece.now c.in-Some.place c.index_mut.result.now _ (sym (ap (position (is_named c.args.name.now)) c.deref.ensures.value) ∙ sym c.place_of.ensures ∙ c.in-Some.is) c.index_mut.ensures.value refl more

pub returns-in_ok-to_vec-in-None-clause-ok : goal.returns-in_ok-to_vec-in-None-clause-ok
returns-in_ok-to_vec-in-None-clause-ok c =
    let same : c.in_ok-to_vec-in-None.field-0.items ≡ c.args.piece.now = search rules in
    rw (empty_where_absent c.args.files.now.items c.args.name.now c.args.piece.now (sym (ap (position (is_named c.args.name.now)) c.deref.ensures.value) ∙ sym c.place_of.ensures ∙ c.in-None.is))
    (rw same at c.add_file.ensures.ok)

pub returns-in_ok-extend_from_slice-in-Some-clause-others :
    goal.returns-in_ok-extend_from_slice-in-Some-clause-others
returns-in_ok-extend_from_slice-in-Some-clause-others c = (returns-in_ok-extend_from_slice-in-Some-clause-ok c).others

pub returns-in_err-extend_from_slice-in-Some-clause-others :
    goal.returns-in_err-extend_from_slice-in-Some-clause-others
returns-in_err-extend_from_slice-in-Some-clause-others c =
    let kept = rw c.in_err-extend_from_slice-in-Some.was at c.extend_from_slice.ensures.items in
    same_others c.args.name.now _ _
    (keeps_at c.args.files.now.items c.args.name.now c.in-Some.place c.index_mut.result.now _ (sym (ap (position (is_named c.args.name.now)) c.deref.ensures.value) ∙ sym c.place_of.ensures ∙ c.in-Some.is) c.index_mut.ensures.value refl kept)
