use Rattle.std.proofs.Common.{◌≡◌, ◌∙◌, ap, sym, subst, ℕ, Some}
use Rattle.opclass.specs.declared.types.TypeFacts.{TypeFacts}
use Rattle.gin_entry.specs.declared.entry.Entry.{Entry}
use Rattle.gin_file.specs.Entry.{IsEntryOf}
use Rattle.gin_file.specs.Pass.{BeginsWithKey}
use Rattle.gin_file.proofs.TupleFronts.{element-stored, key-only-read, no-key-read, typed-key}
use Rattle.gin_file.proofs.entry_reading.read_key_value.Goals as goal

pub read_value-requires-clause-stored : goal.read_value-requires-clause-stored
read_value-requires-clause-stored c =
    element-stored c.args.kind c.in-Array.element (sym (ap (λ (f : TypeFacts). f.form) c.facts.ensures) ∙ c.in-Array.is)

pub returns-in_default-2-clause-only : goal.returns-in_default-2-clause-only
returns-in_default-2-clause-only c = λ entry begins.
    let form = sym (ap (λ (f : TypeFacts). f.form) c.facts.ensures) ∙ c.in-Array.is in
    absurd (no-key-read c.args.kind c.in-Array.element c.args.bytes.now c.in_ok-key.field-0 form c.in_default-2.is c.in_ok-key.ensures.only entry begins)

pub returns-clause-typed : goal.returns-clause-typed
returns-clause-typed c =
    let form = sym (ap (λ (f : TypeFacts). f.form) c.facts.ensures) ∙ c.in-Array.is in
    subst (λ (n : ℕ). IsEntryOf c.args.kind (record { category = n; key = c.in-Some.key })) (sym c.number.ensures)
    (typed-key c.args.kind c.in-Array.element c.args.bytes.now c.in-Some.key form (rw c.in-Some.is at c.in_ok-key.ensures.found))

pub returns-clause-only : goal.returns-clause-only
returns-clause-only c =
    let form = sym (ap (λ (f : TypeFacts). f.form) c.facts.ensures) ∙ c.in-Array.is in
    subst
    (λ (n : ℕ). (entry : Entry) → BeginsWithKey c.args.kind c.args.bytes.now entry → Some (record { category = n; key = c.in-Some.key }) ≡ Some entry)
    (sym c.number.ensures)
    (key-only-read c.args.kind c.in-Array.element c.args.bytes.now c.in-Some.key c.in_ok-key.field-0 form c.in-Some.is c.in_ok-key.ensures.only)
