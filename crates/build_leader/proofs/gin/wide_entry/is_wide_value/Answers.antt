use Rattle.build_leader.proofs.WideEntries.{never_wide}
use Rattle.build_leader.proofs.gin.wide_entry.is_wide_value.Goals as goal

pub returns-in_default : goal.returns-in_default
returns-in_default c =
    never_wide c.args.kind c.args.value.now c.requires.typed
    (λ elements same texts.
    let so = c.has_texts.ensures.1 texts in
    let not = c.if-has_texts.false in
    cc)
