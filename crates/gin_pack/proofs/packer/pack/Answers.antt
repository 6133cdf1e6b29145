use Rattle.std.proofs.Common.{Bool, subst}
use Rattle.run_merge.specs.Merging.{GivesInto, GivesOne}
use Rattle.gin_pack.proofs.Packing.{all-came, fewer-left, may-take, none-came, one-came}
use Rattle.gin_pack.proofs.packer.pack.Goals as goal

pub records-init : goal.records-init
records-init c = none-came c.args.kind c.args.merged c.in_ok-packer.packer c.requires.order c.requires.entries c.in_ok-packer.ensures

pub take-requires : goal.take-requires
take-requires c = may-take c.args.kind c.args.merged.left c.records.merged c.records.packer c.requires.few c.records.invariant

pub records-smaller : goal.records-smaller
records-smaller c =
    let old = c.records.merged in
    let new = c.next_into.new.self in
    let row = c.next_into.new.row in
    let one : GivesOne old row new =
    subst (λ (given : Bool). GivesInto old new given row) c.if-branch.true c.in_ok-next_into.ensures.given in
    fewer-left old new row one

pub records-preserved : goal.records-preserved
records-preserved c =
    let old = c.records.merged in
    let new = c.next_into.new.self in
    let row = c.next_into.new.row in
    let one : GivesOne old row new =
    subst (λ (given : Bool). GivesInto old new given row) c.if-branch.true c.in_ok-next_into.ensures.given in
    one-came c.args.kind c.args.merged.left old new c.records.packer c.take.new.self row c.requires.apart one
    c.in_ok-take.ensures c.records.invariant

pub finish-requires : goal.finish-requires
finish-requires c = may-take c.args.kind c.args.merged.left c.records.merged c.records.packer c.requires.few c.records.invariant

pub returns : goal.returns
returns c =
    let old = c.records.merged in
    let none = subst (λ (given : Bool). GivesInto old c.next_into.new.self given c.next_into.new.row) c.if-branch.false
    c.in_ok-next_into.ensures.given in
    all-came c.args.kind c.args.merged.left old c.records.packer c.in_ok-file.file none.0 c.records.invariant c.in_ok-file.ensures
