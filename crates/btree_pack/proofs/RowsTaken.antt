-- Which rows a packer and a writer take, and which runs, told by the index. The crates above cite these lemmas.
use Rattle.std.proofs.Common.{◌≡◌, ◌+◌, ◌≤◌, List, ◌++◌, length, ◌∙◌, ap, sym, length-append}
use Rattle.opclass.specs.declared.spec.IndexSpec.{IndexSpec}
use Rattle.opclass.specs.declared.types.ColType.{ColType}
use Rattle.btree_item.specs.Tuple.{size_of}
use Rattle.btree_pack.specs.Groups.{Row}
use Rattle.btree_pack.specs.Pass.Put.{HasPut, Kept, Takes}
use Rattle.btree_pack.specs.Pass.Added.{AddsRun, Adding, HasAdded}
use Rattle.btree_pack.specs.Pass.Run.{AreLeavesOf, RunView}
use Rattle.btree_pack.specs.Pass.Taken.{IsRowOf}
use Rattle.btree_pack.specs.Pass.Written.{HasWritten, WritesRow, Writing}

-- a packer takes each row of its index
pub takes_row : (spec : IndexSpec) (kinds : List ColType) (rows : List Row) (packer : Kept) (row : Row)
    → HasPut spec kinds rows packer → IsRowOf kinds (length spec.keys) row → Takes packer row
takes_row spec kinds rows packer row has is = rw has.kinds_are (rw has.keys is)

-- a packer takes a row with a value for each column whose plain tuple has no more than a third of a page
pub takes_by_columns : (spec : IndexSpec) (kinds : List ColType) (rows : List Row) (packer : Kept) (row : Row)
    → HasPut spec kinds rows packer → length row.keys ≡ length spec.keys → length row.extra ≡ length spec.includes
    → size_of kinds (row.keys ++ row.extra) ≤ 2704 → Takes packer row
takes_by_columns spec kinds rows packer row has keys extra small =
    takes_row spec kinds rows packer row has
    (record {
      keys_all = keys;
      columns = length-append row.keys row.extra ∙ ap (λ n. n + length row.extra) keys
          ∙ ap (λ n. length spec.keys + n) extra ∙ sym has.columns.all;
      small = small;
    })

-- a writer takes each row of its index
pub writes_row : (spec : IndexSpec) (kinds : List ColType) (rows : List Row) (writer : Writing) (row : Row)
    → HasWritten spec kinds rows writer → IsRowOf kinds (length spec.keys) row → WritesRow writer row
writes_row spec kinds rows writer row has is = rw has.kinds_are (rw has.keys is)

-- a packer of runs takes each run of its index
pub adds_run : (spec : IndexSpec) (kinds : List ColType) (rows more : List Row) (packer : Adding) (run : RunView)
    → HasAdded spec kinds rows packer → AreLeavesOf spec kinds more run → AddsRun packer run
adds_run spec kinds rows more packer run has are = record { kinds = are.kinds_are ∙ sym has.kinds_are; keys = are.keys ∙ sym has.keys }
