use Rattle.std.proofs.Common.{◌≡◌, List, ℕ, Some, arith}
use Rattle.std.specs.List.{slice_get}
use Rattle.pg_index.proofs.Options.{read_fault, read_more, text_there}
use Rattle.pg_index.specs.Words.{texts_of}
use Rattle.pg_index.proofs.words.read_options.Goals as goal

pub returns-in-None-clause-fault : goal.returns-in-None-clause-fault
returns-in-None-clause-fault c =
    let words : List (List ℕ) = texts_of c.args.words.now in
    let text : List ℕ = c.as_str.result.now in
    let here : slice_get words c.loop-read.read ≡ Some text = text_there c.args.words.now c.loop-read.read c.index-words-read.result text (omega arith) c.index-words-read.is c.as_str.ensures.value in
    read_fault words c.loop-read.read text c.loop-read.given here c.loop-read.invariant c.in-None.ensures.none

pub loop-read-preserved : goal.loop-read-preserved
loop-read-preserved c =
    let words : List (List ℕ) = texts_of c.args.words.now in
    let text : List ℕ = c.as_str.result.now in
    let here : slice_get words c.loop-read.read ≡ Some text = text_there c.args.words.now c.loop-read.read c.index-words-read.result text (omega arith) c.index-words-read.is c.as_str.ensures.value in
    read_more words c.loop-read.read text c.loop-read.given c.in-Some.more here c.loop-read.invariant c.in-Some.ensures.some
