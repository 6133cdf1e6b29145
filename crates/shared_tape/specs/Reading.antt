-- A record as it is read back from bytes. Contracts see the records of a run through these, and the law
-- `StoredIsReadBack` says that what was stored is read.
use Rattle.std.specs.Prelude.{ℕ, zero, suc, ◌+◌, ◌^◌, ◌==◌, if◌then◌else◌, Bool, true, false, ℤ, pos, ◌-ℤ◌, List, [], ◌∷◌, length, take, drop}
use Rattle.pg_bytes.specs.declared.row_ptr.RowPtr.{RowPtr}
use Rattle.pg_bytes.specs.Numbers.{number_at}
use Rattle.byteorder.specs.Endian.{big_number}
use Rattle.opclass.specs.declared.spec.SortPart.{SortPart}
use Rattle.opclass.specs.declared.value.KeyVal.{KeyVal}
use Rattle.opclass.specs.declared.value.KeyVal.TheVariants.{Nil, Num, Raw}
use Rattle.opclass.specs.Order.{unsaid}
use Rattle.opclass.specs.Norm.{directed_bytes}
use Rattle.opclass.specs.Pass.{zero_of}
use Rattle.shared_tape.specs.declared.stored.Record.{Record}

-- the number that was lifted above zero
abbrev pub lowered : ℕ → ℤ
lowered n = pos n -ℤ pos (2 ^ 63)

-- bytes that were read, with one more in front
abbrev pub with_first : ℕ → List ℕ × List ℕ → List ℕ × List ℕ
with_first byte read = (byte ∷ read.0, read.1)

-- Bytes up to their end, which is two marks, and what stands behind it. A mark that another byte follows is a byte
-- itself. The flag says that a mark was just seen.
abbrev pub up_to_end : ℕ → Bool → List ℕ → List ℕ × List ℕ
up_to_end mark seen [] = ([], [])
up_to_end mark false (byte ∷ bytes) =
    if byte == mark then up_to_end mark true bytes else with_first byte (up_to_end mark false bytes)
up_to_end mark true (byte ∷ bytes) =
    if byte == mark then ([], bytes) else with_first mark (up_to_end mark false bytes)

-- the number whose piece's bytes stand in front, and what stands behind them
abbrev pub number_in : SortPart → List ℕ → KeyVal × List ℕ
number_in part bytes = (Num (lowered (big_number 8 (directed_bytes part (take 8 bytes)))), drop 8 bytes)

-- the bytes whose piece's bytes stand in front, and what stands behind them
abbrev pub raw_in : SortPart → List ℕ → KeyVal × List ℕ
raw_in part bytes =
    let read = up_to_end (zero_of part) false bytes in
    (Raw (directed_bytes part read.0), read.1)

-- the value whose piece stands in front, and what stands behind the piece
abbrev pub value_in : SortPart → List ℕ → KeyVal × List ℕ
value_in part [] = (Nil, [])
value_in part (kind ∷ bytes) =
    if kind == 1 then number_in part bytes else (if kind == 2 then raw_in part bytes else (Nil, bytes))

-- the values of the columns of an order, and what stands behind their normalised key
abbrev pub values_in : List SortPart → List ℕ → List KeyVal × List ℕ
values_in [] bytes = ([], bytes)
values_in (part ∷ parts) bytes =
    let first = value_in part bytes in
    let others = values_in parts first.1 in
    (first.0 ∷ others.0, others.1)

-- all values whose pieces stand one behind the other, at most so many
abbrev pub all_values_in : ℕ → List ℕ → List KeyVal
all_values_in zero bytes = []
all_values_in (suc most) [] = []
all_values_in (suc most) (byte ∷ bytes) =
    let first = value_in unsaid (byte ∷ bytes) in
    first.0 ∷ all_values_in most first.1

-- the row pointer in six bytes, highest first
abbrev pub pointer_in : List ℕ → RowPtr
pointer_in bytes = record { block = big_number 4 bytes; offset = big_number 2 (drop 4 bytes) }

-- the bytes that stand at a place behind their length
unfoldable pub counted_at : List ℕ → ℕ → List ℕ
counted_at bytes place = take (number_at 4 bytes place) (drop (place + 4) bytes)

-- a record of these order bytes and extra bytes
unfoldable pub record_of : List SortPart → List ℕ → List ℕ → Record
record_of order sorted others =
    let read = values_in order sorted in
    record { keys = read.0; extra = all_values_in (length others) others; ptr = pointer_in read.1 }

-- the record that stands at a place: its order bytes, and behind them its extra bytes
unfoldable pub record_at : List SortPart → List ℕ → ℕ → Record
record_at order bytes place =
    let sorted = counted_at bytes place in
    record_of order sorted (counted_at bytes (place + 4 + length sorted))
