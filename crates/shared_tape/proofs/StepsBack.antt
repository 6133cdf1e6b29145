-- How a record is read, part by part.
use Rattle.std.proofs.Common.{◌≡◌, ◌≢◌, ℕ, zero, suc, ◌+◌, ◌-◌, ◌<◌, ◌≤◌, List, [], ◌∷◌, ◌++◌, length, take, drop, refl, sym, ap, subst, ◌∙◌, arith, append_assoc, append-nil, length-append, slice_index_or, All}
use Rattle.std.specs.Int.{bytes_high_first}
use Rattle.std.specs.List.{flat_map}
use Rattle.std.proofs.lemmas.List.Elements.{All-head, All-tail, All-cons}
use Rattle.byteorder.specs.Numbers.{length-bytes_high_first}
use Rattle.opclass.specs.declared.spec.SortPart.{SortPart}
use Rattle.opclass.specs.declared.value.KeyVal.{KeyVal}
use Rattle.opclass.specs.Order.{unsaid}
use Rattle.opclass.specs.Norm.{piece, norm_of, IsKeyValue}
use Rattle.opclass.specs.Pass.{StartsWithPiece}
use Rattle.opclass.proofs.Norms.{piece_once}
use Rattle.shared_tape.specs.declared.stored.Record.{Record}
use Rattle.shared_tape.specs.Stored.{pointer_bytes, order_bytes, extra_bytes}
use Rattle.shared_tape.specs.Reading.{counted_at, value_in, values_in, all_values_in}
use Rattle.shared_tape.specs.Pass.{AreOrderBytes, ArePiecesOf, ArePieces, HasPieceInFront, HaveKeysInFront, IsReadTo}
use Rattle.shared_tape.specs.Places.{RecordStandsAt}
use Rattle.shared_tape.proofs.ReadBack.{value_in-piece, values_in-norm, all_values_in-pieces, some_piece}
use Rattle.shared_tape.proofs.Standing.{order_at-record, extra_at-record}

-- ---- order bytes

length-pointer_bytes : (row : Record) → length (pointer_bytes row.ptr) ≡ 6
length-pointer_bytes row =
    length-append (bytes_high_first 4 row.ptr.block) (bytes_high_first 2 row.ptr.offset)
    ∙ (λ i. length-bytes_high_first 4 row.ptr.block i + length-bytes_high_first 2 row.ptr.offset i)

order_split : (order : List SortPart) (bytes : List ℕ) (are : AreOrderBytes order bytes)
    → bytes ≡ norm_of order are.row.keys ++ pointer_bytes are.row.ptr
unfolding order_bytes
order_split order bytes are = are.are

values_there : (order : List SortPart) (bytes : List ℕ) (are : AreOrderBytes order bytes)
    → values_in order bytes ≡ (are.row.keys, pointer_bytes are.row.ptr)
values_there order bytes are =
    ap (values_in order) (order_split order bytes are)
    ∙ values_in-norm order are.row.keys (pointer_bytes are.row.ptr) are.storable.keys.columns are.storable.keys.each

-- the keys stand in front of the row pointer
pub keys_in_front : (order : List SortPart) (bytes : List ℕ) → AreOrderBytes order bytes → HaveKeysInFront order bytes
keys_in_front order bytes are = record {
  keys = are.row.keys;
  behind = pointer_bytes are.row.ptr;
  are_keys = are.storable.keys;
  split = order_split order bytes are;
}

pub pointer_left : (order : List SortPart) (bytes left : List ℕ) → AreOrderBytes order bytes → left ≡ (values_in order bytes).1 → length left ≡ 6
pointer_left order bytes left are is =
    ap length (is ∙ ap (λ (read : List KeyVal × List ℕ). read.1) (values_there order bytes are)) ∙ length-pointer_bytes are.row

-- the order bytes that stand at a place are those of a record
pub order_bytes_at : (order : List SortPart) (bytes sorted : List ℕ) (place : ℕ) (row : Record) → RecordStandsAt order bytes place row
    → sorted ≡ counted_at bytes place → AreOrderBytes order sorted
order_bytes_at order bytes sorted place row is e = record { row = row; storable = is.storable; are = e ∙ order_at-record order bytes place row is }

-- ---- the keys, from the last column back to the first

-- what stands in front of bytes, for the columns before the last one and for that
record AreBoth (before : List SortPart) (part : SortPart) (keys : List KeyVal) : Type 0 where
  first : List KeyVal
  last : KeyVal
  columns : length before ≡ length first
  each : All IsKeyValue first
  last_is : IsKeyValue last
  norm : norm_of (before ++ part ∷ []) keys ≡ norm_of before first ++ piece part last

both : (before : List SortPart) (part : SortPart) (keys : List KeyVal) → length (before ++ part ∷ []) ≡ length keys → All IsKeyValue keys
    → AreBoth before part keys
both [] part [] same each = absurd (omega arith)
both [] part (key ∷ []) same each = record {
  first = [];
  last = key;
  columns = refl;
  each = λ k d inside. absurd (omega arith);
  last_is = All-head IsKeyValue key [] each;
  norm = append-nil (piece part key);
}
both [] part (key ∷ next ∷ keys) same each = absurd (omega arith)
both (first ∷ before) part [] same each = absurd (omega arith)
both (first ∷ before) part (key ∷ keys) same each =
    let others = both before part keys (omega arith) (All-tail IsKeyValue key keys each) in record {
      first = key ∷ others.first;
      last = others.last;
      columns = omega (arith, others.columns);
      each = All-cons IsKeyValue key others.first (All-head IsKeyValue key keys each) others.each;
      last_is = others.last_is;
      norm = ap (λ (xs : List ℕ). piece first key ++ xs) others.norm
          ∙ sym (append_assoc (piece first key) (norm_of before others.first) (piece part others.last));
    }

both_split : (before : List SortPart) (part : SortPart) (bytes : List ℕ) (front : HaveKeysInFront (before ++ part ∷ []) bytes)
    → (are : AreBoth before part front.keys) × (bytes ≡ norm_of before are.first ++ (piece part are.last ++ front.behind))
both_split before part bytes front =
    let are = both before part front.keys front.are_keys.columns front.are_keys.each in (
      are,
      front.split ∙ ap (λ (xs : List ℕ). xs ++ front.behind) are.norm
          ∙ append_assoc (norm_of before are.first) (piece part are.last) front.behind,
    )

before_in_front : (before : List SortPart) (part : SortPart) (bytes : List ℕ) → HaveKeysInFront (before ++ part ∷ []) bytes
    → HaveKeysInFront before bytes
before_in_front before part bytes front =
    let two = both_split before part bytes front in record {
      keys = two.0.first;
      behind = piece part two.0.last ++ front.behind;
      are_keys = record { columns = two.0.columns; each = two.0.each };
      split = two.1;
    }

last_in_front : (before : List SortPart) (part : SortPart) (bytes left : List ℕ) → HaveKeysInFront (before ++ part ∷ []) bytes
    → left ≡ (values_in before bytes).1 → HasPieceInFront part left
last_in_front before part bytes left front is =
    let two = both_split before part bytes front in
    let read : values_in before bytes ≡ (two.0.first, piece part two.0.last ++ front.behind) =
    ap (values_in before) two.1
    ∙ values_in-norm before two.0.first (piece part two.0.last ++ front.behind) two.0.columns two.0.each in (
      two.0.last,
      front.behind,
      record { is_key = two.0.last_is; split = is ∙ ap (λ (both : List KeyVal × List ℕ). both.1) read },
    )

values_in-last : (before : List SortPart) (part : SortPart) (bytes : List ℕ)
    → values_in (before ++ part ∷ []) bytes
    ≡ ((values_in before bytes).0 ++ (value_in part (values_in before bytes).1).0 ∷ [], (value_in part (values_in before bytes).1).1)
values_in-last [] part bytes = refl
values_in-last (first ∷ before) part bytes =
    ap (λ (others : List KeyVal × List ℕ). ((value_in first bytes).0 ∷ others.0, others.1))
    (values_in-last before part (value_in first bytes).1)

last_read : (before : List SortPart) (part : SortPart) (bytes behind left : List ℕ) (keys new : List KeyVal) (value : KeyVal)
    → keys ≡ (values_in before bytes).0 → behind ≡ (values_in before bytes).1
    → value ≡ (value_in part behind).0 → left ≡ (value_in part behind).1 → new ≡ keys ++ value ∷ []
    → (new ≡ (values_in (before ++ part ∷ []) bytes).0) × (left ≡ (values_in (before ++ part ∷ []) bytes).1)
last_read before part bytes behind left keys new value keys_are behind_is value_is left_is put =
    let whole = values_in-last before part bytes in (
      put ∙ (λ i. keys_are i ++ (value_is ∙ ap (λ (xs : List ℕ). (value_in part xs).0) behind_is) i ∷ [])
          ∙ sym (ap (λ (both : List KeyVal × List ℕ). both.0) whole),
      left_is ∙ ap (λ (xs : List ℕ). (value_in part xs).1) behind_is ∙ sym (ap (λ (both : List KeyVal × List ℕ). both.1) whole),
    )

-- the same of a list that has a last column
last_part : (parts : List SortPart) → 1 ≤ length parts
    → take (length parts - 1) parts ++ slice_index_or parts (length parts - 1) unsaid ∷ [] ≡ parts
last_part parts some = up_to (length parts - 1) parts (omega arith)
  where
    up_to : (n : ℕ) (parts : List SortPart) → n + 1 ≡ length parts → take n parts ++ slice_index_or parts n unsaid ∷ [] ≡ parts
    up_to n [] size = absurd (omega arith)
    up_to zero (part ∷ []) size = refl
    up_to zero (part ∷ next ∷ parts) size = absurd (omega arith)
    up_to (suc n) (part ∷ parts) size = ap (λ (ps : List SortPart). part ∷ ps) (up_to n parts (omega arith))

pub keys_before : (parts : List SortPart) (bytes : List ℕ) → 1 ≤ length parts → HaveKeysInFront parts bytes
    → HaveKeysInFront (take (length parts - 1) parts) bytes
keys_before parts bytes some front =
    before_in_front (take (length parts - 1) parts) (slice_index_or parts (length parts - 1) unsaid) bytes
    (subst (λ (ps : List SortPart). HaveKeysInFront ps bytes) (sym (last_part parts some)) front)

pub key_behind : (parts : List SortPart) (bytes left : List ℕ) → 1 ≤ length parts → HaveKeysInFront parts bytes
    → left ≡ (values_in (take (length parts - 1) parts) bytes).1
    → HasPieceInFront (slice_index_or parts (length parts - 1) unsaid) left
key_behind parts bytes left some front is =
    last_in_front (take (length parts - 1) parts) (slice_index_or parts (length parts - 1) unsaid) bytes left
    (subst (λ (ps : List SortPart). HaveKeysInFront ps bytes) (sym (last_part parts some)) front) is

pub keys_read : (parts : List SortPart) (bytes behind left : List ℕ) (keys new : List KeyVal) (value : KeyVal) → 1 ≤ length parts
    → keys ≡ (values_in (take (length parts - 1) parts) bytes).0 → behind ≡ (values_in (take (length parts - 1) parts) bytes).1
    → value ≡ (value_in (slice_index_or parts (length parts - 1) unsaid) behind).0
    → left ≡ (value_in (slice_index_or parts (length parts - 1) unsaid) behind).1
    → new ≡ keys ++ value ∷ [] → (new ≡ (values_in parts bytes).0) × (left ≡ (values_in parts bytes).1)
keys_read parts bytes behind left keys new value some keys_are behind_is value_is left_is put =
    subst (λ (ps : List SortPart). (new ≡ (values_in ps bytes).0) × (left ≡ (values_in ps bytes).1)) (last_part parts some)
    (last_read (take (length parts - 1) parts) (slice_index_or parts (length parts - 1) unsaid) bytes behind left keys new value
    keys_are behind_is value_is left_is put)

-- ---- pieces

-- the value that is read where a piece stands in front is that of the piece
pub starts_as_read : (part : SortPart) (bytes left : List ℕ) (value : KeyVal) → HasPieceInFront part bytes
    → value ≡ (value_in part bytes).0 → left ≡ (value_in part bytes).1 → StartsWithPiece part bytes value left
starts_as_read part bytes left value there value_is left_is =
    let starts = there.2 in
    let read = ap (value_in part) starts.split ∙ value_in-piece part there.0 there.1 starts.is_key in
    let same = value_is ∙ ap (λ (both : KeyVal × List ℕ). both.0) read in
    let behind = left_is ∙ ap (λ (both : KeyVal × List ℕ). both.1) read in
    rw (same, behind) starts

pub read_as_starts : (part : SortPart) (bytes left : List ℕ) (value : KeyVal) → StartsWithPiece part bytes value left
    → (value ≡ (value_in part bytes).0) × (left ≡ (value_in part bytes).1)
read_as_starts part bytes left value starts =
    let read = ap (value_in part) starts.split ∙ value_in-piece part value left starts.is_key in (
      sym (ap (λ (both : KeyVal × List ℕ). both.0) read),
      sym (ap (λ (both : KeyVal × List ℕ). both.1) read),
    )

pub pieces_at : (order : List SortPart) (bytes sorted extra : List ℕ) (place : ℕ) (row : Record) → RecordStandsAt order bytes place row
    → sorted ≡ counted_at bytes place → extra ≡ counted_at bytes (place + 4 + length sorted) → ArePieces extra
unfolding extra_bytes
pieces_at order bytes sorted extra place row is e f = (
  row.extra,
  record {
    each = is.storable.extra;
    are = f ∙ ap (λ (xs : List ℕ). counted_at bytes (place + 4 + length xs)) e ∙ extra_at-record order bytes place row is;
  },
)

pub read_none_yet : (bytes : List ℕ) → ArePieces bytes → IsReadTo bytes [] bytes
read_none_yet bytes pieces = record { others = pieces.0; rest = pieces.1; whole = pieces.1 }

-- some bytes are left, so a piece stands in front
pub piece_left : (bytes : List ℕ) (values : List KeyVal) (left : List ℕ) → IsReadTo bytes values left → left ≢ []
    → (value : KeyVal) × (behind : List ℕ) × StartsWithPiece unsaid left value behind
piece_left bytes values left read some = by_others read.others read.rest
  where
    by_others : (others : List KeyVal) → ArePiecesOf left others → (value : KeyVal) × (behind : List ℕ) × StartsWithPiece unsaid left value behind
    by_others [] rest = absurd (some rest.are)
    by_others (value ∷ others) rest = (
      value,
      flat_map (piece unsaid) others,
      record { is_key = All-head IsKeyValue value others rest.each; split = rest.are },
    )

pub read_more : (bytes : List ℕ) (values new : List KeyVal) (left behind : List ℕ) (value : KeyVal) → IsReadTo bytes values left → left ≢ []
    → StartsWithPiece unsaid left value behind → new ≡ values ++ value ∷ [] → IsReadTo bytes new behind
read_more bytes values new left behind value read some starts put = by_others read.others read.rest read.whole
  where
    by_others : (others : List KeyVal) → ArePiecesOf left others → ArePiecesOf bytes (values ++ others) → IsReadTo bytes new behind
    by_others [] rest whole = absurd (some rest.are)
    by_others (first ∷ others) rest whole =
        let once =
        piece_once unsaid first value (flat_map (piece unsaid) others) behind (All-head IsKeyValue first others rest.each) starts.is_key
        (sym rest.are ∙ starts.split) in
        record {
          others = others;
          rest = record { each = All-tail IsKeyValue first others rest.each; are = sym once.1 };
          whole =
              subst (ArePiecesOf bytes)
              (ap (λ (v : KeyVal). values ++ v ∷ others) once.0
              ∙ sym (append_assoc values (value ∷ []) others)
              ∙ ap (λ (front : List KeyVal). front ++ others) (sym put))
              whole;
        }

pub piece_shorter : (left behind : List ℕ) (value : KeyVal) → StartsWithPiece unsaid left value behind → length behind < length left
piece_shorter left behind value starts =
    omega (arith, ap length starts.split, length-append (piece unsaid value) behind, some_piece unsaid value starts.is_key)

-- bytes whose length is 0, or isn't
pub none_left : (left : List ℕ) → length left ≡ 0 → left ≡ []
none_left [] e = refl
none_left (byte ∷ left) e = absurd (omega arith)

pub some_left : (left : List ℕ) → length left ≢ 0 → left ≢ []
some_left left some none = some (ap length none)

pub read_all : (bytes : List ℕ) (values : List KeyVal) (left : List ℕ) → IsReadTo bytes values left → left ≡ [] → values ≡ all_values_in (length bytes) bytes
read_all bytes values left read none = by_others read.others read.rest read.whole
  where
    by_others : (others : List KeyVal) → ArePiecesOf left others → ArePiecesOf bytes (values ++ others) → values ≡ all_values_in (length bytes) bytes
    by_others [] rest whole =
        let are : ArePiecesOf bytes values = subst (ArePiecesOf bytes) (append-nil values) whole in
        sym
        (ap (all_values_in (length bytes)) are.are
        ∙ all_values_in-pieces (length bytes) values are.each (omega (arith, ap length are.are)))
    by_others (first ∷ others) rest whole =
        absurd
        (omega (
          arith,
          some_piece unsaid first (All-head IsKeyValue first others rest.each),
          ap length (sym none ∙ rest.are),
          length-append (piece unsaid first) (flat_map (piece unsaid) others),
        ))
