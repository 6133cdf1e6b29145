-- A tuple's data are no longer than its page. The content of a stored value is as wide as its type, has bytes where it
-- stands among bytes, and is no longer than these.
use Rattle.std.proofs.Common.{◌≡◌, ℕ, ◌-◌, ◌<◌, ◌≤◌, List, length, drop, Ok, ap, arith, length-drop}
use Rattle.std.specs.Prelude.{All}
use Rattle.std.proofs.lemmas.List.{length-take-le, length-take}
use Rattle.std.proofs.lemmas.List.Elements.{All-drop, All-take}
use Rattle.pg_bytes.specs.Lines.{line_at}
use Rattle.opclass.specs.declared.types.Width.{Width}
use Rattle.opclass.specs.declared.types.Width.TheVariants.{Fixed, Variable}
use Rattle.opclass.specs.Values.{IsAsWide}
use Rattle.heap_page.specs.Tuple.{item_of}
use Rattle.heap_row.specs.declared.varlena.Storage.TheVariants.{Plain}
use Rattle.heap_row.specs.declared.varlena.Stored.{Stored}
use Rattle.heap_row.specs.Varlena.{content_of, stored_at}
use Rattle.heap_row.proofs.Places.{within_sound}

pub data_short : (page : List ℕ) (item header : ℕ) → length (drop header (item_of page item)) ≤ length page
data_short page item header =
    let line = line_at page item in
    omega (arith, length-drop header (item_of page item), length-take line.length (drop line.offset page), length-drop line.offset page)

pub content_wide : (width : Width) (bytes : List ℕ) (stored : Stored) → stored_at width bytes ≡ Ok stored → IsAsWide width (content_of stored bytes)
content_wide (Fixed width) bytes stored read =
    let asked : Stored = record { storage = Plain; header = 0; total = width } in
    let sound = within_sound bytes asked stored read in
    let header : 0 ≡ stored.header = ap (λ (s : Stored). s.header) sound.0 in
    let total : width ≡ stored.total = ap (λ (s : Stored). s.total) sound.0 in
    let inside : stored.total ≤ length bytes = sound.1.inside in
    let there : stored.total - stored.header ≤ length (drop stored.header bytes) = omega (arith, length-drop stored.header bytes) in
    omega (arith, length-take-le (stored.total - stored.header) (drop stored.header bytes) there)
content_wide Variable bytes stored read = tt

pub content_bytes : (bytes : List ℕ) (stored : Stored) → All (λ byte. byte < 256) bytes → All (λ byte. byte < 256) (content_of stored bytes)
content_bytes bytes stored are_bytes =
    All-take (λ byte. byte < 256) (stored.total - stored.header) (drop stored.header bytes) (All-drop (λ byte. byte < 256) stored.header bytes are_bytes)

pub content_short : (bytes : List ℕ) (stored : Stored) → length (content_of stored bytes) ≤ length bytes
content_short bytes stored =
    omega (arith, length-take (stored.total - stored.header) (drop stored.header bytes), length-drop stored.header bytes)
