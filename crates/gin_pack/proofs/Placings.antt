-- How pages of a level come into a file, and what leads to them.
use Rattle.std.proofs.Common.{◌≡◌, ℕ, ◌+◌, ◌-◌, ◌*◌, ◌%◌, ◌<◌, List, [], ◌∷◌, ◌++◌, length, sym, ap, subst, ◌∙◌, arith, lt-ltb}
use Rattle.std.specs.Prelude.{Bool, cond}
use Rattle.std.proofs.lemmas.List.{append_assoc}
use Rattle.pg_bytes.specs.Blocks.{block_count}
use Rattle.pg_bytes.specs.Numbers.{number_bytes}
use Rattle.pg_bytes.specs.Places.{written, zeros}
use Rattle.pg_bytes.specs.Pointers.{row_pointer_bytes}
use Rattle.pg_bytes.specs.declared.row_ptr.RowPtr.{RowPtr}
use Rattle.pg_bytes.proofs.Writes.{length-written, written-first}
use Rattle.btree_item.proofs.Sizes.{length-row_pointer}
use Rattle.btree_item.specs.Tuple.{bitmap_of, data_end, index_tuple, info_of, size_of}
use Rattle.tuple_data.specs.Data.{data_of}
use Rattle.opclass.specs.declared.types.ColType.{ColType}
use Rattle.opclass.specs.declared.value.KeyVal.{KeyVal}
use Rattle.opclass.specs.Types.{facts_of}
use Rattle.gin_entry.specs.declared.entry.Entry.{Entry}
use Rattle.gin_entry.specs.EntrySize.{entry_size, key_end, key_kinds, list_place}
use Rattle.posting_tree.specs.Levels.{no_link}
use Rattle.gin_file.specs.EntryTree.{Item, entry_page, inner_flags}
use Rattle.gin_file.specs.EntryTuple.{category_byte, inner_tuple, key_part, leading_tuple}
use Rattle.gin_pack.specs.Pass.Filling.{HasItems, IsLevelOf, NamesEntry, PutsItem, Takes}
use Rattle.gin_pack.specs.Pass.Placing.{CanPlace, HaveRoom, LeadsToPage, PlacesPage, link_behind}
use Rattle.gin_pack.specs.declared.level.FullPage.{FullPage}
use Rattle.gin_pack.specs.declared.level.Level.{Level}
use Rattle.gin_pack.proofs.Fillings.{fill-is, tuples_of}

-- ---- a tuple that leads to a page

-- what stands behind the first six bytes of a tuple without a list
abbrev pub rest_of : ColType → Entry → List ℕ
rest_of kind entry =
    let kinds : List ColType = key_kinds (facts_of kind).form in
    let values : List KeyVal = entry.key ∷ [] in
    (number_bytes 2 (info_of (entry_size kind entry) kinds values)
    ++ (bitmap_of values ++ (data_of kinds values ++ zeros (size_of kinds values - data_end kinds values))))
    ++ ((category_byte entry ++ zeros (list_place kind entry - key_end kind entry)) ++ zeros (entry_size kind entry - list_place kind entry))

pub leading-parts : (kind : ColType) (entry : Entry) (front : RowPtr) → leading_tuple kind entry front ≡ row_pointer_bytes front ++ rest_of kind entry
unfolding leading_tuple key_part index_tuple
leading-parts kind entry front = simp append_assoc

-- a tuple that names an entry led to a page
pub led : (kind : ColType) (entry : Entry) (block : ℕ) (bytes : List ℕ) → NamesEntry kind entry bytes
    → written (row_pointer_bytes (record { block = block; offset = 0 })) 0 bytes ≡ inner_tuple kind (record { child = block; key = entry })
led kind entry block bytes names =
    let was : RowPtr = record { block = names.child; offset = 0 } in
    let now : RowPtr = record { block = block; offset = 0 } in
    ap (written (row_pointer_bytes now) 0) (names.are ∙ leading-parts kind entry was)
    ∙ written-first (row_pointer_bytes now) (row_pointer_bytes was) (rest_of kind entry) (length-row_pointer now ∙ sym (length-row_pointer was))
    ∙ sym (leading-parts kind entry now)

pub led-names : (kind : ColType) (entry : Entry) (block : ℕ) (bytes now : List ℕ) → NamesEntry kind entry bytes
    → now ≡ written (row_pointer_bytes (record { block = block; offset = 0 })) 0 bytes → NamesEntry kind entry now
led-names kind entry block bytes now names is =
    let pointer : RowPtr = record { block = block; offset = 0 } in
    let six = length-row_pointer pointer in
    let least = names.tuple_is.least in
    let whole = names.tuple_is.whole in
    let most = names.tuple_is.most in
    let same : length now ≡ length bytes = ap length is ∙ length-written (row_pointer_bytes pointer) 0 bytes (omega arith) in
    record {
      child = block;
      are = is ∙ led kind entry block bytes names;
      tuple_is = record {
        whole = ap (λ (n : ℕ). n % 8) same ∙ whole;
        least = omega arith;
        most = omega arith;
      };
    }

-- ---- a page

-- the link of a page that isn't the last of its level
pub link-before : (block end : ℕ) → block + 1 < end → link_behind block end ≡ block + 1
link-before block end before = ap (λ (b : Bool). cond b (block + 1) no_link) (lt-ltb (block + 1) end before)

-- tuples that a page has have room there
pub have_room : (kind : ColType) (flags : ℕ) (items : List Item) (page : FullPage) → HasItems kind flags items page → HaveRoom (tuples_of items)
have_room kind flags items page has = let taken = fill-is flags items has.tuples in let room = has.room in omega arith

-- a page placed behind the others
pub page-placed : (block end : ℕ) (old new linked : List ℕ) (full : FullPage)
    → block * 8192 ≡ length old → new ≡ old ++ linked
    → ((flags : ℕ) → (tuples : List (List ℕ)) → HaveRoom tuples → full.page ≡ entry_page flags no_link tuples
    → linked ≡ entry_page flags (link_behind block end) tuples)
    → PlacesPage old new full end
page-placed block end old new linked full here is links =
    λ kind flags items has.
    let number : block ≡ block_count old = omega arith in
    is
    ∙ ap (λ (page : List ℕ). old ++ page) (links flags (tuples_of items) (have_room kind flags items full has) has.bytes)
    ∙ ap (λ (b : ℕ). old ++ entry_page flags (link_behind b end) (tuples_of items)) number

-- what leads to it is put into the level above
pub link-put : (block : ℕ) (file key : List ℕ) (full : FullPage) (old new : Level)
    → block * 8192 ≡ length file → key ≡ written (row_pointer_bytes (record { block = block; offset = 0 })) 0 full.key.items
    → PutsItem old new key key → LeadsToPage file full old new
link-put block file key full old new here is puts =
    λ kind flags items entry links has greatest_is put.
    let number : block ≡ block_count file = omega arith in
    let names : NamesEntry kind entry full.key.items = has.key entry greatest_is in
    let tuple : key ≡ inner_tuple kind (record { child = block_count file; key = entry }) =
    is ∙ led kind entry block full.key.items names ∙ ap (λ (b : ℕ). inner_tuple kind (record { child = b; key = entry })) number in
    subst (λ (t : List ℕ). IsLevelOf kind inner_flags (links ++ record { entry = entry; tuple = t } ∷ []) new) tuple
    (puts kind inner_flags links entry put (led-names kind entry block full.key.items key names is))

-- the level above takes it
pub link-takes : (block : ℕ) (key : List ℕ) (full : FullPage) (above : Level)
    → key ≡ written (row_pointer_bytes (record { block = block; offset = 0 })) 0 full.key.items → CanPlace above full → Takes above key key
link-takes block key full above is can =
    let names = led-names can.kind can.entry block full.key.items key (can.has.key can.entry can.greatest_is) is in
    record {
      kind = can.kind;
      flags = inner_flags;
      items = can.links;
      has = can.put;
      entry = can.entry;
      names = names;
      tuple_is = names.tuple_is;
    }
