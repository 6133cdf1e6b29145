-- How large the tuple of an entry is (GinFormTuple of ginentrypage.c, index_form_tuple of indextuple.c,
-- GinCategoryOffset of ginblock.h).
use Rattle.std.specs.Prelude.{ℕ, ◌+◌, ◌==◌, if◌then◌else◌, List, [], ◌∷◌, length}
use Rattle.pg_bytes.specs.Numbers.{rounded_up}
use Rattle.opclass.specs.declared.types.ColType.{ColType}
use Rattle.opclass.specs.declared.types.Form.{Form}
use Rattle.opclass.specs.declared.types.Form.TheVariants.{Array}
use Rattle.opclass.specs.Types.{facts_of}
use Rattle.tuple_data.specs.Data.{data_of}
use Rattle.gin_entry.specs.declared.entry.Category.TheVariants.{Key}
use Rattle.gin_entry.specs.declared.entry.Entry.{Entry}
use Rattle.gin_entry.specs.Entries.{number_of_category}

-- the column of a key: of the type of an array's elements
abbrev pub key_kinds : Form → List ColType
key_kinds (Array element) = element ∷ []
key_kinds other = []

-- the data of an entry's key
abbrev pub key_data : ColType → Entry → List ℕ
key_data kind entry = data_of (key_kinds (facts_of kind).form) (entry.key ∷ [])

-- Where what an entry is ends in its tuple. A key is the one value of an index tuple, whose head has 8 bytes. The
-- placeholders are the tuple of a null, 16 bytes with its bitmap, and a byte behind it has the category.
abbrev pub key_end : ColType → Entry → ℕ
key_end kind entry =
    if entry.category == number_of_category Key then rounded_up 8 (8 + length (key_data kind entry)) else 17

-- where the posting list begins
abbrev pub list_place : ColType → Entry → ℕ
list_place kind entry = rounded_up 2 (key_end kind entry)

-- the size of the tuple whose posting list stands in a tree of its own
abbrev pub entry_size : ColType → Entry → ℕ
entry_size kind entry = rounded_up 8 (list_place kind entry)
