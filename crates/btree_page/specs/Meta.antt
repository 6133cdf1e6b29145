-- The meta page of a B-tree, block 0 (BTMetaPageData of nbtree.h).
use Rattle.std.specs.Prelude.{◌≡◌, ℕ, ◌+◌, ◌-◌, Bool, if◌then◌else◌, List, ◌∷◌, ◌++◌}
use Rattle.pg_bytes.specs.Numbers.{number_at, number_bytes}
use Rattle.pg_bytes.specs.Places.{zeros}
use Rattle.pg_bytes.specs.PageLayout.{header_size, lower_of, page_header}
use Rattle.btree_page.specs.declared.meta.MetaPage.{MetaPage}
use Rattle.btree_page.specs.declared.special.PageFlag.TheVariants.{Leaf, Root, Meta}
use Rattle.btree_page.specs.SpecialSpace.{HasFlag, flag_bit, space_of_page, special_space, special_start}

-- BTREE_MAGIC and BTREE_VERSION
abbrev pub btree_magic : ℕ
btree_magic = 0x053162

abbrev pub btree_version : ℕ
btree_version = 4

-- btm_last_cleanup_num_heap_tuples: the double -1.0, since no cleanup counted them
abbrev pub never_counted : ℕ
never_counted = 0xBFF0000000000000

-- where the fields end, which are 48 bytes (sizeof(BTMetaPageData))
abbrev pub meta_end : ℕ
meta_end = header_size + 48

-- btm_allequalimage
abbrev pub image_byte : Bool → ℕ
image_byte equal_images = if equal_images then 1 else 0

-- the fields: magic and version, the root and its level, the fast root and its level, the pages that the last cleanup
-- found deleted, padding, the heap tuples that it counted, and whether equal keys have equal images
unfoldable pub meta_fields : MetaPage → List ℕ
meta_fields meta =
    number_bytes 4 btree_magic ++ (number_bytes 4 btree_version
    ++ (number_bytes 4 meta.root ++ (number_bytes 4 meta.level
    ++ (number_bytes 4 meta.fast_root ++ (number_bytes 4 meta.fast_level
    ++ (number_bytes 4 meta.deleted_pages ++ (zeros 4
    ++ (number_bytes 8 never_counted ++ (image_byte meta.equal_images ∷ zeros 7)))))))))

-- the page that says this
unfoldable pub page_of_meta : MetaPage → List ℕ
page_of_meta meta =
    page_header meta_end special_start special_start
    ++ (meta_fields meta ++ (zeros (special_start - meta_end) ++ special_space 0 0 0 (flag_bit Meta)))

-- What the meta page of an index says that was built: the fast root is the root, and no cleanup has been. Block and
-- level are 0 where the index has no rows.
abbrev pub meta_built : ℕ → ℕ → Bool → MetaPage
meta_built root level equal_images = record {
  root = root;
  level = level;
  fast_root = root;
  fast_level = level;
  deleted_pages = 0;
  equal_images = equal_images;
}

abbrev pub meta_page : ℕ → ℕ → Bool → List ℕ
meta_page root level equal_images = page_of_meta (meta_built root level equal_images)

-- the flags that tell kinds of pages are those of a meta page
pub record IsMetaKind (page : List ℕ) : Type 0 where
  pub is_meta : HasFlag Meta (space_of_page page).flags
  pub no_leaf : HasFlag Leaf (space_of_page page).flags → ⊥
  pub no_root : HasFlag Root (space_of_page page).flags → ⊥

-- a page has what is the same on each meta page
pub record HasConstants (page : List ℕ) : Type 0 where
  pub kind : IsMetaKind page
  pub lower : lower_of page ≡ meta_end
  pub magic : number_at 4 page header_size ≡ btree_magic
  pub version : number_at 4 page (header_size + 4) ≡ btree_version
  pub padding : number_at 4 page (header_size + 28) ≡ 0
  pub counted : number_at 8 page (header_size + 32) ≡ never_counted

-- a page has the fields of a meta page, and says this
pub record IsMetaOf (page : List ℕ) (meta : MetaPage) : Type 0 where
  pub constants : HasConstants page
  pub root : number_at 4 page (header_size + 8) ≡ meta.root
  pub level : number_at 4 page (header_size + 12) ≡ meta.level
  pub fast_root : number_at 4 page (header_size + 16) ≡ meta.fast_root
  pub fast_level : number_at 4 page (header_size + 20) ≡ meta.fast_level
  pub deleted_pages : number_at 4 page (header_size + 24) ≡ meta.deleted_pages
  pub equal_images : number_at 1 page (header_size + 40) ≡ image_byte meta.equal_images
