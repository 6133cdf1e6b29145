-- Pages are read as what they were written to say.
use Rattle.std.specs.Prelude.{◌≡◌, ◌≢◌, ℕ, ◌^◌, ◌<◌, Option, Some, None, List, ◌∷◌, length, drop, slice_get}
use Rattle.pg_bytes.specs.Laws.{HaveRoomBefore}
use Rattle.pg_bytes.specs.PageLayout.{page_size, special_of}
use Rattle.btree_page.specs.declared.meta.MetaPage.{MetaPage}
use Rattle.btree_page.specs.declared.special.SpecialSpace.{SpecialSpace}
use Rattle.btree_page.specs.Meta.{IsMetaOf, page_of_meta}
use Rattle.btree_page.specs.Node.{data_count, data_item, data_items, high_key, node_page}
use Rattle.btree_page.specs.SpecialSpace.{space_of_page, special_bytes, special_start}

-- the fields have their widths
pub record IsSpace (space : SpecialSpace) : Type 0 where
  pub prev : space.prev < 2 ^ 32
  pub next : space.next < 2 ^ 32
  pub level : space.level < 2 ^ 32
  pub flags : space.flags < 2 ^ 16
  pub cycle : space.cycle < 2 ^ 16

pub record IsMeta (meta : MetaPage) : Type 0 where
  pub root : meta.root < 2 ^ 32
  pub level : meta.level < 2 ^ 32
  pub fast_root : meta.fast_root < 2 ^ 32
  pub fast_level : meta.fast_level < 2 ^ 32
  pub deleted_pages : meta.deleted_pages < 2 ^ 32

-- the meta page is read as what it says, and as nothing else
pub record MetaIsReadBack : Type 0 where
  pub read : (meta : MetaPage) → IsMeta meta → IsMetaOf (page_of_meta meta) meta
  pub one : (page : List ℕ) (meta other : MetaPage) → IsMetaOf page meta → IsMetaOf page other → meta ≡ other

-- a high key is there exactly where the page has a right neighbour, and the items have room
abbrev pub GoTogether : SpecialSpace → Option (List ℕ) → List (List ℕ) → Type 0
GoTogether space None items = (space.next ≡ 0) × HaveRoomBefore (special_bytes space) items
GoTogether space (Some key) items = (space.next ≢ 0) × HaveRoomBefore (special_bytes space) (key ∷ items)

-- a page is read as this special space, this high key or none, and these items
pub record IsNodeOf (page : List ℕ) (space : SpecialSpace) (key : Option (List ℕ)) (items : List (List ℕ)) : Type 0 where
  pub size : length page ≡ page_size
  pub special_starts : special_of page ≡ special_start
  pub space_is : space_of_page page ≡ space
  pub high_key_is : high_key page ≡ key
  pub count : data_count page ≡ length items
  pub each : (number : ℕ) → data_item page number ≡ slice_get items number
  pub all : data_items page ≡ items

abbrev pub PagesAreReadBack : Type 0
PagesAreReadBack =
    (space : SpecialSpace) (key : Option (List ℕ)) (items : List (List ℕ)) → IsSpace space → GoTogether space key items
    → IsNodeOf (node_page space key items) space key items

-- a list of 8,192 bytes that ends with a special space says it
abbrev pub SpecialSpacesAreRead : Type 0
SpecialSpacesAreRead =
    (space : SpecialSpace) (page : List ℕ) → IsSpace space → drop special_start page ≡ special_bytes space
    → space_of_page page ≡ space
