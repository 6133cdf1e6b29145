-- The pages of a BRIN file (brin_page.h): the meta page, those of the revmap, which tell where the tuple of each range
-- is, and regular pages, which have the tuples.
use Rattle.std.specs.Prelude.{◌≡◌, ℕ, ◌+◌, ◌-◌, ◌*◌, List, ◌++◌, length}
use Rattle.std.specs.List.{flat_map}
use Rattle.pg_bytes.specs.Numbers.{number_at, number_bytes}
use Rattle.pg_bytes.specs.Places.{zeros}
use Rattle.pg_bytes.specs.PageLayout.{header_size, lower_of, page_header, page_size}
use Rattle.pg_bytes.specs.ItemPage.{item_page}
use Rattle.pg_bytes.specs.Pointers.{row_pointer_at, row_pointer_bytes}
use Rattle.pg_bytes.specs.declared.row_ptr.RowPtr.{RowPtr}
use Rattle.brin_summary.specs.declared.meta.Meta.{Meta as MetaFields}
use Rattle.brin_summary.specs.declared.special.PageType.{PageType}
use Rattle.brin_summary.specs.declared.special.PageType.TheVariants.{Meta, Revmap, Regular}

-- the number of a page type: BRIN_PAGETYPE_META, BRIN_PAGETYPE_REVMAP and BRIN_PAGETYPE_REGULAR
abbrev pub type_number : PageType → ℕ
type_number Meta = 0xF091
type_number Revmap = 0xF092
type_number Regular = 0xF093

-- where the special space begins, of 8 bytes (sizeof(BrinSpecialSpace)), and where its flags and the page type stand
abbrev pub special_start : ℕ
special_start = page_size - 8

abbrev pub special_flags_place : ℕ
special_flags_place = special_start + 4

abbrev pub type_place : ℕ
type_place = special_start + 6

-- the special space: no flags, and the page type
unfoldable pub special_space : PageType → List ℕ
special_space page_type = zeros 6 ++ number_bytes 2 (type_number page_type)

-- the special space of a page has this type (BrinPageType)
abbrev pub HasType : PageType → List ℕ → Type 0
HasType page_type page = number_at 2 page type_place ≡ type_number page_type

-- BRIN_META_MAGIC and BRIN_CURRENT_VERSION
abbrev pub brin_magic : ℕ
brin_magic = 0xA8109CFA

abbrev pub brin_version : ℕ
brin_version = 1

-- where the meta page's fields end, which are 16 bytes (sizeof(BrinMetaPageData))
abbrev pub meta_end : ℕ
meta_end = header_size + 16

-- the meta page's fields (brin_metapage_init of brin_pageops.c): magic and version, the blocks of a range, and the last
-- page of the revmap
unfoldable pub meta_fields : ℕ → ℕ → List ℕ
meta_fields pages_per_range last_revmap =
    number_bytes 4 brin_magic
    ++ (number_bytes 4 brin_version ++ (number_bytes 4 pages_per_range ++ number_bytes 4 last_revmap))

-- block 0
unfoldable pub meta_page : ℕ → ℕ → List ℕ
meta_page pages_per_range last_revmap =
    page_header meta_end special_start special_start
    ++ (meta_fields pages_per_range last_revmap ++ (zeros (special_start - meta_end) ++ special_space Meta))

-- a page has the fields of a meta page, and these are the two that differ from index to index
pub record IsMetaOf (page : List ℕ) (meta : MetaFields) : Type 0 where
  pub page_type : HasType Meta page
  pub flags : number_at 2 page special_flags_place ≡ 0
  pub lower : lower_of page ≡ meta_end
  pub magic : number_at 4 page header_size ≡ brin_magic
  pub version : number_at 4 page (header_size + 4) ≡ brin_version
  pub pages_per_range : number_at 4 page (header_size + 8) ≡ meta.pages_per_range
  pub last_revmap : number_at 4 page (header_size + 12) ≡ meta.last_revmap

-- how many pointers a page of the revmap has, REVMAP_PAGE_MAXITEMS, and the bytes of one (sizeof(ItemPointerData))
abbrev pub revmap_items : ℕ
revmap_items = 1360

abbrev pub pointer_size : ℕ
pointer_size = 6

-- A page of the revmap with these pointers, and zeros behind them (RevmapContents of brin_page.h). They stand where
-- other pages have their hole: pd_lower is that of a page without line pointers.
unfoldable pub revmap_page : List RowPtr → List ℕ
revmap_page pointers =
    page_header header_size special_start special_start
    ++ (flat_map row_pointer_bytes pointers
    ++ (zeros (special_start - header_size - pointer_size * length pointers) ++ special_space Revmap))

-- the entry of this number of a page of the revmap, counted from 0 (HEAPBLK_TO_REVMAP_INDEX of brin_revmap.c)
abbrev pub revmap_entry : List ℕ → ℕ → RowPtr
revmap_entry page entry = row_pointer_at page (header_size + pointer_size * entry)

-- a regular page with these tuples
unfoldable pub regular_page : List (List ℕ) → List ℕ
regular_page tuples = item_page (special_space Regular) tuples
