-- What follows from the definitions of a root and of sound chains, whatever the page.
use Rattle.std.specs.Prelude.{◌≡◌, ℕ, List}
use Rattle.heap_page.specs.Line.{IsNormal}
use Rattle.hot_chain.specs.Chain.{IsHeapOnly}
use Rattle.hot_chain.specs.Roots.{IsLeastChainFault, IsLive, IsOrphan, IsRoot, HasSoundChains, Row, AreRows}

-- the item has a root and no other
abbrev pub HasOneRoot : List ℕ → ℕ → Type 0
HasOneRoot page item = (root : ℕ) × IsRoot page item root × ((other : ℕ) → IsRoot page item other → other ≡ root)

-- a live item has one root, unless it is an orphan
abbrev pub HasOneRootUnlessOrphan : Type 0
HasOneRootUnlessOrphan =
    (page : List ℕ) (item : ℕ) → IsLive page item → (IsOrphan page item → ⊥) → HasOneRoot page item

-- so each live item of a page with sound chains has one
abbrev pub EachHasOneRoot : Type 0
EachHasOneRoot = (page : List ℕ) (item : ℕ) → HasSoundChains page → IsLive page item → HasOneRoot page item

-- no two live items of a page with sound chains have the same root
abbrev pub RootsDiffer : Type 0
RootsDiffer =
    (page : List ℕ) (root a b : ℕ) → HasSoundChains page
    → IsLive page a → IsLive page b → IsRoot page a root → IsRoot page b root → a ≡ b

-- a heap-only tuple isn't its own root
abbrev pub HeapOnlyIsNoRoot : Type 0
HeapOnlyIsNoRoot = (page : List ℕ) (item : ℕ) → IsNormal page item → IsHeapOnly page item → IsRoot page item item → ⊥

-- a page has one list of rows at most
abbrev pub RowsAreDetermined : Type 0
RowsAreDetermined = (page : List ℕ) (a b : List Row) → AreRows page a → AreRows page b → a ≡ b

-- a page's chains have one least fault at most
abbrev pub LeastChainFaultIsOne : Type 0
LeastChainFaultIsOne =
    (page : List ℕ) (item cause item' cause' : ℕ)
    → IsLeastChainFault page item cause → IsLeastChainFault page item' cause' → (item ≡ item') × (cause ≡ cause')
