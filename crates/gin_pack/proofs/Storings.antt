-- How an entry is stored behind others.
use Rattle.std.proofs.Common.{◌≡◌, ℕ, ◌+◌, ◌*◌, ◌%◌, ◌<◌, ◌≤◌, List, [], ◌∷◌, ◌++◌, length, refl, sym, ap, subst, ◌∙◌, arith, length-append, inl, inr}
use Rattle.std.proofs.lemmas.Bool.{cases_lt}
use Rattle.std.specs.Prelude.{Option, Some, None, map}
use Rattle.std.specs.List.{AllByRecursion, flat_map, range_with_len, sum_by}
use Rattle.std.proofs.lemmas.Grind.{flat_map-append}
use Rattle.std.proofs.lemmas.List.{append-nil, map-append}
use Rattle.std.proofs.lemmas.List.Sums.{sum_by-append}
use Rattle.pg_bytes.specs.Blocks.{block_at, block_count}
use Rattle.pg_bytes.specs.PageLayout.{page_size}
use Rattle.pg_bytes.specs.declared.row_ptr.RowPtr.{RowPtr}
use Rattle.opclass.specs.declared.types.ColType.{ColType}
use Rattle.gin_entry.specs.declared.entry.Entry.{Entry}
use Rattle.gin_entry.specs.EntryMap.{Posting}
use Rattle.gin_entry.specs.EntrySize.{entry_size}
use Rattle.posting_tree.specs.Levels.{Node, nodes_of}
use Rattle.posting_tree.specs.PostingTree.{AddsTree, inner_kind as list_inner_kind, leaf_kind as list_leaf_kind}
use Rattle.posting_tree.specs.Special.{leaf_flag}
use Rattle.gin_file.specs.EntryTree.{Item}
use Rattle.gin_file.specs.EntryTuple.{leading_tuple, list_size, list_tuple, most_size, tree_tuple, IsTuple}
use Rattle.gin_pack.specs.File.{ListTree, Stored, blocks_of, item_of, nodes_apart, pages_apart, tuple_of}
use Rattle.gin_file.specs.Entry.{IsEntry}
use Rattle.gin_pack.specs.Pass.Filling.{IsLevelOf, NamesEntry, PutsItem, Takes}
use Rattle.gin_pack.specs.Postings.{IsListed}
use Rattle.gin_pack.specs.Pass.Storing.{IsStoredIn, IsStoring, IsWithin, PutsTuple, Stores}
use Rattle.gin_pack.specs.declared.level.Level.{Level}
use Rattle.gin_pack.specs.declared.store.EntryStore.{EntryStore}
use Rattle.gin_pack.proofs.Blocks.{block-kept, bytes_of, range-append, stand-kept}
use Rattle.gin_file.proofs.EntryTuples.{leading-is_tuple, list-is_tuple}
use Rattle.gin_file.proofs.SegmentFronts.{segment-least}
use Rattle.gin_pack.proofs.ListTrees.{added-stands, sized-tree}
use Rattle.gin_pack.proofs.Places.{all-push}

-- ---- what is stored stays stored

within-kept : (old new : List ℕ) (nodes : List Node) → length old ≤ length new → AllByRecursion (IsWithin old) nodes → AllByRecursion (IsWithin new) nodes
within-kept old new [] longer all = tt
within-kept old new (node ∷ nodes) longer all =
    let below = all.0.below in
    (record { from = all.0.from; below = omega arith }, within-kept old new nodes longer all.1)

same-blocks : (old more : List ℕ) (nodes : List Node) → AllByRecursion (IsWithin old) nodes
    → AllByRecursion (λ node. block_at node.block (old ++ more) ≡ block_at node.block old) nodes
same-blocks old more [] all = tt
same-blocks old more (node ∷ nodes) all = (block-kept node.block old more all.0.below, same-blocks old more nodes all.1)

-- an entry that is stored stays so when the image grows
stored-kept : (kind : ColType) (old more : List ℕ) (stored : Stored) → IsStoredIn kind old stored → IsStoredIn kind (old ++ more) stored
stored-kept kind old more stored is = kept stored.posting stored.apart is
  where
    kept : (posting : Posting) (apart : Option ListTree) → IsStoredIn kind old (record { posting = posting; apart = apart })
        → IsStoredIn kind (old ++ more) (record { posting = posting; apart = apart })
    kept posting None is = record { listed = is.listed; list = is.list; within = tt }
    kept posting (Some apart) is =
        let nodes : List Node = nodes_of list_leaf_kind list_inner_kind apart.tree in
        let long = length-append old more in
        let longer : length old ≤ length (old ++ more) = omega arith in
        record {
          listed = is.listed;
          list = record {
            large = is.list.large;
            tree = is.list.tree;
            root = is.list.root;
            stands = stand-kept old (old ++ more) nodes (same-blocks old more nodes is.within) is.list.stands;
          };
          within = within-kept old (old ++ more) nodes longer is.within;
        }

all-kept : (kind : ColType) (old more : List ℕ) (stored : List Stored) → AllByRecursion (IsStoredIn kind old) stored → AllByRecursion (IsStoredIn kind (old ++ more)) stored
all-kept kind old more [] all = tt
all-kept kind old more (each ∷ stored) all = (stored-kept kind old more each all.0, all-kept kind old more stored all.1)

-- ---- the tuple of one entry

-- many pointers have no room
pub many-large : (kind : ColType) (entry : Entry) (pointers : List RowPtr) → most_size < length pointers → list_size kind entry pointers ≤ most_size → ⊥
many-large kind entry pointers many small = let least = segment-least pointers in omega arith

-- a list that has room has few pointers
pub few-pointers : (kind : ColType) (entry : Entry) (pointers : List RowPtr) → list_size kind entry pointers ≤ most_size → length pointers ≤ most_size
few-pointers kind entry pointers small = let least = segment-least pointers in omega arith

pub puts-list : (old new : EntryStore) (posting : Posting) → IsListed old.kind posting
    → list_size old.kind posting.entry posting.pointers ≤ most_size
    → new.tuple.items ≡ list_tuple old.kind posting.entry posting.pointers
    → new.image ≡ old.image → new.kind ≡ old.kind → new.leaves ≡ old.leaves → new.entries ≡ old.entries → PutsTuple old new posting
puts-list old new posting listed small tuple image kind leaves entries = record {
  apart = None;
  tuple_is = tuple;
  stored = record { listed = listed; list = small; within = tt };
  more = [];
  image = image ∙ sym (append-nil old.image);
  pages = refl;
  given = refl;
  kind = kind;
  leaves = leaves;
  entries = entries;
}

pub puts-tree : (old new : EntryStore) (posting : Posting) (root : ℕ) → IsListed old.kind posting
    → (list_size old.kind posting.entry posting.pointers ≤ most_size → ⊥)
    → length old.image % page_size ≡ 0 → 2 * page_size ≤ length old.image
    → AddsTree old.image new.image root posting.pointers
    → new.tuple.items ≡ tree_tuple old.kind posting.entry root
    → new.kind ≡ old.kind → new.leaves ≡ old.leaves → new.entries ≡ old.entries → PutsTuple old new posting
puts-tree old new posting root listed large whole begun adds tuple kind leaves entries =
    let nodes : List Node = nodes_of list_leaf_kind list_inner_kind adds.tree in
    let stands = added-stands old.image new.image nodes whole begun (sized-tree adds.tree adds.is_tree.levels) adds.blocks adds.bytes in
    let more_than : most_size < list_size old.kind posting.entry posting.pointers = above _ large in
    record {
      apart = Some (record { tree = adds.tree; root = root });
      tuple_is = tuple;
      stored = record {
        listed = listed;
        list = record { large = more_than; tree = adds.is_tree; root = adds.root_is; stands = stands.there };
        within = stands.within;
      };
      more = bytes_of nodes;
      image = adds.bytes;
      pages = stands.longer;
      given = adds.blocks;
      kind = kind;
      leaves = leaves;
      entries = entries;
    }
  where
    above : (n : ℕ) → (n ≤ most_size → ⊥) → most_size < n
    above n large = elim (cases_lt most_size n) [ inl more ↦ more | inr less ↦ absurd (large less) ]

-- the tuple of an entry that is stored
pub stored-tuple : (kind : ColType) (file : List ℕ) (posting : Posting) (apart : Option ListTree)
    → IsStoredIn kind file (record { posting = posting; apart = apart }) → IsTuple (tuple_of kind (record { posting = posting; apart = apart }))
stored-tuple kind file posting None is = list-is_tuple kind posting.entry posting.pointers is.listed.is_entry.entry_is is.list
stored-tuple kind file posting (Some apart) is = leading-is_tuple kind posting.entry _ is.listed.is_entry.entry_is is.listed.small

pub names : (kind : ColType) (entry : Entry) (bytes : List ℕ) → IsEntry entry → entry_size kind entry ≤ most_size
    → bytes ≡ leading_tuple kind entry (record { block = 0; offset = 0 }) → NamesEntry kind entry bytes
names kind entry bytes is small are = record {
  child = 0;
  are = are;
  tuple_is = subst IsTuple (sym are) (leading-is_tuple kind entry (record { block = 0; offset = 0 }) is small);
}

-- ---- one entry more

pub store-takes : (old put : EntryStore) (posting : Posting) (key : List ℕ) → IsStoring old → PutsTuple old put posting
    → NamesEntry old.kind posting.entry key → Takes old.leaves put.tuple.items key
store-takes old put posting key storing puts naming = record {
  kind = old.kind;
  flags = leaf_flag;
  items = map (item_of old.kind) storing.stored;
  has = storing.has.level.put;
  entry = posting.entry;
  names = naming;
  tuple_is = subst IsTuple (sym puts.tuple_is) (stored-tuple old.kind put.image posting puts.apart puts.stored);
}

pub entry-stored : (old put new : EntryStore) (posting : Posting) (key : List ℕ) → PutsTuple old put posting
    → NamesEntry old.kind posting.entry key → PutsItem old.leaves new.leaves put.tuple.items key
    → new.kind ≡ put.kind → new.image ≡ put.image → new.entries ≡ put.entries + 1 → Stores old new posting
entry-stored old put new posting key puts naming item same_kind same_image counted =
    λ kind stored has.
    let is : old.kind ≡ kind = has.kind_is in
    let one : Stored = record { posting = posting; apart = puts.apart } in
    let image : new.image ≡ old.image ++ puts.more = same_image ∙ puts.image in
    let pages = puts.pages in
    let grown = has.grown in
    let count = has.count in
    let long = ap length image ∙ length-append old.image puts.more in
    let sum = sum_by-append pages_apart stored (one ∷ []) in
    let was = puts.entries in (
      puts.apart,
      record {
        kind_is = same_kind ∙ puts.kind ∙ is;
        lists =
            all-push (IsStoredIn kind new.image) stored one
            (subst (λ (file : List ℕ). AllByRecursion (IsStoredIn kind file) stored) (sym image) (all-kept kind old.image puts.more stored has.lists))
            (subst (λ (file : List ℕ). IsStoredIn kind file one) (sym same_image) (subst (λ (k : ColType). IsStoredIn k put.image one) is puts.stored));
        level =
            subst (λ (items : List Item). IsLevelOf kind leaf_flag items new.leaves)
            (ap (λ (t : List ℕ). map (item_of kind) stored ++ record { entry = posting.entry; tuple = t } ∷ []) (puts.tuple_is ∙ ap (λ (k : ColType). tuple_of k one) is)
            ∙ sym (map-append (item_of kind) stored (one ∷ [])))
            (item kind leaf_flag (map (item_of kind) stored) posting.entry has.level.put (subst (λ (k : ColType). NamesEntry k posting.entry key) is naming));
        count = let longer = length-append stored (one ∷ []) in omega arith;
        grown = omega arith;
        given =
            ap blocks_of (flat_map-append nodes_apart stored (one ∷ []) ∙ ap (λ (l : List Node). flat_map nodes_apart stored ++ l) (append-nil (nodes_apart one)))
            ∙ map-append (λ (n : Node). n.block) (flat_map nodes_apart stored) (nodes_apart one)
            ∙ ap (λ (l : List ℕ). l ++ blocks_of (nodes_apart one)) has.given
            ∙ ap (λ (l : List ℕ). range_with_len 2 (sum_by pages_apart stored) ++ l) (puts.given
            ∙ ap (λ (b : ℕ). range_with_len b (pages_apart one)) (let e : block_count old.image ≡ 2 + sum_by pages_apart stored = omega arith in e))
            ∙ range-append 2 (sum_by pages_apart stored) (pages_apart one)
            ∙ ap (range_with_len 2) (let e : sum_by pages_apart stored + pages_apart one ≡ sum_by pages_apart (stored ++ one ∷ []) = omega arith in e);
      },
    )

-- ---- by other names

pub takes-same : (a b : Level) (tuple tuple' key key' : List ℕ) → a ≡ b → tuple ≡ tuple' → key ≡ key' → Takes b tuple' key' → Takes a tuple key
takes-same a b tuple tuple' key key' same_level same_tuple same_key takes =
    subst (λ (l : Level). Takes l tuple key) (sym same_level)
    (subst (λ (t : List ℕ). Takes b t key) (sym same_tuple) (subst (λ (k : List ℕ). Takes b tuple' k) (sym same_key) takes))

pub puts-same : (a b new : Level) (tuple tuple' key key' : List ℕ) → a ≡ b → tuple ≡ tuple' → key ≡ key' → PutsItem a new tuple key → PutsItem b new tuple' key'
puts-same a b new tuple tuple' key key' same_level same_tuple same_key puts =
    let One : Level → Type 0 = λ l. PutsItem l new tuple key in
    let Two : List ℕ → Type 0 = λ t. PutsItem b new t key in
    let Three : List ℕ → Type 0 = λ k. PutsItem b new tuple' k in
    subst Three same_key (subst Two same_tuple (subst One same_level puts))
