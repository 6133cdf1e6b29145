-- Tuples one behind the other in a buffer, told apart by their sizes.
use Rattle.std.specs.Prelude.{◌≡◌, ℕ, ◌+◌, ◌-◌, ◌<◌, List, [], ◌∷◌, length, map, take, drop}
use Rattle.std.specs.List.{sum_by}
use Rattle.btree_pack.specs.Pass.Run.{Leaf}
use Rattle.btree_pack.specs.declared.leaves.LeafPlace.{LeafPlace}
use Rattle.btree_pack.specs.declared.leaves.LeafSize.{LeafSize}

abbrev pub cut_by : List ℕ → List ℕ → List (List ℕ)
cut_by [] bytes = []
cut_by (size ∷ sizes) bytes = take size bytes ∷ cut_by sizes (drop size bytes)

-- tuples of these sizes
abbrev pub tuples_cut : List LeafSize → List ℕ → List (List ℕ)
tuples_cut sizes bytes = cut_by (map (λ size. size.tuple) sizes) bytes

-- the sizes of a leaf tuple and of its separator
abbrev pub size_of : Leaf → LeafSize
size_of leaf = record { tuple = length leaf.tuple; extra = leaf.extra; separator = length leaf.separator }

-- so many leaf tuples from a number on
abbrev pub leaves_from : ℕ → ℕ → List Leaf → List Leaf
leaves_from number count leaves = take count (drop number leaves)

-- the leaf tuples from a number up to another
abbrev pub leaves_between : ℕ → ℕ → List Leaf → List Leaf
leaves_between first last leaves = leaves_from first (last - first + 1) leaves

-- where the leaf tuple of a number begins among the tuples, and its separator among the separators
abbrev pub place_of : ℕ → List Leaf → LeafPlace
place_of number leaves = record {
  number = number;
  tuple = sum_by (λ leaf. length leaf.tuple) (take number leaves);
  separator = sum_by (λ leaf. length leaf.separator) (take number leaves);
}

-- the place of one of these leaf tuples
pub record IsPlaceIn (leaves : List Leaf) (place : LeafPlace) : Type 0 where
  pub inside : place.number < length leaves
  pub is : place ≡ place_of place.number leaves

-- a leaf tuple that some bytes begin with, and its separator, which others begin with
abbrev pub leaf_cut : LeafSize → List ℕ → List ℕ → Leaf
leaf_cut size tuples separators = record {
  tuple = take size.tuple tuples;
  extra = size.extra;
  separator = take size.separator separators;
}

abbrev pub leaves_cut : List LeafSize → List ℕ → List ℕ → List Leaf
leaves_cut [] tuples separators = []
leaves_cut (size ∷ sizes) tuples separators =
    leaf_cut size tuples separators ∷ leaves_cut sizes (drop size.tuple tuples) (drop size.separator separators)

abbrev pub tuples_size : List LeafSize → ℕ
tuples_size sizes = sum_by (λ size. size.tuple) sizes

abbrev pub separators_size : List LeafSize → ℕ
separators_size sizes = sum_by (λ size. size.separator) sizes

-- the sizes of all leaf tuples and separators of two buffers
pub record AreSizes (sizes : List LeafSize) (tuple_bytes separator_bytes : List ℕ) : Type 0 where
  pub tuples : tuples_size sizes ≡ length tuple_bytes
  pub separators : separators_size sizes ≡ length separator_bytes
