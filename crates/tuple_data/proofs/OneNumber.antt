-- One number at most of a form is stored in the same bytes.
use Rattle.std.proofs.Common.{◌≡◌, ℕ, ◌%◌, ◌^◌, ℤ, pos, negsuc, List, [], ◌++◌, length, take, refl, sym, ap, subst, ◌∙◌, inl, inr, arith}
use Rattle.std.proofs.Math.Nat.{div-one}
use Rattle.std.proofs.Math.Seq.{take-append_seam}
use Rattle.std.proofs.lemmas.List.{append-nil}
use Rattle.std.proofs.lemmas.Int.{ints}
use Rattle.std.specs.Int.{w64, cast_unsigned}
use Rattle.byteorder.specs.Endian.{little_number}
use Rattle.byteorder.specs.Numbers.{little_from-bytes}
use Rattle.pg_bytes.specs.Numbers.{number_bytes}
use Rattle.opclass.specs.declared.types.ColType.{ColType}
use Rattle.opclass.specs.declared.types.ColType.TheVariants as ty
use Rattle.opclass.specs.declared.types.Form.{Form}
use Rattle.opclass.specs.declared.types.Form.TheVariants.{Truth, Signed, Unsigned, Bytes, Array}
use Rattle.opclass.specs.declared.types.Width.TheVariants.{Fixed}
use Rattle.opclass.specs.Types.{facts_of}
use Rattle.opclass.specs.Values.{IsNumberOf}
use Rattle.tuple_data.specs.Reading.{IsFit, IsStored}

two : IsFit Signed (Fixed 2)
two = inl refl

four : IsFit Signed (Fixed 4)
four = inr (inl refl)

eight : IsFit Signed (Fixed 8)
eight = inr (inr refl)

pub widths_fit : (kind : ColType) → IsStored (facts_of kind).form → IsFit (facts_of kind).form (facts_of kind).width
widths_fit ty.Bool stored = refl
widths_fit ty.Int2 stored = two
widths_fit ty.Int4 stored = four
widths_fit ty.Int8 stored = eight
widths_fit ty.Oid stored = refl
widths_fit ty.Date stored = four
widths_fit ty.Timestamp stored = eight
widths_fit ty.Timestamptz stored = eight
widths_fit ty.Time stored = eight
widths_fit ty.Uuid stored = tt
widths_fit ty.Text stored = tt
widths_fit ty.Varchar stored = tt
widths_fit ty.Bytea stored = tt
widths_fit ty.Float4 stored = tt
widths_fit ty.Float8 stored = tt
widths_fit ty.Numeric stored = tt
widths_fit ty.Bpchar stored = tt
widths_fit ty.Name stored = tt
widths_fit ty.Interval stored = tt
widths_fit ty.Json stored = tt
widths_fit ty.Jsonb stored = tt
widths_fit ty.Int4Array stored = absurd stored
widths_fit ty.Int8Array stored = absurd stored
widths_fit ty.TextArray stored = absurd stored

-- bytes in front that are as many
pub front_once : (x y b c : List ℕ) → length x ≡ length y → x ++ b ≡ y ++ c → x ≡ y
front_once x y b c same e =
    sym (take-append_seam x b) ∙ ap (take (length x)) e ∙ ap (λ n. take n (y ++ c)) same ∙ take-append_seam y c

pub number_back : (width x : ℕ) → little_number width (number_bytes width x) ≡ x % 256 ^ width
unfolding number_bytes
number_back width x =
    ap (little_number width) (sym (append-nil (number_bytes width x)))
    ∙ little_from-bytes width 0 x []
    ∙ ap (λ y. y % 256 ^ width) (div-one x)

pub low_once : (width x y : ℕ) → number_bytes width x ≡ number_bytes width y → x % 256 ^ width ≡ y % 256 ^ width
low_once width x y e = sym (number_back width x) ∙ ap (little_number width) e ∙ number_back width y

signed2 : (n m : ℤ) → IsNumberOf Signed (Fixed 2) n → IsNumberOf Signed (Fixed 2) m
    → cast_unsigned w64 n % 256 ^ 2 ≡ cast_unsigned w64 m % 256 ^ 2 → n ≡ m
signed2 (pos n) (pos m) is has e = omega (arith, ints)
signed2 (pos n) (negsuc m) is has e = omega (arith, ints)
signed2 (negsuc n) (pos m) is has e = omega (arith, ints)
signed2 (negsuc n) (negsuc m) is has e = omega (arith, ints)

signed4 : (n m : ℤ) → IsNumberOf Signed (Fixed 4) n → IsNumberOf Signed (Fixed 4) m
    → cast_unsigned w64 n % 256 ^ 4 ≡ cast_unsigned w64 m % 256 ^ 4 → n ≡ m
signed4 (pos n) (pos m) is has e = omega (arith, ints)
signed4 (pos n) (negsuc m) is has e = omega (arith, ints)
signed4 (negsuc n) (pos m) is has e = omega (arith, ints)
signed4 (negsuc n) (negsuc m) is has e = omega (arith, ints)

signed8 : (n m : ℤ) → IsNumberOf Signed (Fixed 8) n → IsNumberOf Signed (Fixed 8) m
    → cast_unsigned w64 n % 256 ^ 8 ≡ cast_unsigned w64 m % 256 ^ 8 → n ≡ m
signed8 (pos n) (pos m) is has e = omega (arith, ints)
signed8 (pos n) (negsuc m) is has e = omega (arith, ints)
signed8 (negsuc n) (pos m) is has e = omega (arith, ints)
signed8 (negsuc n) (negsuc m) is has e = omega (arith, ints)

unsigned4 : (n m : ℤ) → IsNumberOf Unsigned (Fixed 4) n → IsNumberOf Unsigned (Fixed 4) m
    → cast_unsigned w64 n % 256 ^ 4 ≡ cast_unsigned w64 m % 256 ^ 4 → n ≡ m
unsigned4 (pos n) (pos m) is has e = omega (arith, ints)
unsigned4 (pos n) (negsuc m) is has e = omega (arith, ints)
unsigned4 (negsuc n) (pos m) is has e = omega (arith, ints)
unsigned4 (negsuc n) (negsuc m) is has e = omega (arith, ints)

truth1 : (n m : ℤ) → IsNumberOf Truth (Fixed 1) n → IsNumberOf Truth (Fixed 1) m
    → cast_unsigned w64 n % 256 ^ 1 ≡ cast_unsigned w64 m % 256 ^ 1 → n ≡ m
truth1 n m is has e = elim is [
  | inl zero_n ↦ elim has [ inl zero_m ↦ zero_n ∙ sym zero_m | inr one_m ↦ absurd (apart n m 0 1 zero_n one_m e (omega arith)) ]
  | inr one_n ↦ elim has [ inl zero_m ↦ absurd (apart n m 1 0 one_n zero_m e (omega arith)) | inr one_m ↦ one_n ∙ sym one_m ]
]
  where
    apart : (n m : ℤ) (a b : ℕ) → n ≡ pos a → m ≡ pos b → cast_unsigned w64 n % 256 ^ 1 ≡ cast_unsigned w64 m % 256 ^ 1 → (a % 256 ≡ b % 256 → ⊥) → ⊥
    apart n m a b is has e other = other (ap (λ (i : ℤ). cast_unsigned w64 i % 256 ^ 1) (sym is) ∙ e ∙ ap (λ (i : ℤ). cast_unsigned w64 i % 256 ^ 1) has)

SameLow : Form → ℕ → Type 0
SameLow form width =
    (n m : ℤ) → IsNumberOf form (Fixed width) n → IsNumberOf form (Fixed width) m
    → cast_unsigned w64 n % 256 ^ width ≡ cast_unsigned w64 m % 256 ^ width → n ≡ m

same_low : (form : Form) (width : ℕ) → IsFit form (Fixed width) → SameLow form width
unfolding SameLow
same_low Truth width fit = subst (SameLow Truth) (sym fit) truth1
same_low Signed width fit = elim fit [
  | inl is ↦ subst (SameLow Signed) (sym is) signed2
  | inr more ↦ elim more [ inl is ↦ subst (SameLow Signed) (sym is) signed4 | inr is ↦ subst (SameLow Signed) (sym is) signed8 ]
]
same_low Unsigned width fit = subst (SameLow Unsigned) (sym fit) unsigned4
same_low Bytes width fit = λ n m is has e. absurd is
same_low (Array element) width fit = λ n m is has e. absurd is

pub number_once : (form : Form) (width : ℕ) (n m : ℤ) → IsFit form (Fixed width) → IsNumberOf form (Fixed width) n
    → IsNumberOf form (Fixed width) m → number_bytes width (cast_unsigned w64 n) ≡ number_bytes width (cast_unsigned w64 m) → n ≡ m
unfolding SameLow
number_once form width n m fit is has e =
    same_low form width fit n m is has (low_once width (cast_unsigned w64 n) (cast_unsigned w64 m) e)
