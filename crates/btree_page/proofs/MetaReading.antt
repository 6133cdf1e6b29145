-- The meta page is read as what it was written to say.
use Rattle.std.proofs.Common.{◌≡◌, ℕ, ◌+◌, ◌<◌, ◌^◌, Bool, true, false, List, [], ◌∷◌, ◌++◌, length, drop, refl, sym, ap, ◌∙◌, arith, length-append}
use Rattle.std.proofs.lemmas.List.{append_assoc, drop_at}
use Rattle.pg_bytes.proofs.ItemPage.{length-page_header, lower_of-page_header}
use Rattle.pg_bytes.proofs.Writes.{length-number_bytes, length-zeros}
use Rattle.pg_bytes.specs.Numbers.{number_at, number_bytes}
use Rattle.pg_bytes.specs.PageLayout.{page_header}
use Rattle.pg_bytes.specs.Places.{zeros}
use Rattle.btree_page.proofs.MetaWrites.{length-meta_fields}
use Rattle.btree_page.proofs.SpaceReading.{number-between, space-read}
use Rattle.btree_page.specs.declared.meta.MetaPage.{MetaPage}
use Rattle.btree_page.specs.Laws.{IsMeta, MetaIsReadBack}
use Rattle.btree_page.specs.Meta.{IsMetaKind, IsMetaOf, image_byte, meta_fields, page_of_meta}
use Rattle.btree_page.specs.SpecialSpace.{space_of_page, special_space}

-- ---- its special space

front-of : MetaPage → List ℕ
front-of meta = page_header 72 8176 8176 ++ (meta_fields meta ++ zeros 8104)

ends-with : (meta : MetaPage) → drop 8176 (page_of_meta meta) ≡ special_space 0 0 0 8
unfolding page_of_meta front-of
ends-with meta =
    let whole : page_of_meta meta ≡ front-of meta ++ special_space 0 0 0 8 = simp append_assoc refl in
    let here : length (front-of meta) ≡ 8176 = simp (length-append, length-page_header, length-meta_fields, length-zeros) refl in
    ap (drop 8176) whole ∙ drop_at (front-of meta) (special_space 0 0 0 8) 8176 here

flags-are : (meta : MetaPage) → (space_of_page (page_of_meta meta)).flags ≡ 8
flags-are meta =
    ap (λ space. space.flags) (space-read _ (page_of_meta meta)
    (record { prev = omega arith; next = omega arith; level = omega arith; flags = omega arith; cycle = omega arith })
    (ends-with meta))

kind-is : (meta : MetaPage) → IsMetaKind (page_of_meta meta)
kind-is meta = record {
  is_meta = rw (flags-are meta) refl;
  no_leaf = rw (flags-are meta) (λ e. absurd (omega (arith, e)));
  no_root = rw (flags-are meta) (λ e. absurd (omega (arith, e)));
}

-- ---- its fields

-- the place of a number of eleven that follow the header
record Fields (meta : MetaPage) (page : List ℕ) : Type 0 where
  rest : List ℕ
  is : page ≡ page_header 72 8176 8176 ++ (number_bytes 4 0x053162 ++ (number_bytes 4 4
      ++ (number_bytes 4 meta.root ++ (number_bytes 4 meta.level ++ (number_bytes 4 meta.fast_root ++ (number_bytes 4 meta.fast_level
      ++ (number_bytes 4 meta.deleted_pages ++ (number_bytes 4 0 ++ (number_bytes 8 0xBFF0000000000000
      ++ (number_bytes 1 (image_byte meta.equal_images) ++ rest))))))))))

four-zeros : zeros 4 ≡ number_bytes 4 0
unfolding zeros number_bytes
four-zeros = refl

one-byte : (equal : Bool) → number_bytes 1 (image_byte equal) ≡ image_byte equal ∷ []
unfolding number_bytes
one-byte true = refl
one-byte false = refl

fields : (meta : MetaPage) → Fields meta (page_of_meta meta)
unfolding page_of_meta meta_fields
fields meta = record {
  rest = zeros 7 ++ (zeros 8104 ++ special_space 0 0 0 8);
  is = rw (← four-zeros, one-byte meta.equal_images) (simp append_assoc refl);
}

pub meta-read : (meta : MetaPage) → IsMeta meta → IsMetaOf (page_of_meta meta) meta
meta-read meta h =
    let f = fields meta in
    let p0 : List ℕ = page_header 72 8176 8176 in
    let w0 : List ℕ = number_bytes 4 0x053162 in
    let w1 : List ℕ = number_bytes 4 4 in
    let w2 : List ℕ = number_bytes 4 meta.root in
    let w3 : List ℕ = number_bytes 4 meta.level in
    let w4 : List ℕ = number_bytes 4 meta.fast_root in
    let w5 : List ℕ = number_bytes 4 meta.fast_level in
    let w6 : List ℕ = number_bytes 4 meta.deleted_pages in
    let w7 : List ℕ = number_bytes 4 0 in
    let w8 : List ℕ = number_bytes 8 0xBFF0000000000000 in
    let w9 : List ℕ = number_bytes 1 (image_byte meta.equal_images) in
    let p1 : List ℕ = p0 ++ w0 in
    let p2 : List ℕ = p1 ++ w1 in
    let p3 : List ℕ = p2 ++ w2 in
    let p4 : List ℕ = p3 ++ w3 in
    let p5 : List ℕ = p4 ++ w4 in
    let p6 : List ℕ = p5 ++ w5 in
    let p7 : List ℕ = p6 ++ w6 in
    let p8 : List ℕ = p7 ++ w7 in
    let p9 : List ℕ = p8 ++ w8 in
    let r9 : List ℕ = w9 ++ f.rest in
    let r8 : List ℕ = w8 ++ r9 in
    let r7 : List ℕ = w7 ++ r8 in
    let r6 : List ℕ = w6 ++ r7 in
    let r5 : List ℕ = w5 ++ r6 in
    let r4 : List ℕ = w4 ++ r5 in
    let r3 : List ℕ = w3 ++ r4 in
    let r2 : List ℕ = w2 ++ r3 in
    let r1 : List ℕ = w1 ++ r2 in
    let s0 : page_of_meta meta ≡ p0 ++ (w0 ++ r1) = f.is in
    let s1 : page_of_meta meta ≡ p1 ++ (w1 ++ r2) = s0 ∙ sym (append_assoc p0 w0 r1) in
    let s2 : page_of_meta meta ≡ p2 ++ (w2 ++ r3) = s1 ∙ sym (append_assoc p1 w1 r2) in
    let s3 : page_of_meta meta ≡ p3 ++ (w3 ++ r4) = s2 ∙ sym (append_assoc p2 w2 r3) in
    let s4 : page_of_meta meta ≡ p4 ++ (w4 ++ r5) = s3 ∙ sym (append_assoc p3 w3 r4) in
    let s5 : page_of_meta meta ≡ p5 ++ (w5 ++ r6) = s4 ∙ sym (append_assoc p4 w4 r5) in
    let s6 : page_of_meta meta ≡ p6 ++ (w6 ++ r7) = s5 ∙ sym (append_assoc p5 w5 r6) in
    let s7 : page_of_meta meta ≡ p7 ++ (w7 ++ r8) = s6 ∙ sym (append_assoc p6 w6 r7) in
    let s8 : page_of_meta meta ≡ p8 ++ (w8 ++ r9) = s7 ∙ sym (append_assoc p7 w7 r8) in
    let s9 : page_of_meta meta ≡ p9 ++ (w9 ++ f.rest) = s8 ∙ sym (append_assoc p8 w8 r9) in
    let l0 : length p0 ≡ 24 = length-page_header 72 8176 8176 in
    let l1 : length p1 ≡ 28 = behind 4 0x053162 p0 24 l0 in
    let l2 : length p2 ≡ 32 = behind 4 4 p1 28 l1 in
    let l3 : length p3 ≡ 36 = behind 4 meta.root p2 32 l2 in
    let l4 : length p4 ≡ 40 = behind 4 meta.level p3 36 l3 in
    let l5 : length p5 ≡ 44 = behind 4 meta.fast_root p4 40 l4 in
    let l6 : length p6 ≡ 48 = behind 4 meta.fast_level p5 44 l5 in
    let l7 : length p7 ≡ 52 = behind 4 meta.deleted_pages p6 48 l6 in
    let l8 : length p8 ≡ 56 = behind 4 0 p7 52 l7 in
    let l9 : length p9 ≡ 64 = behind 8 0xBFF0000000000000 p8 56 l8 in
    record {
      constants = record {
        kind = kind-is meta;
        lower = ap (λ (p : List ℕ). number_at 2 p 12) s0 ∙ lower_of-page_header 72 8176 8176 _ (omega arith);
        magic = ap (λ (p : List ℕ). number_at 4 p 24) s0 ∙ number-between 4 0x053162 p0 _ 24 l0 (omega arith);
        version = ap (λ (p : List ℕ). number_at 4 p 28) s1 ∙ number-between 4 4 p1 _ 28 l1 (omega arith);
        padding = ap (λ (p : List ℕ). number_at 4 p 52) s7 ∙ number-between 4 0 p7 _ 52 l7 (omega arith);
        counted = ap (λ (p : List ℕ). number_at 8 p 56) s8 ∙ number-between 8 0xBFF0000000000000 p8 _ 56 l8 (omega arith);
      };
      root = ap (λ (p : List ℕ). number_at 4 p 32) s2 ∙ number-between 4 meta.root p2 _ 32 l2 (omega (arith, h.root));
      level = ap (λ (p : List ℕ). number_at 4 p 36) s3 ∙ number-between 4 meta.level p3 _ 36 l3 (omega (arith, h.level));
      fast_root = ap (λ (p : List ℕ). number_at 4 p 40) s4 ∙ number-between 4 meta.fast_root p4 _ 40 l4 (omega (arith, h.fast_root));
      fast_level = ap (λ (p : List ℕ). number_at 4 p 44) s5 ∙ number-between 4 meta.fast_level p5 _ 44 l5 (omega (arith, h.fast_level));
      deleted_pages = ap (λ (p : List ℕ). number_at 4 p 48) s6 ∙ number-between 4 meta.deleted_pages p6 _ 48 l6 (omega (arith, h.deleted_pages));
      equal_images = ap (λ (p : List ℕ). number_at 1 p 64) s9 ∙ number-between 1 (image_byte meta.equal_images) p9 _ 64 l9 (image-fits meta.equal_images);
    }
  where
    behind : (width x : ℕ) (front : List ℕ) (place : ℕ) → length front ≡ place → length (front ++ number_bytes width x) ≡ place + width
    behind width x front place here =
        let a = length-append front (number_bytes width x) in
        let b = length-number_bytes width x in
        omega (arith, a, b, here)

    image-fits : (equal : Bool) → image_byte equal < 256 ^ 1
    image-fits true = omega arith
    image-fits false = omega arith

-- ---- one meta page

one-image : (a b : Bool) → image_byte a ≡ image_byte b → a ≡ b
one-image true true e = refl
one-image false false e = refl
one-image true false e = absurd (omega (arith, e))
one-image false true e = absurd (omega (arith, e))

one-meta : (page : List ℕ) (meta other : MetaPage) → IsMetaOf page meta → IsMetaOf page other → meta ≡ other
one-meta page meta other h k =
    rw (
      sym h.root ∙ k.root,
      sym h.level ∙ k.level,
      sym h.fast_root ∙ k.fast_root,
      sym h.fast_level ∙ k.fast_level,
      sym h.deleted_pages ∙ k.deleted_pages,
      one-image meta.equal_images other.equal_images (sym h.equal_images ∙ k.equal_images),
    ) refl

pub meta_back : MetaIsReadBack
meta_back = record { read = meta-read; one = one-meta }
