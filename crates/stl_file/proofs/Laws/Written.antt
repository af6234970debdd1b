-- What stands in a written file: at every corner's place the words of its point.
use mathlib.Core.Path.{◌≡◌, refl, sym, ap, ◌∙◌, subst}
use mathlib.Core.Bool.{Bool, true, false, cond}
use mathlib.Core.List.{List, [], ◌∷◌, ◌++◌, map, flatten, append_assoc}
use Prim.Native.Nat.{ℕ, zero, suc, ◌+◌, ◌*◌, ◌/◌, ◌%◌, ◌^◌, ◌<◌, ◌≤◌}
use native.Mathlib.Omega.{arith}
use native.Mathlib.Nat.{mul-suc, mul-zero}
use lib.Dec.{eqb}
use lib.ListN.{length, get_or, replicate, get_or-append}
use lib.Seq.{get_or-append-add}
use Rattle.surface_rules.specs.Threes.{Three, three, threes}
use Rattle.surface_rules.proofs.Laws.Threes.{threes_length}
use Rattle.stl_facets.specs.Facets.{front, facet_bytes, word_at, plain_zero, facets}
use Rattle.stl_rules.specs.File.{point_at, corner_place}
use Rattle.stl_rules.specs.Reading.{none}
use Rattle.stl_rules.proofs.Laws.Files.{all_three}
use Rattle.stl_file.specs.Bytes.{header_bytes, point_of, four_bytes, point_bytes, facet_of, facets_of, file_of}
use Rattle.stl_file.proofs.Laws.Sizes.{facet_length}

-- ---- blocks of one size

module _ {A : Type 0} (f : A → List ℕ) (no : A) (k : ℕ) (size : (x : A) → length (f x) ≡ k) where
  block_at : (l : List A) (i j : ℕ) → i < length l → j < k → get_or (flatten (map f l)) (k * i + j) 0 ≡ get_or (f (get_or l i no)) j 0
  unfolding flatten
  block_at [] i j h b = absurd (omega arith)
  block_at (x ∷ l) zero j h b =
      ap (λ (y : ℕ). get_or (f x ++ flatten (map f l)) y 0) (ap (λ (z : ℕ). z + j) (mul-zero k) ∙ (let z : 0 + j ≡ j = omega arith in z))
      ∙ get_or-append (f x) (flatten (map f l)) 0 j (subst (λ (n : ℕ). j < n) (sym (size x)) b)
  block_at (x ∷ l) (suc i) j h b =
      ap (λ (y : ℕ). get_or (f x ++ flatten (map f l)) y 0) (ap (λ (z : ℕ). z + j) (mul-suc k i) ∙ order (k * i) k j ∙ ap (λ (z : ℕ). z + (k * i + j)) (sym (size x)))
      ∙ get_or-append-add (f x) (flatten (map f l)) (k * i + j) 0
      ∙ block_at l i j (omega arith) b
    where
      order : (a b c : ℕ) → a + b + c ≡ b + (a + c)
      order a b c = omega arith

-- ---- a word of four bytes

four_back : (w : ℕ) → w < 2 ^ 32 → w % 256 + 256 * (w / 256 % 256) + 65536 * (w / 65536 % 256) + 16777216 * (w / 16777216 % 256) ≡ w
four_back w l =
    let a : ℕ = w / 256 in
    let b : ℕ = w / 65536 in
    let c : ℕ = w / 16777216 in
    let p : w ≡ 256 * a + w % 256 = omega arith in
    let q : a ≡ 256 * b + a % 256 = split a b (second w) in
    let r : b ≡ 256 * c + b % 256 = split b c (third w) in
    let z : c % 256 ≡ c = high c (let y : w / 16777216 < 256 = omega arith in y) in
    join w a b c (w % 256) (a % 256) (b % 256) (c % 256) p q r z
  where
    second : (w : ℕ) → w / 65536 ≡ w / 256 / 256
    second w = omega arith

    third : (w : ℕ) → w / 16777216 ≡ w / 65536 / 256
    third w = omega arith

    split : (a b : ℕ) → b ≡ a / 256 → a ≡ 256 * b + a % 256
    split a b e = omega arith

    high : (c : ℕ) → c < 256 → c % 256 ≡ c
    high c h = omega arith

    join : (w a b c x y z t : ℕ) → w ≡ 256 * a + x → a ≡ 256 * b + y → b ≡ 256 * c + z → t ≡ c → x + 256 * y + 65536 * z + 16777216 * t ≡ w
    join w a b c x y z t p q r e = omega arith

pub plain_small : (w : ℕ) → w < 2 ^ 32 → plain_zero w < 2 ^ 32
unfolding plain_zero
plain_small w l = go (eqb w (2 ^ 31))
  where
    go : (b : Bool) → cond b 0 w < 2 ^ 32
    go true = omega arith
    go false = l

-- twice read as zero is once
plain_plain : (w : ℕ) → plain_zero (plain_zero w) ≡ plain_zero w
unfolding plain_zero
plain_plain w = go (eqb w (2 ^ 31)) refl
  where
    go : (b : Bool) → eqb w (2 ^ 31) ≡ b → cond (eqb (cond b 0 w) (2 ^ 31)) 0 (cond b 0 w) ≡ cond b 0 w
    go true e = refl
    go false e = ap (λ (x : Bool). cond x 0 w) e

-- ---- a facet's own words

-- words of 32 bits
abbrev pub Small : List ℕ → Type 0
Small words = (k : ℕ) → get_or words k 0 < 2 ^ 32

module _ (words : List ℕ) (small : Small words) where
  word_back : (k : ℕ)
      → plain_zero (plain_zero (get_or words k 0) % 256 + 256 * (plain_zero (get_or words k 0) / 256 % 256) + 65536 * (plain_zero (get_or words k 0) / 65536 % 256) + 16777216 * (plain_zero (get_or words k 0) / 16777216 % 256))
      ≡ plain_zero (get_or words k 0)
  word_back k = ap plain_zero (four_back (plain_zero (get_or words k 0)) (plain_small _ (small k))) ∙ plain_plain (get_or words k 0)

  facet_first : (t : Three) → point_at (facet_of words t) 12 ≡ point_of words t.first
  unfolding point_at word_at facet_of point_bytes four_bytes point_of
  facet_first t = all_three (word_back (3 * t.first)) (word_back (3 * t.first + 1)) (word_back (3 * t.first + 2))

  facet_second : (t : Three) → point_at (facet_of words t) 24 ≡ point_of words t.second
  unfolding point_at word_at facet_of point_bytes four_bytes point_of
  facet_second t = all_three (word_back (3 * t.second)) (word_back (3 * t.second + 1)) (word_back (3 * t.second + 2))

  facet_third : (t : Three) → point_at (facet_of words t) 36 ≡ point_of words t.third
  unfolding point_at word_at facet_of point_bytes four_bytes point_of
  facet_third t = all_three (word_back (3 * t.third)) (word_back (3 * t.third + 1)) (word_back (3 * t.third + 2))

-- ---- the file

module _ (words corners : List ℕ) where
  -- the count that the file gives is that of its triangles
  pub file_count : length corners / 3 < 2 ^ 32 → facets (file_of words corners) ≡ length corners / 3
  unfolding word_at file_of four_bytes
  file_count l = four_back (length corners / 3) l

  front_long : length (replicate header_bytes 0 ++ four_bytes (length corners / 3)) ≡ front
  unfolding four_bytes
  front_long = refl

  -- the triangle of facet i, by the numbers of its points
  abbrev triangle : ℕ → Three
  triangle i = get_or (threes corners) i none

  module _ (i : ℕ) (h : i < length (threes corners)) where
    file_byte : (j : ℕ) → j < facet_bytes → get_or (file_of words corners) (front + (facet_bytes * i + j)) 0 ≡ get_or (facet_of words (triangle i)) j 0
    unfolding file_of
    file_byte j b =
        ap (λ (l : List ℕ). get_or l (front + (facet_bytes * i + j)) 0) (sym (append_assoc (replicate header_bytes 0) (four_bytes (length corners / 3)) (facets_of words corners)))
        ∙ ap (λ (n : ℕ). get_or ((replicate header_bytes 0 ++ four_bytes (length corners / 3)) ++ facets_of words corners) (n + (facet_bytes * i + j)) 0) (sym front_long)
        ∙ get_or-append-add (replicate header_bytes 0 ++ four_bytes (length corners / 3)) (facets_of words corners) (facet_bytes * i + j) 0
        ∙ block_at (facet_of words) none facet_bytes (facet_length words) (threes corners) i j h b

    order : (a b c : ℕ) → front + (a + b) + c ≡ front + (a + (b + c))
    order a b c = omega arith

    -- the word at a place of a facet is the file's word there
    file_word : (j : ℕ) → j + 4 ≤ facet_bytes → word_at (file_of words corners) (front + (facet_bytes * i + j)) ≡ word_at (facet_of words (triangle i)) j
    unfolding word_at
    file_word j b =
        let at : (k : ℕ) → j + k < facet_bytes → get_or (file_of words corners) (front + (facet_bytes * i + j) + k) 0 ≡ get_or (facet_of words (triangle i)) (j + k) 0 =
        λ k c. ap (λ (x : ℕ). get_or (file_of words corners) x 0) (order (facet_bytes * i) j k) ∙ file_byte (j + k) c in
        rw (file_byte j (omega arith), at 1 (omega arith), at 2 (omega arith), at 3 (omega arith))

    file_point : (j : ℕ) → j + 12 ≤ facet_bytes → point_at (file_of words corners) (front + (facet_bytes * i + j)) ≡ point_at (facet_of words (triangle i)) j
    unfolding point_at
    file_point j b =
        let at : (k : ℕ) → j + k + 4 ≤ facet_bytes → word_at (file_of words corners) (front + (facet_bytes * i + j) + k) ≡ word_at (facet_of words (triangle i)) (j + k) =
        λ k c. ap (word_at (file_of words corners)) (order (facet_bytes * i) j k) ∙ file_word (j + k) c in
        rw (file_word j (omega arith), at 4 (omega arith), at 8 (omega arith))

-- ---- the file's corners

threes_at : (n : ℕ) (l : List ℕ) → length l ≡ 3 * n → (i : ℕ) → i < n → get_or (threes l) i none ≡ three (get_or l (3 * i) 0) (get_or l (3 * i + 1) 0) (get_or l (3 * i + 2) 0)
threes_at zero l h i b = absurd (omega arith)
threes_at (suc n) [] h i b = absurd (omega arith)
threes_at (suc n) (x ∷ []) h i b = absurd (omega arith)
threes_at (suc n) (x ∷ y ∷ []) h i b = absurd (omega arith)
threes_at (suc n) (x ∷ y ∷ z ∷ l) h zero b = refl
threes_at (suc n) (x ∷ y ∷ z ∷ l) h (suc i) b =
    threes_at n l (omega arith) i (omega arith)
    ∙ rw (let e : 3 * suc i ≡ suc (suc (suc (3 * i))) = omega arith in e)
    (rw (let e : suc (suc (suc (3 * i))) + 1 ≡ suc (suc (suc (3 * i + 1))) = omega arith in e, let e : suc (suc (suc (3 * i))) + 2 ≡ suc (suc (suc (3 * i + 2))) = omega arith in e) refl)

module _ (words corners : List ℕ) (small : Small words) (n : ℕ) (h : length corners ≡ 3 * n) (i : ℕ) (b : i < length corners) where
  at_facet : (t j v : ℕ) → t < n → j + 12 ≤ facet_bytes → corner_place i ≡ front + (facet_bytes * t + j)
      → point_at (facet_of words (triangle words corners t)) j ≡ point_of words v → v ≡ get_or corners i 0 → point_at (file_of words corners) (corner_place i) ≡ point_of words (get_or corners i 0)
  at_facet t j v l r p q e =
      ap (point_at (file_of words corners)) p
      ∙ file_point words corners t (subst (λ (x : ℕ). t < x) (sym (threes_length n corners h)) l) j r
      ∙ q
      ∙ ap (point_of words) e

  -- where corner i stands are its point's words
  pub corner_point : point_at (file_of words corners) (corner_place i) ≡ point_of words (get_or corners i 0)
  unfolding corner_place
  corner_point = go (i % 3) refl (i / 3) refl (threes_at n corners h (i / 3) (omega arith))
    where
      go : (r : ℕ) → i % 3 ≡ r → (t : ℕ) → t ≡ i / 3 → triangle words corners t ≡ three (get_or corners (3 * t) 0) (get_or corners (3 * t + 1) 0) (get_or corners (3 * t + 2) 0)
          → point_at (file_of words corners) (corner_place i) ≡ point_of words (get_or corners i 0)
      go zero q t f e =
          at_facet t 12 _ (omega arith) (omega arith) (omega arith) (facet_first words small (triangle words corners t))
          (ap (λ (x : Three). x.first) e ∙ ap (λ (x : ℕ). get_or corners x 0) (let z : 3 * t ≡ i = omega arith in z))
      go (suc zero) q t f e =
          at_facet t 24 _ (omega arith) (omega arith) (omega arith) (facet_second words small (triangle words corners t))
          (ap (λ (x : Three). x.second) e ∙ ap (λ (x : ℕ). get_or corners x 0) (let z : 3 * t + 1 ≡ i = omega arith in z))
      go (suc (suc zero)) q t f e =
          at_facet t 36 _ (omega arith) (omega arith) (omega arith) (facet_third words small (triangle words corners t))
          (ap (λ (x : Three). x.third) e ∙ ap (λ (x : ℕ). get_or corners x 0) (let z : 3 * t + 2 ≡ i = omega arith in z))
      go (suc (suc (suc r))) q t f e = absurd (omega arith)
