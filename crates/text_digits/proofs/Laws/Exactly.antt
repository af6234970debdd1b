-- Reading a number reads exactly what writing one writes.
use mathlib.Core.Path.{◌≡◌, refl, sym, ap, ◌∙◌}
use mathlib.Core.Bool.{Bool, true, false, cond}
use mathlib.Core.List.{List, [], ◌∷◌, ◌++◌, append_assoc}
use Prim.Native.Nat.{ℕ, zero, suc, ◌+◌, ◌*◌, ◌/◌, ◌%◌, ◌<◌, ◌≤◌, ◌^◌}
use native.Mathlib.Nat.{pow-succ', pow-zero, div-lt_iff_lt-mul, one-le-pow, mod-lt, div-add-mod', mul_assoc, add-mul, mul-le-mul_left, mul-one}
use native.Mathlib.Omega.{arith}
use lib.Arith.{digits_lt, digits_div, digits_mod}
use lib.Dec.{ltb, leb, eqb}
use lib.ListN.{length, length-append}
use borrow.Author.Tests.{lt-ltb, le-leb, eq-eqb, ne_eqb, ltb-true, leb-true, eqb-true}
use Rattle.text_digits.specs.Numeral.{byte_of, size, places, hex, decimal}
use Rattle.text_digits.specs.Workings.Reading.{Read, wrong, got, Exact, value_of, digits, ending, then, read_hex, until, read_decimal, read_key}
use Rattle.text_digits.proofs.Laws.Digit.{value_byte, byte_value, size_fits}

pub wrong_not_got : {A : Type 0} {a : A} {rest : List ℕ} → wrong ≡ got a rest → ⊥
wrong_not_got h = let z : ◌≡◌ {A = ℕ} 0 1 = cc in omega arith

-- a test that has to have passed
pub must : {A : Type 0} {a : A} {rest : List ℕ} (t : Bool) {r : Read A} → cond t r wrong ≡ got a rest → (t ≡ true) × (r ≡ got a rest)
must true h = (refl, h)
must false h = absurd (wrong_not_got h)

pub length_places : (b k n : ℕ) → length (places b k n) ≡ k
unfolding places
length_places b zero n = refl
length_places b (suc k) n = ap suc (length_places b k (n % b ^ k))

-- a number with the byte that ends it
pub ended_length : (n e : ℕ) → length (decimal n ++ (e ∷ [])) ≡ size n + 1
ended_length n e = length-append (decimal n) (e ∷ []) ∙ omega (arith, length_places 10 (size n) n)

-- k digits stand in front of rest, and take the value v to u
pub record Spelt (b k v : ℕ) (bytes : List ℕ) (u : ℕ) (rest : List ℕ) : Type 0 where
  pub low : ℕ
  pub less : low < b ^ k
  pub sum : u ≡ v * b ^ k + low
  pub are : bytes ≡ places b k low ++ rest

pub spelt_none : (b v : ℕ) (bytes : List ℕ) → Spelt b 0 v bytes v bytes
unfolding places
spelt_none b v bytes = record { low = 0; less = omega (arith, pow-zero b); sum = omega (arith, ap (λ (x : ℕ). v * x) (pow-zero b), mul-one v); are = refl }

pub spelt_start : {b k u : ℕ} {bytes rest : List ℕ} → Spelt b k 0 bytes u rest → (u < b ^ k) × (bytes ≡ places b k u ++ rest)
spelt_start {b} {k} {u} {bytes} {rest} s = (omega (arith, s.sum, s.less), s.are ∙ ap (λ (x : ℕ). places b k x ++ rest) (sym (s.sum ∙ omega arith)))

module _ (b : ℕ) (pos : 0 < b) (small : b ≤ 16) where
  pub high : (k m : ℕ) → m < b ^ suc k → m / b ^ k < b
  high k m h = (div-lt_iff_lt-mul (one-le-pow k b pos)).1 (rw (← pow-succ' b k) h)

  -- the value so far, one digit later
  pub carry : (k v m : ℕ) → (v * b + m / b ^ k) * b ^ k + m % b ^ k ≡ v * b ^ suc k + m
  carry k v m =
      omega (arith, add-mul (v * b) (m / b ^ k) (b ^ k), mul_assoc v b (b ^ k), ap (λ (x : ℕ). v * x) (pow-succ' b k), div-add-mod' m (b ^ k))

  pub digits_finds : (k v m : ℕ) (rest : List ℕ) → m < b ^ k → digits b k v (places b k m ++ rest) ≡ got (v * b ^ k + m) rest
  unfolding digits places
  digits_finds zero v m rest h = ap (λ (x : ℕ). got x rest) (omega (arith, ap (λ (x : ℕ). v * x) (pow-zero b), mul-one v, pow-zero b))
  digits_finds (suc k) v m rest h =
      let d : value_of (byte_of (m / b ^ k)) ≡ m / b ^ k = value_byte _ (omega (arith, high k m h)) in
      rw (d, lt-ltb _ _ (high k m h)) (digits_finds k (v * b + m / b ^ k) (m % b ^ k) rest (mod-lt m (one-le-pow k b pos)) ∙ ap (λ (x : ℕ). got x rest) (carry k v m))

  places_more : (k x m : ℕ) → x < 16 → m < b ^ k → places b (suc k) (x * b ^ k + m) ≡ byte_of x ∷ places b k m
  unfolding places
  places_more k x m h l = rw (digits_div x l, digits_mod x l)

  pub spelt_more : (k v x u : ℕ) (bytes rest : List ℕ) → value_of x < b → Spelt b k (v * b + value_of x) bytes u rest → Spelt b (suc k) v (x ∷ bytes) u rest
  spelt_more k v x u bytes rest h s =
      record {
        low = value_of x * b ^ k + s.low;
        less = rw (pow-succ' b k) (digits_lt h s.less);
        sum = s.sum ∙ omega (arith, add-mul (v * b) (value_of x) (b ^ k), mul_assoc v b (b ^ k), ap (λ (y : ℕ). v * y) (pow-succ' b k));
        are = ap (λ (l : List ℕ). x ∷ l) s.are ∙ rw (places_more k (value_of x) s.low (omega arith) s.less, byte_value x (omega arith));
      }

  pub digits_true : (k v u : ℕ) (bytes rest : List ℕ) → digits b k v bytes ≡ got u rest → Spelt b k v bytes u rest
  unfolding digits
  digits_true zero v u bytes rest h =
      let e : v ≡ u = cc in
      let f : bytes ≡ rest = cc in
      rw (← e, ← f) (spelt_none b v bytes)
  digits_true (suc k) v u [] rest h = absurd (wrong_not_got h)
  digits_true (suc k) v u (x ∷ bytes) rest h =
      let p = must (ltb (value_of x) b) h in
      spelt_more k v x u bytes rest (ltb-true _ _ p.0) (digits_true k (v * b + value_of x) u bytes rest p.1)

-- the byte after the number
ending_finds : (e v : ℕ) (rest : List ℕ) → ending e v (e ∷ rest) ≡ got v rest
unfolding ending
ending_finds e v rest = rw (eq-eqb e e refl)

ending_true : (e v u : ℕ) (bytes rest : List ℕ) → ending e v bytes ≡ got u rest → (v ≡ u) × (bytes ≡ e ∷ rest)
unfolding ending
ending_true e v u [] rest h = absurd (wrong_not_got h)
ending_true e v u (x ∷ bytes) rest h =
    let p = must (eqb x e) h in
    let q : got v bytes ≡ got u rest = p.1 in
    let d : x ≡ e = eqb-true _ _ p.0 in
    (cc, cc)

pub hex_exact : (e : ℕ) → Exact (λ (w : ℕ). w < 4294967296) (λ (w : ℕ). hex w ++ (e ∷ [])) (read_hex e)
unfolding read_hex
hex_exact e = record {
  finds = λ w rest h. rw (append_assoc, digits_finds 16 (omega arith) (omega arith) 8 0 w ((e ∷ []) ++ rest) h) (ending_finds e (0 * 16 ^ 8 + w) rest ∙ ap (λ (x : ℕ). got x rest) (omega arith));
  true_to = λ bytes w rest h. back bytes w rest (digits 16 8 0 bytes) refl h;
}
  where
    back : (bytes : List ℕ) (w : ℕ) (rest : List ℕ) (r : Read ℕ) → digits 16 8 0 bytes ≡ r → then r (ending e) ≡ got w rest → (w < 4294967296) × (bytes ≡ (hex w ++ (e ∷ [])) ++ rest)
    back bytes w rest wrong d h = absurd (wrong_not_got h)
    back bytes w rest (got v after) d h =
        let q = ending_true e v w after rest h in
        let s = spelt_start {k = 8} (digits_true 16 (omega arith) (omega arith) 8 0 v bytes after d) in
        (omega (arith, s.0, q.0), s.1 ∙ rw (q.1, q.0, append_assoc))

module _ (e limit : ℕ) (free : 10 ≤ value_of e) where
  apart : (x : ℕ) → value_of x < 10 → x ≡ e → ⊥
  apart x h d = omega (arith, ap value_of d)

  until_finds : (j v k m : ℕ) (rest : List ℕ) → m < 10 ^ j → v * 10 ^ j + m ≤ limit → k + j ≡ size (v * 10 ^ j + m) → until e limit v k (places 10 j m ++ (e ∷ rest)) ≡ got (v * 10 ^ j + m) rest
  unfolding until places
  until_finds zero v k m rest h l z =
      let w : v * 10 ^ zero + m ≡ v = omega (arith, h) in
      rw (eq-eqb e e refl, w, eq-eqb k (size v) (omega (arith, z, ap size w)))
  until_finds (suc j) v k m rest h l z =
      let g : m / 10 ^ j < 10 = high 10 (omega arith) (omega arith) j m h in
      let d : value_of (byte_of (m / 10 ^ j)) ≡ m / 10 ^ j = value_byte _ (omega arith) in
      let c : (v * 10 + m / 10 ^ j) * 10 ^ j + m % 10 ^ j ≡ v * 10 ^ suc j + m = carry 10 (omega arith) (omega arith) j v m in
      let up : (v * 10 + m / 10 ^ j) * 1 ≤ (v * 10 + m / 10 ^ j) * 10 ^ j = mul-le-mul_left (v * 10 + m / 10 ^ j) (one-le-pow j 10 (omega arith)) in
      rw (ne_eqb (byte_of (m / 10 ^ j)) e (apart _ (omega arith)), d, lt-ltb _ _ g, le-leb (v * 10 + m / 10 ^ j) limit (omega arith))
      (until_finds j (v * 10 + m / 10 ^ j) (k + 1) (m % 10 ^ j) rest (mod-lt m (one-le-pow j 10 (omega arith))) (omega arith) (omega (arith, z, ap size c))
      ∙ ap (λ (x : ℕ). got x rest) c)

  Ended : ℕ → ℕ → List ℕ → ℕ → List ℕ → Type 0
  Ended v k bytes u rest = (j : ℕ) × Spelt 10 j v bytes u (e ∷ rest) × (k + j ≡ size u) × (u ≤ limit)

  until_true : (v k u : ℕ) (bytes rest : List ℕ) → v ≤ limit → until e limit v k bytes ≡ got u rest → Ended v k bytes u rest
  unfolding until Ended
  until_true v k u [] rest l h = absurd (wrong_not_got h)
  until_true v k u (x ∷ bytes) rest l h = go (eqb x e) refl (λ m g. until_true (v * 10 + value_of x) (k + 1) u bytes rest m g) h
    where
      go : (t : Bool) → eqb x e ≡ t
          → (v * 10 + value_of x ≤ limit → until e limit (v * 10 + value_of x) (k + 1) bytes ≡ got u rest → Ended (v * 10 + value_of x) (k + 1) bytes u rest)
          → cond t (cond (eqb k (size v)) (got v bytes) wrong) (cond (ltb (value_of x) 10) (cond (leb (v * 10 + value_of x) limit) (until e limit (v * 10 + value_of x) (k + 1) bytes) wrong) wrong) ≡ got u rest
          → Ended v k (x ∷ bytes) u rest
      go true d r g =
          let p = must (eqb k (size v)) g in
          let q : got v bytes ≡ got u rest = p.1 in
          let a : v ≡ u = cc in
          let b : bytes ≡ rest = cc in
          let c : x ≡ e = eqb-true _ _ d in
          (0, rw (← a, ← b, c) (spelt_none 10 v (e ∷ bytes)), omega (arith, eqb-true k (size v) p.0, ap size a), rw (← a) l)
      go false d r g =
          let p = must (ltb (value_of x) 10) g in
          let q = must (leb (v * 10 + value_of x) limit) p.1 in
          let s = r (leb-true _ _ q.0) q.1 in
          (suc s.0, spelt_more 10 (omega arith) (omega arith) s.0 v x u bytes (e ∷ rest) (ltb-true _ _ p.0) s.1, omega (arith, s.2), s.3)

  pub decimal_exact : Exact (λ (n : ℕ). n ≤ limit) (λ (n : ℕ). decimal n ++ (e ∷ [])) (read_decimal e limit)
  unfolding read_decimal Ended
  decimal_exact = record {
    finds = λ n rest h. rw append_assoc (until_finds (size n) 0 0 n rest (size_fits n) (omega arith) (omega (arith, ap size (zeroth n))) ∙ ap (λ (x : ℕ). got x rest) (zeroth n));
    true_to = λ bytes n rest h.
        let s = until_true 0 0 n bytes rest (omega arith) h in
        let t = spelt_start s.1 in
        let z : s.0 ≡ size n = omega (arith, s.2) in
        (s.3, t.1 ∙ rw (z, append_assoc));
  }
    where
      zeroth : (n : ℕ) → 0 * 10 ^ size n + n ≡ n
      zeroth n = omega arith

-- a key
pub key_exact : (key : List ℕ) → Exact (λ (u : Unit {0}). Unit {0}) (λ (u : Unit {0}). key) (read_key key)
unfolding read_key
key_exact [] = record { finds = λ u rest h. refl; true_to = λ bytes u rest h. (tt, cc) }
key_exact (k ∷ key) =
    record {
      finds = λ u rest h. rw (eq-eqb k k refl) ((key_exact key).finds u rest h);
      true_to = λ bytes u rest h. back (key_exact key).true_to bytes u rest h;
    }
  where
    back : ((bytes : List ℕ) (u : Unit {0}) (rest : List ℕ) → read_key key bytes ≡ got u rest → Unit {0} × (bytes ≡ key ++ rest)) → (bytes : List ℕ) (u : Unit {0}) (rest : List ℕ) → read_key (k ∷ key) bytes ≡ got u rest → Unit {0} × (bytes ≡ (k ∷ key) ++ rest)
    back r [] u rest h = absurd (wrong_not_got h)
    back r (x ∷ bytes) u rest h =
        let p = must (eqb x k) h in
        let q = (r bytes u rest p.1).1 in
        let d : x ≡ k = eqb-true _ _ p.0 in
        (tt, cc)
