-- Words by their bytes, floats by their bits, where a file of facets ends, and a facet's floats laid one behind the other.
use mathlib.Core.Path.{◌≡◌, refl, sym, ap, ◌∙◌, subst}
use mathlib.Core.Bool.{Bool, true, false, not, true≢false}
use mathlib.Core.List.{List, [], ◌∷◌, ◌++◌, append_assoc, append-nil}
use mathlib.Core.Logic.{⊎_elim}
use Prim.Native.Nat.{ℕ, ◌+◌, ◌*◌, ◌-◌, ◌%◌, ◌^◌, ◌<◌, ◌≤◌}
use native.Mathlib.Omega.{arith}
use lib.Dec.{T, leb}
use lib.ListN.{length, get_or, set, length-append}
use lib.Ieee.{Float, nan, inf, fin, binary32, of_bits, is_nan, nan_bits}
use lib.Ieee.Bits.{nan_bits_is, nan_bits_above}
use borrow.Author.Tests.{eq-eqb, ne_eqb, lt-ltb, le-ltb, le-leb, lt-leb, leb-true, leb-false}
use Rattle.surface_rules.specs.Buffers.{over}
use Rattle.surface_rules.proofs.Laws.Over.{over_snoc}
use Rattle.surface_rules.proofs.Laws.Tests.{eq_or_not}
use Rattle.stl_facets.specs.declared.Corner.{Corner}
use Rattle.stl_facets.specs.declared.Facet.{Facet}
use Rattle.std.specs.Prelude.{Some, None}
use Rattle.stl_facets.specs.Facets.{facet_bytes, word_at, plain_zero, plain_at, corner_at, facet_of, holds_facet, facet_at, behind, floats_of}

only_nan : (x : Float) → is_nan x ≡ true → nan ≡ x
unfolding is_nan
only_nan nan e = refl
only_nan (inf s) e = absurd (true≢false (sym e))
only_nan (fin s m d) e = absurd (true≢false (sym e))

-- all patterns above infinity's, the sign left out, are the one float that is no number
pub is_nan_lem : (w : ℕ) → 2139095040 < w % 2147483648 → nan ≡ of_bits binary32 w
is_nan_lem w l = only_nan (of_bits binary32 w) (sym (nan_bits_is binary32 w) ∙ (nan_bits_above binary32 w ∙ lt-ltb _ _ l))

pub no_nan : (w : ℕ) → w % 2147483648 ≤ 2139095040 → T (not (nan_bits binary32 w))
no_nan w l = subst (λ (b : Bool). T (not b)) (sym (nan_bits_above binary32 w ∙ le-ltb _ _ l)) tt

-- of the two words of zero one is negative, and all others have some lower bit
pub zero_plain : (w : ℕ) → w < 2 ^ 32 → w % 2147483648 ≡ 0 → 0 ≡ plain_zero w
unfolding plain_zero
zero_plain w l e =
    ⊎_elim (λ (q : w ≡ 2147483648). rw (eq-eqb w 2147483648 q)) (λ (q : w ≡ 2147483648 → ⊥). rw (ne_eqb w 2147483648 q) (omega arith)) (eq_or_not w 2147483648)

pub other_plain : (w : ℕ) → (w % 2147483648 ≡ 0 → ⊥) → w ≡ plain_zero w
unfolding plain_zero
other_plain w e = rw (ne_eqb w 2147483648 (λ q. e (omega arith)))

module _ (l : List ℕ) (at : ℕ) where
  pub word_is : {p q r s : ℕ} → p ≡ get_or l at 0 → q ≡ get_or l (at + 1) 0 → r ≡ get_or l (at + 2) 0 → s ≡ get_or l (at + 3) 0 → p + 256 * q + 65536 * r + 16777216 * s ≡ word_at l at
  unfolding word_at
  word_is e f g h = rw (e, f, g, h)

  pub corner_is : {p q r : ℕ} {x y z : Float} → p ≡ plain_at l at → x ≡ of_bits binary32 p → q ≡ plain_at l (at + 4) → y ≡ of_bits binary32 q → r ≡ plain_at l (at + 8) → z ≡ of_bits binary32 r
      → record { x = x; y = y; z = z } ≡ corner_at l at
  unfolding corner_at
  corner_is d e f g h i = rw (e, g, i, d, f, h)

  pub facet_is : {a b c : Corner} → a ≡ corner_at l (at + 12) → b ≡ corner_at l (at + 24) → c ≡ corner_at l (at + 36) → record { a = a; b = b; c = c } ≡ facet_of l at
  unfolding facet_of
  facet_is e f g = rw (e, f, g)

  pub held_room : {r : Bool} → r ≡ holds_facet l at → r ≡ true → at + facet_bytes ≤ length l
  held_room e t = leb-true _ _ (sym e ∙ t)

  pub held_ends : {r : Bool} → r ≡ holds_facet l at → r ≡ false → length l < at + facet_bytes
  held_ends e t = leb-false _ _ (sym e ∙ t)

  pub at_end : length l < at + 50 → None ≡ facet_at l at
  unfolding facet_at
  at_end h = rw (lt-leb _ _ h)

  pub is_given : {f : Facet} → at + 50 ≤ length l → f ≡ facet_of l at → Some f ≡ facet_at l at
  unfolding facet_at
  is_given h e = rw (le-leb _ _ h, e)

  pub stays : length l < at + 50 → at ≡ behind l at
  unfolding behind
  stays h = rw (lt-leb _ _ h)

  pub goes_on : at + 50 ≤ length l → at + 50 ≡ behind l at
  unfolding behind
  goes_on h = rw (le-leb _ _ h)

-- floats written one behind the other, from a place on
unfoldable pub puts : ℕ → List Float → List Float → List Float
puts n [] w = w
puts n (v ∷ vs) w = puts (n + 1) vs (set w n v)

module _ (w : List Float) where
  puts_over : (a vs : List Float) (n : ℕ) → n ≡ length a → n + length vs ≤ length w → puts n vs (over a w) ≡ over (a ++ vs) w
  unfolding puts
  puts_over a [] n e h = ap (λ (x : List Float). over x w) (sym (append-nil a))
  puts_over a (v ∷ vs) n e h =
      ap (puts (n + 1) vs) (over_snoc a w v v n e (omega arith))
      ∙ puts_over (a ++ (v ∷ [])) vs (n + 1) (ap (λ (k : ℕ). k + 1) e ∙ sym (length-append a (v ∷ []))) (omega arith)
      ∙ ap (λ (x : List Float). over x w) (append_assoc a (v ∷ []) vs)

  pub puts_laid : (f : Facet) → 9 ≤ length w → puts 0 (floats_of f) w ≡ over (floats_of f) w
  unfolding over floats_of
  puts_laid f h = puts_over [] (floats_of f) 0 refl h
