-- A stretch that a cover uses within the outermost joins two positions that are not neighbours: it is a diagonal. So an allowed cover uses
-- none whose ends the input or what was laid before joins.
use Prim.Native.Nat.{ℕ, ◌<◌, ◌≤◌, ◌+◌, ◌-◌, ◌%◌}
use mathlib.Core.Path.{◌≡◌, sym, ap, ◌∙◌}
use mathlib.Core.Bool.{Bool, true, false, ◌&&◌}
use mathlib.Core.Logic.{⊎_elim}
use mathlib.Core.List.{List}
use native.Mathlib.Nat.{mod-eq_of_lt, mod_self}
use native.Mathlib.Omega.{arith}
use lib.ListN.{length}
use borrow.Author.Tests.{lt-ltb, ne_eqb}
use Rattle.surface_rules.proofs.Laws.Tests.{lt_or_le, either_false}
use Rattle.cover_rules.specs.Covers.{Cover, Covers, Allowed, vertex_of}
use Rattle.cover_rules.proofs.Laws.Chords.{uses_in}
use Rattle.cover_rules.proofs.Laws.Counted.{InnerUse}
use Rattle.cover_bars.specs.Bars.{follows, diagonal, between, barred}

module _ (n a b : ℕ) (long : a + 1 < b) (within : b < n) (inner : (a ≡ 0) × (b ≡ n - 1) → ⊥) where
  not_on : (a + 1) % n ≡ b → ⊥
  not_on e = let l : a + 1 < n = omega arith in let f : (a + 1) % n ≡ a + 1 = mod-eq_of_lt l in omega arith

  not_back : (b + 1) % n ≡ a → ⊥
  not_back e =
      ⊎_elim
      (λ (l : b + 1 < n). let f : (b + 1) % n ≡ b + 1 = mod-eq_of_lt l in omega arith)
      (λ (l : n ≤ b + 1).
      let g : b + 1 ≡ n = omega arith in
      let f : (b + 1) % n ≡ 0 = ap (λ (z : ℕ). z % n) g ∙ mod_self n in
      inner (omega arith))
      (lt_or_le (b + 1) n)

  long_diagonal : diagonal n a b ≡ true
  unfolding diagonal follows
  long_diagonal =
      let l : a < n = omega arith in
      let d : a ≡ b → ⊥ = λ e. omega arith in
      rw (lt-ltb a n l, lt-ltb b n within, ne_eqb a b d, ne_eqb ((a + 1) % n) b not_on, ne_eqb ((b + 1) % n) a not_back)

pub inner_diagonal : (n : ℕ) (c : Cover) → Covers 0 (n - 1) c → (a b : ℕ) → InnerUse 0 (n - 1) c a b → diagonal n a b ≡ true
inner_diagonal n c h a b u =
    let w = uses_in 0 (n - 1) c a b h u.0 in
    long_diagonal n a b w.1 (omega arith) u.1

second_false : (s t : Bool) → s ≡ true → (s && t) ≡ false → t ≡ false
second_false s t e h = sym (ap (λ (x : Bool). x && t) e) ∙ h

module _ (input laid ring : List ℕ) where
  unbarred : (a b : ℕ) → diagonal (length ring) a b ≡ true → barred input laid ring a b ≡ false
      → (between input (vertex_of ring a) (vertex_of ring b) ≡ false) × (between laid (vertex_of ring a) (vertex_of ring b) ≡ false)
  unfolding barred
  unbarred a b d f = either_false _ _ (second_false (diagonal (length ring) a b) _ d f)

  pub inner_free : (c : Cover) → Allowed (barred input laid ring) 0 (length ring - 1) c → (a b : ℕ) → InnerUse 0 (length ring - 1) c a b
      → (between input (vertex_of ring a) (vertex_of ring b) ≡ false) × (between laid (vertex_of ring a) (vertex_of ring b) ≡ false)
  inner_free c h a b u = unbarred a b (inner_diagonal (length ring) c h.covers a b u) (h.free a b u.0)
