-- Joined triangles are a group: the way back takes the same edges. Two numberings of the pieces are one, since from triangle to triangle each
-- gives a number that is already there or the next one.
use Rattle.std.specs.Prelude.{Some}
use mathlib.Core.Path.{◌≡◌, refl, sym, ap, ◌∙◌}
use mathlib.Core.List.{List}
use mathlib.Core.Logic.{⊎_elim}
use Prim.Native.Nat.{ℕ, zero, suc, ◌/◌, ◌<◌, ◌≤◌}
use native.Mathlib.Nat.{not-suc-le-zero, eq-or-lt_of_le, le_of_suc-le-suc}
use native.Mathlib.Omega.{arith}
use lib.ListN.{length, get_or}
use Rattle.surface_rules.specs.Edges.{Sound, twin}
use Rattle.surface_rules.proofs.Laws.Edges.{twin_says, twin_is}
use Rattle.rim_pieces.specs.Pieces.{triangle_count, Shares, Joined, itself, onward, Numbered}

pub share_back : {corners : List ℕ} {t u : ℕ} → Shares corners t u → Shares corners u t
share_back s = record {
  here = s.there;
  there = s.here;
  here_in = s.there_in;
  there_in = s.here_in;
  of_first = s.of_second;
  of_second = s.of_first;
  starts = sym s.ends;
  ends = sym s.starts;
}

pub join_on : {corners : List ℕ} {t u v : ℕ} → Joined corners t u → Joined corners u v → Joined corners t v
join_on a itself = a
join_on a (onward x y b s) = onward x y (join_on a b) s

pub join_one : {corners : List ℕ} {t u : ℕ} → Shares corners t u → Joined corners t u
join_one {corners} {t} {u} s = onward t u itself s

pub join_back : {corners : List ℕ} {t u : ℕ} → Joined corners t u → Joined corners u t
join_back itself = itself
join_back (onward x y b s) = join_on (join_one (share_back s)) (join_back b)

-- the triangle across a half-edge shares that edge
pub twin_shares : (corners : List ℕ) (h g : ℕ) → h < length corners → twin corners h ≡ Some g → Shares corners (h / 3) (g / 3)
twin_shares corners h g l e =
    let s = twin_says corners h g e in
    record {
      here = h;
      there = g;
      here_in = l;
      there_in = s.0;
      of_first = refl;
      of_second = refl;
      starts = s.1.starts;
      ends = s.1.ends;
    }

-- on a surface that is not refused a shared edge is a half-edge and its twin
pub shares_twin : (corners : List ℕ) → Sound corners → (t u : ℕ) (s : Shares corners t u) → twin corners s.here ≡ Some s.there
shares_twin corners sound t u s = twin_is corners sound s.here s.there s.there_in (record { starts = s.starts; ends = s.ends })

-- a triangle that shares an edge is one of the surface
pub shared_in : (corners : List ℕ) → Sound corners → (t u : ℕ) → Shares corners t u → u < triangle_count corners
shared_in corners sound t u s =
    let a = s.there_in in
    let b = s.of_second in
    let c = sound.triples in
    omega arith

-- ---- a numbering is determined

module _ (corners p q : List ℕ) (a : Numbered corners p) (b : Numbered corners q) where
  -- where all below t have the same number in both, t has no greater number in the first
  not_greater : (x y : List ℕ) → Numbered corners x → Numbered corners y → (t : ℕ) → t < triangle_count corners
      → ((u : ℕ) → u < t → get_or x u 0 ≡ get_or y u 0) → get_or x t 0 < get_or y t 0 → ⊥
  not_greater x y m n t l same less =
      let w = n.in_order t (get_or x t 0) l less in
      let u : ℕ = w.0 in
      let e : get_or x u 0 ≡ get_or x t 0 = same u w.1 ∙ w.2 in
      let i : u < triangle_count corners = let z = w.1 in omega arith in
      let j : get_or y u 0 ≡ get_or y t 0 = n.alike u t i l (m.apart u t i l e) in
      let k : get_or y u 0 ≡ get_or x t 0 = w.2 in
      omega arith

  same_below : (t : ℕ) → t ≤ triangle_count corners → (u : ℕ) → u < t → get_or p u 0 ≡ get_or q u 0
  same_below zero l u h = absurd (not-suc-le-zero h)
  same_below (suc t) l u h =
      let before : (v : ℕ) → v < t → get_or p v 0 ≡ get_or q v 0 = same_below t (omega arith) in
      ⊎_elim
      (λ (e : u ≡ t).
      let r : get_or p t 0 ≡ get_or q t 0 =
      let x : get_or p t 0 < get_or q t 0 → ⊥ = not_greater p q a b t (omega arith) before in
      let y : get_or q t 0 < get_or p t 0 → ⊥ = not_greater q p b a t (omega arith) (λ v k. sym (before v k)) in
      omega arith in
      ap (λ (i : ℕ). get_or p i 0) e ∙ r ∙ ap (λ (i : ℕ). get_or q i 0) (sym e))
      (λ (e : u < t). before u e)
      (eq-or-lt_of_le (le_of_suc-le-suc h))

  -- Two numberings are one.
  pub numbered_once : (t : ℕ) → t < triangle_count corners → get_or p t 0 ≡ get_or q t 0
  numbered_once t l = same_below (suc t) l t (omega arith)
