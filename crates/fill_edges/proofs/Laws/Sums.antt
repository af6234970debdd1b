-- Directed edges of patches one after the other: one that occurs in all of them occurs in a patch, and it occurs once if it does so in
-- each patch and in one patch only.
use Prim.Native.Nat.{ℕ, zero, suc, ◌<◌, ◌≤◌, ◌%◌, ◌+◌}
use mathlib.Core.Path.{◌≡◌, refl}
use mathlib.Core.List.{List, [], ◌∷◌, flatten}
use native.Mathlib.Nat.{not-suc-le-zero}
use native.Mathlib.Omega.{arith}
use native.Mathlib.Decide.{dec_lt}
use lib.ListN.{length, get_or, length-append}
use Rattle.fill_edges.proofs.Laws.Times.{times, times_append, times_none}

-- each of the patches has three corners a triangle
abbrev pub Wholes : List (List ℕ) → Type 0
Wholes ps = (l : ℕ) → l < length ps → length (get_or ps l []) % 3 ≡ 0

tail_wholes : (p : List ℕ) (ps : List (List ℕ)) → Wholes (p ∷ ps) → Wholes ps
tail_wholes p ps w l k = w (suc l) (omega arith)

pub flat_whole : (ps : List (List ℕ)) → Wholes ps → length (flatten ps) % 3 ≡ 0
unfolding flatten
flat_whole [] w = refl
flat_whole (p ∷ ps) w =
    let a : length p % 3 ≡ 0 = w 0 (omega arith) in
    omega (arith, length-append p (flatten ps), flat_whole ps (tail_wholes p ps w))

module _ (u v : ℕ) where
  flat_more : (p : List ℕ) (ps : List (List ℕ)) → Wholes (p ∷ ps) → times (flatten (p ∷ ps)) u v ≡ times p u v + times (flatten ps) u v
  unfolding flatten
  flat_more p ps w = times_append p (flatten ps) (w 0 (omega arith)) u v

  flat_none : times (flatten []) u v ≡ 0
  unfolding flatten
  flat_none = times_none u v

  -- all have what one has
  pub flat_part : (ps : List (List ℕ)) → Wholes ps → (l : ℕ) → l < length ps → times (get_or ps l []) u v ≤ times (flatten ps) u v
  flat_part [] w l k = absurd (not-suc-le-zero k)
  flat_part (p ∷ ps) w zero k = omega (arith, flat_more p ps w)
  flat_part (p ∷ ps) w (suc l) k = omega (arith, flat_more p ps w, flat_part ps (tail_wholes p ps w) l (omega arith))

  -- one has what all have
  pub flat_found : (ps : List (List ℕ)) → Wholes ps → 0 < times (flatten ps) u v → (l : ℕ) × (l < length ps) × (0 < times (get_or ps l []) u v)
  flat_found [] w s = absurd (omega (arith, flat_none))
  flat_found (p ∷ ps) w s = go (dec_lt 0 (times p u v)) (flat_found ps (tail_wholes p ps w))
    where
      go : Dec (0 < times p u v) → (0 < times (flatten ps) u v → (l : ℕ) × (l < length ps) × (0 < times (get_or ps l []) u v))
          → (l : ℕ) × (l < length (p ∷ ps)) × (0 < times (get_or (p ∷ ps) l []) u v)
      go (yes t) r = (0, omega arith, t)
      go (no t) r = let y = r (omega (arith, flat_more p ps w)) in let k : y.0 < length ps = y.1 in (suc y.0, omega arith, y.2)

  pub flat_once : (ps : List (List ℕ)) → Wholes ps → ((l : ℕ) → l < length ps → times (get_or ps l []) u v ≤ 1)
      → ((l m : ℕ) → l < length ps → m < length ps → 0 < times (get_or ps l []) u v → 0 < times (get_or ps m []) u v → l ≡ m)
      → times (flatten ps) u v ≤ 1
  flat_once [] w one same = omega (arith, flat_none)
  flat_once (p ∷ ps) w one same =
      go (dec_lt 0 (times p u v)) (dec_lt 0 (times (flatten ps) u v))
      (flat_once ps (tail_wholes p ps w) (λ l k. one (suc l) (omega arith))
      (λ l m k q s t. let e : suc l ≡ suc m = same (suc l) (suc m) (omega arith) (omega arith) s t in omega arith))
    where
      go : Dec (0 < times p u v) → Dec (0 < times (flatten ps) u v) → times (flatten ps) u v ≤ 1 → times (flatten (p ∷ ps)) u v ≤ 1
      go (no s) t r = omega (arith, flat_more p ps w)
      go (yes s) (no t) r = omega (arith, flat_more p ps w, one 0 (omega arith))
      go (yes s) (yes t) r =
          let y = flat_found ps (tail_wholes p ps w) t in
          let k : y.0 < length ps = y.1 in
          let e : 0 ≡ suc y.0 = same 0 (suc y.0) (omega arith) (omega arith) s y.2 in
          absurd (omega arith)
