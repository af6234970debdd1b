-- Where each loop is filled in turn, each patch lies in its loop, and what was laid before it holds the patches of the earlier loops.
use Prim.Native.Nat.{ℕ, zero, suc, ◌<◌, ◌≤◌, ◌%◌}
use mathlib.Core.Path.{◌≡◌, refl}
use mathlib.Core.List.{List, [], ◌∷◌, ◌++◌}
use native.Mathlib.Nat.{not-suc-le-zero}
use native.Mathlib.Omega.{arith}
use lib.ListN.{length, get_or, length-append}
use Rattle.cover_rules.specs.Covers.{vertex_of}
use Rattle.cover_rules.proofs.Laws.Closed.{Different}
use Rattle.fill_edges.specs.Filling.{Filled}
use Rattle.fill_edges.proofs.Laws.Times.{times, times_append}
use Rattle.fill_edges.proofs.Laws.Patches.{Turn}
use Rattle.fill_edges.proofs.Laws.Lies.{Lies, fills_lies}

-- the ring of a loop: three vertices or more, all different
pub record Ring (ring : List ℕ) : Type 0 where
  pub different : Different (length ring) (vertex_of ring)
  pub three : 2 < length ring

-- patch l lies in its loop, after what was laid at first and the patches before it
pub record Laid (input laid : List ℕ) (Side : ℕ → ℕ → Type 0) (ps : List (List ℕ)) (l : ℕ) : Type 0 where
  pub before : List ℕ
  pub lies : Lies input before Side (get_or ps l [])
  pub holds : (u v : ℕ) → times laid u v ≤ times before u v
  pub earlier : (m : ℕ) → m < l → (u v : ℕ) → times (get_or ps m []) u v ≤ times before u v

pub as_many : (input laid : List ℕ) (rings ps : List (List ℕ)) → Filled input laid rings ps → length ps ≡ length rings
as_many input laid [] [] f = refl
as_many input laid [] (p ∷ ps) f = absurd f
as_many input laid (r ∷ rings) [] f = absurd f
as_many input laid (r ∷ rings) (p ∷ ps) f = omega (arith, as_many input (laid ++ p) rings ps f.1)

module _ (input : List ℕ) (input_whole : length input % 3 ≡ 0) where
  -- one patch more was laid at first
  laid_later : (laid : List ℕ) (Side : ℕ → ℕ → Type 0) (p : List ℕ) (ps : List (List ℕ)) (l : ℕ) → length laid % 3 ≡ 0
      → Laid input (laid ++ p) Side ps l → Laid input laid Side (p ∷ ps) (suc l)
  laid_later laid Side p ps l w h =
      record {
        before = h.before;
        lies = h.lies;
        holds = λ u v. omega (arith, h.holds u v, times_append laid p w u v);
        earlier = earlier_of;
      }
    where
      earlier_of : (m : ℕ) → m < suc l → (u v : ℕ) → times (get_or (p ∷ ps) m []) u v ≤ times h.before u v
      earlier_of zero k u v = omega (arith, h.holds u v, times_append laid p w u v)
      earlier_of (suc m) k u v = h.earlier m (omega arith) u v

  pub filled_laid : (laid : List ℕ) (rings ps : List (List ℕ)) → length laid % 3 ≡ 0 → ((l : ℕ) → l < length rings → Ring (get_or rings l []))
      → Filled input laid rings ps → (l : ℕ) → l < length rings → Laid input laid (Turn (length (get_or rings l [])) (vertex_of (get_or rings l []))) ps l
  filled_laid laid [] ps w r f l k = absurd (not-suc-le-zero k)
  filled_laid laid (x ∷ rings) [] w r f l k = absurd f
  filled_laid laid (x ∷ rings) (p ∷ ps) w r f zero k =
      record {
        before = laid;
        lies = fills_lies input laid x p input_whole w (r 0 k).different (r 0 k).three f.0;
        holds = λ u v. omega arith;
        earlier = λ m q u v. absurd (not-suc-le-zero q);
      }
  filled_laid laid (x ∷ rings) (p ∷ ps) w r f (suc l) k =
      let y = fills_lies input laid x p input_whole w (r 0 (omega arith)).different (r 0 (omega arith)).three f.0 in
      let z : length p % 3 ≡ 0 = y.whole in
      laid_later laid (Turn (length (get_or rings l [])) (vertex_of (get_or rings l []))) p ps l w
      (filled_laid (laid ++ p) rings ps (omega (arith, length-append laid p)) (λ m q. r (suc m) (omega arith)) f.1 l (omega arith))
