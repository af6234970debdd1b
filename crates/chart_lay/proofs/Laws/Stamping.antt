-- Vertex after vertex of a ring is stamped.
use Rattle.std.specs.Prelude.{None}
use mathlib.Core.Path.{◌≡◌, sym, ap, ◌∙◌}
use mathlib.Core.Bool.{Bool, true, false}
use mathlib.Core.Logic.{⊎_elim}
use mathlib.Core.List.{List}
use Prim.Native.Nat.{ℕ, ◌+◌, ◌≤◌, ◌<◌}
use native.Mathlib.Omega.{arith}
use lib.ListN.{length, get_or, set, length-set}
use lib.Seq.{get_or-set_same, get_or-set_other}
use borrow.Author.Tests.{eq-eqb, ne_eqb, eqb-false}
use Rattle.surface_rules.specs.Smallest.{least, any}
use Rattle.surface_rules.proofs.Laws.Smallest.{least_none, least_more, least_at, any_never}
use Rattle.surface_rules.proofs.Laws.Tests.{eq_or_not}
use Rattle.chart_rules.specs.Report.{stands}
use Rattle.chart_lay.specs.Workings.Stamping.{Inside, has_stamp, any_stamp}

-- the first i vertices have the stamp, and those that are no vertices of the ring theirs
pub record Stamping (ring stamps₀ : List ℕ) (stamp i : ℕ) (stamps : List ℕ) : Type 0 where
  pub kept : length stamps ≡ length stamps₀
  pub so_far : (j : ℕ) → j < i → get_or stamps (get_or ring j 0) 0 ≡ stamp
  pub others : (v : ℕ) → stands ring v ≡ false → get_or stamps v 0 ≡ get_or stamps₀ v 0

module _ {ring stamps₀ : List ℕ} {stamp : ℕ} (room : Inside ring stamps₀) where
  module _ {i : ℕ} {stamps : List ℕ} (m : Stamping ring stamps₀ stamp i stamps) where
    module _ (h : i < length ring) where
      pub stamp_in : get_or ring i 0 < length stamps
      stamp_in = let a = room i h in let k = m.kept in omega arith

      pub stamping_more : Stamping ring stamps₀ stamp (i + 1) (set stamps (get_or ring i 0) stamp)
      stamping_more = record {
        kept = length-set stamps (get_or ring i 0) stamp ∙ m.kept;
        so_far = λ j k. ⊎_elim
            (λ (q : get_or ring j 0 ≡ get_or ring i 0). ap (λ (x : ℕ). get_or (set stamps (get_or ring i 0) stamp) x 0) q ∙ get_or-set_same stamps (get_or ring i 0) stamp 0 stamp_in)
            (λ (q : get_or ring j 0 ≡ get_or ring i 0 → ⊥). get_or-set_other stamps (get_or ring i 0) (get_or ring j 0) stamp 0 q ∙ m.so_far j (less j k q))
            (eq_or_not (get_or ring j 0) (get_or ring i 0));
        others = λ v e.
            get_or-set_other stamps (get_or ring i 0) v stamp 0 (λ q. eqb-false _ _ (any_never _ (length ring) e i h) (sym q)) ∙ m.others v e;
      }
        where
          less : (j : ℕ) → j < i + 1 → (get_or ring j 0 ≡ get_or ring i 0 → ⊥) → j < i
          less j k q = ⊎_elim (λ (z : j ≡ i). absurd (q (ap (λ (x : ℕ). get_or ring x 0) z))) (λ (z : j ≡ i → ⊥). omega arith) (eq_or_not j i)

-- ---- the search for a stamp

abbrev tested : List ℕ → List ℕ → ℕ → ℕ → Bool
tested ring stamps stamp i = has_stamp stamps stamp (get_or ring i 0)

-- the first i vertices have not got it
pub record Unstamped (ring stamps : List ℕ) (stamp i : ℕ) : Type 0 where
  pub within : i ≤ length ring
  pub not_yet : least (tested ring stamps stamp) i ≡ None

pub unstamped_begins : {ring stamps : List ℕ} {stamp : ℕ} → Unstamped ring stamps stamp 0
unstamped_begins {ring} {stamps} {stamp} = record { within = omega arith; not_yet = least_none (tested ring stamps stamp) }

module _ {ring stamps : List ℕ} {stamp i : ℕ} (u : Unstamped ring stamps stamp i) where
  pub unstamped_more : i < length ring → (get_or stamps (get_or ring i 0) 0 ≡ stamp → ⊥) → Unstamped ring stamps stamp (i + 1)
  unstamped_more h e = record { within = omega arith; not_yet = least_more (tested ring stamps stamp) i u.not_yet (ne_eqb _ _ e) }

  pub stamp_found : i < length ring → get_or stamps (get_or ring i 0) 0 ≡ stamp → true ≡ any_stamp ring stamps stamp
  unfolding any_stamp
  stamp_found h e = sym (ap any (least_at (tested ring stamps stamp) i (length ring) u.not_yet (eq-eqb _ _ e) h))

  pub no_stamp : length ring ≤ i → false ≡ any_stamp ring stamps stamp
  unfolding any_stamp
  no_stamp h = let w = u.within in sym (ap any (ap (least (tested ring stamps stamp)) (let z : length ring ≡ i = omega arith in z) ∙ u.not_yet))
