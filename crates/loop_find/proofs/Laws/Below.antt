-- The table of turns, once the cycles whose leaders are below h were walked, tells whether h leads: it does exactly where it has the mark of an open edge that was not walked.
use mathlib.Core.Path.{◌≡◌, sym, ap, ◌∙◌}
use mathlib.Core.Bool.{true, false, true≢false}
use mathlib.Core.List.{List}
use Prim.Native.Nat.{ℕ, zero, suc, ◌+◌, ◌<◌, ◌≤◌}
use native.Mathlib.Omega.{arith}
use lib.ListN.{length, get_or}
use Rattle.base_limits.specs.Limits as limits
use Rattle.surface_rules.specs.Edges.{Sound}
use Rattle.surface_rules.proofs.Laws.Tests.{not_so}
use Rattle.surface_twins.specs.Workings.Turns.{open_mark}
use Rattle.loop_rules.specs.Loops.{leads, loops_below}
use Rattle.loop_rules.proofs.Laws.Leaders.{leads_open}
use Rattle.loop_rules.proofs.Laws.Surfaces.{edges_below, edges_other, loops_other, leader_new, new_leads}
use Rattle.loop_leaders.specs.Workings.Leading.{Quiet}
use Rattle.loop_find.specs.Workings.Walking.{Turned}
use Rattle.loop_find.proofs.Laws.Marks.{among_holds, open_at, walked_at, turned_same}

module _ (corners : List ℕ) (sound : Sound corners) (few : length corners ≤ limits.corners) (turns : List ℕ) where
  module _ (h : ℕ) (l : h < length corners) (table : Turned corners (edges_below corners h) turns) where
    -- an open edge that was not walked is in no cycle before
    pub marked_leads : open_mark ≤ get_or turns h 0 → leads corners h ≡ true
    marked_leads m =
        let o = open_at corners sound few (edges_below corners h) turns table h l m in
        new_leads corners sound h l o.opens (λ a. true≢false (sym (among_holds h (edges_below corners h) a) ∙ o.new))

    -- a leader was not walked
    pub quiet_not : get_or turns h 0 < open_mark → leads corners h ≡ false
    quiet_not m = not_so (leads corners h) (λ t. leader_new corners sound h l t (walked_at corners sound few (edges_below corners h) turns table h l m (leads_open corners h t)))

  -- nothing is walked and listed from h up to h + m if all there is quiet
  pub quiet_same : (h m : ℕ) → h + m ≤ length corners → Turned corners (edges_below corners h) turns → Quiet turns h (h + m) → (edges_below corners (h + m) ≡ edges_below corners h) × (loops_below corners (h + m) ≡ loops_below corners h)
  unfolding Quiet
  quiet_same h zero l table q = let z : h + 0 ≡ h = omega arith in (ap (edges_below corners) z, ap (loops_below corners) z)
  quiet_same h (suc m) l table q =
      let r = quiet_same h m (omega arith) table (λ k a b. q k a (omega arith)) in
      let z : h + suc m ≡ suc (h + m) = omega arith in
      let no' : leads corners (h + m) ≡ false = quiet_not (h + m) (omega arith) (turned_same corners _ _ turns (sym r.0) table) (q (h + m) (omega arith) (omega arith)) in
      (ap (edges_below corners) z ∙ edges_other corners (h + m) no' ∙ r.0, ap (loops_below corners) z ∙ loops_other corners (h + m) no' ∙ r.1)
