-- A loop lies in one piece: the turn goes on across shared edges only, so the next edge lies in the piece of the one before, and so does the whole
-- cycle; and a loop is cut out of one cycle.
use Rattle.std.specs.Prelude.{Option, Some, None}
use mathlib.Core.Path.{◌≡◌, refl, sym, ◌∙◌, subst}
use mathlib.Core.Bool.{Bool, true, false, cond}
use mathlib.Core.List.{List, [], ◌++◌, append-nil}
use Prim.Native.Nat.{ℕ, zero, suc, ◌/◌, ◌<◌, ◌≤◌}
use native.Mathlib.Omega.{arith}
use lib.ListN.{length, get_or}
use Rattle.surface_rules.specs.Edges.{Sound, following, twin, is_open}
use Rattle.loop_rules.specs.Next.{across, step, turn, next}
use Rattle.loop_rules.specs.Loops.{cycle, leads, loops_of, loops_below, loops}
use Rattle.loop_rules.proofs.Laws.Fan.{hand_below}
use Rattle.loop_rules.proofs.Laws.Cycles.{ahead, cycle_at, ahead_below}
use Rattle.loop_rules.proofs.Laws.Counts.{Among}
use Rattle.loop_rules.proofs.Laws.Places.{listed_within}
use Rattle.loop_rules.proofs.Laws.Each.{Each, each_none, each_append, each_at, at_each}
use Rattle.loop_rules.proofs.Laws.Leaders.{leads_open}
use Rattle.rim_pieces.specs.Pieces.{Joined, itself}
use Rattle.rim_pieces.proofs.Laws.Joining.{join_on, join_one, join_back, twin_shares}

-- all edges of l lie in one piece
pub OnePiece : List ℕ → List ℕ → Type 0
OnePiece corners l = (i j : ℕ) → i < length l → j < length l → Joined corners (get_or l i 0 / 3) (get_or l j 0 / 3)

same_triangle : (g : ℕ) → following g / 3 ≡ g / 3
unfolding following
same_triangle g = omega arith

module _ (corners : List ℕ) (sound : Sound corners) where
  step_joined : (e : ℕ) → e < length corners → Joined corners (e / 3) (step corners e / 3)
  unfolding step
  step_joined e l = go (twin corners e) refl
    where
      go : (f : Option ℕ) → twin corners e ≡ f → Joined corners (e / 3) (across f e / 3)
      go (Some g) d = subst (Joined corners (e / 3)) (sym (same_triangle g)) (join_one (twin_shares corners e g l d))
      go None d = itself

  turn_joined : (h : ℕ) → h < length corners → (k : ℕ) → Joined corners (h / 3) (turn corners k (following h) / 3)
  unfolding turn
  turn_joined h l zero = subst (Joined corners (h / 3)) (sym (same_triangle h)) itself
  turn_joined h l (suc k) = join_on (turn_joined h l k) (step_joined (turn corners k (following h)) (hand_below corners sound h l k))

  pub next_joined : (h : ℕ) → h < length corners → Joined corners (h / 3) (next corners h / 3)
  unfolding next
  next_joined h l = turn_joined h l (length corners)

  ahead_joined : (h : ℕ) → h < length corners → (k : ℕ) → Joined corners (h / 3) (ahead corners k h / 3)
  unfolding ahead
  ahead_joined h l zero = itself
  ahead_joined h l (suc k) = join_on (ahead_joined h l k) (next_joined (ahead corners k h) (ahead_below corners sound h l k))

  cycle_joined : (h : ℕ) → h < length corners → is_open corners h ≡ true → (e : ℕ) → Among e (cycle corners h) → Joined corners (h / 3) (e / 3)
  cycle_joined h l o e m =
      let a : ahead corners m.place h ≡ e = sym (cycle_at corners sound h l o m.place m.below) ∙ m.is in
      subst (λ (x : ℕ). Joined corners (h / 3) (x / 3)) a (ahead_joined h l m.place)

  -- each loop of a cycle
  cycle_one : (h : ℕ) → h < length corners → is_open corners h ≡ true → Each (OnePiece corners) (loops_of corners h)
  unfolding loops_of OnePiece
  cycle_one h l o =
      at_each (OnePiece corners) (loops_of corners h)
      (λ n ln i j li lj.
      let to : (k : ℕ) → k < length (get_or (loops_of corners h) n []) → Joined corners (h / 3) (get_or (get_or (loops_of corners h) n []) k 0 / 3) = λ k lk.
      cycle_joined h l o _ (listed_within corners (cycle corners h) _ (record { loop = n; loop_below = ln; at = k; at_below = lk; is = refl })) in
      join_on (join_back (to i li)) (to j lj))

  below_one : (k : ℕ) → k ≤ length corners → Each (OnePiece corners) (loops_below corners k)
  unfolding loops_below
  below_one zero l = each_none (OnePiece corners)
  below_one (suc k) l = go (below_one k (omega arith)) (leads corners k) refl
    where
      go : Each (OnePiece corners) (loops_below corners k) → (t : Bool) → leads corners k ≡ t → Each (OnePiece corners) (loops_below corners k ++ cond t (loops_of corners k) [])
      go r true d = each_append (OnePiece corners) (loops_below corners k) (loops_of corners k) r (cycle_one k l (leads_open corners k d))
      go r false d = rw append-nil r

  -- "the record kept for a loop must carry ... its piece number": there is one, since a loop lies in one piece.
  pub loop_in_one_piece : (n : ℕ) → n < length (loops corners) → (i j : ℕ) → i < length (get_or (loops corners) n []) → j < length (get_or (loops corners) n [])
      → Joined corners (get_or (get_or (loops corners) n []) i 0 / 3) (get_or (get_or (loops corners) n []) j 0 / 3)
  unfolding loops OnePiece
  loop_in_one_piece n l = each_at (OnePiece corners) (loops corners) (below_one (length corners) (omega arith)) n l
