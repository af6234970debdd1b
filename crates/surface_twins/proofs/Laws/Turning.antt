-- One half-edge more in the table of turns: h repeats an earlier one exactly where it met one that runs its way, or one that has a twin already. Otherwise h and its twin alone get new entries, since no other half-edge below h runs as that twin does.
use Rattle.std.specs.Prelude.{Option, Some, None}
use mathlib.Core.Path.{◌≡◌, refl, sym, ap, ap₂, ◌∙◌}
use mathlib.Core.Bool.{Bool, false, true≢false}
use mathlib.Core.List.{List}
use mathlib.Core.Logic.{⊎_elim}
use Prim.Native.Nat.{ℕ, ◌+◌, ◌-◌, ◌<◌, ◌≤◌}
use native.Mathlib.Omega.{arith}
use lib.Dec.{ltb}
use lib.ListN.{length, get_or, set, length-set}
use lib.Seq.{get_or-set_same, get_or-set_other}
use borrow.Author.Tests.{ltb-false, lt-ltb, le-ltb}
use Rattle.base_limits.specs.Limits as limits
use Rattle.surface_rules.specs.Smallest.{least, any}
use Rattle.surface_rules.specs.Edges.{following, start_of, end_of, goes, repeats}
use Rattle.surface_rules.proofs.Laws.Tests.{eq_or_not, not_so, either_false}
use Rattle.surface_rules.proofs.Laws.Smallest.{least_never, least_sound, least_more, least_at, never_least, never_any}
use Rattle.surface_rules.proofs.Laws.Edges.{Goes, goes_says, goes_from, repeats_from, following_below, one_below}
use Rattle.surface_twins.specs.declared.Met.{Met}
use Rattle.surface_twins.specs.declared.Met.TheVariants.{Twin, Like, Nothing}
use Rattle.surface_twins.specs.Workings.Turns.{open_mark, turn_by, stops, Room}
use Rattle.surface_twins.specs.Workings.Chains.{Meets, refused, turned, TurnsBelow}
use Rattle.surface_twins.proofs.Laws.Searches.{least_skip, least_keeps}

-- the half-edges that run against k
abbrev against : List ℕ → ℕ → ℕ → Bool
against corners k = goes corners (end_of corners k) (start_of corners k)

module _ (corners table : List ℕ) (h : ℕ) (room : Room corners table) (fresh : least (stops corners) h ≡ None) (turns : TurnsBelow corners h table) (edge : h < length corners) where
  -- below h no two run alike
  one_goes : (j k a b : ℕ) → j < h → k < h → Goes corners a b j → Goes corners a b k → j ≡ k
  unfolding stops
  one_goes j k a b l m r s =
      one_below corners h (λ i q. (either_false _ _ (least_never (stops corners) h fresh i q)).0) j k l m (r.starts ∙ sym s.starts) (r.ends ∙ sym s.ends)

  -- what stands with e: where it has a twin below h, something small
  entry_is : (e : ℕ) → e < h → get_or table e 0 ≡ turn_by (least (against corners e) h) e
  unfolding TurnsBelow
  entry_is e l = turns e l

  twin_small : (e g : ℕ) → e < h → least (against corners e) h ≡ Some g → get_or table e 0 < open_mark
  twin_small e g l q =
      let s : g < h = (least_sound (against corners e) h g q).0 in
      let n : length corners ≤ limits.corners = room.few in
      let i : following g < length corners = following_below (length corners) g room.triples (omega arith) in
      let a : get_or table e 0 ≡ following g = entry_is e l ∙ ap (λ (z : Option ℕ). turn_by z e) q in
      omega arith

  open_great : (e : ℕ) → e < h → least (against corners e) h ≡ None → get_or table e 0 ≡ open_mark + following e
  open_great e l q = entry_is e l ∙ ap (λ (z : Option ℕ). turn_by z e) q

  -- a half-edge that runs against h has one that runs against it where h repeats that
  module _ (e : ℕ) (l : e < h) (r : Goes corners (end_of corners h) (start_of corners h) e) where
    same_search : least (against corners e) h ≡ least (goes corners (start_of corners h) (end_of corners h)) h
    same_search = ap₂ (λ (a b : ℕ). least (goes corners a b) h) r.ends r.starts

    twin_repeats : ltb (get_or table e 0) open_mark ≡ repeats corners h
    unfolding repeats
    twin_repeats = go (least (against corners e) h) refl
      where
        go : (f : Option ℕ) → least (against corners e) h ≡ f → ltb (get_or table e 0) open_mark ≡ any (least (goes corners (start_of corners h) (end_of corners h)) h)
        go (Some g) q = lt-ltb _ _ (twin_small e g l q) ∙ ap any (sym q ∙ same_search)
        go None q =
            let a : get_or table e 0 ≡ open_mark + following e = open_great e l q in
            le-ltb (get_or table e 0) open_mark (omega arith) ∙ ap any (sym q ∙ same_search)

    twin_open : open_mark ≤ get_or table e 0 → least (against corners e) h ≡ None
    twin_open m = go (least (against corners e) h) refl
      where
        go : (f : Option ℕ) → least (against corners e) h ≡ f → least (against corners e) h ≡ None
        go (Some g) q = let s : get_or table e 0 < open_mark = twin_small e g l q in absurd (omega arith)
        go None q = q

    -- e is the twin of h, and the only one
    twin_found : least (against corners h) (h + 1) ≡ Some e
    twin_found = least_keeps (against corners h) h (h + 1) e (go (least (against corners h) h) refl) (omega arith)
      where
        go : (f : Option ℕ) → least (against corners h) h ≡ f → least (against corners h) h ≡ Some e
        go (Some g) q =
            let s = least_sound (against corners h) h g q in
            q ∙ ap Some (one_goes g e _ _ s.0 l (goes_says corners _ _ g s.1) r)
        go None q = absurd (true≢false (sym (goes_from corners _ _ e r) ∙ least_never (against corners h) h q e l))

    -- another half-edge below h is not opposed by h
    other_same : (k : ℕ) → k < h → (k ≡ e → ⊥) → least (against corners k) (h + 1) ≡ least (against corners k) h
    other_same k m n =
        least_skip (against corners k) h
        (not_so _
        (λ t.
        let s = goes_says corners _ _ h t in
        n (one_goes k e _ _ m l (record { starts = sym s.ends; ends = sym s.starts }) r)))

    twin_turns : (f : ℕ) → f ≡ following h → open_mark ≤ get_or table e 0 → TurnsBelow corners (h + 1) (set (set table h (get_or table e 0 - open_mark)) e f)
    unfolding TurnsBelow
    twin_turns f ef m k lk =
        ⊎_elim
        (λ (q : k ≡ e).
        rw q
        (get_or-set_same (set table h (get_or table e 0 - open_mark)) e f 0 (rw (length-set table h (get_or table e 0 - open_mark)) (omega arith))
        ∙ ef
        ∙ ap (λ (z : Option ℕ). turn_by z e) (sym (least_at (against corners e) h (h + 1) (twin_open m) (goes_from corners _ _ h (record { starts = sym r.ends; ends = sym r.starts })) (omega arith)))))
        (λ (q : k ≡ e → ⊥).
        get_or-set_other (set table h (get_or table e 0 - open_mark)) e k f 0 q
        ∙ ⊎_elim
        (λ (p : k ≡ h).
        rw p
        (get_or-set_same table h (get_or table e 0 - open_mark) 0 (omega arith)
        ∙ (let a : get_or table e 0 ≡ open_mark + following e = open_great e l (twin_open m) in let d : get_or table e 0 - open_mark ≡ following e = omega arith in d)
        ∙ ap (λ (z : Option ℕ). turn_by z h) (sym twin_found)))
        (λ (p : k ≡ h → ⊥).
        let n : k < h = omega arith in
        get_or-set_other table h k (get_or table e 0 - open_mark) 0 p ∙ entry_is k n ∙ ap (λ (z : Option ℕ). turn_by z k) (sym (other_same k n q)))
        (eq_or_not k h))
        (eq_or_not k e)
      where
        long : length corners ≤ length table
        long = room.long

  -- h is open so far
  module _ (apart : start_of corners h ≡ end_of corners h → ⊥) (none : (k : ℕ) → k < h → (goes corners (start_of corners h) (end_of corners h) k ≡ false) × (goes corners (end_of corners h) (start_of corners h) k ≡ false)) where
    new_turns : (f : ℕ) → f ≡ following h → TurnsBelow corners (h + 1) (set table h (open_mark + f))
    unfolding TurnsBelow
    new_turns f ef k lk =
        ⊎_elim
        (λ (p : k ≡ h).
        rw p
        (get_or-set_same table h (open_mark + f) 0 (omega arith)
        ∙ ap (λ (z : ℕ). open_mark + z) ef
        ∙ ap (λ (z : Option ℕ). turn_by z h)
        (sym
        (least_more (against corners h) h (never_least (against corners h) h (λ j m. (none j m).1))
        (not_so _ (λ t. apart (goes_says corners _ _ h t).starts))))))
        (λ (p : k ≡ h → ⊥).
        let n : k < h = omega arith in
        get_or-set_other table h k (open_mark + f) 0 p ∙ entry_is k n ∙ ap (λ (z : Option ℕ). turn_by z k)
        (sym
        (least_skip (against corners k) h
        (not_so _
        (λ t.
        let s = goes_says corners _ _ h t in
        true≢false (sym (goes_from corners _ _ k (record { starts = sym s.ends; ends = sym s.starts })) ∙ (none k n).1))))))
        (eq_or_not k h)
      where
        long : length corners ≤ length table
        long = room.long

  none_repeats : ((k : ℕ) → k < h → goes corners (start_of corners h) (end_of corners h) k ≡ false) → repeats corners h ≡ false
  unfolding repeats
  none_repeats w = never_any _ h w

  pub met_repeats : (met : Met) → Meets corners (start_of corners h) (end_of corners h) h met → refused met table ≡ repeats corners h
  unfolding Meets
  met_repeats (Twin e) m = twin_repeats e m.0 (goes_says corners _ _ e m.1)
  met_repeats Like m = sym (repeats_from corners m.0 h m.1 (goes_says corners _ _ m.0 m.2))
  met_repeats Nothing m = sym (none_repeats (λ k l. (m k l).0))

  pub met_turns : (start_of corners h ≡ end_of corners h → ⊥) → (met : Met) → Meets corners (start_of corners h) (end_of corners h) h met → (f : ℕ) → f ≡ following h → refused met table ≡ false → TurnsBelow corners (h + 1) (turned met h f table)
  unfolding Meets
  met_turns apart (Twin e) m f ef d = twin_turns e m.0 (goes_says corners _ _ e m.1) f ef (ltb-false _ _ d)
  met_turns apart Like m f ef d = absurd (true≢false d)
  met_turns apart Nothing m f ef d = new_turns apart m f ef
