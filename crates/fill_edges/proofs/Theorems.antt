-- What the demands cite of a surface and the patches that its loops are filled with, whoever laid them.
use Prim.Native.Nat.{ℕ, ◌<◌, ◌≤◌, ◌%◌, ◌-◌}
use mathlib.Core.Path.{◌≡◌, refl, sym, ap, ap₂, ◌∙◌}
use mathlib.Core.Bool.{true, false}
use mathlib.Core.Logic.{◌⊎◌, inl, inr, ⊎_elim}
use mathlib.Core.List.{List, [], ◌++◌, map, flatten}
use native.Mathlib.Omega.{arith}
use lib.ListN.{length, get_or, length-append, get_or-eq_default}
use Rattle.surface_rules.specs.Edges.{Sound, start_of, end_of, is_open}
use Rattle.surface_rules.proofs.Laws.Tests.{lt_or_le}
use Rattle.surface_rules.proofs.Laws.Edges.{one_edge}
use Rattle.loop_rules.specs.Loops.{loops, ring}
use Rattle.loop_rules.proofs.Laws.Places.{Place}
use Rattle.loop_rules.proofs.Theorems.{one_loop}
use Rattle.cover_bars.specs.Bars.{edge, between}
use Rattle.cover_bars.proofs.Laws.Joins.{between_none}
use Rattle.fill_edges.specs.Filling.{Filled}
use Rattle.fill_edges.proofs.Laws.Times.{times, times_append, times_none, half, half_times, single_times, times_single, edge_times, times_apart, open_times, times_open}
use Rattle.fill_edges.proofs.Laws.After.{start_left, end_left, half_right}
use Rattle.fill_edges.proofs.Laws.Filled.{Laid, as_many, filled_laid}
use Rattle.fill_edges.proofs.Laws.Sums.{Wholes, flat_whole}
use Rattle.fill_edges.proofs.Laws.Together.{Sides, Diagonal, together_wholes, together_once, patch_met, side_met, side_left, patch_edge}
use Rattle.fill_edges.proofs.Laws.Rings.{EdgeAgainst, Side, rings_many, side_against, against_side, ring_of, surface_sides}

module _ (corners : List ℕ) (patches : List (List ℕ)) (sound : Sound corners) (filled : Filled corners [] (map (ring corners) (loops corners)) patches) where
  abbrev after : List ℕ
  after = corners ++ flatten patches

  whole : length corners % 3 ≡ 0
  whole = sound.triples

  many : length patches ≡ length (loops corners)
  many = as_many corners [] (map (ring corners) (loops corners)) patches filled ∙ rings_many corners sound

  sides : Sides corners (length patches) (Side corners sound)
  sides = surface_sides corners sound (length patches) many

  laid : (l : ℕ) → l < length patches → Laid corners [] (Side corners sound l) patches l
  laid l k =
      filled_laid corners whole [] (map (ring corners) (loops corners)) patches refl
      (λ m q. ring_of corners sound m (omega (arith, rings_many corners sound))) filled l (omega (arith, many, rings_many corners sound))

  wholes : Wholes patches
  wholes = together_wholes corners whole (Side corners sound) patches sides laid

  after_whole : length (corners ++ flatten patches) % 3 ≡ 0
  after_whole = let w = whole in omega (arith, length-append corners (flatten patches), flat_whole patches wholes)

  input_once : (u v : ℕ) → times corners u v ≤ 1
  input_once u v =
      single_times corners whole u v
      (λ g h j k. one_edge corners sound g h j.in_list k.in_list (j.starts ∙ sym k.starts) (j.ends ∙ sym k.ends))

  -- no directed edge occurs twice
  pub none_twice : (g h : ℕ) → g < length (corners ++ flatten patches) → h < length (corners ++ flatten patches)
      → start_of (corners ++ flatten patches) g ≡ start_of (corners ++ flatten patches) h
      → end_of (corners ++ flatten patches) g ≡ end_of (corners ++ flatten patches) h → g ≡ h
  none_twice g h k q e f =
      times_single after after_whole (start_of after h) (end_of after h)
      (together_once corners whole (Side corners sound) patches sides laid input_once (start_of after h) (end_of after h)) g h
      (record { in_list = k; starts = e; ends = f }) (half after h q)

  -- ---- open edges

  -- an edge of a loop is a side of it, turned round
  place_against : (h : ℕ) (w : Place (loops corners) h) → EdgeAgainst corners (get_or (loops corners) w.loop []) (end_of corners h) (start_of corners h)
  place_against h w =
      record { at = w.at; at_below = w.at_below; starts = ap (start_of corners) w.is; ends = ap (end_of corners) w.is }

  place_side : (h : ℕ) (w : Place (loops corners) h) → Side corners sound w.loop (end_of corners h) (start_of corners h)
  place_side h w = against_side corners sound w.loop w.loop_below (end_of corners h) (start_of corners h) (place_against h w)

  place_patch : (h : ℕ) (w : Place (loops corners) h) → w.loop < length patches
  place_patch h w = let b : w.loop < length (loops corners) = w.loop_below in omega (arith, many)

  -- a half-edge of the input has the same ends with the patches after it
  turned_left : (h : ℕ) → h < length corners → times after (end_of after h) (start_of after h) ≡ times after (end_of corners h) (start_of corners h)
  turned_left h k = ap₂ (times after) (end_left corners (flatten patches) whole h k) (start_left corners (flatten patches) whole h k)

  input_open : (h : ℕ) → h < length corners → times after (end_of after h) (start_of after h) ≡ 0 → is_open corners h ≡ true
  input_open h k z =
      times_open corners whole h
      (omega (arith, turned_left h k, times_append corners (flatten patches) whole (end_of corners h) (start_of corners h)))

  in_input : (h : ℕ) → h < length (corners ++ flatten patches) → times after (end_of after h) (start_of after h) ≡ 0 → h < length corners
  in_input h q z =
      ⊎_elim
      (λ (k : h < length corners). k)
      (λ (k : length corners ≤ h).
      absurd
      (omega (
        arith,
        patch_met corners whole (Side corners sound) patches sides laid (start_of after h) (end_of after h)
            (half_times (flatten patches) (flat_whole patches wholes) (start_of after h) (end_of after h) (h - length corners) (half_right corners (flatten patches) whole h k q)),
      )))
      (lt_or_le h (length corners))

  -- the only open edges are those of loops in which nothing was laid,
  pub only_those : (h : ℕ) → h < length (corners ++ flatten patches) → is_open (corners ++ flatten patches) h ≡ true
      → (w : Place (loops corners) h) × (get_or patches w.loop [] ≡ [])
  only_those h q o =
      let z : times after (end_of after h) (start_of after h) ≡ 0 = open_times after after_whole h o in
      let k : h < length corners = in_input h q z in
      let w : Place (loops corners) h = (one_loop corners sound).placed h k (input_open h k z) in (
        w,
        side_met corners whole (Side corners sound) patches sides laid w.loop (end_of corners h) (start_of corners h) (place_patch h w) (place_side h w)
            (sym (turned_left h k) ∙ z),
      )

  -- and all of these are open
  pub all_those : (h : ℕ) (w : Place (loops corners) h) → get_or patches w.loop [] ≡ [] → is_open (corners ++ flatten patches) h ≡ true
  all_those h w e =
      let k : h < length corners = ((one_loop corners sound).nothing_else h w).0 in
      times_open after after_whole h
      (turned_left h k
      ∙ side_left corners whole (Side corners sound) patches sides laid w.loop (end_of corners h) (start_of corners h) (place_patch h w) (place_side h w) e)

  -- ---- the edges of one patch

  laid_edge : (l u v : ℕ) → edge (get_or patches l []) u v ≡ true → l < length patches
  laid_edge l u v e =
      ⊎_elim
      (λ (k : l < length patches). k)
      (λ (k : length patches ≤ l).
      absurd
      (omega (
        arith,
        edge_times [] refl u v (sym (ap (λ (p : List ℕ). edge p u v) (get_or-eq_default patches [] k)) ∙ e),
        times_none u v,
      )))
      (lt_or_le l (length patches))

  others : (l u v : ℕ) → Diagonal corners patches l u v → (m : ℕ) → (m ≡ l → ⊥) → between (get_or patches m []) u v ≡ false
  others l u v d m n =
      ⊎_elim
      (λ (k : m < length patches). times_apart (get_or patches m []) (wholes m k) u v (d.others_along m k n) (d.others_against m k n))
      (λ (k : length patches ≤ m). ap (λ (p : List ℕ). between p u v) (get_or-eq_default patches [] k) ∙ between_none u v)
      (lt_or_le m (length patches))

  -- an edge of a patch is wound against an edge of its loop, or it is a diagonal: no edge of the input, and laid in no other loop
  pub each_edge : (l u v : ℕ) → edge (get_or patches l []) u v ≡ true
      → ((l < length (loops corners)) × EdgeAgainst corners (get_or (loops corners) l []) u v)
      ⊎ ((between corners u v ≡ false) × ((m : ℕ) → (m ≡ l → ⊥) → between (get_or patches m []) u v ≡ false))
  each_edge l u v e =
      let k : l < length patches = laid_edge l u v e in
      let q : l < length (loops corners) = omega (arith, many) in
      ⊎_elim
      (λ s. inl (q, side_against corners sound l q u v s))
      (λ d. inr (times_apart corners whole u v d.not_along d.not_against, others l u v d))
      (patch_edge corners whole (Side corners sound) patches sides laid l u v k (edge_times (get_or patches l []) (wholes l k) u v e))
