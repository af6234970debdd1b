-- The starts of a path's edges, laid into the rings one by one.
use mathlib.Core.Path.{◌≡◌, sym, ap, ◌∙◌}
use mathlib.Core.List.{List, [], ◌∷◌, ◌++◌, map-append}
use Prim.Native.Nat.{ℕ, ◌+◌, ◌-◌, ◌<◌, ◌≤◌}
use native.Mathlib.Numerals.{add-one}
use native.Mathlib.Omega.{arith}
use lib.ListN.{length, get_or, take, drop, set, length-drop, length-map}
use lib.Seq.{take-suc, take_all, length-take-le}
use Rattle.std.proofs.lemmas.List.{drop-take}
use Rattle.surface_rules.specs.Buffers.{laid}
use Rattle.surface_rules.specs.Edges.{start_of}
use Rattle.surface_rules.proofs.Laws.Laid.{laid_none, laid_more}
use Rattle.loop_rules.specs.Loops.{ring}
use Rattle.loop_cut.specs.Workings.Growing.{part, RingRoom}

pub part_length : (path : List ℕ) (j end : ℕ) → end ≤ length path → length (part path j end) ≡ end - j
part_length path j end l = length-drop j (take end path) ∙ ap (λ (z : ℕ). z - j) (length-take-le end path l)

-- the starts of the first k edges stand in the rings
unfoldable pub Wrote : List ℕ → List ℕ → List ℕ → ℕ → ℕ → List ℕ → Type 0
Wrote corners edges rings₀ from k rings = rings ≡ laid from (ring corners (take k edges)) rings₀

module _ (corners edges rings₀ : List ℕ) (from : ℕ) where
  pub wrote_none : Wrote corners edges rings₀ from 0 rings₀
  unfolding Wrote
  wrote_none = sym (laid_none from rings₀)

  pub wrote_more : (k : ℕ) (rings : List ℕ) → Wrote corners edges rings₀ from k rings → k < length edges → from + k < length rings₀
      → Wrote corners edges rings₀ from (k + 1) (set rings (from + k) (start_of corners (get_or edges k 0)))
  unfolding Wrote
  wrote_more k rings h l m =
      let n : length (ring corners (take k edges)) ≡ k = length-map (take k edges) (start_of corners) ∙ length-take-le k edges (omega arith) in
      let e : ring corners (take (k + 1) edges) ≡ ring corners (take k edges) ++ (start_of corners (get_or edges k 0) ∷ []) = rw (add-one, take-suc edges k 0 l, map-append) in
      ap (λ (r : List ℕ). set r (from + k) (start_of corners (get_or edges k 0))) h
      ∙ laid_more from rings₀ 0 (ring corners (take k edges)) (start_of corners (get_or edges k 0)) (from + k) (omega arith) m
      ∙ ap (λ (r : List ℕ). laid from r rings₀) (sym e)

-- and those of a path's edges from j up to `end` once all do
pub wrote_part : (corners path rings₀ : List ℕ) (j end from k : ℕ) (rings : List ℕ) → RingRoom corners path j end rings₀ from
    → Wrote corners (take (end - j) (drop j path)) rings₀ from k rings → length (take (end - j) (drop j path)) ≤ k → rings ≡ laid from (ring corners (part path j end)) rings₀
unfolding Wrote
wrote_part corners path rings₀ j end from k rings room h l =
    let o : j + (end - j) ≡ end = let a = room.order in omega arith in
    let e : take (end - j) (drop j path) ≡ part path j end = sym (drop-take j (end - j) path) ∙ ap (λ (n : ℕ). part path j n) o in
    h ∙ ap (λ (p : List ℕ). laid from (ring corners p) rings₀) (take_all k (take (end - j) (drop j path)) l ∙ e)
