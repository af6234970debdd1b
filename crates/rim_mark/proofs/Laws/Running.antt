-- The strides along a ring add up to the run of its loop, and to no more than a machine's word holds.
use mathlib.Core.Path.{◌≡◌, refl, sym, ap, ap₂, ◌∙◌}
use mathlib.Core.List.{List, [], ◌∷◌}
use Prim.Native.Nat.{ℕ, zero, suc, ◌+◌, ◌-◌, ◌*◌, ◌≤◌, ◌<◌}
use native.Mathlib.Numerals.{add-one}
use native.Mathlib.Omega.{arith}
use lib.IntN.{ℤ}
use lib.ListN.{length, get_or, length-map}
use mir.Syntax.{w32, w64}
use mir.Val.{Fits}
use Rattle.base_limits.specs.Limits as limits
use Rattle.surface_rules.specs.Edges.{Sound, start_of, end_of}
use Rattle.surface_rules.proofs.Laws.Lists.{map_at}
use Rattle.loop_rules.specs.Loops.{loops, ring}
use Rattle.loop_rules.proofs.Laws.Linked.{Closed, closed_next}
use Rattle.loop_rules.proofs.Theorems.{three_or_more, loop_closes}
use Rattle.cover_weight.specs.Weight.{stride_of}
use Rattle.cover_weight.proofs.Laws.Strides.{longest_stride, stride_most}
use Rattle.rim_rules.specs.Rims.{loop_at, stride, run_of, run_at}
use Rattle.rim_mark.specs.Workings.Running.{sum_below, stride_at, closing_stride, ring_run, RingRoom}

-- ---- sums

sum_same : (f g : ℕ → ℕ) (n : ℕ) → ((i : ℕ) → i < n → f i ≡ g i) → sum_below f n ≡ sum_below g n
unfolding sum_below
sum_same f g zero h = refl
sum_same f g (suc n) h = ap₂ ◌+◌ (sum_same f g n (λ i l. h i (omega arith))) (h n (omega arith))

sum_front : (f : ℕ → ℕ) (n : ℕ) → sum_below f (suc n) ≡ f 0 + sum_below (λ i. f (suc i)) n
unfolding sum_below
sum_front f zero = omega arith
sum_front f (suc n) = omega (arith, sum_front f n)

sum_most : (f : ℕ → ℕ) → ((i : ℕ) → f i ≤ longest_stride) → (n : ℕ) → sum_below f n ≤ longest_stride * n
unfolding sum_below
sum_most f h zero = omega arith
sum_most f h (suc n) = omega (arith, sum_most f h n, h n)

-- ---- what the code adds up

-- the sum as far as position i
unfoldable pub up_to : List ℤ → List ℕ → ℕ → ℕ
up_to grid ring i = closing_stride grid ring + sum_below (stride_at grid ring) i

pub record Running (grid : List ℤ) (ring : List ℕ) (i run : ℕ) : Type 0 where
  pub within : i ≤ length ring - 1
  pub sum : run ≡ up_to grid ring i

module _ {grid : List ℤ} {ring : List ℕ} (room : RingRoom grid ring) where
  up_most : (i : ℕ) → i < limits.corners → up_to grid ring i ≤ longest_stride * limits.corners
  unfolding up_to
  up_most i h =
      let a = sum_most (stride_at grid ring) (λ j. stride_most grid room.coordinates (get_or ring j 0) (get_or ring (suc j) 0)) i in
      let b = stride_most grid room.coordinates (get_or ring (length ring - 1) 0) (get_or ring 0 0) in
      omega (arith, a, b)

  pub running_begins : {r : ℕ} → r ≡ closing_stride grid ring → Running grid ring 0 r
  unfolding up_to sum_below
  running_begins e = record { within = omega arith; sum = omega (arith, e) }

  module _ {i r : ℕ} (a : Running grid ring i r) where
    module _ (h : i < length ring - 1) where
      module _ {s : ℕ} (f : s ≡ stride_of grid (get_or ring i 0) (get_or ring (i + 1) 0)) where
        up_more : r + s ≡ up_to grid ring (i + 1)
        unfolding up_to sum_below
        up_more =
            let z : up_to grid ring (i + 1) ≡ up_to grid ring (suc i) = ap (up_to grid ring) (add-one i) in
            let y : s ≡ stride_at grid ring i = f ∙ ap (λ (k : ℕ). stride_of grid (get_or ring i 0) (get_or ring k 0)) (add-one i) in
            omega (arith, z, y, a.sum)

        pub running_fits : Fits w64 (r + s)
        running_fits = let few = room.few in record { fits = omega (arith, up_more, up_most (i + 1) (omega arith)) }

        pub running_more : Running grid ring (i + 1) (r + s)
        running_more = record { within = omega arith; sum = up_more }

    pub run_fits : Fits w32 r
    run_fits = let few = room.few in let some = room.some in let h = a.within in record { fits = omega (arith, a.sum, up_most i (omega arith)) }

    pub run_is : length ring - 1 ≤ i → r ≡ ring_run grid ring
    unfolding up_to ring_run
    run_is g = let h = a.within in let q : i ≡ length ring - 1 = omega arith in a.sum ∙ ap (up_to grid ring) q

-- ---- what the ring says of the loop

runs_listed : (grid : List ℤ) (corners loop : List ℕ) → run_of grid corners loop ≡ sum_below (λ i. stride grid corners (get_or loop i 0)) (length loop)
unfolding sum_below
runs_listed grid corners [] = refl
runs_listed grid corners (e ∷ l) =
    ap (λ (x : ℕ). stride grid corners e + x) (runs_listed grid corners l) ∙ sym (sum_front (λ i. stride grid corners (get_or (e ∷ l) i 0)) (length l))

run_by_ring : (grid : List ℤ) (corners loop : List ℕ) → Closed corners loop → 1 ≤ length loop → ring_run grid (ring corners loop) ≡ run_of grid corners loop
unfolding ring_run stride sum_below
run_by_ring grid corners loop closed some =
    let m = length loop - 1 in
    let n : length loop ≡ suc m = omega arith in
    let long : length (ring corners loop) ≡ length loop = length-map loop (start_of corners) in
    let k : length (ring corners loop) - 1 ≡ m = omega arith in
    let at : (j : ℕ) → j < length loop → get_or (ring corners loop) j 0 ≡ start_of corners (get_or loop j 0) = λ j h. map_at (start_of corners) 0 0 loop j h in
    let s : sum_below (stride_at grid (ring corners loop)) m ≡ sum_below (λ i. stride_of grid (start_of corners (get_or loop i 0)) (end_of corners (get_or loop i 0))) m =
    sum_same _ _ m (λ i h. ap₂ (stride_of grid) (at i (omega arith)) (at (suc i) (omega arith) ∙ sym (closed_next corners loop closed i (omega arith)))) in
    let c : closing_stride grid (ring corners loop) ≡ stride_of grid (start_of corners (get_or loop m 0)) (end_of corners (get_or loop m 0)) =
    ap₂ (stride_of grid) (ap (λ (i : ℕ). get_or (ring corners loop) i 0) k ∙ at m (omega arith)) (at 0 (omega arith) ∙ sym (closed.closes m (sym n))) in
    let t : sum_below (stride_at grid (ring corners loop)) (length (ring corners loop) - 1) ≡ sum_below (stride_at grid (ring corners loop)) m = ap (sum_below (stride_at grid (ring corners loop))) k in
    let u : run_of grid corners loop ≡ sum_below (λ i. stride_of grid (start_of corners (get_or loop i 0)) (end_of corners (get_or loop i 0))) m + stride_of grid (start_of corners (get_or loop m 0)) (end_of corners (get_or loop m 0)) =
    runs_listed grid corners loop ∙ ap (sum_below (λ i. stride_of grid (start_of corners (get_or loop i 0)) (end_of corners (get_or loop i 0)))) n in
    omega (arith, s, c, t, u)

pub run_at_lem : (grid : List ℤ) (corners : List ℕ) → Sound corners → (l : ℕ) → l < length (loops corners) → ring_run grid (ring corners (loop_at corners l)) ≡ run_at grid corners l
unfolding run_at
run_at_lem grid corners sound l h = run_by_ring grid corners (loop_at corners l) (loop_closes corners sound l h) (let t = three_or_more corners sound l h in omega arith)
