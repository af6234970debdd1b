-- Loop after loop is measured: where the ring of the next one stands, and the runs of those before it.
use mathlib.Core.Path.{◌≡◌, refl, sym, ap, ◌∙◌, subst}
use mathlib.Core.Logic.{⊎_elim}
use mathlib.Core.List.{List, [], flatten}
use Prim.Native.Nat.{ℕ, ◌+◌, ◌-◌, ◌≤◌, ◌<◌}
use native.Mathlib.Omega.{arith}
use lib.IntN.{ℤ}
use lib.ListN.{length, get_or, take, drop, set, length-set, length-append}
use lib.Seq.{get_or-set_same, get_or-set_other}
use Rattle.surface_rules.proofs.Laws.Tests.{eq_or_not}
use Rattle.base_limits.specs.Limits as limits
use Rattle.fill_scratch.specs.Workings.Rings.{RingOf, Loops, RingPlace}
use Rattle.fill_scratch.proofs.Laws.Reading.{as_many, length_at, ring_at_lem, ring_next, places_of}
use Rattle.rim_mark.specs.Workings.Running.{ring_run, RingRoom, MeasureRoom}

-- of the first l loops those are measured that are due, the others are as they were, and r ring vertices were read
pub record Measured (due : ℕ → Type 0) (grid : List ℤ) (rings lengths runs₀ : List ℕ) (l r : ℕ) (runs : List ℕ) : Type 0 where
  pub kept : length runs ≡ length runs₀
  pub read : (input : List ℕ) (rs : List (List ℕ)) → Loops grid input rs rings lengths → r ≡ length (flatten (take l rs))
  pub told : (input : List ℕ) (rs : List (List ℕ)) → Loops grid input rs rings lengths → (j : ℕ) → j < l → due j → get_or runs j 0 ≡ ring_run grid (get_or rs j [])
  pub later : (j : ℕ) → l ≤ j → get_or runs j 0 ≡ get_or runs₀ j 0

-- those for which there was a number
abbrev pub Numbered : List ℕ → ℕ → Type 0
Numbered runs₀ j = get_or runs₀ j 0 ≡ 0 → ⊥

-- or all
abbrev pub Every : ℕ → Type 0
Every j = Unit {0}

module _ {due : ℕ → Type 0} {grid : List ℤ} {rings lengths runs₀ : List ℕ} (room : MeasureRoom grid rings lengths runs₀) where
  pub measured_begins : Measured due grid rings lengths runs₀ 0 0 runs₀
  unfolding flatten
  measured_begins = record { kept = refl; read = λ input rs s. refl; told = λ input rs s j h f. absurd (omega arith); later = λ j h. refl }

  module _ {l r : ℕ} {runs : List ℕ} (m : Measured due grid rings lengths runs₀ l r runs) where
    pub measured_ends : length lengths ≤ l → (input : List ℕ) (rs : List (List ℕ)) → Loops grid input rs rings lengths → (j : ℕ) → j < length rs → due j → get_or runs j 0 ≡ ring_run grid (get_or rs j [])
    measured_ends h input rs s j k f = m.told input rs s j (let a = as_many grid input rs rings lengths s in omega (arith, a)) f

    module _ (h : l < length lengths) where
      pub places : RingPlace rings lengths l r
      places = places_of grid room.input room.rs rings lengths room.loops room.few l r h (m.read room.input room.rs room.loops)

      -- its ring stands among the rings
      pub ring_within : r + get_or lengths l 0 ≤ length rings
      ring_within = places.ring_in

      pub rings_few : length rings ≤ limits.corners
      rings_few = places.rings_few

      pub run_in : l < length runs
      run_in = let a = as_many grid room.input room.rs rings lengths room.loops in let b = room.room in let c = m.kept in omega (arith, a)

      abbrev part : List ℕ
      part = take (r + get_or lengths l 0 - r) (drop r rings)

      part_is : (input : List ℕ) (rs : List (List ℕ)) (s : Loops grid input rs rings lengths) → part ≡ get_or rs l []
      part_is input rs s = ring_at_lem grid input rs rings lengths s l r (let a = as_many grid input rs rings lengths s in omega (arith, a)) (m.read input rs s)

      pub ring_room : RingRoom grid part
      ring_room =
          let s = room.loops in
          let a = as_many grid room.input room.rs rings lengths s in
          let k : l < length room.rs = omega (arith, a) in
          let e : part ≡ get_or room.rs l [] = part_is room.input room.rs s in
          let o : RingOf grid room.input part = subst (RingOf grid room.input) (sym e) (s.each l k) in
          let n : length part ≡ get_or lengths l 0 = ap length e ∙ sym (length_at grid room.input room.rs rings lengths s l k) in
          let p = places in
          record { coordinates = o.coordinates; named = o.named; some = let t = o.three in omega arith; few = omega (arith, p.ring_in, p.rings_few) }

      -- one ring more was read
      read_more : (input : List ℕ) (rs : List (List ℕ)) → Loops grid input rs rings lengths → r + get_or lengths l 0 ≡ length (flatten (take (l + 1) rs))
      read_more input rs s =
          let a = as_many grid input rs rings lengths s in
          let k : l < length rs = omega (arith, a) in
          let b : length (flatten (take (l + 1) rs)) ≡ length (flatten (take l rs)) + length (get_or rs l []) = ap length (ring_next rs l k) ∙ length-append (flatten (take l rs)) (get_or rs l []) in
          omega (arith, b, m.read input rs s, length_at grid input rs rings lengths s l k)

      -- a loop that is not due is passed over
      pub measured_skips : (due l → ⊥) → Measured due grid rings lengths runs₀ (l + 1) (r + get_or lengths l 0) runs
      measured_skips z = record {
        kept = m.kept;
        read = read_more;
        told = λ input rs s j k f. ⊎_elim
            (λ (q : j ≡ l). absurd (z (subst due q f)))
            (λ (q : j ≡ l → ⊥). m.told input rs s j (let y : j ≡ l → ⊥ = q in omega arith) f)
            (eq_or_not j l);
        later = λ j k. m.later j (omega arith);
      }

      pub measured_more : {run : ℕ} → run ≡ ring_run grid part → Measured due grid rings lengths runs₀ (l + 1) (r + get_or lengths l 0) (set runs l run)
      measured_more {run} e = record {
        kept = length-set runs l run ∙ m.kept;
        read = read_more;
        told = λ input rs s j k f. ⊎_elim
            (λ (q : j ≡ l). ap (λ (x : ℕ). get_or (set runs l run) x 0) q ∙ get_or-set_same runs l run 0 run_in ∙ e ∙ ap (ring_run grid) (part_is input rs s) ∙ ap (λ (x : ℕ). ring_run grid (get_or rs x [])) (sym q))
            (λ (q : j ≡ l → ⊥). get_or-set_other runs l j run 0 q ∙ m.told input rs s j (let z : j ≡ l → ⊥ = q in omega arith) f)
            (eq_or_not j l);
        later = λ j k. get_or-set_other runs l j run 0 (λ q. absurd (omega arith)) ∙ m.later j (omega arith);
      }
