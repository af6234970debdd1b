-- Where a pair stands in a list of pairs: at some place if it is counted, and at one place only if it is counted once.
use Prim.Native.Nat.{ℕ, zero, suc, ◌<◌, ◌≤◌, ◌+◌}
use mathlib.Core.Path.{◌≡◌, refl, ap}
use mathlib.Core.List.{List, [], ◌∷◌}
use native.Mathlib.Nat.{not-suc-le-zero}
use native.Mathlib.Omega.{arith}
use native.Mathlib.Decide.{dec_lt}
use lib.ListN.{length, get_or}
use Rattle.cover_rules.proofs.Laws.Pairs.{Pair, pair, hit, count, hit_same, hit_of}

-- the pair at place i
abbrev pub pair_at : List Pair → ℕ → Pair
pair_at l i = get_or l i (pair 0 0)

-- a, b stands at place i
pub record Here (a b : ℕ) (l : List Pair) (i : ℕ) : Type 0 where
  pub below : i < length l
  pub from_here : (pair_at l i).from ≡ a
  pub to_here : (pair_at l i).to ≡ b

here_later : (a b : ℕ) (x : Pair) (l : List Pair) (i : ℕ) → Here a b l i → Here a b (x ∷ l) (suc i)
here_later a b x l i h = record { below = let s = h.below in omega arith; from_here = h.from_here; to_here = h.to_here }

here_sooner : (a b : ℕ) (x : Pair) (l : List Pair) (i : ℕ) → Here a b (x ∷ l) (suc i) → Here a b l i
here_sooner a b x l i h = record { below = let s = h.below in omega arith; from_here = h.from_here; to_here = h.to_here }

module _ (a b : ℕ) where
  -- what stands somewhere is counted,
  pub here_counted : (l : List Pair) (i : ℕ) → Here a b l i → 0 < count a b l
  unfolding count
  here_counted [] i h = absurd (not-suc-le-zero h.below)
  here_counted (x ∷ l) zero h = omega (arith, hit_same a b x.from x.to h.from_here h.to_here)
  here_counted (x ∷ l) (suc i) h = omega (arith, here_counted l i (here_sooner a b x l i h))

  -- and what is counted stands somewhere;
  pub counted_here : (l : List Pair) → 0 < count a b l → (i : ℕ) × Here a b l i
  unfolding count
  counted_here [] s = absurd (not-suc-le-zero s)
  counted_here (x ∷ l) s = go (dec_lt 0 (hit a b x.from x.to)) (counted_here l)
    where
      go : Dec (0 < hit a b x.from x.to) → (0 < count a b l → (i : ℕ) × Here a b l i) → (i : ℕ) × Here a b (x ∷ l) i
      go (yes t) r = let e = hit_of a b x.from x.to t in (0, record { below = omega arith; from_here = e.0; to_here = e.1 })
      go (no t) r = let y = r (omega arith) in (suc y.0, here_later a b x l y.0 y.1)

  -- at one place only, if it is counted no more than once,
  pub counted_once : (l : List Pair) → count a b l ≤ 1 → (i j : ℕ) → Here a b l i → Here a b l j → i ≡ j
  unfolding count
  counted_once [] s i j h k = absurd (not-suc-le-zero h.below)
  counted_once (x ∷ l) s zero zero h k = refl
  counted_once (x ∷ l) s zero (suc j) h k =
      absurd (omega (arith, hit_same a b x.from x.to h.from_here h.to_here, here_counted l j (here_sooner a b x l j k)))
  counted_once (x ∷ l) s (suc i) zero h k =
      absurd (omega (arith, hit_same a b x.from x.to k.from_here k.to_here, here_counted l i (here_sooner a b x l i h)))
  counted_once (x ∷ l) s (suc i) (suc j) h k =
      ap suc (counted_once l (omega arith) i j (here_sooner a b x l i h) (here_sooner a b x l j k))

  -- and it is counted no more than once, if it stands at one place only.
  pub once_counted : (l : List Pair) → ((i j : ℕ) → Here a b l i → Here a b l j → i ≡ j) → count a b l ≤ 1
  unfolding count
  once_counted [] f = omega arith
  once_counted (x ∷ l) f =
      go (dec_lt 0 (hit a b x.from x.to)) (dec_lt 0 (count a b l))
      (once_counted l (λ i j h k. let e : suc i ≡ suc j = f (suc i) (suc j) (here_later a b x l i h) (here_later a b x l j k) in omega arith))
    where
      go : Dec (0 < hit a b x.from x.to) → Dec (0 < count a b l) → count a b l ≤ 1 → hit a b x.from x.to + count a b l ≤ 1
      go (no t) s r = omega arith
      go (yes t) (yes s) r =
          let e = hit_of a b x.from x.to t in
          let y = counted_here l s in
          let z : 0 ≡ suc y.0 = f 0 (suc y.0) (record { below = omega arith; from_here = e.0; to_here = e.1 }) (here_later a b x l y.0 y.1) in
          absurd (omega arith)
      go (yes t) (no s) r = let e = hit_of a b x.from x.to t in omega (arith, hit_same a b x.from x.to e.0 e.1)
