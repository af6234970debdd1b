-- Length after length is added up: what stands for each loop so far is where its ring begins.
use mathlib.Core.Path.{◌≡◌, refl, ap, ◌∙◌}
use mathlib.Core.List.{List, [], flatten}
use Prim.Native.Nat.{ℕ, ◌+◌, ◌≤◌, ◌<◌}
use native.Mathlib.Omega.{arith}
use lib.IntN.{ℤ}
use lib.ListN.{length, get_or, take, set, length-set, length-append}
use Rattle.surface_rules.proofs.Laws.Lists.{next_set}
use Rattle.fill_scratch.specs.Workings.Rings.{Loops}
use Rattle.fill_scratch.proofs.Laws.Reading.{as_many, length_at, ring_next, read_few}
use Rattle.chart_lay.specs.Workings.Locating.{LocateRoom, start_at, Locates}

pub record Located (lengths starts₀ : List ℕ) (l r : ℕ) (starts : List ℕ) : Type 0 where
  pub kept : length starts ≡ length starts₀
  pub read : (grid : List ℤ) (input : List ℕ) (rs : List (List ℕ)) (rings : List ℕ) → Loops grid input rs rings lengths → r ≡ start_at rs l
  pub told : Locates lengths l starts

module _ {lengths starts₀ : List ℕ} (room : LocateRoom lengths starts₀) where
  pub located_begins : Located lengths starts₀ 0 0 starts₀
  unfolding flatten
  located_begins = record { kept = refl; read = λ grid input rs rings s. refl; told = λ grid input rs rings s l h. absurd (omega arith) }

  module _ {l r : ℕ} {starts : List ℕ} (m : Located lengths starts₀ l r starts) where
    pub located_ends : length lengths ≤ l → Locates lengths (length lengths) starts
    located_ends h grid input rs rings s j k = m.told grid input rs rings s j (omega arith)

    module _ (h : l < length lengths) where
      pub start_in : l < length starts
      start_in = let a = as_many _ _ _ _ _ room.loops in let b = room.room in let k = m.kept in omega arith

      -- one ring more
      next_start : (grid : List ℤ) (input : List ℕ) (rs : List (List ℕ)) (rings : List ℕ) → Loops grid input rs rings lengths → r + get_or lengths l 0 ≡ start_at rs (l + 1)
      next_start grid input rs rings s =
          let a = as_many grid input rs rings lengths s in
          let k : l < length rs = omega arith in
          let b : start_at rs (l + 1) ≡ start_at rs l + length (get_or rs l []) = ap length (ring_next rs l k) ∙ length-append (flatten (take l rs)) (get_or rs l []) in
          omega (arith, m.read grid input rs rings s, length_at grid input rs rings lengths s l k)

      pub start_few : r + get_or lengths l 0 < 65536
      start_few =
          let s = room.loops in
          let a = as_many _ _ _ _ _ s in
          let k : l < length room.rs = omega arith in
          let b = read_few _ _ _ _ _ s l k in
          let c : length room.rings ≡ length (flatten room.rs) = ap length s.rings_are in
          let d = s.few in
          let f = room.few in
          omega (arith, m.read _ _ _ _ s, length_at _ _ _ _ _ s l k)

      pub located_more : Located lengths starts₀ (l + 1) (r + get_or lengths l 0) (set starts l r)
      located_more = record {
        kept = length-set starts l r ∙ m.kept;
        read = next_start;
        told = λ grid input rs rings s. next_set (λ (j x : ℕ). x ≡ start_at rs j) starts l r start_in (m.told grid input rs rings s) (m.read grid input rs rings s);
      }
