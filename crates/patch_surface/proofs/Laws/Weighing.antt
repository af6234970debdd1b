-- The weights among the records: the course ran where they stand.
use mathlib.Core.Path.{◌≡◌, sym, ap, ◌∙◌}
use mathlib.Core.List.{List, ◌++◌}
use Prim.Native.Nat.{ℕ, ◌+◌, ◌*◌, ◌-◌, ◌<◌, ◌≤◌}
use native.Mathlib.Omega.{arith}
use lib.ListN.{length, get_or, take, drop, length-drop, get_or-append}
use lib.Seq.{drop-drop, length-take-le, get_or-append-add}
use borrow.Rule.Slice.PartMut.{put_mid, drop_put}
use Rattle.surface_rules.specs.Buffers.{over, laid}
use Rattle.surface_rules.proofs.Laws.Laid.{laid_length}
use Rattle.patch_surface.specs.Workings.Weighing.{weights_in}

-- a part that was lent and is put back is laid there
pub put_back : (a k : ℕ) (records weights : List ℕ) → length weights ≡ k → put_mid a k records weights ≡ laid a weights records
unfolding laid
put_back a k records weights e =
    ap (λ (x : List ℕ). take a records ++ (weights ++ x)) (drop-drop k a records ∙ ap (λ (n : ℕ). drop (a + n) records) (sym e))

pub part_long : (n : ℕ) (records : List ℕ) → 7 * n ≤ length records → length (weights_in n records) ≡ n
part_long n records h = length-take-le (7 * n - 6 * n) (drop (6 * n) records) (omega (arith, length-drop (6 * n) records)) ∙ omega arith

module _ (n : ℕ) (records weights : List ℕ) (many : length weights ≡ n) (room : 7 * n ≤ length records) where
  -- behind them all is as it was
  pub past_weights : drop (7 * n) (laid (6 * n) weights records) ≡ drop (7 * n) records
  past_weights =
      ap (drop (7 * n)) (sym (put_back (6 * n) (7 * n - 6 * n) records weights (omega arith)))
      ∙ drop_put (6 * n) (7 * n) records weights (omega arith) room (omega arith)

  -- so what is laid as far as they reach hides them
  pub weights_hidden : (front : List ℕ) → length front ≡ 7 * n → over front (laid (6 * n) weights records) ≡ over front records
  unfolding over
  weights_hidden front e =
      ap (λ (k : ℕ). front ++ drop k (laid (6 * n) weights records)) e
      ∙ ap (λ (x : List ℕ). front ++ x) past_weights
      ∙ ap (λ (k : ℕ). front ++ drop k records) (sym e)

  -- and each is found
  pub weight_at : (l : ℕ) → l < n → get_or (laid (6 * n) weights records) (6 * n + l) 0 ≡ get_or weights l 0
  unfolding laid
  weight_at l h =
      let a : length (take (6 * n) records) ≡ 6 * n = length-take-le (6 * n) records (omega arith) in
      ap (λ (k : ℕ). get_or (take (6 * n) records ++ (weights ++ drop (6 * n + length weights) records)) (k + l) 0) (sym a)
      ∙ get_or-append-add (take (6 * n) records) (weights ++ drop (6 * n + length weights) records) l 0
      ∙ get_or-append weights (drop (6 * n + length weights) records) 0 l (omega arith)

  pub laid_long : length (laid (6 * n) weights records) ≡ length records
  laid_long = laid_length (6 * n) records weights (omega arith)
