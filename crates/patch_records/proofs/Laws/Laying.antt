-- Record after record is laid: those so far stand over the buffer's start, and the weights that are still to be read lie behind them.
use mathlib.Core.Path.{◌≡◌, refl, sym, ap, ◌∙◌}
use mathlib.Core.List.{List, [], ◌∷◌, ◌++◌}
use Prim.Native.Nat.{ℕ, ◌+◌, ◌*◌, ◌-◌, ◌<◌, ◌≤◌}
use native.Mathlib.Omega.{arith}
use lib.ListN.{length, get_or, drop, set}
use lib.Seq.{get_or-append-add, get_or-drop}
use Rattle.surface_rules.specs.Buffers.{over, laid}
use Rattle.surface_rules.proofs.Laws.Over.{over_none, over_long}
use Rattle.surface_rules.proofs.Laws.Laid.{laid_over, laid_none, laid_more}
use Rattle.patch_records.specs.Records.{numbers}
use Rattle.patch_records.specs.Workings.Columns.{Columns, weights_from, row_of, rows, LayRoom}
use Rattle.patch_records.proofs.Laws.Sevens.{listed_next, listed_none, sevens_length}

-- seven numbers written one after the other are laid at once
pub seven_laid : (out : List ℕ) (p a b c d e f g : ℕ) → p + 7 ≤ length out
    → set (set (set (set (set (set (set out p a) (p + 1) b) (p + 2) c) (p + 3) d) (p + 4) e) (p + 5) f) (p + 6) g ≡ laid p (a ∷ b ∷ c ∷ d ∷ e ∷ f ∷ g ∷ []) out
seven_laid out p a b c d e f g l =
    ap (λ (x : List ℕ). set (set (set (set (set (set (set x p a) (p + 1) b) (p + 2) c) (p + 3) d) (p + 4) e) (p + 5) f) (p + 6) g) (sym (laid_none p out))
    ∙ ap (λ (x : List ℕ). set (set (set (set (set (set x (p + 1) b) (p + 2) c) (p + 3) d) (p + 4) e) (p + 5) f) (p + 6) g) (laid_more p out 0 [] a p (omega arith) (omega arith))
    ∙ ap (λ (x : List ℕ). set (set (set (set (set x (p + 2) c) (p + 3) d) (p + 4) e) (p + 5) f) (p + 6) g) (laid_more p out 0 (a ∷ []) b (p + 1) refl (omega arith))
    ∙ ap (λ (x : List ℕ). set (set (set (set x (p + 3) d) (p + 4) e) (p + 5) f) (p + 6) g) (laid_more p out 0 (a ∷ b ∷ []) c (p + 2) refl (omega arith))
    ∙ ap (λ (x : List ℕ). set (set (set x (p + 4) e) (p + 5) f) (p + 6) g) (laid_more p out 0 (a ∷ b ∷ c ∷ []) d (p + 3) refl (omega arith))
    ∙ ap (λ (x : List ℕ). set (set x (p + 5) f) (p + 6) g) (laid_more p out 0 (a ∷ b ∷ c ∷ d ∷ []) e (p + 4) refl (omega arith))
    ∙ ap (λ (x : List ℕ). set x (p + 6) g) (laid_more p out 0 (a ∷ b ∷ c ∷ d ∷ e ∷ []) f (p + 5) refl (omega arith))
    ∙ laid_more p out 0 (a ∷ b ∷ c ∷ d ∷ e ∷ f ∷ []) g (p + 6) refl (omega arith)

-- what lies behind what was laid over the start is as it was
pub past_at : (a w : List ℕ) (i : ℕ) → length a ≤ i → get_or (over a w) i 0 ≡ get_or w i 0
unfolding over
past_at a w i h =
    let e : i ≡ length a + (i - length a) = omega arith in
    ap (λ (k : ℕ). get_or (a ++ drop (length a) w) k 0) e
    ∙ get_or-append-add a (drop (length a) w) (i - length a) 0
    ∙ get_or-drop (length a) w (i - length a) 0
    ∙ ap (λ (k : ℕ). get_or w k 0) (sym e)

pub rows_length : (c : Columns) (buffer : List ℕ) (k : ℕ) → length (rows c buffer k) ≡ 7 * k
unfolding rows
rows_length c buffer k = sevens_length (λ (l : ℕ). numbers (row_of c buffer l)) (λ l. refl) k

rows_next : (c : Columns) (buffer : List ℕ) (k : ℕ) → rows c buffer (k + 1) ≡ rows c buffer k ++ numbers (row_of c buffer k)
unfolding rows
rows_next c buffer k = listed_next (λ (l : ℕ). numbers (row_of c buffer l)) k

rows_none : (c : Columns) (buffer : List ℕ) → rows c buffer 0 ≡ []
unfolding rows
rows_none c buffer = listed_none (λ (l : ℕ). numbers (row_of c buffer l))

-- the first l records are laid
pub record Going (c : Columns) (buffer : List ℕ) (l : ℕ) (now : List ℕ) : Type 0 where
  pub kept : length now ≡ length buffer
  pub laid_are : now ≡ over (rows c buffer l) buffer

module _ {c : Columns} {buffer : List ℕ} (room : LayRoom c buffer) where
  pub going_begins : Going c buffer 0 buffer
  going_begins = record { kept = refl; laid_are = sym (over_none buffer) ∙ ap (λ (x : List ℕ). over x buffer) (sym (rows_none c buffer)) }

  module _ {l : ℕ} {now : List ℕ} (g : Going c buffer l now) where
    module _ (h : l < length c.lengths) where
      -- the weight that is read is the one that stood there
      weight_is : get_or now (weights_from (length c.lengths) + l) 0 ≡ get_or buffer (weights_from (length c.lengths) + l) 0
      weight_is =
          ap (λ (x : List ℕ). get_or x (weights_from (length c.lengths) + l) 0) g.laid_are
          ∙ past_at (rows c buffer l) buffer (weights_from (length c.lengths) + l) (omega (arith, rows_length c buffer l))

      pub going_on : {r after : List ℕ}
          → r ≡ get_or c.lengths l 0 ∷ get_or c.states l 0 ∷ get_or now (weights_from (length c.lengths) + l) 0 ∷ 0 ∷ get_or c.firsts l 0 ∷ get_or c.pieces l 0 ∷ get_or c.runs l 0 ∷ []
          → after ≡ laid (7 * l) r now → Going c buffer (l + 1) after
      going_on {r} {after} e q =
          let x : after ≡ over (rows c buffer (l + 1)) buffer =
          q
          ∙ ap (λ (y : List ℕ). laid (7 * l) y now) e
          ∙ ap (λ (w : ℕ). laid (7 * l) (get_or c.lengths l 0 ∷ get_or c.states l 0 ∷ w ∷ 0 ∷ get_or c.firsts l 0 ∷ get_or c.pieces l 0 ∷ get_or c.runs l 0 ∷ []) now) weight_is
          ∙ ap (laid (7 * l) (numbers (row_of c buffer l))) g.laid_are
          ∙ laid_over (rows c buffer l) (numbers (row_of c buffer l)) buffer (7 * l) (sym (rows_length c buffer l))
          ∙ ap (λ (y : List ℕ). over y buffer) (sym (rows_next c buffer l)) in
          record {
            kept = ap length x ∙ over_long (rows c buffer (l + 1)) buffer (let n = room.room in omega (arith, rows_length c buffer (l + 1)));
            laid_are = x;
          }
