-- From the answers of the single checks to the answer of all, and to what is known of a surface that passed.
use mathlib.Core.Path.{◌≡◌, sym, ap, ◌∙◌, subst}
use mathlib.Core.Bool.{Bool, true, false, true≢false}
use mathlib.Core.List.{List}
use Prim.Native.Nat.{ℕ, ◌*◌, ◌/◌, ◌^◌, ◌<◌}
use native.Mathlib.Omega.{arith}
use lib.ListN.{length}
use mir.Syntax.{w16}
use mir.Val.{Fits}
use Rattle.base_answers.specs.Numbers.{refusing}
use Rattle.base_answers.specs.declared.Answer.{Answer}
use Rattle.base_answers.specs.declared.Answer.TheVariants.{Done}
use Rattle.base_limits.specs.Limits as limits
use Rattle.surface_rules.specs.Refusals.{then_check, buffer_refusal, corner_refusal, word_refusal, content_refusal}
use Rattle.surface_rules.proofs.Laws.Thens.{then_refused, then_next, buffer_passing, corner_passing, done_of, Fitting, counts_fit, buffers_long, words_pass}
use Rattle.surface_twins.specs.Workings.Turns.{Room}
use Rattle.check_surface.specs.Workings.Checks.{Fitted, CornersChecked, Checked}

module _ {words corners table : List ℕ} (k : Fitted words corners table) where
  fitting : Fitting (length words) (length corners)
  fitting = counts_fit (length words) (length corners) k.counts

  pub room : Room corners table
  room = record { triples = fitting.corner_threes; few = fitting.few_corners; long = k.long }

  -- a count of points fits 16 bits
  pub points_fit : {n : ℕ} → n ≡ length words / 3 → limits.words < 3 * 2 ^ 16 → Fits w16 n
  points_fit e s = record { fits = omega (arith, fitting.few_words) }

-- a refusal is not `Done`
not_done : {a : Answer} → refusing a ≡ true → a ≡ Done → ⊥
not_done r e = true≢false (sym r ∙ ap refusing e)

-- what a check told is what the table of refusals says
told_of : {a r : Answer} {t u : Bool} → a ≡ r → t ≡ refusing a → t ≡ u → refusing r ≡ u
told_of e q f = ap refusing (sym e) ∙ sym q ∙ f

past_buffers : (pitch : ℕ) (words corners lent needs : List ℕ) → refusing (buffer_refusal lent needs) ≡ false
    → content_refusal pitch words corners lent needs ≡ then_check (corner_refusal corners (length words / 3)) (word_refusal pitch words)
unfolding content_refusal
past_buffers pitch words corners lent needs f = then_next (buffer_refusal lent needs) _ f

-- the corners were checked by the count of points
by_points : {corners table : List ℕ} {a : Answer} {n m : ℕ} → n ≡ m → CornersChecked corners n a table → CornersChecked corners m a table
by_points {corners} {table} {a} e k = subst (λ (x : ℕ). CornersChecked corners x a table) e k

module _ {pitch : ℕ} {words corners lent needs : List ℕ} {b : Answer} {t : Bool} (eb : b ≡ buffer_refusal lent needs) (tb : t ≡ refusing b) where
  pub buffers_refuse : {table : List ℕ} → t ≡ true → Checked pitch words corners lent needs b table
  unfolding content_refusal
  buffers_refuse r = record {
    said = eb ∙ sym (then_refused (buffer_refusal lent needs) _ (told_of eb tb r));
    passed = λ d. absurd (not_done (sym tb ∙ r) d);
  }

  module _ {a : Answer} {u : Bool} {table : List ℕ} {n : ℕ} (fb : t ≡ false) (points : n ≡ length words / 3) (checked : CornersChecked corners n a table) (ta : u ≡ refusing a) where
    pub corners_refuse : u ≡ true → Checked pitch words corners lent needs a table
    corners_refuse r = let k = by_points points checked in record {
      said = k.said ∙ sym (past_buffers pitch words corners lent needs (told_of eb tb fb) ∙ then_refused (corner_refusal corners (length words / 3)) _ (told_of k.said ta r));
      passed = λ d. absurd (not_done (sym ta ∙ r) d);
    }

    pub words_decide : {w : Answer} → u ≡ false → w ≡ word_refusal pitch words → Checked pitch words corners lent needs w table
    words_decide f e = let k = by_points points checked in record {
      said = e ∙ sym (past_buffers pitch words corners lent needs (told_of eb tb fb) ∙ then_next (corner_refusal corners (length words / 3)) _ (told_of k.said ta f));
      passed = λ d. record {
        long = buffers_long lent needs (done_of (buffer_refusal lent needs) (buffer_passing lent needs) (told_of eb tb fb));
        woven = k.woven (k.said ∙ done_of (corner_refusal corners (length words / 3)) (corner_passing corners (length words / 3)) (told_of k.said ta f));
        on_grid = let p = words_pass pitch words (sym e ∙ d) in record { numbers = p.0; near = p.1 };
      };
    }
