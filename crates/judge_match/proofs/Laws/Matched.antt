-- What the code reads is what the set is of the ring, and two readings of one set are equal.
use Prim.Native.Nat.{ℕ, ◌-◌, ◌<◌, ◌≤◌}
use mathlib.Core.Path.{◌≡◌, refl, sym, ap, ◌∙◌, subst}
use mathlib.Core.Bool.{Bool, true, false, not, true≢false}
use mathlib.Core.Logic.{⊎_elim}
use mathlib.Core.List.{List, []}
use native.Mathlib.Omega.{arith}
use lib.ListN.{length, get_or}
use borrow.Author.Tests.{not-true, not-false}
use Rattle.base_limits.specs.Limits as limits
use Rattle.surface_rules.specs.Threes.{threes}
use Rattle.cover_rules.specs.Covers.{Cover, Triangle, Uses, vertex_of}
use Rattle.cover_rules.specs.Workings.Matching.{Laid}
use Rattle.cover_rules.proofs.Laws.Chords.{uses_in}
use Rattle.cover_rules.proofs.Laws.Closed.{Different, covered_once, covered_whole, used_laid, laid_used, closed_covered}
use Rattle.cover_bits.specs.Workings.Masks.{bit, Rows}
use Rattle.cover_sum.proofs.Laws.Passed.{triples_length}
use Rattle.judge_seat.specs.Workings.Covering.{Covering}
use Rattle.judge_seat.proofs.Laws.Places.{different}
use Rattle.judge_match.specs.declared.Match.{Match}
use Rattle.judge_match.specs.declared.Match.TheVariants.{NoCover, Barred, Allowed}
use Rattle.judge_match.specs.Workings.Matching.{Matches}
use Rattle.judge_match.specs.Workings.Rows.{Matchable, SidesFree, Held, Collected, Collects, Closed, Closes, Clashes}

-- ---- one reading

-- a cover cannot use a barred diagonal and none
torn : (ring : List ℕ) (barred : ℕ → ℕ → Bool) (s : List Triangle) → Different (length ring) (vertex_of ring)
    → Matches ring barred s Barred → Matches ring barred s Allowed → ⊥
torn ring barred s d p q =
    let e : p.0 ≡ q.0 = covered_once (length ring) (vertex_of ring) d s p.0 q.0 p.1 q.1 in
    true≢false (sym p.5 ∙ q.2.free p.2 p.3 (subst (λ (c : Cover). Uses 0 (length ring - 1) c p.2 p.3) e p.4))

pub matches_once : (ring : List ℕ) (barred : ℕ → ℕ → Bool) (s : List Triangle) → Different (length ring) (vertex_of ring) → (x y : Match)
    → Matches ring barred s x → Matches ring barred s y → x ≡ y
matches_once ring barred s d NoCover NoCover p q = refl
matches_once ring barred s d NoCover Barred p q = absurd (p q.0 q.1)
matches_once ring barred s d NoCover Allowed p q = absurd (p q.0 q.1)
matches_once ring barred s d Barred NoCover p q = absurd (q p.0 p.1)
matches_once ring barred s d Barred Barred p q = refl
matches_once ring barred s d Barred Allowed p q = absurd (torn ring barred s d p q)
matches_once ring barred s d Allowed NoCover p q = absurd (q p.0 p.1)
matches_once ring barred s d Allowed Barred p q = absurd (torn ring barred s d q p)
matches_once ring barred s d Allowed Allowed p q = refl

-- ---- the code's

-- what the code has to show
abbrev pub Answers : List ℕ → List ℕ → List ℕ → Match → Type 0
Answers ring bars set r = (barred : ℕ → ℕ → Bool) → Rows (length ring) barred bars → SidesFree (length ring) barred → Matches ring barred (threes set) r

module _ {ring stamps : List ℕ} {base : ℕ} {bars set : List ℕ} (p : Matchable ring stamps base bars set) {has₀ has : List ℕ} {t : Bool}
    (sides : (vertex : ℕ → ℕ) → Held (length ring) vertex [] has₀) (collects : Collects set stamps base has₀ has t) where
  d : Different (length ring) (vertex_of ring)
  d = different p.ringed

  collected : Collected ring (threes set) has t
  collected = collects.collects ring p.ringed (sides (vertex_of ring))

  -- a triangle lies on no stretch
  pub match_seatless : not t ≡ true → Answers ring bars set NoCover
  match_seatless e barred r f = subst (Collected ring (threes set) has) (not-true t e) collected

  module _ (seated : not t ≡ false) where
    held : Held (length ring) (vertex_of ring) (threes set) has
    held = subst (Collected ring (threes set) has) (not-false t seated) collected

    whole : (2 < length ring) × (length ring ≤ limits.longest)
    whole = (p.many, p.ringed.few)

    -- a part has no triangle
    pub match_open : (v : Bool) → Closes set stamps base has v → not v ≡ true → Answers ring bars set NoCover
    match_open v closes e barred r f = subst (Closed ring (threes set)) (not-true v e) (closes ring p.ringed held)

    module _ {u : Bool} (b : u ≡ bit (get_or has 0 0) (length ring - 1)) where
      -- the whole loop has none
      pub match_topless : not u ≡ true → Answers ring bars set NoCover
      match_topless e barred r f c v =
          let l = whole in
          let w = covered_whole (length ring) (vertex_of ring) d (threes set) c v (omega arith) in
          true≢false (sym (held.shows 0 (length ring - 1) (omega arith) (omega arith) w) ∙ sym b ∙ not-true u e)

      module _ (topped : not u ≡ false) (v : Bool) (closes : Closes set stamps base has v) (closed : not v ≡ false) where
        top : Laid (length ring) (vertex_of ring) (threes set) 0 (length ring - 1)
        top = let l = whole in held.tells 0 (length ring - 1) (omega arith) (omega arith) (sym b ∙ not-false u topped)

        covered : (c : Cover) × Covering ring (threes set) c
        covered =
            closed_covered (length ring) (vertex_of ring) d (threes set) (subst (Closed ring (threes set)) (not-false v closed) (closes ring p.ringed held))
            (triples_length set (length ring - 2) p.long) top

        module _ (w : Bool) (clashes : Clashes (length ring) has bars w) where
          -- a stretch that is set and barred is no side, so it is used
          pub match_barred : w ≡ true → Answers ring bars set Barred
          match_barred e barred r f = (
            covered.0,
            covered.1,
            x.0,
            x.1,
            ⊎_elim
                (λ s. absurd (true≢false (sym held_bar ∙ ap (barred x.0) s ∙ f x.0 x.2)))
                (λ w. w)
                (laid_used (length ring) (vertex_of ring) d (threes set) covered.0 covered.1 x.0 x.1 (held.tells x.0 x.1 (omega (arith, x.2)) x.3 x.4)),
            held_bar,
          )
            where
              x : Clashes (length ring) has bars true
              x = subst (Clashes (length ring) has bars) e clashes

              held_bar : barred x.0 x.1 ≡ true
              held_bar = sym (r.tells x.0 x.1 (omega (arith, x.2)) x.3) ∙ x.5

          pub match_allowed : w ≡ false → Answers ring bars set Allowed
          match_allowed e barred r f = (
            covered.0,
            covered.1,
            record {
              covers = covered.1.0;
              free = λ a b k.
                  let n = uses_in 0 (length ring - 1) covered.0 a b covered.1.0 k in
                  let l = whole in
                  sym (r.tells a b (omega arith) (omega arith))
                  ∙ subst (Clashes (length ring) has bars) e clashes a b (omega arith) (omega arith)
                  (held.shows a b (omega arith) (omega arith) (used_laid (length ring) (vertex_of ring) d (threes set) covered.0 covered.1 a b k));
            },
          )
