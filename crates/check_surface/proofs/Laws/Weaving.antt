-- From what the searches and the pairing found to what checking the corners answers.
use Rattle.std.specs.Prelude.{Option, Some, None}
use mathlib.Core.Path.{◌≡◌, sym, ◌∙◌}
use mathlib.Core.List.{List}
use Prim.Native.Nat.{ℕ, ◌/◌, ◌<◌}
use native.Mathlib.Omega.{arith}
use lib.ListN.{length, get_or}
use borrow.Author.Tests.{leb-false}
use Rattle.base_answers.specs.Answers.{Unnamed, Twice, Repeated}
use Rattle.base_answers.specs.declared.Answer.TheVariants.{Done}
use Rattle.surface_rules.specs.Smallest.{least}
use Rattle.surface_rules.specs.Edges.{twice, repeats}
use Rattle.surface_rules.specs.Refusals.{unnamed, corner_refusal}
use Rattle.surface_rules.proofs.Laws.Smallest.{least_never}
use Rattle.surface_twins.specs.Workings.Turns.{Room, stops}
use Rattle.check_pairs.specs.Workings.Outcome.{Paired}
use Rattle.check_surface.specs.Workings.Checks.{CornersChecked}
use Rattle.check_surface.proofs.Laws.Stops.{no_stop_single, no_stop_proper, stop_single}

pub unnamed_refused : {corners table : List ℕ} {points i : ℕ} {f : Option ℕ} → f ≡ least (unnamed corners points) (length corners) → f ≡ Some i → CornersChecked corners points (Unnamed i) table
unfolding corner_refusal
unnamed_refused told e = record { said = rw (sym told ∙ e); woven = λ d. let z : ◌≡◌ {A = ℕ} 0 1 = cc in absurd (omega arith) }

-- every corner names a point
all_named : (corners : List ℕ) (points : ℕ) → least (unnamed corners points) (length corners) ≡ None → (i : ℕ) → i < length corners → get_or corners i 0 < points
unfolding unnamed
all_named corners points e i l = leb-false points (get_or corners i 0) (least_never (unnamed corners points) (length corners) e i l)

module _ {corners before table : List ℕ} {points : ℕ} {found first : Option ℕ} (room : Room corners before) (paired : Paired corners found table)
    (told : first ≡ least (unnamed corners points) (length corners)) (none : first ≡ None) where
  pub woven_done : found ≡ None → CornersChecked corners points Done table
  unfolding corner_refusal
  woven_done e =
      let n = sym told ∙ none in
      let s : least (stops corners) (length corners) ≡ None = sym paired.answer ∙ e in
      let single = no_stop_single corners room.triples s in
      let proper = no_stop_proper corners room.triples s in
      record {
        said = rw (n, proper, single);
        woven = λ d. record { sound = record { triples = room.triples; proper = proper; single = single }; named = all_named corners points n; turns = paired.turns e };
      }

  module _ {f : Option ℕ} (looked : f ≡ least (twice corners) (length corners / 3)) where
    pub twice_refused : {t : ℕ} → f ≡ Some t → CornersChecked corners points (Twice t) table
    unfolding corner_refusal
    twice_refused e = record { said = rw (sym told ∙ none, sym looked ∙ e); woven = λ d. let z : ◌≡◌ {A = ℕ} 0 1 = cc in absurd (omega arith) }

    pub repeated_refused : {h : ℕ} → found ≡ Some h → f ≡ None → CornersChecked corners points (Repeated h) table
    unfolding corner_refusal
    repeated_refused {h} e q =
        let p = sym looked ∙ q in
        let s : least (repeats corners) (length corners) ≡ Some h = sym (stop_single corners room.triples p) ∙ sym paired.answer ∙ e in
        record { said = rw (sym told ∙ none, p, s); woven = λ d. let z : ◌≡◌ {A = ℕ} 0 1 = cc in absurd (omega arith) }
