-- Every row of the table holds, by computing.
use mathlib.Core.Path.{◌≡◌, refl, sym, ap, ap₂, subst}
use mathlib.Core.Bool.{Bool, true, false}
use mathlib.Core.Logic.{inl, inr}
use mathlib.Core.List.{List, [], ◌∷◌}
use Prim.Native.Nat.{ℕ, ◌<◌}
use native.Mathlib.Omega.{arith}
use lib.Dec.{lit≤, lit<}
use lib.IntN.{ℤ, pos, nat_abs}
use lib.ListN.{length}
use lib.Ieee.{of_bits, fits}
use Rattle.base_types.specs.Pitches.{is_pitch}
use Rattle.grid_coordinate.specs.Units.{units}
use Rattle.grid_coordinate.specs.Places.{whole}
use Rattle.surface_rules.specs.Smallest.{least}
use Rattle.surface_rules.specs.Edges.{following, goes, twin, is_open, repeats, twice}
use Rattle.surface_rules.specs.Refusals.{unnamed, not_finite, too_far, pitch_refusal, count_refusal, buffer_refusal, corner_refusal, word_refusal, content_refusal, refusal}
use Rattle.survey_grid.specs.Grid.{whole_of}
use Rattle.loop_rules.specs.Next.{step, turn, next}
use Rattle.loop_rules.specs.Loops.{around, cycle, leads, starts_at, grow, grow_all, loops_of, loops_below, loops}
use Rattle.cover_rules.specs.Covers.{Cover, Covers, on}
use Rattle.cover_weight.specs.Weight.{stride_of, weight_of, point_of}
use Rattle.cover_bars.specs.Bars.{follows, diagonal, edge, between, barred}
use Rattle.rim_pieces.specs.Computed.{numbers_below, many, unite, smallest_by, smallest_of, piece_of}
use Rattle.rim_rules.specs.Rims.{stride, run_at, piece_at, outruns, is_rim, rim_list}
use Rattle.fill_fates.specs.Fates.{patched, rim}
use Rattle.fill_fates.specs.Course.{Course, ring_list}
use Rattle.judge_rules.specs.Faults as faults
use Rattle.judge_rules.specs.Faults.{IsCover, DeclaredPatched, Lighter}
use Rattle.judge_rules.proofs.Laws.Listing.{patch_is_cover}
use Rattle.judge_rules.proofs.Laws.Declared.{declared_patched}
use Rattle.bench_proved.specs.Table.{Table, cone, crossed, dented_top, square, ToTake, over_one, over_two, alone}
use Rattle.bench_proved.proofs.Alone.{first, second}
use Rattle.bench_proved.proofs.Small.{allows, allowed, not_allowed, none_of_four, three, four}

nonzero : (z : ℤ) → 0 < nat_abs z → z ≡ pos 0 → ⊥
nonzero z h e = omega (arith, ap nat_abs e)

-- state 1 on a loop of four is not wrong
patched_four : (input ring : List ℕ) → length ring ≡ 4 → DeclaredPatched input [] ring 1
patched_four input ring n = declared_patched input [] ring 1 refl (omega arith)

-- a cover of a loop of four, whatever is barred
covers_of : (c : Cover) → allows (λ a b. false) 0 3 c ≡ true → Covers 0 3 c
covers_of c e = (allowed (λ a b. false) 0 3 c e).covers

-- (3,2,0),(2,1,0) are (0,3,2),(0,2,1), each begun at another corner
begun_elsewhere : IsCover square (3 ∷ 2 ∷ 0 ∷ 2 ∷ 1 ∷ 0 ∷ []) over_two
begun_elsewhere = record {
  there = lit≤ tt;
  covers = (covers_of over_two refl, ([], on 2 1 0 ∷ [], on 3 2 0, refl, inr (inl refl), ([], [], on 2 1 0, refl, inr (inl refl), refl)));
}

-- none is lighter than the cover that is taken
no_lighter : ToTake cone dented_top square over_two → Lighter dented_top cone [] square over_two → ⊥
no_lighter t x = t.least x.other x.allowed x.lighter

-- (5,3,4) is (4,5,3), begun at another corner
begun_at_five : IsCover (4 ∷ 3 ∷ 5 ∷ []) (5 ∷ 3 ∷ 4 ∷ []) alone
begun_at_five = record { there = lit≤ tt; covers = ((allowed (λ a b. false) 0 2 alone refl).covers, ([], [], on 5 3 4, refl, inr (inl refl), refl)) }

-- each loop of (0,1,2),(0,2,3),(1,3,4) is alone in its piece
crossed_rims : (grid : List ℤ) → Course grid crossed [] (rim_list grid crossed) (ring_list crossed) (rim ∷ rim ∷ [])
unfolding loops loops_below loops_of grow_all grow starts_at leads cycle around is_open next turn step twin goes following least numbers_below many unite smallest_by smallest_of piece_of
crossed_rims grid =
    subst (λ (k : List Bool). Course grid crossed [] k (ring_list crossed) (rim ∷ rim ∷ [])) (sym (ap₂ (λ (x y : Bool). x ∷ y ∷ []) (first grid) (second grid))) (refl, (refl, tt))

pub table : Table
unfolding numbers_below many unite smallest_by smallest_of piece_of stride stride_of run_at piece_at outruns is_rim of_bits fits units whole whole_of is_pitch refusal pitch_refusal count_refusal content_refusal buffer_refusal corner_refusal word_refusal unnamed twice repeats not_finite too_far
    loops loops_below loops_of grow_all grow starts_at leads cycle around is_open next turn step twin goes following least weight_of point_of follows diagonal edge between barred
table = record {
  half = (record { number = tt; nearest = refl; within = lit≤ tt }, record { some = nonzero _ (lit< tt); fitting = tt; number = tt; exact = refl });
  half_up = (record { number = tt; nearest = refl; within = lit≤ tt }, record { some = nonzero _ (lit< tt); fitting = tt; number = tt; exact = refl });
  half_down = (record { number = tt; nearest = refl; within = lit≤ tt }, record { some = nonzero _ (lit< tt); fitting = tt; number = tt; exact = refl });
  last = (record { number = tt; nearest = refl; within = lit≤ tt }, record { some = nonzero _ (lit< tt); fitting = tt; number = tt; exact = refl });
  past = (tt, lit< tt, refl);
  two_down = (record { number = tt; nearest = refl; within = lit≤ tt }, record { some = nonzero _ (lit< tt); fitting = tt; number = tt; exact = refl });
  two_up = (record { number = tt; nearest = refl; within = lit≤ tt }, record { some = nonzero _ (lit< tt); fitting = tt; number = tt; exact = refl });
  five_down = (record { number = tt; nearest = refl; within = lit≤ tt }, record { some = nonzero _ (lit< tt); fitting = tt; number = tt; exact = refl });
  five_up = (record { number = tt; nearest = refl; within = lit≤ tt }, record { some = nonzero _ (lit< tt); fitting = tt; number = tt; exact = refl });
  ten_up = (record { number = tt; nearest = refl; within = lit≤ tt }, record { some = nonzero _ (lit< tt); fitting = tt; number = tt; exact = refl });
  two_past = (tt, lit< tt, refl);
  ten_last = (record { number = tt; nearest = refl; within = lit≤ tt }, record { some = nonzero _ (lit< tt); fitting = tt; number = tt; exact = refl });
  ten_past = (tt, lit< tt, refl);
  no_triangles = refl;
  repeated = refl;
  no_pitch = refl;
  bow_tie_lem = refl;
  strip_cycle = refl;
  strip_rings = refl;
  bow_pieces = refl;
  strip_taken_in = refl;
  even_taken_in = refl;
  strip_course = record { fates = patched alone ∷ rim ∷ []; course = ((lit≤ tt, three _ _ _ refl), (refl, tt)); its_states = refl; its_weights = refl; its_laid = refl };
  strip_rims = refl;
  even_rims = refl;
  folded_taken_in = refl;
  folded_rings = refl;
  folded_bar = refl;
  folded_taken = four _ _ _ refl refl refl;
  folded_course = record { fates = rim ∷ []; course = (refl, tt); its_states = refl; its_weights = refl; its_laid = refl };
  folded_barred = not_allowed _ _ _ _ refl;
  folded_judged = inl (refl, λ e. omega arith);
  folded_wrong = (faults.cover_barred refl (patched_four _ _ refl) (record { cover = over_two; taken = patch_is_cover square over_two [] (covers_of over_two refl); from = 0; to = 2; used = inr (inl (inl (refl, refl))); barring = refl }));
  cone_taken_in = refl;
  cone_rings = refl;
  cone_taken = four _ _ _ refl refl refl;
  cone_course = record { fates = rim ∷ []; course = (refl, tt); its_states = refl; its_weights = refl; its_laid = refl };
  cone_other = allowed _ _ _ _ refl;
  cone_heavier = refl;
  cone_wrong = (
      faults.too_heavy refl (patched_four _ _ refl)
      (record {
        cover = over_one;
        taken = patch_is_cover square over_one [] (covers_of over_one refl);
        allowed = allowed _ _ _ _ refl;
        lighter = record { other = over_two; allowed = allowed _ _ _ _ refl; lighter = lit< tt };
      })
      );
  cone_fine = faults.patched refl (lit≤ tt) over_two begun_elsewhere (allowed _ _ _ _ refl) (no_lighter (four _ _ _ refl refl refl));
  cone_judged = inl (refl, λ e. omega arith);
  cone_passed = inr (refl, refl);
  equal_taken_in = refl;
  equal_one = refl;
  equal_two = refl;
  equal_taken = four _ _ _ refl refl refl;
  crossed_rings = refl;
  crossed_bar = refl;
  crossed_other_bar = refl;
  crossed_open = none_of_four _ refl refl;
  crossed_taken = λ grid. three _ _ _ refl;
  crossed_course = λ grid. record { fates = rim ∷ rim ∷ []; course = crossed_rims grid; its_states = refl; its_weights = refl; its_laid = refl };
  plate_taken_in = refl;
  plate_rings = refl;
  plate_rims = refl;
  plate_course = record { fates = rim ∷ patched alone ∷ []; course = (refl, ((lit≤ tt, three _ _ _ refl), tt)); its_states = refl; its_weights = refl; its_laid = refl };
  plate_paved = inl (refl, λ e. omega arith);
  plate_left = inr (refl, inl (faults.misdeclared refl (faults.no_state (λ e. omega arith) (λ e. omega arith) (λ e. omega arith))));
  plate_passed = inr (refl, inr (faults.patched refl (lit≤ tt) alone begun_at_five (allowed _ _ _ _ refl) (λ x. (three _ _ alone refl).least x.other x.allowed x.lighter), refl));
}
