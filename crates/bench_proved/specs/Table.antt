-- The starred examples of the bench, and the one of two equal weights, a row each, in the scope's order; what pieces and rims are in them; and
-- coordinates at coarser pitches.
-- What a row says of points begins at the words of their sheet, the bits of binary32 numbers.
use Rattle.std.specs.Prelude.{◌≡◌, true, false, List, [], ◌∷◌, ◌++◌, ℕ, ℤ, pos, negsuc}
use Rattle.std.specs.Float.{binary32}
use Rattle.std.specs.Float.Ieee.{of_bits}
use Rattle.base_answers.specs.declared.Answer.{Answer}
use Rattle.base_answers.specs.Answers.{Repeated, Misdeclared, Barred, Heavy, NoPitch}
use Rattle.base_answers.specs.declared.Answer.TheVariants.{Done}
use Rattle.grid_coordinate.specs.Places.{Places}
use Rattle.grid_coordinate.specs.declared.Coordinate.TheVariants.{Shifted, TooFar}
use Rattle.surface_rules.specs.Refusals.{refusal}
use Rattle.loop_rules.specs.Loops.{cycle, ring}
use Rattle.survey_grid.specs.Grid.{grid_of}
use Rattle.cover_rules.specs.Covers.{Cover, empty, apex}
use Rattle.cover_bars.specs.Bars.{barred}
use Rattle.rim_pieces.specs.Computed.{piece_numbers}
use Rattle.rim_rules.specs.Rims.{rim_list}
use Rattle.fill_fates.specs.Fates.{Fate}
use Rattle.fill_fates.specs.Course.{Course, ring_list, states_of, weights_of, laid_by}
use Rattle.fill_fates.specs.Here.{AllowedHere, NoneHere, weight_here, PatchHere}
use Rattle.judge_rules.specs.Faults.{Right, Fault}
use Rattle.judge_rules.specs.Verdicts.{Verdict}

-- (0,1,2),(0,1,3)
abbrev pub repeating : List ℕ
repeating = 0 ∷ 1 ∷ 2 ∷ 0 ∷ 1 ∷ 3 ∷ []

-- (0,1,2),(0,3,4)
abbrev pub bow_tie : List ℕ
bow_tie = 0 ∷ 1 ∷ 2 ∷ 0 ∷ 3 ∷ 4 ∷ []

-- (0,1,2),(2,1,3),(2,3,4),(4,3,0)
abbrev pub pinched_strip : List ℕ
pinched_strip = 0 ∷ 1 ∷ 2 ∷ 2 ∷ 1 ∷ 3 ∷ 2 ∷ 3 ∷ 4 ∷ 4 ∷ 3 ∷ 0 ∷ []

-- (0,1,2),(0,2,3)
abbrev pub folded : List ℕ
folded = 0 ∷ 1 ∷ 2 ∷ 0 ∷ 2 ∷ 3 ∷ []

-- (0,1,4),(1,2,4),(2,3,4),(3,0,4)
abbrev pub cone : List ℕ
cone = 0 ∷ 1 ∷ 4 ∷ 1 ∷ 2 ∷ 4 ∷ 2 ∷ 3 ∷ 4 ∷ 3 ∷ 0 ∷ 4 ∷ []

-- (0,1,2),(0,2,3),(1,3,4)
abbrev pub crossed : List ℕ
crossed = 0 ∷ 1 ∷ 2 ∷ 0 ∷ 2 ∷ 3 ∷ 1 ∷ 3 ∷ 4 ∷ []

-- (0,1,3),(1,4,3),(1,2,4),(2,5,4),(2,0,5),(0,3,5): a plate with a hole
abbrev pub plate : List ℕ
plate = 0 ∷ 1 ∷ 3 ∷ 1 ∷ 4 ∷ 3 ∷ 1 ∷ 2 ∷ 4 ∷ 2 ∷ 5 ∷ 4 ∷ 2 ∷ 0 ∷ 5 ∷ 0 ∷ 3 ∷ 5 ∷ []

-- (0,0,0),(30,0,0),(0,30,0),(5,5,0),(15,5,0),(5,15,0)
abbrev pub plate_words : List ℕ
plate_words =
    0x00000000 ∷ 0x00000000 ∷ 0x00000000
    ∷ 0x41f00000 ∷ 0x00000000 ∷ 0x00000000
    ∷ 0x00000000 ∷ 0x41f00000 ∷ 0x00000000
    ∷ 0x40a00000 ∷ 0x40a00000 ∷ 0x00000000
    ∷ 0x41700000 ∷ 0x40a00000 ∷ 0x00000000
    ∷ 0x40a00000 ∷ 0x41700000 ∷ 0x00000000
    ∷ []

abbrev pub plate_grid : List ℤ
plate_grid = grid_of 1 plate_words

-- (0,0,0),(4,0,0),(0,9,0),(4,4,0),(9,9,0)
abbrev pub wide_words : List ℕ
wide_words =
    0x00000000 ∷ 0x00000000 ∷ 0x00000000
    ∷ 0x40800000 ∷ 0x00000000 ∷ 0x00000000
    ∷ 0x00000000 ∷ 0x41100000 ∷ 0x00000000
    ∷ 0x40800000 ∷ 0x40800000 ∷ 0x00000000
    ∷ 0x41100000 ∷ 0x41100000 ∷ 0x00000000
    ∷ []

abbrev pub wide_strip : List ℤ
wide_strip = grid_of 1 wide_words

-- (0,0,0),(4,0,0),(0,4,0),(4,4,0),(0,4,4)
abbrev pub even_words : List ℕ
even_words =
    0x00000000 ∷ 0x00000000 ∷ 0x00000000
    ∷ 0x40800000 ∷ 0x00000000 ∷ 0x00000000
    ∷ 0x00000000 ∷ 0x40800000 ∷ 0x00000000
    ∷ 0x40800000 ∷ 0x40800000 ∷ 0x00000000
    ∷ 0x00000000 ∷ 0x40800000 ∷ 0x40800000
    ∷ []

abbrev pub even_strip : List ℤ
even_strip = grid_of 1 even_words

-- (0,0,0),(10,0,0),(10,10,0),(0,10,4)
abbrev pub lifted_words : List ℕ
lifted_words =
    0x00000000 ∷ 0x00000000 ∷ 0x00000000
    ∷ 0x41200000 ∷ 0x00000000 ∷ 0x00000000
    ∷ 0x41200000 ∷ 0x41200000 ∷ 0x00000000
    ∷ 0x00000000 ∷ 0x41200000 ∷ 0x40800000
    ∷ []

abbrev pub lifted : List ℤ
lifted = grid_of 1 lifted_words

-- the same, and (4,4,9)
abbrev pub lifted_top_words : List ℕ
lifted_top_words = lifted_words ++ (0x40800000 ∷ 0x40800000 ∷ 0x41100000 ∷ [])

abbrev pub lifted_top : List ℤ
lifted_top = grid_of 1 lifted_top_words

-- (0,0,0),(10,0,0),(3,3,0),(0,10,0),(4,4,9)
abbrev pub dented_top_words : List ℕ
dented_top_words =
    0x00000000 ∷ 0x00000000 ∷ 0x00000000
    ∷ 0x41200000 ∷ 0x00000000 ∷ 0x00000000
    ∷ 0x40400000 ∷ 0x40400000 ∷ 0x00000000
    ∷ 0x00000000 ∷ 0x41200000 ∷ 0x00000000
    ∷ 0x40800000 ∷ 0x40800000 ∷ 0x41100000
    ∷ []

abbrev pub dented_top : List ℤ
dented_top = grid_of 1 dented_top_words

-- a loop of four and one of three, by their rings
abbrev pub square : List ℕ
square = 0 ∷ 1 ∷ 2 ∷ 3 ∷ []

abbrev pub side : List ℕ
side = 1 ∷ 3 ∷ 4 ∷ []

-- the two covers of a loop of four, and the one of a loop of three
abbrev pub over_one : Cover
over_one = apex 1 empty (apex 2 empty empty)

abbrev pub over_two : Cover
over_two = apex 2 (apex 1 empty empty) empty

abbrev pub alone : Cover
alone = apex 1 empty empty

-- where no patch is laid yet: the cover has no barred diagonal, the loop has no such cover, and the cover is the one to take
abbrev pub Free : List ℕ → List ℕ → Cover → Type 0
Free corners = AllowedHere corners []

abbrev pub Open : List ℕ → List ℕ → Type 0
Open corners = NoneHere corners []

abbrev pub ToTake : List ℕ → List ℤ → List ℕ → Cover → Type 0
ToTake corners grid ring = PatchHere grid corners [] ring

-- what is wrong with a loop's part of a set, and that nothing is, where no patch is laid yet: facts about the cover, whether the loop is a rim or not
abbrev pub Wrong : List ℤ → List ℕ → List ℕ → List ℕ → Answer → Type 0
Wrong grid corners ring set = Fault grid corners [] 0 ring 1 set

abbrev pub Fine : List ℤ → List ℕ → List ℕ → List ℕ → Type 0
Fine grid corners ring set = Right grid corners [] ring 1 set

-- the course over the surface gives its loops these states and weights and lays these corners
pub record Leaves (grid : List ℤ) (corners states weights laid : List ℕ) : Type 0 where
  pub fates : List Fate
  pub course : Course grid corners [] (rim_list grid corners) (ring_list corners) fates
  pub its_states : states_of fates ≡ states
  pub its_weights : weights_of grid (ring_list corners) fates ≡ weights
  pub its_laid : laid_by (ring_list corners) fates ≡ laid

-- the set of these states and corners gets this verdict
abbrev pub Gets : List ℤ → List ℕ → List ℕ → List ℕ → Answer → Type 0
Gets grid corners states set = Verdict grid corners [] 0 0 (rim_list grid corners) (ring_list corners) states set

pub record Table : Type 0 where
  -- 0.5 gives 0 rest 0.5
  pub half : Places 1 (of_bits binary32 0x3f000000) (Shifted (pos 0) (of_bits binary32 0x3f000000))
  -- 1.5 gives 2 rest -0.5
  pub half_up : Places 1 (of_bits binary32 0x3fc00000) (Shifted (pos 2) (of_bits binary32 0xbf000000))
  -- -1.5 gives -2 rest 0.5
  pub half_down : Places 1 (of_bits binary32 0xbfc00000) (Shifted (negsuc 1) (of_bits binary32 0x3f000000))
  -- 32767.498046875 gives 32,767, and its rest is 0.498046875
  pub last : Places 1 (of_bits binary32 0x46fffeff) (Shifted (pos 32767) (of_bits binary32 0x3eff0000))
  -- 32767.5 is too far
  pub past : Places 1 (of_bits binary32 0x46ffff00) (TooFar (of_bits binary32 0x46ffff00))
  -- the same at the other pitches: a tie goes to the even multiple. At 2, 1 gives 0 rest 1, and 3 gives 4 rest -1
  pub two_down : Places 2 (of_bits binary32 0x3f800000) (Shifted (pos 0) (of_bits binary32 0x3f800000))
  pub two_up : Places 2 (of_bits binary32 0x40400000) (Shifted (pos 4) (of_bits binary32 0xbf800000))
  -- at 5, 2.5 gives 0 rest 2.5, and -7.5 gives -10 rest 2.5
  pub five_down : Places 5 (of_bits binary32 0x40200000) (Shifted (pos 0) (of_bits binary32 0x40200000))
  pub five_up : Places 5 (of_bits binary32 0xc0f00000) (Shifted (negsuc 9) (of_bits binary32 0x40200000))
  -- at 10, 15 gives 20 rest -5
  pub ten_up : Places 10 (of_bits binary32 0x41700000) (Shifted (pos 20) (of_bits binary32 0xc0a00000))
  -- 32767 is too far at 2; 32765 gives 32,760 at 10, and the float after it is too far
  pub two_past : Places 2 (of_bits binary32 0x46fffe00) (TooFar (of_bits binary32 0x46fffe00))
  pub ten_last : Places 10 (of_bits binary32 0x46fffa00) (Shifted (pos 32760) (of_bits binary32 0x40a00000))
  pub ten_past : Places 10 (of_bits binary32 0x46fffa01) (TooFar (of_bits binary32 0x46fffa01))
  -- no triangles: no loops
  pub no_triangles : ring_list [] ≡ []
  -- (0,1,2),(0,1,3): refusal 6 at 3, by the whole table of refusals, no buffer being too short
  pub repeated : refusal 1 lifted_words repeating [] [] ≡ Repeated 3
  -- a pitch of 3 is refused before all that
  pub no_pitch : refusal 3 lifted_words repeating [] [] ≡ NoPitch
  -- (0,1,2),(0,3,4): rings 0,1,2 and 0,3,4
  pub bow_tie_lem : ring_list bow_tie ≡ (0 ∷ 1 ∷ 2 ∷ []) ∷ (0 ∷ 3 ∷ 4 ∷ []) ∷ []
  -- in two pieces, since they share a vertex and no edge
  pub bow_pieces : piece_numbers bow_tie ≡ 0 ∷ 1 ∷ []
  -- the pinched strip: one cycle 0,1,3,0,4,2; rings 0,1,3 and 0,4,2
  pub strip_cycle : ring pinched_strip (cycle pinched_strip 0) ≡ 0 ∷ 1 ∷ 3 ∷ 0 ∷ 4 ∷ 2 ∷ []
  pub strip_rings : ring_list pinched_strip ≡ (0 ∷ 1 ∷ 3 ∷ []) ∷ (0 ∷ 4 ∷ 2 ∷ []) ∷ []
  -- with either points the sheet is not refused
  pub strip_taken_in : refusal 1 wide_words pinched_strip [] [] ≡ Done
  pub even_taken_in : refusal 1 even_words pinched_strip [] [] ≡ Done
  -- in one piece: runs of 16 and 36, so the second is the rim and the first is patched; of two runs of 16 the first is
  pub strip_course : Leaves wide_strip pinched_strip (1 ∷ 4 ∷ []) (16 ∷ 0 ∷ []) (0 ∷ 3 ∷ 1 ∷ [])
  pub strip_rims : rim_list wide_strip pinched_strip ≡ false ∷ true ∷ []
  pub even_rims : rim_list even_strip pinched_strip ≡ true ∷ false ∷ []
  -- (0,1,2),(0,2,3): diagonal 0-2 barred; patch (0,3,1),(1,3,2), weight 280, and (0,3,2),(0,2,1) has the barred diagonal: it gets 13
  pub folded_taken_in : refusal 1 lifted_words folded [] [] ≡ Done
  pub folded_rings : ring_list folded ≡ square ∷ []
  pub folded_bar : barred folded [] square 0 2 ≡ true
  pub folded_taken : ToTake folded lifted square over_one
  -- its loop is alone in its piece: a rim, which is not patched, and a set that patches it gets 11
  pub folded_course : Leaves lifted folded (4 ∷ []) (0 ∷ []) []
  pub folded_barred : Free folded square over_two → ⊥
  pub folded_wrong : Wrong lifted folded square (0 ∷ 3 ∷ 2 ∷ 0 ∷ 2 ∷ 1 ∷ []) (Barred 0)
  pub folded_judged : Gets lifted folded (1 ∷ []) (0 ∷ 3 ∷ 2 ∷ 0 ∷ 2 ∷ 1 ∷ []) (Misdeclared 0)
  -- the cone with a dent: patch (0,3,2),(0,2,1), weight 60; (0,3,1),(1,3,2) weighs 140 and gets 14;
  -- (3,2,0),(2,1,0) passes
  pub cone_taken_in : refusal 1 dented_top_words cone [] [] ≡ Done
  pub cone_rings : ring_list cone ≡ square ∷ []
  pub cone_taken : ToTake cone dented_top square over_two
  pub cone_course : Leaves dented_top cone (4 ∷ []) (0 ∷ []) []
  pub cone_other : Free cone square over_one
  pub cone_heavier : weight_here dented_top square over_one ≡ 140
  pub cone_wrong : Wrong dented_top cone square (0 ∷ 3 ∷ 1 ∷ 1 ∷ 3 ∷ 2 ∷ []) (Heavy 0)
  pub cone_fine : Fine dented_top cone square (3 ∷ 2 ∷ 0 ∷ 2 ∷ 1 ∷ 0 ∷ [])
  pub cone_judged : Gets dented_top cone (1 ∷ []) (3 ∷ 2 ∷ 0 ∷ 2 ∷ 1 ∷ 0 ∷ []) (Misdeclared 0)
  pub cone_passed : Gets dented_top cone (4 ∷ []) [] Done
  -- the cone with the points of (0,1,2),(0,2,3): both covers weigh 280, so m = 1: (0,3,1),(1,3,2)
  pub equal_taken_in : refusal 1 lifted_top_words cone [] [] ≡ Done
  pub equal_one : weight_here lifted_top square over_one ≡ 280
  pub equal_two : weight_here lifted_top square over_two ≡ 280
  pub equal_taken : ToTake cone lifted_top square over_one
  -- (0,1,2),(0,2,3),(1,3,4): ring 0,1,2,3 has no cover, both its diagonals being barred; ring 1,3,4 is patched by (1,4,3) wherever the points lie
  pub crossed_rings : ring_list crossed ≡ square ∷ side ∷ []
  pub crossed_bar : barred crossed [] square 0 2 ≡ true
  pub crossed_other_bar : barred crossed [] square 1 3 ≡ true
  pub crossed_open : Open crossed square
  pub crossed_taken : (grid : List ℤ) → ToTake crossed grid side alone
  -- and each is the rim of its piece
  pub crossed_course : (grid : List ℤ) → Leaves grid crossed (4 ∷ 4 ∷ []) (0 ∷ 0 ∷ []) []
  -- a plate with a hole: the greater loop is the rim, the other is patched, and 11 is given for 1 on the rim and for 4 on the hole
  pub plate_taken_in : refusal 1 plate_words plate [] [] ≡ Done
  pub plate_rings : ring_list plate ≡ (0 ∷ 1 ∷ 2 ∷ []) ∷ (4 ∷ 3 ∷ 5 ∷ []) ∷ []
  pub plate_rims : rim_list plate_grid plate ≡ true ∷ false ∷ []
  pub plate_course : Leaves plate_grid plate (4 ∷ 1 ∷ []) (0 ∷ 100 ∷ []) (4 ∷ 5 ∷ 3 ∷ [])
  pub plate_paved : Gets plate_grid plate (1 ∷ 1 ∷ []) (0 ∷ 2 ∷ 1 ∷ 4 ∷ 5 ∷ 3 ∷ []) (Misdeclared 0)
  pub plate_left : Gets plate_grid plate (4 ∷ 4 ∷ []) [] (Misdeclared 1)
  pub plate_passed : Gets plate_grid plate (4 ∷ 1 ∷ []) (5 ∷ 3 ∷ 4 ∷ []) Done
