-- What a written file is to whoever reads it.
use mathlib.Core.Path.{◌≡◌, sym, ap, ◌∙◌}
use mathlib.Core.Bool.{true}
use mathlib.Core.List.{List, map}
use Prim.Native.Nat.{ℕ, ◌*◌, ◌/◌, ◌%◌, ◌^◌, ◌<◌, ◌≤◌}
use native.Mathlib.Omega.{arith}
use lib.ListN.{length, get_or, take}
use Rattle.base_answers.specs.Answers.{Corners}
use Rattle.base_answers.specs.declared.Answer.TheVariants.{Done}
use Rattle.base_limits.specs.Limits as limits
use Rattle.surface_rules.specs.Edges.{is_open}
use Rattle.surface_rules.proofs.Laws.Over.{start_of}
use Rattle.text_read.specs.Outcome.{ReadOutcome, not_read}
use Rattle.stl_facets.specs.Facets.{facets}
use Rattle.stl_rules.specs.File.{fits}
use Rattle.stl_rules.specs.Reading.{none, all_corners, points_in, corners_in, reads_file}
use Rattle.stl_file.specs.Bytes.{point_of, file_of}
use Rattle.stl_file.specs.Again.{NoTwoAlike, used, points_again, corners_again, read_again}
use Rattle.stl_file.proofs.Laws.Back as back
use Rattle.stl_file.proofs.Laws.Back.{Named}
use Rattle.stl_file.proofs.Laws.Again as again

-- ---- read again

-- any words of 32 bits, and n triangles
module _ (words corners : List ℕ) (small : (k : ℕ) → get_or words k 0 < 2 ^ 32) (n : ℕ) (h : length corners ≡ 3 * n) (b : n < 2 ^ 32) where
  -- The file is as long as its count says: nobody refuses it with 16.
  pub well_sized : fits (length (file_of words corners)) (facets (file_of words corners)) ≡ true
  well_sized = back.file_fits words corners small n h b

  -- Every triangle comes back with its three points' words, in its place and its order, whatever the points are: alike or not, used or not.
  pub words_back : all_corners (file_of words corners) ≡ map (point_of words) corners
  words_back = back.corners_back words corners small n h b

  -- the words and corners that are lent to the reader
  module _ (ws cs : List ℕ) where
    -- A file of more triangles than a surface has is answered 2, and nothing is read.
    pub too_many : limits.triangles < n → reads_file (file_of words corners) ws cs ≡ not_read Corners ws cs
    unfolding reads_file
    too_many many = rw (back.many_refused words corners small n h b many ws cs)

    -- the triangles name points, they and the points are no more than a surface has, and what is lent is as long as the surface's own words and corners
    module _ (named : Named (length words / 3) corners) (few : n ≤ limits.triangles) (fit : length words / 3 ≤ limits.points)
        (wide : length words ≤ length ws) (tall : length corners ≤ length cs) where
      -- "Its file is readable by (ii)": also where two points are alike, since a file has no more points than its surface.
      pub readable : (reads_file (file_of words corners) ws cs).answer ≡ Done
      unfolding reads_file
      readable = rw (back.few_done words corners small n h b named few fit ws cs wide tall)

      -- "Reading it back gives surface and patches as one surface, points renumbered by first use, provided no two points have the same three
      -- words after that change."
      pub reads_back : NoTwoAlike words → reads_file (file_of words corners) ws cs ≡ read_again words corners ws cs
      unfolding reads_file
      reads_back apart =
          let m : 3 * facets (file_of words corners) ≡ length corners = omega (arith, back.count_back words corners small n h b) in
          rw (
            back.few_done words corners small n h b named few fit ws cs wide tall,
            back.points_back words corners small n h b named apart,
            back.numbers_back words corners small n h b named apart,
            m,
          )

-- ---- renumbered by first use

module _ (corners : List ℕ) where
  -- The corners that are read are those, as many as were written.
  pub corners_read : (words ws cs : List ℕ) → (let o = read_again words corners ws cs in take o.corner_count o.corners) ≡ corners_again corners
  corners_read words ws cs = start_of (corners_again corners) cs (length corners) (sym (again.again_length corners))

  -- A corner names the words that it named before.
  pub same_words : (words : List ℕ) (i : ℕ) → i < length corners → get_or (points_again words corners) (get_or (corners_again corners) i 0) none ≡ point_of words (get_or corners i 0)
  same_words = again.again_words corners

  -- Two corners name one point exactly if they did before.
  pub again_same : (i j : ℕ) → i < length corners → j < length corners → get_or (corners_again corners) i 0 ≡ get_or (corners_again corners) j 0 → get_or corners i 0 ≡ get_or corners j 0
  again_same = again.again_same corners

  pub same_again : (i j : ℕ) → i < length corners → j < length corners → get_or corners i 0 ≡ get_or corners j 0 → get_or (corners_again corners) i 0 ≡ get_or (corners_again corners) j 0
  same_again = again.same_again corners

  -- So a half-edge is open exactly if it was, under its own number.
  pub again_open : length corners % 3 ≡ 0 → (h : ℕ) → h < length corners → is_open (corners_again corners) h ≡ is_open corners h
  again_open = again.again_open corners

  -- "Unused points are lost": those that are kept are the corners' and no others.
  pub used_are : (k : ℕ) → k < length (used corners) → (i : ℕ) × (i < length corners) × (get_or corners i 0 ≡ get_or (used corners) k 0)
  used_are = again.used_are corners
