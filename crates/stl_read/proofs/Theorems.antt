-- What reading a file says beyond its one equation: the reader and the surface hand out the same, and the surface is as if it had come by text.
use mathlib.Core.Path.{◌≡◌, refl, sym, ap, ◌∙◌}
use mathlib.Core.Bool.{Bool, true, false, true≢false, cond}
use mathlib.Core.List.{List, [], ◌∷◌, ◌++◌}
use Prim.Native.Nat.{ℕ, zero, suc, ◌+◌, ◌*◌, ◌<◌, ◌≤◌}
use native.Mathlib.Omega.{arith}
use lib.ListN.{length, get_or, get_or-append}
use lib.Ieee.{binary32, of_bits}
use Rattle.base_answers.specs.Numbers.{refusing}
use Rattle.base_answers.specs.declared.Answer.{Answer}
use Rattle.base_answers.specs.declared.Answer.TheVariants.{Done}
use Rattle.surface_rules.specs.Buffers.{over}
use Rattle.surface_rules.specs.Threes.{Three, three, threes, flat}
use Rattle.surface_rules.proofs.Laws.Threes.{flat_threes}
use Rattle.text_rules.specs.Text.{TextOf}
use Rattle.text_sheet.specs.Sheet.{sheet_of, sheet}
use Rattle.text_read.specs.Outcome.{ReadOutcome, not_read, deliver, Reads}
use Rattle.stl_facets.specs.declared.Corner.{Corner}
use Rattle.std.specs.Prelude.{Some, None}
use Rattle.stl_facets.specs.Facets.{front, facet_bytes, facets, corner_at, facet_of, facet_at, behind}
use Rattle.stl_facets.proofs.Laws.{at_end, is_given, stays, goes_on}
use Rattle.stl_rules.specs.File.{fits, point_at, corner_place, agree}
use Rattle.stl_rules.specs.Reading.{none, points_in, corners_in, file_refusal, read_refusal, reads_file}
use Rattle.stl_rules.proofs.Laws.Files as files
use Rattle.stl_rules.proofs.Laws.Sizes.{fits_says}
use Rattle.stl_read.proofs.Laws.Reading.{file_says, delivers}

-- ---- the reader

-- the reader's place after k facets
unfoldable pub walked : List ℕ → ℕ → ℕ
walked b zero = front
walked b (suc k) = behind b (walked b k)

module _ (b : List ℕ) (well : fits (length b) (facets b) ≡ true) where
  long : length b ≡ front + facet_bytes * facets b
  long = fits_says (length b) (facets b) well

  walked_to : (k : ℕ) → k ≤ facets b → walked b k ≡ front + facet_bytes * k
  unfolding walked
  walked_to zero l = refl
  walked_to (suc k) l = let e = long in ap (behind b) (walked_to k (omega arith)) ∙ sym (goes_on b (front + facet_bytes * k) (omega arith)) ∙ omega arith

  walked_past : (d : ℕ) → walked b (facets b + d) ≡ front + facet_bytes * facets b
  unfolding walked
  walked_past zero = ap (walked b) (let z : facets b + 0 ≡ facets b = omega arith in z) ∙ walked_to (facets b) (omega arith)
  walked_past (suc d) =
      let e = long in
      ap (walked b) (let z : facets b + suc d ≡ suc (facets b + d) = omega arith in z)
      ∙ ap (behind b) (walked_past d)
      ∙ sym (stays b (front + facet_bytes * facets b) (omega arith))

  -- past k facets the reader hands out facet k
  pub reader_gives : (k : ℕ) → k < facets b → facet_at b (walked b k) ≡ Some (facet_of b (front + facet_bytes * k))
  reader_gives k l = let e = long in ap (facet_at b) (walked_to k (omega arith)) ∙ sym (is_given b (front + facet_bytes * k) (omega arith) refl)

  -- and from the count on the end
  pub reader_ends : (d : ℕ) → facet_at b (walked b (facets b + d)) ≡ None
  reader_ends d = let e = long in ap (facet_at b) (walked_past d) ∙ sym (at_end b (front + facet_bytes * facets b) (omega arith))

-- ---- the reader and the surface

-- the floats of a point's words
abbrev pub floats : Three → Corner
floats p = record { x = of_bits binary32 p.first; y = of_bits binary32 p.second; z = of_bits binary32 p.third }

-- the point that corner i of the surface names
abbrev pub point_of : List ℕ → ℕ → Three
point_of b i = get_or (points_in b) (get_or (corners_in b) i 0) none

corner_floats : (b : List ℕ) (k d o i : ℕ) → k < facets b → d < 3 → o ≡ 12 + 12 * d → i ≡ 3 * k + d → corner_at b (front + facet_bytes * k + o) ≡ floats (point_of b i)
unfolding corner_at point_at corner_place
corner_floats b k d o i h l e f =
    ap (corner_at b) (let z : front + facet_bytes * k + o ≡ corner_place i = omega arith in z)
    ∙ ap floats (sym (files.corner_words b i (omega arith)))

-- Each float that the reader hands out is that of the word which the surface has there, without exception.
pub facet_of_point : (b : List ℕ) (k : ℕ) → k < facets b
    → facet_of b (front + facet_bytes * k) ≡ record { a = floats (point_of b (3 * k)); b = floats (point_of b (3 * k + 1)); c = floats (point_of b (3 * k + 2)) }
unfolding facet_of
facet_of_point b k h =
    rw (
      corner_floats b k 0 12 (3 * k) h (omega arith) (omega arith) (omega arith),
      corner_floats b k 1 24 (3 * k + 1) h (omega arith) (omega arith) (omega arith),
      corner_floats b k 2 36 (3 * k + 2) h (omega arith) (omega arith) (omega arith),
    )

-- ---- "as if it had come by sheet text"

-- Whatever is lent, the outcome for a file that is refused neither with 16, 2 nor 1 is that of reading the text of its points and
-- triangles, the one without a line of a pitch.
pub as_text : (b words corners text : List ℕ) (o : ReadOutcome) → refusing (file_refusal b) ≡ false → TextOf sheet text (sheet_of 1 (points_in b) (threes (corners_in b)))
    → Reads text words corners o → o ≡ reads_file b words corners
as_text b words corners text o pass t r =
    let s = file_says b pass in
    r.of_text (sheet_of 1 (points_in b) (threes (corners_in b))) t
    ∙ ap (λ (cs : List ℕ). deliver 1 (flat (points_in b)) cs words corners) (flat_threes (facets b) (corners_in b) (files.corners_count b))
    ∙ delivers b words corners s.0 s.1

-- ---- what is left in the buffers

-- three words in a row
abbrev pub words_at : List ℕ → ℕ → Three
words_at words v = three (get_or words (3 * v) 0) (get_or words (3 * v + 1) 0) (get_or words (3 * v + 2) 0)

flat_at : (ps : List Three) (rest : List ℕ) (v : ℕ) → v < length ps → words_at (flat ps ++ rest) v ≡ get_or ps v none
flat_at [] rest v h = absurd (omega arith)
flat_at (t ∷ ps) rest zero h = refl
flat_at (t ∷ ps) rest (suc v) h =
    rw (let a : 3 * suc v ≡ suc (suc (suc (3 * v))) = omega arith in a)
    (rw (
      let e : suc (suc (suc (3 * v))) + 1 ≡ suc (suc (suc (3 * v + 1))) = omega arith in e,
      let e : suc (suc (suc (3 * v))) + 2 ≡ suc (suc (suc (3 * v + 2))) = omega arith in e,
    )
    (flat_at ps rest v (omega arith)))

module _ (b words corners : List ℕ) (done : (reads_file b words corners).answer ≡ Done) where
  abbrev left : ReadOutcome
  left = reads_file b words corners

  whole : ReadOutcome
  whole = record { answer = Done; pitch = 1; word_count = 3 * length (points_in b); corner_count = 3 * facets b; words = over (flat (points_in b)) words; corners = over (corners_in b) corners }

  left_is : left ≡ whole
  unfolding reads_file whole
  left_is = go (read_refusal b words corners) done
    where
      go : (a : Answer) → (cond (refusing a) (not_read a words corners) whole).answer ≡ Done → cond (refusing a) (not_read a words corners) whole ≡ whole
      go a h = by_cases (refusing a) refl h
        where
          by_cases : (t : Bool) → refusing a ≡ t → (cond t (not_read a words corners) whole).answer ≡ Done → cond t (not_read a words corners) whole ≡ whole
          by_cases true e q = absurd (true≢false (sym e ∙ ap refusing q))
          by_cases false e q = refl

  words_left : (v : ℕ) → v < length (points_in b) → words_at left.words v ≡ get_or (points_in b) v none
  unfolding whole over
  words_left v h = ap (λ (o : ReadOutcome). words_at o.words v) left_is ∙ flat_at (points_in b) _ v h

  corner_left : (i : ℕ) → i < 3 * facets b → get_or left.corners i 0 ≡ get_or (corners_in b) i 0
  unfolding whole over
  corner_left i h = ap (λ (o : ReadOutcome). get_or o.corners i 0) left_is ∙ get_or-append (corners_in b) _ 0 i (rw (files.corners_count b) h)

  -- corner i of the surface has the words of corner i of the file
  pub corner_words : (i : ℕ) → i < 3 * facets b → words_at left.words (get_or left.corners i 0) ≡ point_at b (corner_place i)
  corner_words i h = ap (words_at left.words) (corner_left i h) ∙ words_left _ (files.corner_below b i h) ∙ files.corner_words b i h

  -- and names a point that is there
  pub corner_below : (i : ℕ) → i < 3 * facets b → 3 * get_or left.corners i 0 < left.word_count
  unfolding whole
  corner_below i h = let c = ap (λ (o : ReadOutcome). o.word_count) left_is in let l = files.corner_below b i h in let e = corner_left i h in omega arith

  -- "Corners are the same point when all three words agree": then they have one number, and else not.
  pub same_point : (i j : ℕ) → i < 3 * facets b → j < 3 * facets b → point_at b (corner_place i) ≡ point_at b (corner_place j) → get_or left.corners i 0 ≡ get_or left.corners j 0
  same_point i j l m e = corner_left i l ∙ files.same_number b i j l m e ∙ sym (corner_left j m)

  pub same_words : (i j : ℕ) → i < 3 * facets b → j < 3 * facets b → get_or left.corners i 0 ≡ get_or left.corners j 0 → point_at b (corner_place i) ≡ point_at b (corner_place j)
  same_words i j l m e = sym (corner_words i l) ∙ ap (words_at left.words) e ∙ corner_words j m

  -- "Points are numbered by first use": each is used, and where point v is used first every corner before has a smaller number.
  pub first_use : (v : ℕ) → 3 * v < left.word_count → (i : ℕ) × (i < 3 * facets b) × (get_or left.corners i 0 ≡ v) × ((j : ℕ) → j < i → get_or left.corners j 0 < v)
  unfolding whole
  first_use v l =
      let few : v < length (points_in b) = let c = ap (λ (o : ReadOutcome). o.word_count) left_is in omega arith in
      let u = files.first_use b v few in
      let h = u.1 in
      (u.0, h, corner_left u.0 h ∙ u.2, λ j q. rw (corner_left j (omega arith)) (u.3 j q))

  -- no two points of it agree in all three words
  pub points_differ : (j k : ℕ) → j < k → 3 * k < left.word_count → agree (words_at left.words j) (words_at left.words k) ≡ false
  unfolding whole
  points_differ j k l h =
      let few : k < length (points_in b) = let c = ap (λ (o : ReadOutcome). o.word_count) left_is in omega arith in
      rw (words_left j (omega arith), words_left k few) (files.points_differ b j k l few)
