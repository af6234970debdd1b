-- The loops that a course leaves, as they are told: what they have, one after the other, and that their lines are not too wide.
use mathlib.Core.Path.{◌≡◌, refl, sym, ap, ap₂, ◌∙◌, subst}
use mathlib.Core.Bool.{Bool, true, false, cond}
use mathlib.Core.List.{List, [], ◌∷◌, ◌++◌, map, flatten, map-append}
use Prim.Native.Nat.{ℕ, zero, suc, ◌-◌, ◌*◌, ◌/◌, ◌^◌, ◌<◌, ◌≤◌}
use native.Mathlib.Nat.{not-suc-le-zero, le_of_suc-le-suc}
use native.Mathlib.Numerals.{add-one}
use native.Mathlib.Omega.{arith}
use lib.Dec.{eqb, lit<}
use lib.IntN.{ℤ}
use lib.ListN.{length, get_or, take, length-map, length-append}
use lib.Seq.{take-suc, take-length, length-take-le}
use Rattle.base_limits.specs.Limits as limits
use Rattle.base_limits.specs.States as stated
use Rattle.surface_rules.specs.Edges.{Sound, start_of, end_of}
use Rattle.surface_rules.proofs.Laws.Lists.{map_at}
use Rattle.loop_rules.specs.Loops.{loops, ring}
use Rattle.loop_rules.proofs.Theorems.{three_or_more, one_loop, vertices_in_all, vertices_few}
use Rattle.loop_cut.specs.Listing.{first_of}
use Rattle.cover_rules.proofs.Laws.Corners.{patch_length}
use Rattle.cover_weight.specs.Weight.{Coordinates}
use Rattle.cover_weight.proofs.Laws.Named.{named_on_grid}
use Rattle.cover_weight.proofs.Laws.Strides.{longest_stride, stride_most}
use Rattle.cover_weight.proofs.Laws.Totals.{cover_below}
use Rattle.fill_fates.specs.Fates.{Fate, patched, long, uncovered, rim, state_of, weighs, lays, Becomes}
use Rattle.fill_fates.specs.Course.{Course, ring_list, laid_by}
use Rattle.fill_fates.proofs.Laws.Grows.{laid_more}
use Rattle.rim_pieces.specs.Computed.{numbers_below, many, smallest_of, piece_of}
use Rattle.rim_pieces.specs.Pieces.{triangle_count}
use Rattle.rim_pieces.proofs.Laws.Uniting.{numbers_length, numbers_at, smallest_low}
use Rattle.rim_rules.specs.Rims.{loop_at, stride, run_of, run_at, piece_at}
use Rattle.patch_records.specs.Records.{numbers, fate_at, records_of}
use Rattle.patch_records.proofs.Laws.Sevens.{listed, listed_none, listed_next}
use Rattle.program_lines.specs.Listing.{Shown}
use Rattle.program_lines.specs.Workings.Telling.{Fits, nothing}
use Rattle.program_list.specs.Lists.{show_of, loops_of}

map_twice : {A B : Type 0} (f : A → B) (g : ℕ → A) (xs : List ℕ) → map f (map g xs) ≡ map (λ (x : ℕ). f (g x)) xs
map_twice f g [] = refl
map_twice f g (x ∷ xs) = ap (λ (y : List _). f (g x) ∷ y) (map_twice f g xs)

-- the items of a list, by their numbers
by_number : {A B : Type 0} (f : A → B) (d : A) (xs : List A) (n : ℕ) → n ≤ length xs → map (λ (l : ℕ). f (get_or xs l d)) (numbers_below n) ≡ map f (take n xs)
unfolding numbers_below
by_number f d xs zero h = refl
by_number f d xs (suc n) h =
    map-append (λ (l : ℕ). f (get_or xs l d)) (numbers_below n) (n ∷ [])
    ∙ ap (λ (x : List _). x ++ (f (get_or xs n d) ∷ [])) (by_number f d xs n (omega arith))
    ∙ sym (map-append f (take n xs) (get_or xs n d ∷ []))
    ∙ ap (map f) (sym (take-suc xs n d h))

-- ---- what they have

module _ (grid : List ℤ) (corners : List ℕ) (fates : List Fate) where
  pub loops_many : length (loops_of grid corners fates) ≡ length (loops corners)
  loops_many = length-map (numbers_below (length (loops corners))) (show_of grid corners fates) ∙ numbers_length (length (loops corners))

  pub rings_shown : map (λ (s : Shown). s.ring) (loops_of grid corners fates) ≡ ring_list corners
  rings_shown =
      map_twice (λ (s : Shown). s.ring) (show_of grid corners fates) (numbers_below (length (loops corners)))
      ∙ by_number (ring corners) [] (loops corners) (length (loops corners)) (omega arith)
      ∙ ap (map (ring corners)) (take-length (loops corners))

  pub records_shown : flatten (map (λ (s : Shown). numbers s.kept) (loops_of grid corners fates)) ≡ records_of grid corners fates
  unfolding records_of
  records_shown = ap flatten (map_twice (λ (s : Shown). numbers s.kept) (show_of grid corners fates) (numbers_below (length (loops corners))))

  -- what the first n lay
  laid_below : length fates ≡ length (loops corners) → (n : ℕ) → n ≤ length (loops corners)
      → listed (λ (l : ℕ). lays (ring corners (loop_at corners l)) (fate_at fates l)) n ≡ laid_by (map (ring corners) (take n (loops corners))) (take n fates)
  laid_below e zero h = listed_none (λ (l : ℕ). lays (ring corners (loop_at corners l)) (fate_at fates l))
  laid_below e (suc n) h =
      ap (listed (λ (l : ℕ). lays (ring corners (loop_at corners l)) (fate_at fates l))) (sym (add-one n))
      ∙ listed_next (λ (l : ℕ). lays (ring corners (loop_at corners l)) (fate_at fates l)) n
      ∙ ap (λ (x : List ℕ). x ++ lays (ring corners (loop_at corners n)) (fate_at fates n)) (laid_below e n (omega arith))
      ∙ sym (laid_more (map (ring corners) (take n (loops corners))) (take n fates) (ring corners (loop_at corners n)) (fate_at fates n)
      (length-take-le n fates (omega arith) ∙ sym (length-map (take n (loops corners)) (ring corners) ∙ length-take-le n (loops corners) (omega arith))))
      ∙ ap₂ laid_by
      (sym (map-append (ring corners) (take n (loops corners)) (loop_at corners n ∷ [])) ∙ ap (map (ring corners)) (sym (take-suc (loops corners) n [] h)))
      (sym (take-suc fates n rim (omega arith)))

  pub patches_shown : length fates ≡ length (loops corners) → flatten (map (λ (s : Shown). s.patch) (loops_of grid corners fates)) ≡ laid_by (ring_list corners) fates
  patches_shown e =
      ap flatten (map_twice (λ (s : Shown). s.patch) (show_of grid corners fates) (numbers_below (length (loops corners))))
      ∙ laid_below e (length (loops corners)) (omega arith)
      ∙ ap₂ laid_by (ap (map (ring corners)) (take-length (loops corners))) (ap (λ (n : ℕ). take n fates) (sym e) ∙ take-length fates)

-- ---- how wide they are

-- what becomes of loop l, with something laid before it
becomes_at : (grid : List ℤ) (input laid : List ℕ) (rims : List Bool) (rings : List (List ℕ)) (fates : List Fate) → Course grid input laid rims rings fates → (l : ℕ) → l < length rings
    → (before : List ℕ) × Becomes grid input before (get_or rims l false) (get_or rings l []) (fate_at fates l)
becomes_at grid input laid rims [] fates c l h = absurd (not-suc-le-zero h)
becomes_at grid input laid [] (r ∷ rings) fates c l h = absurd c
becomes_at grid input laid (k ∷ rims) (r ∷ rings) [] c l h = absurd c
becomes_at grid input laid (k ∷ rims) (r ∷ rings) (f ∷ fates) c zero h = (laid, c.0)
becomes_at grid input laid (k ∷ rims) (r ∷ rings) (f ∷ fates) c (suc l) h = becomes_at grid input (laid ++ lays r f) rims rings fates c.1 l (le_of_suc-le-suc h)

item_few : (rs : List (List ℕ)) (l : ℕ) → l < length rs → length (get_or rs l []) ≤ length (flatten rs)
unfolding flatten
item_few [] l h = absurd (not-suc-le-zero h)
item_few (r ∷ rs) zero h = omega (arith, length-append r (flatten rs))
item_few (r ∷ rs) (suc l) h = omega (arith, length-append r (flatten rs), item_few rs l (le_of_suc-le-suc h))

many_few : (p : ℕ → Bool) (n : ℕ) → many p n ≤ n
unfolding many
many_few p zero = omega arith
many_few p (suc n) = go (p n) (many_few p n)
  where
    go : (t : Bool) → many p n ≤ n → cond t (suc (many p n)) (many p n) ≤ suc n
    go true h = omega arith
    go false h = omega arith

run_most : (grid : List ℤ) (corners loop : List ℕ) → Coordinates grid → run_of grid corners loop ≤ longest_stride * length loop
unfolding stride
run_most grid corners [] h = omega arith
run_most grid corners (e ∷ loop) h = omega (arith, run_most grid corners loop h, stride_most grid h (start_of corners e) (end_of corners e))

state_few : (f : Fate) → state_of f < 10
state_few (patched c) = lit< tt
state_few long = lit< tt
state_few uncovered = lit< tt
state_few rim = lit< tt

module _ (grid : List ℤ) (corners : List ℕ) (h : Coordinates grid) (sound : Sound corners) (few : length corners ≤ limits.corners) (rims : List Bool) (fates : List Fate)
    (course : Course grid corners [] rims (ring_list corners) fates) where
  module _ (l : ℕ) (k : l < length (loops corners)) where
    abbrev loop : List ℕ
    loop = loop_at corners l

    abbrev r : List ℕ
    r = ring corners loop

    as_long : length loop ≡ length r
    as_long = sym (length-map loop (start_of corners))

    ring_few : length r ≤ limits.corners
    ring_few =
        let n : length (ring_list corners) ≡ length (loops corners) = length-map (loops corners) (ring corners) in
        omega (arith, item_few (ring_list corners) l (omega arith), ap length (map_at (ring corners) [] [] (loops corners) l k), vertices_in_all corners sound, vertices_few corners sound)

    weight_few : (k : Bool) (laid : List ℕ) (f : Fate) → Becomes grid corners laid k r f → weighs grid r f < 2 ^ 41
    weight_few true laid f m = subst (λ (x : Fate). weighs grid r x < 2 ^ 41) (sym m) (lit< tt)
    weight_few false laid (patched c) m = cover_below _ (length r) (λ j i. named_on_grid grid h (get_or r j 0)) 0 _ (let t = three_or_more corners sound l k in omega (arith, as_long)) c m.1.among.covers m.0
    weight_few false laid long m = lit< tt
    weight_few false laid uncovered m = lit< tt
    weight_few false laid rim m = absurd m

    short : (k : Bool) (laid : List ℕ) (f : Fate) → Becomes grid corners laid k r f → state_of f ≡ 1 → length r ≤ limits.longest
    short true laid f m e = let z : state_of f ≡ 4 = ap state_of m in absurd (omega arith)
    short false laid (patched c) m e = m.0
    short false laid long m e = absurd (omega arith)
    short false laid uncovered m e = absurd (omega arith)
    short false laid rim m e = absurd m

    share : (k : Bool) (laid : List ℕ) (f : Fate) → Becomes grid corners laid k r f → length (lays r f) ≡ cond (eqb (state_of f) stated.patched) (3 * (length r - 2)) 0
    share true laid f m = subst (λ (x : Fate). length (lays r x) ≡ cond (eqb (state_of x) stated.patched) (3 * (length r - 2)) 0) (sym m) refl
    share false laid (patched c) m = patch_length r c m.1.among.covers
    share false laid long m = refl
    share false laid uncovered m = refl
    share false laid rim m = absurd m

    first_few : first_of loop < length corners
    first_few = ((one_loop corners sound).nothing_else _ (record { loop = l; loop_below = k; at = 0; at_below = let t = three_or_more corners sound l k in omega arith; is = refl })).0

    piece_few : piece_at corners l < limits.triangles
    unfolding piece_at piece_of
    piece_few =
        let c = sound.triples in
        let t : first_of loop / 3 < triangle_count corners = omega (arith, first_few) in
        omega (arith, many_few (λ s. eqb (smallest_of corners s) s) (smallest_of corners (first_of loop / 3)), smallest_low corners sound (first_of loop / 3) t)

    run_few : run_at grid corners l < 2 ^ 32
    unfolding run_at
    run_few = omega (arith, run_most grid corners loop h, ring_few, as_long)

    fits_here : Fits (show_of grid corners fates l)
    fits_here =
        let n : length (ring_list corners) ≡ length (loops corners) = length-map (loops corners) (ring corners) in
        let b = becomes_at grid corners [] rims (ring_list corners) fates course l (omega arith) in
        let m : Becomes grid corners b.0 (get_or rims l false) r (fate_at fates l) =
        subst (λ (x : List ℕ). Becomes grid corners b.0 (get_or rims l false) x (fate_at fates l)) (map_at (ring corners) [] [] (loops corners) l k) b.1 in
        record {
          as_long = as_long;
          three = let t = three_or_more corners sound l k in omega (arith, as_long);
          few = ring_few;
          patched = short (get_or rims l false) b.0 (fate_at fates l) m;
          share = share (get_or rims l false) b.0 (fate_at fates l) m;
          state_small = state_few (fate_at fates l);
          weight_small = weight_few (get_or rims l false) b.0 (fate_at fates l) m;
          first_small = omega (arith, first_few);
          piece_small = piece_few;
          run_small = run_few;
        }

  pub loops_fit : (l : ℕ) → l < length (loops_of grid corners fates) → Fits (get_or (loops_of grid corners fates) l nothing)
  loops_fit l k =
      let i : l < length (loops corners) = omega (arith, loops_many grid corners fates) in
      subst Fits
      (sym (map_at (show_of grid corners fates) 0 nothing (numbers_below (length (loops corners))) l (omega (arith, numbers_length (length (loops corners)))) ∙ ap (show_of grid corners fates) (numbers_at (length (loops corners)) l i)))
      (fits_here l i)
