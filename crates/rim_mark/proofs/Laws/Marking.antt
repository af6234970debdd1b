-- From the pieces, the runs and the first loop of each piece to the rims.
use mathlib.Core.Path.{◌≡◌, refl, sym, ap, ap₂, ◌∙◌, subst}
use mathlib.Core.Bool.{Bool, true}
use mathlib.Core.Logic.{⊎_elim, inl, inr}
use mathlib.Core.List.{List, [], ◌∷◌, ◌++◌, map, map-append}
use Prim.Native.Nat.{ℕ, zero, suc, ◌/◌, ◌≤◌, ◌<◌}
use native.Mathlib.Omega.{arith}
use lib.IntN.{ℤ}
use lib.ListN.{length, get_or, set, length-map, get_or-map}
use lib.Seq.{get_or-set_same}
use borrow.Author.Tests.{eq-eqb, ne_eqb}
use Rattle.base_limits.specs.Limits as limits
use Rattle.surface_rules.specs.Edges.{Sound}
use Rattle.surface_rules.specs.Buffers.{over}
use Rattle.surface_rules.proofs.Laws.Over.{over_none, over_snoc}
use Rattle.surface_rules.proofs.Laws.Tests.{eq_or_not, not_so}
use Rattle.loop_rules.specs.Loops.{loops, ring}
use Rattle.loop_rules.proofs.Theorems.{three_or_more, one_loop, loops_third}
use Rattle.loop_cut.specs.Listing.{first_of}
use Rattle.fill_fates.specs.Course.{ring_list}
use Rattle.fill_scratch.specs.Workings.Rings.{rim_mark}
use Rattle.fill_scratch.proofs.Laws.Reading.{as_many}
use Rattle.rim_pieces.specs.Pieces.{triangle_count}
use Rattle.rim_pieces.specs.Computed.{numbers_below, piece_of, piece_numbers}
use Rattle.rim_pieces.specs.Workings.Flooding.{Cleared, Numbers}
use Rattle.rim_pieces.proofs.Laws.Uniting.{number_at}
use Rattle.rim_pieces.proofs.Theorems as pieces
use Rattle.rim_rules.specs.Rims.{loop_at, run_at, piece_at, is_rim, rim_list}
use Rattle.rim_rules.proofs.Theorems.{not_itself, none_rim, one_rim, alone_rim}
use Rattle.rim_mark.specs.Workings.Running.{ring_run, Measures, MeasuresAll}
use Rattle.rim_mark.specs.Workings.Ranking.{HouseRoom, Houses, RankRoom, Rivals, Ranks, told_mark, told_marks, TellRoom}
use Rattle.rim_mark.specs.Workings.Marking.{mark_of, Found, Marked, AllMarked}
use Rattle.rim_mark.proofs.Laws.Running.{run_at_lem}

-- what two functions say below n is the same list
listed_same : (f g : ℕ → ℕ) (n : ℕ) → ((l : ℕ) → l < n → f l ≡ g l) → map f (numbers_below n) ≡ map g (numbers_below n)
unfolding numbers_below
listed_same f g zero h = refl
listed_same f g (suc n) h =
    map-append f (numbers_below n) (n ∷ [])
    ∙ ap₂ (λ (x : List ℕ) (y : ℕ). x ++ (y ∷ [])) (listed_same f g n (λ l k. h l (omega arith))) (h n (omega arith))
    ∙ sym (map-append g (numbers_below n) (n ∷ []))

map_twice : (f : Bool → ℕ) (g : ℕ → Bool) (xs : List ℕ) → map f (map g xs) ≡ map (λ (x : ℕ). f (g x)) xs
map_twice f g [] = refl
map_twice f g (x ∷ xs) = ap (λ (y : List ℕ). f (g x) ∷ y) (map_twice f g xs)

module _ {grid : List ℤ} {corners rings lengths firsts turns : List ℕ} (found : Found grid corners rings lengths firsts turns) where
  sound : Sound corners
  sound = found.crossing.sound

  pub many_loops : length lengths ≡ length (loops corners)
  many_loops = as_many grid corners (ring_list corners) rings lengths found.listed ∙ length-map (loops corners) (ring corners)

  -- the marks as one list
  the_marks : (f : ℕ → ℕ) → ((l : ℕ) → l < length (loops corners) → f l ≡ mark_of (is_rim grid corners l)) → map f (numbers_below (length lengths)) ≡ map mark_of (rim_list grid corners)
  the_marks f h =
      ap (λ (n : ℕ). map f (numbers_below n)) many_loops
      ∙ listed_same f (λ l. mark_of (is_rim grid corners l)) (length (loops corners)) h
      ∙ sym (map_twice mark_of (is_rim grid corners) (numbers_below (length (loops corners))))

  -- ---- no loop, or one

  pub mark_none : (marks : List ℕ) → length lengths ≡ 0 → Marked grid corners marks marks
  unfolding numbers_below
  mark_none marks e =
      sym (over_none marks)
      ∙ ap (λ (n : ℕ). over (map mark_of (map (is_rim grid corners) (numbers_below n))) marks) (sym e ∙ many_loops)

  pub mark_in : {long : ℕ} → length (loops corners) ≤ long → length lengths ≡ 1 → 0 < long
  mark_in m e = omega (arith, many_loops)

  alone : length lengths ≡ 1 → is_rim grid corners 0 ≡ true
  alone e = alone_rim grid corners 0 (λ m h x. omega (arith, many_loops))

  pub mark_one : (marks : List ℕ) → length (loops corners) ≤ length marks → length lengths ≡ 1 → Marked grid corners marks (set marks 0 rim_mark)
  unfolding numbers_below
  mark_one marks m e =
      ap (λ (x : List ℕ). set x 0 rim_mark) (sym (over_none marks))
      ∙ over_snoc [] marks rim_mark 0 0 refl (mark_in m e)
      ∙ ap (λ (b : Bool). over (mark_of b ∷ []) marks) (sym (alone e))
      ∙ ap (λ (n : ℕ). over (map mark_of (map (is_rim grid corners) (numbers_below n))) marks) (sym e ∙ many_loops)

  -- ---- two or more

  first_in : (l : ℕ) → l < length lengths → first_of (loop_at corners l) / 3 < triangle_count corners
  first_in l h =
      let k : l < length (loops corners) = omega (arith, many_loops) in
      let t = three_or_more corners sound l k in
      let i : first_of (loop_at corners l) < length corners = ((one_loop corners sound).nothing_else _ (record { loop = l; loop_below = k; at = 0; at_below = omega arith; is = refl })).0 in
      let c = sound.triples in
      omega arith

  first_is : (l : ℕ) → l < length lengths → get_or firsts l 0 ≡ first_of (loop_at corners l)
  first_is l h = found.firsts_are l (omega (arith, many_loops))

  -- where there is room for as many runs as a surface has triangles, there is for one of each loop
  pub runs_long : {long : ℕ} → limits.triangles ≤ long → length lengths ≤ long
  runs_long most = let f = found.listed.few_loops in omega (arith, many_loops, length-map (loops corners) (ring corners))

  -- there are no more loops than triangles
  pub homes_long : {long : ℕ} → triangle_count corners ≤ long → length lengths ≤ long
  homes_long h = omega (arith, many_loops, loops_third corners sound)

  -- the run of a loop by its ring is its run
  measured_is : (l : ℕ) → l < length lengths → ring_run grid (get_or (ring_list corners) l []) ≡ run_at grid corners l
  measured_is l h = ap (ring_run grid) (get_or-map (ring corners) (loops corners) l []) ∙ run_at_lem grid corners sound l (omega (arith, many_loops))

  module _ {count : ℕ} {numbered : List ℕ} (given : Numbers corners count numbered) (numbered_long : triangle_count corners ≤ length numbered) where
    pub house_room : {homes : List ℕ} → length lengths ≤ length homes → HouseRoom firsts numbered (length lengths) homes
    house_room long = record {
      firsts_long = let f = found.firsts_long in omega (arith, many_loops);
      homes_long = long;
      there = λ l h. omega (arith, first_in l h, ap (λ (x : ℕ). x / 3) (first_is l h));
    }

    pub clear_room : {long_now : ℕ} → triangle_count corners ≤ long_now → count ≤ long_now
    clear_room long = let f = given.few in omega arith

    module _ {homes : List ℕ} (housed : Houses firsts numbered (length lengths) homes) (long_homes : length lengths ≤ length homes) where
      pub home_is : (l : ℕ) → l < length lengths → get_or homes l 0 ≡ piece_at corners l
      unfolding piece_at
      home_is l h =
          housed.told l h
          ∙ ap (λ (e : ℕ). get_or numbered (e / 3) 0) (first_is l h)
          ∙ pieces.numbered_so corners sound numbered given.numbered (first_of (loop_at corners l) / 3) (first_in l h)
          ∙ number_at corners sound (first_of (loop_at corners l) / 3) (first_in l h)

      home_below : (l : ℕ) → l < length lengths → get_or homes l 0 < count
      home_below l h = subst (λ (x : ℕ). x < count) (sym (housed.told l h ∙ ap (λ (e : ℕ). get_or numbered (e / 3) 0) (first_is l h))) (given.below (first_of (loop_at corners l) / 3) (first_in l h))

      -- room for what stands for each piece, for the rivals and for the first alike
      pub rank_room : {runs queue cleared : List ℕ} → Cleared queue count cleared → triangle_count corners ≤ length queue → length lengths ≤ length runs → RankRoom homes runs (length lengths) cleared
      rank_room {runs} {queue} {cleared} clear queue_long long =
          let c = clear.kept in
          let q : count ≤ length cleared = omega (arith, clear_room queue_long) in
          let t = found.listed.few_loops in
          record {
            few = omega (arith, many_loops, length-map (loops corners) (ring corners));
            homes_long = long_homes;
            runs_long = long;
            there = λ l h. omega (arith, home_below l h);
            clear = λ l h. clear.clear (get_or homes l 0) (home_below l h);
          }

      -- the run of a loop that is not alone in its piece stands there
      abbrev RunsAre : List ℕ → Type 0
      RunsAre runs = (l m : ℕ) → l < length lengths → m < length lengths → (l ≡ m → ⊥) → get_or homes l 0 ≡ get_or homes m 0 → get_or runs l 0 ≡ run_at grid corners l

      pub rivals_run : {flags runs : List ℕ} → Rivals homes (length lengths) flags → Measures grid rings lengths flags runs → RunsAre runs
      rivals_run rivals measured l m h i d e =
          measured.told corners (ring_list corners) found.listed l (omega (arith, many_loops, length-map (loops corners) (ring corners))) (rivals.flagged l m h i d e)
          ∙ measured_is l h

      module _ {runs : List ℕ} (run_is : RunsAre runs) {queue cleared best : List ℕ} (clear : Cleared queue count cleared) (queue_long : triangle_count corners ≤ length queue)
          (ranked : Ranks homes runs (length lengths) best) (kept_best : length best ≡ length cleared) where
        pub tell_room : {marks : List ℕ} → length (loops corners) ≤ length marks → TellRoom homes best (length lengths) marks
        tell_room marks_long =
            let c = clear.kept in
            let q : count ≤ length cleared = omega (arith, clear_room queue_long) in
            record {
              homes_long = long_homes;
              marks_long = omega (arith, many_loops);
              there = λ l h. omega (arith, home_below l h);
            }

        -- the first of its piece is its rim
        first_rim : (l : ℕ) → l < length lengths → is_rim grid corners (get_or best (get_or homes l 0) 0) ≡ true
        first_rim l h =
            let f = ranked.told l h in
            let b = get_or best (get_or homes l 0) 0 in
            let i : b < length lengths = f.here in
            none_rim grid corners b
            (λ m k x.
            ⊎_elim (λ (q : m ≡ b). not_itself grid corners b m q x)
            (λ (q : m ≡ b → ⊥).
            let j : m < length lengths = omega (arith, many_loops) in
            let e : get_or homes m 0 ≡ get_or homes b 0 = home_is m j ∙ x.same ∙ sym (home_is b i) in
            let u : get_or runs m 0 ≡ run_at grid corners m = run_is m b j i q e in
            let v : get_or runs b 0 ≡ run_at grid corners b = run_is b m i j (λ z. q (sym z)) (sym e) in
            f.first m j (record {
              same = e;
              more = ⊎_elim (λ (w : run_at grid corners b < run_at grid corners m). inl (omega (arith, u, v))) (λ w. let y = w.0 in inr (v ∙ y ∙ sym u, w.1)) x.more;
            }))
            (eq_or_not m b))

        told_is : (l : ℕ) → l < length (loops corners) → told_mark homes best l ≡ mark_of (is_rim grid corners l)
        told_is l k =
            let h : l < length lengths = omega (arith, many_loops) in
            let b = get_or best (get_or homes l 0) 0 in
            let f = ranked.told l h in
            ap mark_of
            (⊎_elim (λ (e : b ≡ l). eq-eqb b l e ∙ sym (ap (is_rim grid corners) (sym e) ∙ first_rim l h))
            (λ (e : b ≡ l → ⊥).
            ne_eqb b l e
            ∙ sym (not_so (is_rim grid corners l) (λ t. e (one_rim grid corners b l (let z = f.here in omega (arith, many_loops)) k (first_rim l h) t (sym (home_is b f.here) ∙ f.home ∙ home_is l h)))))
            (eq_or_not b l))

        pub marked : (marks marks' : List ℕ) → marks' ≡ over (told_marks homes best (length lengths)) marks → Marked grid corners marks marks'
        unfolding told_marks
        marked marks marks' e = e ∙ ap (λ (x : List ℕ). over x marks) (the_marks (told_mark homes best) told_is)

  -- ---- the pieces and runs of all

  pub all_none : (homes runs marks : List ℕ) → length lengths ≡ 0 → AllMarked grid corners marks homes runs marks
  all_none homes runs marks e = record { marked = mark_none marks e; pieces_are = λ l h. absurd (omega (arith, many_loops)); runs_are = λ l h. absurd (omega (arith, many_loops)) }

  module _ {runs : List ℕ} (measured : MeasuresAll grid rings lengths runs) where
    pub all_run : (l : ℕ) → l < length lengths → get_or runs l 0 ≡ run_at grid corners l
    all_run l h = measured.told corners (ring_list corners) found.listed l (omega (arith, many_loops, length-map (loops corners) (ring corners))) ∙ measured_is l h

    -- one loop, which begins on triangle 0
    pub all_one : (homes marks : List ℕ) → 0 < length homes → length (loops corners) ≤ length marks → length lengths ≡ 1 → get_or firsts 0 0 < 3
        → AllMarked grid corners marks (set homes 0 0) runs (set marks 0 rim_mark)
    unfolding piece_at
    all_one homes marks p m e f = record {
      marked = mark_one marks m e;
      pieces_are = λ l h.
          let z : l ≡ 0 = omega (arith, many_loops) in
          let t : first_of (loop_at corners 0) / 3 ≡ 0 = omega (arith, first_is 0 (omega arith)) in
          ap (λ (k : ℕ). get_or (set homes 0 0) k 0) z
          ∙ get_or-set_same homes 0 0 0 p
          ∙ sym (ap (piece_of corners) t ∙ pieces_first)
          ∙ ap (λ (k : ℕ). piece_of corners (first_of (loop_at corners k) / 3)) (sym z);
      runs_are = λ l h. all_run l (omega (arith, many_loops));
    }
      where
        -- no triangle comes before triangle 0, so no number does before its
        pieces_first : piece_of corners 0 ≡ 0
        pieces_first =
            let some : 0 < triangle_count corners = let z = first_in 0 (omega arith) in omega arith in
            let here : get_or (piece_numbers corners) 0 0 ≡ piece_of corners 0 = number_at corners sound 0 some in
            let low : 0 < get_or (piece_numbers corners) 0 0 → ⊥ = λ q. let w = (pieces.numbered corners sound).in_order 0 0 some q in let v = w.1 in absurd (omega arith) in
            omega arith
