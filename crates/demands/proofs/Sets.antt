-- Demand 3 is kept by every outcome of the checker and of the patcher.
use mathlib.Core.Path.{◌≡◌, refl, sym, ap, ap₂, ◌∙◌, subst}
use mathlib.Core.Bool.{Bool, true, false, true≢false}
use mathlib.Core.List.{List, [], ◌∷◌, flatten}
use Prim.Native.Nat.{ℕ, suc, ◌*◌, ◌/◌, ◌≤◌, ◌<◌}
use native.Mathlib.Omega.{arith}
use borrow.Author.Tests.{eqb-true, eqb-false}
use lib.Dec.{eqb}
use lib.IntN.{ℤ}
use lib.ListN.{length, get_or, take, drop, length-map}
use Rattle.base_answers.specs.Numbers.{refusing, number_of}
use Rattle.base_answers.specs.declared.Answer.{Answer}
use Rattle.base_answers.specs.Answers.{States}
use Rattle.base_answers.specs.declared.Answer.TheVariants.{Done}
use Rattle.surface_rules.specs.Edges.{Sound}
use Rattle.surface_rules.specs.Refusals.{refusal}
use Rattle.surface_rules.proofs.Laws.Lists.{map_at}
use Rattle.surface_rules.proofs.Laws.Over.{start_of}
use Rattle.surface_rules.proofs.Laws.Sound.{Passed, passed, passes, passed_sound}
use Rattle.surface_rules.proofs.Laws.Thens.{buffers_long}
use Rattle.loop_rules.specs.Loops.{loops, ring}
use Rattle.loop_rules.proofs.Theorems.{vertices_in_all, vertices_few, loops_third}
use Rattle.rim_pieces.specs.Computed.{numbers_below}
use Rattle.rim_pieces.proofs.Laws.Uniting.{numbers_length, numbers_at}
use Rattle.survey_grid.specs.Grid.{grid_of}
use Rattle.survey_rules.specs.Outcome as survey
use Rattle.rim_rules.specs.Rims.{is_rim, rim_list}
use Rattle.fill_fates.specs.Fates.{Fate, rim, state_of}
use Rattle.fill_fates.specs.Course.{Course, ring_list, states_of, laid_by}
use Rattle.fill_fates.proofs.Laws.Grows.{course_length}
use Rattle.fill_fates.proofs.Laws.Lengths.{laid_length, states_length}
use Rattle.judge_rules.specs.Faults.{patched, long, open_left, RightIf}
use Rattle.judge_rules.specs.Verdicts.{Verdict, AllRight}
use Rattle.judge_rules.proofs.Theorems.{verdict_once}
use Rattle.judge_rules.proofs.Laws.Passes.{passes_right, right_passes}
use Rattle.judge_rules.proofs.Laws.Patched.{course_right}
use Rattle.judge_rules.proofs.Laws.Filled.{right_filled, parts_all, part_empty, empty_part}
use Rattle.patch_records.specs.declared.Record.{Record}
use Rattle.patch_records.specs.Records.{record_of, records_of, record_in}
use Rattle.patch_records.proofs.Laws.Reading.{record_found}
use Rattle.patch_surface.specs.Outcome as patcher
use Rattle.judge_surface.specs.Outcome.{JudgesCounted, JudgesIf, Judges}
use Rattle.judge_surface.proofs.Laws.Apart.{rings_apart}
use Rattle.demands.specs.Sets.{begins, Passable, Closes, CheckerDemand, states_left, set_left, PatcherDemand}
use Rattle.demands.proofs.Closing.{closing_demand}
use Rattle.demands.proofs.Passable.{right_each, right_none_left, each_right}

-- lists of numbers that are as long and have the same at each place are equal
items_same : (k l : List ℕ) → length k ≡ length l → ((i : ℕ) → i < length k → get_or k i 0 ≡ get_or l i 0) → k ≡ l
items_same [] [] e h = refl
items_same [] (y ∷ l) e h = absurd (omega arith)
items_same (x ∷ k) [] e h = absurd (omega arith)
items_same (x ∷ k) (y ∷ l) e h = ap₂ (λ (z : ℕ) (m : List ℕ). z ∷ m) (h 0 (omega arith)) (items_same k l (omega arith) (λ i b. h (suc i) (omega arith)))

-- ---- the rings of a sound surface

module _ (corners : List ℕ) (sound : Sound corners) where
  many : length (ring_list corners) ≡ length (loops corners)
  many = length-map (loops corners) (ring corners)

  -- ---- a set whose loops are all right

  module _ (grid : List ℤ) (states set : List ℕ) where
    rims_are : length (rim_list grid corners) ≡ length (loops corners)
    rims_are = length-map (numbers_below (length (loops corners))) (is_rim grid corners) ∙ numbers_length (length (loops corners))

    rim_at : (l : ℕ) → l < length (loops corners) → get_or (rim_list grid corners) l false ≡ is_rim grid corners l
    rim_at l h =
        map_at (is_rim grid corners) 0 false (numbers_below (length (loops corners))) l (omega (arith, numbers_length (length (loops corners))))
        ∙ ap (is_rim grid corners) (numbers_at (length (loops corners)) l h)

    abbrev Loop : ℕ → Bool → Type 0
    Loop l k = RightIf grid corners (take (begins (ring_list corners) states l) set) k (get_or (ring_list corners) l []) (get_or states l 0) (drop (begins (ring_list corners) states l) set)

    -- loop l is right
    right_loop : AllRight grid corners [] (rim_list grid corners) (ring_list corners) states set → (l : ℕ) → l < length (loops corners) → Loop l (is_rim grid corners l)
    right_loop h l b = subst (Loop l) (rim_at l b) (right_each grid corners [] (rim_list grid corners) (ring_list corners) states set h l (omega (arith, many)))

    passable : AllRight grid corners [] (rim_list grid corners) (ring_list corners) states set → length states ≡ length (loops corners) → Passable grid corners states set
    passable h d = record {
      declared = d;
      none_left = subst (λ (n : ℕ). length set ≡ begins (ring_list corners) states n) many (right_none_left grid corners [] (rim_list grid corners) (ring_list corners) states set h);
      each = right_loop h;
    }

    all_right : Passable grid corners states set → AllRight grid corners [] (rim_list grid corners) (ring_list corners) states set
    all_right p =
        each_right grid corners [] (rim_list grid corners) (ring_list corners) states set (rims_are ∙ sym many) (p.declared ∙ sym many)
        (subst (λ (n : ℕ). length set ≡ begins (ring_list corners) states n) (sym many) p.none_left)
        (λ l b. subst (Loop l) (sym (rim_at l (omega (arith, many)))) (p.each l (omega (arith, many))))

    -- a rim's state is 4, and that of no other loop that is right
    rim_state : (l : ℕ) (k : Bool) → Loop l k → k ≡ true → get_or states l 0 ≡ 4
    rim_state l true w e = w
    rim_state l false w e = absurd (true≢false (sym e))

    state_rim : (l : ℕ) (k : Bool) → Loop l k → get_or states l 0 ≡ 4 → k ≡ true
    state_rim l true w e = refl
    state_rim l false (patched f s c t a n) e = absurd (omega arith)
    state_rim l false (long f s) e = absurd (omega arith)
    state_rim l false (open_left f s n) e = absurd (omega arith)

    closes : AllRight grid corners [] (rim_list grid corners) (ring_list corners) states set → Closes grid corners states set
    closes h = record {
      whole = parts_all grid corners [] (rim_list grid corners) (ring_list corners) states set h;
      closing = closing_demand corners _ sound (right_filled grid corners [] (rim_list grid corners) (ring_list corners) states set h);
      open_or_long = λ l b. part_empty grid corners [] (rim_list grid corners) (ring_list corners) states set h (rings_apart corners sound) l (omega (arith, many));
      takes_nothing = empty_part (ring_list corners) states set;
      rims_declared = λ l b. rim_state l (is_rim grid corners l) (right_loop h l b);
      only_rims = λ l b. state_rim l (is_rim grid corners l) (right_loop h l b);
    }

-- ---- the checker

module _ (pitch : ℕ) (words corners states set : List ℕ) (b : survey.Buffers) (o : survey.Outcome) where
  abbrev table : Answer
  table = refusal pitch words corners (survey.lent b) (survey.needs words corners)

  refused_demand : refusing table ≡ true → o ≡ survey.refused table b → CheckerDemand pitch words corners states set b o
  refused_demand r e = record {
    passed_only = λ d. absurd (true≢false (sym r ∙ ap refusing (sym (ap (λ (x : survey.Outcome). x.answer) e) ∙ d)));
    passed_always = λ f p. absurd (true≢false (sym r ∙ f));
    closes = λ d. absurd (true≢false (sym r ∙ ap refusing (sym (ap (λ (x : survey.Outcome). x.answer) e) ∙ d)));
  }

  module _ (r : refusing table ≡ false) where
    sound : Sound corners
    sound = passed_sound pitch words corners (survey.lent b) (survey.needs words corners) (passed pitch words corners (survey.lent b) (survey.needs words corners) r)

    counted_demand : (t : Bool) → eqb (length (loops corners)) (length states) ≡ t → JudgesCounted t pitch words corners states set b o → CheckerDemand pitch words corners states set b o
    counted_demand false n e =
        let no : (d : o.answer ≡ Done) → ⊥ = λ d. let z : number_of (States (length (loops corners))) ≡ number_of Done = ap number_of (sym (ap (λ (x : survey.Outcome). x.answer) e) ∙ d) in omega arith in
        record {
          passed_only = λ d. absurd (no d);
          passed_always = λ f p. absurd (eqb-false (length (loops corners)) (length states) n (sym p.declared));
          closes = λ d. absurd (no d);
        }
    counted_demand true n (a, v, e) =
        let said : o.answer ≡ a = ap (λ (x : survey.Outcome). x.answer) e in
        let right : o.answer ≡ Done → AllRight (grid_of pitch words) corners [] (rim_list (grid_of pitch words) corners) (ring_list corners) states set = λ d.
        passes_right (grid_of pitch words) corners [] 0 0 (rim_list (grid_of pitch words) corners) (ring_list corners) states set (subst (Verdict (grid_of pitch words) corners [] 0 0 (rim_list (grid_of pitch words) corners) (ring_list corners) states set) (sym said ∙ d) v) in
        record {
          passed_only = λ d. passable corners sound (grid_of pitch words) states set (right d) (sym (eqb-true (length (loops corners)) (length states) n));
          passed_always = λ f p.
              said ∙ verdict_once (grid_of pitch words) corners [] 0 0 (rim_list (grid_of pitch words) corners) (ring_list corners) states set a Done (rings_apart corners sound) v
              (right_passes (grid_of pitch words) corners [] 0 0 (rim_list (grid_of pitch words) corners) (ring_list corners) states set (all_right corners sound (grid_of pitch words) states set p));
          closes = λ d. closes corners sound (grid_of pitch words) states set (right d);
        }

  pub checker_demand : Judges pitch words corners states set b o → CheckerDemand pitch words corners states set b o
  checker_demand = go (refusing table) refl
    where
      go : (t : Bool) → refusing table ≡ t → JudgesIf t table pitch words corners states set b o → CheckerDemand pitch words corners states set b o
      go true r j = refused_demand r j
      go false r j = counted_demand r (eqb (length (loops corners)) (length states)) refl j

-- ---- the patcher

module _ (pitch : ℕ) (words corners : List ℕ) (b : patcher.Buffers) (o : patcher.Outcome) where
  abbrev pub refuses : Answer
  refuses = refusal pitch words corners (patcher.lent b) (patcher.needs words corners)

  module _ (r : refusing refuses ≡ false) (fates : List Fate) (course : Course (grid_of pitch words) corners [] (rim_list (grid_of pitch words) corners) (ring_list corners) fates)
      (e : o ≡ patcher.done pitch words corners fates b) where
    table_passed : Passed pitch words corners (patcher.lent b) (patcher.needs words corners)
    table_passed = passed pitch words corners (patcher.lent b) (patcher.needs words corners) r

    pub done_sound : Sound corners
    done_sound = passed_sound pitch words corners (patcher.lent b) (patcher.needs words corners) table_passed

    -- the record of each loop stands where records are left
    pub record_left : (l : ℕ) → l < length (loops corners) → record_in o.left.records l ≡ record_of (grid_of pitch words) corners fates l
    unfolding records_of
    record_left l h =
        let room : 7 * (length corners / 3) ≤ length b.records = buffers_long (patcher.lent b) (patcher.needs words corners) table_passed.buffers 2 (omega arith) in
        ap (λ (x : patcher.Outcome). record_in x.left.records l) e
        ∙ record_found (record_of (grid_of pitch words) corners fates) b.records (length (loops corners)) l h (omega (arith, loops_third corners done_sound))

    fates_many : length fates ≡ length (loops corners)
    fates_many = course_length (grid_of pitch words) corners [] (rim_list (grid_of pitch words) corners) (ring_list corners) fates course ∙ many corners done_sound

    loops_are : o.loops ≡ length (loops corners)
    loops_are = ap (λ (x : patcher.Outcome). x.loops) e

    -- the state that is left for loop l is that of its record
    pub state_left : (l : ℕ) → l < o.loops → get_or (states_left o) l 0 ≡ (record_in o.left.records l).state
    state_left l h =
        map_at (λ (k : ℕ). (record_in o.left.records k).state) 0 0 (numbers_below o.loops) l (omega (arith, numbers_length o.loops))
        ∙ ap (λ (k : ℕ). (record_in o.left.records k).state) (numbers_at o.loops l h)

    states_many : length (states_left o) ≡ o.loops
    states_many = length-map (numbers_below o.loops) (λ (l : ℕ). (record_in o.left.records l).state) ∙ numbers_length o.loops

    states_are : states_left o ≡ states_of fates
    states_are =
        items_same (states_left o) (states_of fates) (states_many ∙ loops_are ∙ sym (states_length fates ∙ fates_many))
        (λ l h.
        state_left l (omega (arith, states_many))
        ∙ ap (λ (x : Record). x.state) (record_left l (omega (arith, states_many, loops_are)))
        ∙ sym (map_at state_of rim 0 fates l (omega (arith, states_many, loops_are, fates_many))))

    set_is : set_left o ≡ laid_by (ring_list corners) fates
    set_is = ap set_left e ∙ start_of (laid_by (ring_list corners) fates) b.patches (length (laid_by (ring_list corners) fates)) refl

    all_laid : AllRight (grid_of pitch words) corners [] (rim_list (grid_of pitch words) corners) (ring_list corners) (states_left o) (set_left o)
    all_laid = subst (λ (x : List ℕ). AllRight (grid_of pitch words) corners [] (rim_list (grid_of pitch words) corners) (ring_list corners) x (set_left o)) (sym states_are)
        (subst (λ (x : List ℕ). AllRight (grid_of pitch words) corners [] (rim_list (grid_of pitch words) corners) (ring_list corners) (states_of fates) x) (sym set_is) (course_right (grid_of pitch words) corners [] (rim_list (grid_of pitch words) corners) (ring_list corners) fates course))

    fit : o.corners ≤ 3 * length corners
    fit =
        let a : o.corners ≡ length (laid_by (ring_list corners) fates) = ap (λ (x : patcher.Outcome). x.corners) e in
        let c : length (laid_by (ring_list corners) fates) ≤ 3 * length (flatten (ring_list corners)) = laid_length (grid_of pitch words) corners [] (rim_list (grid_of pitch words) corners) (ring_list corners) fates course in
        omega (arith, vertices_in_all corners done_sound, vertices_few corners done_sound)

    pub done_demand : PatcherDemand pitch words corners o
    done_demand = record {
      fits = fit;
      passes = λ c p l j.
          (checker_demand pitch words corners (states_left o) (set_left o) c p j).passed_always
          (passes pitch words corners (survey.lent c) (survey.needs words corners) (record { pitched = table_passed.pitched; counts = table_passed.counts; buffers = l; corner = table_passed.corner; word = table_passed.word }))
          (passable corners done_sound (grid_of pitch words) (states_left o) (set_left o) all_laid (states_many ∙ loops_are));
      closes = closes corners done_sound (grid_of pitch words) (states_left o) (set_left o) all_laid;
    }

  -- where the outcome is no refusal the table gave none, and the course was run
  pub patch_done : patcher.Patches pitch words corners b o → refusing o.answer ≡ false → (refusing refuses ≡ false) × patcher.PatchesIf false refuses pitch words corners b o
  patch_done h n = go (refusing refuses) refl h
    where
      go : (t : Bool) → refusing refuses ≡ t → patcher.PatchesIf t refuses pitch words corners b o → (refusing refuses ≡ false) × patcher.PatchesIf false refuses pitch words corners b o
      go true r e = absurd (true≢false (sym r ∙ ap refusing (sym (ap (λ (x : patcher.Outcome). x.answer) e)) ∙ n))
      go false r d = (r, d)

  pub patcher_demand : patcher.Patches pitch words corners b o → refusing o.answer ≡ false → PatcherDemand pitch words corners o
  patcher_demand h n = let (r, (fates, course, e)) = patch_done h n in done_demand r fates course e
