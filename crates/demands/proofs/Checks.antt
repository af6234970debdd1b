-- What a list of checks gives, and that the refusals of the entry points are what the checks of the table give.
use Rattle.std.specs.Prelude.{Option, Some, None}
use mathlib.Core.Path.{◌≡◌, refl, sym, ap, ap₂, ◌∙◌, subst}
use mathlib.Core.Bool.{Bool, true, false, not, cond, true≢false}
use mathlib.Core.Logic.{inl, inr}
use mathlib.Core.List.{List, [], ◌∷◌, ◌++◌}
use Prim.Native.Nat.{ℕ}
use lib.ListN.{length}
use Rattle.base_answers.specs.Numbers.{refusing}
use Rattle.base_answers.specs.declared.Answer.{Answer}
use Rattle.base_answers.specs.Answers.{Words, Corners, TooFar, NoPitch}
use Rattle.base_answers.specs.declared.Answer.TheVariants.{Done}
use Rattle.base_types.specs.Counts.{threes}
use Rattle.base_types.specs.Pitches.{is_pitch}
use Rattle.base_limits.specs.Limits as limits
use Rattle.surface_rules.specs.Smallest.{least}
use Rattle.surface_rules.specs.Refusals.{too_far, refuse_at, then_check, pitch_refusal, count_refusal, buffer_refusal, corner_refusal, word_refusal, content_refusal, refusal}
use Rattle.surface_rules.proofs.Laws.Smallest.{least_at, least_never, least_sound, least_first, never_least}
use Rattle.surface_rules.proofs.Laws.Thens.{then_refused, then_next}
use Rattle.demands.specs.Answers.{Check, Due, once, other_pitch, word_count, corner_count, short_buffer, unnamed_corner, point_twice, edge_repeated, no_number, far_away, table, Answered}

-- ---- what a list of checks gives, as the entry points compute it

abbrev pub answer_of : List Check → Answer
answer_of [] = Done
answer_of (c ∷ after) = then_check (refuse_at c.gives (least c.finds c.places)) (answer_of after)

-- each gives refusals alone
abbrev pub Refuses : List Check → Type 0
Refuses [] = Unit {0}
Refuses (c ∷ after) = ((i : ℕ) → refusing (c.gives i) ≡ true) × Refuses after

pub due_is : (checks : List Check) → Refuses checks → (a : Answer) → Due checks a → answer_of checks ≡ a
due_is [] r a d = absurd d
due_is (c ∷ after) r a (inl f) =
    ap (λ (g : Option ℕ). then_check (refuse_at c.gives g) (answer_of after)) (least_at c.finds f.at c.places (never_least c.finds f.at f.smallest) f.finds_it f.there)
    ∙ then_refused (c.gives f.at) (answer_of after) (r.0 f.at)
    ∙ sym f.gives_it
due_is (c ∷ after) r a (inr d) = ap (λ (g : Option ℕ). then_check (refuse_at c.gives g) (answer_of after)) (never_least c.finds c.places d.0) ∙ due_is after r.1 a d.1

pub due_refuses : (checks : List Check) → Refuses checks → (a : Answer) → Due checks a → refusing a ≡ true
due_refuses [] r a d = absurd d
due_refuses (c ∷ after) r a (inl f) = ap refusing f.gives_it ∙ r.0 f.at
due_refuses (c ∷ after) r a (inr d) = due_refuses after r.1 a d.1

pub is_due : (checks : List Check) → Refuses checks → refusing (answer_of checks) ≡ true → Due checks (answer_of checks)
is_due [] r h = absurd (true≢false (sym h))
is_due (c ∷ after) r h = go (least c.finds c.places) refl (is_due after r.1)
  where
    go : (f : Option ℕ) → least c.finds c.places ≡ f → (refusing (answer_of after) ≡ true → Due after (answer_of after)) → Due (c ∷ after) (answer_of (c ∷ after))
    go (Some i) e next = inl (record {
      at = i;
      there = (least_sound c.finds c.places i e).0;
      finds_it = (least_sound c.finds c.places i e).1;
      smallest = least_first c.finds c.places i e;
      gives_it = ap (λ (g : Option ℕ). then_check (refuse_at c.gives g) (answer_of after)) e ∙ then_refused (c.gives i) (answer_of after) (r.0 i);
    })
    go None e next =
        let given : answer_of (c ∷ after) ≡ answer_of after = ap (λ (g : Option ℕ). then_check (refuse_at c.gives g) (answer_of after)) e in
        inr (least_never c.finds c.places e, subst (Due after) (sym given) (next (sym (ap refusing given) ∙ h)))

-- an outcome that is the refusal given, or no refusal
pub answered : {O : Type 0} (checks : List Check) → Refuses checks → (refused : Answer → O) (answer : O → Answer) (o : O) → ((a : Answer) → answer (refused a) ≡ a)
    → (refusing (answer_of checks) ≡ true → o ≡ refused (answer_of checks)) → (refusing (answer_of checks) ≡ false → refusing (answer o) ≡ false)
    → Answered checks refused answer o
answered {O} checks r refused answer o same if_refused if_not = record {
  given = λ a d.
      let e : answer_of checks ≡ a = due_is checks r a d in
      if_refused (ap refusing e ∙ due_refuses checks r a d) ∙ ap refused e;
  only = λ h. go (refusing (answer_of checks)) refl h;
}
  where
    go : (t : Bool) → refusing (answer_of checks) ≡ t → refusing (answer o) ≡ true → Due checks (answer o)
    go true e h = subst (Due checks) (sym (ap answer (if_refused e) ∙ same (answer_of checks))) (is_due checks r e)
    go false e h = absurd (true≢false (sym h ∙ if_not e))

-- ---- the refusals of an entry point are what its checks give

pub then_then : (a b c : Answer) → then_check (then_check a b) c ≡ then_check a (then_check b c)
then_then a b c = go (refusing a) refl
  where
    go : (t : Bool) → refusing a ≡ t → then_check (then_check a b) c ≡ then_check a (then_check b c)
    go true e = ap (λ (x : Answer). then_check x c) (then_refused a b e) ∙ then_refused a c e ∙ sym (then_refused a (then_check b c) e)
    go false e = ap (λ (x : Answer). then_check x c) (then_next a b e) ∙ sym (then_next a (then_check b c) e)

pub last_of : (gives : ℕ → Answer) → ((i : ℕ) → refusing (gives i) ≡ true) → (f : Option ℕ) → refuse_at gives f ≡ then_check (refuse_at gives f) Done
last_of gives r (Some i) = sym (then_refused (gives i) Done (r i))
last_of gives r None = refl

pub once_is : (t : Bool) (a : Answer) → cond t Done a ≡ refuse_at (λ i. a) (least (λ i. not t) 1)
unfolding least
once_is true a = refl
once_is false a = refl

-- what one check gives
abbrev pub answer_by : Check → Answer
answer_by c = refuse_at c.gives (least c.finds c.places)

-- 1 and 2 before the rest
pub counts_are : (words corners : List ℕ) (b : Answer) → then_check (count_refusal (length words) (length corners)) b ≡ then_check (answer_by (word_count words)) (then_check (answer_by (corner_count corners)) b)
unfolding count_refusal
counts_are words corners b =
    let w : Bool = threes limits.words (length words) in
    let c : Bool = threes limits.corners (length corners) in
    then_then (cond w Done Words) (cond c Done Corners) b ∙ ap₂ (λ (x y : Answer). then_check x (then_check y b)) (once_is w Words) (once_is c Corners)

-- 17 before the rest
pub pitch_is : (pitch : ℕ) (b : Answer) → then_check (pitch_refusal pitch) b ≡ then_check (answer_by (other_pitch pitch)) b
unfolding pitch_refusal
pitch_is pitch b = ap (λ (x : Answer). then_check x b) (once_is (is_pitch pitch) NoPitch)

pub table_is : (pitch : ℕ) (words corners lent needs : List ℕ) → refusal pitch words corners lent needs ≡ answer_of (table pitch words corners lent needs)
unfolding refusal content_refusal buffer_refusal corner_refusal word_refusal
table_is pitch words corners lent needs =
    let u : Answer = answer_by (unnamed_corner words corners) in
    let t : Answer = answer_by (point_twice corners) in
    let r : Answer = answer_by (edge_repeated corners) in
    let n : Answer = answer_by (no_number words) in
    let f : Answer = answer_by (far_away pitch words) in
    pitch_is pitch (then_check (count_refusal (length words) (length corners)) (content_refusal pitch words corners lent needs))
    ∙ ap (then_check (answer_by (other_pitch pitch)))
    (counts_are words corners (content_refusal pitch words corners lent needs)
    ∙ ap (λ (x : Answer). then_check (answer_by (word_count words)) (then_check (answer_by (corner_count corners)) (then_check (answer_by (short_buffer lent needs)) x)))
    (then_then u (then_check t r) (then_check n f) ∙ ap (then_check u) (then_then t r (then_check n f) ∙ ap (λ (x : Answer). then_check t (then_check r (then_check n x))) (last_of TooFar (λ i. refl) (least (too_far pitch words) (length words))))))

pub table_refuses : (pitch : ℕ) (words corners lent needs : List ℕ) → Refuses (table pitch words corners lent needs)
table_refuses pitch words corners lent needs = (λ i. refl, (λ i. refl, (λ i. refl, (λ i. refl, (λ i. refl, (λ i. refl, (λ i. refl, (λ i. refl, (λ i. refl, tt)))))))))

-- what is asked after other checks
pub append_is : (k l : List Check) → answer_of (k ++ l) ≡ then_check (answer_of k) (answer_of l)
append_is [] l = refl
append_is (c ∷ k) l = ap (then_check (answer_by c)) (append_is k l) ∙ sym (then_then (answer_by c) (answer_of k) (answer_of l))

pub append_refuses : (k l : List Check) → Refuses k → Refuses l → Refuses (k ++ l)
append_refuses [] l r s = s
append_refuses (c ∷ k) l r s = (r.0, append_refuses k l r.1 s)

-- an outcome that is chosen by what is refused
pub chosen : {O : Type 0} (checks : List Check) → Refuses checks → (a : Answer) → a ≡ answer_of checks → (refused : Answer → O) (answer : O → Answer) (d o : O)
    → ((x : Answer) → answer (refused x) ≡ x) → refusing (answer d) ≡ false → o ≡ cond (refusing a) (refused a) d → Answered checks refused answer o
chosen {O} checks r a e refused answer d o same n p =
    answered checks r refused answer o same
    (λ h. p ∙ ap (λ (t : Bool). cond t (refused a) d) (ap refusing e ∙ h) ∙ ap refused e)
    (λ h. ap (λ (x : O). refusing (answer x)) (p ∙ ap (λ (t : Bool). cond t (refused a) d) (ap refusing e ∙ h)) ∙ n)

-- an outcome by checks that give a, and by one test after them that gives b
module _ (checks : List Check) (r : Refuses checks) (a : Answer) (is : a ≡ answer_of checks) (t : Bool) (b : Answer) (rb : refusing b ≡ true) where
  abbrev both : Answer
  both = then_check a (cond t Done b)

  both_is : both ≡ answer_of (checks ++ (once (not t) b ∷ []))
  both_is = ap₂ then_check is (once_is t b ∙ last_of (λ i. b) (λ i. rb) (least (λ i. not t) 1)) ∙ sym (append_is checks (once (not t) b ∷ []))

  pub then_once : {O : Type 0} (refused : Answer → O) (answer : O → Answer) (o : O) → ((x : Answer) → answer (refused x) ≡ x) → (refusing a ≡ true → o ≡ refused a)
      → (refusing a ≡ false → t ≡ false → o ≡ refused b) → (refusing a ≡ false → t ≡ true → refusing (answer o) ≡ false) → Answered (checks ++ (once (not t) b ∷ [])) refused answer o
  then_once {O} refused answer o same first second neither =
      let so = by_cases (refusing a) refl t refl in
      answered (checks ++ (once (not t) b ∷ [])) (append_refuses checks (once (not t) b ∷ []) r (λ i. rb, tt)) refused answer o same
      (λ h. so.0 (ap refusing both_is ∙ h) ∙ ap refused both_is) (λ h. so.1 (ap refusing both_is ∙ h))
    where
      by_cases : (x : Bool) → refusing a ≡ x → (y : Bool) → t ≡ y → (refusing both ≡ true → o ≡ refused both) × (refusing both ≡ false → refusing (answer o) ≡ false)
      by_cases true e y n =
          let k : both ≡ a = then_refused a (cond t Done b) e in
          (λ h. first e ∙ ap refused (sym k), λ h. absurd (true≢false (sym e ∙ ap refusing (sym k) ∙ h)))
      by_cases false e false n =
          let k : both ≡ b = then_next a (cond t Done b) e ∙ ap (λ (z : Bool). cond z Done b) n in
          (λ h. second e n ∙ ap refused (sym k), λ h. absurd (true≢false (sym rb ∙ ap refusing (sym k) ∙ h)))
      by_cases false e true n =
          let k : both ≡ Done = then_next a (cond t Done b) e ∙ ap (λ (z : Bool). cond z Done b) n in
          (λ h. absurd (true≢false (sym h ∙ ap refusing k)), λ h. neither e n)
