-- Checks one after the other: a refusal decides, and where none is given the next check does. What is no refusal in the table is `Done`.
use Rattle.std.specs.Prelude.{Option, Some, None}
use mathlib.Core.Path.{◌≡◌, refl, sym, ap₂, ◌∙◌}
use mathlib.Core.Bool.{Bool, true, false, cond, true≢false, ◌&&◌}
use mathlib.Core.List.{List, [], ◌∷◌}
use Prim.Native.Nat.{ℕ, zero, suc, ◌+◌, ◌*◌, ◌/◌, ◌%◌, ◌≤◌, ◌<◌}
use native.Mathlib.Omega.{arith}
use lib.ListN.{length, get_or}
use borrow.Author.Tests.{eq-eqb, eqb-true, le-leb, leb-true, ltb-true, ltb-false}
use Rattle.base_answers.specs.Numbers.{refusing}
use Rattle.base_answers.specs.declared.Answer.{Answer}
use Rattle.base_answers.specs.Answers.{Words, Corners, Buffer, Unnamed, Twice, Repeated, NotFinite, TooFar, NoPitch}
use Rattle.base_answers.specs.declared.Answer.TheVariants.{Done}
use Rattle.base_types.specs.Counts.{threes}
use Rattle.base_types.specs.Pitches.{is_pitch}
use Rattle.base_limits.specs.Limits as limits
use Rattle.surface_rules.specs.Smallest.{least}
use Rattle.surface_rules.specs.Edges.{twice, repeats}
use Rattle.surface_rules.specs.Refusals.{short, unnamed, not_finite, too_far, then_check, refuse_at, pitch_refusal, count_refusal, buffer_refusal, corner_refusal, word_refusal, content_refusal}
use Rattle.surface_rules.proofs.Laws.Tests.{both_true}
use Rattle.surface_rules.proofs.Laws.Smallest.{least_never, least_sound}

-- ---- one after the other

pub then_refused : (a b : Answer) → refusing a ≡ true → then_check a b ≡ a
then_refused a b e = rw e

pub then_next : (a b : Answer) → refusing a ≡ false → then_check a b ≡ b
then_next a b e = rw e

-- an answer that is `Done` or a refusal
unfoldable pub Passing : Answer → Type 0
Passing a = refusing a ≡ false → a ≡ Done

passing_done : Passing Done
unfolding Passing
passing_done e = refl

refusal_passing : (a : Answer) → refusing a ≡ true → Passing a
unfolding Passing
refusal_passing a r e = absurd (true≢false (sym r ∙ e))

passing_at : (f : ℕ → Answer) (found : Option ℕ) → ((i : ℕ) → refusing (f i) ≡ true) → Passing (refuse_at f found)
passing_at f (Some i) r = refusal_passing (f i) (r i)
passing_at f None r = passing_done

passing_unless : (t : Bool) (a : Answer) → refusing a ≡ true → Passing (cond t Done a)
passing_unless true a r = passing_done
passing_unless false a r = refusal_passing a r

passing_then : (a b : Answer) → Passing a → Passing b → Passing (then_check a b)
passing_then a b p q = go (refusing a) refl
  where
    go : (t : Bool) → refusing a ≡ t → Passing (then_check a b)
    go true e = rw e (refusal_passing a e)
    go false e = rw e q

-- ---- so of each part of the table

pub pitch_passing : (pitch : ℕ) → Passing (pitch_refusal pitch)
unfolding pitch_refusal
pitch_passing pitch = passing_unless (is_pitch pitch) NoPitch refl

pub count_passing : (words corners : ℕ) → Passing (count_refusal words corners)
unfolding count_refusal
count_passing words corners =
    passing_then (cond (threes limits.words words) Done Words) (cond (threes limits.corners corners) Done Corners)
    (passing_unless (threes limits.words words) Words refl) (passing_unless (threes limits.corners corners) Corners refl)

pub buffer_passing : (lent needs : List ℕ) → Passing (buffer_refusal lent needs)
unfolding buffer_refusal
buffer_passing lent needs = passing_at (λ i. Buffer (i + 1)) (least (short lent needs) (length needs)) (λ i. refl)

-- two and three searches after each other
passing_two : (f g : ℕ → Answer) (a b : Option ℕ) → ((i : ℕ) → refusing (f i) ≡ true) → ((i : ℕ) → refusing (g i) ≡ true) → Passing (then_check (refuse_at f a) (refuse_at g b))
passing_two f g a b p q = passing_then (refuse_at f a) (refuse_at g b) (passing_at f a p) (passing_at g b q)

pub corner_passing : (corners : List ℕ) (points : ℕ) → Passing (corner_refusal corners points)
unfolding corner_refusal
corner_passing corners points =
    let n = least (unnamed corners points) (length corners) in
    let t = least (twice corners) (length corners / 3) in
    let r = least (repeats corners) (length corners) in
    passing_then (refuse_at Unnamed n) (then_check (refuse_at Twice t) (refuse_at Repeated r)) (passing_at Unnamed n (λ i. refl)) (passing_two Twice Repeated t r (λ i. refl) (λ i. refl))

pub word_passing : (pitch : ℕ) (words : List ℕ) → Passing (word_refusal pitch words)
unfolding word_refusal
word_passing pitch words = passing_two NotFinite TooFar (least (not_finite words) (length words)) (least (too_far pitch words) (length words)) (λ i. refl) (λ i. refl)

pub content_passing : (pitch : ℕ) (words corners lent needs : List ℕ) → Passing (content_refusal pitch words corners lent needs)
unfolding content_refusal
content_passing pitch words corners lent needs =
    passing_then (buffer_refusal lent needs) (then_check (corner_refusal corners (length words / 3)) (word_refusal pitch words)) (buffer_passing lent needs)
    (passing_then (corner_refusal corners (length words / 3)) (word_refusal pitch words) (corner_passing corners (length words / 3)) (word_passing pitch words))

pub done_of : (a : Answer) → Passing a → refusing a ≡ false → a ≡ Done
unfolding Passing
done_of a p e = p e

-- ---- what is known where a part of the table refuses nothing

pub threes_say : (most n : ℕ) → threes most n ≡ true → (n % 3 ≡ 0) × (n ≤ most)
threes_say most n e = let b = both_true _ _ e in (eqb-true (n % 3) 0 b.0, leb-true n most b.1)

pub whole_count : (most n : ℕ) → 3 * n ≤ most → threes most (3 * n) ≡ true
whole_count most n h = ap₂ (λ (s t : Bool). s && t) (eq-eqb ((3 * n) % 3) 0 (omega arith)) (le-leb (3 * n) most h)

-- counts that pass are multiples of three, and not too many
pub record Fitting (words corners : ℕ) : Type 0 where
  pub word_threes : words % 3 ≡ 0
  pub few_words : words ≤ limits.words
  pub corner_threes : corners % 3 ≡ 0
  pub few_corners : corners ≤ limits.corners

pub counts_fit : (words corners : ℕ) → count_refusal words corners ≡ Done → Fitting words corners
unfolding count_refusal
counts_fit words corners = go (threes limits.words words) refl (threes limits.corners corners) refl
  where
    go : (t : Bool) → threes limits.words words ≡ t → (u : Bool) → threes limits.corners corners ≡ u
        → then_check (cond t Done Words) (cond u Done Corners) ≡ Done → Fitting words corners
    go true e true f d =
        let a = threes_say limits.words words e in
        let b = threes_say limits.corners corners f in
        record { word_threes = a.0; few_words = a.1; corner_threes = b.0; few_corners = b.1 }
    go true e false f d = let z : ◌≡◌ {A = ℕ} 0 1 = cc in absurd (omega arith)
    go false e u f d = let z : ◌≡◌ {A = ℕ} 0 1 = cc in absurd (omega arith)

pub buffers_long : (lent needs : List ℕ) → buffer_refusal lent needs ≡ Done → (i : ℕ) → i < length needs → get_or needs i 0 ≤ get_or lent i 0
unfolding buffer_refusal short
buffers_long lent needs d i l = go (least (short lent needs) (length needs)) refl d
  where
    go : (f : Option ℕ) → least (short lent needs) (length needs) ≡ f → refuse_at (λ i. Buffer (i + 1)) f ≡ Done → get_or needs i 0 ≤ get_or lent i 0
    go (Some j) e d = let z : ◌≡◌ {A = ℕ} 0 1 = cc in absurd (omega arith)
    go None e d = ltb-false (get_or lent i 0) (get_or needs i 0) (least_never (short lent needs) (length needs) e i l)

-- and buffers that are, are not refused
pub buffers_enough : (lent needs : List ℕ) → ((i : ℕ) → i < length needs → get_or needs i 0 ≤ get_or lent i 0) → buffer_refusal lent needs ≡ Done
unfolding buffer_refusal short
buffers_enough lent needs h = go (least (short lent needs) (length needs)) refl
  where
    go : (f : Option ℕ) → least (short lent needs) (length needs) ≡ f → refuse_at (λ (i : ℕ). Buffer (i + 1)) f ≡ Done
    go None e = refl
    go (Some i) e =
        let s = least_sound (short lent needs) (length needs) i e in
        let l : get_or lent i 0 < get_or needs i 0 = ltb-true (get_or lent i 0) (get_or needs i 0) s.1 in
        absurd (omega (arith, h i s.0))

-- so of one buffer, of two and of three
pub one_long : (m n : ℕ) → n ≤ m → buffer_refusal (m ∷ []) (n ∷ []) ≡ Done
one_long m n h = buffers_enough (m ∷ []) (n ∷ []) at_each
  where
    at_each : (i : ℕ) → i < 1 → get_or (n ∷ []) i 0 ≤ get_or (m ∷ []) i 0
    at_each zero l = h
    at_each (suc i) l = absurd (omega arith)

pub two_long : (m n k l : ℕ) → k ≤ m → l ≤ n → buffer_refusal (m ∷ n ∷ []) (k ∷ l ∷ []) ≡ Done
two_long m n k l h g = buffers_enough (m ∷ n ∷ []) (k ∷ l ∷ []) at_each
  where
    at_each : (i : ℕ) → i < 2 → get_or (k ∷ l ∷ []) i 0 ≤ get_or (m ∷ n ∷ []) i 0
    at_each zero p = h
    at_each (suc zero) p = g
    at_each (suc (suc i)) p = absurd (omega arith)

pub three_long : (a b c k l m : ℕ) → k ≤ a → l ≤ b → m ≤ c → buffer_refusal (a ∷ b ∷ c ∷ []) (k ∷ l ∷ m ∷ []) ≡ Done
three_long a b c k l m f g h = buffers_enough (a ∷ b ∷ c ∷ []) (k ∷ l ∷ m ∷ []) at_each
  where
    at_each : (i : ℕ) → i < 3 → get_or (k ∷ l ∷ m ∷ []) i 0 ≤ get_or (a ∷ b ∷ c ∷ []) i 0
    at_each zero p = f
    at_each (suc zero) p = g
    at_each (suc (suc zero)) p = h
    at_each (suc (suc (suc i))) p = absurd (omega arith)

-- words that pass are finite and near
pub words_pass : (pitch : ℕ) (words : List ℕ) → word_refusal pitch words ≡ Done → (least (not_finite words) (length words) ≡ None) × (least (too_far pitch words) (length words) ≡ None)
unfolding word_refusal
words_pass pitch words = go (least (not_finite words) (length words)) refl (least (too_far pitch words) (length words)) refl
  where
    go : (f : Option ℕ) → least (not_finite words) (length words) ≡ f → (g : Option ℕ) → least (too_far pitch words) (length words) ≡ g
        → then_check (refuse_at NotFinite f) (refuse_at TooFar g) ≡ Done → (least (not_finite words) (length words) ≡ None) × (least (too_far pitch words) (length words) ≡ None)
    go None e None h d = (e, h)
    go None e (Some j) h d = let z : ◌≡◌ {A = ℕ} 0 1 = cc in absurd (omega arith)
    go (Some i) e g h d = let z : ◌≡◌ {A = ℕ} 0 1 = cc in absurd (omega arith)
