-- A set of corners passed three by three.
use Prim.Native.Nat.{ℕ, zero, suc, ◌+◌, ◌-◌, ◌*◌, ◌<◌, ◌≤◌}
use mathlib.Core.Path.{◌≡◌, refl, sym, ap, ◌∙◌, subst}
use mathlib.Core.Logic.{inl, inr}
use mathlib.Core.List.{List, [], ◌∷◌, ◌++◌, append_assoc, append-nil}
use native.Mathlib.Omega.{arith}
use lib.ListN.{length, get_or, drop, drop_of_length-le}
use lib.Seq.{drop-cons}
use Rattle.surface_rules.specs.Threes.{threes}
use Rattle.cover_rules.specs.Covers.{Triangle, on}
use Rattle.cover_rules.specs.Workings.Matching.{In}
use Rattle.cover_rules.proofs.Laws.Listed.{in_right}
use Rattle.cover_sum.specs.Workings.Triples.{Threes, triple_at}

-- the corners before q are those of the triangles in front
pub record Passed (corners : List ℕ) (q : ℕ) (front : List Triangle) : Type 0 where
  pub left : ℕ
  pub rest : q + 3 * left ≡ length corners
  pub whole : threes corners ≡ front ++ threes (drop q corners)

pub passed_none : {corners : List ℕ} → Threes corners → Passed corners 0 []
passed_none h = record { left = h.triangles; rest = omega (arith, h.threes); whole = refl }

at_next : (l : List ℕ) (j k : ℕ) → k ≡ suc j → j < length l → drop j l ≡ get_or l j 0 ∷ drop k l
at_next l j k e h = rw e (drop-cons l j 0 h)

three : (l : List ℕ) (q : ℕ) → q + 3 ≤ length l → threes (drop q l) ≡ triple_at l q ∷ threes (drop (q + 3) l)
three l q h =
    ap threes
    (at_next l q (q + 1) (omega arith) (omega arith)
    ∙ ap (λ (x : List ℕ). get_or l q 0 ∷ x) (at_next l (q + 1) (q + 2) (omega arith) (omega arith))
    ∙ ap (λ (x : List ℕ). get_or l q 0 ∷ (get_or l (q + 1) 0 ∷ x)) (at_next l (q + 2) (q + 3) (omega arith) (omega arith)))

module _ {corners : List ℕ} {q : ℕ} {front : List Triangle} (h : Passed corners q front) where
  pub passed_all : length corners ≤ q → threes corners ≡ front
  passed_all l = h.whole ∙ ap (λ (x : List ℕ). front ++ threes x) (drop_of_length-le corners l) ∙ append-nil front

  module _ (l : q < length corners) where
    pub passed_room : q + 3 ≤ length corners
    passed_room = let e = h.rest in omega arith

    split : threes corners ≡ front ++ (triple_at corners q ∷ threes (drop (q + 3) corners))
    split = h.whole ∙ ap (λ (x : List Triangle). front ++ x) (three corners q passed_room)

    pub passed_in : In (triple_at corners q) (threes corners)
    passed_in =
        subst (In (triple_at corners q)) (sym split)
        (in_right (triple_at corners q) front (triple_at corners q ∷ threes (drop (q + 3) corners)) (inl refl))

    pub passed_more : Passed corners (q + 3) (front ++ (triple_at corners q ∷ []))
    passed_more = record {
      left = h.left - 1;
      rest = let e = h.rest in omega arith;
      whole = split ∙ sym (append_assoc front (triple_at corners q ∷ []) (threes (drop (q + 3) corners)));
    }

-- ---- all of them

pub triples_length : (l : List ℕ) (m : ℕ) → length l ≡ 3 * m → length (threes l) ≡ m
triples_length [] m e = omega arith
triples_length (a ∷ []) m e = absurd (omega arith)
triples_length (a ∷ b ∷ []) m e = absurd (omega arith)
triples_length (a ∷ b ∷ c ∷ l) m e = let r : length (threes l) ≡ m - 1 = triples_length l (m - 1) (omega arith) in omega arith

-- what holds of the corners of every triangle holds of every corner
pub every_corner : (P : ℕ → Type 0) (l : List ℕ) (m : ℕ) → length l ≡ 3 * m
    → ((t : Triangle) → In t (threes l) → P t.first × P t.second × P t.third) → (j : ℕ) → j < length l → P (get_or l j 0)
every_corner P [] m e f j h = absurd (omega arith)
every_corner P (a ∷ []) m e f j h = absurd (omega arith)
every_corner P (a ∷ b ∷ []) m e f j h = absurd (omega arith)
every_corner P (a ∷ b ∷ c ∷ l) m e f zero h = (f (on a b c) (inl refl)).0
every_corner P (a ∷ b ∷ c ∷ l) m e f (suc zero) h = (f (on a b c) (inl refl)).1
every_corner P (a ∷ b ∷ c ∷ l) m e f (suc (suc zero)) h = (f (on a b c) (inl refl)).2
every_corner P (a ∷ b ∷ c ∷ l) m e f (suc (suc (suc j))) h = every_corner P l (m - 1) (omega arith) (λ t g. f t (inr g)) j (omega arith)
