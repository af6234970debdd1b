-- What follows from the laws of a weight alone: sums compare and cancel part by part, because adding keeps the strict order and the order is total.
use mathlib.Core.Path.{◌≡◌, sym}
use mathlib.Core.Logic.{◌⊎◌, inl, inr, ⊎_elim}
use Rattle.cover_rules.specs.Weights.{Weights, Lawful}

module _ (𝓦 : Weights) where
  open 𝓦 use {W, ◌≺◌}

  -- a is no heavier than b: b is not lighter than a
  abbrev pub AtMost : W → W → Type 0
  AtMost a b = b ≺ a → ⊥

module _ (𝓦 : Weights) (𝓛 : Lawful 𝓦) where
  open 𝓦 use {W, none, add, ◌≺◌}
  open 𝓛 use {none_add, comm, assoc, total, irrefl, trans, keeps}

  pub keeps_left : (a b c : W) → a ≺ b → add a c ≺ add b c
  keeps_left a b c h = rw (comm a c, comm b c) (keeps a b c h)

  pub same_not_lighter : (a b : W) → a ≡ b → a ≺ b → ⊥
  same_not_lighter a b e h = irrefl b (rw e at h)

  pub at_most_cases : (a b : W) → AtMost 𝓦 a b → (a ≺ b) ⊎ (a ≡ b)
  at_most_cases a b h = ⊎_elim inl (⊎_elim inr (λ g. absurd (h g))) (total a b)

  pub antisym : (a b : W) → AtMost 𝓦 a b → AtMost 𝓦 b a → a ≡ b
  antisym a b h g = ⊎_elim (λ l. absurd (g l)) (λ e. e) (at_most_cases a b h)

  pub lighter_add : (a b c d : W) → a ≺ b → AtMost 𝓦 c d → add a c ≺ add b d
  lighter_add a b c d l h =
      ⊎_elim
      (λ m. trans (add a c) (add a d) (add b d) (keeps c d a m) (keeps_left a b d l))
      (λ e. rw e (keeps_left a b d l))
      (at_most_cases c d h)

  pub at_most_add : (a b c d : W) → AtMost 𝓦 a b → AtMost 𝓦 c d → AtMost 𝓦 (add a c) (add b d)
  at_most_add a b c d h g l =
      ⊎_elim
      (λ m. irrefl (add a c) (trans (add a c) (add b d) (add a c) (lighter_add a b c d m g) l))
      (λ e.
      ⊎_elim
      (λ m. irrefl (add b d) (trans (add b d) (add a c) (add b d) l (rw e (keeps c d b m))))
      (λ f. same_not_lighter (add b d) (add a c) (cc) l)
      (at_most_cases c d g))
      (at_most_cases a b h)

  -- where neither part is heavier and the sums agree, the parts agree
  pub parts_agree : (a b c d : W) → AtMost 𝓦 a b → AtMost 𝓦 c d → add a c ≡ add b d → (a ≡ b) × (c ≡ d)
  parts_agree a b c d h g e =
      ⊎_elim
      (λ m. absurd (same_not_lighter (add a c) (add b d) e (lighter_add a b c d m g)))
      (λ p.
      ⊎_elim
      (λ m. absurd (same_not_lighter (add b c) (add b d) (rw p at e) (keeps c d b m)))
      (λ q. (p, q))
      (at_most_cases c d g))
      (at_most_cases a b h)

  pub cancel : (a b c : W) → add c a ≡ add c b → a ≡ b
  cancel a b c e =
      ⊎_elim
      (λ l. absurd (same_not_lighter (add c a) (add c b) e (keeps a b c l)))
      (⊎_elim (λ p. p) (λ l. absurd (same_not_lighter (add c b) (add c a) (sym e) (keeps b a c l))))
      (total a b)

  pub at_most_keeps : (a b c : W) → AtMost 𝓦 a b → AtMost 𝓦 (add c a) (add c b)
  at_most_keeps a b c h l =
      ⊎_elim
      (λ m. irrefl (add c a) (trans (add c a) (add c b) (add c a) (keeps a b c m) l))
      (λ e. same_not_lighter (add c b) (add c a) (cc) l)
      (at_most_cases a b h)

  pub at_most_trans : (a b c : W) → AtMost 𝓦 a b → AtMost 𝓦 b c → AtMost 𝓦 a c
  at_most_trans a b c h g l =
      ⊎_elim
      (λ m. g (trans c a b l m))
      (λ e. g (rw e at l))
      (at_most_cases a b h)
