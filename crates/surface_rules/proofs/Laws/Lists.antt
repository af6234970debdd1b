-- Lists that are joined, mapped, cut or written on: what stands where, and how many.
use mathlib.Core.Path.{◌≡◌, refl, sym, ap, ◌∙◌, subst}
use mathlib.Core.List.{List, [], ◌∷◌, ◌++◌, map, flatten, append_assoc}
use Prim.Native.Nat.{ℕ, zero, suc, ◌+◌, ◌<◌, ◌≤◌}
use native.Mathlib.Nat.{lt_irrefl, not-suc-le-zero}
use native.Mathlib.Omega.{arith}
use lib.ListN.{length, get_or, take, set}
use lib.Seq.{length-take-le, get_or-set_same, get_or-set_other}
use borrow.Author.Count.{below_more}

pub flatten_append : {A : Type 0} (k l : List (List A)) → flatten (k ++ l) ≡ flatten k ++ flatten l
unfolding flatten
flatten_append [] l = refl
flatten_append (x ∷ k) l = ap (λ (r : List _). x ++ r) (flatten_append k l) ∙ sym (append_assoc x (flatten k) (flatten l))

-- what stands at i of a mapped list; a and b are any defaults
pub map_at : {A B : Type 0} (f : A → B) (a : A) (b : B) (l : List A) (i : ℕ) → i < length l → get_or (map f l) i b ≡ f (get_or l i a)
map_at f a b [] i h = absurd (not-suc-le-zero h)
map_at f a b (x ∷ l) zero h = refl
map_at f a b (x ∷ l) (suc i) h = map_at f a b l i (omega arith)

-- the first n things are n
pub as_long : {A : Type 0} (l : List A) (n : ℕ) → n ≤ length l → n ≡ length (take n l)
as_long l n h = sym (length-take-le n l h)

-- a list that gets its next entry: what held at each place before it holds there still, and at the new one
pub next_set : (P : ℕ → ℕ → Type 0) (l : List ℕ) (n x : ℕ) → n < length l → ((k : ℕ) → k < n → P k (get_or l k 0)) → P n x → (k : ℕ) → k < n + 1 → P k (get_or (set l n x) k 0)
next_set P l n x s w e =
    below_more (λ (k : ℕ). P k (get_or (set l n x) k 0)) n
    (λ k m. subst (P k) (sym (get_or-set_other l n k x 0 (λ q. lt_irrefl n (subst (λ (z : ℕ). z < n) q m)))) (w k m))
    (subst (P n) (sym (get_or-set_same l n x 0 s)) e)
