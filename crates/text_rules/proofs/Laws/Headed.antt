-- A text below a head: bytes that begin with a head's line are the text of what the bytes after it say, with every line number one higher;
-- and bytes that begin with none are a text without a head, or none, as if there were no heads.
use mathlib.Core.Path.{◌≡◌, refl, sym, ap, ◌∙◌, subst}
use mathlib.Core.Logic.{◌⊎◌, inl, inr}
use mathlib.Core.List.{List, [], ◌∷◌, ◌++◌, flatten, append_assoc}
use Prim.Native.Nat.{ℕ, suc, ◌≤◌}
use native.Mathlib.Nat.{le_of_suc-le-suc, not-suc-le-zero}
use native.Mathlib.Omega.{arith}
use lib.ListN.{length, take}
use Rattle.text_rules.specs.Text.{Format, TextOf, Under, under, headed}
use Rattle.text_rules.specs.Fault.{Starts, Fault}

cancel : (l : List ℕ) {a b : List ℕ} → l ++ a ≡ l ++ b → a ≡ b
cancel [] e = e
cancel (x ∷ l) e = cancel l (tail e)
  where
    tail : {x y : ℕ} {a b : List ℕ} → x ∷ a ≡ y ∷ b → a ≡ b
    tail e = cc

more : {a b : ℕ} → a ≤ b → suc a ≤ suc b
more h = omega arith

empty : {x : List ℕ} {xs : List (List ℕ)} → x ∷ xs ≡ [] → ⊥
empty e = let z : ◌≡◌ {A = ℕ} 0 1 = cc in omega arith

-- One head has no line and every other has one; no two of these lines begin alike, and none begins as a text below them does.
pub record Apart {H S : Type 0} (Valid : H → Type 0) (show : H → List (List ℕ)) (F : Format S) : Type 0 where
  pub bare : H
  pub bare_valid : Valid bare
  pub bare_is : show bare ≡ []
  pub only : (h : H) → Valid h → (h ≡ bare) ⊎ ((l : List ℕ) × (show h ≡ l ∷ []))
  pub heads : (g h : H) (l m a b : List ℕ) → Valid g → Valid h → show g ≡ l ∷ [] → show h ≡ m ∷ [] → l ++ a ≡ m ++ b → g ≡ h
  pub bodies : (h : H) (s : S) (l a b : List ℕ) → Valid h → F.Says s → show h ≡ l ∷ []
      → (x : List ℕ) × (xs : List (List ℕ)) × (F.lines s ≡ x ∷ xs) × (l ++ a ≡ x ++ b → ⊥)

module _ {H S : Type 0} {Valid : H → Type 0} {show : H → List (List ℕ)} {F : Format S} (apart : Apart Valid show F) where
  abbrev G : Format (Under H S)
  G = headed Valid show F

  -- ---- below a head's line
  module _ {h : H} {l : List ℕ} (valid : Valid h) (line_is : show h ≡ l ∷ []) where
    lines_are : (s : S) → show h ++ F.lines s ≡ l ∷ F.lines s
    lines_are s = ap (λ (ls : List (List ℕ)). ls ++ F.lines s) line_is

    pub text_below : {rest : List ℕ} {s : S} → TextOf F rest s → TextOf G (l ++ rest) (under h s)
    unfolding flatten
    text_below {rest} {s} t =
        record { says = record { head_valid = valid; body_says = t.says }; is = ap (λ (r : List ℕ). l ++ r) t.is ∙ sym (ap flatten (lines_are s)) }

    starts_below : {rest : List ℕ} {k : ℕ} → Starts F rest k → Starts G (l ++ rest) (suc k)
    unfolding flatten
    starts_below {rest} {k} t = record {
      said = under h t.said;
      rest = t.rest;
      says = record { head_valid = valid; body_says = t.says };
      has = subst (λ (ls : List (List ℕ)). suc k ≤ length ls) (sym (lines_are t.said)) (more t.has);
      are = ap (λ (r : List ℕ). l ++ r) t.are
          ∙ sym (append_assoc l (flatten (take k (F.lines t.said))) t.rest)
          ∙ sym (ap (λ (ls : List (List ℕ)). flatten (take (suc k) ls) ++ t.rest) (lines_are t.said));
    }

    -- what begins with the line has this head, and so its lines are known
    above : (s : Under H S) → G.Says s → (a b x : List ℕ) (xs : List (List ℕ)) → G.lines s ≡ x ∷ xs → l ++ a ≡ x ++ b → (x ≡ l) × (xs ≡ F.lines s.body) × (s.head ≡ h)
    above s says a b x xs e q = go (apart.only s.head says.head_valid)
      where
        same : s.head ≡ h → (x ≡ l) × (xs ≡ F.lines s.body) × (s.head ≡ h)
        same d =
            let g : x ∷ xs ≡ l ∷ F.lines s.body = sym e ∙ ap (λ (k : H). show k ++ F.lines s.body) d ∙ lines_are s.body in
            (cc, cc, d)

        go : (s.head ≡ apart.bare) ⊎ ((m : List ℕ) × (show s.head ≡ m ∷ [])) → (x ≡ l) × (xs ≡ F.lines s.body) × (s.head ≡ h)
        go (inl d) =
            let w = apart.bodies h s.body l a b valid says.body_says line_is in
            let g : w.0 ∷ w.1 ≡ x ∷ xs = sym w.2 ∙ sym (ap (λ (ls : List (List ℕ)). ls ++ F.lines s.body) (ap show d ∙ apart.bare_is)) ∙ e in
            let y : w.0 ≡ x = cc in
            absurd (w.3 (q ∙ ap (λ (r : List ℕ). r ++ b) (sym y)))
        go (inr (m, d)) =
            let g : m ∷ F.lines s.body ≡ x ∷ xs = sym (ap (λ (ls : List (List ℕ)). ls ++ F.lines s.body) d) ∙ e in
            let y : m ≡ x = cc in
            same (apart.heads s.head h m l b a says.head_valid valid d line_is (ap (λ (r : List ℕ). r ++ b) y ∙ sym q))

    starts_above : {rest : List ℕ} {k : ℕ} → Starts G (l ++ rest) (suc k) → Starts F rest k
    unfolding flatten
    starts_above {rest} {k} t = go (G.lines t.said) refl t.has t.are
      where
        go : (ls : List (List ℕ)) → G.lines t.said ≡ ls → suc k ≤ length ls → l ++ rest ≡ flatten (take (suc k) ls) ++ t.rest → Starts F rest k
        go [] e n a = absurd (not-suc-le-zero n)
        go (x ∷ xs) e n a =
            let b : l ++ rest ≡ x ++ (flatten (take k xs) ++ t.rest) = a ∙ append_assoc x (flatten (take k xs)) t.rest in
            let w = above t.said t.says rest (flatten (take k xs) ++ t.rest) x xs e b in
            record {
              said = t.said.body;
              rest = t.rest;
              says = t.says.body_says;
              has = subst (λ (ys : List (List ℕ)). k ≤ length ys) w.1 (le_of_suc-le-suc n);
              are = cancel l (b ∙ ap (λ (y : List ℕ). y ++ (flatten (take k xs) ++ t.rest)) w.0) ∙ ap (λ (ys : List (List ℕ)). flatten (take k ys) ++ t.rest) w.1;
            }

    pub text_above : {rest : List ℕ} {s : Under H S} → TextOf G (l ++ rest) s → TextOf F rest s.body × (s.head ≡ h)
    unfolding flatten
    text_above {rest} {s} t = go (G.lines s) refl t.is
      where
        some : G.lines s ≡ [] → ⊥
        some e =
            let w = apart.bodies h s.body l [] [] valid t.says.body_says line_is in
            empty (sym w.2 ∙ end (show s.head) (F.lines s.body) e)
          where
            end : (a b : List (List ℕ)) → a ++ b ≡ [] → b ≡ []
            end [] b e = e
            end (x ∷ a) b e = absurd (empty e)

        go : (ls : List (List ℕ)) → G.lines s ≡ ls → l ++ rest ≡ flatten (G.lines s) → TextOf F rest s.body × (s.head ≡ h)
        go [] e a = absurd (some e)
        go (x ∷ xs) e a =
            let b : l ++ rest ≡ x ++ flatten xs = a ∙ ap flatten e in
            let w = above s t.says rest (flatten xs) x xs e b in
            (record { says = t.says.body_says; is = cancel l (b ∙ ap (λ (y : List ℕ). y ++ flatten xs) w.0) ∙ ap flatten w.1 }, w.2)

    -- "With a pitch line every later line number goes up by one."
    pub fault_below : {rest : List ℕ} {n : ℕ} → Fault F rest n → Fault G (l ++ rest) (suc n)
    fault_below f = record {
      none = λ s t. f.none s.body (text_above t).0;
      before = suc f.before;
      next = ap suc f.next;
      right = starts_below f.right;
      wrong = λ t. f.wrong (starts_above t);
    }

  -- ---- bytes that no head's line begins
  module _ {bytes : List ℕ} (no_line : (h : H) (l a : List ℕ) → Valid h → show h ≡ l ∷ [] → bytes ≡ l ++ a → ⊥) where
    bare_lines : (s : S) → show apart.bare ++ F.lines s ≡ F.lines s
    bare_lines s = ap (λ (ls : List (List ℕ)). ls ++ F.lines s) apart.bare_is

    pub text_bare : {s : S} → TextOf F bytes s → TextOf G bytes (under apart.bare s)
    text_bare {s} t = record { says = record { head_valid = apart.bare_valid; body_says = t.says }; is = t.is ∙ sym (ap flatten (bare_lines s)) }

    starts_bare : {k : ℕ} → Starts F bytes k → Starts G bytes k
    starts_bare {k} t = record {
      said = under apart.bare t.said;
      rest = t.rest;
      says = record { head_valid = apart.bare_valid; body_says = t.says };
      has = subst (λ (ls : List (List ℕ)). k ≤ length ls) (sym (bare_lines t.said)) t.has;
      are = t.are ∙ sym (ap (λ (ls : List (List ℕ)). flatten (take k ls) ++ t.rest) (bare_lines t.said));
    }

    -- a first line of a text that has these bytes is none of a head
    unlined : (s : Under H S) → G.Says s → ((l : List ℕ) → show s.head ≡ l ∷ [] → (a : List ℕ) × (bytes ≡ l ++ a)) → (s.head ≡ apart.bare) × (G.lines s ≡ F.lines s.body)
    unlined s says first = go (apart.only s.head says.head_valid)
      where
        go : (s.head ≡ apart.bare) ⊎ ((m : List ℕ) × (show s.head ≡ m ∷ [])) → (s.head ≡ apart.bare) × (G.lines s ≡ F.lines s.body)
        go (inl d) = (d, ap (λ (ls : List (List ℕ)). ls ++ F.lines s.body) (ap show d ∙ apart.bare_is))
        go (inr (m, d)) = let w = first m d in absurd (no_line s.head m w.0 says.head_valid d w.1)

    bare_starts : {k : ℕ} → Starts G bytes (suc k) → Starts F bytes (suc k)
    unfolding flatten
    bare_starts {k} t =
        let w = (unlined t.said t.says (λ l d. (
          _,
          t.are ∙ ap (λ (ls : List (List ℕ)). flatten (take (suc k) (ls ++ F.lines t.said.body)) ++ t.rest) d
              ∙ append_assoc l (flatten (take k (F.lines t.said.body))) t.rest,
        ))).1 in
        record {
          said = t.said.body;
          rest = t.rest;
          says = t.says.body_says;
          has = subst (λ (ls : List (List ℕ)). suc k ≤ length ls) w t.has;
          are = t.are ∙ ap (λ (ls : List (List ℕ)). flatten (take (suc k) ls) ++ t.rest) w;
        }

    pub bare_text : {s : Under H S} → TextOf G bytes s → TextOf F bytes s.body × (s.head ≡ apart.bare)
    unfolding flatten
    bare_text {s} t =
        let w = unlined s t.says (λ l d. (_, t.is ∙ ap (λ (ls : List (List ℕ)). flatten (ls ++ F.lines s.body)) d)) in
        (record { says = t.says.body_says; is = t.is ∙ ap flatten w.1 }, w.0)

    pub fault_bare : {n : ℕ} → Fault F bytes n → Fault G bytes n
    fault_bare f = record {
      none = λ s t. f.none s.body (bare_text t).0;
      before = f.before;
      next = f.next;
      right = starts_bare f.right;
      wrong = λ t. f.wrong (subst (λ (k : ℕ). Starts F bytes k) (sym f.next) (bare_starts (subst (λ (k : ℕ). Starts G bytes k) f.next t)));
    }
