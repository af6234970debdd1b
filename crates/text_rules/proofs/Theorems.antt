-- What reading a text is good for: it finds what the text says, and finds it for nothing else; a text says one thing; and where bytes are
-- no text, it finds the line of their fault. For texts of two parts, and for those below a head.
use mathlib.Core.Path.{◌≡◌, refl, sym, ap, ap₂, ◌∙◌, subst}
use mathlib.Core.Logic.{◌⊎◌, inl, inr}
use mathlib.Core.List.{List, [], ◌∷◌, ◌++◌, flatten}
use Prim.Native.Nat.{ℕ, suc}
use native.Mathlib.Omega.{arith}
use lib.ListN.{length}
use Rattle.text_digits.specs.Workings.Reading.{Read, Exact}
use Rattle.text_rules.specs.Text.{Format, TextOf, Part, Both, both, parts, Under, under, headed}
use Rattle.text_rules.specs.Fault.{Fault}
use Rattle.text_rules.specs.Workings.Parse.{Parsed, said, fault, with_seconds, parse}
use Rattle.text_rules.proofs.Laws.Parts.{begins_full}
use Rattle.text_rules.proofs.Laws.Ways.{said_fault, Way, at_once, in_first, in_second, to_end, way}
use Rattle.text_rules.proofs.Laws.Halves.{Halves, text_halves, halves_text}
use Rattle.text_rules.proofs.Laws.Starts as starts
use Rattle.text_rules.proofs.Laws.Headed.{Apart, text_below, text_above, fault_below, text_bare, fault_bare}
use Rattle.text_rules.proofs.Laws.Beginnings.{starts_right, right_starts}
use Rattle.text_rules.proofs.Laws.Later.{past_first, later, before}

module _ {S : Type 0} (F : Format S) where
  -- bytes are a text, or they have a fault
  abbrev pub Known : List ℕ → Type 0
  Known bytes = ((s : S) × TextOf F bytes s) ⊎ ((line : ℕ) × Fault F bytes line)

  -- and never both; and they have one fault at most
  pub not_both : {bytes : List ℕ} {s : S} {line : ℕ} → TextOf F bytes s → Fault F bytes line → ⊥
  not_both {s = s} t f = f.none s t

  pub fault_once : {bytes : List ℕ} {l m : ℕ} → Fault F bytes l → Fault F bytes m → l ≡ m
  fault_once = starts.fault_once F

  -- one thing has one text
  pub one_text : {bytes bytes' : List ℕ} {s : S} → TextOf F bytes s → TextOf F bytes' s → bytes ≡ bytes'
  one_text t u = t.is ∙ sym u.is

-- ---- texts of two parts

said_same : {A B : Type 0} {xs xs' : List A} {ys ys' : List B} → said xs ys ≡ said xs' ys' → both xs ys ≡ both xs' ys'
said_same e = cc

module _ {A B : Type 0} (P : Part A) (Q : Part B) where
  module _ (read_p : List ℕ → Read A) (read_q : List ℕ → Read B) (ep : Exact P.Valid P.show read_p) (eq : Exact Q.Valid Q.show read_q) where
    -- reading a text gives what it says
    pub parse_text : {bytes : List ℕ} {s : Both A B} → TextOf (parts P Q) bytes s → parse P Q read_p read_q bytes ≡ said s.firsts s.seconds
    parse_text {bytes} {s} t =
        let h : Halves P Q bytes s = text_halves P Q t in
        past_first P Q read_p read_q ep eq bytes s.firsts h.middle h.one (length s.seconds) s.seconds [] h.other
        ∙ ap (with_seconds s.firsts) (begins_full Q read_q eq h.middle s.seconds [] h.other)

    -- and what it gives, the bytes are a text of
    pub text_parse : {bytes : List ℕ} {xs : List A} {ys : List B} → parse P Q read_p read_q bytes ≡ said xs ys → TextOf (parts P Q) bytes (both xs ys)
    text_parse {bytes} {xs} {ys} e = go (way P Q read_p read_q ep eq bytes)
      where
        go : Way P Q read_p read_q bytes → TextOf (parts P Q) bytes (both xs ys)
        go (at_once h) = absurd (said_fault (sym e ∙ h))
        go (in_first n us rest b m q h) = absurd (said_fault (sym e ∙ h))
        go (in_second us s a n vs rest b m q h) = absurd (said_fault (sym e ∙ h))
        go (to_end us s a vs b h) =
            subst (λ (s : Both A B). TextOf (parts P Q) bytes s) (said_same (sym h ∙ e)) (halves_text P Q (record { middle = s; one = a; other = b }))

    -- bytes are the text of one thing at most
    pub text_once : {bytes : List ℕ} {s t : Both A B} → TextOf (parts P Q) bytes s → TextOf (parts P Q) bytes t → s ≡ t
    text_once t u = said_same (sym (parse_text t) ∙ parse_text u)

    -- For a count alone to be right, as many lines must be able to follow it: so each part needs something that can stand in it.
    module _ (x : A) (vx : P.Valid x) (y : B) (vy : Q.Valid y) where
      -- the fault that reading finds is the fault,
      pub fault_is : {bytes : List ℕ} {line : ℕ} → parse P Q read_p read_q bytes ≡ fault line → Fault (parts P Q) bytes line
      fault_is {bytes} {line} e =
          let r = before P Q read_p read_q ep eq bytes line e in
          record {
            none = λ s t. said_fault (sym (parse_text t) ∙ e);
            before = r.0;
            next = r.1;
            right = right_starts P Q x vx y vy bytes r.0 r.2;
            wrong = λ s. let m = later P Q read_p read_q ep eq bytes line line (starts_right P Q bytes line s) e in omega arith;
          }

      -- and the fault is found
      pub fault_only : {bytes : List ℕ} {line : ℕ} → Fault (parts P Q) bytes line → parse P Q read_p read_q bytes ≡ fault line
      fault_only {bytes} {line} f = go (parse P Q read_p read_q bytes) refl
        where
          go : (p : Parsed A B) → parse P Q read_p read_q bytes ≡ p → parse P Q read_p read_q bytes ≡ fault line
          go (said xs ys) e = absurd (f.none (both xs ys) (text_parse e))
          go (fault k) e = e ∙ ap fault (fault_once (parts P Q) (fault_is e) f)

      -- so of all bytes one of both is known
      pub text_or_fault : (bytes : List ℕ) → Known (parts P Q) bytes
      text_or_fault bytes = go (parse P Q read_p read_q bytes) refl
        where
          go : (p : Parsed A B) → parse P Q read_p read_q bytes ≡ p → Known (parts P Q) bytes
          go (said xs ys) e = inl (both xs ys, text_parse e)
          go (fault l) e = inr (l, fault_is e)

-- ---- texts below a head

module _ {H S : Type 0} {Valid : H → Type 0} {show : H → List (List ℕ)} {F : Format S} (apart : Apart Valid show F) where
  -- below a head's line one of both is known if it is of the rest, and the line of a fault goes up by one
  pub known_below : {h : H} {l rest : List ℕ} → Valid h → show h ≡ l ∷ [] → Known F rest → Known (headed Valid show F) (l ++ rest)
  known_below {h} v e (inl (s, t)) = inl (under h s, text_below apart v e t)
  known_below v e (inr (n, f)) = inr (suc n, fault_below apart v e f)

  -- and where no head's line begins the bytes, if it is of them as of a text without heads
  pub known_bare : {bytes : List ℕ} → ((h : H) (l a : List ℕ) → Valid h → show h ≡ l ∷ [] → bytes ≡ l ++ a → ⊥) → Known F bytes → Known (headed Valid show F) bytes
  known_bare n (inl (s, t)) = inl (under apart.bare s, text_bare apart n t)
  known_bare n (inr (k, f)) = inr (k, fault_bare apart n f)

  -- bytes are the text of one thing at most, if that holds of what is below the head
  module _ (once : (bytes : List ℕ) (s t : S) → TextOf F bytes s → TextOf F bytes t → s ≡ t) {bytes : List ℕ} where
    lined : {s t : Under H S} {l : List ℕ} → show s.head ≡ l ∷ [] → TextOf (headed Valid show F) bytes s → TextOf (headed Valid show F) bytes t → s ≡ t
    unfolding flatten
    lined {s} {t} {l} d x y =
        let e : bytes ≡ l ++ flatten (F.lines s.body) = x.is ∙ ap (λ (ls : List (List ℕ)). flatten (ls ++ F.lines s.body)) d in
        let a = text_above apart x.says.head_valid d (rw e at x) in
        let b = text_above apart x.says.head_valid d (rw e at y) in
        ap₂ under (sym b.1) (once _ _ _ a.0 b.0)

    pub headed_once : {s t : Under H S} → TextOf (headed Valid show F) bytes s → TextOf (headed Valid show F) bytes t → s ≡ t
    headed_once {s} {t} x y = go (apart.only s.head x.says.head_valid) (apart.only t.head y.says.head_valid)
      where
        bare : (s : Under H S) → s.head ≡ apart.bare → TextOf (headed Valid show F) bytes s → TextOf F bytes s.body
        bare s d x = record { says = x.says.body_says; is = x.is ∙ ap (λ (ls : List (List ℕ)). flatten (ls ++ F.lines s.body)) (ap show d ∙ apart.bare_is) }

        go : (s.head ≡ apart.bare) ⊎ ((l : List ℕ) × (show s.head ≡ l ∷ [])) → (t.head ≡ apart.bare) ⊎ ((l : List ℕ) × (show t.head ≡ l ∷ [])) → s ≡ t
        go (inr (l, d)) o = lined d x y
        go (inl d) (inr (l, e)) = sym (lined e y x)
        go (inl d) (inl e) = ap₂ under (d ∙ sym e) (once bytes _ _ (bare s d x) (bare t e y))
