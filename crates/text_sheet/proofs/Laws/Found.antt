-- The head that is found: what the bytes begin with, and so what they are a text of or where their fault is, by what stands below it.
use mathlib.Core.Path.{◌≡◌, refl, sym, ap, ◌∙◌, subst}
use mathlib.Core.Bool.{Bool, true, false}
use mathlib.Core.Logic.{◌⊎◌, inl, inr}
use mathlib.Core.List.{List, [], ◌∷◌, ◌++◌, flatten}
use Prim.Native.Nat.{ℕ, suc, ◌<◌, ◌≤◌}
use native.Mathlib.Omega.{arith}
use lib.Dec.{eqb}
use lib.ListN.{length, take, drop, get_or, length-append, length-drop, take-append-drop}
use lib.Seq.{length-take-le, take_at, drop_at}
use borrow.Author.Tests.{eqb-true, eqb-false}
use Rattle.base_types.specs.Pitches.{is_pitch, Names}
use Rattle.base_answers.specs.declared.Refusal.{Refusal}
use Rattle.base_types.specs.declared.Pitch.{Pitch}
use Rattle.std.specs.Prelude.{Result, Ok, Err, Some, None}
use Rattle.std.specs.Result.{result_ok}
use Rattle.base_types.proofs.Laws.Pitches.{pitch_is, not_pitch}
use Rattle.surface_rules.specs.Threes.{Three}
use Rattle.text_digits.specs.Workings.Reading.{Read, wrong, got, read_key, read_decimal}
use Rattle.text_digits.proofs.Laws.Exactly.{wrong_not_got}
use Rattle.text_rules.specs.Text.{TextOf, feed, count, Both, under}
use Rattle.text_rules.specs.Fault.{Fault}
use Rattle.text_rules.specs.Workings.Parse.{read_count}
use Rattle.text_rules.proofs.Laws.Counts.{count_exact}
use Rattle.text_rules.proofs.Laws.Headed.{text_below, fault_below, text_bare, fault_bare}
use Rattle.text_sheet.specs.Sheet.{pitch=, head, sheet}
use Rattle.text_sheet.specs.Workings.Heads.{HeadAt}
use Rattle.text_sheet.proofs.Laws.Told.{count_not, count_is}
use Rattle.text_sheet.proofs.Laws.Heads.{below, head_none, head_line, head_flat, head_long, line_is, line_long, line_read, heads_apart, bare_one}

-- ---- finding it

-- no pitch line begins the bytes
abbrev pub Unpitched : List ℕ → Type 0
Unpitched bytes = (n : ℕ) (rest : List ℕ) → is_pitch n ≡ true → (n ≡ 1 → ⊥) → bytes ≡ count pitch= n ++ rest → ⊥

-- where it takes nothing the pitch is 1
pub head_nothing : {bytes : List ℕ} {pitch at : ℕ} → HeadAt bytes pitch at → at ≡ 0 → pitch ≡ 1
head_nothing {bytes} {pitch} {at} h z = go (eqb pitch 1) refl
  where
    go : (t : Bool) → eqb pitch 1 ≡ t → pitch ≡ 1
    go true e = eqb-true pitch 1 e
    go false e = absurd (omega (arith, head_long (eqb-false pitch 1 e), ap length h.is, length-take-le at bytes h.within))

module _ {bytes : List ℕ} where
  pub head_absent : Unpitched bytes → HeadAt bytes 1 0
  unfolding is_pitch flatten
  head_absent none = record {
    valid = refl;
    within = omega arith;
    is = sym (ap flatten head_none);
    none = λ _ n x xs rest v e q. let l = line_is e in none n rest v l.0 (q ∙ ap (λ (r : List ℕ). r ++ rest) l.1);
  }

  -- such a line has 8 bytes or more, and `i` is its second
  pub head_short : length bytes < 8 → HeadAt bytes 1 0
  head_short h = head_absent (λ n rest v o e. omega (arith, h, ap length e, length-append (count pitch= n) rest, line_long n))

  pub head_other : (get_or bytes 1 0 ≡ 105 → ⊥) → HeadAt bytes 1 0
  unfolding count
  head_other h = head_absent (λ n rest v o e. h (ap (λ (l : List ℕ). get_or l 1 0) e))

  -- it is read as a count up to 10,
  pub head_unread : read_count pitch= 10 bytes ≡ wrong → HeadAt bytes 1 0
  head_unread h = head_absent (λ n rest v o e. wrong_not_got (sym h ∙ line_read v e))

  -- of which no line tells where it is 1 or no pitch
  pub head_unnamed : {n : ℕ} {rest : List ℕ} → read_count pitch= 10 bytes ≡ got n rest → (is_pitch n ≡ true → n ≡ 1) → HeadAt bytes 1 0
  head_unnamed {n} h a =
      head_absent (λ m rest v o e. let d : got n _ ≡ got m rest = sym h ∙ line_read v e in let q : n ≡ m = cc in o (sym q ∙ a (rw q v)))

  -- and which stands there as any other pitch
  pub head_found : {n at : ℕ} → at ≤ length bytes → read_count pitch= 10 bytes ≡ got n (drop at bytes) → is_pitch n ≡ true → (n ≡ 1 → ⊥) → HeadAt bytes n at
  head_found {n} {at} w h v o =
      let e : bytes ≡ count pitch= n ++ drop at bytes = ((count_exact pitch= 10).true_to bytes n (drop at bytes) h).1 in
      let l : length (count pitch= n) ≡ at = omega (arith, ap length e, length-append (count pitch= n) (drop at bytes), length-drop at bytes) in
      record {
        valid = v;
        within = w;
        is = ap (take at) e ∙ take_at (count pitch= n) (drop at bytes) at l ∙ sym (head_flat o);
        none = λ p. absurd (o p);
      }

-- so it is found by what is read of its key and its number
module _ (bytes : List ℕ) where
  pub head_keyless : wrong ≡ read_key pitch= bytes → HeadAt bytes 1 0
  head_keyless h = head_unread (sym (count_not bytes pitch= 10 0 h))

  module _ (i : ℕ) (h : got tt (drop i bytes) ≡ read_key pitch= bytes) where
    pub head_numberless : wrong ≡ read_decimal feed 10 (drop i bytes) → HeadAt bytes 1 0
    head_numberless d = head_unread (sym (count_is bytes pitch= 10 0 i h d))

    module _ (n at : ℕ) (d : got n (drop at bytes) ≡ read_decimal feed 10 (drop i bytes)) where
      counted : read_count pitch= 10 bytes ≡ got n (drop at bytes)
      counted = sym (count_is bytes pitch= 10 0 i h d)

      pub head_one : n ≡ 1 → HeadAt bytes 1 0
      head_one o = head_unnamed counted (λ v. o)

      pub head_pitchless : (m : Result Pitch Refusal) → Names n m → result_ok m ≡ None → HeadAt bytes 1 0
      head_pitchless (Ok q) k e = let z : ◌≡◌ {A = ℕ} 0 1 = cc in absurd (omega arith)
      head_pitchless (Err r) k e = head_unnamed counted (λ v. absurd (not_pitch n v k.0))

      pub head_pitched : (m : Result Pitch Refusal) → Names n m → at ≤ length bytes → {q : Pitch} → result_ok m ≡ Some q → (n ≡ 1 → ⊥) → HeadAt bytes n at × (n ≡ 1 → ⊥)
      head_pitched (Ok p) k u e o = (head_found u counted (ap is_pitch k ∙ pitch_is p) o, o)
      head_pitched (Err r) k u e o = let z : ◌≡◌ {A = ℕ} 0 1 = cc in absurd (omega arith)

-- so every text has one
pub head_of : (bytes : List ℕ) → (n : ℕ) × (at : ℕ) × HeadAt bytes n at
head_of bytes = go (read_count pitch= 10 bytes) refl
  where
    known : (n : ℕ) (rest : List ℕ) → read_count pitch= 10 bytes ≡ got n rest → (s t : Bool) → is_pitch n ≡ s → eqb n 1 ≡ t → (n : ℕ) × (at : ℕ) × HeadAt bytes n at
    known n rest h true false v e =
        let o = ((count_exact pitch= 10).true_to bytes n rest h).1 in
        let k : ℕ = length (count pitch= n) in
        (n, k, head_found (omega (arith, ap length o, length-append (count pitch= n) rest)) (h ∙ ap (got n) (sym (ap (drop k) o ∙ drop_at (count pitch= n) rest k refl))) v (eqb-false n 1 e))
    known n rest h true true v e = (1, 0, head_unnamed h (λ w. eqb-true n 1 e))
    known n rest h false t v e = (1, 0, head_unnamed h (λ w. absurd (not_pitch n w v)))

    go : (r : Read ℕ) → read_count pitch= 10 bytes ≡ r → (n : ℕ) × (at : ℕ) × HeadAt bytes n at
    go wrong h = (1, 0, head_unread h)
    go (got n rest) h = known n rest h (is_pitch n) (eqb n 1) refl refl

-- ---- what stands below it

module _ {bytes : List ℕ} {n at : ℕ} (h : HeadAt bytes n at) where
  -- there is no line, or one that ends at this place
  split : ((n ≡ 1) × (at ≡ 0)) ⊎ ((n ≡ 1 → ⊥) × (0 < at) × (bytes ≡ count pitch= n ++ drop at bytes))
  unfolding flatten
  split = go (eqb n 1) refl
    where
      m : length (flatten (head n)) ≡ at
      m = ap length (sym h.is) ∙ length-take-le at bytes h.within

      go : (t : Bool) → eqb n 1 ≡ t → ((n ≡ 1) × (at ≡ 0)) ⊎ ((n ≡ 1 → ⊥) × (0 < at) × (bytes ≡ count pitch= n ++ drop at bytes))
      go true e = let d = eqb-true n 1 e in inl (d, sym m ∙ ap (λ (k : ℕ). length (flatten (head k))) d ∙ ap (λ (ls : List (List ℕ)). length (flatten ls)) head_none)
      go false e =
          let o = eqb-false n 1 e in
          inr (o, omega (arith, m, ap length (head_flat o), line_long n), sym (take-append-drop at bytes) ∙ ap (λ (l : List ℕ). l ++ drop at bytes) (h.is ∙ head_flat o))

  bare : n ≡ 1 → (k : ℕ) (l a : List ℕ) → is_pitch k ≡ true → head k ≡ l ∷ [] → bytes ≡ l ++ a → ⊥
  bare p k l a v e q = h.none p k l [] a v e q

  -- the text of what is below is one below the head,
  pub text_under : {b : Both Three Three} → TextOf below (drop at bytes) b → TextOf sheet bytes (under n b)
  text_under {b} t = go split
    where
      go : ((n ≡ 1) × (at ≡ 0)) ⊎ ((n ≡ 1 → ⊥) × (0 < at) × (bytes ≡ count pitch= n ++ drop at bytes)) → TextOf sheet bytes (under n b)
      go (inl (p, z)) = subst (λ (k : ℕ). TextOf sheet bytes (under k b)) (bare_one ∙ sym p) (text_bare heads_apart (bare p) (rw z at t))
      go (inr (o, z, e)) = subst (λ (l : List ℕ). TextOf sheet l (under n b)) (sym e) (text_below heads_apart h.valid (head_line o) t)

  -- and a fault there is one line later, if the head has a line
  pub fault_under : {line : ℕ} → (at ≡ 0 → ⊥) → Fault below (drop at bytes) line → Fault sheet bytes (suc line)
  fault_under {line} o f = go split
    where
      go : ((n ≡ 1) × (at ≡ 0)) ⊎ ((n ≡ 1 → ⊥) × (0 < at) × (bytes ≡ count pitch= n ++ drop at bytes)) → Fault sheet bytes (suc line)
      go (inl (p, z)) = absurd (o z)
      go (inr (o, z, e)) = subst (λ (l : List ℕ). Fault sheet l (suc line)) (sym e) (fault_below heads_apart h.valid (head_line o) f)

  pub fault_alone : {line : ℕ} → at ≡ 0 → Fault below (drop at bytes) line → Fault sheet bytes line
  fault_alone {line} z f = go split
    where
      go : ((n ≡ 1) × (at ≡ 0)) ⊎ ((n ≡ 1 → ⊥) × (0 < at) × (bytes ≡ count pitch= n ++ drop at bytes)) → Fault sheet bytes line
      go (inl (p, y)) = fault_bare heads_apart (bare p) (rw z at f)
      go (inr (o, y, e)) = absurd (omega arith)
