-- A whole text taken in: what is answered at each kind of line, and what the answer says of the text.
use mathlib.Core.Path.{◌≡◌, refl, sym, ap, ◌∙◌}
use mathlib.Core.List.{List}
use Prim.Native.Nat.{ℕ, ◌+◌, ◌<◌, ◌≤◌}
use native.Mathlib.Omega.{arith}
use lib.ListN.{length, drop, get_or, drop_of_length-le}
use lib.Seq.{drop-cons}
use Rattle.surface_rules.specs.Buffers.{over}
use Rattle.text_digits.specs.Workings.Reading.{Read, wrong, got}
use Rattle.text_rules.specs.Text.{Part}
use Rattle.text_rules.specs.Workings.Parse.{rows, stops, leaves, outline, values, read_count, Parsed, said, fault, parse}
use Rattle.text_rules.specs.Workings.Scanning.{Scanned}
use Rattle.std.specs.Prelude.{Result, Ok, Err}
use Rattle.text_rules.proofs.Laws.Taking as taking

-- the counts of a whole text, or the line of its fault
abbrev pub Scan : Type 0
Scan = Result (ℕ × ℕ) ℕ

ok_err : {counts : ℕ × ℕ} {l : ℕ} → ◌≡◌ {A = Scan} (Ok counts) (Err l) → ⊥
ok_err h = let z : ◌≡◌ {A = ℕ} 0 1 = cc in omega arith

module _ {A B : Type 0} (f : List A → List ℕ) (g : List B → List ℕ) where
  -- a fault says nothing of the buffers
  faulted : (p : Parsed A B) (l : ℕ) (a b firsts seconds : List ℕ) → p ≡ fault l → Scanned f g p (Err l) a b firsts seconds
  unfolding Scanned
  faulted p l a b firsts seconds e = rw e

  -- the line that is answered is the fault's,
  pub wrong_parsed : (p : Parsed A B) (s : Scan) (l : ℕ) (a b firsts seconds : List ℕ) → Scanned f g p s a b firsts seconds → s ≡ Err l → p ≡ fault l
  unfolding Scanned
  wrong_parsed (fault k) s l a b firsts seconds h e = let d : k ≡ l = cc in ap fault d
  wrong_parsed (said xs ys) s l a b firsts seconds h e = absurd (ok_err (sym h.0 ∙ e))

  -- and the counts are those of what the text says
  module _ (read : List ℕ → Parsed A B) where
    pub record Kept (text : List ℕ) (n t : ℕ) (a b firsts seconds : List ℕ) : Type 0 where
      pub xs : List A
      pub ys : List B
      pub is : read text ≡ said xs ys
      pub first_count : n ≡ length xs
      pub second_count : t ≡ length ys
      pub first_over : a ≡ over (f xs) firsts
      pub second_over : b ≡ over (g ys) seconds

    pub kept : (text : List ℕ) (s : Scan) (n t : ℕ) (a b firsts seconds : List ℕ) → Scanned f g (read text) s a b firsts seconds → s ≡ Ok (n, t) → Kept text n t a b firsts seconds
    unfolding Scanned
    kept text s n t a b firsts seconds h e = go (read text) refl h
      where
        go : (p : Parsed A B) → read text ≡ p → Scanned f g p s a b firsts seconds → Kept text n t a b firsts seconds
        go (fault l) d k = absurd (ok_err (sym e ∙ k))
        go (said xs ys) d k =
            let z : ◌≡◌ {A = Scan} (Ok (n, t)) (Ok (length xs, length ys)) = sym e ∙ k.0 in
            let p : ◌≡◌ {A = ℕ × ℕ} (n, t) (length xs, length ys) = cc in
            record { xs = xs; ys = ys; is = d; first_count = ap (λ (q : ℕ × ℕ). q.0) p; second_count = ap (λ (q : ℕ × ℕ). q.1) p; first_over = k.1; second_over = k.2 }

  counted : (xs : List A) (ys : List B) (n t : ℕ) → length xs ≡ n → length ys ≡ t → ◌≡◌ {A = Scan} (Ok (n, t)) (Ok (length xs, length ys))
  counted xs ys n t d e = rw (d, e)

  -- line kind by line kind, as the reading of a text goes
  module _ (P : Part A) (Q : Part B) (read_p : List ℕ → Read A) (read_q : List ℕ → Read B) (text a b firsts seconds : List ℕ) where
    abbrev Says : Scan → Type 0
    Says s = Scanned f g (parse P Q read_p read_q text) s a b firsts seconds

    fails : (l : ℕ) → parse P Q read_p read_q text ≡ fault l → Says (Err l)
    fails l = faulted (parse P Q read_p read_q text) l a b firsts seconds

    pub no_first : read_count P.key P.most text ≡ wrong → Says (Err 1)
    no_first h = fails 1 (taking.no_first P Q read_p read_q text h)

    module _ (n : ℕ) (r : List ℕ) (p : read_count P.key P.most text ≡ got n r) where
      pub wrong_first : (i : ℕ) → stops i ≡ outline (rows read_p n r) → Says (Err (2 + i))
      wrong_first i h = fails (2 + i) (taking.wrong_first P Q read_p read_q text n r p i h)

      module _ (s : List ℕ) (q : leaves s ≡ outline (rows read_p n r)) where
        pub no_second : read_count Q.key Q.most s ≡ wrong → Says (Err (n + 2))
        no_second h = fails (n + 2) (taking.no_second P Q read_p read_q text n r p s q h)

        module _ (t : ℕ) (u : List ℕ) (o : read_count Q.key Q.most s ≡ got t u) where
          pub wrong_second : (i : ℕ) → stops i ≡ outline (rows read_q t u) → Says (Err (n + 3 + i))
          wrong_second i h = fails (n + 3 + i) (taking.wrong_second P Q read_p read_q text n r p s q t u o i h)

          -- where the second part ends, in bytes of which the text may be only the rest
          module _ (bytes : List ℕ) (end : ℕ) (e : leaves (drop end bytes) ≡ outline (rows read_q t u)) where
            pub text_left : end < length bytes → Says (Err (n + t + 3))
            text_left h =
                fails (n + t + 3) (taking.left_over P Q read_p read_q text n r p s q t u o (drop end bytes) e (get_or bytes end 0) _ (drop-cons bytes end 0 h))

            pub all_read : length bytes ≤ end → a ≡ over (f (values (rows read_p n r))) firsts → b ≡ over (g (values (rows read_q t u))) seconds → Says (Ok (n, t))
            unfolding Scanned
            all_read h c d =
                rw (taking.whole_text P Q read_p read_q text n r p s q t u o (drop end bytes) e (drop_of_length-le bytes h))
                (counted (values (rows read_p n r)) (values (rows read_q t u)) n t (taking.leaves_length read_p n r s q) (taking.leaves_length read_q t u (drop end bytes) e), c, d)
