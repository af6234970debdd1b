-- A text of two parts is one after the other.
use mathlib.Core.Path.{refl, sym, ap, ◌∙◌}
use mathlib.Core.List.{List, [], ◌++◌, map, flatten}
use Prim.Native.Nat.{ℕ}
use native.Mathlib.Omega.{arith}
use lib.ListN.{length}
use Rattle.text_rules.specs.Text.{count, Part, Both, parts, TextOf}
use Rattle.text_rules.proofs.Laws.Parts.{Begins}
use Rattle.text_rules.proofs.Laws.Lines.{text_flat}

module _ {A B : Type 0} (P : Part A) (Q : Part B) where
  pub record Halves (bytes : List ℕ) (s : Both A B) : Type 0 where
    pub middle : List ℕ
    pub one : Begins P bytes (length s.firsts) s.firsts middle
    pub other : Begins Q middle (length s.seconds) s.seconds []

  pub text_halves : {bytes : List ℕ} {s : Both A B} → TextOf (parts P Q) bytes s → Halves bytes s
  text_halves {bytes} {s} t =
      record {
        middle = count Q.key (length s.seconds) ++ (flatten (map Q.show s.seconds) ++ []);
        one = record { few = t.says.first_few; within = omega arith; valid = t.says.firsts_valid; are = t.is ∙ text_flat P Q s };
        other = record { few = t.says.second_few; within = omega arith; valid = t.says.seconds_valid; are = refl };
      }

  pub halves_text : {bytes : List ℕ} {s : Both A B} → Halves bytes s → TextOf (parts P Q) bytes s
  halves_text {bytes} {s} h =
      record {
        says = record { first_few = h.one.few; second_few = h.other.few; firsts_valid = h.one.valid; seconds_valid = h.other.valid };
        is = h.one.are ∙ ap (λ (r : List ℕ). count P.key (length s.firsts) ++ (flatten (map P.show s.firsts) ++ r)) h.other.are ∙ sym (text_flat P Q s);
      }
