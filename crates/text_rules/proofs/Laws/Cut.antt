-- Where no text is longer than some number of bytes, one byte more tells as much as all: what the text says, or where its fault is.
use mathlib.Core.Path.{◌≡◌, refl, sym, ap, ◌∙◌, subst}
use mathlib.Core.Bool.{Bool, true, false}
use mathlib.Core.List.{List, ◌++◌, flatten, append_assoc}
use Prim.Native.Nat.{ℕ, suc, ◌+◌, ◌-◌, ◌<◌, ◌≤◌}
use native.Mathlib.Omega.{arith}
use lib.Dec.{leb}
use lib.ListN.{length, take, drop, length-append, length-take, take-append-drop}
use lib.Seq.{length-take-le, take-append-add, take_all}
use borrow.Author.Tests.{leb-true, leb-false}
use Rattle.surface_rules.proofs.Laws.Lists.{flatten_append}
use Rattle.text_rules.specs.Text.{Format, TextOf}
use Rattle.text_rules.specs.Fault.{Starts, Fault}
use Rattle.text_rules.specs.Room.{ReadInto}

-- the first lists of a list have no more in all than all of them
flatten_less : (k : ℕ) (l : List (List ℕ)) → length (flatten (take k l)) ≤ length (flatten l)
flatten_less k l =
    let e : length (flatten l) ≡ length (flatten (take k l)) + length (flatten (drop k l)) =
    ap (λ (m : List (List ℕ)). length (flatten m)) (sym (take-append-drop k l)) ∙ ap length (flatten_append (take k l) (drop k l)) ∙ length-append (flatten (take k l)) (flatten (drop k l)) in
    omega (arith, e)

module _ {S : Type 0} (F : Format S) (most : ℕ) (longest : (bytes : List ℕ) (s : S) → TextOf F bytes s → length bytes ≤ most) (bytes : List ℕ) where
  -- a byte more than the longest text has
  abbrev pub front : List ℕ
  front = take (suc most) bytes

  module _ (more : most < length bytes) where
    front_length : length front ≡ suc most
    front_length = length-take-le (suc most) bytes more

    lines_few : (s : S) (k : ℕ) → F.Says s → length (flatten (take k (F.lines s))) ≤ most
    lines_few s k h =
        let m : length (flatten (F.lines s)) ≤ most = longest (flatten (F.lines s)) s (record { says = h; is = refl }) in
        omega (arith, m, flatten_less k (F.lines s))

    -- as many lines are right in it as in all of the bytes,
    starts_front : (k : ℕ) → Starts F bytes k → Starts F front k
    starts_front k s =
        let f : List ℕ = flatten (take k (F.lines s.said)) in
        let m : length f ≤ most = lines_few s.said k s.says in
        let d : suc most ≡ length f + (suc most - length f) = omega arith in
        record {
          said = s.said;
          rest = take (suc most - length f) s.rest;
          says = s.says;
          has = s.has;
          are = ap (take (suc most)) s.are ∙ ap (λ (n : ℕ). take n (f ++ s.rest)) d ∙ take-append-add f s.rest (suc most - length f);
        }

    starts_whole : (k : ℕ) → Starts F front k → Starts F bytes k
    starts_whole k s = record {
      said = s.said;
      rest = s.rest ++ drop (suc most) bytes;
      says = s.says;
      has = s.has;
      are = sym (take-append-drop (suc most) bytes) ∙ ap (λ (l : List ℕ). l ++ drop (suc most) bytes) s.are
          ∙ append_assoc (flatten (take k (F.lines s.said))) s.rest (drop (suc most) bytes);
    }

    -- so both have the same fault
    fault_front : {line : ℕ} → Fault F bytes line → Fault F front line
    fault_front {line} f = record {
      none = λ s t. let m : length front ≤ most = longest front s t in omega (arith, m, front_length);
      before = f.before;
      next = f.next;
      right = starts_front f.before f.right;
      wrong = λ s. f.wrong (starts_whole line s);
    }

    pub fault_whole : {line : ℕ} → Fault F front line → Fault F bytes line
    fault_whole {line} f = record {
      none = λ s t. let m : length bytes ≤ most = longest bytes s t in omega (arith, m, more);
      before = f.before;
      next = f.next;
      right = starts_whole f.before f.right;
      wrong = λ s. f.wrong (starts_front line s);
    }

  -- bytes that are no longer than the longest text are all in front
  short : length bytes ≤ most → front ≡ bytes
  short h = take_all (suc most) bytes (omega arith)

  front_all : (s : S) → TextOf F bytes s → front ≡ bytes
  front_all s t = short (longest bytes s t)

  text_first : (s : S) → TextOf F bytes s → TextOf F front s
  text_first s t = subst (λ (l : List ℕ). TextOf F l s) (sym (front_all s t)) t

  fault_first : (line : ℕ) → Fault F bytes line → Fault F front line
  fault_first line f = go (leb (length bytes) most) refl
    where
      go : (b : Bool) → leb (length bytes) most ≡ b → Fault F front line
      go true e = subst (λ (l : List ℕ). Fault F l line) (sym (short (leb-true (length bytes) most e))) f
      go false e = fault_front (leb-false (length bytes) most e) f

-- what stands in a room is an input that may have been read into it
pub read_itself : {room : List ℕ} {n : ℕ} → n ≤ length room → ReadInto room n (take n room)
read_itself {room} {n} h = record { read = sym (take_all (length room) (take n room) (omega (arith, length-take n room))) }

-- a room that is longer than the longest text has as much of the input as is needed
module _ {S : Type 0} {F : Format S} {most : ℕ} (longest : (bytes : List ℕ) (s : S) → TextOf F bytes s → length bytes ≤ most)
    {room input : List ℕ} {n : ℕ} (roomy : most < length room) (held : ReadInto room n input) where
  no_longer : (bytes : List ℕ) (s : S) → TextOf F bytes s → length bytes ≤ length room - 1
  no_longer bytes s t = omega (arith, longest bytes s t, roomy)

  in_room : take (suc (length room - 1)) input ≡ take n room
  in_room = let e : suc (length room - 1) ≡ length room = omega (arith, roomy) in ap (λ (m : ℕ). take m input) e ∙ sym held.read

  pub room_text : {s : S} → TextOf F input s → TextOf F (take n room) s
  room_text {s} t = subst (λ (l : List ℕ). TextOf F l s) in_room (text_first F (length room - 1) no_longer input s t)

  pub room_whole : {s : S} → TextOf F input s → take n room ≡ input
  room_whole {s} t = sym in_room ∙ front_all F (length room - 1) no_longer input s t

  pub room_fault : {line : ℕ} → Fault F input line → Fault F (take n room) line
  room_fault {line} f = subst (λ (l : List ℕ). Fault F l line) in_room (fault_first F (length room - 1) no_longer input line f)
