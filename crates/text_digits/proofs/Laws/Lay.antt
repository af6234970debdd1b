-- Writing into a lent buffer, byte by byte: what is left to lay over the present text gives the whole.
use mathlib.Core.Path.{◌≡◌, refl, sym, ap, ◌∙◌}
use mathlib.Core.List.{List, [], ◌∷◌, ◌++◌}
use Prim.Native.Nat.{ℕ, suc, ◌+◌, ◌<◌, ◌≤◌}
use native.Mathlib.Nat.{add-zero}
use native.Mathlib.Numerals.{add-one}
use native.Mathlib.Omega.{arith}
use lib.ListN.{length, drop, get_or, set, drop_of_length-le}
use lib.Seq.{take-suc-set, drop-set-lt, append_snoc, drop-cons}
use borrow.Rule.Slice.PartMut.{put_mid}
use Rattle.surface_rules.specs.Buffers.{laid, over}
use Rattle.surface_rules.proofs.Laws.Laid.{laid_none, laid_length, laid_then}

pub laid_cons : (at x : ℕ) (front whole : List ℕ) → at < length whole → laid at (x ∷ front) whole ≡ laid (at + 1) front (set whole at x)
unfolding laid
laid_cons at x front whole h =
    let e : at + suc (length front) ≡ at + 1 + length front = omega arith in
    rw (e, drop-set-lt (at + 1 + length front) whole at x (omega arith), add-one at, take-suc-set whole at x h, append_snoc)

-- two writings, the second right after the first, are one
pub lay_two : (at k : ℕ) (a b text middle after : List ℕ) → at + length a ≤ length text → k ≡ at + length a → middle ≡ laid at a text → after ≡ laid k b middle → after ≡ laid at (a ++ b) text
lay_two at k a b text middle after h e f g = g ∙ ap (laid k b) f ∙ laid_then at k a b text e (omega arith)

pub lay_byte : (at k e : ℕ) (a text middle : List ℕ) → at + length a < length text → k ≡ at + length a → middle ≡ laid at a text → set middle k e ≡ laid at (a ++ (e ∷ [])) text
lay_byte at k e a text middle h i f =
    lay_two at k a (e ∷ []) text middle (set middle k e) (omega arith) i f
    (sym (laid_cons k e [] middle (rw (f, laid_length at text a (omega arith)) (omega arith)) ∙ laid_none (k + 1) (set middle k e)))

-- bytes, one by one
pub bytes_more : (src : List ℕ) (at i : ℕ) (text whole : List ℕ) → i < length src → at + i < length text → whole ≡ laid (at + i) (drop i src) text → whole ≡ laid (at + (i + 1)) (drop (i + 1) src) (set text (at + i) (get_or src i 0))
bytes_more src at i text whole h l q =
    q ∙ ap (λ (r : List ℕ). laid (at + i) r text) (drop-cons src i 0 h ∙ ap (λ (n : ℕ). get_or src i 0 ∷ drop n src) (sym (add-one i)))
    ∙ laid_cons (at + i) (get_or src i 0) (drop (i + 1) src) text l ∙ ap (λ (n : ℕ). laid n (drop (i + 1) src) (set text (at + i) (get_or src i 0))) (omega arith)

pub bytes_begin : (src : List ℕ) (at : ℕ) (text : List ℕ) → laid at src text ≡ laid (at + 0) (drop 0 src) text
bytes_begin src at text = rw add-zero

pub bytes_end : (src : List ℕ) (at i : ℕ) (text whole : List ℕ) → length src ≤ i → whole ≡ laid (at + i) (drop i src) text → text ≡ whole
bytes_end src at i text whole h q = sym (q ∙ rw (drop_of_length-le src h) (laid_none (at + i) text))

-- a copy into the start of a buffer that is as long as what is copied
pub copied : (k : ℕ) (buffer src part : List ℕ) → k ≡ length src → part ≡ src → put_mid 0 k buffer part ≡ over src buffer
unfolding over
copied k buffer src part many same = rw (same, many) refl
