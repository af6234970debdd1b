-- A loop that puts a line for each three of a list: the lines left, laid over the present buffer, give the whole.
use mathlib.Core.Path.{◌≡◌, refl, ap, ◌∙◌}
use mathlib.Core.List.{List, [], ◌∷◌, ◌++◌, map, flatten}
use Prim.Native.Nat.{ℕ, suc, ◌+◌, ◌*◌, ◌<◌, ◌≤◌}
use native.Mathlib.Omega.{arith}
use lib.ListN.{length, drop, get_or, length-drop}
use lib.Seq.{drop-cons}
use Rattle.surface_rules.specs.Buffers.{laid}
use Rattle.surface_rules.specs.Threes.{Three, three, threes}
use Rattle.text_digits.proofs.Laws.Laying.{Laying, laying_room, laying_more, laying_ends}

-- the next three of a list, or none where fewer are left
drop_three : (l : List ℕ) (k : ℕ) → k + 3 ≤ length l → drop k l ≡ get_or l k 0 ∷ get_or l (k + 1) 0 ∷ get_or l (k + 2) 0 ∷ drop (k + 3) l
drop_three l k h =
    let a : suc k ≡ k + 1 = omega arith in
    let b : suc (k + 1) ≡ k + 2 = omega arith in
    let c : suc (k + 2) ≡ k + 3 = omega arith in
    drop-cons l k 0 (omega arith) ∙ rw (a, drop-cons l (k + 1) 0 (omega arith), b, drop-cons l (k + 2) 0 (omega arith), c)

few : (l : List ℕ) → length l < 3 → threes l ≡ []
few [] h = refl
few (a ∷ []) h = refl
few (a ∷ b ∷ []) h = refl
few (a ∷ b ∷ c ∷ l) h = absurd (omega arith)

module _ (show : Three → List ℕ) where
  -- the lines of a list
  abbrev pub lines_of : List ℕ → List ℕ
  lines_of l = flatten (map show (threes l))

  module _ (l : List ℕ) (k : ℕ) where
    abbrev line : List ℕ
    line = show (three (get_or l (3 * k) 0) (get_or l (3 * k + 1) 0) (get_or l (3 * k + 2) 0))

    lines_next : 3 * k + 3 ≤ length l → lines_of (drop (3 * k) l) ≡ line ++ lines_of (drop (3 * (k + 1)) l)
    unfolding flatten
    lines_next h =
        let z : 3 * k + 3 ≡ 3 * (k + 1) = omega arith in
        ap lines_of (drop_three l (3 * k) h ∙ ap (λ (n : ℕ). get_or l (3 * k) 0 ∷ get_or l (3 * k + 1) 0 ∷ get_or l (3 * k + 2) 0 ∷ drop n l) z)

    lines_over : length l < 3 * k + 3 → lines_of (drop (3 * k) l) ≡ []
    unfolding flatten
    lines_over h = ap (λ (r : List Three). flatten (map show r)) (few (drop (3 * k) l) (omega (arith, length-drop (3 * k) l)))

    module _ {whole before out : List ℕ} {at place : ℕ} (g : Laying whole at before (lines_of (drop (3 * k) l)) place out) where
      pub putting_room : 3 * k + 3 ≤ length l → place + length line ≤ length out
      putting_room h = laying_room g line (lines_of (drop (3 * (k + 1)) l)) (lines_next h)

      pub putting_more : {after : List ℕ} {next : ℕ} → 3 * k + 3 ≤ length l → after ≡ laid place line out → next ≡ place + length line
          → Laying whole at before (lines_of (drop (3 * (k + 1)) l)) next after
      putting_more h q n = laying_more g line (lines_of (drop (3 * (k + 1)) l)) (lines_next h) q n

      pub putting_ends : length l < 3 * k + 3 → (out ≡ laid at whole before) × (place ≡ at + length whole)
      putting_ends h = laying_ends g (lines_over h)
