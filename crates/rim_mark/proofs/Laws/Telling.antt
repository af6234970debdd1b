-- Loop after loop is told: the marks so far are laid over the start.
use mathlib.Core.Path.{◌≡◌, refl, sym, ap, ap₂, ◌∙◌}
use mathlib.Core.List.{List, [], ◌∷◌, ◌++◌, map, map-append}
use Prim.Native.Nat.{ℕ, ◌+◌, ◌≤◌, ◌<◌}
use native.Mathlib.Numerals.{add-one}
use native.Mathlib.Omega.{arith}
use lib.ListN.{length, get_or, set, length-set, length-map}
use borrow.Author.Tests.{eq-eqb, ne_eqb}
use Rattle.surface_rules.specs.Buffers.{over}
use Rattle.surface_rules.proofs.Laws.Over.{over_none, over_snoc}
use Rattle.fill_scratch.specs.Workings.Rings.{rim_mark}
use Rattle.rim_pieces.specs.Computed.{numbers_below}
use Rattle.rim_pieces.proofs.Laws.Uniting.{numbers_length}
use Rattle.rim_mark.specs.Workings.Ranking.{told_mark, told_marks, TellRoom}

told_length : (homes best : List ℕ) (l : ℕ) → l ≡ length (told_marks homes best l)
unfolding told_marks
told_length homes best l = sym (length-map (numbers_below l) (told_mark homes best) ∙ numbers_length l)

told_next : (homes best : List ℕ) (l : ℕ) → told_marks homes best (l + 1) ≡ told_marks homes best l ++ (told_mark homes best l ∷ [])
unfolding told_marks numbers_below
told_next homes best l = ap (λ (n : ℕ). map (told_mark homes best) (numbers_below n)) (add-one l) ∙ map-append (told_mark homes best) (numbers_below l) (l ∷ [])

pub record Told (homes best marks₀ : List ℕ) (n l : ℕ) (marks : List ℕ) : Type 0 where
  pub within : l ≤ n
  pub kept : length marks ≡ length marks₀
  pub told : marks ≡ over (told_marks homes best l) marks₀

module _ {homes best : List ℕ} {n : ℕ} {marks₀ : List ℕ} (room : TellRoom homes best n marks₀) where
  pub told_begins : Told homes best marks₀ n 0 marks₀
  unfolding told_marks numbers_below
  told_begins = record { within = omega arith; kept = refl; told = sym (over_none marks₀) }

  module _ {l : ℕ} {marks : List ℕ} (m : Told homes best marks₀ n l marks) where
    module _ (h : l < n) where
      pub mark_in : l < length marks
      mark_in = let a = room.marks_long in let b = m.kept in omega arith

      told_more : {v : ℕ} {marks' : List ℕ} → v ≡ told_mark homes best l → marks' ≡ set marks l v → Told homes best marks₀ n (l + 1) marks'
      told_more {v} e q = record {
        within = omega arith;
        kept = ap length q ∙ length-set marks l v ∙ m.kept;
        told =
            q
            ∙ ap₂ (λ (x : List ℕ) (y : ℕ). set x l y) m.told e
            ∙ over_snoc (told_marks homes best l) marks₀ (told_mark homes best l) 0 l (told_length homes best l) (let a = room.marks_long in omega arith)
            ∙ ap (λ (x : List ℕ). over x marks₀) (sym (told_next homes best l));
      }

      pub told_rim : {marks' : List ℕ} → get_or best (get_or homes l 0) 0 ≡ l → marks' ≡ set marks l rim_mark → Told homes best marks₀ n (l + 1) marks'
      told_rim e q = told_more (rw (eq-eqb _ _ e)) q

      pub told_other : {marks' : List ℕ} → (get_or best (get_or homes l 0) 0 ≡ l → ⊥) → marks' ≡ set marks l 0 → Told homes best marks₀ n (l + 1) marks'
      told_other e q = told_more (rw (ne_eqb _ _ e)) q
