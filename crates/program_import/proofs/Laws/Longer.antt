-- An input that fills a room longer than the longest file is refused by its size alone.
use mathlib.Core.Path.{◌≡◌, refl, sym, ap, ◌∙◌}
use mathlib.Core.Bool.{Bool, true, false, true≢false}
use mathlib.Core.Logic.{◌⊎◌, inl, inr}
use mathlib.Core.List.{List}
use Prim.Native.Nat.{ℕ, ◌+◌, ◌*◌, ◌<◌, ◌≤◌}
use native.Mathlib.Omega.{arith}
use lib.ListN.{length, take, get_or, length-take}
use lib.Seq.{get_or-take, take_all}
use Rattle.base_answers.specs.Numbers.{refusing}
use Rattle.base_answers.specs.declared.Answer.{Answer}
use Rattle.base_answers.specs.Answers.{Misfit}
use Rattle.base_limits.specs.Limits as limits
use Rattle.surface_rules.proofs.Laws.Thens.{then_refused}
use Rattle.stl_facets.specs.Facets.{front, facet_bytes, facets, word_at}
use Rattle.stl_rules.specs.Reading.{size_refusal, file_refusal}
use Rattle.stl_rules.proofs.Laws.Sizes.{misfit_other, size_says}
use Rattle.program_lines.specs.Lines.{answer_line}
use Rattle.program_import.specs.Importing.{Imports, said, Seen}

module _ (long count : ℕ) where
  -- longer than its count says
  beyond : front + facet_bytes * count < long → size_refusal long count ≡ Misfit
  beyond h = sym (misfit_other long count (omega (arith, h)) (λ e. omega (arith, e, h)))

  -- longer than any file that is read
  sized_refused : limits.file < long → refusing (size_refusal long count) ≡ true
  sized_refused h = go (refusing (size_refusal long count)) refl
    where
      go : (b : Bool) → refusing (size_refusal long count) ≡ b → b ≡ true
      go true e = refl
      go false e = let s = size_says long count e in absurd (omega (arith, h, s.0, s.1))

module _ {room input : List ℕ} {n long : ℕ} (roomy : limits.file < length room) (full : n ≡ length room) (seen : Seen room n long input) where
  all : room ≡ take (length room) input
  all = sym (take_all n room (omega (arith, full))) ∙ seen.held.read

  fills : length room ≤ length input
  fills = omega (arith, ap length all, length-take (length room) input)

  byte : (i : ℕ) → i < 84 → get_or room i 0 ≡ get_or input i 0
  byte i h = ap (λ (l : List ℕ). get_or l i 0) all ∙ get_or-take (length room) input i 0 (omega (arith, h, roomy))

  same_count : word_at room 80 ≡ facets input
  unfolding word_at
  same_count = rw (byte 80 (omega arith), byte 81 (omega arith), byte 82 (omega arith), byte 83 (omega arith))

  same_size : size_refusal long (facets input) ≡ size_refusal (length input) (facets input)
  same_size = go (seen.counted fills)
    where
      go : (long ≡ length input) ⊎ ((said input < long) × (said input < length input)) → size_refusal long (facets input) ≡ size_refusal (length input) (facets input)
      go (inl e) = ap (λ (n : ℕ). size_refusal n (facets input)) e
      go (inr h) = beyond long (facets input) h.0 ∙ sym (beyond (length input) (facets input) h.1)

  by_size : file_refusal input ≡ size_refusal (length input) (facets input)
  unfolding file_refusal
  by_size = then_refused _ _ (sized_refused (length input) (facets input) (omega (arith, roomy, fills)))

  pub longer_imports : {size : Answer} → size ≡ size_refusal long (word_at room 80) → Imports input (answer_line size)
  longer_imports {size} e =
      let s : size ≡ file_refusal input = e ∙ ap (size_refusal long) same_count ∙ same_size ∙ sym by_size in
      record {
        of_sheet = λ d. absurd (true≢false (sym (sized_refused (length input) (facets input) (omega (arith, roomy, fills))) ∙ ap refusing (sym by_size ∙ d)));
        of_refusal = λ _. ap answer_line s;
      }
