-- The lines before the first loop.
use mathlib.Core.Path.{◌≡◌, sym, ap, ◌∙◌}
use mathlib.Core.Bool.{Bool, true, false}
use mathlib.Core.List.{List, [], ◌∷◌}
use Prim.Native.Nat.{ℕ}
use native.Mathlib.Omega.{arith}
use lib.ListN.{length, length-append}
use Rattle.base_answers.specs.Numbers.{refusing}
use Rattle.base_answers.specs.declared.Answer.{Answer}
use Rattle.surface_rules.specs.Buffers.{over, laid}
use Rattle.surface_rules.proofs.Laws.Laid.{laid_over}
use Rattle.program_lines.specs.declared.Progress.{Progress}
use Rattle.program_lines.specs.Lines.{line, answer_line, loops=, PutAt}
use Rattle.program_roll.specs.Workings.Roll.{Begins}

-- no loop was told
abbrev Starts : Progress → ℕ → Type 0
Starts r bytes = (r.loops ≡ 0) × (r.vertices ≡ 0) × (r.corners ≡ 0) × (r.bytes ≡ bytes)

module _ {a : Answer} {loops i : ℕ} {before one : List ℕ} {t : Bool} (p : one ≡ over (answer_line a) before) (q : i ≡ length (answer_line a)) (d : t ≡ refusing a) where
  pub refusal_begins : t ≡ true → {r : Progress} → Starts r i → Begins a loops r before one
  refusal_begins h s = let e = sym d ∙ h in record { put = rw e p; bytes_are = rw e (s.3 ∙ q); no_loops = s.0; no_vertices = s.1; no_corners = s.2 }

  pub count_begins : t ≡ false → {j : ℕ} {two : List ℕ} → PutAt i (line loops= (loops ∷ [])) one j two → {r : Progress} → Starts r j → Begins a loops r before two
  count_begins h u s =
      let e = sym d ∙ h in
      record {
        put = rw e (u.put ∙ ap (laid i (line loops= (loops ∷ []))) p ∙ laid_over (answer_line a) (line loops= (loops ∷ [])) before i q);
        bytes_are = rw e (omega (arith, s.3, q, u.behind, length-append (answer_line a) (line loops= (loops ∷ []))));
        no_loops = s.0;
        no_vertices = s.1;
        no_corners = s.2;
      }
