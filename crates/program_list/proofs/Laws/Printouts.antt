-- What is put of what was left is what is to be printed of the text.
use Rattle.std.specs.Prelude.{Ok, Err}
use mathlib.Core.Path.{◌≡◌, sym, ap, ◌∙◌}
use mathlib.Core.List.{List, [], ◌∷◌, map, flatten, append_assoc}
use Prim.Native.Nat.{ℕ, ◌≤◌}
use lib.ListN.{length}
use Rattle.base_answers.specs.declared.Answer.TheVariants.{Done, Refused}
use Rattle.base_answers.specs.declared.Refusal.{Refusal}
use Rattle.surface_rules.specs.Buffers.{over}
use Rattle.patch_surface.specs.Outcome.{Buffers, outcome}
use Rattle.patch_surface.specs.declared.Patched.{Patched}
use Rattle.program_lines.specs.Lines.{line, answer_line, loops=}
use Rattle.program_lines.specs.Listing.{Shown, loop_lines, listing}
use Rattle.program_lines.specs.Printout.{print_outcome, PrintsOver}
use Rattle.program_lines.proofs.Laws.Printing.{long_prints}
use Rattle.program_roll.specs.Workings.Roll.{whole, PutsAll}
use Rattle.program_list.specs.Lists.{Lists, Prints}
use Rattle.program_list.specs.Workings.Printed.{Full, used}
use Rattle.program_list.proofs.Theorems.{lists_printed}

-- a listing whole
listing_whole : (count : ℕ) (loops : List Shown) → length loops ≡ count → whole Done count loops ≡ listing loops
unfolding listing
listing_whole count loops m = ap (λ (n : ℕ). whole Done n loops) (sym m) ∙ append_assoc (answer_line Done) (line loops= (length loops ∷ [])) (flatten (map loop_lines loops))

-- what is put of a refusal is its line
module _ {most n : ℕ} {text before after : List ℕ} (enough : most ≤ length before) {b : Buffers} (full : Full b) {left : Buffers} where
  pub refusal_prints : {r : Refusal} → Lists text b (outcome (Err r) left) → n ≡ length (answer_line (Refused r)) → after ≡ over (answer_line (Refused r)) before
      → PrintsOver most (Prints text) before (print_outcome (Ok n) after)
  refusal_prints {r} x many lies = long_prints enough (answer_line (Refused r)) (lists_printed text b (outcome (Err r) left) full x) many lies

  -- and of what was patched the listing
  pub all_prints : {p : Patched} → PutsAll (used (outcome (Ok p) left)) Done p.loops n before after → Lists text b (outcome (Ok p) left) → PrintsOver most (Prints text) before (print_outcome (Ok n) after)
  all_prints {p} put x =
      let h = lists_printed text b (outcome (Ok p) left) full x in
      let l = h.0 in
      let e = listing_whole p.loops l.loops l.many in
      long_prints enough (listing l.loops) h.1 (put.bytes_are l ∙ ap length e) (put.put l ∙ ap (λ (x : List ℕ). over x before) e)
