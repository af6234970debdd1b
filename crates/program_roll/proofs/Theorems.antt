-- What is put into the buffer is determined, and the sections of a listing are together the listing.
use mathlib.Core.Path.{◌≡◌, refl, sym, ap, ap₂, ◌∙◌}
use mathlib.Core.Bool.{Bool, true, false}
use mathlib.Core.List.{List, [], ◌∷◌, ◌++◌, map, flatten, append-nil, append_assoc}
use Prim.Native.Nat.{ℕ, ◌+◌, ◌<◌, ◌≤◌}
use native.Mathlib.Nat.{le_antisymm}
use native.Mathlib.Omega.{arith}
use lib.Dec.{leb}
use lib.ListN.{length, take}
use lib.Seq.{take_all}
use borrow.Author.Tests.{leb-true, leb-false}
use Rattle.base_answers.specs.declared.Answer.{Answer}
use Rattle.base_answers.specs.declared.Answer.TheVariants.{Done}
use Rattle.surface_rules.specs.Buffers.{over, laid}
use Rattle.surface_rules.proofs.Laws.Over.{start_of}
use Rattle.surface_rules.proofs.Laws.Laid.{laid_over}
use Rattle.surface_rules.proofs.Laws.Lists.{flatten_append}
use Rattle.program_lines.specs.declared.Progress.{Progress}
use Rattle.program_lines.specs.Lines.{line, answer_line, loops=}
use Rattle.program_lines.specs.Listing.{Shown, loop_lines, listing}
use Rattle.program_roll.specs.Sections.{head, between, Sections, first, next}
use Rattle.program_roll.specs.Workings.Roll.{Begins, Puts, Fills}
use Rattle.program_roll.proofs.Laws.Between.{between_joins}
use Rattle.program_roll.proofs.Laws.Whole.{first_put, first_bytes}
use Rattle.program_roll.proofs.Laws.Whole.{listing_most}

-- the room that a listing is lent, so that a buffer is too short exactly if it is shorter
pub listing_room : listing_most ≡ 161424
listing_room = refl

abbrev marked : ℕ → ℕ → ℕ → ℕ → Progress
marked l v c b = record { loops = l; vertices = v; corners = c; bytes = b }

same_progress : (r s : Progress) → r.loops ≡ s.loops → r.vertices ≡ s.vertices → r.corners ≡ s.corners → r.bytes ≡ s.bytes → r ≡ s
same_progress r s l v c b =
    ap₂ (λ (x y : ℕ). marked x y r.corners r.bytes) l v ∙ ap₂ (λ (x y : ℕ). marked s.loops s.vertices x y) c b

-- two beginnings that are allowed are equal
pub begins_once : (a : Answer) (loops : ℕ) (r s : Progress) (before one two : List ℕ) → Begins a loops r before one → Begins a loops s before two → (r ≡ s) × (one ≡ two)
begins_once a loops r s before one two p q =
    (same_progress r s (p.no_loops ∙ sym q.no_loops) (p.no_vertices ∙ sym q.no_vertices) (p.no_corners ∙ sym q.no_corners) (p.bytes_are ∙ sym q.bytes_are), p.put ∙ sym q.put)

not_less : (a b : ℕ) → (a < b → ⊥) → b ≤ a
not_less a b h = go (leb b a) refl
  where
    go : (t : Bool) → leb b a ≡ t → b ≤ a
    go true e = leb-true b a e
    go false e = absurd (h (leb-false b a e))

-- two ways to go on that are allowed are equal
no_further : (most : ℕ) (loops : List Shown) (m r s : Progress) (before one two : List ℕ) → Fills most loops m r before one → Puts most loops m s before two → r.loops < s.loops → ⊥
no_further most loops m r s before one two p q h =
    omega (arith, p.full (omega (arith, q.upto, h)), p.puts.bytes_are, q.roomy r.loops p.puts.from h)

as_far : (most : ℕ) (loops : List Shown) (m r s : Progress) (before one two : List ℕ) → Fills most loops m r before one → Fills most loops m s before two → r.loops ≡ s.loops
as_far most loops m r s before one two p q =
    le_antisymm
    (not_less s.loops r.loops (no_further most loops m s r before two one q p.puts))
    (not_less r.loops s.loops (no_further most loops m r s before one two p q.puts))

pub fills_once : (most : ℕ) (loops : List Shown) (m r s : Progress) (before one two : List ℕ) → Fills most loops m r before one → Fills most loops m s before two → (r ≡ s) × (one ≡ two)
fills_once most loops m r s before one two p q =
    let e = as_far most loops m r s before one two p q in
    let rings : r.vertices ≡ s.vertices = p.puts.tells.vertices_are ∙ ap (λ (k : ℕ). length (flatten (map (λ (x : Shown). x.ring) (take k loops)))) e ∙ sym q.puts.tells.vertices_are in
    let patches : r.corners ≡ s.corners = p.puts.tells.corners_are ∙ ap (λ (k : ℕ). length (flatten (map (λ (x : Shown). x.patch) (take k loops)))) e ∙ sym q.puts.tells.corners_are in
    let bytes : r.bytes ≡ s.bytes = p.puts.bytes_are ∙ ap (λ (k : ℕ). m.bytes + length (between m.loops k loops)) e ∙ sym q.puts.bytes_are in
    (same_progress r s e rings patches bytes, p.puts.put ∙ ap (λ (k : ℕ). laid m.bytes (between m.loops k loops) before) e ∙ sym q.puts.put)

-- what stands in the buffer: behind the lines before the loops, or from the start of a buffer that was emptied
pub first_section : (most count : ℕ) (a : Answer) (loops : List Shown) (m r : Progress) (before one two : List ℕ) → Begins a count m before one → Fills most loops m r one two → take r.bytes two ≡ head a count ++ between 0 r.loops loops
first_section most count a loops m r before one two p q =
    ap (take r.bytes) (first_put p q) ∙ start_of (head a count ++ between 0 r.loops loops) before r.bytes (first_bytes p q)

pub next_section : (most : ℕ) (loops : List Shown) (m r : Progress) (before after : List ℕ) → m.bytes ≡ 0 → Fills most loops m r before after → take r.bytes after ≡ between m.loops r.loops loops
unfolding over
next_section most loops m r before after z q =
    ap (take r.bytes)
    (q.puts.put ∙ ap (λ (k : ℕ). laid k (between m.loops r.loops loops) before) z ∙ laid_over [] (between m.loops r.loops loops) before 0 refl)
    ∙ start_of (between m.loops r.loops loops) before r.bytes (omega (arith, q.puts.bytes_are, z))

-- the sections up to a loop
joined_upto : (loops : List Shown) {n : ℕ} {sections : List (List ℕ)} → Sections loops n sections → flatten sections ≡ head Done (length loops) ++ between 0 n loops
unfolding flatten
joined_upto loops (first n) = append-nil (head Done (length loops) ++ between 0 n loops)
joined_upto loops (next k n before h p) =
    flatten_append before (between k n loops ∷ [])
    ∙ ap₂ (λ (x y : List ℕ). x ++ y) (joined_upto loops p) (append-nil (between k n loops))
    ∙ append_assoc (head Done (length loops)) (between 0 k loops) (between k n loops)
    ∙ ap (λ (l : List ℕ). head Done (length loops) ++ l) (sym (between_joins k n loops h))

-- all sections together are the listing
pub sections_joined : (loops : List Shown) (sections : List (List ℕ)) → Sections loops (length loops) sections → flatten sections ≡ listing loops
unfolding listing
sections_joined loops sections p =
    joined_upto loops p
    ∙ ap (λ (l : List Shown). head Done (length loops) ++ flatten (map loop_lines l)) (take_all (length loops) loops (omega arith))
    ∙ append_assoc (answer_line Done) (line loops= (length loops ∷ [])) (flatten (map loop_lines loops))
