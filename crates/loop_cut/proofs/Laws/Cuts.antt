-- A loop is listed behind those before it: its ring behind theirs, its length and its first half-edge behind theirs.
use mathlib.Core.Path.{◌≡◌, refl, sym, ap, ◌∙◌, subst}
use mathlib.Core.List.{List, [], ◌∷◌, ◌++◌, map, flatten, map-append}
use Prim.Native.Nat.{ℕ, ◌+◌, ◌-◌, ◌<◌}
use native.Mathlib.Nat.{add-zero}
use native.Mathlib.Omega.{arith}
use lib.ListN.{length, get_or, take, drop, set, length-append, length-drop, length-map}
use lib.Seq.{get_or-drop, get_or-take}
use Rattle.surface_rules.specs.Buffers.{over, laid}
use Rattle.surface_rules.specs.Edges.{start_of}
use Rattle.surface_rules.proofs.Laws.Over.{over_none, over_snoc, over_twice, over_self}
use Rattle.surface_rules.proofs.Laws.Laid.{laid_over}
use Rattle.surface_rules.proofs.Laws.Lists.{flatten_append}
use Rattle.loop_rules.specs.Loops.{ring}
use Rattle.loop_rules.proofs.Laws.Kept.{flatten_snoc}
use Rattle.loop_cut.specs.declared.Listed.{Listed}
use Rattle.loop_cut.specs.Listing.{rings_of, first_of, ListsLoops}
use Rattle.loop_cut.specs.Workings.Growing.{Ledger, ledger, part, CutRoom, WasCut}
use Rattle.loop_cut.proofs.Laws.Laid.{part_length}

pub rings_append : (corners : List ℕ) (a b : List (List ℕ)) → rings_of corners (a ++ b) ≡ rings_of corners a ++ rings_of corners b
unfolding rings_of
rings_append corners a b = ap flatten (map-append (ring corners) a b) ∙ flatten_append (map (ring corners) a) (map (ring corners) b)

rings_snoc : (corners : List ℕ) (ls : List (List ℕ)) (l : List ℕ) → rings_of corners (ls ++ (l ∷ [])) ≡ rings_of corners ls ++ ring corners l
unfolding rings_of
rings_snoc corners ls l = ap flatten (map-append (ring corners) ls (l ∷ [])) ∙ flatten_snoc (map (ring corners) ls) (ring corners l)

-- room in a written buffer is room in the buffer
room_before : (a w : List ℕ) (n : ℕ) → n ≡ length a → n < length (over a w) → n < length w
unfolding over
room_before a w n e l = omega (arith, length-append a (drop (length a) w), length-drop (length a) w)

first_part : (path : List ℕ) (j end : ℕ) → j < end → first_of (part path j end) ≡ get_or path j 0
first_part path j end l = get_or-drop j (take end path) 0 0 ∙ ap (λ (i : ℕ). get_or (take end path) i 0) (add-zero j) ∙ get_or-take end path j 0 l

module _ {corners path : List ℕ} {j end : ℕ} {w : Ledger} {at : Listed} (room : CutRoom corners path j end w at) where
  -- what is cut off
  abbrev l : List ℕ
  l = part path j end

  long : length l ≡ end - j
  long = part_length path j end room.ring.long

  -- one entry behind those of the loops ls
  item : (f : List ℕ → ℕ) (ls : List (List ℕ)) (w₀ : List ℕ) {b : List ℕ} {v : ℕ} → at.loops ≡ length ls → b ≡ over (map f ls) w₀ → at.loops < length b → f l ≡ v
      → set b at.loops v ≡ over (map f (ls ++ (l ∷ []))) w₀
  item f ls w₀ {v = v} c q m e =
      let k : at.loops ≡ length (map f ls) = c ∙ sym (length-map ls f) in
      ap (λ (z : List ℕ). set z at.loops v) q
      ∙ over_snoc (map f ls) w₀ v 0 at.loops k (room_before (map f ls) w₀ at.loops k (subst (λ (z : List ℕ). at.loops < length z) q m))
      ∙ ap (λ (z : ℕ). over (map f ls ++ (z ∷ [])) w₀) (sym e)
      ∙ ap (λ (z : List ℕ). over z w₀) (sym (map-append f ls (l ∷ [])))

  pub was_cut : {rings' : List ℕ} → rings' ≡ laid at.vertices (ring corners l) w.rings
      → WasCut corners path j end at w (record { loops = at.loops + 1; vertices = at.vertices + (end - j); path = j })
      (ledger rings' (set w.lengths at.loops (end - j)) (set w.firsts at.loops (get_or path j 0)))
  was_cut q =
      record {
        back = refl;
        lists =
            λ ls w₀ h.
            record {
              count = ap (λ (k : ℕ). k + 1) h.count ∙ sym (length-append ls (l ∷ []));
              vertices =
                  let a : length (rings_of corners (ls ++ (l ∷ []))) ≡ length (rings_of corners ls) + length (ring corners l) = ap length (rings_snoc corners ls l) ∙ length-append (rings_of corners ls) (ring corners l) in
                  let b : length (ring corners l) ≡ length l = length-map l (start_of corners) in
                  let v = h.vertices in
                  omega (arith, long);
              all_rings =
                  q
                  ∙ ap (laid at.vertices (ring corners l)) h.all_rings
                  ∙ laid_over (rings_of corners ls) (ring corners l) w₀.rings at.vertices h.vertices
                  ∙ ap (λ (z : List ℕ). over z w₀.rings) (sym (rings_snoc corners ls l));
              all_lengths = item length ls w₀.lengths h.count h.all_lengths room.lengths_room long;
              all_firsts = item first_of ls w₀.firsts h.count h.all_firsts room.firsts_room (first_part path j end room.some);
            };
      }

-- ---- listings put together

pub lists_none : {corners rings lengths firsts : List ℕ} → ListsLoops corners [] rings lengths firsts (record { loops = 0; vertices = 0; path = 0 }) rings lengths firsts
unfolding rings_of flatten
lists_none = record { count = refl; vertices = refl; all_rings = sym (over_none _); all_lengths = sym (over_none _); all_firsts = sym (over_none _) }

module _ {corners : List ℕ} {a : List (List ℕ)} {rings₀ lengths₀ firsts₀ : List ℕ} {at : Listed} {rings lengths firsts : List ℕ}
    (h : ListsLoops corners a rings₀ lengths₀ firsts₀ at rings lengths firsts) where
  -- a listing is one over itself
  pub lists_self : ListsLoops corners a rings lengths firsts at rings lengths firsts
  lists_self =
      record {
        count = h.count;
        vertices = h.vertices;
        all_rings = again (rings_of corners a) rings₀ h.all_rings;
        all_lengths = again (map length a) lengths₀ h.all_lengths;
        all_firsts = again (map first_of a) firsts₀ h.all_firsts;
      }
    where
      again : (x w₀ : List ℕ) {w : List ℕ} → w ≡ over x w₀ → w ≡ over x w
      again x w₀ q = q ∙ sym (over_self x w₀) ∙ ap (over x) (sym q)

  -- and what goes on from it goes on from where it began
  pub lists_on : (b : List (List ℕ)) {r : Listed} {rings' lengths' firsts' : List ℕ} → ListsLoops corners (a ++ b) rings lengths firsts r rings' lengths' firsts'
      → ListsLoops corners (a ++ b) rings₀ lengths₀ firsts₀ r rings' lengths' firsts'
  lists_on b k =
      record {
        count = k.count;
        vertices = k.vertices;
        all_rings = on (rings_of corners a) (rings_of corners b) rings₀ (rings_append corners a b) h.all_rings k.all_rings;
        all_lengths = on (map length a) (map length b) lengths₀ (map-append length a b) h.all_lengths k.all_lengths;
        all_firsts = on (map first_of a) (map first_of b) firsts₀ (map-append first_of a b) h.all_firsts k.all_firsts;
      }
    where
      on : (x y w₀ : List ℕ) {z w w' : List ℕ} → z ≡ x ++ y → w ≡ over x w₀ → w' ≡ over z w → w' ≡ over z w₀
      on x y w₀ {w = w} e p q = q ∙ ap (λ (v : List ℕ). over v w) e ∙ ap (over (x ++ y)) p ∙ over_twice x y w₀ ∙ ap (λ (v : List ℕ). over v w₀) (sym e)
