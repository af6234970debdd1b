-- A path that grows meets no vertex twice and never its own end, since it is cut back to the first edge that starts there; so what is
-- cut off comes back to where it began and meets no vertex twice, and a walk that comes back to where it began leaves no path behind.
use Rattle.std.specs.Prelude.{Option, Some, None}
use mathlib.Core.Path.{◌≡◌, refl, sym, ap, ◌∙◌, subst}
use mathlib.Core.List.{List, [], ◌∷◌, ◌++◌, map-append}
use Prim.Native.Nat.{ℕ, zero, suc, ◌<◌}
use native.Mathlib.Nat.{not-suc-le-zero}
use native.Mathlib.Omega.{arith}
use lib.ListN.{length, get_or, take, drop, length-drop, length-map}
use lib.Seq.{get_or-take, length-take-le}
use borrow.Author.Tests.{eqb-true, eqb-false, ne_eqb}
use Rattle.surface_rules.specs.Edges.{start_of, end_of}
use Rattle.surface_rules.proofs.Laws.Lists.{map_at}
use Rattle.surface_rules.proofs.Laws.Smallest.{least_sound, least_never, least_first, never_least}
use Rattle.loop_rules.specs.Loops.{Split, starts_at, cut, grow, grow_all, ring}
use Rattle.loop_rules.proofs.Laws.Distinct.{Distinct, distinct_append, distinct_none}
use Rattle.loop_rules.proofs.Laws.Parts.{distinct_one, distinct_map_take, distinct_map_drop}
use Rattle.loop_rules.proofs.Laws.Each.{Each, each_none, each_one, each_append}
use Rattle.loop_rules.proofs.Laws.Linked.{Linked, Closed, FromTo, from_to_append, from_to_one, from_to_cut, from_to_begins, from_to_closed, closed_from_to, linked_from_to}

-- nothing walked yet
abbrev pub fresh : Split
fresh = record { path = []; listed = [] }

-- l is a loop: it has an edge, comes back to where it began, and meets no vertex twice
pub record Loop (corners l : List ℕ) : Type 0 where
  pub some : 0 < length l
  pub closed : Closed corners l
  pub apart : Distinct (ring corners l)

-- p is a path from s to x that meets no vertex twice, x included
pub record PathFrom (corners : List ℕ) (s : ℕ) (p : List ℕ) (x : ℕ) : Type 0 where
  pub goes : FromTo corners s p x
  pub apart : Distinct (ring corners p)
  pub free : (i : ℕ) → i < length p → start_of corners (get_or p i 0) ≡ x → ⊥

-- a walk from s has come to x
pub record Walked (corners : List ℕ) (s : ℕ) (t : Split) (x : ℕ) : Type 0 where
  pub path : PathFrom corners s t.path x
  pub loops : Each (Loop corners) t.listed

module _ (corners : List ℕ) where
  pub path_none : (s : ℕ) → PathFrom corners s [] s
  path_none s = record { goes = unfold FromTo in refl; apart = distinct_none; free = λ i l. absurd (not-suc-le-zero l) }

  pub walked_fresh : (s : ℕ) → Walked corners s fresh s
  walked_fresh s = record { path = path_none s; loops = each_none (Loop corners) }

  -- no edge of a path starts where it ends, so it is not cut there again
  pub path_free : (s : ℕ) (p : List ℕ) (x : ℕ) → PathFrom corners s p x → starts_at corners p x ≡ None
  unfolding starts_at
  path_free s p x h = never_least _ (length p) (λ i l. ne_eqb _ _ (h.free i l))

  -- a path that comes back to where it began is empty
  pub path_back : (s : ℕ) (p : List ℕ) → PathFrom corners s p s → p ≡ []
  path_back s [] h = refl
  path_back s (e ∷ p) h = absurd (h.free 0 (omega arith) (from_to_begins corners s (e ∷ p) s h.goes (omega arith)))

  -- with one more edge the starts are still apart
  pub push_apart : (s : ℕ) (p : List ℕ) (e : ℕ) → PathFrom corners s p (start_of corners e) → Distinct (ring corners (p ++ (e ∷ [])))
  push_apart s p e h =
      rw map-append
      (distinct_append (ring corners p) (start_of corners e ∷ []) h.apart (distinct_one (start_of corners e)) hits)
    where
      hits : (i j : ℕ) → i < length (ring corners p) → j < 1 → get_or (ring corners p) i 0 ≡ get_or (start_of corners e ∷ []) j 0 → ⊥
      hits i zero l m q = let k : i < length p = subst (λ (n : ℕ). i < n) (length-map p (start_of corners)) l in h.free i k (sym (map_at (start_of corners) 0 0 p i k) ∙ q)
      hits i (suc j) l m q = absurd (omega arith)

  pub grow_walked : (s : ℕ) (t : Split) (e : ℕ) → Walked corners s t (start_of corners e) → Walked corners s (grow corners t e) (end_of corners e)
  unfolding grow starts_at
  grow_walked s t e h = go (starts_at corners p x) refl
    where
      p : List ℕ
      p = t.path ++ (e ∷ [])

      x : ℕ
      x = end_of corners e

      goes : FromTo corners s p x
      goes = from_to_append corners s t.path (start_of corners e) (e ∷ []) x h.path.goes (from_to_one corners e)

      apart : Distinct (ring corners p)
      apart = push_apart s t.path e h.path

      go : (f : Option ℕ) → starts_at corners p x ≡ f → Walked corners s (cut f p t.listed) x
      go None d =
          record {
            path = record { goes = goes; apart = apart; free = λ i l. eqb-false _ _ (least_never _ _ d i l) };
            loops = h.loops;
          }
      go (Some j) d =
          let w = least_sound _ _ _ d in
          let q : start_of corners (get_or p j 0) ≡ x = eqb-true _ _ w.1 in
          let halves = from_to_cut corners s p x j goes w.0 in
          let n : length (take j p) ≡ j = length-take-le j p (omega arith) in
          record {
            path =
                record {
                  goes = subst (FromTo corners s (take j p)) q halves.0;
                  apart = distinct_map_take (start_of corners) j p apart;
                  free = λ i l. let k : i < j = omega arith in rw (get_or-take j p i 0 k) (eqb-false _ _ (least_first _ _ _ d i k));
                };
            loops =
                each_append (Loop corners) t.listed (drop j p ∷ []) h.loops
                (each_one (Loop corners) (drop j p)
                (record {
                  some = rw length-drop (omega arith);
                  closed = from_to_closed corners x (drop j p) (subst (λ (v : ℕ). FromTo corners v (drop j p) x) q halves.1);
                  apart = distinct_map_drop (start_of corners) j p apart;
                }));
          }

  pub grow_free : (s : ℕ) (t : Split) (e : ℕ) → Walked corners s t (start_of corners e) → starts_at corners (grow corners t e).path (end_of corners e) ≡ None
  grow_free s t e h = path_free s (grow corners t e).path (end_of corners e) (grow_walked s t e h).path

  pub grow_all_walked : (s : ℕ) (t : Split) (x : ℕ) (es : List ℕ) (y : ℕ) → FromTo corners x es y → Walked corners s t x → Walked corners s (grow_all corners t es) y
  unfolding grow_all FromTo
  grow_all_walked s t x [] y h w = subst (Walked corners s t) h w
  grow_all_walked s t x (e ∷ es) y h w =
      grow_all_walked s (grow corners t e) (end_of corners e) es y h.1 (grow_walked s t e (subst (Walked corners s t) (sym h.0) w))

  -- a loop has no edge twice
  pub loop_distinct : (l : List ℕ) → Loop corners l → Distinct l
  unfolding Distinct
  loop_distinct l h i j a b q =
      let n : length (ring corners l) ≡ length l = length-map l (start_of corners) in
      h.apart i j (omega arith) (omega arith) (map_at (start_of corners) 0 0 l i a ∙ ap (start_of corners) q ∙ sym (map_at (start_of corners) 0 0 l j b))

  -- every loop that a walk lists is one
  pub linked_loops : (es : List ℕ) → Linked corners es → Each (Loop corners) (grow_all corners fresh es).listed
  linked_loops es h = let r = linked_from_to corners es h in (grow_all_walked r.0 fresh r.0 es r.1 r.2 (walked_fresh r.0)).loops

  -- the path is empty when a cycle ends
  pub closed_empties : (es : List ℕ) → Closed corners es → (grow_all corners fresh es).path ≡ []
  closed_empties es h =
      let s : ℕ = start_of corners (get_or es 0 0) in
      path_back s (grow_all corners fresh es).path (grow_all_walked s fresh s es s (closed_from_to corners es h) (walked_fresh s)).path
