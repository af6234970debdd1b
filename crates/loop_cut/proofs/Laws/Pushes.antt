-- One more edge on the path: its start is at no place yet, so every start keeps its place, and what starts where it ends is found as the definition says.
use Rattle.std.specs.Prelude.{Option, Some, None}
use mathlib.Core.Path.{◌≡◌, sym, ap, ◌∙◌, subst}
use mathlib.Core.List.{List, [], ◌∷◌, ◌++◌}
use mathlib.Core.Logic.{◌⊎◌, ⊎_elim}
use Prim.Native.Nat.{ℕ, ◌+◌, ◌<◌, ◌≤◌}
use native.Mathlib.Nat.{eq-or-lt_of_le}
use native.Mathlib.Numerals.{add-one}
use native.Mathlib.Omega.{arith}
use lib.ListN.{length, get_or, take, drop, set, length-append, length-set}
use lib.Seq.{get_or-set_same, get_or-set_other, take-suc-set, take-take, length-take-le}
use Rattle.surface_rules.specs.Edges.{start_of, end_of}
use Rattle.surface_rules.proofs.Laws.Smallest.{least_sound}
use Rattle.loop_rules.specs.Loops.{Split, starts_at, cut, grow}
use Rattle.loop_cut.specs.declared.Listed.{Listed}
use Rattle.loop_cut.specs.Workings.Growing.{Path, Ledger, ListsIn, CutRoom, WasCut, Stands, GrowRoom, Grew}

-- a shorter path
path_shorter : {corners path places : List ℕ} {d j : ℕ} → Path corners path d places → j ≤ d → Path corners path j places
path_shorter h l = record { long = omega (arith, h.long); edges = λ i m. h.edges i (omega arith); placed = λ i m. h.placed i (omega arith) }

module _ {corners : List ℕ} {e f : ℕ} {path places : List ℕ} {w : Ledger} {at : Listed} (room : GrowRoom corners e f path places w at) where
  pub start_named : start_of corners e < length places
  start_named = room.named e room.edge

  -- path and places with the edge
  abbrev path' : List ℕ
  path' = set path at.path e

  abbrev places' : List ℕ
  places' = set places (start_of corners e) at.path

  -- each place of the longer path is the new one, or one of before
  place : (i : ℕ) → i < at.path + 1 → (i ≡ at.path) ⊎ (i < at.path)
  place i l = let m : i ≤ at.path = omega arith in eq-or-lt_of_le m

  at_new : (i : ℕ) → i ≡ at.path → get_or path' i 0 ≡ e
  at_new i q = ap (λ (k : ℕ). get_or path' k 0) q ∙ get_or-set_same path at.path e 0 room.path_room

  at_old : (i : ℕ) → i < at.path → get_or path' i 0 ≡ get_or path i 0
  at_old i l = get_or-set_other path at.path i e 0 (λ q. omega arith)

  pushed : Path corners path' (at.path + 1) places'
  pushed =
      record {
        long = let p = room.path_room in omega (arith, length-set path at.path e);
        edges = λ i l. ⊎_elim (λ q. rw (at_new i q) room.edge) (λ q. rw (at_old i q) (room.kept.edges i q)) (place i l);
        placed =
            λ i l.
            ⊎_elim
            (λ q. rw (at_new i q) (get_or-set_same places (start_of corners e) at.path 0 start_named ∙ sym q))
            (λ q. rw (at_old i q) (get_or-set_other places (start_of corners e) (start_of corners (get_or path i 0)) at.path 0 (room.new i q) ∙ room.kept.placed i q))
            (place i l);
      }

  -- where an edge of the longer path starts that f's start is looked for at
  abbrev sought : Option ℕ
  sought = starts_at corners (take (at.path + 1) path') (get_or corners f 0)

  taken : take (at.path + 1) path' ≡ take at.path path ++ (e ∷ [])
  taken = rw add-one (take-suc-set path at.path e room.path_room)

  -- what was found is what the definition finds
  found_as : {r : Option ℕ} → r ≡ sought → starts_at corners (take at.path path ++ (e ∷ [])) (end_of corners e) ≡ r
  found_as q =
      sym (q
      ∙ ap (λ (p : List ℕ). starts_at corners p (get_or corners f 0)) taken
      ∙ ap (λ (k : ℕ). starts_at corners (take at.path path ++ (e ∷ [])) (get_or corners k 0)) room.after)

  found_short : {j : ℕ} → Some j ≡ sought → j < at.path + 1
  unfolding starts_at
  found_short q =
      let n : length (take (at.path + 1) path') ≡ at.path + 1 = length-take-le (at.path + 1) path' pushed.long in
      omega (arith, (least_sound _ _ _ (sym q)).0)

  -- there is room for what is cut off
  pub cut_room : {j : ℕ} → Some j ≡ sought → CutRoom corners path' j (at.path + 1) w at
  cut_room {j} q =
      let l : j < at.path + 1 = found_short q in
      record {
        some = l;
        few = omega (arith, room.deep, room.few);
        ring = record { order = omega arith; long = pushed.long; edges = pushed.edges; room = omega (arith, room.rings_room) };
        lengths_room = room.lengths_room j (found_as q);
        firsts_room = room.firsts_room j (found_as q);
      }

  module _ {t : Split} {w₀ : Ledger} (s : Stands corners t w₀ path at w) where
    along_grown : take (at.path + 1) path' ≡ t.path ++ (e ∷ [])
    along_grown = taken ∙ ap (λ (p : List ℕ). p ++ (e ∷ [])) s.along

    grow_is : {r : Option ℕ} → r ≡ sought → grow corners t e ≡ cut r (t.path ++ (e ∷ [])) t.listed
    unfolding grow
    grow_is q = ap (λ (z : Option ℕ). cut z (t.path ++ (e ∷ [])) t.listed) (ap (λ (p : List ℕ). starts_at corners (p ++ (e ∷ [])) (end_of corners e)) (sym s.along) ∙ found_as q)

    grown_length : length (t.path ++ (e ∷ [])) ≡ at.path + 1
    grown_length = length-append t.path (e ∷ []) ∙ ap (λ (n : ℕ). n + 1) (sym s.depth)

    stands_on : None ≡ sought → Stands corners (grow corners t e) w₀ path' (record { loops = at.loops; vertices = at.vertices; path = at.path + 1 }) w
    stands_on q =
        rw (grow_is q)
        (record {
          depth = sym grown_length;
          along = along_grown;
          lists =
              record {
                count = s.lists.count;
                vertices = s.lists.vertices;
                all_rings = s.lists.all_rings;
                all_lengths = s.lists.all_lengths;
                all_firsts = s.lists.all_firsts;
              };
        })

    stands_cut : {j : ℕ} {r : Listed} {w' : Ledger} → Some j ≡ sought → WasCut corners path' j (at.path + 1) at w r w' → Stands corners (grow corners t e) w₀ path' r w'
    stands_cut {j} {r} {w'} q c =
        let l : j < at.path + 1 = found_short q in
        let n : length (take j (t.path ++ (e ∷ []))) ≡ j = length-take-le j (t.path ++ (e ∷ [])) (omega (arith, grown_length)) in
        rw (grow_is q)
        (record {
          depth = c.back ∙ sym n;
          along = ap (λ (k : ℕ). take k path') c.back ∙ sym (take-take j (at.path + 1) path' (omega arith)) ∙ ap (take j) along_grown;
          lists = subst (λ (p : List ℕ). ListsIn corners (t.listed ++ (drop j p ∷ [])) w₀ r w') along_grown (c.lists t.listed w₀ s.lists);
        })

  pub grew_on : {r : Option ℕ} → r ≡ sought → r ≡ None → Grew corners e path at w path' places' (record { loops = at.loops; vertices = at.vertices; path = at.path + 1 }) w
  grew_on q n = record { kept = pushed; stands = λ t w₀ s. stands_on s (sym n ∙ q) }

  pub grew_cut : {r : Option ℕ} {j : ℕ} {a : Listed} {w' : Ledger} → r ≡ sought → r ≡ Some j → WasCut corners path' j (at.path + 1) at w a w' → Grew corners e path at w path' places' a w'
  grew_cut q n c =
      let l = found_short (sym n ∙ q) in
      record { kept = path_shorter pushed (omega (arith, c.back)); stands = λ t w₀ s. stands_cut s (sym n ∙ q) c }
