-- A loop of three or a long one before the judge. The one has a single cover, which nothing bars; the other is only to be declared long.
use mathlib.Core.Path.{◌≡◌, refl, sym, ap, ◌∙◌, subst}
use mathlib.Core.Bool.{Bool, true, false, ◌||◌, or_comm, or_assoc}
use mathlib.Core.Logic.{inl, inr, ⊎_elim}
use mathlib.Core.List.{List, [], ◌∷◌, ◌++◌, map}
use Prim.Native.Nat.{ℕ, ◌+◌, ◌-◌, ◌%◌, ◌<◌, ◌≤◌}
use native.Mathlib.Omega.{arith}
use lib.IntN.{ℤ}
use lib.ListN.{length, get_or, take, drop, length-drop}
use lib.Seq.{get_or-take, get_or-drop, length-take-le}
use Rattle.base_answers.specs.Answers.{Misdeclared, Uncovered}
use Rattle.base_answers.specs.declared.Answer.TheVariants.{Done}
use Rattle.base_limits.specs.Limits as limits
use Rattle.base_limits.specs.States as stated
use Rattle.surface_rules.specs.Threes.{threes}
use Rattle.surface_rules.proofs.Laws.Tests.{eq_or_not}
use Rattle.cover_rules.specs.Covers.{Cover, empty, apex, Triangle, on, triangles, vertex_of, patch_of}
use Rattle.cover_rules.specs.Sets.{Alike, ListsTriangles, named}
use Rattle.cover_rules.specs.Workings.Matching.{In}
use Rattle.cover_rules.proofs.Laws.Listed.{listed_in}
use Rattle.cover_rules.proofs.Laws.Sets.{by_corners}
use Rattle.cover_bars.specs.Bars.{between}
use Rattle.cover_bars.specs.Workings.Chains.{Tells}
use Rattle.cover_bars.proofs.Laws.Triples.{ends_of, between_append, between_one}
use Rattle.cover_sum.specs.Workings.Triples.{triple_at}
use Rattle.judge_seat.specs.Workings.Covering.{Covering}
use Rattle.fill_fates.proofs.Laws.Three.{three_meets}
use Rattle.fill_fates.proofs.Laws.Sides.{three_tells}
use Rattle.judge_rules.specs.Faults.{share, patched, WrongState, no_state, two_on_a_short, three_with_a_cover, misdeclared, no_cover}
use Rattle.judge_rules.proofs.Laws.Declared.{declared_patched}
use Rattle.judge_sight.specs.Workings.Findings.{right, fault, FindsAtSight, WoundAgainst}

-- ---- one triangle

three_corners : (part : List ℕ) → length part ≡ 3 → part ≡ get_or part 0 0 ∷ (get_or part 1 0 ∷ (get_or part 2 0 ∷ []))
three_corners [] n = absurd (omega arith)
three_corners (a ∷ []) n = absurd (omega arith)
three_corners (a ∷ b ∷ []) n = absurd (omega arith)
three_corners (a ∷ b ∷ c ∷ []) n = refl
three_corners (a ∷ b ∷ c ∷ d ∷ l) n = absurd (omega arith)

-- the triangle with these three corners
abbrev pub lone : List ℕ → Triangle
lone part = on (get_or part 0 0) (get_or part 1 0) (get_or part 2 0)

lone_triple : (part : List ℕ) → length part ≡ 3 → threes part ≡ lone part ∷ []
lone_triple part n = ap threes (three_corners part n)

-- the ring of three, wound against it
abbrev pub turned_ring : List ℕ → Triangle
turned_ring ring = on (get_or ring 0 0) (get_or ring 2 0) (get_or ring 1 0)

module _ (ring : List ℕ) (n : length ring ≡ 3) where
  far : 2 ≡ length ring - 1
  far = omega arith

  -- a triangle is its cover exactly if it is wound against it,
  covering_alike : (part : List ℕ) → length part ≡ 3 → (c : Cover) → Covering ring (threes part) c → Alike (lone part) (turned_ring ring)
  covering_alike part k empty h = let e : length ring - 1 ≡ 1 = h.0 in absurd (omega arith)
  covering_alike part k (apex m c d) h =
      let a : 0 < m = h.0.0 in
      let b : m < length ring - 1 = h.0.1 in
      let e : m ≡ 1 = omega arith in
      let x =
      listed_in (map (named (vertex_of ring)) (triangles 0 (length ring - 1) (apex m c d))) (lone part ∷ [])
      (subst (λ (s : List Triangle). ListsTriangles s (map (named (vertex_of ring)) (triangles 0 (length ring - 1) (apex m c d)))) (lone_triple part k) h.1)
      (on (get_or ring 0 0) (get_or ring (length ring - 1) 0) (get_or ring m 0)) (inl refl) in
      subst (λ (z : ℕ). Alike (lone part) (on (get_or ring 0 0) (get_or ring 2 0) (get_or ring z 0))) e
      (subst (λ (z : ℕ). Alike (lone part) (on (get_or ring 0 0) (get_or ring z 0) (get_or ring m 0))) (sym far)
      (subst (λ (u : Triangle). Alike u (on (get_or ring 0 0) (get_or ring (length ring - 1) 0) (get_or ring m 0))) (only x.0 x.1) x.2))
    where
      only : (u : Triangle) → In u (lone part ∷ []) → u ≡ lone part
      only u (inl e) = e
      only u (inr e) = absurd e

  alike_covering : (grid : List ℤ) (part : List ℕ) → length part ≡ 3 → Alike (lone part) (turned_ring ring) → Covering ring (threes part) (apex 1 empty empty)
  alike_covering grid part k h = (
    (three_meets grid [] [] ring n).1.among.covers,
    subst (λ (s : List Triangle). ListsTriangles s (map (named (vertex_of ring)) (triangles 0 (length ring - 1) (apex 1 empty empty)))) (sym (lone_triple part k))
        (subst (λ (z : ℕ). ListsTriangles (lone part ∷ []) (on (get_or ring 0 0) (get_or ring z 0) (get_or ring 1 0) ∷ [])) far ([], [], lone part, refl, h, refl)),
  )

-- ---- the loop of three

-- what stands in the set from `at` on
module _ (set : List ℕ) (at : ℕ) (room : at + 3 ≤ length set) where
  left_long : 3 ≤ length (drop at set)
  left_long = let e : length (drop at set) ≡ length set - at = length-drop at set in omega arith

  part_long : length (take 3 (drop at set)) ≡ 3
  part_long = length-take-le 3 (drop at set) left_long

  part_at : (i k : ℕ) → i < 3 → k ≡ at + i → get_or set k 0 ≡ get_or (take 3 (drop at set)) i 0
  part_at i k l e = ap (λ (z : ℕ). get_or set z 0) e ∙ sym (get_or-take 3 (drop at set) i 0 l ∙ get_or-drop at set i 0)

  part_lone : triple_at set at ≡ lone (take 3 (drop at set))
  part_lone =
      by_corners (triple_at set at) (lone (take 3 (drop at set)))
      (part_at 0 at (omega arith) (omega arith)) (part_at 1 (at + 1) (omega arith) refl) (part_at 2 (at + 2) (omega arith) refl)

module _ (ring : List ℕ) (n : length ring ≡ 3) where
  short : length ring ≤ limits.longest
  short = omega arith

  three_state : (grid : List ℤ) (input laid : List ℕ) (state : ℕ) → (state ≡ stated.patched → ⊥) → WrongState input laid ring state
  three_state grid input laid state e =
      ⊎_elim
      (λ (f : state ≡ stated.long). two_on_a_short f short)
      (λ (f : state ≡ stated.long → ⊥).
      ⊎_elim
      (λ (g : state ≡ stated.left_open). three_with_a_cover g (apex 1 empty empty) (three_meets grid input laid ring n).1.among)
      (λ (g : state ≡ stated.left_open → ⊥). no_state e f g)
      (eq_or_not state stated.left_open))
      (eq_or_not state stated.long)

  -- the corners that the loop takes
  same_part : (rest : List ℕ) → take (share ring) rest ≡ take 3 rest
  same_part rest = let e : share ring ≡ 3 = omega arith in ap (λ (k : ℕ). take k rest) e

-- `set` and `at` are shown by nothing but what is left of the set
module _ {ring : List ℕ} {state l : ℕ} (set : List ℕ) (at : ℕ) (n : length ring ≡ 3) where
  pub three_wrong : (state ≡ stated.patched → ⊥) → FindsAtSight ring state set at l (Misdeclared l)
  three_wrong e grid input laid = fault (misdeclared refl (three_state ring n grid input laid state e))

  module _ (one : state ≡ stated.patched) where
    module _ (room : at + 3 ≤ length set) where
      pub three_no_cover : WoundAgainst ring (triple_at set at) false → FindsAtSight ring state set at l (Uncovered l)
      three_no_cover a grid input laid =
          fault
          (no_cover refl (declared_patched input laid ring state one (short ring n))
          (λ c h.
          a
          (subst (λ (t : Triangle). Alike t (turned_ring ring)) (sym (part_lone set at room))
          (covering_alike ring n (take 3 (drop at set)) (part_long set at room) c
          (subst (λ (p : List ℕ). Covering ring (threes p) c) (same_part ring n (drop at set)) h.covers)))))

      pub three_right : WoundAgainst ring (triple_at set at) true → FindsAtSight ring state set at l Done
      three_right a grid input laid =
          let m = (three_meets grid input laid ring n).1 in
          right refl
          (patched one (short ring n) (apex 1 empty empty)
          (record {
            there = let t : 3 ≤ length (drop at set) = left_long set at room in omega arith;
            covers =
                subst (λ (p : List ℕ). Covering ring (threes p) (apex 1 empty empty)) (sym (same_part ring n (drop at set)))
                (alike_covering ring n grid (take 3 (drop at set)) (part_long set at room)
                (subst (λ (t : Triangle). Alike t (turned_ring ring)) (part_lone set at room) a));
          })
          m.among
          (λ x. m.least x.other x.allowed x.lighter))

-- ---- the chains

turned_tests : (a b c : Bool) → ((a || b) || c) ≡ ((c || a) || b)
turned_tests a b c = or_comm (a || b) c ∙ sym (or_assoc c a b)

-- what a triangle joins does not depend on where it begins
alike_joins : (s t : Triangle) → Alike s t → (u v : ℕ)
    → between (s.first ∷ (s.second ∷ (s.third ∷ []))) u v ≡ between (t.first ∷ (t.second ∷ (t.third ∷ []))) u v
alike_joins s t (inl e) u v = ap (λ (x : Triangle). between (x.first ∷ (x.second ∷ (x.third ∷ []))) u v) e
alike_joins s t (inr (inl e)) u v =
    ap (λ (x : Triangle). between (x.first ∷ (x.second ∷ (x.third ∷ []))) u v) e
    ∙ between_one t.second t.third t.first u v
    ∙ turned_tests (ends_of t.second t.third u v) (ends_of t.third t.first u v) (ends_of t.first t.second u v)
    ∙ sym (between_one t.first t.second t.third u v)
alike_joins s t (inr (inr e)) u v =
    ap (λ (x : Triangle). between (x.first ∷ (x.second ∷ (x.third ∷ []))) u v) e
    ∙ between_one t.third t.first t.second u v
    ∙ sym (turned_tests (ends_of t.first t.second u v) (ends_of t.second t.third u v) (ends_of t.third t.first u v))
    ∙ sym (between_one t.first t.second t.third u v)

-- so the chains tell of a triangle that covers the loop of three, as they are
pub three_told : {input laid heads links ends : List ℕ} {e : ℕ} (ring part : List ℕ) → length ring ≡ 3 → length laid % 3 ≡ 0
    → ((j : ℕ) → j + 1 < length ring → between input (get_or ring j 0) (get_or ring (j + 1) 0) ≡ true)
    → between input (get_or ring (length ring - 1) 0) (get_or ring 0 0) ≡ true
    → length part ≡ 3 → (c : Cover) → Covering ring (threes part) c → Tells input laid e heads links ends → Tells input (laid ++ part) e heads links ends
three_told {input} {laid} {heads} {links} {ends} {e} ring part n whole sides closing k c h t =
    let told = three_tells input laid ring e heads links ends n whole sides (subst (λ (z : ℕ). between input (get_or ring z 0) (get_or ring 0 0) ≡ true) (sym (far ring n)) closing) t in
    record {
      edges = told.edges;
      many = told.many;
      chained = told.chained;
      same =
          λ u v.
          told.same u v
          ∙ ap (λ (s : Bool). between input u v || s)
          (between_append laid (patch_of ring (apex 1 empty empty)) whole u v
          ∙ ap (λ (s : Bool). between laid u v || s) (joined u v)
          ∙ sym (between_append laid part whole u v));
    }
  where
    joined : (u v : ℕ) → between (patch_of ring (apex 1 empty empty)) u v ≡ between part u v
    joined u v =
        ap (λ (z : ℕ). between (get_or ring 0 0 ∷ (get_or ring z 0 ∷ (get_or ring 1 0 ∷ []))) u v) (sym (far ring n))
        ∙ sym (alike_joins (lone part) (turned_ring ring) (covering_alike ring n part k c h) u v)
        ∙ ap (λ (l : List ℕ). between l u v) (sym (three_corners part k))
