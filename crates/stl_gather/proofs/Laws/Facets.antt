-- Facet after facet: three corners each, and after the last the points and their numbers lie at the buffers' starts.
use mathlib.Core.Path.{◌≡◌, refl, sym, ap, ◌∙◌, subst}
use mathlib.Core.List.{List, [], ◌∷◌, ◌++◌, map, map-append}
use Prim.Native.Nat.{ℕ, zero, suc, ◌+◌, ◌-◌, ◌*◌, ◌<◌, ◌≤◌}
use native.Mathlib.Omega.{arith}
use lib.ListN.{length, get_or, take}
use Rattle.base_limits.specs.Limits as limits
use Rattle.surface_rules.specs.Threes.{Three, three, flat}
use Rattle.stl_facets.specs.Facets.{front, facet_bytes, facets}
use Rattle.stl_rules.specs.FirstUse.{stands, index_or, numbers}
use Rattle.stl_rules.specs.File.{corners_to, agree, point_at, corner_place}
use Rattle.stl_rules.specs.Reading.{none, points_in, corners_in}
use Rattle.stl_rules.proofs.Laws.Files.{agree_self}
use Rattle.stl_rules.proofs.Laws.Uses.{uses_distinct, stands_at}
use Rattle.std.specs.Prelude.{Some, None}
use Rattle.stl_gather.specs.Gathering.{GatherRoom, Gathers}
use Rattle.stl_gather.specs.Workings.Racks.{point_in, Kept, Named, met_by, Rack, rack, RackedTo, SettleRoom, Settled, FacetRoom}
use Rattle.stl_gather.proofs.Laws.Racks.{met_grows, rack_begins}

-- ---- what a call of `settle` says, where i is written as j

module _ (file : List ℕ) (w : Rack) (i : ℕ) where
  pub settled_racked : {j n : ℕ} → Settled file w i (Some n) → i ≡ j → RackedTo file w j n
  unfolding Settled
  settled_racked {n = n} s q = subst (λ (z : ℕ). RackedTo file w z n) q s

  -- more corners only add points
  pub settled_full : (j : ℕ) → Settled file w i None → i ≤ j → length w.links < length (met_by file j)
  unfolding Settled
  settled_full j s q = rw (let z : j ≡ i + (j - i) = omega arith in z) (omega (arith, s, met_grows file i (j - i)))

  pub settled_stops : (j : ℕ) → Settled file w i None → i ≤ j → Settled file w j None
  unfolding Settled
  settled_stops j s q = settled_full j s q

-- the rack's lists are as long as they were
pub record SameSizes (w₀ w : Rack) : Type 0 where
  pub words_same : length w.words ≡ length w₀.words
  pub corners_same : length w.corners ≡ length w₀.corners
  pub heads_same : length w.heads ≡ length w₀.heads
  pub links_same : length w.links ≡ length w₀.links

sizes_begin : (w : Rack) → SameSizes w w
sizes_begin w = record { words_same = refl; corners_same = refl; heads_same = refl; links_same = refl }

sizes_go_on : {w₀ w w' : Rack} → SameSizes w₀ w → SameSizes w w' → SameSizes w₀ w'
sizes_go_on s t =
    record {
      words_same = t.words_same ∙ s.words_same;
      corners_same = t.corners_same ∙ s.corners_same;
      heads_same = t.heads_same ∙ s.heads_same;
      links_same = t.links_same ∙ s.links_same;
    }

-- ---- a facet's corners

-- so many of the three are done
pub record Turning (file : List ℕ) (w₀ w : Rack) (at i n done points : ℕ) : Type 0 where
  pub room : FacetRoom file w₀ at i n
  pub racked : RackedTo file w (i + done) points
  pub same : SameSizes w₀ w

module _ {file : List ℕ} {w₀ w : Rack} {at i n done points : ℕ} (t : Turning file w₀ w at i n done points) where
  pub facet_ends : done ≡ 3 → Settled file w (i + 3) (Some points)
  unfolding Settled
  facet_ends e = subst (λ (z : ℕ). RackedTo file w (i + z) points) e t.racked

  module _ (more : done < 3) where
    pub facet_corner : SettleRoom file w (at + 12 * done) (i + done) points
    unfolding corner_place
    facet_corner =
        let r = t.room in
        record {
          racked = t.racked;
          place = omega (arith, more, r.first, r.place);
          inside = omega (arith, more, r.inside);
          room = omega (arith, more, t.same.corners_same, r.room);
        }

    pub facet_goes_on : {w' : Rack} {m : ℕ} → Settled file w' (i + done + 1) (Some m) → SameSizes w w' → Turning file w₀ w' at i n (done + 1) m
    facet_goes_on {w'} s same = record { room = t.room; racked = settled_racked file w' (i + done + 1) s (omega arith); same = sizes_go_on t.same same }

-- ---- the whole file

-- so many facets are done
pub record Going (file : List ℕ) (w₀ w : Rack) (done n : ℕ) : Type 0 where
  pub racked : RackedTo file w (3 * done) n
  pub whole : length file ≡ front + facet_bytes * facets file
  pub few : facets file ≤ limits.triangles
  pub room : 3 * facets file ≤ length w.corners
  pub same : SameSizes w₀ w

pub going_begins : {file ws cs heads links : List ℕ} → GatherRoom file ws cs heads links → Going file (rack ws cs heads links) (rack ws cs heads links) 0 0
going_begins {ws = ws} {cs = cs} {heads = heads} {links = links} g =
    record { racked = rack_begins g; whole = g.whole; few = g.few; room = g.room; same = sizes_begin (rack ws cs heads links) }

-- the numbers of all corners
take_more : (l : List ℕ) (n : ℕ) → n < length l → take (suc n) l ≡ take n l ++ (get_or l n 0 ∷ [])
take_more [] n h = absurd (omega arith)
take_more (x ∷ l) zero h = refl
take_more (x ∷ l) (suc n) h = ap (λ (r : List ℕ). x ∷ r) (take_more l n (omega arith))

take_corners : (file : List ℕ) (f : Three → ℕ) (cs : List ℕ) (m : ℕ) → m ≤ length cs → ((j : ℕ) → j < m → get_or cs j 0 ≡ f (point_at file (corner_place j))) → take m cs ≡ map f (corners_to file m)
unfolding corners_to
take_corners file f cs zero l w = refl
take_corners file f cs (suc m) l w =
    take_more cs m (omega arith)
    ∙ ap (λ (r : List ℕ). r ++ (get_or cs m 0 ∷ [])) (take_corners file f cs m (omega arith) (λ j q. w j (omega arith)))
    ∙ ap (λ (x : ℕ). map f (corners_to file m) ++ (x ∷ [])) (w m (omega arith))
    ∙ sym (map-append f (corners_to file m) (point_at file (corner_place m) ∷ []))

-- the words of all points
take_flat : (l : List Three) (ws : List ℕ) → 3 * length l ≤ length ws → ((k : ℕ) → k < length l → point_in ws k ≡ get_or l k none) → take (3 * length l) ws ≡ flat l
unfolding point_in
take_flat [] ws h w = refl
take_flat (t ∷ l) [] h w = absurd (omega arith)
take_flat (t ∷ l) (x ∷ []) h w = absurd (omega arith)
take_flat (t ∷ l) (x ∷ y ∷ []) h w = absurd (omega arith)
take_flat (t ∷ l) (x ∷ y ∷ z ∷ ws) h w =
    let e : three x y z ≡ t = w 0 (omega arith) in
    let q : 3 * suc (length l) ≡ suc (suc (suc (3 * length l))) = omega arith in
    let r : take (3 * length l) ws ≡ flat l = take_flat l ws (omega arith) (λ k m. after k ∙ w (suc k) (omega arith)) in
    ap (λ (n : ℕ). take n (x ∷ y ∷ z ∷ ws)) q ∙ ap (λ (s : List ℕ). x ∷ y ∷ z ∷ s) r ∙ ap (λ (p : Three). p.first ∷ p.second ∷ p.third ∷ flat l) e
  where
    after : (k : ℕ) → point_in ws k ≡ point_in (x ∷ y ∷ z ∷ ws) (suc k)
    after k =
        let a : 3 * suc k ≡ suc (suc (suc (3 * k))) = omega arith in
        sym (rw a (rw (let e : suc (suc (suc (3 * k))) + 1 ≡ suc (suc (suc (3 * k + 1))) = omega arith in e, let e : suc (suc (suc (3 * k))) + 2 ≡ suc (suc (suc (3 * k + 2))) = omega arith in e) refl))

module _ {file : List ℕ} {w₀ w : Rack} {done n : ℕ} (g : Going file w₀ w done n) where
  pub going_ends : done ≡ facets file → Gathers file (length w₀.links) (Some n) w.words w.corners
  unfolding Gathers points_in corners_in met_by Kept Named numbers
  going_ends h =
      let p : RackedTo file w (3 * facets file) n = subst (λ (z : ℕ). RackedTo file w (3 * z) n) h g.racked in
      record {
        count = p.count;
        within = rw (← g.same.links_same) p.within;
        words_are =
            ap (λ (z : ℕ). take (3 * z) w.words) p.count
            ∙ take_flat (met_by file (3 * facets file)) w.words (omega (arith, p.count, p.within, p.words_long)) (λ j m. p.kept j (subst (λ (z : ℕ). j < z) (sym p.count) m));
        corners_are =
            take_corners file _ w.corners (3 * facets file) g.room
            (λ j m. let s = p.named j m in
            sym (ap (λ (x : Three). index_or agree none (stands agree none (met_by file (3 * facets file)) x)) (sym s.1)
            ∙ ap (index_or agree none)
            (stands_at agree none (met_by file (3 * facets file)) (get_or w.corners j 0) (uses_distinct agree none (corners_to file (3 * facets file)))
            (subst (λ (z : ℕ). get_or w.corners j 0 < z) p.count s.0) (agree_self _))));
      }

  -- a facet more begins here
  module _ (more : done < facets file) where
    module _ {w' : Rack} (same : SameSizes w w') where
      pub going_stops : (ws cs : List ℕ) → Settled file w' (3 * done + 3) None → Gathers file (length w₀.links) None ws cs
      unfolding Gathers points_in met_by
      going_stops ws cs s = rw (← g.same.links_same, ← same.links_same) (settled_full file w' (3 * done + 3) (3 * facets file) s (omega (arith, more)))

      pub going_on : {m : ℕ} → Settled file w' (3 * done + 3) (Some m) → Going file w₀ w' (done + 1) m
      going_on s =
          record {
            racked = settled_racked file w' (3 * done + 3) s (omega arith);
            whole = g.whole;
            few = g.few;
            room = rw same.corners_same g.room;
            same = sizes_go_on g.same same;
          }
