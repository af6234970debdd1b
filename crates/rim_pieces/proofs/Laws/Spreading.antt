-- The flood goes on: what has a number keeps it, so what was closed stays closed; and a triangle that shares an edge with one of piece p and has a
-- number has p, since it is of this flood or was closed before it.
use Rattle.std.specs.Prelude.{Option, Some, None}
use mathlib.Core.Path.{◌≡◌, refl, sym, ap, ◌∙◌, subst}
use mathlib.Core.List.{List}
use mathlib.Core.Logic.{⊎_elim}
use Prim.Native.Nat.{ℕ, ◌+◌, ◌*◌, ◌/◌, ◌<◌, ◌≤◌}
use native.Mathlib.Omega.{arith}
use lib.ListN.{length, get_or}
use Rattle.surface_rules.specs.Edges.{Sound, following, twin}
use Rattle.surface_rules.proofs.Laws.Tests.{eq_or_not, lt_or_le}
use Rattle.surface_rules.proofs.Laws.Edges.{twin_says, below_after}
use Rattle.loop_leaders.specs.Workings.Leading.{walked_mark}
use Rattle.rim_pieces.specs.Pieces.{triangle_count, Shares, Joined}
use Rattle.rim_pieces.specs.Workings.Flooding.{none, Flooded, queued, label_at, Crossing, Flood, Closed, Since, Stay, Flooding, Visited}
use Rattle.rim_pieces.proofs.Laws.Joining.{join_on, join_one, share_back, twin_shares, shares_twin, shared_in}
use Rattle.rim_pieces.proofs.Laws.Pushing.{last_or, push, pushed, push_stays, push_since, room, label_here}

-- ---- what stays

pub stay_same : {at : Flooded} → Stay at at
stay_same = record { more = omega arith; same_queue = λ i l. refl; same_label = λ t l. refl }

pub stay_on : {at at' at'' : Flooded} → Stay at at' → Stay at' at'' → Stay at at''
stay_on f g = record {
  more = let i = f.more in let j = g.more in omega arith;
  same_queue = λ i l. g.same_queue i (let m = f.more in omega arith) ∙ f.same_queue i l;
  same_label = λ t l. let e = f.same_label t l in g.same_label t (omega arith) ∙ e;
}

module _ (corners : List ℕ) {at at' : Flooded} (s : Stay at at') where
  -- what is closed stays closed
  pub closed_stays : (done : ℕ) → done ≤ at.count → ((i : ℕ) → i < at.count → label_at at (queued at i) < none) → Closed corners done at → Closed corners done at'
  unfolding Closed
  closed_stays done l labelled c i h u w =
      let e : queued at' i ≡ queued at i = s.same_queue i (omega arith) in
      let m : label_at at (queued at i) < none = labelled i (omega arith) in
      let k : label_at at u ≡ label_at at (queued at i) = c i h u (subst (λ (t : ℕ). Shares corners t u) e w) in
      s.same_label u (omega arith) ∙ k ∙ sym (s.same_label (queued at i) m) ∙ ap (label_at at') (sym e)

  pub since_stays : (start p : ℕ) → p < none → Since start p at → Since at.count p at' → Since start p at'
  unfolding Since
  since_stays start p few a b i l h =
      ⊎_elim
      (λ (k : i < at.count).
      let m : label_at at (queued at i) ≡ p = a i l k in
      ap (label_at at') (s.same_queue i k) ∙ s.same_label (queued at i) (omega arith) ∙ m)
      (λ (k : at.count ≤ i). b i k h)
      (lt_or_le i at.count)

  pub flooding_stays : {root p start done : ℕ} → Flooding corners root p start done at → Flood corners root p at' → Since at.count p at'
      → Flooding corners root p start done at'
  flooding_stays {root} {p} {start} {done} f g n = record {
    flood = g;
    rooted = let r = f.rooted in let w = f.flood.few in s.same_label root (omega arith) ∙ r;
    begun = f.begun;
    upto = let a = f.upto in let b = s.more in omega arith;
    closed = closed_stays done f.upto f.flood.queued_labelled f.closed;
    since = since_stays start p f.flood.few f.since n;
  }

-- ---- one half-edge

same_triangle : (g : ℕ) → following g / 3 ≡ g / 3
unfolding following
same_triangle g = omega arith

module _ {corners turns : List ℕ} (x : Crossing corners turns) (h : ℕ) (l : h < length corners) where
  -- by what stands in the table
  pub open_none : walked_mark ≤ get_or turns h 0 → twin corners h ≡ None
  open_none m = go (twin corners h) refl
    where
      go : (f : Option ℕ) → twin corners h ≡ f → twin corners h ≡ None
      go (Some g) e =
          let a = x.shared h g l e in
          let b = below_after corners x.sound g (twin_says corners h g e).0 in
          let c = x.few in
          absurd (omega arith)
      go None e = e

  pub shared_at : get_or turns h 0 < walked_mark → (g : ℕ) × (twin corners h ≡ Some g) × (get_or turns h 0 / 3 ≡ g / 3) × (g / 3 < triangle_count corners)
  shared_at m = go (twin corners h) refl
    where
      go : (f : Option ℕ) → twin corners h ≡ f → (g : ℕ) × (twin corners h ≡ Some g) × (get_or turns h 0 / 3 ≡ g / 3) × (g / 3 < triangle_count corners)
      go (Some g) e =
          let a = x.shared h g l e in
          let b = (twin_says corners h g e).0 in
          let c = x.sound.triples in
          (g, e, ap (λ (k : ℕ). k / 3) a ∙ same_triangle g, omega arith)
      go None e = let a = x.unshared h l e in absurd (omega arith)

module _ {corners turns : List ℕ} {root p start done : ℕ} {at : Flooded} (x : Crossing corners turns) (h : ℕ) (l : h < length corners)
    (mine : label_at at (h / 3) ≡ p) (f : Flooding corners root p start done at) where
  pub visit_open : walked_mark ≤ get_or turns h 0 → Visited corners h root p start done at at
  visit_open m = record {
    flooding = f;
    stay = stay_same;
    across = λ g e. absurd (let a = open_none x h l m in let z : ◌≡◌ {A = ℕ} 0 1 = cc in omega arith);
  }

  -- across h lies u
  pub visit_old : get_or turns h 0 < walked_mark → (label_at at (get_or turns h 0 / 3) ≡ none → ⊥) → Visited corners h root p start done at at
  visit_old m n =
      let s = shared_at x h l m in
      let b = f.flood.top (s.0 / 3) s.3 in
      let e : label_at at (get_or turns h 0 / 3) ≡ label_at at (s.0 / 3) = ap (label_at at) s.2 in
      let k : label_at at (s.0 / 3) < none = let o : label_at at (s.0 / 3) ≡ none → ⊥ = λ q. n (e ∙ q) in omega arith in
      record {
        flooding = f;
        stay = stay_same;
        across = λ g q. let w : s.0 ≡ g = (let a = s.1 in cc) in subst (λ (v : ℕ). label_at at (v / 3) < none) w k;
      }

  -- and has no number yet
  module _ (m : get_or turns h 0 < walked_mark) (n : label_at at (get_or turns h 0 / 3) ≡ none) where
    abbrev u : ℕ
    u = get_or turns h 0 / 3

    u_in : u < triangle_count corners
    u_in = let s = shared_at x h l m in let a = s.2 in let b = s.3 in omega arith

    h_in : h / 3 < triangle_count corners
    h_in = let c = x.sound.triples in omega arith

    h_shares : Shares corners (h / 3) u
    h_shares =
        let s = shared_at x h l m in
        subst (Shares corners (h / 3)) (sym s.2) (twin_shares corners h s.0 l s.1)

    kin : (t : ℕ) → t < triangle_count corners → label_at at t ≡ p → Joined corners t u
    kin t i e = join_on (f.flood.joined t (h / 3) i h_in (let w = f.flood.few in omega arith) (e ∙ sym mine)) (join_one h_shares)

    pub visit_room : at.count < triangle_count corners
    visit_room = room f.flood u_in n kin

    pub visit_new : Visited corners h root p start done at (push at u p)
    visit_new =
        let st = push_stays f.flood u_in n kin in
        let s = shared_at x h l m in
        record {
          flooding = flooding_stays corners st f (pushed f.flood u_in n kin) (push_since f.flood u_in n kin);
          stay = st;
          across = λ g q.
              let w : s.0 ≡ g = (let a = s.1 in cc) in
              let e : label_at (push at u p) u ≡ p = label_here f.flood u_in n kin in
              let k : label_at (push at u p) u < none = let y = f.flood.few in omega arith in
              subst (λ (v : ℕ). label_at (push at u p) v < none) (s.2 ∙ ap (λ (v : ℕ). v / 3) w) k;
        }

-- ---- one triangle

-- a triangle that has a number and shares an edge with one of number p has p
pub neighbour_same : {corners : List ℕ} → Sound corners → {root p start done : ℕ} {at : Flooded} → Flooding corners root p start done at
    → {t u : ℕ} → label_at at t ≡ p → Shares corners t u → label_at at u < none → label_at at u ≡ p
unfolding Closed Since
neighbour_same {corners} sound {start = start} {at = at} f {t} {u} e s m =
    let q = f.flood.labelled_queued u (shared_in corners sound t u s) m in
    let k : label_at at (queued at q.0) ≡ label_at at u = ap (label_at at) q.2 in
    ⊎_elim
    (λ (l : q.0 < start).
    let c = f.closed q.0 (let b = f.begun in omega arith) t (subst (λ (v : ℕ). Shares corners v t) (sym q.2) (share_back s)) in
    sym k ∙ sym c ∙ e)
    (λ (l : start ≤ q.0). sym k ∙ f.since q.0 l q.1)
    (lt_or_le q.0 start)

module _ {corners : List ℕ} (sound : Sound corners) {t root p start done : ℕ} {at₀ at₁ at₂ at₃ : Flooded}
    (next : done < at₀.count) (here : queued at₀ done ≡ t) (f : Flooding corners root p start done at₀)
    (v₀ : Visited corners (3 * t) root p start done at₀ at₁)
    (v₁ : Visited corners (3 * t + 1) root p start done at₁ at₂)
    (v₂ : Visited corners (3 * t + 2) root p start done at₂ at₃) where
  all_stay : Stay at₀ at₃
  all_stay = stay_on v₀.stay (stay_on v₁.stay v₂.stay)

  t_label : label_at at₃ t ≡ p
  unfolding Since
  t_label =
      let a : label_at at₀ t ≡ p = ap (label_at at₀) (sym here) ∙ f.since done f.begun next in
      let w = f.flood.few in
      all_stay.same_label t (omega arith) ∙ a

  across_all : (u : ℕ) → Shares corners t u → label_at at₃ u < none
  across_all u s =
      let e : twin corners s.here ≡ Some s.there = shares_twin corners sound t u s in
      let a = s.of_first in
      let b : s.there / 3 ≡ u = s.of_second in
      let first : s.here ≡ 3 * t → label_at at₃ u < none = λ i.
      let m : label_at at₁ (s.there / 3) < none = v₀.across s.there (ap (twin corners) (sym i) ∙ e) in
      let n = (stay_on v₁.stay v₂.stay).same_label (s.there / 3) m in
      subst (λ (v : ℕ). label_at at₃ v < none) b (omega arith) in
      let second : s.here ≡ 3 * t + 1 → label_at at₃ u < none = λ i.
      let m : label_at at₂ (s.there / 3) < none = v₁.across s.there (ap (twin corners) (sym i) ∙ e) in
      let n = v₂.stay.same_label (s.there / 3) m in
      subst (λ (v : ℕ). label_at at₃ v < none) b (omega arith) in
      let third : s.here ≡ 3 * t + 2 → label_at at₃ u < none = λ i.
      let m : label_at at₃ (s.there / 3) < none = v₂.across s.there (ap (twin corners) (sym i) ∙ e) in
      subst (λ (v : ℕ). label_at at₃ v < none) b m in
      ⊎_elim first (λ (i : s.here ≡ 3 * t → ⊥). ⊎_elim second (λ (j : s.here ≡ 3 * t + 1 → ⊥). third (omega arith)) (eq_or_not s.here (3 * t + 1))) (eq_or_not s.here (3 * t))

  pub around_done : Flooding corners root p start (done + 1) at₃
  unfolding Closed
  around_done =
      let g = v₂.flooding in
      record {
        flood = g.flood;
        rooted = g.rooted;
        begun = let a = f.begun in omega arith;
        upto = let a = all_stay.more in omega arith;
        closed = closed_one;
        since = g.since;
      }
    where
      closed_one : Closed corners (done + 1) at₃
      closed_one i l u s =
          let g = v₂.flooding in
          last_or i done l
          (λ (a : i ≡ done).
          let e : queued at₃ i ≡ t = ap (queued at₃) a ∙ all_stay.same_queue done next ∙ here in
          let w : Shares corners t u = subst (λ (v : ℕ). Shares corners v u) e s in
          neighbour_same sound g t_label w (across_all u w) ∙ sym t_label ∙ ap (label_at at₃) (sym e))
          (λ (a : i < done). g.closed i a u s)
