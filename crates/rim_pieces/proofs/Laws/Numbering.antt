-- Piece after piece: the smallest triangle without a number is the root of the next, and when none is left each has the number of its piece.
use mathlib.Core.Path.{◌≡◌, refl, sym, ap, ◌∙◌, subst}
use mathlib.Core.List.{List}
use Prim.Native.Nat.{ℕ, ◌+◌, ◌<◌, ◌≤◌}
use native.Mathlib.Nat.{not-suc-le-zero}
use native.Mathlib.Omega.{arith}
use lib.ListN.{length}
use Rattle.base_limits.specs.Limits as limits
use Rattle.surface_rules.specs.Edges.{Sound}
use Rattle.rim_pieces.specs.Pieces.{triangle_count, Shares, Joined, itself, onward}
use Rattle.rim_pieces.specs.Workings.Flooding.{none, label, Flooded, flooded, label_at, Flood, Closed, Flooding, Between, Numbers}
use Rattle.rim_pieces.proofs.Laws.Joining.{shared_in}
use Rattle.rim_pieces.proofs.Laws.Pushing.{last_or, push, pushed, push_stays, push_since, room, label_here}
use Rattle.rim_pieces.proofs.Laws.Spreading.{closed_stays}

-- no triangle has a number yet
pub between_begins : {corners queue pieces : List ℕ} → triangle_count corners ≤ length queue → triangle_count corners ≤ length pieces
    → ((t : ℕ) → t < triangle_count corners → label pieces t ≡ none) → Between corners 0 0 (flooded queue 0 pieces)
unfolding Closed
between_begins a b clear = record {
  flood = record {
    queue_long = a;
    pieces_long = b;
    few = omega arith;
    top = λ t l. let e = clear t l in omega arith;
    within = omega arith;
    queued_in = λ i l. absurd (not-suc-le-zero l);
    queued_labelled = λ i l. absurd (not-suc-le-zero l);
    queued_once = λ i j l m e. absurd (not-suc-le-zero l);
    labelled_queued = λ t l m. let e = clear t l in absurd (omega arith);
    most = λ t l m. let e = clear t l in absurd (omega arith);
    joined = λ t u l k m q. let e = clear t l in absurd (omega arith);
    in_order = λ t n l m h. let e = clear t l in absurd (omega arith);
    below_root = λ t l. absurd (not-suc-le-zero l);
    numbers_given = λ n l. absurd (not-suc-le-zero l);
  };
  within = omega arith;
  no_more = omega arith;
  smaller = λ u l m. let e = clear u l in absurd (omega arith);
  closed = λ i l. absurd (not-suc-le-zero l);
}

-- the root has its number, so the flood may go on from the next triangle, with the same number or the next
flood_on : {corners : List ℕ} {root p p' : ℕ} {at : Flooded} → Flood corners root p at → label_at at root < none → p ≤ p' → p' < none
    → ((n : ℕ) → n < p' → (u : ℕ) × (u < root + 1) × (label_at at u ≡ n)) → Flood corners (root + 1) p' at
flood_on {root = root} {at = at} f here l few given = record {
  queue_long = f.queue_long;
  pieces_long = f.pieces_long;
  few = few;
  top = f.top;
  within = f.within;
  queued_in = f.queued_in;
  queued_labelled = f.queued_labelled;
  queued_once = f.queued_once;
  labelled_queued = f.labelled_queued;
  most = λ u h k. let a = f.most u h k in omega arith;
  joined = f.joined;
  in_order = f.in_order;
  below_root = λ u h. last_or u root h (λ (e : u ≡ root). subst (λ (v : ℕ). label_at at v < none) (sym e) here) (λ (k : u < root). f.below_root u k);
  numbers_given = given;
}

module _ {corners : List ℕ} {t p : ℕ} {at : Flooded} (b : Between corners t p at) (l : t < triangle_count corners) where
  -- t has a number: it is passed
  pub between_passes : (label_at at t ≡ none → ⊥) → Between corners (t + 1) p at
  between_passes n =
      let f = b.flood in
      let k = f.top t l in
      record {
        flood = flood_on f (omega arith) (omega arith) f.few (λ m h. let g = f.numbers_given m h in (g.0, (let z = g.1 in omega arith), g.2));
        within = omega arith;
        no_more = let a = b.no_more in omega arith;
        smaller = b.smaller;
        closed = b.closed;
      }

  -- t has none: it is the root of piece p
  module _ (free : label_at at t ≡ none) where
    kin : (u : ℕ) → u < triangle_count corners → label_at at u ≡ p → Joined corners u t
    kin u h e = let w = b.flood.few in let s = b.smaller u h (omega arith) in absurd (omega arith)

    pub root_room : at.count < triangle_count corners
    root_room = room b.flood l free kin

    pub root_floods : Flooding corners t p at.count at.count (push at t p)
    root_floods = record {
      flood = pushed b.flood l free kin;
      rooted = label_here b.flood l free kin;
      begun = omega arith;
      upto = omega arith;
      closed = closed_stays corners (push_stays b.flood l free kin) at.count (omega arith) b.flood.queued_labelled b.closed;
      since = push_since b.flood l free kin;
    }

-- the piece is flooded
pub between_more : {corners : List ℕ} → length corners ≤ limits.corners → {t p start : ℕ} {at : Flooded} → t < triangle_count corners → p ≤ t
    → Flooding corners t p start at.count at → Between corners (t + 1) (p + 1) at
between_more small {t} {p} {at = at} l m g =
    let f = g.flood in
    let r : label_at at t ≡ p = g.rooted in
    let w = f.few in
    record {
      flood =
          flood_on f (omega arith) (omega arith) (omega arith)
          (λ n h. last_or n p h (λ (e : n ≡ p). (t, omega arith, r ∙ sym e)) (λ (k : n < p). let z = f.numbers_given n k in (z.0, (let y = z.1 in omega arith), z.2)));
      within = omega arith;
      no_more = omega arith;
      smaller = λ u h k. let a = f.most u h k in omega arith;
      closed = g.closed;
    }

-- no triangle is left
module _ {corners : List ℕ} (sound : Sound corners) {t p : ℕ} {at : Flooded} (b : Between corners t p at) (l : triangle_count corners ≤ t) where
  labelled : (u : ℕ) → u < triangle_count corners → label_at at u < none
  labelled u h = b.flood.below_root u (omega arith)

  across : (u v : ℕ) → u < triangle_count corners → Shares corners u v → label_at at v ≡ label_at at u
  unfolding Closed
  across u v h s =
      let q = b.flood.labelled_queued u h (labelled u h) in
      b.closed q.0 q.1 v (subst (λ (x : ℕ). Shares corners x v) (sym q.2) s) ∙ ap (label_at at) q.2

  along : (u v : ℕ) → u < triangle_count corners → Joined corners u v → (v < triangle_count corners) × (label_at at v ≡ label_at at u)
  along u v h itself = (h, refl)
  along u v h (onward x y j s) =
      let a = along u x h j in
      (shared_in corners sound x v s, across x v a.0 s ∙ a.1)

  pub between_ends : Numbers corners p at.pieces
  between_ends = record {
    numbered = record {
      alike = λ u v lu lv j. sym (along u v lu j).1;
      apart = λ u v lu lv e. b.flood.joined u v lu lv (labelled u lu) e;
      in_order = λ u n lu h. b.flood.in_order u n lu (labelled u lu) h;
    };
    below = λ u h. b.smaller u h (labelled u h);
    few = let x = b.no_more in let y = b.within in omega arith;
    all_given = λ n h. let z = b.flood.numbers_given n h in (z.0, (let y = z.1 in let w = b.within in omega arith), z.2);
  }
