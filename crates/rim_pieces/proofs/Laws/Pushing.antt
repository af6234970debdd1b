-- One triangle more in the flood: it has no number, so it stands not in the queue, and there is room for it, by the pigeonhole; it lies behind
-- the root, since all before that have a number, so the smaller numbers were given before it.
use mathlib.Core.Path.{◌≡◌, refl, sym, ap, ◌∙◌, subst}
use mathlib.Core.Bool.{cond}
use mathlib.Core.List.{List}
use mathlib.Core.Logic.{⊎_elim}
use Prim.Native.Nat.{ℕ, ◌+◌, ◌<◌, ◌≤◌}
use native.Mathlib.Omega.{arith}
use lib.Dec.{eqb}
use lib.ListN.{set, length-set}
use lib.Seq.{get_or-set_same, get_or-set_other}
use borrow.Author.Tests.{eq-eqb, ne_eqb}
use Rattle.surface_rules.proofs.Laws.Tests.{eq_or_not, lt_or_le}
use Rattle.loop_rules.proofs.Laws.Pigeon.{pigeon}
use Rattle.rim_pieces.specs.Pieces.{triangle_count, Joined, itself}
use Rattle.rim_pieces.specs.Workings.Flooding.{none, Flooded, flooded, queued, label_at, Flood, Since, Stay}
use Rattle.rim_pieces.proofs.Laws.Joining.{join_back}

-- the case that i is the last, or before it
pub last_or : {A : Type 0} (i n : ℕ) → i < n + 1 → (i ≡ n → A) → (i < n → A) → A
last_or i n l f g = ⊎_elim (λ (h : i < n). g h) (λ (h : n ≤ i). f (omega arith)) (lt_or_le i n)

-- u, with number p, is the last of the queue
abbrev pub push : Flooded → ℕ → ℕ → Flooded
push at u p = flooded (set at.queue at.count u) (at.count + 1) (set at.pieces u p)

module _ {corners : List ℕ} {root p : ℕ} {at : Flooded} {u : ℕ} (f : Flood corners root p at)
    (inside : u < triangle_count corners) (free : label_at at u ≡ none)
    (kin : (t : ℕ) → t < triangle_count corners → label_at at t ≡ p → Joined corners t u) where
  -- u stands not in the queue
  absent : (i : ℕ) → i < at.count → queued at i ≡ u → ⊥
  absent i l e =
      let a : label_at at (queued at i) < none = f.queued_labelled i l in
      let b : label_at at (queued at i) ≡ none = ap (label_at at) e ∙ free in
      omega arith

  -- the queue with u behind it
  abbrev longer : ℕ → ℕ
  longer i = cond (eqb i at.count) u (queued at i)

  longer_last : longer at.count ≡ u
  longer_last = rw (eq-eqb at.count at.count refl)

  longer_before : (i : ℕ) → i < at.count → longer i ≡ queued at i
  longer_before i l = rw (ne_eqb i at.count (λ (e : i ≡ at.count). omega arith))

  longer_once : (i j : ℕ) → i < at.count + 1 → j < at.count + 1 → longer i ≡ longer j → i ≡ j
  longer_once i j li lj e =
      last_or i at.count li
      (λ (a : i ≡ at.count).
      last_or j at.count lj (λ (b : j ≡ at.count). omega arith)
      (λ (b : j < at.count). absurd (absent j b (sym (longer_before j b) ∙ sym e ∙ ap longer a ∙ longer_last))))
      (λ (a : i < at.count).
      last_or j at.count lj (λ (b : j ≡ at.count). absurd (absent i a (sym (longer_before i a) ∙ e ∙ ap longer b ∙ longer_last)))
      (λ (b : j < at.count). f.queued_once i j a b (sym (longer_before i a) ∙ e ∙ longer_before j b)))

  longer_in : (i : ℕ) → i < at.count + 1 → longer i < triangle_count corners
  longer_in i l =
      last_or i at.count l (λ (a : i ≡ at.count). let e : longer i ≡ u = ap longer a ∙ longer_last in omega arith)
      (λ (a : i < at.count). let e = longer_before i a in let b = f.queued_in i a in omega arith)

  -- there is room for it
  pub room : at.count < triangle_count corners
  room =
      ⊎_elim (λ (l : at.count < triangle_count corners). l)
      (λ (l : triangle_count corners ≤ at.count).
      let n : ℕ = triangle_count corners in
      let e : at.count ≡ n = let w = f.within in omega arith in
      absurd (pigeon n longer (λ i h. longer_in i (omega arith)) (λ i j h k q. longer_once i j (omega arith) (omega arith) q)))
      (lt_or_le at.count (triangle_count corners))

  -- ---- what is left

  abbrev at' : Flooded
  at' = push at u p

  queue_last : queued at' at.count ≡ u
  queue_last = get_or-set_same at.queue at.count u 0 (let a = f.queue_long in let b = room in omega arith)

  queue_before : (i : ℕ) → i < at.count → queued at' i ≡ queued at i
  queue_before i l = get_or-set_other at.queue at.count i u 0 (λ (e : i ≡ at.count). omega arith)

  pub label_here : label_at at' u ≡ p
  label_here = get_or-set_same at.pieces u p 0 (let a = f.pieces_long in omega arith)

  label_there : (t : ℕ) → (t ≡ u → ⊥) → label_at at' t ≡ label_at at t
  label_there t n = get_or-set_other at.pieces u t p 0 n

  -- a triangle that has a number keeps it
  label_kept : (t : ℕ) → label_at at t < none → label_at at' t ≡ label_at at t
  label_kept t l = label_there t (λ (e : t ≡ u). let a : label_at at t ≡ none = ap (label_at at) e ∙ free in omega arith)

  -- the case that t is the new one, or has had its number
  new_or : {A : Type 0} (t : ℕ) → label_at at' t < none → (t ≡ u → A) → (label_at at t < none → label_at at' t ≡ label_at at t → A) → A
  new_or t l a b = ⊎_elim a (λ (n : t ≡ u → ⊥). let e = label_there t n in b (omega arith) e) (eq_or_not t u)

  labelled_here : label_at at' u < none
  labelled_here = let a = label_here in let b = f.few in omega arith

  -- u lies behind the root
  behind : root ≤ u
  behind = ⊎_elim (λ (l : u < root). let a = f.below_root u l in omega (arith, free)) (λ (l : root ≤ u). l) (lt_or_le u root)

  given : (n : ℕ) → n < p → (w : ℕ) × (w < root) × (label_at at' w ≡ n)
  given n l =
      let g = f.numbers_given n l in
      (g.0, g.1, label_kept g.0 (f.below_root g.0 g.1) ∙ g.2)

  join_all : (t v : ℕ) → t < triangle_count corners → v < triangle_count corners → label_at at' t < none → label_at at' t ≡ label_at at' v → Joined corners t v
  join_all t v lt lv m e =
      new_or t m
      (λ (a : t ≡ u).
      new_or v (subst (λ (k : ℕ). k < none) e m) (λ (b : v ≡ u). subst (Joined corners t) (a ∙ sym b) itself)
      (λ (k : label_at at v < none) (b : label_at at' v ≡ label_at at v).
      let w : label_at at v ≡ p = sym b ∙ sym e ∙ ap (label_at at') a ∙ label_here in
      subst (λ (x : ℕ). Joined corners x v) (sym a) (join_back (kin v lv w))))
      (λ (k : label_at at t < none) (a : label_at at' t ≡ label_at at t).
      new_or v (subst (λ (x : ℕ). x < none) e m)
      (λ (b : v ≡ u).
      let w : label_at at t ≡ p = sym a ∙ e ∙ ap (label_at at') b ∙ label_here in
      subst (Joined corners t) (sym b) (kin t lt w))
      (λ (r : label_at at v < none) (b : label_at at' v ≡ label_at at v). f.joined t v lt lv k (sym a ∙ e ∙ b)))

  pub pushed : Flood corners root p at'
  pushed = record {
    queue_long = rw length-set f.queue_long;
    pieces_long = rw length-set f.pieces_long;
    few = f.few;
    top = λ t l. ⊎_elim (λ (a : t ≡ u). let e : label_at at' t ≡ p = ap (label_at at') a ∙ label_here in let b = f.few in omega arith) (λ (n : t ≡ u → ⊥). let e = label_there t n in let b = f.top t l in omega arith) (eq_or_not t u);
    within = let r = room in omega arith;
    queued_in = λ i l. last_or i at.count l (λ (a : i ≡ at.count). let e : queued at' i ≡ u = ap (queued at') a ∙ queue_last in omega arith)
        (λ (a : i < at.count). let e = queue_before i a in let b = f.queued_in i a in omega arith);
    queued_labelled = λ i l. last_or i at.count l (λ (a : i ≡ at.count). subst (λ (k : ℕ). label_at at' k < none) (sym (ap (queued at') a ∙ queue_last)) labelled_here)
        (λ (a : i < at.count).
        let b = f.queued_labelled i a in
        let c : label_at at' (queued at' i) ≡ label_at at (queued at i) = ap (label_at at') (queue_before i a) ∙ label_kept (queued at i) b in
        omega arith);
    queued_once = λ i j li lj e. longer_once i j li lj (same_as i li ∙ e ∙ sym (same_as j lj));
    labelled_queued = λ t l m. new_or t m (λ (a : t ≡ u). (at.count, omega arith, queue_last ∙ sym a))
        (λ (k : label_at at t < none) (a : label_at at' t ≡ label_at at t).
        let q = f.labelled_queued t l k in
        (q.0, (let z = q.1 in omega arith), queue_before q.0 q.1 ∙ q.2));
    most = λ t l m. new_or t m (λ (a : t ≡ u). let e : label_at at' t ≡ p = ap (label_at at') a ∙ label_here in omega arith)
        (λ (k : label_at at t < none) (a : label_at at' t ≡ label_at at t). let b = f.most t l k in omega arith);
    joined = join_all;
    in_order = λ t n l m h. new_or t m
        (λ (a : t ≡ u).
        let e : label_at at' t ≡ p = ap (label_at at') a ∙ label_here in
        let g = given n (omega arith) in
        (g.0, (let z = g.1 in let y = behind in omega arith), g.2))
        (λ (k : label_at at t < none) (a : label_at at' t ≡ label_at at t).
        let g = f.in_order t n l k (omega arith) in
        let z : label_at at g.0 < none = let y = g.2 in omega arith in
        (g.0, g.1, label_kept g.0 z ∙ g.2));
    below_root = λ t l. let a = f.below_root t l in let b = label_kept t a in omega arith;
    numbers_given = given;
  }
    where
      same_as : (i : ℕ) → i < at.count + 1 → longer i ≡ queued at' i
      same_as i l = last_or i at.count l (λ (a : i ≡ at.count). ap longer a ∙ longer_last ∙ sym queue_last ∙ ap (queued at') (sym a))
          (λ (a : i < at.count). longer_before i a ∙ sym (queue_before i a))

  pub push_stays : Stay at at'
  push_stays = record { more = omega arith; same_queue = queue_before; same_label = label_kept }

  pub push_since : Since at.count p at'
  unfolding Since
  push_since i a b =
      let e : i ≡ at.count = omega arith in
      ap (λ (k : ℕ). label_at at' (queued at' k)) e ∙ ap (label_at at') queue_last ∙ label_here
