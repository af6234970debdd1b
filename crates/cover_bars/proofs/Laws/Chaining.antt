-- One edge more is chained: it becomes the head of the chain of the point it leaves, the old head comes behind it, and all others stay.
-- So edges come behind others one by one.
use mathlib.Core.Path.{◌≡◌, refl, sym, ap, ◌∙◌, subst}
use mathlib.Core.Bool.{Bool, true, false, ◌||◌}
use mathlib.Core.List.{List, [], ◌∷◌, ◌++◌, append-nil, append_assoc}
use mathlib.Core.Logic.{⊎_elim}
use Prim.Native.Nat.{ℕ, zero, suc, ◌+◌, ◌^◌, ◌<◌, ◌≤◌}
use native.Mathlib.Nat.{not-suc-le-zero, le_refl}
use native.Mathlib.Omega.{arith}
use lib.ListN.{length, get_or, set, length-set, length-append, get_or-append}
use lib.Seq.{get_or-set_same, get_or-set_other, get_or-append_seam}
use borrow.Author.Count.{below_more}
use borrow.Author.Tests.{eq-eqb, ne_eqb}
use Rattle.base_limits.specs.Limits as limits
use Rattle.surface_rules.proofs.Laws.Tests.{eq_or_not}
use Rattle.surface_rules.proofs.Laws.Lists.{next_set}
use Rattle.surface_twins.specs.Workings.Chains.{top}
use Rattle.surface_twins.proofs.Laws.Tops.{top_none, top_hit, top_miss}
use Rattle.cover_bars.specs.Bars.{between}
use Rattle.cover_bars.specs.Workings.Chains.{Edge, edge_of, joins, leaves, Chained, ChainRoom, ChainDone, Tells}
use Rattle.cover_bars.proofs.Laws.Joins.{joins_append}

-- two properties that agree below n have the same top
top_same : (p q : ℕ → Bool) (n : ℕ) → ((k : ℕ) → k < n → p k ≡ q k) → top p n ≡ top q n
unfolding top
top_same p q zero w = refl
top_same p q (suc n) w = rw (top_same p q n (λ k l. w k (omega arith)), w n (le_refl (suc n)))

-- edge e of the list
abbrev at : List Edge → ℕ → Edge
at es e = get_or es e (edge_of 0 0)

-- ---- one edge more at the end

module _ (es : List Edge) (x : Edge) where
  at_old : (k : ℕ) → k < length es → at (es ++ (x ∷ [])) k ≡ at es k
  at_old k l = get_or-append es (x ∷ []) (edge_of 0 0) k l

  at_new : at (es ++ (x ∷ [])) (length es) ≡ x
  at_new = get_or-append_seam es x [] (edge_of 0 0)

  one_longer : length (es ++ (x ∷ [])) ≡ length es + 1
  one_longer = length-append es (x ∷ [])

  leaves_old : (u k : ℕ) → k < length es → leaves (es ++ (x ∷ [])) u k ≡ leaves es u k
  unfolding leaves
  leaves_old u k l = rw (at_old k l)

  leaves_new : (u : ℕ) → x.from ≡ u → leaves (es ++ (x ∷ [])) u (length es) ≡ true
  unfolding leaves
  leaves_new u e = rw at_new (eq-eqb x.from u e)

  leaves_not : (u : ℕ) → (x.from ≡ u → ⊥) → leaves (es ++ (x ∷ [])) u (length es) ≡ false
  unfolding leaves
  leaves_not u e = rw at_new (ne_eqb x.from u e)

  top_old : (u k : ℕ) → k ≤ length es → top (leaves (es ++ (x ∷ [])) u) k ≡ top (leaves es u) k
  top_old u k l = top_same (leaves (es ++ (x ∷ [])) u) (leaves es u) k (λ i m. leaves_old u i (omega arith))

module _ {es : List Edge} {heads links ends : List ℕ} (c : Chained es heads links ends) (u v : ℕ) (room : ChainRoom (length es) u v heads links ends) where
  all : List Edge
  all = es ++ (edge_of u v ∷ [])

  long : length all ≡ length es + 1
  unfolding all
  long = one_longer es (edge_of u v)

  -- what holds of the old edges and of the new one
  each : (P : ℕ → Edge → Type 0) → ((k : ℕ) → k < length es → P k (at es k)) → P (length es) (edge_of u v) → (k : ℕ) → k < length all → P k (at all k)
  unfolding all
  each P w x k l =
      below_more (λ (k : ℕ). P k (at all k)) (length es) (λ k m. subst (P k) (sym (at_old es (edge_of u v) k m)) (w k m)) (subst (P (length es)) (sym (at_new es (edge_of u v))) x) k
      (subst (λ (z : ℕ). k < z) long l)

  headed_more : (w : ℕ) → w < limits.points → get_or (set heads u (length es + 1)) w 0 ≡ top (leaves all w) (length all)
  unfolding all
  headed_more w l =
      ⊎_elim
      (λ (q : w ≡ u).
      rw (q, get_or-set_same heads u (length es + 1) 0 (rw c.heads_long room.leaves_inside))
      (sym (ap (top (leaves all u)) long ∙ top_hit (leaves all u) (length es) (leaves_new es (edge_of u v) u refl))))
      (λ (q : w ≡ u → ⊥).
      get_or-set_other heads u w (length es + 1) 0 q ∙ c.headed w l ∙ sym (top_old es (edge_of u v) w (length es) (le_refl (length es)))
      ∙ sym (ap (top (leaves all w)) long ∙ top_miss (leaves all w) (length es) (leaves_not es (edge_of u v) w (λ e. q (sym e)))))
      (eq_or_not w u)

  linked_more : (k : ℕ) → k < length all → get_or (set links (length es) (get_or heads u 0)) k 0 ≡ top (leaves all (at all k).from) k
  unfolding all
  linked_more k l =
      next_set (λ (k x : ℕ). x ≡ top (leaves all (at all k).from) k) links (length es) (get_or heads u 0) room.links_room
      (λ k m.
      c.linked k m
      ∙ sym (top_old es (edge_of u v) (at es k).from k (omega arith))
      ∙ ap (λ (x : Edge). top (leaves all x.from) k) (sym (at_old es (edge_of u v) k m)))
      (c.headed u room.leaves_inside
      ∙ sym (top_old es (edge_of u v) u (length es) (le_refl (length es)))
      ∙ ap (λ (x : Edge). top (leaves all x.from) (length es)) (sym (at_new es (edge_of u v)))) k
      (subst (λ (z : ℕ). k < z) long l)

  ended_more : (k : ℕ) → k < length all → get_or (set ends (length es) v) k 0 ≡ (at all k).to
  unfolding all
  ended_more k l =
      next_set (λ (k x : ℕ). x ≡ (at all k).to) ends (length es) v room.ends_room
      (λ k m. c.ended k m ∙ ap (λ (x : Edge). x.to) (sym (at_old es (edge_of u v) k m)))
      (ap (λ (x : Edge). x.to) (sym (at_new es (edge_of u v)))) k
      (subst (λ (z : ℕ). k < z) long l)

  chained_more : Chained (es ++ (edge_of u v ∷ [])) (set heads u (length es + 1)) (set links (length es) (get_or heads u 0)) (set ends (length es) v)
  unfolding all
  chained_more =
      let a : length es < length links = room.links_room in
      let b : length es < length ends = room.ends_room in
      let n : length all ≡ length es + 1 = long in
      record {
        heads_long = length-set heads u (length es + 1) ∙ c.heads_long;
        links_room = rw (length-set links (length es) (get_or heads u 0)) (omega arith);
        ends_room = rw (length-set ends (length es) v) (omega arith);
        inside = each (λ (k : ℕ) (x : Edge). (x.from < limits.points) × (x.to < limits.points)) c.inside (room.leaves_inside, room.ends_inside);
        headed = headed_more;
        linked = linked_more;
        ended = ended_more;
      }

-- ---- the first edge

pub chained_none : {heads links ends : List ℕ} → length heads ≡ limits.points → ((u : ℕ) → u < limits.points → get_or heads u 0 ≡ 0) → Chained [] heads links ends
chained_none long none =
    record {
      heads_long = long;
      links_room = omega arith;
      ends_room = omega arith;
      inside = λ e l. absurd (not-suc-le-zero l);
      headed = λ u l. none u l ∙ sym (top_none (leaves [] u));
      linked = λ e l. absurd (not-suc-le-zero l);
      ended = λ e l. absurd (not-suc-le-zero l);
    }

-- ---- as the code does it

pub chain_does : {e u v : ℕ} {heads links ends : List ℕ} → ChainRoom e u v heads links ends
    → ChainDone e u v heads links ends (set heads u (e + 1)) (set links e (get_or heads u 0)) (set ends e v)
chain_does {e} {u} {v} {heads} {links} {ends} room =
    record {
      heads_long = length-set heads u (e + 1) ∙ room.heads_long;
      links_kept = length-set links e (get_or heads u 0);
      ends_kept = length-set ends e v;
      more =
          λ es q c.
          subst (λ (z : ℕ). Chained (es ++ (edge_of u v ∷ [])) (set heads u (z + 1)) (set links z (get_or heads u 0)) (set ends z v)) q
          (chained_more c u v (subst (λ (z : ℕ). ChainRoom z u v heads links ends) (sym q) room));
    }

-- ---- edges behind others

-- these edges come behind the e edges that were chained before, whichever those are
pub record Behind (e : ℕ) (heads₀ links₀ ends₀ : List ℕ) (fs : List Edge) (heads links ends : List ℕ) : Type 0 where
  pub heads_long : length heads ≡ limits.points
  pub links_kept : length links ≡ length links₀
  pub ends_kept : length ends ≡ length ends₀
  pub chained : (es : List Edge) → length es ≡ e → Chained es heads₀ links₀ ends₀ → Chained (es ++ fs) heads links ends

pub behind_none : {e : ℕ} {heads links ends : List ℕ} {fs : List Edge} → length heads ≡ limits.points → fs ≡ [] → Behind e heads links ends fs heads links ends
behind_none {heads} {links} {ends} longs none =
    record {
      heads_long = longs;
      links_kept = refl;
      ends_kept = refl;
      chained = λ es n c. subst (λ (z : List Edge). Chained z heads links ends) (sym (ap (λ (t : List Edge). es ++ t) none ∙ append-nil es)) c;
    }

module _ {e : ℕ} {heads₀ links₀ ends₀ : List ℕ} {fs : List Edge} {heads links ends : List ℕ} (b : Behind e heads₀ links₀ ends₀ fs heads links ends) where
  pub behind_room : {f u v : ℕ} → f < length links₀ → f < length ends₀ → u < limits.points → v < limits.points → f + 1 < 2 ^ 16 → ChainRoom f u v heads links ends
  behind_room l m x y few =
      record {
        heads_long = b.heads_long;
        links_room = omega (arith, b.links_kept);
        ends_room = omega (arith, b.ends_kept);
        leaves_inside = x;
        ends_inside = y;
        few = few;
      }

  pub behind_more : {f u v : ℕ} {gs : List Edge} {heads' links' ends' : List ℕ} → e + length fs ≡ f → gs ≡ fs ++ (edge_of u v ∷ [])
      → ChainDone f u v heads links ends heads' links' ends' → Behind e heads₀ links₀ ends₀ gs heads' links' ends'
  behind_more {u} {v} {heads'} {links'} {ends'} many is done =
      record {
        heads_long = done.heads_long;
        links_kept = done.links_kept ∙ b.links_kept;
        ends_kept = done.ends_kept ∙ b.ends_kept;
        chained =
            λ es n c.
            subst (λ (z : List Edge). Chained z heads' links' ends') (append_assoc es fs (edge_of u v ∷ []) ∙ ap (λ (t : List Edge). es ++ t) (sym is))
            (done.more (es ++ fs) (omega (arith, length-append es fs)) (b.chained es n c));
      }

  -- where the edges before tell what `laid` joins, all tell what they and `laid` join
  pub behind_tells : {input laid more : List ℕ} {r : ℕ} → e + length fs ≡ r
      → ((u v : ℕ) → ((between input u v || between laid u v) || joins fs u v) ≡ (between input u v || between more u v))
      → Tells input laid e heads₀ links₀ ends₀ → Tells input more r heads links ends
  behind_tells many same told =
      record {
        edges = told.edges ++ fs;
        many = omega (arith, length-append told.edges fs, told.many);
        chained = b.chained told.edges told.many told.chained;
        same = λ u v. joins_append told.edges fs u v ∙ ap (λ (s : Bool). s || joins fs u v) (told.same u v) ∙ same u v;
      }
