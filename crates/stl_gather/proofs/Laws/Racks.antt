-- One corner more is settled: its point has a number already, or becomes the head of its bucket with the next.
use mathlib.Core.Path.{◌≡◌, refl, sym, ap, ◌∙◌, subst}
use mathlib.Core.Bool.{false}
use mathlib.Core.Logic.{⊎_elim}
use mathlib.Core.List.{List, [], ◌∷◌, ◌++◌}
use Prim.Native.Nat.{ℕ, zero, suc, ◌+◌, ◌*◌, ◌<◌, ◌≤◌}
use native.Mathlib.Omega.{arith}
use native.Mathlib.Nat.{not-suc-le-zero}
use lib.Dec.{eqb}
use lib.ListN.{length, get_or, set, length-set, get_or-replicate}
use lib.Seq.{get_or-set_same, get_or-set_other}
use borrow.Author.Count.{below_more}
use Rattle.surface_rules.specs.Threes.{Three, three}
use Rattle.surface_rules.proofs.Laws.Tests.{eq_or_not, lt_or_le}
use Rattle.surface_rules.proofs.Laws.Lists.{next_set}
use Rattle.surface_twins.specs.Workings.Chains.{top}
use Rattle.surface_twins.proofs.Laws.Tops.{top_none, top_hit, top_miss, top_le}
use Rattle.stl_facets.specs.Facets.{plain_at}
use Rattle.stl_rules.specs.FirstUse.{meet, meet_all, first_uses}
use Rattle.stl_rules.specs.File.{corners_to, agree, point_at, corner_place}
use Rattle.stl_rules.specs.Reading.{none}
use Rattle.stl_rules.proofs.Laws.Files.{all_three, agree_self}
use Rattle.stl_rules.proofs.Laws.Uses.{more_before, more_last, more_length, uses_more, meet_known, meet_new, meet_length}
use Rattle.std.specs.Prelude.{Some, None, Option}
use Rattle.stl_gather.specs.Gathering.{GatherRoom}
use Rattle.stl_gather.specs.Workings.Racks.{bucket_of, bucket_at, home, in_bucket, point_in, Kept, Headed, Linked, Names, Named, met_by, Rack, rack, Racked, RackedTo, SeekRoom, Seeks, SettleRoom, Settled}
use Rattle.stl_gather.proofs.Laws.Buckets.{bucket_small, bucket_home, bucket_other, head_home, head_rest, top_same}

-- ---- the points met

pub met_more : (file : List ℕ) (i : ℕ) → met_by file (i + 1) ≡ meet agree none (met_by file i) (point_at file (corner_place i))
unfolding met_by corners_to
met_more file i = ap (λ (z : ℕ). first_uses agree none (corners_to file z)) (let z : i + 1 ≡ suc i = omega arith in z) ∙ uses_more agree none (corners_to file i) (point_at file (corner_place i))

-- they are no fewer after more corners
pub met_grows : (file : List ℕ) (i d : ℕ) → length (met_by file i) ≤ length (met_by file (i + d))
met_grows file i zero = rw (let z : i + 0 ≡ i = omega arith in z) (omega arith)
met_grows file i (suc d) =
    rw (let z : i + suc d ≡ i + d + 1 = omega arith in z, met_more file (i + d))
    (omega (arith, met_grows file i d, meet_length agree none (met_by file (i + d)) (point_at file (corner_place (i + d)))))

-- ---- three words more

module _ (ws : List ℕ) (n a b c : ℕ) where
  abbrev one : List ℕ
  one = set ws (3 * n) a

  abbrev two : List ℕ
  two = set one (3 * n + 1) b

  abbrev pub written : List ℕ
  written = set two (3 * n + 2) c

  two_before : (j : ℕ) → j < 3 * n + 2 → get_or written j 0 ≡ get_or two j 0
  two_before j l = get_or-set_other two (3 * n + 2) j c 0 (λ e. absurd (omega arith))

  one_before : (j : ℕ) → j < 3 * n + 1 → get_or written j 0 ≡ get_or one j 0
  one_before j l = two_before j (omega arith) ∙ get_or-set_other one (3 * n + 1) j b 0 (λ e. absurd (omega arith))

  words_before : (j : ℕ) → j < 3 * n → get_or written j 0 ≡ get_or ws j 0
  words_before j l = one_before j (omega arith) ∙ get_or-set_other ws (3 * n) j a 0 (λ e. absurd (omega arith))

  pub written_length : length written ≡ length ws
  written_length = length-set two (3 * n + 2) c ∙ length-set one (3 * n + 1) b ∙ length-set ws (3 * n) a

  pub point_before : (k : ℕ) → k < n → point_in written k ≡ point_in ws k
  unfolding point_in
  point_before k l = all_three (words_before (3 * k) (omega arith)) (words_before (3 * k + 1) (omega arith)) (words_before (3 * k + 2) (omega arith))

  pub point_there : 3 * n + 2 < length ws → point_in written n ≡ three a b c
  unfolding point_in
  point_there l =
      all_three
      (one_before (3 * n) (omega arith) ∙ get_or-set_same ws (3 * n) a 0 (omega arith))
      (two_before (3 * n + 1) (omega arith) ∙ get_or-set_same one (3 * n + 1) b 0 (rw (length-set ws (3 * n) a) (omega arith)))
      (get_or-set_same two (3 * n + 2) c 0 (rw (length-set one (3 * n + 1) b, length-set ws (3 * n) a) l))

-- the rack with point n in front of bucket h, as corner i
abbrev pub laden : Rack → ℕ → ℕ → ℕ → ℕ → ℕ → ℕ → Rack
laden w i n a b c h = rack (written w.words n a b c) (set w.corners i n) (set w.heads h (n + 1)) (set w.links n (get_or w.heads h 0))

-- ---- before the first corner

pub rack_begins : {file ws cs heads links : List ℕ} → GatherRoom file ws cs heads links → RackedTo file (rack ws cs heads links) 0 0
unfolding met_by corners_to first_uses meet_all Kept Headed Linked Named
rack_begins {file} {heads = heads} g =
    record {
      some = g.some;
      words_long = g.words_long;
      links_few = g.links_few;
      count = refl;
      within = omega arith;
      kept = λ k m. absurd (not-suc-le-zero m);
      headed = λ b m. ap (λ (l : List ℕ). get_or l b 0) g.empty ∙ get_or-replicate {A = ℕ} (length heads) b 0 0 m ∙ sym (top_none (in_bucket (length heads) (met_by file 0) b));
      linked = λ k m. absurd (not-suc-le-zero m);
      named = λ k m. absurd (not-suc-le-zero m);
    }

module _ {file : List ℕ} {met : List Three} {w : Rack} {i n : ℕ} (racked : Racked file met w i n) (room : i < length w.corners) where
  -- ---- a known point

  pub rack_known : (k : ℕ) → k < n → get_or met k none ≡ point_at file (corner_place i) → Racked file met (rack w.words (set w.corners i k) w.heads w.links) (i + 1) n
  unfolding Named
  rack_known k l e =
      record {
        some = racked.some;
        words_long = racked.words_long;
        links_few = racked.links_few;
        count = racked.count;
        within = racked.within;
        kept = racked.kept;
        headed = racked.headed;
        linked = racked.linked;
        named = next_set (λ (j x : ℕ). Names file met n j x) w.corners i k room racked.named (l, e);
      }

  -- ---- a new point

  module _ {a b c h : ℕ} (is : three a b c ≡ point_at file (corner_place i)) (hb : h ≡ bucket_of (length w.heads) a b c) (more : n < length w.links) where
    abbrev size : ℕ
    size = length w.heads

    abbrev met' : List Three
    met' = met ++ (three a b c ∷ [])

    before : (k : ℕ) → k < n → get_or met' k none ≡ get_or met k none
    before k l = more_before none met (three a b c) k (subst (λ (z : ℕ). k < z) racked.count l)

    last_is : get_or met' n none ≡ three a b c
    last_is = ap (λ (z : ℕ). get_or met' z none) racked.count ∙ more_last none met (three a b c)

    home_before : (k : ℕ) → k < n → home size met' k ≡ home size met k
    unfolding home
    home_before k l = ap (bucket_at size) (before k l)

    home_last : home size met' n ≡ h
    unfolding home
    home_last = ap (bucket_at size) last_is ∙ sym hb

    top_before : (d m : ℕ) → m ≤ n → top (in_bucket size met' d) m ≡ top (in_bucket size met d) m
    unfolding in_bucket
    top_before d m l = top_same (in_bucket size met' d) (in_bucket size met d) m (λ k q. ap (λ (z : ℕ). eqb z d) (home_before k (omega arith)))

    h_small : h < size
    h_small = subst (λ (z : ℕ). z < size) (sym hb) (bucket_small size a b c racked.some)

    headed_more : Headed size met' (n + 1) (set w.heads h (n + 1))
    unfolding Headed
    headed_more d l =
        ⊎_elim
        (λ (q : d ≡ h). rw (q, get_or-set_same w.heads h (n + 1) 0 h_small) (sym (top_hit (in_bucket size met' h) n (bucket_home size met' h n home_last))))
        (λ (q : d ≡ h → ⊥).
        get_or-set_other w.heads h d (n + 1) 0 q
        ∙ racked.headed d l
        ∙ sym (top_miss (in_bucket size met' d) n (bucket_other size met' d n (λ e. q (sym (sym home_last ∙ e)))) ∙ top_before d n (omega arith)))
        (eq_or_not d h)

    linked_more : Linked size met' (n + 1) (set w.links n (get_or w.heads h 0))
    unfolding Linked Headed
    linked_more =
        next_set (λ (k x : ℕ). x ≡ top (in_bucket size met' (home size met' k)) k) w.links n (get_or w.heads h 0) more
        (λ k l. racked.linked k l ∙ sym (ap (λ (z : ℕ). top (in_bucket size met' z) k) (home_before k l) ∙ top_before (home size met k) k (omega arith)))
        (racked.headed h h_small ∙ sym (ap (λ (z : ℕ). top (in_bucket size met' z) n) home_last ∙ top_before h n (omega arith)))

    kept_more : Kept met' (n + 1) (written w.words n a b c)
    unfolding Kept
    kept_more =
        below_more (λ (k : ℕ). point_in (written w.words n a b c) k ≡ get_or met' k none) n
        (λ k l. point_before w.words n a b c k l ∙ racked.kept k l ∙ sym (before k l))
        (point_there w.words n a b c (omega (arith, racked.words_long)) ∙ sym last_is)

    named_more : Named file met' (n + 1) (i + 1) (set w.corners i n)
    unfolding Named
    named_more =
        next_set (λ (j x : ℕ). Names file met' (n + 1) j x) w.corners i n room
        (λ j l. let s = racked.named j l in (omega (arith, s.0), before _ s.0 ∙ s.1))
        (omega arith, last_is ∙ is)

    pub rack_new : Racked file met' (laden w i n a b c h) (i + 1) (n + 1)
    rack_new =
        let heads_same : length (set w.heads h (n + 1)) ≡ length w.heads = length-set w.heads h (n + 1) in
        let links_same : length (set w.links n (get_or w.heads h 0)) ≡ length w.links = length-set w.links n (get_or w.heads h 0) in
        record {
          some = rw heads_same racked.some;
          words_long = rw (links_same, written_length w.words n a b c) racked.words_long;
          links_few = rw links_same racked.links_few;
          count = sym (more_length none met (three a b c) ∙ ap (λ (z : ℕ). z + 1) (sym racked.count));
          within = rw links_same (omega arith);
          kept = kept_more;
          headed = rw heads_same headed_more;
          linked = rw heads_same linked_more;
          named = named_more;
        }

-- ---- one corner

-- corner i was seen: its words and their bucket are known
pub record Seen (file : List ℕ) (w : Rack) (at i n a b c h : ℕ) : Type 0 where
  pub room : SettleRoom file w at i n
  pub first : a ≡ plain_at file at
  pub second : b ≡ plain_at file (at + 4)
  pub third : c ≡ plain_at file (at + 8)
  pub bucket : h ≡ bucket_of (length w.heads) a b c

module _ {file : List ℕ} {w : Rack} {at i n a b c h : ℕ} (seen : Seen file w at i n a b c h) where
  abbrev room : SettleRoom file w at i n
  room = seen.room

  abbrev met : List Three
  met = met_by file i

  abbrev last : ℕ
  last = get_or w.heads h 0

  point_is : three a b c ≡ point_at file (corner_place i)
  unfolding point_at
  point_is = all_three seen.first seen.second seen.third ∙ ap (point_at file) room.place

  pub head_inside : h < length w.heads
  head_inside = subst (λ (z : ℕ). z < length w.heads) (sym seen.bucket) (bucket_small (length w.heads) a b c room.racked.some)

  head_is : last ≡ top (in_bucket (length w.heads) met h) n
  unfolding Headed
  head_is = room.racked.headed h head_inside

  head_few : last ≤ n
  head_few = rw head_is (top_le (in_bucket (length w.heads) met h) n)

  pub settle_seeks : SeekRoom w.words w.links last a b c
  unfolding Kept Linked
  settle_seeks =
      let l = head_few in
      let m : n ≤ length w.links = room.racked.within in
      record {
        size = length w.heads;
        met = met;
        words_long = omega (arith, room.racked.words_long);
        links_long = omega arith;
        kept = λ k q. room.racked.kept k (omega arith);
        linked = λ k q. room.racked.linked k (omega arith);
        here = λ q. head_home (length w.heads) met h n last head_is q ∙ seen.bucket;
      }

  module _ (f : Option ℕ) (s : Seeks w.words a b c last f) where
    pub found_few : {k : ℕ} → f ≡ Some k → k < n
    unfolding Seeks
    found_few {k} e = let r : Seeks w.words a b c last (Some k) = subst (Seeks w.words a b c last) e s in omega (arith, r.0, head_few)

    pub settle_known : {k : ℕ} → f ≡ Some k → Settled file (rack w.words (set w.corners i k) w.heads w.links) (i + 1) (Some n)
    unfolding Seeks Settled Kept
    settle_known {k} e =
        let r : Seeks w.words a b c last (Some k) = subst (Seeks w.words a b c last) e s in
        let l : k < n = found_few e in
        let q : get_or met k none ≡ point_at file (corner_place i) = sym (room.racked.kept k l) ∙ r.1 ∙ point_is in
        let m : met_by file (i + 1) ≡ met =
        met_more file i
        ∙ meet_known agree none met (point_at file (corner_place i)) k (subst (λ (z : ℕ). k < z) room.racked.count l) (ap (agree (get_or met k none)) (sym q) ∙ agree_self _)
        in
        rw m (rack_known room.racked room.room k l q)

    module _ (e : f ≡ None) where
      other : (k : ℕ) → k < length met → agree (get_or met k none) (three a b c) ≡ false
      unfolding Seeks Kept
      other k m =
          let r : Seeks w.words a b c last None = subst (Seeks w.words a b c last) e s in
          let l : k < n = subst (λ (z : ℕ). k < z) (sym room.racked.count) m in
          ⊎_elim
          (λ (q : k < last). ap (λ (p : Three). agree p (three a b c)) (sym (room.racked.kept k l)) ∙ r k q)
          (λ (q : last ≤ k). head_rest (length w.heads) met h n last head_is (three a b c) seen.bucket k q l)
          (lt_or_le k last)

      met_new : met_by file (i + 1) ≡ met ++ (three a b c ∷ [])
      met_new = met_more file i ∙ ap (meet agree none met) (sym point_is) ∙ meet_new agree none met (three a b c) other

      pub settle_full : length w.links ≤ n → Settled file w (i + 1) None
      unfolding Settled
      settle_full l = rw met_new (omega (arith, room.racked.count, more_length none met (three a b c)))

      pub settle_new : n < length w.links → Settled file (laden w i n a b c h) (i + 1) (Some (n + 1))
      unfolding Settled
      settle_new more = rw met_new (rack_new room.racked room.room point_is seen.bucket more)
