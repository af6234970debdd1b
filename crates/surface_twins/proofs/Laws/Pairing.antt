-- Where half-edge h is paired, its walk sees all that joins its two ends below h, so that its answer is right and what holds below h holds below h + 1.
use Rattle.std.specs.Prelude.{None}
use mathlib.Core.Path.{◌≡◌, refl, sym, ap, ap₂, ◌∙◌, subst}
use mathlib.Core.Bool.{Bool, true, false, not, true≢false, and-false}
use mathlib.Core.List.{List}
use mathlib.Core.Logic.{⊎_elim}
use Prim.Native.Nat.{ℕ, ◌+◌, ◌<◌, ◌≤◌}
use native.Mathlib.Omega.{arith}
use lib.ListN.{length, get_or, set}
use borrow.Author.Tests.{not-true}
use Rattle.base_limits.specs.Limits as limits
use Rattle.surface_rules.specs.Smallest.{least}
use Rattle.surface_rules.specs.Edges.{following, start_of, end_of, repeats}
use Rattle.surface_rules.proofs.Laws.Tests.{lt_or_le}
use Rattle.surface_rules.proofs.Laws.Smallest.{least_more}
use Rattle.surface_rules.proofs.Laws.Edges.{following_below, proper_apart}
use Rattle.surface_twins.specs.declared.Met.{Met}
use Rattle.surface_twins.specs.declared.Met.TheVariants.{Twin, Like, Nothing}
use Rattle.surface_twins.specs.Workings.Turns.{stops}
use Rattle.surface_twins.specs.Workings.Chains.{bucket_of, home, in_bucket, top, Headed, Linked, Ended, MeetRoom, Meets, refused, TurnRoom, TurnDone, TurnsBelow, PairRoom, PairDone}
use Rattle.surface_twins.proofs.Laws.Tops.{top_le}
use Rattle.surface_twins.proofs.Laws.Buckets.{Apart, bucket_small, head_home, head_rest}
use Rattle.surface_twins.proofs.Laws.Chaining.{chained_more}
use Rattle.surface_twins.proofs.Laws.Entries.{turned_length}
use Rattle.surface_twins.proofs.Laws.Turning.{met_repeats, met_turns}

-- what is not there from `last` on need not be met
meets_all : (corners : List ℕ) (u v last h : ℕ) → last ≤ h → ((k : ℕ) → last ≤ k → k < h → Apart corners u v k) → (met : Met) → Meets corners u v last met → Meets corners u v h met
unfolding Meets
meets_all corners u v last h l w (Twin e) m = let b : e < last = m.0 in (omega arith, m.1)
meets_all corners u v last h l w Like m = let b : m.0 < last = m.1 in (m.0, omega arith, m.2)
meets_all corners u v last h l w Nothing m = λ k n. ⊎_elim (λ q. m k q) (λ q. w k q n) (lt_or_le k last)

twin_below : (corners : List ℕ) (u v n e : ℕ) → Meets corners u v n (Twin e) → e < n
unfolding Meets
twin_below corners u v n e m = m.0

module _ {size : ℕ} {corners : List ℕ} {h f u v : ℕ} {heads links ends table : List ℕ} (room : PairRoom size corners h f u v heads links ends table) {b : ℕ} (hb : b ≡ bucket_of size u v) where
  pub bucket_inside : b < length heads
  bucket_inside = let s : bucket_of size u v < size = bucket_small size u v room.going.chained.some in let l : length heads ≡ size = room.going.chained.heads_long in omega arith

  bucket_below : b < size
  bucket_below = rw hb (bucket_small size u v room.going.chained.some)

  home_is : b ≡ home size corners h
  unfolding home
  home_is = hb ∙ ap₂ (bucket_of size) room.start room.end

  last_is : get_or heads b 0 ≡ top (in_bucket size corners b) h
  unfolding Headed
  last_is = room.going.chained.headed b bucket_below

  last_below : get_or heads b 0 ≤ h
  last_below = let l : top (in_bucket size corners b) h ≤ h = top_le (in_bucket size corners b) h in let e = last_is in omega arith

  pub pair_meets : MeetRoom corners links ends (get_or heads b 0) u v
  unfolding Linked Ended
  pair_meets =
      let edge : h < length corners = room.edge in
      let below : get_or heads b 0 ≤ h = last_below in
      record {
        size = size;
        inside = omega arith;
        links_long = room.going.chained.links_long;
        ends_long = room.going.chained.ends_long;
        linked = λ k q. room.going.chained.linked k (omega arith);
        ended = λ k q. room.going.chained.ended k (omega arith);
        here = λ q. head_home size corners b h (get_or heads b 0) last_is q ∙ hb;
      }

  module _ (met : Met) (meets : Meets corners u v (get_or heads b 0) met) where
    sees : Meets corners (start_of corners h) (end_of corners h) h met
    sees =
        subst (λ (z : ℕ). Meets corners z (end_of corners h) h met) room.start
        (subst (λ (z : ℕ). Meets corners u z h met) room.end
        (meets_all corners u v (get_or heads b 0) h last_below (head_rest size corners b h (get_or heads b 0) last_is u v hb) met meets))

    pub pair_turns : TurnRoom met h f table
    pair_turns =
        let few : length corners ≤ limits.corners = room.going.room.few in
        let long : length corners ≤ length table = room.going.room.long in
        let edge : h < length corners = room.edge in
        let i : following h < length corners = following_below (length corners) h room.going.room.triples edge in
        let e : f ≡ following h = room.follows in
        record {
          here = omega arith;
          small = omega arith;
          there = λ g q. let l : g < get_or heads b 0 = below g q in let m : get_or heads b 0 ≤ h = last_below in omega arith;
        }
      where
        below : (g : ℕ) → met ≡ Twin g → g < get_or heads b 0
        below g q = twin_below corners u v (get_or heads b 0) g (subst (Meets corners u v (get_or heads b 0)) q meets)

    module _ {done : Bool} {left : List ℕ} (d : TurnDone met h f table done left) where
      answer_is : done ≡ not (repeats corners h)
      answer_is = d.answer ∙ ap not (met_repeats corners table h room.going.room room.going.fresh room.going.turns room.edge met sees)

      pub pair_stops : {heads' links' ends' table' : List ℕ} → done ≡ false → PairDone size corners h false heads' links' ends' table'
      pair_stops q = record { answer = sym q ∙ answer_is; going = λ e. absurd (true≢false (sym e)) }

      module _ (q : done ≡ true) where
        not_refused : refused met table ≡ false
        not_refused = not-true _ (sym d.answer ∙ q)

        not_repeats : repeats corners h ≡ false
        not_repeats = not-true _ (sym answer_is ∙ q)

        still_fresh : least (stops corners) (h + 1) ≡ None
        unfolding stops
        still_fresh = least_more (stops corners) h room.going.fresh (rw (not_repeats, room.proper, and-false))

        pub pair_goes : PairDone size corners h true (set heads b (h + 1)) (set links h (get_or heads b 0)) (set ends h v) left
        pair_goes =
            let few : length corners ≤ limits.corners = room.going.room.few in
            let long : length corners ≤ length table = room.going.room.long in
            let edge : h < length corners = room.edge in
            let same : length left ≡ length table = ap length (d.laid q) ∙ turned_length met h f table in
            record {
              answer = sym q ∙ answer_is;
              going =
                  λ e.
                  record {
                    room = record { triples = room.going.room.triples; few = few; long = omega arith };
                    fresh = still_fresh;
                    chained = chained_more size corners heads links ends h room.going.chained edge b (get_or heads b 0) v bucket_below home_is refl room.end;
                    turns =
                        subst (TurnsBelow corners (h + 1)) (sym (d.laid q))
                        (met_turns corners table h room.going.room room.going.fresh room.going.turns room.edge (proper_apart corners h room.proper) met sees f room.follows not_refused);
                  };
            }
