-- One loop judged: whichever way it goes, the loop is right or has the fault that is told, and after a right one the tray
-- is left for the next.
use mathlib.Core.Path.{◌≡◌, refl, ap, ◌∙◌, subst}
use mathlib.Core.Logic.{◌⊎◌, ⊎_elim}
use mathlib.Core.List.{List, ◌++◌}
use Prim.Native.Nat.{ℕ, ◌+◌, ◌-◌, ◌/◌, ◌%◌, ◌<◌, ◌≤◌}
use native.Mathlib.Omega.{arith}
use lib.IntN.{ℤ}
use lib.Ieee.{Float}
use lib.ListN.{length, get_or, take, drop, length-append, length-drop}
use lib.Seq.{length-take-le}
use Rattle.base_answers.specs.declared.Answer.{Answer}
use Rattle.base_answers.specs.declared.Verdict.{Verdict}
use Rattle.base_answers.specs.declared.Verdict.TheVariants.{Misdeclared, Uncovered}
use Rattle.base_answers.specs.declared.Answer.TheVariants.{Done, Failed}
use Rattle.base_limits.specs.Limits as limits
use Rattle.base_limits.specs.States as stated
use Rattle.surface_rules.proofs.Laws.Tests.{eq_or_not}
use Rattle.cover_bars.specs.Bars.{barred}
use Rattle.cover_bars.specs.Workings.Chains.{Tells, BarsRoom, BarsDone}
use Rattle.cover_bars.proofs.Laws.Barring.{tells_walkable}
use Rattle.judge_seat.specs.Workings.Seats.{Ringed}
use Rattle.judge_chain.specs.Workings.Chaining as chaining
use Rattle.std.proofs.Common.{Option, Some, None, Result, Ok, Err}
use Rattle.cover_table.specs.Workings.Loops.{OnGrid, Barring, LoopRoom, LeastIs}
use Rattle.cover_trace.specs.Workings.Patches.{FindsLeast}
use Rattle.fill_fates.proofs.Laws.Three.{sides_free}
use Rattle.judge_rules.specs.Faults.{share, Right, patched, long, open_left, no_state, two_on_a_short, three_with_a_cover, misdeclared, no_cover}
use Rattle.judge_rules.specs.Verdicts.{taken}
use Rattle.judge_rules.proofs.Theorems.{right_patched}
use Rattle.judge_rules.proofs.Laws.Filled.{taken_patched, part_none}
use Rattle.judge_rules.proofs.Laws.Declared.{declared_patched}
use Rattle.fill_scratch.specs.Workings.Rings.{RingOf}
use Rattle.fill_scratch.specs.Workings.Tray.{Tray, tray, TrayReady}
use Rattle.fill_scratch.proofs.Laws.Tray.{tray_kept}
use Rattle.judge_sight.specs.Workings.Findings.{Finds, right, fault, FindsAtSight}
use Rattle.judge_sight.proofs.Laws.Findings.{done_right, failed_not_done}
use Rattle.judge_sight.proofs.Laws.Threes.{three_told}
use Rattle.judge_part.specs.Workings.Parts.{PartRoom, FindsCover}
use Rattle.judge_part.proofs.Laws.Weighed.{cover_part}
use Rattle.judge_loop.specs.declared.InHand.{InHand}
use Rattle.judge_loop.specs.Workings.Judging.{ShortRoom, Judging, FindsLoop, FindsPatched, FindsOpen}

-- after a fault no tray is asked for
faulty : {grid : List ℤ} {input before ring set : List ℕ} {h : InHand} {v : Verdict} {t : Tray}
    → Finds grid input before h.l ring h.state (drop h.at set) (Failed v) → Judging grid input before ring set h (Err v) t
faulty f = record { finds = f; few = omega arith; ready = λ d. absurd (failed_not_done d) }

-- ---- the tray after a loop

module _ (ring set : List ℕ) (h : InHand) {input before : List ℕ} {t : Tray} (b : TrayReady input before h.edges h.base t) where
  -- that takes nothing,
  kept : {stamps rows : List ℕ} {table : List Float} → (h.state ≡ stated.patched → ⊥) → length stamps ≡ limits.points
      → ((v : ℕ) → get_or stamps v 0 < h.base + length ring) → length rows ≡ limits.longest
      → TrayReady input (before ++ take (taken ring h.state) (drop h.at set)) h.edges (h.base + length ring) (tray t.heads t.links t.ends stamps rows table)
  kept n m v r = rw (part_none ring h.state (drop h.at set) n) (tray_kept b refl m v r)

  -- that takes its share,
  whole_after : (part : List ℕ) → length part ≡ share ring → length (before ++ part) % 3 ≡ 0
  whole_after part e = let l : length (before ++ part) ≡ length before + length part = length-append before part in omega (arith, b.whole)

  -- and that is one of three or a long one: nothing is stamped then
  below : (v : ℕ) → get_or t.stamps v 0 < h.base + length ring
  below v = let x : get_or t.stamps v 0 < h.base = b.below v in omega arith

  sight_ready : {grid : List ℤ} → (length ring ≡ 3) ⊎ (limits.longest < length ring) → RingOf grid input ring → Right grid input before ring h.state (drop h.at set)
      → TrayReady input (before ++ take (taken ring h.state) (drop h.at set)) h.edges (h.base + length ring) t
  sight_ready sight g (long two n) = kept (λ x. omega arith) b.stamps_long below b.rows_long
  sight_ready sight g (open_left three short n) = kept (λ x. omega arith) b.stamps_long below b.rows_long
  sight_ready sight g (patched one short c k a least) =
      let n : length ring ≡ 3 = ⊎_elim (λ (x : length ring ≡ 3). x) (λ (x : limits.longest < length ring). omega arith) sight in
      let part : List ℕ = take (share ring) (drop h.at set) in
      let m : length part ≡ share ring = length-take-le (share ring) (drop h.at set) k.there in
      rw (taken_patched ring h.state one)
      (record {
        tells = three_told ring part n b.whole g.sides g.closing (omega arith) c k.covers b.tells;
        whole = whole_after part m;
        stamps_long = b.stamps_long;
        below = below;
        rows_long = b.rows_long;
      })

-- ---- a loop of three or a long one

pub sight_faulty : {grid : List ℤ} {ring set : List ℕ} {h : InHand} {t : Tray} {v : Verdict} → FindsAtSight ring h.state set h.at h.l (Failed v) → FindsLoop grid ring set h t (Err v) t
sight_faulty {grid} f input before g b = faulty (f grid input before)

pub sight_right : {grid : List ℤ} {ring set : List ℕ} {h : InHand} {t : Tray} → (length ring ≡ 3) ⊎ (limits.longest < length ring)
    → FindsAtSight ring h.state set h.at h.l Done → FindsLoop grid ring set h t (Ok h.edges) t
sight_right {grid} {ring} {set} {h} sight f input before g b =
    let x = f grid input before in
    record { finds = x; few = omega arith; ready = λ d. sight_ready ring set h b sight g (done_right x) }

-- ---- a loop of four or more that is not long

module _ {grid : List ℤ} {ring : List ℕ} {h : InHand} {t : Tray} (room : ShortRoom grid ring h t) where
  pub bars_room : BarsRoom ring t.heads t.links t.ends t.stamps h.base t.rows
  bars_room =
      let j = room.judge in
      record {
        walkable = tells_walkable j.input j.before h.edges t.heads t.links t.ends j.ready.tells;
        long = j.ring_of.three;
        room = record {
          short = room.short;
          few = j.room.few_stamps;
          inside = j.ring_of.inside;
          apart = j.ring_of.apart;
          stamps_long = j.ready.stamps_long;
          rows_long = j.ready.rows_long;
          below = j.ready.below;
        };
      }

  on_grid : OnGrid grid ring
  on_grid = record { coordinates = room.judge.ring_of.coordinates; named = room.judge.ring_of.named; few = room.short }

  module _ {stamps rows : List ℕ} (bars : BarsDone ring t.heads t.links t.ends h.base stamps rows) where
    barring : {input before : List ℕ} {e : ℕ} → Tells input before e t.heads t.links t.ends → Barring (barred input before ring) ring rows
    barring {input} {before} {e} x = record { rows = bars.bars input before e x; sides = sides_free input before ring }

    ringed : Ringed ring h.base stamps
    ringed = record { stamped = bars.stamped; inside = room.judge.ring_of.inside; few = room.short }

    -- declared open: it is right exactly if there is no least weight

    pub open_room : LoopRoom grid ring rows t.table
    open_room =
        let j = room.judge in
        record {
          on = on_grid;
          some = room.some;
          barred = barred j.input j.before ring;
          barring = barring j.ready.tells;
          table_long = j.room.table_room room.short;
        }

    module _ (least : Option ℕ) (found : FindsLeast grid ring rows least) where
      least_is : {r : Option ℕ} → least ≡ r → {input before : List ℕ} {e : ℕ} → Tells input before e t.heads t.links t.ends → LeastIs grid ring (barred input before ring) r
      least_is is {input} {before} x = subst (LeastIs grid ring (barred input before ring)) is (found (barred input before ring) (barring x))

      pub open_right : {table : List Float} → least ≡ None → FindsOpen grid ring h t (Ok tt) (tray t.heads t.links t.ends stamps rows table)
      open_right is three set input before g b =
          record {
            finds = right refl (open_left three room.short (least_is is b.tells));
            few = omega arith;
            ready = λ d. kept ring set h b (λ x. omega arith) bars.stamped.long bars.below bars.rows_long;
          }

      pub open_wrong : {table : List Float} → (w : ℕ) × (least ≡ Some w) → FindsOpen grid ring h t (Err (Misdeclared h.l)) (tray t.heads t.links t.ends stamps rows table)
      open_wrong is three set input before g b = let x = least_is is.1 b.tells in faulty (fault (misdeclared refl (three_with_a_cover three x.cover x.among)))

    -- declared patched: it is as its part of the set is found

    module _ {part : List ℕ} (long : length part ≡ share ring) where
      pub cover_room : PartRoom grid ring part stamps h.base rows t.table
      cover_room =
          let j = room.judge in
          record {
            ringed = ringed;
            on = on_grid;
            some = room.some;
            long = long;
            rows_long = bars.rows_long;
            table_long = j.room.table_room room.short;
            input = j.input;
            before = j.before;
            barring = barring j.ready.tells;
          }

      pub chain_room : chaining.CoverRoom ring stamps h.base part t.heads t.links t.ends h.edges
      chain_room =
          let j = room.judge in
          let many : length part / 3 ≡ length ring - 2 = omega arith in
          record {
            ringed = ringed;
            threes = record { triangles = length ring - 2; threes = long };
            heads_long = j.ready.tells.chained.heads_long;
            links_room = rw many j.room.links_room;
            ends_room = rw many j.room.ends_room;
            few = rw many j.room.few_edges;
          }

      module _ {a : Answer} (finds : FindsCover grid ring part h.l rows a) (one : h.state ≡ stated.patched) (set : List ℕ) (there : share ring ≤ length (drop h.at set))
          (p : part ≡ take (share ring) (drop h.at set)) where
        found_here : {input before : List ℕ} → TrayReady input before h.edges h.base t → Finds grid input before h.l ring h.state (drop h.at set) a
        found_here {input} {before} b = rw one (finds input before (barring b.tells) (drop h.at set) there p)

      pub patched_faulty : {v : Verdict} → FindsCover grid ring part h.l rows (Failed v) → {table : List Float}
          → FindsPatched grid ring part h t (Err v) (tray t.heads t.links t.ends stamps rows table)
      patched_faulty finds one set there p input before g b = faulty (found_here finds one set there p b)

      pub patched_right : FindsCover grid ring part h.l rows Done → {heads links ends : List ℕ} {table : List Float} {f : ℕ}
          → chaining.CoverChained ring part t.heads t.links t.ends h.edges f heads links ends → FindsPatched grid ring part h t (Ok f) (tray heads links ends stamps rows table)
      patched_right finds {f = f} done one set there p input before g b =
          let found = found_here finds one set there p b in
          record {
            finds = found;
            few = let k : f ≤ h.edges + length part / 3 = done.few in omega arith;
            ready = λ d.
                let x = right_patched one (done_right found) in
                rw (taken_patched ring h.state one, ← p)
                (record {
                  tells = done.tells input before x.cover b.whole long (cover_part p x.taken) g.sides b.tells;
                  whole = whole_after ring set h b part long;
                  stamps_long = bars.stamped.long;
                  below = bars.below;
                  rows_long = bars.rows_long;
                });
          }

  -- ---- by its state

  module _ {set : List ℕ} where
    pub by_none : (h.state ≡ stated.left_open → ⊥) → (h.state ≡ stated.patched → ⊥) → FindsLoop grid ring set h t (Err (Misdeclared h.l)) t
    by_none three one input before g b =
        faulty
        (fault
        (misdeclared refl
        (⊎_elim (λ (x : h.state ≡ stated.long). two_on_a_short x room.short) (λ (x : h.state ≡ stated.long → ⊥). no_state one x three) (eq_or_not h.state stated.long))))

    pub by_missing : h.state ≡ stated.patched → length set - h.at < share ring → FindsLoop grid ring set h t (Err (Uncovered h.l)) t
    by_missing one m input before g b =
        faulty
        (fault
        (no_cover refl (declared_patched input before ring h.state one room.short)
        (λ c k. let x : length (drop h.at set) ≡ length set - h.at = length-drop h.at set in let y : share ring ≤ length (drop h.at set) = k.there in omega arith)))

-- its share, as the code cuts it out of the set
module _ (ring set : List ℕ) (at : ℕ) (there : share ring ≤ length set - at) where
  share_there : share ring ≤ length (drop at set)
  share_there = let x : length (drop at set) ≡ length set - at = length-drop at set in omega arith

  cut_share : take (at + share ring - at) (drop at set) ≡ take (share ring) (drop at set)
  cut_share = let e : at + share ring - at ≡ share ring = omega arith in ap (λ (k : ℕ). take k (drop at set)) e

  pub cut_long : length (take (at + share ring - at) (drop at set)) ≡ share ring
  cut_long = ap length cut_share ∙ length-take-le (share ring) (drop at set) share_there

pub by_share : {grid : List ℤ} {ring set : List ℕ} {h : InHand} {t : Tray} {r : Result ℕ Verdict} {t' : Tray} → h.state ≡ stated.patched → share ring ≤ length set - h.at
    → FindsPatched grid ring (take (h.at + share ring - h.at) (drop h.at set)) h t r t' → FindsLoop grid ring set h t r t'
by_share {ring = ring} {set = set} {h = h} one there f = f one set (share_there ring set h.at there) (cut_share ring set h.at there)
