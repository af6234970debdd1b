-- Filling the buffer loop by loop.
use mathlib.Core.Path.{◌≡◌, refl, sym, ap, ◌∙◌}
use mathlib.Core.Logic.{⊎_elim}
use mathlib.Core.List.{List, ◌++◌}
use Prim.Native.Nat.{ℕ, ◌+◌, ◌<◌, ◌≤◌}
use native.Mathlib.Nat.{eq-or-lt_of_le}
use native.Mathlib.Omega.{arith}
use lib.ListN.{length, length-append}
use Rattle.surface_rules.specs.Buffers.{laid}
use Rattle.surface_rules.proofs.Laws.Laid.{laid_none, laid_then}
use Rattle.program_lines.specs.declared.Progress.{Progress}
use Rattle.program_lines.specs.Listing.{loop_lines}
use Rattle.program_lines.specs.Workings.Telling.{Inventory, next, NextRoom, TellsNext}
use Rattle.program_roll.specs.Sections.{between}
use Rattle.program_roll.specs.Workings.Roll.{Going, Puts, FillsOn}
use Rattle.program_roll.proofs.Laws.Between.{between_none, between_more}

module _ {most : ℕ} {w : Inventory} {count : ℕ} {m : Progress} {before : List ℕ} (g : Going w count m) where
  puts_none : m.bytes ≤ length before → Puts most g.listed.loops m m before before
  puts_none h =
      let e = between_none m.loops g.listed.loops in
      record {
        put = sym (ap (λ (l : List ℕ). laid m.bytes l before) e ∙ laid_none m.bytes before);
        bytes_are = omega (arith, ap length e);
        within = h;
        from = omega arith;
        upto = omega (arith, g.upto, g.listed.many);
        tells = g.told;
        roomy = λ k a b. absurd (omega (arith, a, b));
      }

  module _ {r : Progress} {out : List ℕ} (p : Puts most g.listed.loops m r before out) (more : r.loops < count) where
    puts_next : NextRoom w r
    puts_next =
        let k : r.loops < length g.listed.loops = omega (arith, g.listed.many) in
        record { loops = g.listed.loops; lying = g.listed.lying; told = p.tells; more = k; fits = g.listed.fits r.loops k }

    module _ {s : Progress} {after : List ℕ} (tells : TellsNext w r s out after) where
      puts_one : s.loops ≡ r.loops + 1
      puts_one = (tells.tells puts_next).one_more

      lines_more : between m.loops s.loops g.listed.loops ≡ between m.loops r.loops g.listed.loops ++ loop_lines (next g.listed.loops r)
      lines_more =
          ap (λ (j : ℕ). between m.loops j g.listed.loops) puts_one
          ∙ between_more m.loops r.loops g.listed.loops p.from (omega (arith, more, g.listed.many))

      puts_more : r.bytes + most ≤ length before → s.bytes ≤ r.bytes + most → Puts most g.listed.loops m s before after
      unfolding puts_next
      puts_more h b =
          let t = tells.tells puts_next in
          let u = length-append (between m.loops r.loops g.listed.loops) (loop_lines (next g.listed.loops r)) in
          record {
            put =
                t.put
                ∙ ap (laid r.bytes (loop_lines (next g.listed.loops r))) p.put
                ∙ laid_then m.bytes r.bytes (between m.loops r.loops g.listed.loops) (loop_lines (next g.listed.loops r)) before p.bytes_are p.within
                ∙ ap (λ (l : List ℕ). laid m.bytes l before) (sym lines_more);
            bytes_are = omega (arith, t.bytes_are, p.bytes_are, u, ap length lines_more);
            within = omega (arith, h, b);
            from = omega (arith, p.from, puts_one);
            upto = omega (arith, puts_one, more, g.listed.many);
            tells = t.tells;
            roomy = roomy_on;
          }
        where
          roomy_on : (k : ℕ) → m.loops ≤ k → k < s.loops → m.bytes + length (between m.loops k g.listed.loops) + most ≤ length before
          roomy_on k a b =
              ⊎_elim
              (λ (e : k ≡ r.loops). omega (arith, h, p.bytes_are, ap (λ (j : ℕ). length (between m.loops j g.listed.loops)) e))
              (p.roomy k a)
              (let l : k ≤ r.loops = omega (arith, b, puts_one) in eq-or-lt_of_le l)

-- the loops from the progress m on were put up to the progress r, whichever loops they are; the buffer keeps its length
pub record Filling (most : ℕ) (w : Inventory) (count : ℕ) (m r : Progress) (before out : List ℕ) : Type 0 where
  pub same_long : length out ≡ length before
  pub puts : (g : Going w count m) → Puts most g.listed.loops m r before out

pub filling_begins : {most : ℕ} {w : Inventory} {count : ℕ} {m : Progress} {before : List ℕ} → m.bytes ≤ length before → Filling most w count m m before before
filling_begins h = record { same_long = refl; puts = λ g. puts_none g h }

module _ {most : ℕ} {w : Inventory} {count : ℕ} {m r : Progress} {before out : List ℕ} (f : Filling most w count m r before out) where
  pub filling_within : Going w count m → r.bytes ≤ length before
  filling_within g = (f.puts g).within

  pub filling_room : Going w count m → r.loops < count → NextRoom w r
  filling_room g = puts_next g (f.puts g)

  module _ {s : Progress} {after : List ℕ} (more : r.loops < count) (t : TellsNext w r s out after) where
    pub filling_one : Going w count m → s.loops ≡ r.loops + 1
    filling_one g = puts_one g (f.puts g) more t

    pub filling_more : r.bytes + most ≤ length out → s.bytes ≤ r.bytes + most → length after ≡ length out → Filling most w count m s before after
    filling_more h b e = record { same_long = e ∙ f.same_long; puts = λ g. puts_more g (f.puts g) more t (omega (arith, h, f.same_long)) b }

  -- it ends where there is less room, or where all were told
  pub filling_full : length out < r.bytes + most → FillsOn most w count m r before out
  filling_full h = record { fills = λ g. record { puts = f.puts g; full = λ k. omega (arith, h, f.same_long) } }

  pub filling_all : count ≤ r.loops → FillsOn most w count m r before out
  filling_all h = record { fills = λ g. record { puts = f.puts g; full = λ k. absurd (omega (arith, h, k, g.listed.many)) } }
