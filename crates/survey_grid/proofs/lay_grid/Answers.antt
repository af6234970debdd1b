-- `lay_grid` chooses the rule by the pitch. A word that is on the grid has a field that is low enough for both.
use mathlib.Core.Path.{◌≡◌, sym, ◌∙◌, subst}
use mathlib.Core.List.{List}
use Prim.Native.Nat.{ℕ, ◌<◌, ◌≤◌}
use lib.Dec.{lit≤}
use lib.IntN.{ℤ}
use borrow.Author.Rules.{rules}
use Rattle.base_types.proofs.Laws.Pitches.{pitch_some, pitch_most}
use Rattle.surface_rules.specs.Buffers.{over}
use Rattle.check_words.specs.Workings.OnGrid.{OnGrid}
use Rattle.survey_grid.specs.Grid.{grid_of, whole_of}
use Rattle.survey_grid.proofs.Laws.Laying.{low_field}
use Rattle.survey_grid.proofs.lay_grid.Goals as goal

on : {n m : ℕ} {words : List ℕ} → n ≡ m → OnGrid m words → OnGrid n words
on {words = words} e h = subst (λ (k : ℕ). OnGrid k words) (sym e) h

laid : (words : List ℕ) (grid : List ℤ) {n m : ℕ} {grid' : List ℤ} → n ≡ m → grid' ≡ over (grid_of n words) grid → grid' ≡ over (grid_of m words) grid
laid words grid {grid' = grid'} e h = subst (λ (k : ℕ). grid' ≡ over (grid_of k words) grid) e h

pub lay-requires-clause-callable : goal.lay-requires-clause-callable
lay-requires-clause-callable c i l = low_field 1 (lit≤ tt) (lit≤ tt) _ _ (on (sym c.if-pace-eq1.true ∙ c.units-pace.ensures) c.requires.0) l

pub lay-requires-else-pace-eq1-clause-callable : goal.lay-requires-else-pace-eq1-clause-callable
lay-requires-else-pace-eq1-clause-callable c i l κs r e b f u =
    let p = c.units-pace.ensures in
    let some : 0 < c.units-pace.result = subst (λ (n : ℕ). 0 < n) (sym p) (pitch_some c.args.pitch) in
    let most : c.units-pace.result ≤ 10 = subst (λ (n : ℕ). n ≤ 10) (sym p) (pitch_most c.args.pitch) in
    (low_field _ some most _ _ (on p c.requires.0) l, some, most)

pub returns-then-pace-eq1 : goal.returns-then-pace-eq1
unfolding whole_of
returns-then-pace-eq1 c = let a = c.args in laid a.words.now a.grid.now (sym c.if-pace-eq1.true ∙ c.units-pace.ensures) (c.lay.ensures 1 (λ i k l p. search rules))

pub returns-else-pace-eq1 : goal.returns-else-pace-eq1
unfolding whole_of
returns-else-pace-eq1 c = let a = c.args in laid a.words.now a.grid.now c.units-pace.ensures (c.lay-else-pace-eq1.ensures _ (λ i k l p. search rules))
