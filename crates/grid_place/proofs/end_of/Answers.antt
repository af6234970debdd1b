-- `end_of` tells where the grid of each pitch ends.
use mathlib.Core.Path.{◌≡◌, refl, sym, ap, ◌∙◌}
use Prim.Native.Nat.{ℕ}
use Rattle.base_types.specs.declared.Pitch.{Pitch}
use Rattle.grid_place.specs.Workings.Ends.{end_of}
use Rattle.grid_place.proofs.end_of.Goals as goal

ends_at : {p q : Pitch} {n : ℕ} → p ≡ q → n ≡ end_of q → n ≡ end_of p
ends_at e h = h ∙ sym (ap end_of e)

pub returns-in-One : goal.returns-in-One
unfolding end_of
returns-in-One c = ends_at c.in-One.is refl

pub returns-in-Two : goal.returns-in-Two
unfolding end_of
returns-in-Two c = ends_at c.in-Two.is refl

pub returns-in-Five : goal.returns-in-Five
unfolding end_of
returns-in-Five c = ends_at c.in-Five.is refl

pub returns-in-Ten : goal.returns-in-Ten
unfolding end_of
returns-in-Ten c = ends_at c.in-Ten.is refl
