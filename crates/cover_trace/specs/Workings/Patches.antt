-- What is found of a whole loop: its patch, laid into a buffer, and its least weight.
use Rattle.std.specs.Prelude.{◌≡◌, Option, Some, None, Bool, List, ℕ, ◌-◌, ℤ, length}
use Rattle.surface_rules.specs.Buffers.{laid}
use Rattle.cover_rules.specs.Covers.{Cover, Patch, NoCover, weight, patch_of}
use Rattle.cover_weight.specs.Edition.{naturals, tri_of, along}
use Rattle.cover_table.specs.Workings.Loops.{Barring, LeastIs}

-- the answer is what the loop's patch weighs, and the buffer has its corners from p on; or no cover is allowed, and the buffer is as it was
abbrev pub LaysIf : List ℤ → List ℕ → (ℕ → ℕ → Bool) → List ℕ → ℕ → Option ℕ → List ℕ → Type 0
LaysIf grid ring barred buffer p (Some w) buffer' =
    (c : Cover)
    × Patch naturals (tri_of (along grid ring)) barred 0 (length ring - 1) c
    × (w ≡ weight naturals (tri_of (along grid ring)) 0 (length ring - 1) c)
    × (buffer' ≡ laid p (patch_of ring c) buffer)
LaysIf grid ring barred buffer p None buffer' = NoCover barred 0 (length ring - 1) × (buffer' ≡ buffer)

-- so it is by whatever bars these rows are
abbrev pub LaysPatch : List ℤ → List ℕ → List ℕ → List ℕ → ℕ → Option ℕ → List ℕ → Type 0
LaysPatch grid ring bars buffer p r buffer' = (barred : ℕ → ℕ → Bool) → Barring barred ring bars → LaysIf grid ring barred buffer p r buffer'

-- the answer is the least weight of the allowed covers, by whatever bars these rows are
abbrev pub FindsLeast : List ℤ → List ℕ → List ℕ → Option ℕ → Type 0
FindsLeast grid ring bars r = (barred : ℕ → ℕ → Bool) → Barring barred ring bars → LeastIs grid ring barred r
