-- The refusals 17 and 1 to 8, in their order: "each over the whole input before the next, the smallest index reported".
use Rattle.std.specs.Prelude.{Bool, not, cond, ◌&&◌, ◌||◌, List, [], ℕ, ◌+◌, ◌/◌, leb, ltb, nat_abs, length, get_or, Option, Some, None}
use Rattle.std.specs.Float.{binary32}
use Rattle.std.specs.Float.Ieee.{of_bits}
use Rattle.std.specs.Float.Ieee.Scale.{finite}
use Rattle.base_answers.specs.Numbers.{refusing}
use Rattle.base_answers.specs.declared.Answer.{Answer}
use Rattle.base_answers.specs.Answers.{Words, Corners, Buffer, Unnamed, Twice, Repeated, NotFinite, TooFar, NoPitch}
use Rattle.base_answers.specs.declared.Answer.TheVariants.{Done}
use Rattle.base_types.specs.Counts.{threes}
use Rattle.base_types.specs.Pitches.{is_pitch}
use Rattle.base_limits.specs.Limits as limits
use Rattle.grid_coordinate.specs.Units.{units}
use Rattle.grid_coordinate.specs.Places.{whole}
use Rattle.surface_rules.specs.Smallest.{least}
use Rattle.surface_rules.specs.Edges.{twice, repeats}

-- buffer i, from 0, is shorter than it need be
unfoldable pub short : List ℕ → List ℕ → ℕ → Bool
short lent needs i = ltb (get_or lent i 0) (get_or needs i 0)

-- "A corner of the surface names no point."
unfoldable pub unnamed : List ℕ → ℕ → ℕ → Bool
unnamed corners points i = leb points (get_or corners i 0)

-- "A coordinate isn't finite."
unfoldable pub not_finite : List ℕ → ℕ → Bool
not_finite words i = not (finite (of_bits binary32 (get_or words i 0)))

-- "A coordinate is too far": the multiple of the pitch to which it goes.
unfoldable pub too_far : ℕ → List ℕ → ℕ → Bool
too_far pitch words i = let x = of_bits binary32 (get_or words i 0) in finite x && ltb limits.greatest (nat_abs (whole pitch (units x)))

-- either of the two: what one pass over the words looks for
unfoldable pub off_grid : ℕ → List ℕ → ℕ → Bool
unfolding not_finite too_far
off_grid pitch words i = not_finite words i || too_far pitch words i

-- a refusal where a place was found
abbrev pub refuse_at : (ℕ → Answer) → Option ℕ → Answer
refuse_at f (Some i) = f i
refuse_at f None = Done

-- the first check that refuses decides
abbrev pub then_check : Answer → Answer → Answer
then_check a b = cond (refusing a) a b

-- 17: "a pitch other than 1, 2, 5 or 10"
unfoldable pub pitch_refusal : ℕ → Answer
pitch_refusal pitch = cond (is_pitch pitch) Done NoPitch

-- 1 and 2, by the counts of words and corners
unfoldable pub count_refusal : ℕ → ℕ → Answer
count_refusal words corners =
    then_check (cond (threes limits.words words) Done Words)
    (cond (threes limits.corners corners) Done Corners)

-- 3, by the lengths of the lent buffers and how long each need be; buffers are numbered from 1
unfoldable pub buffer_refusal : List ℕ → List ℕ → Answer
buffer_refusal lent needs = refuse_at (λ i. Buffer (i + 1)) (least (short lent needs) (length needs))

-- 4, by the corners and the count of points
abbrev pub unnamed_refusal : List ℕ → ℕ → Answer
unnamed_refusal corners points = refuse_at Unnamed (least (unnamed corners points) (length corners))

-- 4, 5 and 6
unfoldable pub corner_refusal : List ℕ → ℕ → Answer
corner_refusal corners points =
    then_check (unnamed_refusal corners points)
    (then_check (refuse_at Twice (least (twice corners) (length corners / 3)))
    (refuse_at Repeated (least (repeats corners) (length corners))))

-- 7 and 8, by the words
unfoldable pub word_refusal : ℕ → List ℕ → Answer
word_refusal pitch words =
    then_check (refuse_at NotFinite (least (not_finite words) (length words)))
    (refuse_at TooFar (least (too_far pitch words) (length words)))

-- 3 to 8, once 17, 1 and 2 were not given
unfoldable pub content_refusal : ℕ → List ℕ → List ℕ → List ℕ → List ℕ → Answer
content_refusal pitch words corners lent needs =
    then_check (buffer_refusal lent needs)
    (then_check (corner_refusal corners (length words / 3))
    (word_refusal pitch words))

-- the table from 17 to 8
unfoldable pub refusal : ℕ → List ℕ → List ℕ → List ℕ → List ℕ → Answer
refusal pitch words corners lent needs =
    then_check (pitch_refusal pitch)
    (then_check (count_refusal (length words) (length corners))
    (content_refusal pitch words corners lent needs))

-- the refusals of a sheet where every lent buffer is long enough
abbrev pub sheet_refusal : ℕ → List ℕ → List ℕ → Answer
sheet_refusal pitch words corners = refusal pitch words corners [] []
