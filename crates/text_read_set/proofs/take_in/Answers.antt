-- `take_in` goes line kind by line kind, as the reading of a text does.
use mathlib.Core.Path.{◌≡◌, sym}
use native.Mathlib.Omega.{arith}
use lib.ListN.{drop}
use Rattle.text_digits.specs.Workings.Reading.{got}
use Rattle.text_rules.specs.Workings.Parse.{read_count}
use Rattle.text_rules.proofs.Laws.Taking.{stops_less}
use Rattle.text_rules.proofs.Laws.Scanning.{no_first, wrong_first, no_second, wrong_second, text_left, all_read}
use Rattle.text_sheet.specs.Workings.Parse.{read_triangle}
use Rattle.text_sheet.proofs.Laws.Rooms.{room_less}
use Rattle.text_sheet.proofs.Laws.Exactly.{count_few}
use Rattle.text_read_set.specs.Set.{states, triangles}
use Rattle.text_read_set.specs.Workings.Scanning.{read_state}
use Rattle.text_read_set.proofs.take_in.Goals as goal
use Rattle.text_read_set.proofs.take_in.Goals.{In-Some, In-Some-count_at}

-- the first count was read
counted : (c : In-Some) → let text = c.args.text.now in read_count states.key states.most text ≡ got c.in-Some.n (drop c.in-Some.first text)
counted c = sym c.in-Some.ensures.0

-- the second count was read
counted_next : (c : In-Some-count_at) → let text = c.args.text.now in read_count triangles.key triangles.most (drop c.in-Ok.place text) ≡ got c.in-Some-count_at.t (drop c.in-Some-count_at.second text)
counted_next c = sym c.in-Some-count_at.ensures.0

pub returns-in_default : goal.returns-in_default
returns-in_default c = let h = sym c.in_default.ensures.0 in search (no_first, h)

pub read_states-requires : goal.read_states-requires
read_states-requires c = (c.in-Some.ensures.1, omega (arith, count_few _ _ (counted (goal.at.read_states-requires c).In-Some), c.requires.0))

pub overflow_add-result : goal.overflow_add-result
overflow_add-result c = omega (arith, count_few _ _ (counted (goal.at.overflow_add-result c).In-Some), stops_less read_state _ _ _ c.in-Err.ensures.0)

pub returns-in-Err : goal.returns-in-Err
returns-in-Err c = search (wrong_first, counted (goal.at.returns-in-Err c).In-Some, c.in-Err.ensures.0)

pub returns-in_default-count_at : goal.returns-in_default-count_at
returns-in_default-count_at c = let h = sym c.in_default-count_at.ensures.0 in search (no_second, counted (goal.at.returns-in_default-count_at c).In-Some, c.in-Ok.ensures.0, h)

pub read_triangles-requires : goal.read_triangles-requires
read_triangles-requires c = let f = count_few _ _ (counted_next (goal.at.read_triangles-requires c).In-Some-count_at) in (c.in-Some-count_at.ensures.1, search (room_less, f, c.requires))

pub overflow_add-result-in-Err-read_triangles-2 : goal.overflow_add-result-in-Err-read_triangles-2
overflow_add-result-in-Err-read_triangles-2 c =
    let at = goal.at.overflow_add-result-in-Err-read_triangles-2 c in
    omega (arith, count_few _ _ (counted at.In-Some), count_few _ _ (counted_next at.In-Some-count_at), stops_less read_triangle _ _ _ c.in-Err-read_triangles.ensures.0)

pub returns-in-Err-read_triangles : goal.returns-in-Err-read_triangles
returns-in-Err-read_triangles c =
    let at = goal.at.returns-in-Err-read_triangles c in
    search (wrong_second, counted at.In-Some, c.in-Ok.ensures.0, counted_next at.In-Some-count_at, c.in-Err-read_triangles.ensures.0)

pub returns-then-end-text : goal.returns-then-end-text
returns-then-end-text c =
    let at = goal.at.returns-then-end-text c in
    search (text_left, counted at.In-Some, c.in-Ok.ensures.0, counted_next at.In-Some-count_at, c.in-Ok-read_triangles.ensures.0, c.if-end-text)

pub returns : goal.returns
returns c =
    let at = goal.at.returns c in
    search (all_read, counted at.In-Some, c.in-Ok.ensures.0, counted_next at.In-Some-count_at, c.in-Ok-read_triangles.ensures.0, c.if-end-text, c.read_states, c.read_triangles)
