-- `settle` walks the bucket of the corner's words, which holds every point that has them; a new point goes in front.
use mathlib.Core.Path.{◌≡◌}
use mathlib.Core.List.{List}
use Prim.Native.Nat.{ℕ, ◌+◌}
use native.Mathlib.Omega.{arith}
use lib.ListN.{length}
use Rattle.stl_facets.specs.Facets.{plain_at}
use Rattle.stl_gather.specs.Workings.Racks.{Rack, SettleRoom, bucket_of}
use Rattle.stl_gather.proofs.Laws.Racks.{Seen, head_inside, settle_seeks, found_few, settle_known, settle_full, settle_new}
use Rattle.stl_gather.proofs.settle.Goals as goal

-- what is known where the bucket was found
seen : {file : List ℕ} {w : Rack} {at i n a b c h : ℕ} → SettleRoom file w at i n
    → a ≡ plain_at file at → b ≡ plain_at file (at + 4) → c ≡ plain_at file (at + 8) → h ≡ bucket_of (length w.heads) a b c
    → Seen file w at i n a b c h
seen room first second third bucket = record { room = room; first = first; second = second; third = third; bucket = bucket }

pub offset_bounds-heads-h : goal.offset_bounds-heads-h
offset_bounds-heads-h c = omega (arith, head_inside (seen c.requires c.plain_at-a.ensures c.plain_at-b.ensures c.plain_at-c.ensures c.bucket-h.ensures))

pub bounds-heads-h : goal.bounds-heads-h
bounds-heads-h c = head_inside (seen c.requires c.plain_at-a.ensures c.plain_at-b.ensures c.plain_at-c.ensures c.bucket-h.ensures)

pub seek-requires : goal.seek-requires
seek-requires c = settle_seeks (seen c.requires c.plain_at-a.ensures c.plain_at-b.ensures c.plain_at-c.ensures c.bucket-h.ensures)

pub overflow_cast-cs : goal.overflow_cast-cs
overflow_cast-cs c =
    omega (
      arith,
      found_few (seen c.requires c.plain_at-a.ensures c.plain_at-b.ensures c.plain_at-c.ensures c.bucket-h.ensures) _ c.seek.ensures c.in-Some.is,
      c.requires.racked,
    )

pub returns-in-Some : goal.returns-in-Some
returns-in-Some c = settle_known (seen c.requires c.plain_at-a.ensures c.plain_at-b.ensures c.plain_at-c.ensures c.bucket-h.ensures) _ c.seek.ensures c.in-Some.is

pub returns-then-links-n : goal.returns-then-links-n
returns-then-links-n c =
    settle_full (seen c.requires c.plain_at-a.ensures c.plain_at-b.ensures c.plain_at-c.ensures c.bucket-h.ensures) _ c.seek.ensures c.in_default.is
    (omega (arith, c.if-links-n.true))

pub offset_bounds-heads-h-2 : goal.offset_bounds-heads-h-2
offset_bounds-heads-h-2 c = omega (arith, head_inside (seen c.requires c.plain_at-a.ensures c.plain_at-b.ensures c.plain_at-c.ensures c.bucket-h.ensures))

pub bounds-heads-h-2 : goal.bounds-heads-h-2
bounds-heads-h-2 c = head_inside (seen c.requires c.plain_at-a.ensures c.plain_at-b.ensures c.plain_at-c.ensures c.bucket-h.ensures)

pub returns : goal.returns
returns c =
    settle_new (seen c.requires c.plain_at-a.ensures c.plain_at-b.ensures c.plain_at-c.ensures c.bucket-h.ensures) _ c.seek.ensures c.in_default.is c.if-links-n.false
