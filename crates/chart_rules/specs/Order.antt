-- What the entries of a report tell, and their order, entry by entry: relations to be read beside `report_of`, which lists them.
use Rattle.std.specs.Prelude.{◌≡◌, Bool, ◌&&◌, cond, ◌⊎◌, List, ℕ, ◌<◌, eqb, ℤ, length}
use Rattle.loop_rules.specs.Loops.{loops}
use Rattle.rim_pieces.specs.Computed.{piece_count}
use Rattle.rim_rules.specs.Rims.{piece_at}
use Rattle.chart_rules.specs.declared.Entry.{Entry}
use Rattle.chart_rules.specs.Report.{kind_at}

-- "0 a piece", or a loop under its own kind
abbrev pub Tells : List ℤ → List ℕ → Entry → Type 0
Tells grid corners e = ((e.kind ≡ 0) × (e.number < piece_count corners)) ⊎ ((e.number < length (loops corners)) × (e.kind ≡ kind_at grid corners e.number))

-- the piece that an entry tells of
abbrev pub home_of : List ℕ → Entry → ℕ
home_of corners e = cond (eqb e.kind 0) e.number (piece_at corners e.number)

-- the rim of piece p
abbrev pub of_rim : List ℕ → ℕ → Entry → Bool
of_rim corners p e = eqb e.kind 1 && eqb (home_of corners e) p

-- e stands before f: "pieces ascend", of one piece come "its rim, its tide pools and its lakes", and those of one kind "in listed order"
abbrev pub Sooner : List ℕ → Entry → Entry → Type 0
Sooner corners e f =
    (home_of corners e < home_of corners f)
    ⊎ ((home_of corners e ≡ home_of corners f) × ((e.kind < f.kind) ⊎ ((e.kind ≡ f.kind) × (e.number < f.number))))
