-- What is true of one coordinate: its answer is determined, its units are its value exactly, and the whole number is the nearest, a tie going to
-- the even one.
pub use Rattle.grid_coordinate.proofs.Laws.Only.{only}
pub use Rattle.grid_coordinate.proofs.Laws.Rests.{whole_nearest, rest_half, tie_even}
pub use Rattle.grid_coordinate.proofs.Laws.Nearest.{near_only}
pub use Rattle.grid_coordinate.proofs.Laws.Units.{units_exact, word_units_exact}
