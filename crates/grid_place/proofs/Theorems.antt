-- What is true of one coordinate at every pitch besides: it has an answer.
pub use Rattle.grid_place.proofs.Laws.Answered.{answered}
