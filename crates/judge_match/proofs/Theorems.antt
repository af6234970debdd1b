-- What a part of a set is of a loop is determined.
pub use Rattle.judge_match.proofs.Laws.Matched.{matches_once}
