-- The loops in columns: their rings one after the other, and for each loop its length, where its ring begins, and the next loop of its piece.
use Rattle.std.specs.Prelude.{List, ℕ}

pub record Coast : Type 0 where
  pub rings : List ℕ
  pub lengths : List ℕ
  pub starts : List ℕ
  pub links : List ℕ

abbrev pub coast_of : List ℕ → List ℕ → List ℕ → List ℕ → Coast
coast_of rings lengths starts links = record { rings = rings; lengths = lengths; starts = starts; links = links }
