-- What C is told is determined.
pub use Rattle.wazelpunt.proofs.Telling.{told_once, patches_told_once, charts_told_once, judges_told_once}
pub use Rattle.wazelpunt.proofs.Reading.{reads_told_once, sets_told_once}
pub use Rattle.wazelpunt.proofs.Printing.{prints_told_once}
