-- `check_counts` asks for the words before the corners.
use Rattle.check_shape.proofs.Laws.Refusing.{words_refused, corners_refused, counts_done}
use Rattle.check_shape.proofs.check_counts.Goals as goal

pub returns-then-not-takes_words : goal.returns-then-not-takes_words
returns-then-not-takes_words c = search words_refused

pub returns-then-not-takes_corners : goal.returns-then-not-takes_corners
returns-then-not-takes_corners c = search corners_refused

pub returns : goal.returns
returns c = search counts_done
