-- `put_hex_ended` lays four pairs and the end, each behind the last.
use native.Mathlib.Omega.{arith}
use Rattle.text_figures.proofs.Laws.Spelling.{lay_word}
use Rattle.text_figures.proofs.put_hex_ended.Goals as goal

pub returns : goal.returns
returns c = lay_word c.requires.1 c.args.at c.args.w c.args.end c.args.text.now c.requires.0 (omega arith) c.put_pair.ensures c.put_pair-2.ensures c.put_pair-3.ensures c.put_pair-4.ensures
