-- `spell_row`: after some turns the bytes of the row whose second digit is below `low` are spelt too.
use native.Mathlib.Omega.{arith}
use Rattle.text_figures.proofs.Laws.Spelling.{row_pair, spell_more}
use Rattle.text_figures.proofs.spell_row.Goals as goal

pub loop-low-preserved : goal.loop-low-preserved
loop-low-preserved c =
    let l = c.loop-low.invariant in (
      l.0,
      spell_more _ _ _ _ (omega (arith, c.requires.0)) (omega arith) (row_pair _ _ _ _ c.requires.0 c.loop-low-test.true l.0 c.byte_of.ensures) l.1,
    )
