-- `wazelpunt_chart_text` tells what `print` answers.
use Rattle.wazelpunt.proofs.Printing.{told_print}
use Rattle.wazelpunt.proofs.wazelpunt_chart_text.Goals as goal

pub returns : goal.returns
returns c = told_print _ _ c.tell_bytes.ensures.told c.tell_bytes.ensures.counted c.print-charted.ensures
