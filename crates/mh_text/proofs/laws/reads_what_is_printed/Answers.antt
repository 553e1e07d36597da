use Rattle.mh_text.proofs.PrintedLaw.{reads_printed}
use Rattle.mh_text.proofs.laws.reads_what_is_printed.Goals as goal

pub returns : goal.returns
returns c = reads_printed
