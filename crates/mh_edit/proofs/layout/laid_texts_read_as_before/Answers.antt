use Rattle.mh_edit.proofs.LayoutLaw.{laid_reads}
use Rattle.mh_edit.proofs.layout.laid_texts_read_as_before.Goals as goal

pub returns : goal.returns
returns c = laid_reads
