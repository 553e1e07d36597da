use Rattle.mh_edit.proofs.LayoutLaw.{laid_keeps}
use Rattle.mh_edit.proofs.layout.laid_texts_keep_comments.Goals as goal

pub returns : goal.returns
returns c = laid_keeps
