use Rattle.mh_edit.proofs.RenumberLaw.{only_numbers}
use Rattle.mh_edit.proofs.renumbering.only_numbers_change.Goals as goal

pub returns : goal.returns
returns c = only_numbers
