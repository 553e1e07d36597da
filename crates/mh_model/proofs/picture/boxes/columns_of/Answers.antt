use Rattle.std.proofs.Common.{rules}
use Rattle.std.proofs.Math.Facts.{to_z-of_z}
use Rattle.mh_model.proofs.picture.boxes.columns_of.Goals as goal

pub returns : goal.returns
returns c = search (rules, to_z-of_z)
