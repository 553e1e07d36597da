use Rattle.std.proofs.Common.{refl}
use Rattle.mh_display.proofs.PlaceLemmas.{all_blank}
use Rattle.mh_display.proofs.characters.blanks.Goals as goal

pub returns : goal.returns
returns c = all_blank _ refl
