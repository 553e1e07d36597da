use Rattle.std.specs.Prelude.{◌≡◌, ◌-◌, ◌+◌}
use Rattle.std.proofs.Common.{rules, subst}
use Rattle.mh_told.specs.Masks.{IsShown}
use Rattle.mh_told.specs.Stretch.{stretch}
use Rattle.mh_told.proofs.MaskLemmas.{shown_is}
use Rattle.mh_told.proofs.row.shown_in.Goals as goal

pub returns : goal.returns
returns c =
    let is : c.behind_bits.result - c.args.first ≡ c.saturating_sub.result = search rules in
    subst (IsShown (stretch c.args.picture.now c.args.row c.args.first (c.args.last + 1)).scalars) is
    (shown_is c.args.picture.now c.args.row c.args.first c.args.last c.args.written c.below.result c.behind_bits.result c.cells.ensures.whole c.requires.row c.requires.some c.requires.within c.requires.told c.below.ensures c.behind_bits.ensures)
