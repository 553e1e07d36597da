use Rattle.std.proofs.Common.{◌∙◌, sym}
use Rattle.mh_told.proofs.LateLemmas.{all_scenes}
use Rattle.mh_told.proofs.late.marked.Goals as goal

pub unreachable-requires : goal.unreachable-requires
unreachable-requires c =
    let none = all_scenes c.args.service c.args.names.items c.requires in
    let some = c.in-Err.ensures.refused c.in-NotAScene.field-0 c.in-NotAScene.is in
    let clash = sym none ∙ some in
    absurd cc
