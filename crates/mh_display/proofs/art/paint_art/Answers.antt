use Rattle.mh_display.proofs.ArtLemmas.{with_ground}
use Rattle.mh_display.proofs.art.paint_art.Goals as goal

pub returns : goal.returns
returns c =
    with_ground c.args.area.now c.args.fill c.args.drawings.now c.ground_of-ground.result c.ground_of-ground.result.frame c.of-own.result _ _ _
    c.ground_of-ground.ensures.whole c.ground_of-ground.ensures.frame c.of-own.ensures c.paint_drawings.ensures c.paint_panel.ensures
