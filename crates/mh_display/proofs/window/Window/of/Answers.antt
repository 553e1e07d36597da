use Rattle.std.proofs.Common.{rules}
use Rattle.std.proofs.Math.Facts.{to_z-of_z}
use Rattle.mh_display.specs.Panels.{area_of_frame}
use Rattle.mh_display.proofs.WindowLemmas.{window_of}
use Rattle.mh_display.proofs.window.Window.of.Goals as goal

pub returns : goal.returns
returns c =
    window_of (area_of_frame c.args.frame.now) _ (search rules) (search rules) (λ k h. search (rules, to_z-of_z)) (λ k h. search (rules, to_z-of_z))
    (λ k h. search (rules, to_z-of_z)) (λ k h. search (rules, to_z-of_z))
