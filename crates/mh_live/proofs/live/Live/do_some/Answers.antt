use Rattle.std.specs.Prelude.{◌<◌, ◌≤◌}
use Rattle.std.proofs.Common.{rules, ap, ◌∙◌}
use Rattle.mh_live.specs.Playing.{Playing}
use Rattle.mh_live.proofs.DoneLemmas.{all_done, next_done}
use Rattle.mh_live.proofs.live.Live.do_some.Goals as goal

pub loop-index-preserved : goal.loop-index-preserved
loop-index-preserved c =
    let less : c.loop-index.index < c.args.place = search rules in
    next_done c.args.place c.loop-index.index c.args.self.now.asked c.loop-index.self _ _ less (search rules) c.loop-index.invariant

pub returns : goal.returns
returns c =
    let over : c.args.place ≤ c.loop-index.index = search rules in
    c.stand_at.ensures
    ∙ ap (λ (l : Playing). record l { at = c.args.place }) (all_done c.args.place c.loop-index.index c.args.self.now.asked c.loop-index.self _ over c.loop-index.invariant)
