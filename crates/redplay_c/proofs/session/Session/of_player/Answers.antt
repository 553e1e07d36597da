use Rattle.redplay_c.specs.Starts.{presets}
use Rattle.redplay_c.proofs.StartLemmas.{set_so}
use Rattle.redplay_c.proofs.session.Session.of_player.Goals as goal

pub returns-clause-set : goal.returns-clause-set
returns-clause-set c =
    set_so c.preset_all-set.result c.once_set.result (presets c.args.contents.now c.args.player.play.state) (record { engine = c.preset_all-set.new.player.play; seal = c.preset_all-set.new.player.seal; seen = c.args.seen })
    c.once_set.ensures.same c.once_set.ensures.good c.preset_all-set.ensures.set
