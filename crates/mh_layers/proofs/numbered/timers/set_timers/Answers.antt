use Rattle.std.proofs.Common.{ap, ◌∙◌, sym}
use Rattle.std.specs.Option.{option_copied}
use Rattle.mh_flow.specs.Solved.{held_in}
use Rattle.mh_layers.proofs.NamesLemmas.{item_among}
use Rattle.mh_layers.proofs.SetTimerLemmas.{held_found, held_known}
use Rattle.mh_layers.proofs.numbered.timers.set_timers.Goals as goal

pub push_config-requires-clause-held : goal.push_config-requires-clause-held
push_config-requires-clause-held c =
    held_found c.args.service.now c.args.flow.now c.args.known.now.keys c.args.held.now c.config-item.result c.in-Some.there.now
    c.requires.held (sym c.held_there.ensures ∙ ap option_copied c.in-Some.is)

pub unreachable-requires : goal.unreachable-requires
unreachable-requires c =
    held_known (held_in c.args.service.now c.args.flow.now) c.args.all.now c.args.known.now.keys c.args.held.now c.config-item.result
    (item_among c.args.all.now c.loop-config.config-index c.config-item.result c.loop-config-test.true c.config-item.is)
    c.requires.known c.requires.held (sym c.held_there.ensures ∙ ap option_copied c.in_default.is)
