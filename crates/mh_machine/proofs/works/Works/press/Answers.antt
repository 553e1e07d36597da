use Rattle.std.proofs.Common.{rules, ◌∙◌}
use Rattle.mh_machine.proofs.WidgetLemmas.{pressed_planned}
use Rattle.mh_machine.proofs.works.Works.press.Goals as goal

pub returns-clause-done : goal.returns-clause-done
returns-clause-done c =
    let does = c.in_ok-pressed.ensures in
    c.in_ok-take_pressed.ensures.done
    ∙ pressed_planned c.args.self.now.state c.args.key c.args.begun.now c.in-Some.object.now c.in_ok-pressed.pressed.edit c.in_ok-pressed.pressed.items.items
    c.in_ok-pressed.pressed.ends (search rules) does.0 does.1 does.2
