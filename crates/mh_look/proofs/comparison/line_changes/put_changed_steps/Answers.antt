use Rattle.std.specs.Prelude.{◌++◌}
use Rattle.std.specs.Option.{option_copied}
use Rattle.std.proofs.Common.{rules}
use Rattle.mh_look.specs.LineChanges.{changed_steps, steps, steps_behind}
use Rattle.mh_look.proofs.StepsLemmas.{steps_end}
use Rattle.mh_look.proofs.comparison.line_changes.put_changed_steps.Goals as goal

pub returns-in_default-others : goal.returns-in_default-others
returns-in_default-others c =
    steps_end c.loop-ones.passed (steps_behind (option_copied c.loop-ones.ones)) (option_copied c.loop-ones.others) c.loop-ones.text
    (c.args.text.now ++ changed_steps 0 (steps c.args.first.now) (steps c.args.second.now)) (search rules) c.loop-ones.invariant.0
