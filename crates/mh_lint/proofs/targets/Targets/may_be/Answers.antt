use Rattle.std.proofs.Common.{rules, ap, sym, ◌∙◌, ◌||◌, Bool}
use Rattle.std.specs.List.{list_any}
use Rattle.mh_model.specs.Reference.{same_key}
use Rattle.mh_lint.proofs.targets.Targets.may_be.Goals as goal

pub returns-then-self : goal.returns-then-self
returns-then-self c =
    sym (search (rules, c.self.invariant c.args.at.now))

pub returns-else-self : goal.returns-else-self
returns-else-self c =
    sym (search (rules, c.self.invariant c.args.at.now))
