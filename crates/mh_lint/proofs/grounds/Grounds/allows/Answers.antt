use Rattle.std.proofs.Common.{rules, List, ap, subst, sym, ◌∙◌}
use Rattle.mh_told.specs.Reading.{Source}
use Rattle.mh_places.specs.Directory.{AreBeside}
use Rattle.mh_lint.specs.declared.rule.Allowed.{Allowed}
use Rattle.mh_lint.specs.NoteLines.{IsTurnedOff, has_at}
use Rattle.mh_lint.proofs.GroundLemmas.{no_file, one_file}
use Rattle.mh_lint.proofs.grounds.Grounds.allows.Goals as goal

pub returns-in-Some : goal.returns-in-Some
returns-in-Some c =
    let here = c.self.inside.allowed.items in
    let are : AreBeside IsTurnedOff c.args.self.now here = subst (λ (fs : List Source). AreBeside IsTurnedOff fs here) c.self.view_is c.self.invariant in
    c.has_at.ensures
    ∙ ap (λ (all : List Allowed). has_at all c.in-Some.number c.args.rule) c.as_slice.ensures.value
    ∙ one_file c.args.self.now here c.args.group.now c.args.rule c.in-Some.number are (search rules)

pub returns-in-None : goal.returns-in-None
returns-in-None c = no_file c.args.self.now c.args.group.now c.args.rule (search rules)
