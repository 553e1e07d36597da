use Rattle.std.specs.Prelude.{◌≡◌, false}
use Rattle.std.specs.Map.{keys_of}
use Rattle.std.proofs.Common.{rules}
use Rattle.std.specs.declared.cmp.Ordering.TheVariants.{Less}
use Rattle.std.proofs.lemmas.List.Elements.{recursion_from_All}
use Rattle.mh_events.specs.Turns.{is_first_due, turn_cmp}
use Rattle.mh_events.proofs.TurnLemmas.{none_due_in, others_behind}
use Rattle.mh_events.proofs.turn.take_due.Goals as goal

pub returns-then-not-is_first_due-clause-none : goal.returns-then-not-is_first_due-clause-none
returns-then-not-is_first_due-clause-none c =
    let late : is_first_due c.args.now c.args.timers.now.entries ≡ false = search rules in
    none_due_in c.args.now c.args.timers.now.entries late c.len.ensures.ordered c.requires

pub returns-in-Some-clause-behind : goal.returns-in-Some-clause-behind
returns-in-Some-clause-behind c =
    let turn = c.in-Some.first.0 in
    others_behind turn c.pop_first.new.self.entries
    (recursion_from_All (λ v. turn_cmp turn v ≡ Less) (keys_of c.pop_first.new.self.entries) c.in-Some.ensures.all_above)
