use Rattle.std.proofs.Common.{ap, ◌∙◌}
use Rattle.mh_flow.specs.Solved.{named_in}
use Rattle.mh_flow.proofs.ListsLemmas.{earlier_list, next_list, taken_length}
use Rattle.mh_flow.proofs.lists.Lists.push_set.Goals as goal

pub push_again-requires : goal.push_again-requires
push_again-requires c = taken_length (named_in c.args.chart.now.members) c.args.self.now c.args.sets.now c.args.node c.in-Some.first c.requires.before c.requires.there c.in-Some.ensures.0

pub returns-in_ok-push_again-in-Some : goal.returns-in_ok-push_again-in-Some
returns-in_ok-push_again-in-Some c =
    let f = named_in c.args.chart.now.members in
    next_list f c.args.self.now c.push_again.new.self _ c.args.sets.now c.args.node c.requires.before c.requires.there c.in_ok-push_again-in-Some.ensures
    (earlier_list f c.args.self.now c.args.sets.now c.args.node c.in-Some.first c.requires.before c.requires.there c.in-Some.ensures.0 ∙ ap f c.in-Some.ensures.1)

pub returns-in_ok-push-in-None : goal.returns-in_ok-push-in-None
returns-in_ok-push-in-None c =
    next_list (named_in c.args.chart.now.members) c.args.self.now c.push.new.self _ c.args.sets.now c.args.node c.requires.before c.requires.there c.in_ok-push-in-None.ensures
    (c.in_ok-from_vec-in-None.ensures ∙ c.in_ok-list-in-None.ensures)
