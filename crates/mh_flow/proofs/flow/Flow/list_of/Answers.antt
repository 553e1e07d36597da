use Rattle.std.proofs.Common.{◌≡◌, ℕ, List, [], Option, ap, sym, ◌∙◌}
use Rattle.std.specs.Prelude.{slice_get, unwrap_or}
use Rattle.std.specs.Option.{option_map_or}
use Rattle.mh_base.specs.declared.obj_ref.ObjRef.{ObjRef}
use Rattle.mh_flow.specs.Sets.{members_of}
use Rattle.mh_flow.specs.Solved.{Solved, named}
use Rattle.mh_flow.proofs.ListsLemmas.{list_of_set}
use Rattle.mh_flow.proofs.flow.Flow.list_of.Goals as goal

pub returns-in_ok-list-in-Some : goal.returns-in_ok-list-in-Some
returns-in_ok-list-in-Some c =
    c.in_ok-list-in-Some.ensures
    ∙ ap (λ (all : List (List ObjRef)). unwrap_or (slice_get all c.in-Some.node) []) c.self.invariant
    ∙ list_of_set c.self.inside.chart.members c.self.inside.sets c.in-Some.node
    ∙ ap (λ (f : Solved). named f.chart.members (members_of f.rows c.in-Some.node)) c.self.view_is
    ∙ sym (ap (λ (o : Option ℕ). option_map_or (λ u. named c.args.self.now.chart.members (members_of c.args.self.now.rows u)) o []) c.in-Some.is)
