use Rattle.std.proofs.Common.{◌≡◌, List, Option, None, Some, ap, sym, ◌∙◌}
use Rattle.std.specs.Prelude.{position}
use Rattle.std.specs.Map.{keys_of}
use Rattle.std.specs.Str.{bytes_eq}
use Rattle.mh_model.specs.declared.object.Fixed.{Fixed}
use Rattle.mh_model.specs.Service.{Service}
use Rattle.mh_flow.proofs.WalkLemmas.{no_group, group_at}
use Rattle.mh_flow.proofs.opening.walks.Walks.through.Goals as goal

pub returns-in-None : goal.returns-in-None
returns-in-None c =
    let g = c.args.group.now in
    c.none.ensures
    ∙ no_group c.args.self.now g c.args.variable.now
    (sym (c.get_index_of.ensures.index ∙ ap (λ es. position (bytes_eq g) (keys_of es)) c.groups.ensures.entries ∙ ap (λ (v : Service). position (bytes_eq g) (keys_of v.groups)) c.self.view_is) ∙ c.in-None.is)

pub returns-in-Some : goal.returns-in-Some
returns-in-Some c =
    let g = c.args.group.now in
    c.at.ensures
    ∙ group_at c.args.self.now g c.args.variable.now c.in-Some.number
    (sym (c.get_index_of.ensures.index ∙ ap (λ es. position (bytes_eq g) (keys_of es)) c.groups.ensures.entries ∙ ap (λ (v : Service). position (bytes_eq g) (keys_of v.groups)) c.self.view_is) ∙ c.in-Some.is)
