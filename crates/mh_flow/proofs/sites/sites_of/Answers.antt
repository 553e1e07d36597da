use Rattle.std.proofs.Common.{List, ◌++◌, filter, ap, ◌∙◌}
use Rattle.std.specs.List.{flat_map}
use Rattle.mh_model.specs.declared.object.Fixed.{Fixed}
use Rattle.mh_laws.specs.Active.{is_active}
use Rattle.mh_flow.specs.Sites.{Site, sites}
use Rattle.mh_flow.proofs.SiteLemmas.{active_joined}
use Rattle.mh_flow.proofs.sites.sites_of.Goals as goal

pub returns : goal.returns
returns c =
    let is = is_active c.args.present.now in
    let application = c.parts.result.0.now in
    let scene = c.parts.result.1.now in
    let front : List Site = flat_map sites (filter is application) in
    let back : List Site = flat_map sites (filter is scene) in
    c.in_ok-push_active-2.ensures
    ∙ ap (λ (xs : List Site). xs ++ back) c.in_ok-push_active.ensures
    ∙ ap (λ (xs : List Site). (xs ++ front) ++ back) c.new-all.ensures.items
    ∙ active_joined is application scene
    ∙ ap (λ (ps : List Fixed). flat_map sites (filter is ps)) c.parts.ensures
