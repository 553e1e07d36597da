use Rattle.std.proofs.Common.{ℕ, Option, None, ap, ◌∙◌}
use Rattle.mh_layers.specs.Listening.{links_at}
use Rattle.mh_layers.proofs.ListeningLemmas.{Groups, group_number, plain_is}
use Rattle.mh_layers.proofs.listening.Listeners.plain_links.Goals as goal

pub returns : goal.returns
returns c =
    let l = c.args.self.now in
    let g = c.args.group.now in
    let r = c.args.source.now in
    let number = c.get_index_of-group.ensures.index ∙ ap (λ (gs : Groups). group_number gs g) c.groups.ensures.entries in
    c.links_at.ensures
    ∙ ap (λ (n : Option ℕ). links_at l n r c.args.kind None) number
    ∙ plain_is c.args.service.now l c.requires g r c.args.kind
