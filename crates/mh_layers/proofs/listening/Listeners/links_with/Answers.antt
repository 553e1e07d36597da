use Rattle.std.proofs.Common.{ℕ, Option, Some, ap, ◌∙◌}
use Rattle.mh_layers.specs.Listening.{links_at}
use Rattle.mh_layers.proofs.ListeningLemmas.{Groups, group_number, with_is, without_is}
use Rattle.mh_layers.proofs.listening.Listeners.links_with.Goals as goal

pub returns : goal.returns
returns c =
    let l = c.args.self.now in
    let v = c.args.service.now in
    let g = c.args.group.now in
    let r = c.args.source.now in
    let number = c.get_index_of-group.ensures.index ∙ ap (λ (gs : Groups). group_number gs g) c.groups.ensures.entries in
    let found = c.links_at.ensures ∙ ap (λ (n : Option ℕ). links_at l n r c.args.kind (Some c.args.value)) number in
    record {
      named = λ x at. found ∙ with_is v l c.requires g r c.args.kind c.args.value x at;
      unnamed = λ none. found ∙ without_is v l c.requires g r c.args.kind c.args.value none;
    }
