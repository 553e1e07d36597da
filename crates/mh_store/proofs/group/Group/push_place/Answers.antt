use Rattle.std.proofs.Common.{◌++◌, ap, sym, ◌∙◌, List, ℕ}
use Rattle.std.specs.Str.{bytes_eq}
use Rattle.mh_model.specs.declared.object.Object.{Object}
use Rattle.std.proofs.lemmas.List.{append-nil}
use Rattle.mh_store.specs.Places.{places_at}
use Rattle.mh_store.proofs.TableLemmas.{is_other, is_own}
use Rattle.mh_store.proofs.NamedLemmas.{places_elsewhere, places_here}
use Rattle.mh_store.proofs.group.Group.push_place.Goals as goal

pub returns-then-ne : goal.returns-then-ne
returns-then-ne c =
    let other = is_other (bytes_eq c.args.at.now.group c.self.inside.name) c.if-ne.ensures in
    rw (← c.self.view_is)
    (sym (append-nil c.args.places.now.items)
    ∙ ap (λ (ks : List ℕ). c.args.places.now.items ++ ks) (sym (places_elsewhere c.args.first c.args.at.now c.self.inside.name c.self.inside.table.entries other c.self.invariant)))

pub returns : goal.returns
returns c =
    let own = is_own (bytes_eq c.args.at.now.group c.self.inside.name) c.if-ne.ensures in
    let here = places_here c.args.first c.args.at.now c.self.inside.name c.self.inside.table.entries own c.self.invariant ∙ ap (λ (os : List Object). places_at c.args.first os c.args.at.now) c.self.view_is in
    rw (← here) c.push_place.ensures
