use Rattle.std.proofs.Common.{ap, ◌∙◌}
use Rattle.mh_model.specs.Edits.{edited}
use Rattle.mh_model.specs.Rules.{changed}
use Rattle.mh_model.specs.Service.{parts}
use Rattle.mh_model.proofs.PartLemmas.{changed-own, changed-others, placed-own, placed-others}
use Rattle.mh_store.proofs.PlacingLemmas.{renewed_behind}
use Rattle.mh_store.proofs.objects.Objects.edit_and_place.Goals as goal

pub returns-clause-done : goal.returns-clause-done
returns-clause-done c = renewed_behind (edited c.args.edit) c.args.at.now c.args.placed.now c.args.self.now c.edit-2.new.self c.renew_all.new.objects c.in_ok-ready.ready.items c.requires c.in_ok-ready.ensures c.in_ok-edit.ensures.done c.renew_all.ensures

pub returns-clause-own : goal.returns-clause-own
returns-clause-own c = ap (λ os. parts os.application) (returns-clause-done c) ∙ placed-own c.args.placed.now (changed (edited c.args.edit) c.args.at.now c.args.self.now) ∙ changed-own (edited c.args.edit) c.args.at.now c.args.self.now

pub returns-clause-others : goal.returns-clause-others
returns-clause-others c = ap (λ os. parts os.scene) (returns-clause-done c) ∙ placed-others c.args.placed.now (changed (edited c.args.edit) c.args.at.now c.args.self.now) ∙ changed-others (edited c.args.edit) c.args.at.now c.args.self.now
