use Rattle.std.proofs.Common.{[], unwrap_or, sym, ◌∙◌}
use Rattle.mh_store.specs.Trying.{of_scene}
use Rattle.mh_store.proofs.ApartLemmas.{renewed_apart, first_renewed_apart}
use Rattle.mh_store.proofs.BothLemmas.{renewed-first, renewed-behind}
use Rattle.mh_store.proofs.objects.Objects.renew.Goals as goal

pub returns-in-Some : goal.returns-in-Some
returns-in-Some c =
    rw (← c.self.view_is) (renewed-behind c.args.kept c.in-Some.kept (record { application = c.self.inside.application; scene = unwrap_or c.self.inside.scene [] }) c.renew.new.self (unwrap_or c.renew_in.new.scene []) (sym c.in-Some.is ∙ c.renew.ensures.back) c.renew.ensures.done c.renew_in.ensures)

pub returns-in_default : goal.returns-in_default
returns-in_default c =
    rw (← c.self.view_is) (renewed-first c.args.kept (record { application = c.self.inside.application; scene = unwrap_or c.self.inside.scene [] }) c.renew.new.self (sym c.in_default.is ∙ c.renew.ensures.back) c.renew.ensures.done)

pub invariant_of-self : goal.invariant_of-self
invariant_of-self c = renewed_apart c.self.inside.apart c.args.kept c.in-Some.kept c.self.inside.application (of_scene c.self.inside.scene) c.renew.new.self (of_scene c.renew_in.new.scene) c.renew.ensures.done c.renew_in.ensures c.self.invariant

pub invariant_of-self-in_default : goal.invariant_of-self-in_default
invariant_of-self-in_default c = first_renewed_apart c.self.inside.apart c.args.kept c.self.inside.application (of_scene c.self.inside.scene) c.renew.new.self c.renew.ensures.done c.self.invariant
