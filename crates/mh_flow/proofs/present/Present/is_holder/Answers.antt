use Rattle.std.proofs.Common.{sym, ◌∙◌}
use Rattle.mh_flow.proofs.HeldLemmas.{part_holds}
use Rattle.mh_flow.proofs.present.Present.is_holder.Goals as goal

pub returns : goal.returns
returns c =
    let p = c.self.inside in
    c.is_holder.ensures
    ∙ sym (part_holds p.service.now p.config.now p.index.now.entries p.application.now p.scene.now c.args.self.now c.args.part.now c.self.invariant c.self.view_is c.groups.ensures.keys c.requires)
