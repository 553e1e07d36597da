use Rattle.std.specs.Prelude.{List}
use Rattle.std.proofs.Common.{ap, ◌∙◌}
use Rattle.mh_model.specs.declared.program.Signature.{Signature}
use Rattle.mh_model.specs.Faults.{fault_known}
use Rattle.mh_model.specs.Known.{known_in}
use Rattle.mh_model.specs.State.{all}
use Rattle.mh_machine.proofs.stepping.why_act_stuck.Goals as goal

pub returns : goal.returns
returns c =
    c.in_ok-found.ensures
    ∙ ap (λ (ps : List Signature). fault_known (known_in (record c.args.service.now { programs = ps }) (all c.args.objects.now)) c.args.act.now) c.programs.ensures
