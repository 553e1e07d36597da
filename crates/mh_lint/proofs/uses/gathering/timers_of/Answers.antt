use Rattle.std.proofs.Common.{◌≡◌, ◌∙◌}
use Rattle.std.proofs.lemmas.Result.{IfOk-weaker}
use Rattle.std.specs.List.{flat_map}
use Rattle.mh_flow.proofs.ChartLemmas.{ok_of}
use Rattle.mh_lint.specs.Uses.{heard_by, set_by}
use Rattle.mh_lint.proofs.uses.gathering.timers_of.Goals as goal

pub returns-in-Ok : goal.returns-in-Ok
returns-in-Ok c =
    let held = c.in-Ok.ensures.held in
    let heard = ok_of c.heard_of.result c.in-Ok.heard (λ x. x ≡ flat_map heard_by c.args.objects.now) held.0 c.heard_of.ensures in
    let timed = ok_of c.timed_of.result c.in-Ok.timed (λ x. x ≡ flat_map set_by c.args.acts.now) held.1 c.timed_of.ensures in
    IfOk-weaker c.of.result _ _ (λ timers same. same ∙ (λ i. record { heard = heard i; timed = timed i })) c.of.ensures
