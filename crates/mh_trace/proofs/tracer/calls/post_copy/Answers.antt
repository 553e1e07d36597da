use Rattle.std.specs.Prelude.{◌≡◌, MatchOption}
use Rattle.std.proofs.Common.{rules, subst}
use Rattle.mh_model.specs.declared.input.Input.{Input}
use Rattle.mh_model.specs.Step.{obstacle}
use Rattle.mh_machine.specs.declared.refusal.RefusedWhy.TheVariants as refused
use Rattle.mh_machine.specs.Refusal.{post_refusal}
use Rattle.mh_trace.proofs.CallLemmas.{posted_left, told_all}
use Rattle.mh_trace.proofs.tracer.calls.post_copy.Goals as goal

pub returns-in-Err-clause-barred : goal.returns-in-Err-clause-barred
returns-in-Err-clause-barred c =
    let same : c.in_ok-clone.field-0 ≡ c.args.input.now = search rules in
    let s = c.args.machine.now in
    let why = c.in-Err.refused.why in
    let told = subst (λ (i : Input). MatchOption (post_refusal i s) (why ≡ refused.NoMemory) (λ w. why ≡ w)) same c.in-Err.ensures.refused in
    told_all (obstacle c.args.input.now s) why c.in_the_way.result told c.in_the_way.ensures.found c.in_the_way.ensures.one

pub returns-in-Err-clause-posted : goal.returns-in-Err-clause-posted
returns-in-Err-clause-posted c =
    let same : c.in_ok-clone.field-0 ≡ c.args.input.now = search rules in
    let s = c.args.machine.now in
    let why = c.in-Err.refused.why in
    let told = subst (λ (i : Input). MatchOption (post_refusal i s) (why ≡ refused.NoMemory) (λ w. why ≡ w)) same c.in-Err.ensures.refused in
    posted_left c.args.input.now s c.post.new.self why c.in_the_way.result c.in-Err.ensures.kept told c.in_the_way.ensures.found c.in_the_way.ensures.one
