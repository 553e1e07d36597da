use Rattle.std.specs.Prelude.{◌≡◌, MatchOption}
use Rattle.std.proofs.Common.{rules, subst}
use Rattle.mh_model.specs.declared.file.File.{File}
use Rattle.mh_model.specs.Step.{preset_obstacle}
use Rattle.mh_machine.specs.declared.refusal.RefusedWhy.TheVariants as refused
use Rattle.mh_machine.specs.Refusal.{preset_refusal}
use Rattle.mh_trace.proofs.CallLemmas.{preset_free, preset_left, told_all}
use Rattle.mh_trace.proofs.tracer.calls.preset_copy.Goals as goal

pub returns-in-Ok-clause-preset : goal.returns-in-Ok-clause-preset
returns-in-Ok-clause-preset c = preset_free c.args.file.now c.in_ok-clone.field-0 c.args.machine.now c.preset.new.self (search rules) c.in-Ok.ensures.accepted c.in-Ok.ensures.preset

pub returns-in-Err-clause-barred : goal.returns-in-Err-clause-barred
returns-in-Err-clause-barred c =
    let same : c.in_ok-clone.field-0 ≡ c.args.file.now = search rules in
    let s = c.args.machine.now in
    let why = c.in-Err.refused.why in
    let told = subst (λ (f : File). MatchOption (preset_refusal f s) (why ≡ refused.NoMemory) (λ w. why ≡ w)) same c.in-Err.ensures.refused in
    told_all (preset_obstacle c.args.file.now s) why c.in_the_way.result told c.in_the_way.ensures.found c.in_the_way.ensures.one

pub returns-in-Err-clause-preset : goal.returns-in-Err-clause-preset
returns-in-Err-clause-preset c =
    let same : c.in_ok-clone.field-0 ≡ c.args.file.now = search rules in
    let s = c.args.machine.now in
    let why = c.in-Err.refused.why in
    let told = subst (λ (f : File). MatchOption (preset_refusal f s) (why ≡ refused.NoMemory) (λ w. why ≡ w)) same c.in-Err.ensures.refused in
    preset_left (preset_obstacle c.args.file.now s) c.args.file.now s c.preset.new.self why c.in_the_way.result c.in-Err.ensures.kept told c.in_the_way.ensures.found c.in_the_way.ensures.one
