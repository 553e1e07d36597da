use Rattle.std.specs.Prelude.{◌≡◌, ℕ, List, Option, Some}
use Rattle.std.specs.List.{find}
use Rattle.std.specs.Str.{bytes_eq}
use Rattle.std.proofs.Common.{ap, ◌∙◌}
use Rattle.mh_base.specs.declared.obj_ref.ObjRef.{ObjRef}
use Rattle.mh_group.specs.Words.{action_word, actions}
use Rattle.mh_group.specs.declared.action_name.ActionName.{ActionName}
use Rattle.mh_model.specs.declared.fault.FaultKind.{FaultKind}
use Rattle.mh_look.specs.Front.{before, behind}
use Rattle.mh_look.specs.Lines.{kind_of, fault_of}
use Rattle.mh_look.proofs.LineLemmas.{fault_stands, kind_read, action_read}
use Rattle.mh_look.proofs.report.fault.guess_fault.Goals as goal

pub returns-clause-taken : goal.returns-clause-taken
returns-clause-taken c f good rest e =
    let stands = fault_stands c.args.bytes.now f rest good e in
    let second : c.behind-from_action.result.now ≡ behind 32 (behind 32 c.args.bytes.now) = c.behind-from_action.ensures ∙ ap (behind 32) c.behind-from_what.ensures in
    let third : c.behind.result.now ≡ behind 32 (behind 32 (behind 32 c.args.bytes.now)) = c.behind.ensures ∙ ap (behind 32) second in
    let at : c.in_ok-at.at ≡ Some f.at = c.in_ok-at.ensures.taken f.at (good.group, good.number) (c.before-2.ensures ∙ ap (before 10) third ∙ stands.at) in
    let what : c.fault_kind-what.result ≡ Some f.what = c.fault_kind-what.ensures ∙ ap kind_of (c.before-3.ensures ∙ ap (before 32) c.behind-from_what.ensures ∙ stands.what) ∙ kind_read f.what in
    let action : c.of_word-action.result ≡ Some f.action =
    c.of_word-action.ensures ∙ ap (λ (word : List ℕ). find (λ x. bytes_eq (action_word x) word) actions) (c.before-4.ensures ∙ ap (before 32) second ∙ stands.action) ∙ action_read f.action in
    c.fault_of.ensures
    ∙ ap (λ (k : Option FaultKind). fault_of k c.of_word-action.result c.in_ok-at.at) what
    ∙ ap (λ (a : Option ActionName). fault_of (Some f.what) a c.in_ok-at.at) action
    ∙ ap (λ (r : Option ObjRef). fault_of (Some f.what) (Some f.action) r) at
