-- A program that is called keeps a state safe: what receives its answers is no variable of references.
use Rattle.std.specs.Prelude.{◌≡◌, unwrap_or, ℕ, Bool, true, if◌then◌else◌, List, [], ◌∷◌, ◌++◌, Option, Some, None, refl}
use Rattle.std.specs.List.{flat_map}
use Rattle.std.proofs.Common.{sym, subst}
use Rattle.mh_base.specs.declared.obj_ref.ObjRef.{ObjRef}
use Rattle.mh_base.specs.declared.value.Kind.TheVariants as kind
use Rattle.mh_base.specs.declared.value.Value.{Value}
use Rattle.mh_group.specs.declared.action_name.ActionName.TheVariants as action
use Rattle.mh_group.specs.declared.action_name.ActionName.{ActionName}
use Rattle.mh_group.specs.declared.shape.Need.TheVariants as need
use Rattle.mh_group.specs.declared.shape.Need.{Need}
use Rattle.mh_group.specs.Table.{needs_of, admits}
use Rattle.mh_model.specs.declared.act.Act.{Act}
use Rattle.mh_model.specs.declared.act.Argument.{Argument}
use Rattle.mh_model.specs.declared.config.Config.{Config}
use Rattle.mh_model.specs.declared.fault.Reason.TheVariants as reason
use Rattle.mh_model.specs.declared.item.Item.{Item}
use Rattle.mh_model.specs.declared.object.Fixed.{Fixed}
use Rattle.mh_model.specs.declared.program.Outcome.{Outcome}
use Rattle.mh_model.specs.declared.program.Param.{Param}
use Rattle.mh_model.specs.declared.sort.Sort.TheVariants as sort
use Rattle.mh_model.specs.Arguments.{receivers}
use Rattle.mh_model.specs.Configuration.{present}
use Rattle.mh_model.specs.Faults.{admitted_wrongs, arguments_wrongs, passed, is_call, calls_well, call_wrongs, targets, unless, target_variable}
use Rattle.mh_model.specs.Known.{known_before, params_in}
use Rattle.mh_model.specs.Programs.{fits_params, outs, said_by}
use Rattle.mh_model.specs.Rules.{called}
use Rattle.mh_model.specs.Saying.{call_items}
use Rattle.mh_model.specs.Service.{Service, part_at, parts}
use Rattle.mh_model.specs.Sort.{sort_of}
use Rattle.mh_model.specs.State.{State, all}
use Rattle.mh_laws.specs.Flow.{Flow}
use Rattle.mh_laws.specs.Safe.{config_of, IsSafeWork, IsSafeBy}
use Rattle.mh_model.proofs.ListLemmas.{empty_left}
use Rattle.mh_laws.proofs.ActLemmas.{sets_of, parts_of, known_now, IsSound}
use Rattle.mh_laws.proofs.FaultLemmas.{holds_unless}
use Rattle.mh_laws.proofs.GivenLemmas.{called_none, none_filled}
use Rattle.mh_laws.proofs.HeldLemmas.{Fillable, held_filled}
use Rattle.mh_laws.proofs.PutLemmas.{filled-own, filled-others, fit_there}
use Rattle.mh_laws.proofs.StateLemmas.{held_now, parts_present, kept_bodies}

safe_call_items : (v : Service) (fw : Flow) (c : Config) (n : ActionName) (r : ObjRef) (rest : List Item) → admitted_wrongs (known_before v (present v c)) n None r ≡ [] → IsSafeWork v fw c rest → IsSafeWork v fw c (call_items n r ++ rest)
safe_call_items v fw c action.Fork r rest fit k = (fit_there (λ x. admits x action.Fork) None r (present v c) fit, k)
safe_call_items v fw c _ r rest fit k = k

call_needs : (n : ActionName) → sort_of n ≡ sort.Call → (is_call n ≡ true) × (needs_of n ≡ need.Receiver kind.Bool ∷ need.Arguments ∷ [])
call_needs action.Call e = (refl, refl)
call_needs action.Fork e = (refl, refl)
call_needs _ e = absurd cc

abbrev params_at : State → ObjRef → List Param
params_at s r = unwrap_or (params_in s.service.programs (part_at r (parts (all s.objects)))) []

fits_call : (m : Option (List Param)) (v : Option ObjRef) (r : ObjRef) (xs : List Argument) → unless (calls_well m xs) reason.Misfit v r ≡ [] → fits_params (unwrap_or m []) xs ≡ true
fits_call None v r xs e = absurd cc
fits_call (Some ps) v r xs e = holds_unless (fits_params ps xs) reason.Misfit v r e

call_fillable : {fw : Flow} (s : State) (k : IsSafeBy fw s) (a : Act) (r : ObjRef) (vs : List Value) → IsSound fw s k a r → sort_of a.name ≡ sort.Call → Fillable (sets_of s k) (parts_of s) (receivers a.arguments ++ outs (params_at s r) (passed a.arguments)) vs
call_fillable {fw} s k a r vs so same =
    let needs = call_needs a.name same in
    let calls : call_wrongs (known_now s) a r ++ [] ≡ [] =
    subst (λ (rs : List ObjRef). flat_map (call_wrongs (known_now s) a) rs ≡ []) so.at
    (subst (λ (b : Bool). (if b then flat_map (call_wrongs (known_now s) a) (targets (known_now s) a.target) else []) ≡ []) needs.0 so.called) in
    let fit : fits_params (unwrap_or (params_in s.service.programs (part_at r (parts_of s))) []) (passed a.arguments) ≡ true = fits_call (params_in s.service.programs (part_at r (parts_of s))) (target_variable a.target) r (passed a.arguments) (empty_left (call_wrongs (known_now s) a r) [] calls) in
    let fit_now : fits_params (params_at s r) (passed a.arguments) ≡ true = subst (λ (ps : List Fixed). fits_params (unwrap_or (params_in s.service.programs (part_at r ps)) []) (passed a.arguments) ≡ true) (sym (parts_present s k)) fit in
    none_filled (sets_of s k) (known_now s) (parts_of s) (receivers a.arguments ++ outs (params_at s r) (passed a.arguments)) vs (λ x. refl)
    (called_none (known_now s) a (params_at s r) a.arguments (subst (λ (ns : List Need). arguments_wrongs (known_now s) a ns a.arguments ≡ []) needs.1 so.good) fit_now)

pub safe_call : {fw : Flow} (s : State) (k : IsSafeBy fw s) (said : Outcome) (a : Act) (r : ObjRef) (rest : List Item) (n : ℕ) → IsSound fw s k a r → sort_of a.name ≡ sort.Call → IsSafeWork s.service fw (config_of s) rest → IsSafeBy fw (called said a.name (params_at s r) a.arguments r (record s { work = rest; taken = n }))
safe_call {fw} s k said a r rest n so same behind_it =
    let given : List ObjRef = receivers a.arguments ++ outs (params_at s r) (passed a.arguments) in
    kept_bodies s k _ s.stack _ n (filled-own given (said_by said) s.objects) (filled-others given (said_by said) s.objects)
    (held_filled (sets_of s k) (parts_of s) given (said_by said) s.objects (parts_present s k) (call_fillable s k a r (said_by said) so same) (held_now s k))
    (safe_call_items s.service fw (config_of s) a.name r rest so.fit behind_it)
