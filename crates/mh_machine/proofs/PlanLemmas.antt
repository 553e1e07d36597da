-- What a plan makes of a state is what the rule of its item makes.
use Rattle.std.specs.Prelude.{◌≡◌, ℕ, ◌+◌, Bool, true, false, ◌&&◌, if◌then◌else◌, List, [], ◌∷◌, ◌++◌, drop, Option, Some, None, unwrap_or, refl}
use Rattle.std.proofs.Common.{Bor, ap, ◌∙◌, sym}
use Rattle.mh_base.specs.declared.obj_ref.ObjRef.{ObjRef}
use Rattle.mh_base.specs.declared.value.Value.{Value}
use Rattle.mh_group.specs.declared.action_name.ActionName.{ActionName}
use Rattle.mh_actions.specs.declared.ordering.Reorder.{Reorder}
use Rattle.mh_actions.specs.Moved.{moved}
use Rattle.mh_model.specs.declared.edit.Edit.TheVariants as edit
use Rattle.mh_model.specs.declared.item.Item.{Item}
use Rattle.mh_model.specs.declared.item.Item.TheVariants as item
use Rattle.mh_model.specs.declared.object.Object.{Object}
use Rattle.std.specs.Option.{is_some, option_copied, option_map_or}
use Rattle.mh_model.specs.declared.act.Argument.{Argument}
use Rattle.mh_model.specs.declared.file.Wait.{Wait}
use Rattle.mh_model.specs.declared.object.Fixed.{Fixed}
use Rattle.mh_model.specs.declared.program.Builtin.{Builtin}
use Rattle.mh_model.specs.declared.program.Param.{Param}
use Rattle.mh_model.specs.Arguments.{values, receivers as receivers_lem}
use Rattle.mh_model.specs.Bodies.{changed_by, replaced, stored}
use Rattle.mh_model.specs.Faults.{passed}
use Rattle.mh_model.specs.Files.{awaited, forgotten, comes_to, missing, is_loadable}
use Rattle.mh_model.specs.Known.{params_in}
use Rattle.mh_model.specs.Programs.{ins, outs, said_by, outcome_of}
use Rattle.mh_model.specs.Edits.{edited}
use Rattle.mh_model.specs.Lifecycle.{run_places, is_available_at, is_unavailable_at, is_unprepared_at, is_visible_at, loaded_at, lacking_at, waits_if, prepare_items, run_items, halt_items, drop_items}
use Rattle.mh_model.specs.Stack.{reordered, with_risen, without}
use Rattle.mh_model.specs.Saying.{answers_at, load_items, call_items}
use Rattle.mh_model.specs.Service.{object_at, part_at, parts}
use Rattle.mh_model.specs.State.{State, Objects, all}
use Rattle.mh_model.specs.Rules.{all_placed, changed, filled, change_rule, ask_rule, order_rule, load_rule, loaded_with, call_rule, builtin_in, now_of, outcome_at}
use Rattle.mh_model.specs.Step.{done}
use Rattle.mh_model.specs.Worked.{ended_of}
use Rattle.mh_group.specs.declared.written.Position.{Position}
use Rattle.mh_widgets.specs.Does.{placed_by}
use Rattle.mh_machine.proofs.PlacingLemmas.{placing, run_unseen}
use Rattle.mh_work.specs.declared.batch.Batch.{Batch}
use Rattle.mh_machine.specs.declared.plan.Awaiting.{Awaiting}
use Rattle.mh_machine.specs.declared.plan.Awaiting.TheVariants as awaiting
use Rattle.mh_machine.specs.declared.plan.Change.{Change}
use Rattle.mh_machine.specs.declared.plan.Change.TheVariants as change
use Rattle.mh_machine.specs.declared.plan.Gift.{Gift}
use Rattle.mh_machine.specs.declared.plan.Interacting.{Interacting}
use Rattle.mh_machine.specs.declared.plan.Interacting.TheVariants as interacting
use Rattle.mh_machine.specs.declared.plan.Stacking.{Stacking}
use Rattle.mh_machine.specs.declared.plan.Stacking.TheVariants as stacking
use Rattle.mh_work.specs.Batches.{written}
use Rattle.mh_actions.specs.Content.{new_content}
use Rattle.mh_work.specs.Loading.{prepare_told, run_told, content_told}
use Rattle.mh_machine.specs.Plans.{changed_as, change_with, interacted, given_all, gifts, Makes, restacked, rewaited, wait_if, plan_of, committed, taken_from}

rising : (b : Bool) (r : ObjRef) (stack : List ObjRef) → restacked (if b then stacking.Rise r else stacking.Same) stack ≡ (if b then stack ++ r ∷ [] else stack)
rising true r stack = refl
rising false r stack = refl

-- what is put is told by the object that is found
put_found : (s : State) (r : ObjRef) (found : Option Object) (ps : List Batch) (items : ObjRef → Option Object → List Item) → found ≡ object_at r (all s.objects) → written ps ≡ items r found → written ps ++ drop 1 s.work ≡ items r (object_at r (all s.objects)) ++ drop 1 s.work
put_found s r found ps items here is_put = ap (λ (x : List Item). x ++ drop 1 s.work) (is_put ∙ ap (items r) here)

-- an object rises where it becomes available and is a visible
stack_found : (s : State) (r : ObjRef) (found : Option Object) (x : Stacking) (test : Option Object → Bool) → found ≡ object_at r (all s.objects) → x ≡ (if test found && is_visible_at found then stacking.Rise r else stacking.Same) → restacked x s.stack ≡ with_risen (test (object_at r (all s.objects))) r (object_at r (all s.objects)) s.stack
stack_found s r found x test here is_rise =
    ap (λ (y : Stacking). restacked y s.stack) is_rise ∙ rising (test found && is_visible_at found) r s.stack
    ∙ ap (λ (o : Option Object). with_risen (test o) r o s.stack) here

awaiting_as : (b : Bool) (r : ObjRef) (m : Option (List ℕ)) (ws : List Wait) → rewaited (wait_if b r m) ws ≡ (if b then awaited m r ws else ws)
awaiting_as false r m ws = refl
awaiting_as true r None ws = refl
awaiting_as true r (Some name) ws = refl

-- who waits is told by the object that is found
waits_found : (s : State) (r : ObjRef) (found : Option Object) (a : Awaiting) (test : Option Object → Bool) → found ≡ object_at r (all s.objects) → a ≡ wait_if (test found) r (lacking_at s.files found) → rewaited a s.waits ≡ waits_if s.files (test (object_at r (all s.objects))) r (object_at r (all s.objects)) s.waits
waits_found s r found a test here is_wait =
    ap (λ (y : Awaiting). rewaited y s.waits) is_wait
    ∙ awaiting_as (test found) r (lacking_at s.files found) s.waits
    ∙ ap (λ (o : Option Object). waits_if s.files (test o) r o s.waits) here

pub prepare_planned : (s : State) (r : ObjRef) (found : Option Object) (text : Option (List ℕ)) (c : Change) (x : Stacking) (a : Awaiting) (ps : List Batch) → found ≡ object_at r (all s.objects) → text ≡ loaded_at s.files found → c ≡ change.Edit r (edit.Prepare text) → x ≡ (if is_unavailable_at found && is_visible_at found then stacking.Rise r else stacking.Same) → a ≡ wait_if (is_unavailable_at found) r (lacking_at s.files found) → written ps ≡ prepare_told (is_some text) r found → committed (plan_of c x a ps) s ≡ done (item.Prepare r) s
prepare_planned s r found text c x a ps here is_text is_change is_rise is_wait is_put =
    let loaded : text ≡ loaded_at s.files (object_at r (all s.objects)) = is_text ∙ ap (loaded_at s.files) here in
    let objects : changed_as c s.objects ≡ changed (edited (edit.Prepare (loaded_at s.files (object_at r (all s.objects))))) r s.objects =
    ap (λ (y : Change). changed_as y s.objects) is_change ∙ ap (λ (m : Option (List ℕ)). changed (edited (edit.Prepare m)) r s.objects) loaded in
    let stack = stack_found s r found x is_unavailable_at here is_rise in
    let told : written ps ≡ prepare_items s.files r found = is_put ∙ ap (λ (m : Option (List ℕ)). prepare_told (is_some m) r found) is_text in
    let work = put_found s r found ps (prepare_items s.files) here told in
    let waits = waits_found s r found a is_unavailable_at here is_wait in
    λ i. record s { objects = objects i; stack = stack i; waits = waits i; work = work i; taken = s.taken + 1 }

-- what is lent is there where its copy is
pub some_copied : {X : Type 0} (m : Option (Bor X)) → is_some m ≡ is_some (option_copied m)
some_copied None = refl
some_copied (Some x) = refl

pub run_planned : (s : State) (r : ObjRef) (found : Option Object) (text : Option (List ℕ)) (places : List (ObjRef × Position)) (c : Change) (x : Stacking) (a : Awaiting) (ps : List Batch) → found ≡ object_at r (all s.objects) → text ≡ loaded_at s.files found → places ≡ run_places found → c ≡ change_with r (Some (edit.Start text)) places → x ≡ (if is_unprepared_at found && is_visible_at found then stacking.Rise r else stacking.Same) → a ≡ wait_if (is_unprepared_at found) r (lacking_at s.files found) → written ps ≡ run_told (is_some text) r found → committed (plan_of c x a ps) s ≡ done (item.Run r) s
run_planned s r found text places c x a ps here is_text are_places is_change is_rise is_wait is_put =
    let loaded : text ≡ loaded_at s.files (object_at r (all s.objects)) = is_text ∙ ap (loaded_at s.files) here in
    let unseen : places ≡ placed_by places (is_visible_at (object_at r (all s.objects))) =
    are_places ∙ run_unseen found ∙ (λ i. placed_by (sym are_places i) (is_visible_at (here i))) in
    let objects : changed_as c s.objects ≡ all_placed (run_places (object_at r (all s.objects))) (changed (edited (edit.Start (loaded_at s.files (object_at r (all s.objects))))) r s.objects) =
    ap (λ (y : Change). changed_as y s.objects) is_change
    ∙ placing r (edit.Start text) places s.objects unseen
    ∙ ap (λ (m : Option (List ℕ)). all_placed places (changed (edited (edit.Start m)) r s.objects)) loaded
    ∙ ap (λ (qs : List (ObjRef × Position)). all_placed qs (changed (edited (edit.Start (loaded_at s.files (object_at r (all s.objects))))) r s.objects)) (are_places ∙ ap run_places here) in
    let stack = stack_found s r found x is_unprepared_at here is_rise in
    let told : written ps ≡ run_items s.files r found = is_put ∙ ap (λ (m : Option (List ℕ)). run_told (is_some m) r found) is_text in
    let work = put_found s r found ps (run_items s.files) here told in
    let waits = waits_found s r found a is_unprepared_at here is_wait in
    λ i. record s { objects = objects i; stack = stack i; waits = waits i; work = work i; taken = s.taken + 1 }

pub halt_planned : (s : State) (r : ObjRef) (found : Option Object) (c : Change) (x : Interacting) (ps : List Batch) → found ≡ object_at r (all s.objects) → c ≡ change.Edit r edit.Halt → x ≡ interacting.Ends r → written ps ≡ halt_items r found → committed (record (plan_of c stacking.Same awaiting.Same ps) { interacting = x }) s ≡ done (item.Halt r) s
halt_planned s r found c x ps here is_change is_end is_put =
    let objects : changed_as c s.objects ≡ changed (edited edit.Halt) r s.objects = ap (λ (y : Change). changed_as y s.objects) is_change in
    let interaction : interacted x s.interaction ≡ ended_of r s.interaction = ap (λ (y : Interacting). interacted y s.interaction) is_end in
    let work = put_found s r found ps halt_items here is_put in
    λ i. record s { objects = objects i; interaction = interaction i; work = work i; taken = s.taken + 1 }

pub drop_planned : (s : State) (r : ObjRef) (found : Option Object) (c : Change) (x : Stacking) (a : Awaiting) (ps : List Batch) → found ≡ object_at r (all s.objects) → c ≡ change.Edit r edit.Drop → x ≡ stacking.Fall r → a ≡ awaiting.Forget r → written ps ≡ drop_items r found → committed (plan_of c x a ps) s ≡ done (item.Drop r) s
drop_planned s r found c x a ps here is_change is_fall is_forgotten is_put =
    let objects : changed_as c s.objects ≡ changed (edited edit.Drop) r s.objects = ap (λ (y : Change). changed_as y s.objects) is_change in
    let stack : restacked x s.stack ≡ without r s.stack = ap (λ (y : Stacking). restacked y s.stack) is_fall in
    let work = put_found s r found ps drop_items here is_put in
    let waits : rewaited a s.waits ≡ forgotten r s.waits = ap (λ (y : Awaiting). rewaited y s.waits) is_forgotten in
    λ i. record s { objects = objects i; stack = stack i; waits = waits i; work = work i; taken = s.taken + 1 }

pub change_planned : (s : State) (n : ActionName) (vs : List Value) (r : ObjRef) (found : Option Object) (c : Change) → found ≡ object_at r (all s.objects) → Makes c (changed_by n vs) r found → committed (plan_of c stacking.Same awaiting.Same []) s ≡ change_rule n vs r (taken_from s)
change_planned s n vs r found c here makes =
    let objects = makes s.objects here in
    λ i. record s { objects = objects i; work = drop 1 s.work; taken = s.taken + 1 }

pub given_gifts : (rs : List ObjRef) (vs : List Value) (os : Objects) → given_all (gifts rs vs) os ≡ filled rs vs os
given_gifts [] vs os = refl
given_gifts (r ∷ rs) [] os = refl
given_gifts (r ∷ rs) (v ∷ vs) os = given_gifts rs vs (changed (λ p b. stored v b) r os)

pub ask_planned : (s : State) (n : ActionName) (vs told : List Value) (rs receivers : List ObjRef) (r : ObjRef) (found : Option Object) (gs : List Gift) → found ≡ object_at r (all s.objects) → told ≡ answers_at n vs found → receivers ≡ rs → gs ≡ gifts receivers told → committed (plan_of (change.Give gs) stacking.Same awaiting.Same []) s ≡ ask_rule n vs rs r (taken_from s)
ask_planned s n vs told rs receivers r found gs here is_told is_receivers are_gifts =
    let answers : told ≡ answers_at n vs (object_at r (all s.objects)) = is_told ∙ ap (answers_at n vs) here in
    let objects : given_all gs s.objects ≡ filled rs (answers_at n vs (object_at r (all s.objects))) s.objects =
    ap (λ (x : List Gift). given_all x s.objects) are_gifts ∙ given_gifts receivers told s.objects
    ∙ ap (λ (x : List ObjRef). filled x told s.objects) is_receivers ∙ ap (λ (x : List Value). filled rs x s.objects) answers in
    λ i. record s { objects = objects i; work = drop 1 s.work; taken = s.taken + 1 }

-- new content
pub load_planned : (s : State) (v : Value) (r : ObjRef) (found : Option Object) (text : Option (List ℕ)) (c : Change) (a : Awaiting) (ps : List Batch) → is_loadable v ≡ true → found ≡ object_at r (all s.objects) → text ≡ comes_to s.files v → c ≡ change.Edit r (edit.Load v text) → a ≡ wait_if (is_available_at found) r (missing s.files v) → written ps ≡ content_told (is_available_at found && is_some text) r → committed (plan_of c stacking.Same a ps) s ≡ loaded_with v r (taken_from s)
load_planned s v r found text c a ps loadable here is_text is_change is_wait is_put =
    let objects : changed_as c s.objects ≡ changed (λ p b. replaced v (comes_to s.files v) b) r s.objects =
    ap (λ (y : Change). changed_as y s.objects) is_change ∙ ap (λ (m : Option (List ℕ)). changed (λ p b. replaced v m b) r s.objects) is_text in
    let waits : rewaited a s.waits ≡ (if is_available_at (object_at r (all s.objects)) then awaited (missing s.files v) r s.waits else s.waits) =
    ap (λ (y : Awaiting). rewaited y s.waits) is_wait
    ∙ awaiting_as (is_available_at found) r (missing s.files v) s.waits
    ∙ ap (λ (o : Option Object). if is_available_at o then awaited (missing s.files v) r s.waits else s.waits) here in
    let told : written ps ≡ load_items s.files (v ∷ []) r (object_at r (all s.objects)) =
    is_put
    ∙ ap (λ (m : Option (List ℕ)). content_told (is_available_at found && is_some m) r) is_text
    ∙ ap (λ (o : Option Object). content_told (is_available_at o && is_some (comes_to s.files v)) r) here
    ∙ loaded_items (is_loadable v) (is_available_at (object_at r (all s.objects))) (is_some (comes_to s.files v)) r loadable in
    let work : written ps ++ drop 1 s.work ≡ load_items s.files (v ∷ []) r (object_at r (all s.objects)) ++ drop 1 s.work = ap (λ (x : List Item). x ++ drop 1 s.work) told in
    λ i. record s { objects = objects i; waits = waits i; work = work i; taken = s.taken + 1 }
  where
    loaded_items : (b c d : Bool) (r : ObjRef) → b ≡ true → content_told (c && d) r ≡ content_told (b && c && d) r
    loaded_items true c d r e = by c
      where
        by : (c : Bool) → content_told (c && d) r ≡ content_told (c && d) r
        by c = refl
    loaded_items false c d r e = absurd cc

-- whether there is new content is told by the values

pub load_some : (vs : List Value) (v : Value) → Some v ≡ new_content vs → is_loadable v ≡ true
load_some [] v e = absurd cc
load_some (x ∷ []) v e = by (is_loadable x) refl e
  where
    by : (b : Bool) → is_loadable x ≡ b → Some v ≡ (if b then Some x else None) → is_loadable v ≡ true
    by true is h =
        let same : v ≡ x = ap (λ (m : Option Value). option_map_or (λ (y : Value). y) m v) h in
        ap is_loadable same ∙ is
    by false is h = absurd cc
load_some (x ∷ y ∷ vs) v e = absurd cc

pub load_none : (vs : List Value) (r : ObjRef) (s : State) → None ≡ new_content vs → s ≡ load_rule vs r s
load_none [] r s e = refl
load_none (x ∷ []) r s e = by (is_loadable x) e
  where
    by : (b : Bool) → None ≡ (if b then Some x else None) → s ≡ (if b then loaded_with x r s else s)
    by true h = absurd cc
    by false h = refl
load_none (x ∷ y ∷ vs) r s e = refl

-- Programs

pub call_planned : (s : State) (n : ActionName) (xs : List Argument) (r : ObjRef) (which : Option Builtin) (ps : List Param) (vs said : List Value) (rs : List ObjRef) (gs : List Gift) (batches : List Batch) → which ≡ builtin_in (part_at r (parts (all s.objects))) → ps ≡ unwrap_or (params_in s.service.programs (part_at r (parts (all s.objects)))) [] → vs ≡ values (all s.objects) (ins ps (passed xs)) → said ≡ said_by (outcome_of which s.said (now_of s) vs) → rs ≡ receivers_lem xs ++ outs ps (passed xs) → gs ≡ gifts rs said → written batches ≡ call_items n r → committed (plan_of (change.Give gs) stacking.Same awaiting.Same batches) s ≡ call_rule n xs r (taken_from s)
call_planned s n xs r which ps vs said rs gs batches is_which are_params go_in is_said are_receivers are_gifts is_put =
    let part : Option Fixed = part_at r (parts (all s.objects)) in
    let params : List Param = unwrap_or (params_in s.service.programs part) [] in
    let names : rs ≡ receivers_lem xs ++ outs params (passed xs) = are_receivers ∙ ap (λ (qs : List Param). receivers_lem xs ++ outs qs (passed xs)) are_params in
    let answers : said ≡ said_by (outcome_at part params xs (taken_from s)) =
    is_said
    ∙ ap (λ (w : Option Builtin). said_by (outcome_of w s.said (now_of s) vs)) is_which
    ∙ ap (λ (ws : List Value). said_by (outcome_of (builtin_in part) s.said (now_of s) ws)) (go_in ∙ ap (λ (qs : List Param). values (all s.objects) (ins qs (passed xs))) are_params) in
    let objects : given_all gs s.objects ≡ filled (receivers_lem xs ++ outs params (passed xs)) (said_by (outcome_at part params xs (taken_from s))) s.objects =
    ap (λ (x : List Gift). given_all x s.objects) are_gifts ∙ given_gifts rs said s.objects
    ∙ ap (λ (x : List ObjRef). filled x said s.objects) names
    ∙ ap (λ (x : List Value). filled (receivers_lem xs ++ outs params (passed xs)) x s.objects) answers in
    let work : written batches ++ drop 1 s.work ≡ call_items n r ++ drop 1 s.work = ap (λ (x : List Item). x ++ drop 1 s.work) is_put in
    λ i. record s { objects = objects i; work = work i; taken = s.taken + 1 }

-- the display stack, where the object is available
pub order_planned : (s : State) (n : ActionName) (vs : List Value) (r : ObjRef) (how : Reorder) → is_available_at (object_at r (all s.objects)) ≡ true → ((stack : List ObjRef) → moved how r stack ≡ reordered n vs r (all s.objects) stack) → committed (plan_of change.Nothing (stacking.Move r how) awaiting.Same []) s ≡ order_rule n vs r (taken_from s)
order_planned s n vs r how there moves =
    let stack : moved how r s.stack ≡ (if is_available_at (object_at r (all s.objects)) then reordered n vs r (all s.objects) s.stack else s.stack) =
    moves s.stack ∙ sym (ap (λ (b : Bool). if b then reordered n vs r (all s.objects) s.stack else s.stack) there) in
    λ i. record s { stack = stack i; work = drop 1 s.work; taken = s.taken + 1 }

-- and where it is not
pub order_still : (s : State) (n : ActionName) (vs : List Value) (r : ObjRef) → is_available_at (object_at r (all s.objects)) ≡ false → committed (plan_of change.Nothing stacking.Same awaiting.Same []) s ≡ order_rule n vs r (taken_from s)
order_still s n vs r there =
    let stack : s.stack ≡ (if is_available_at (object_at r (all s.objects)) then reordered n vs r (all s.objects) s.stack else s.stack) =
    sym (ap (λ (b : Bool). if b then reordered n vs r (all s.objects) s.stack else s.stack) there) in
    λ i. record s { stack = stack i; work = drop 1 s.work; taken = s.taken + 1 }
