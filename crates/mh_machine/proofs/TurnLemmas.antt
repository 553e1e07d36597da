-- An object that runs or stops by itself: what becomes of it is what the rule makes of it.
use Rattle.std.specs.Prelude.{◌≡◌, Bool, true, false, ◌&&◌, not, if◌then◌else◌, List, [], ◌∷◌, ◌++◌, Option, Some, None, refl}
use Rattle.std.proofs.Common.{ap, ◌∙◌, sym}
use Rattle.mh_base.specs.declared.obj_ref.ObjRef.{ObjRef}
use Rattle.mh_base.specs.declared.event.EventType.TheVariants as event
use Rattle.mh_base.specs.declared.value.Value.{Value}
use Rattle.mh_group.specs.Table.{has_content, is_visible}
use Rattle.mh_group.specs.declared.class.Class.{Class}
use Rattle.mh_group.specs.declared.class.Class.TheVariants as class
use Rattle.mh_model.specs.declared.edit.Edit.TheVariants as edit
use Rattle.mh_model.specs.declared.file.File.{File}
use Rattle.mh_model.specs.declared.held.Held.{Held}
use Rattle.mh_model.specs.declared.held.Held.TheVariants as of
use Rattle.mh_model.specs.declared.item.Item.{Item}
use Rattle.mh_model.specs.declared.item.Item.TheVariants as item
use Rattle.mh_model.specs.declared.object.Object.{Object}
use Rattle.mh_model.specs.Files.{by_content, comes_to, missing}
use Rattle.mh_model.specs.Items.{plain_event}
use Rattle.mh_model.specs.Lifecycle.{emit_if, group_halts, group_runs, halt_items, is_unprepared_at, is_visible_at, lacking_at, loaded_at, places_of, run_places, token_told}
use Rattle.mh_model.specs.Property.{read_of}
use Rattle.mh_model.specs.Service.{object_at}
use Rattle.mh_model.specs.State.{State, all}
use Rattle.mh_model.specs.Step.{done}
use Rattle.mh_group.specs.declared.attribute.Attribute.TheVariants as attribute
use Rattle.mh_work.specs.declared.batch.Batch.{Batch}
use Rattle.mh_work.specs.declared.batch.Batch.TheVariants as batch
use Rattle.mh_work.specs.Batches.{written}
use Rattle.mh_work.specs.Loading.{run_told}
use Rattle.mh_machine.specs.declared.plan.Awaiting.{Awaiting}
use Rattle.mh_machine.specs.declared.plan.Awaiting.TheVariants as awaiting
use Rattle.mh_machine.specs.declared.plan.Change.TheVariants as change
use Rattle.mh_machine.specs.declared.plan.Interacting.TheVariants as interacting
use Rattle.mh_machine.specs.declared.plan.Stacking.{Stacking}
use Rattle.mh_machine.specs.declared.plan.Stacking.TheVariants as stacking
use Rattle.mh_machine.specs.Plans.{change_with, wait_if, wait_of}
use Rattle.mh_machine.specs.Turns.{asleep, is_asleep, rise_if, runs_alone, started_alone, stopped_alone, stops_alone, stops_others}
use Rattle.mh_machine.proofs.PlanLemmas.{halt_planned, run_planned}

-- what the class says

no_content : (c : Class) → runs_alone c ≡ true → has_content c ≡ false
no_content class.Rectangle h = refl
no_content class.DynamicLineArt h = refl
no_content class.Link h = refl
no_content class.Stream h = refl
no_content _ h = absurd cc

no_runs : (c : Class) (r : ObjRef) (o : Object) → runs_alone c ≡ true → group_runs c r o ≡ []
no_runs class.Rectangle r o h = refl
no_runs class.DynamicLineArt r o h = refl
no_runs class.Link r o h = refl
no_runs class.Stream r o h = refl
no_runs _ r o h = absurd cc

no_token : (c : Class) (r : ObjRef) → runs_alone c ≡ true → token_told c r ≡ []
no_token class.Rectangle r h = refl
no_token class.DynamicLineArt r h = refl
no_token class.Link r h = refl
no_token class.Stream r h = refl
no_token _ r h = absurd cc

no_places : (c : Class) (o : Object) → runs_alone c ≡ true → places_of c o ≡ []
no_places class.Rectangle o h = refl
no_places class.DynamicLineArt o h = refl
no_places class.Link o h = refl
no_places class.Stream o h = refl
no_places _ o h = absurd cc

no_halts : (c : Class) (o : Object) → stops_others c ≡ false → group_halts c o ≡ []
no_halts class.TokenGroup o h = absurd cc
no_halts class.ListGroup o h = absurd cc
no_halts _ o h = refl

-- what has no content loads none, and waits for none
nothing : {X : Type 0} (f : Value → Option X) (m : Option Held) (has : Bool) → has ≡ false → None ≡ by_content f m has
nothing f None has h = refl
nothing f (Some (of.Value v)) has h = sym (ap (λ (b : Bool). if b then f v else None) h)
nothing f (Some _) has h = refl

three : (a b c : Bool) → (not a && not b && c) ≡ true → (a ≡ false) × ((b ≡ false) × (c ≡ true))
three false false true h = (refl, (refl, refl))
three false false false h = absurd cc
three false true c h = absurd cc
three true b c h = absurd cc

two : (a b : Bool) → (a && not b) ≡ true → (a ≡ true) × (b ≡ false)
two true false h = (refl, refl)
two true true h = absurd cc
two false b h = absurd cc

abbrev told : ObjRef → List Batch
told r = batch.One (plain_event r event.IsAvailable) ∷ batch.One (plain_event r event.IsRunning) ∷ []

passed_over : {X : Type 0} (b : Bool) (xs : List X) → b ≡ false → xs ≡ [] → [] ≡ (if b then [] else xs)
passed_over true xs h none = refl
passed_over false xs h none = sym none

-- what is put by one that has not become available, and runs no other

told_alone : (running available : Bool) (runs tokens : List Item) (r : ObjRef) → running ≡ false → available ≡ false → runs ≡ [] → tokens ≡ []
    → written (told r) ≡ (emit_if (not running && not available) r event.IsAvailable ++ emit_if ((not running && not available) && false) r event.ContentAvailable) ++ (if running then [] else runs ++ plain_event r event.IsRunning ∷ tokens)
told_alone false false [] [] r a b c d = refl
told_alone false false [] (t ∷ ts) r a b c d = absurd cc
told_alone false false (x ∷ xs) ts r a b c d = absurd cc
told_alone false true xs ts r a b c d = absurd cc
told_alone true available xs ts r a b c d = absurd cc

stops : (running : Bool) (halts : List Item) (e : Item) → running ≡ true → halts ≡ [] → e ∷ [] ≡ (if running then halts ++ e ∷ [] else [])
stops true [] e a b = refl
stops true (x ∷ xs) e a b = absurd cc
stops false xs e a b = absurd cc

started : (s : State) (r : ObjRef) (o : Object) (seen : Bool) → Some o ≡ object_at r (all s.objects) → o.body.running ≡ false → o.body.available ≡ false → runs_alone o.fixed.class ≡ true → seen ≡ is_visible o.fixed.class → started_alone seen r s ≡ done (item.Run r) s
started s r o seen here rests absent alone is_seen =
    let unprepared : is_unprepared_at (Some o) ≡ true = rw (rests, absent) refl in
    let without = no_content o.fixed.class alone in
    let text : None ≡ loaded_at s.files (Some o) = nothing (comes_to s.files) (read_of attribute.OrigContent o.fixed o.body) (has_content o.fixed.class) without in
    let lacks : None ≡ lacking_at s.files (Some o) = nothing (missing s.files) (read_of attribute.OrigContent o.fixed o.body) (has_content o.fixed.class) without in
    let places : [] ≡ run_places (Some o) = passed_over o.body.running (places_of o.fixed.class o) rests (no_places o.fixed.class o alone) in
    let rise : rise_if seen r ≡ (if is_unprepared_at (Some o) && is_visible_at (Some o) then stacking.Rise r else stacking.Same) =
    ap (λ (b : Bool). rise_if b r) is_seen ∙ sym (ap (λ (b : Bool). if b && is_visible_at (Some o) then stacking.Rise r else stacking.Same) unprepared) in
    let wait : awaiting.Forget r ≡ wait_if (is_unprepared_at (Some o)) r (lacking_at s.files (Some o)) =
    ap (wait_of r) lacks ∙ sym (ap (λ (b : Bool). wait_if b r (lacking_at s.files (Some o))) unprepared) in
    let put : written (told r) ≡ run_told false r (Some o) =
    told_alone o.body.running o.body.available (group_runs o.fixed.class r o) (token_told o.fixed.class r) r rests absent (no_runs o.fixed.class r o alone) (no_token o.fixed.class r alone) in
    run_planned s r (Some o) None [] (change_with r (Some (edit.Start None)) []) (rise_if seen r) (awaiting.Forget r) (told r) here text places refl rise wait put

pub run_alone : (s : State) (r : ObjRef) (found : Option Object) (seen : Bool) → found ≡ object_at r (all s.objects) → Some seen ≡ asleep found → started_alone seen r s ≡ done (item.Run r) s
run_alone s r None seen here is = absurd cc
run_alone s r (Some o) seen here is = by (is_asleep o) refl is
  where
    by : (b : Bool) → is_asleep o ≡ b → Some seen ≡ (if b then Some (is_visible o.fixed.class) else None) → started_alone seen r s ≡ done (item.Run r) s
    by false sleeps same = absurd cc
    by true sleeps same =
        let all_three = three o.body.running o.body.available (runs_alone o.fixed.class) sleeps in
        let is_seen : seen ≡ is_visible o.fixed.class = cc in
        started s r o seen here all_three.0 all_three.1.0 all_three.1.1 is_seen

pub halt_alone : (s : State) (r : ObjRef) (found : Option Object) → found ≡ object_at r (all s.objects) → stops_alone found ≡ true → stopped_alone r s ≡ done (item.Halt r) s
halt_alone s r None here is = absurd cc
halt_alone s r (Some o) here is =
    let both = two o.body.running (stops_others o.fixed.class) is in
    let put : plain_event r event.IsStopped ∷ [] ≡ halt_items r (Some o) =
    stops o.body.running (group_halts o.fixed.class o) (plain_event r event.IsStopped) both.0 (no_halts o.fixed.class o both.1) in
    halt_planned s r (Some o) (change.Edit r edit.Halt) (interacting.Ends r) (batch.One (plain_event r event.IsStopped) ∷ []) here refl refl put
