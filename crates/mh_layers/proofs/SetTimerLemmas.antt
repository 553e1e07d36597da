-- Timers that are set where variables refer to what the flow holds.
use Rattle.std.specs.Prelude.{◌≡◌, ℕ, true, List, [], ◌++◌, map, slice_get, position, option_and_then, Option, Some, None, refl}
use Rattle.std.specs.List.{flat_map, list_any}
use Rattle.std.specs.Option.{option_map}
use Rattle.std.proofs.Common.{ap, ◌∙◌, sym, subst}
use Rattle.indexmap.specs.IndexSet.{insert_all}
use Rattle.mh_base.specs.declared.obj_ref.ObjRef.{ObjRef}
use Rattle.mh_model.specs.declared.act.Act.{Act}
use Rattle.mh_model.specs.declared.act.Target.{Target}
use Rattle.mh_model.specs.declared.act.Target.TheVariants as target
use Rattle.mh_model.specs.declared.config.Config.{Config}
use Rattle.mh_model.specs.declared.object.Fixed.{Fixed}
use Rattle.mh_model.specs.Configuration.{present}
use Rattle.mh_model.specs.Service.{Service}
use Rattle.mh_model.proofs.ListLemmas.{some_same}
use Rattle.mh_laws.specs.Active.{active_actions}
use Rattle.mh_laws.specs.Costs.{TimerKey, set_by, set_with, targets}
use Rattle.mh_laws.specs.Each.{Among}
use Rattle.mh_laws.specs.Flow.{Flow}
use Rattle.mh_flow.specs.Sites.{Site, sites_of}
use Rattle.mh_flow.specs.Solved.{Solved, flow_in, held_by, held_in}
use Rattle.mh_flow.proofs.HeldLemmas.{get_mapped, held_is_set}
use Rattle.mh_flow.proofs.SiteLemmas.{through_active}
use Rattle.mh_layers.specs.Reading.{same_setting}
use Rattle.mh_layers.specs.SetTimers.{set_here, set_in, sets_there, targets_here}
use Rattle.mh_layers.proofs.PositionLemmas.{position_is, position_there, put_all}
use Rattle.mh_layers.proofs.ReadingLemmas.{setting_itself, tells_settings}

targets_are : (w : Flow) (c : Config) (t : Target) → targets w c t ≡ targets_here (w.sets c) t
targets_are w c (target.Direct r) = refl
targets_are w c (target.Through x) = refl

set_is : (w : Flow) (c : Config) (a : Act) → set_by w c a ≡ set_here (w.sets c) a
set_is w c a = ap (λ (rs : List ObjRef). set_with a.name a.arguments rs) (targets_are w c a.target)

-- what active actions set where this is held is what they set in the flow
pub set_there : (v : Service) (f : Solved) (c : Config) (ps : List Fixed) (lists : List (List ObjRef)) (old new : List TimerKey)
    → ps ≡ present v c → lists ≡ held_in v f c → new ≡ old ++ flat_map (set_here (sets_there (record { present = ps; lists = lists }))) (active_actions ps)
    → new ≡ old ++ set_in v (flow_in v f) c
unfolding sets_there
set_there v f c ps lists old new there held more =
    more
    ∙ (λ i. old ++ flat_map (set_here (held_by (there i) (held i))) (active_actions (there i)))
    ∙ ap (λ (sets : ObjRef → List ObjRef). old ++ flat_map (set_here sets) (active_actions (present v c))) (λ i r. held_is_set v f c r i)
    ∙ (λ i. old ++ flat_map (λ (a : Act). sym (set_is (flow_in v f) c a) i) (active_actions (present v c)))

-- over the sites of what is active
pub set_active : (sets : ObjRef → List ObjRef) (ps : List Fixed) (xs : List Site) (old new : List TimerKey)
    → xs ≡ sites_of ps → new ≡ old ++ flat_map (λ (x : Site). set_here sets x.act) xs → new ≡ old ++ flat_map (set_here sets) (active_actions ps)
set_active sets ps xs old new are more =
    more ∙ ap (λ (ys : List Site). old ++ flat_map (λ (x : Site). set_here sets x.act) ys) are
    ∙ ap (λ (ts : List TimerKey). old ++ ts) (through_active (set_here sets) ps)

-- what stands at the number of a configuration is what is held there
pub held_found : (v : Service) (f : Solved) (known : List Config) (lists : List (List (List ObjRef))) (c : Config) (h : List (List ObjRef))
    → lists ≡ map (held_in v f) known → option_and_then (slice_get lists) (position (same_setting c) known) ≡ Some h → h ≡ held_in v f c
held_found v f known lists c h are found = by (position (same_setting c) known) refl found
  where
    by : (o : Option ℕ) → position (same_setting c) known ≡ o → option_and_then (slice_get lists) o ≡ Some h → h ≡ held_in v f c
    by (Some n) at e =
        let own : Some h ≡ Some (held_in v f c) =
        sym e ∙ ap (λ (ls : List (List (List ObjRef))). slice_get ls n) are ∙ get_mapped (held_in v f) known n
        ∙ ap (option_map (held_in v f)) (position_is same_setting tells_settings known c n at) in
        some_same own
    by None at e = absurd cc

-- of each of these configurations it is known what is held
pub held_known : (f : Config → List (List ObjRef)) (all known : List Config) (lists : List (List (List ObjRef))) (c : Config)
    → Among all c → known ≡ insert_all same_setting [] all → lists ≡ map f known → option_and_then (slice_get lists) (position (same_setting c) known) ≡ None → ⊥
held_known f all known lists c there is are none =
    let at = position_there (same_setting c) known (subst (λ (ks : List Config). list_any (same_setting c) ks ≡ true) (sym is) (put_all same_setting setting_itself [] all c there)) in
    let got : slice_get lists at.0 ≡ Some (f c) =
    ap (λ (ls : List (List (List ObjRef))). slice_get ls at.0) are ∙ get_mapped f known at.0 ∙ ap (option_map f) (position_is same_setting tells_settings known c at.0 at.1) in
    let never : None ≡ Some (f c) = sym none ∙ ap (option_and_then (slice_get lists)) at.1 ∙ got in
    absurd cc
