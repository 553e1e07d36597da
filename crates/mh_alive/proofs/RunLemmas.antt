-- What may run is closed, and what is not of it never runs.
use Rattle.std.specs.Prelude.{◌≡◌, Bool, true, false, ◌||◌, not, if◌then◌else◌, List, [], ◌∷◌, ◌++◌, map, Option, Some, None, refl}
use Rattle.std.specs.Cmp.Derive.{both_true}
use Rattle.std.specs.List.{flat_map, list_any}
use Rattle.std.specs.Option.{option_map, option_map_or}
use Rattle.std.proofs.Common.{ap, sym, subst, inl, inr, ◌∙◌}
use Rattle.std.proofs.lemmas.Bool.Decides.{Decides-eqb}
use Rattle.std.proofs.lemmas.Slice.Eq.{bytes_eq-Decides}
use Rattle.mh_base.specs.declared.obj_ref.ObjRef.{ObjRef}
use Rattle.mh_group.specs.Table.{is_list_group, is_token_group}
use Rattle.mh_model.specs.declared.act.Act.{Act}
use Rattle.mh_model.specs.declared.act.Target.{Target}
use Rattle.mh_model.specs.declared.act.Target.TheVariants as target
use Rattle.mh_model.specs.declared.config.Config.{Config}
use Rattle.mh_model.specs.declared.object.member.Member.{Member}
use Rattle.mh_model.specs.declared.object.Fixed.{Fixed}
use Rattle.mh_model.specs.Configuration.{present}
use Rattle.mh_model.specs.Groups.{is_initially_active}
use Rattle.mh_model.specs.Reference.{same_key, same_ref}
use Rattle.mh_model.specs.Service.{Service, part_at}
use Rattle.mh_model.specs.State.{all}
use Rattle.mh_model.specs.Tokens.{members}
use Rattle.mh_model.proofs.ListLemmas.{some_same}
use Rattle.mh_model.proofs.ServiceLemmas.{same_ref-same}
use Rattle.mh_laws.specs.Acceptable.{IsAcceptableBy}
use Rattle.mh_laws.specs.Active.{active_actions}
use Rattle.mh_laws.specs.Costs.{targets}
use Rattle.mh_laws.specs.Describing.{can_put}
use Rattle.mh_laws.specs.Each.{Among}
use Rattle.mh_laws.specs.Flow.{Flow, is_list_in, reached}
use Rattle.mh_never.specs.Running.{IsOnlyIn, IsRunClosed, Runners, any_act, is_run_piece}
use Rattle.mh_laws.proofs.EachLemmas.{among_each, among_joined, among_left, among_mapped, among_right, each_among, each_joined}
use Rattle.mh_laws.proofs.NodeLemmas.{config_among, part_among}
use Rattle.mh_never.proofs.RunningLemmas.{never_runs as law}
use Rattle.mh_alive.specs.Alive.{Alive, InEachRun, IsAliveOf, IsStill, never_runs}
use Rattle.mh_alive.specs.Runners.{can_run, first_run, items_run, members_run, run_by, run_with, runners, runners_in}
use Rattle.mh_alive.specs.There.{comes_to}
use Rattle.mh_alive.proofs.SetLemmas.{put_there}

pub key_itself : (r : ObjRef) → same_key r r ≡ true
key_itself r = both_true ((Decides-eqb r.number r.number).1 refl) ((bytes_eq-Decides r.group r.group).1 refl)

pub comes_where : (w : Flow) (c : Config) (t : Target) → comes_to (w.sets c) t ≡ targets w c t
comes_where w c (target.Direct r) = refl
comes_where w c (target.Through x) = refl

-- what is found under a reference has it as its key
pub found_key : (r : ObjRef) (ps : List Fixed) (p : Fixed) → part_at r ps ≡ Some p → r ≡ p.key
found_key r [] p e = absurd cc
found_key r (x ∷ ps) p e = by (same_ref r x.key) refl e (λ k. found_key r ps p k)
  where
    by : (b : Bool) → same_ref r x.key ≡ b → (if b then Some x else part_at r ps) ≡ Some p → (part_at r ps ≡ Some p → r ≡ p.key) → r ≡ p.key
    by true is e further = same_ref-same r x.key is ∙ ap (λ (y : Fixed). y.key) (some_same e)
    by false is e further = further e

-- what a set has is among it
pub set_among : (q : ObjRef) (xs : List ObjRef) → list_any (same_ref q) xs ≡ true → Among xs q
set_among q [] h = absurd cc
set_among q (x ∷ xs) h = by (same_ref q x) refl h (λ k. set_among q xs k)
  where
    by : (b : Bool) → same_ref q x ≡ b → (b || list_any (same_ref q) xs) ≡ true → (list_any (same_ref q) xs ≡ true → Among xs q) → Among (x ∷ xs) q
    by true is h further = inl (sym (same_ref-same q x is))
    by false is h further = inr (further h)

pub if_there : {X : Type 0} (b : Bool) (xs : List X) (x : X) → b ≡ true → Among xs x → Among (if b then xs else []) x
if_there true xs x e h = h
if_there false xs x e h = absurd cc

-- the list that is there
pub list_there : (r : ObjRef) (ps : List Fixed) → is_list_in ps r ≡ true → (p : Fixed) × Among ps p × (is_list_group p.class ≡ true) × (r ≡ p.key)
list_there r ps h = by (part_at r ps) refl h
  where
    by : (m : Option Fixed) → part_at r ps ≡ m → option_map_or is_list_group (option_map (λ (p : Fixed). p.class) m) false ≡ true
        → (p : Fixed) × Among ps p × (is_list_group p.class ≡ true) × (r ≡ p.key)
    by None e h = absurd cc
    by (Some p) e h = (p, part_among r ps p e, h, found_key r ps p e)

abbrev pub runs_in : Alive → Runners
runs_in a r = list_any (same_key r) a.runners

may_run : (v : Service) (w : Flow) (a : Alive) → IsAliveOf v w a → (c : Config) → reached w c ≡ true → (r : ObjRef) → Among (runners_in v w c) r → runs_in a r ≡ true
may_run v w a is c among r h =
    subst (λ (rs : List ObjRef). list_any (same_key r) rs ≡ true) (sym is.runners)
    (put_there same_key key_itself [] (runners v w) r (among_joined (runners_in v w) w.configs c r (config_among w.configs c among) h))

with_there : (v : Service) (w : Flow) (c : Config) (p : Fixed) (r : ObjRef) → Among (present v c) p → Among (run_with (w.sets c) p) r → Among (runners_in v w c) r
with_there v w c p r there h =
    among_left (flat_map (run_with (w.sets c)) (present v c)) (flat_map (run_by (w.sets c)) (active_actions (present v c))) r
    (among_joined (run_with (w.sets c)) (present v c) p r there h)

can_run_piece : (a : Act) → list_any is_run_piece (can_put a.name) ≡ true → can_run a.name ≡ true
unfolding can_run
can_run_piece a h = h

pub run_closed : (v : Service) (w : Flow) (a : Alive) → IsAliveOf v w a → IsRunClosed v w any_act (runs_in a)
run_closed v w a is = record {
  first = λ c among p there active.
      may_run v w a is c among p.key
      (with_there v w c p p.key there
      (among_left (first_run p ++ items_run (w.sets c) p) (members_run p) p.key
      (among_left (first_run p) (items_run (w.sets c) p) p.key (if_there (is_initially_active p) (p.key ∷ []) p.key active (inl refl)))));
  acts = λ c among x there may runs r comes.
      may_run v w a is c among r
      (among_right (flat_map (run_with (w.sets c)) (present v c)) (flat_map (run_by (w.sets c)) (active_actions (present v c))) r
      (among_joined (run_by (w.sets c)) (active_actions (present v c)) x r there
      (if_there (can_run x.name) (comes_to (w.sets c) x.target) r (can_run_piece x runs) (subst (λ (rs : List ObjRef). Among rs r) (sym (comes_where w c x.target)) comes))));
  lists = λ c among r q lists holds.
      let p = list_there r (present v c) lists in
      may_run v w a is c among q
      (with_there v w c p.0 q p.1
      (among_left (first_run p.0 ++ items_run (w.sets c) p.0) (members_run p.0) q
      (among_right (first_run p.0) (items_run (w.sets c) p.0) q
      (if_there (is_list_group p.0.class) (w.sets c p.0.key) q p.2 (subst (λ (x : ObjRef). Among (w.sets c x) q) p.3 (set_among q (w.sets c r) holds))))));
  tokens = λ c among p there group.
      among_each (λ (m : Member). runs_in a m.object ≡ true) (members p)
      (λ m h. may_run v w a is c among m.object
      (with_there v w c p m.object there
      (among_right (first_run p ++ items_run (w.sets c) p) (members_run p) m.object
      (if_there (is_token_group p.class) (map (λ (x : Member). x.object) (members p)) m.object group (among_mapped (λ (x : Member). x.object) (members p) m h)))));
}

pub still : (v : Service) (w : Flow) (a : Alive) (r : ObjRef) → IsAliveOf v w a → IsAcceptableBy v w → never_runs a r ≡ true → InEachRun v (IsStill r)
still v w a r is accepted never mjd fs ss ms s run o there key =
    let only = law v w accepted (runs_in a) (run_closed v w a is) mjd fs ss ms s run in
    let each = each_joined (IsOnlyIn (runs_in a)) s.objects.application s.objects.scene only.objects.0 only.objects.1 in
    by (runs_in a r) o.body.running never (λ e. subst (λ (x : ObjRef). runs_in a x ≡ true) key (each_among (IsOnlyIn (runs_in a)) (all s.objects) o each there e))
  where
    by : (b d : Bool) → not b ≡ true → (d ≡ true → b ≡ true) → d ≡ false
    by true d h f = absurd cc
    by false true h f = sym (f refl)
    by false false h f = refl
