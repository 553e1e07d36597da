-- Timers that can be set, as members of a set: when two are one, and what a hash is fed of them; and those that are set where
-- variables refer to these objects.
use Rattle.std.specs.Prelude.{◌≡◌, ℕ, Bool, true, false, ◌&&◌, List, [], ◌∷◌, ◌++◌, refl}
use Rattle.std.specs.Cmp.{IsEquivalence, first_so, second_so}
use Rattle.std.specs.Hash as fed
use Rattle.std.specs.List.{flat_map}
use Rattle.std.specs.Ordering.{int_eq}
use Rattle.std.specs.Str.{bytes_eq}
use Rattle.std.specs.Cmp.Lexicographic.{nat_list_eq_equiv}
use Rattle.std.proofs.Common.{ap, sym, subst}
use Rattle.std.proofs.lemmas.Bool.Decides.{Decides-int_eq}
use Rattle.std.proofs.lemmas.Slice.Eq.{bytes_eq-Decides}
use Rattle.mh_base.specs.Mixing.{mixed}
use Rattle.mh_base.specs.declared.obj_ref.ObjRef.{ObjRef}
use Rattle.mh_model.specs.declared.act.Act.{Act}
use Rattle.mh_model.specs.declared.act.Target.{Target}
use Rattle.mh_model.specs.declared.act.Target.TheVariants as target
use Rattle.mh_model.specs.declared.config.Config.{Config}
use Rattle.mh_model.specs.declared.object.Fixed.{Fixed}
use Rattle.mh_model.specs.Configuration.{present}
use Rattle.mh_model.specs.Service.{Service}
use Rattle.mh_laws.specs.Active.{active_actions}
use Rattle.mh_laws.specs.Costs.{TimerKey, same_timer, set_by, set_with}
use Rattle.mh_laws.specs.Flow.{Flow}
use Rattle.mh_flow.specs.Solved.{held_by}

abbrev pub timer_fed : TimerKey → List (List ℕ)
timer_fed t = fed.u64 (mixed t.0) ++ fed.i32 t.1

-- timers are the same or not
pub timer_one : (x y : TimerKey) → same_timer x y ≡ true → x ≡ y
timer_one x y e =
    let group : x.0 ≡ y.0 = (bytes_eq-Decides x.0 y.0).0 (first_so (bytes_eq x.0 y.0) (int_eq x.1 y.1) e) in
    let id : x.1 ≡ y.1 = (Decides-int_eq x.1 y.1).0 (second_so (bytes_eq x.0 y.0) (int_eq x.1 y.1) e) in
    λ i. (group i, id i)

pub timer_itself : (x : TimerKey) → same_timer x x ≡ true
timer_itself x = λ i. nat_list_eq_equiv.refl x.0 i && (Decides-int_eq x.1 x.1).1 refl i

turned : (x y : TimerKey) → same_timer x y ≡ true → same_timer y x ≡ true
turned x y e = subst (λ (z : TimerKey). same_timer z x ≡ true) (timer_one x y e) (timer_itself x)

timer_symm : (x y : TimerKey) → same_timer x y ≡ same_timer y x
timer_symm x y = by (same_timer x y) (same_timer y x) (turned x y) (turned y x)
  where
    by : (c d : Bool) → (c ≡ true → d ≡ true) → (d ≡ true → c ≡ true) → c ≡ d
    by true d h g = sym (h refl)
    by false true h g = g refl
    by false false h g = refl

pub timer_equiv : IsEquivalence same_timer
timer_equiv = record {
  refl = timer_itself;
  symm = timer_symm;
  congr = λ x y z e. ap (λ (t : TimerKey). same_timer t z) (timer_one x y e);
}

-- and what is the same is hashed alike
pub timer_alike : (x y : TimerKey) → same_timer x y ≡ true → timer_fed x ≡ timer_fed y
timer_alike x y e = ap timer_fed (timer_one x y e)

-- what is present, and what is held there
pub record There : Type 0 where
  pub present : List Fixed
  pub lists : List (List ObjRef)

-- to what each variable may refer
unfoldable pub sets_there : There → ObjRef → List ObjRef
sets_there t = held_by t.present t.lists

-- where variables refer to these

abbrev pub targets_here : (ObjRef → List ObjRef) → Target → List ObjRef
targets_here sets (target.Direct r) = r ∷ []
targets_here sets (target.Through x) = sets x

abbrev pub set_here : (ObjRef → List ObjRef) → Act → List TimerKey
set_here sets a = set_with a.name a.arguments (targets_here sets a.target)

-- those that active actions of a configuration set
abbrev pub set_in : Service → Flow → Config → List TimerKey
set_in v w c = flat_map (set_by w c) (active_actions (present v c))
