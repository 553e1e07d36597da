-- What actions come to over nodes is what they come to over effects.
use Rattle.std.specs.Prelude.{◌≡◌, Bool, true, List, refl}
use Rattle.std.proofs.Common.{arith, subst}
use Rattle.mh_base.specs.declared.obj_ref.ObjRef.{ObjRef}
use Rattle.mh_group.specs.declared.action_name.ActionName.{ActionName}
use Rattle.mh_model.specs.declared.act.Act.{Act}
use Rattle.mh_model.specs.declared.act.Argument.{Argument}
use Rattle.mh_model.specs.declared.act.Target.{Target}
use Rattle.mh_model.specs.declared.act.Target.TheVariants as target
use Rattle.mh_model.specs.declared.config.Config.{Config}
use Rattle.mh_laws.specs.Costs as costs
use Rattle.mh_laws.specs.Flow.{reached}
use Rattle.mh_laws.specs.Price.{One, most_price}
use Rattle.mh_laws.specs.View as view
use Rattle.mh_prices.proofs.NearLemmas.{NearDone, done_near}
use Rattle.mh_layers.specs.CostNode.{Leave}
use Rattle.mh_layers.specs.CostNodes.{objects}
use Rattle.mh_layers.proofs.AgreeLemmas.{Agrees, SameSets, Setting, agrees_largest, agrees_node, agrees_one, agrees_passes, agrees_plus, agrees_sets, agrees_sum}
use Rattle.mh_layers.proofs.LifeAgreeLemmas.{all_lists, exchange_agrees, numbered_service}

pub leaving : {A : Type 0} (s : Setting A) (c : Config) → reached s.flow c ≡ true → (all : Bool) → Agrees s 6 ((numbered_service s c).leave all) (costs.leaves s.service s.flow c all)
leaving s c here all = agrees_node s 6 (Leave c all) here (omega arith)

near : {A : Type 0} (s : Setting A) (c : Config) → reached s.flow c ≡ true → (n : ActionName) (xs : List Argument) (r : ObjRef) → NearDone (λ q. Agrees s 6) (Agrees s 6) SameSets (numbered_service s c) (costs.around s.service s.flow c) n xs r
near s c here n xs r = record {
  lists = all_lists s 6 (omega arith) c here;
  leave = leaving s c here;
  exchange = λ leads. exchange_agrees s c r.group;
  own = refl;
  sent = λ x i more e. refl;
}

pub done_agrees : {A : Type 0} (s : Setting A) (c : Config) → reached s.flow c ≡ true → (n : ActionName) (xs : List Argument) (r : ObjRef) → Agrees s 6 (view.done_to (numbered_service s c) n xs r) (costs.done_to s.service s.flow c n xs r)
done_agrees s c here n xs r =
    done_near (λ q. Agrees s 6) (Agrees s 6) SameSets (λ q. agrees_passes s 6) (agrees_passes s 6) (λ q o u a. a) (agrees_sets s 6)
    (numbered_service s c) (costs.around s.service s.flow c) n xs r (near s c here n xs r)

-- the targets of both are the same
same_targets : {A : Type 0} (s : Setting A) (c : Config) (x : Target) → view.targets (objects s.service s.flow s.heard c) x ≡ view.targets (costs.objects s.service s.flow c) x
same_targets s c (target.Direct r) = refl
same_targets s c (target.Through x) = refl

pub act_agrees : {A : Type 0} (s : Setting A) (c : Config) → reached s.flow c ≡ true → (a : Act) → Agrees s 6 (view.act (numbered_service s c) a) (costs.act s.service s.flow c a)
act_agrees s c here a =
    agrees_plus s 6 One (most_price (view.done_to (numbered_service s c) a.name a.arguments) (view.targets (objects s.service s.flow s.heard c) a.target))
    One (most_price (costs.done_to s.service s.flow c a.name a.arguments) (view.targets (costs.objects s.service s.flow c) a.target)) (agrees_one s 6)
    (subst (λ (ts : List ObjRef). Agrees s 6 (most_price (view.done_to (numbered_service s c) a.name a.arguments) (view.targets (objects s.service s.flow s.heard c) a.target)) (most_price (costs.done_to s.service s.flow c a.name a.arguments) ts))
    (same_targets s c a.target)
    (agrees_largest s 6 (view.done_to (numbered_service s c) a.name a.arguments) (costs.done_to s.service s.flow c a.name a.arguments) (view.targets (objects s.service s.flow s.heard c) a.target)
    (λ r there. done_agrees s c here a.name a.arguments r)))

pub acts_agree : {A : Type 0} (s : Setting A) (c : Config) → reached s.flow c ≡ true → (xs : List Act) → Agrees s 6 (view.acts (numbered_service s c) xs) (costs.acts_price s.service s.flow c xs)
acts_agree s c here xs = agrees_sum s 6 (view.act (numbered_service s c)) (costs.act s.service s.flow c) xs (λ a there. act_agrees s c here a)
