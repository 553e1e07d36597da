-- Of an effect that counts a node an action does, done to an object to which its target may come.
use Rattle.std.specs.Prelude.{◌≡◌, ◌⊎◌, ◌<◌, ◌+◌, ℕ, List, [], ◌∷◌, ◌++◌, get_or, length, map, slice_get, take, Option, Some, refl}
use Rattle.std.specs.Option.{option_map_or}
use Rattle.std.proofs.Common.{inl, inr, sym, subst}
use Rattle.std.proofs.lemmas.List.{take_more}
use Rattle.mh_base.specs.declared.obj_ref.ObjRef.{ObjRef}
use Rattle.mh_model.specs.declared.act.Act.{Act}
use Rattle.mh_model.specs.declared.act.Target.{Target}
use Rattle.mh_model.specs.declared.act.Target.TheVariants as target
use Rattle.mh_model.specs.declared.config.Config.{Config}
use Rattle.mh_model.specs.declared.object.Fixed.{Fixed}
use Rattle.mh_model.specs.Configuration.{present}
use Rattle.mh_model.specs.Service.{part_at}
use Rattle.mh_laws.specs.Active.{is_active}
use Rattle.mh_laws.specs.Costs.{effect_at, targets}
use Rattle.mh_laws.specs.Each.{Among}
use Rattle.mh_laws.specs.Price.{Nothing, Nodes, counted_in}
use Rattle.mh_laws.specs.View as view
use Rattle.mh_laws.proofs.EachLemmas.{among_either, among_mapped, from_mapped}
use Rattle.mh_laws.proofs.PriceLemmas.{nodes_if, nodes_most, nodes_of, nodes_sum, of_nodes}
use Rattle.mh_layers.specs.declared.numbered_node.NumberedNode.{NumberedNode}
use Rattle.mh_layers.specs.declared.numbered_node.NumberedNode.TheVariants as node
use Rattle.mh_layers.specs.CostNode.{CostNode, Effect}
use Rattle.mh_layers.specs.Applied.{CountsNode, AppliedAction, IsApplied, NoneApplied, NoneCounts, number_in, puts_so}
use Rattle.mh_layers.specs.CostNodes.{effect_of}
use Rattle.mh_layers.specs.Reading.{Reading, around_at, flow_read, heard_read, number, price_read, context_in}
use Rattle.mh_layers.specs.EffectSites.{effect_named}
use Rattle.mh_layers.specs.Trails.{IsStep}
use Rattle.mh_layers.proofs.SuccessorLemmas.{among_got, got_pushed}
use Rattle.mh_layers.proofs.NodeGraphLemmas.{counted_numbered}

-- What an effect counts

-- one of the actions counts the node, done to an object to which its target may come
abbrev IsPut : Reading → Config → List Act → CostNode → Type 0
IsPut r c acts k =
    (a : Act) × Among acts a × (t : ObjRef) × Among (targets (flow_read r) c a.target) t × Among (counted_in (puts_so r c a t)) k

same_targets : (r : Reading) (c : Config) (x : Target) → view.targets (around_at (context_in r c)).lists.view x ≡ targets (flow_read r) c x
same_targets r c (target.Direct t) = refl
same_targets r c (target.Through q) = refl

act_puts : (r : Reading) (c : Config) (acts : List Act) (a : Act) → Among acts a → Nodes (IsPut r c acts) (view.act (around_at (context_in r c)) a)
act_puts r c acts a own = (
  tt,
  nodes_most (IsPut r c acts) (puts_so r c a) (view.targets (around_at (context_in r c)).lists.view a.target)
      (λ t there. nodes_of (IsPut r c acts) (puts_so r c a t)
      (λ k counted. (a, own, t, subst (λ (ts : List ObjRef). Among ts t) (same_targets r c a.target) there, counted))),
)

effect_puts : (r : Reading) (c : Config) (o : ObjRef) (n : ℕ) (part : Fixed) → part_at o (present r.service c) ≡ Some part → Nodes (IsPut r c (effect_at part n)) (price_read r (Effect c o n))
effect_puts r c o n part at =
    subst (λ (m : Option Fixed). Nodes (IsPut r c (effect_at part n)) (option_map_or (effect_of r.service (flow_read r) (heard_read r) c n) m Nothing)) (sym at)
    (nodes_if (IsPut r c (effect_at part n)) (is_active (present r.service c) part) (view.acts (around_at (context_in r c)) (effect_at part n))
    (λ active. nodes_sum (IsPut r c (effect_at part n)) (view.act (around_at (context_in r c))) (effect_at part n)
    (λ a own. act_puts r c (effect_at part n) a own)))

-- The action

abbrev HasDoing : Reading → Config → List Act → NumberedNode → Type 0
HasDoing r c acts k = (d : AppliedAction) × IsApplied r c acts k d

put_does : (r : Reading) (c : Config) (acts : List Act) (first : NumberedNode) (k : CostNode) → number r k ≡ first → IsPut r c acts k → HasDoing r c acts first
put_does r c acts first k is put =
    let at = among_got acts put.0 put.1 in
    let d : AppliedAction = record { offset = at.0; act = put.0; at = put.2 } in (
      d,
      record {
        place = at.1;
        target = put.3;
        counts =
            subst (λ (ns : List NumberedNode). Among ns first) (sym (counted_numbered (number r) (puts_so r c put.0 put.2)))
            (subst (λ (n : NumberedNode). Among (map (number r) (counted_in (puts_so r c put.0 put.2))) n) is
            (among_mapped (number r) (counted_in (puts_so r c put.0 put.2)) k put.4));
      },
    )

-- of an effect whose node counts the other
effect_does : (r : Reading) (c : Config) (o : ObjRef) (n : ℕ) (part : Fixed) (first : NumberedNode) → part_at o (present r.service c) ≡ Some part → Among (map (number r) (counted_in (price_read r (Effect c o n)))) first → HasDoing r c (effect_at part n) first
effect_does r c o n part first at there =
    let from = from_mapped (number r) (counted_in (price_read r (Effect c o n))) first there in
    put_does r c (effect_at part n) first from.0 from.2
    (of_nodes (IsPut r c (effect_at part n)) (price_read r (Effect c o n)) (effect_puts r c o n part at) from.0 from.1)

-- OF A STEP: one of the first effect's actions counts the first node.
pub step_does : (r : Reading) (from first to : NumberedNode) → IsStep r from first to → (part : Fixed) → part_at (effect_named r from).object (present r.service (effect_named r from).config) ≡ Some part → HasDoing r (effect_named r from).config (effect_at part (number_in from)) first
step_does r (node.Effect c o n) first to step part at =
    let x = effect_named r (node.Effect c o n) in
    effect_does r x.config x.object n part first at
    (subst (λ (ns : List NumberedNode). Among ns first) (counted_numbered (number r) (price_read r (Effect x.config x.object n))) step.counted)
step_does r _ first to step part at = let never = step.from_number in absurd cc

-- In loops

pub none_more : (r : Reading) (c : Config) (a : Act) (ts : List ObjRef) (i : ℕ) (d : ObjRef) (k : NumberedNode) → i < length ts → NoneCounts r c a (take i ts) k → (CountsNode r c a (get_or ts i d) k → ⊥) → NoneCounts r c a (take (i + 1) ts) k
none_more r c a ts i d k less before here =
    subst (λ (os : List ObjRef). NoneCounts r c a os k) (sym (take_more ts i d less))
    (record { none = λ t there. by t (among_either (take i ts) (get_or ts i d ∷ []) t there) })
  where
    by : (t : ObjRef) → Among (take i ts) t ⊎ Among (get_or ts i d ∷ []) t → CountsNode r c a t k → ⊥
    by t (inl old) counts = before.none t old counts
    by t (inr (inl same)) counts = here (subst (λ (o : ObjRef). CountsNode r c a o k) (sym same) counts)
    by t (inr (inr never)) counts = absurd cc

pub does_more : (r : Reading) (c : Config) (acts : List Act) (i : ℕ) (e : Act) (k : NumberedNode) → i < length acts → NoneApplied r c (take i acts) k → NoneCounts r c (get_or acts i e) (targets (flow_read r) c (get_or acts i e).target) k → NoneApplied r c (take (i + 1) acts) k
does_more r c acts i e k less before here =
    subst (λ (xs : List Act). NoneApplied r c xs k) (sym (take_more acts i e less))
    (record { none = λ d does. by d does (got_pushed (take i acts) (get_or acts i e) d.offset d.act does.place) })
  where
    by : (d : AppliedAction) → IsApplied r c (take i acts ++ get_or acts i e ∷ []) k d → (slice_get (take i acts) d.offset ≡ Some d.act) ⊎ ((d.offset ≡ length (take i acts)) × (get_or acts i e ≡ d.act)) → ⊥
    by d does (inl old) = before.none d (record { place = old; target = does.target; counts = does.counts })
    by d does (inr last) =
        here.none d.at (subst (λ (a : Act). Among (targets (flow_read r) c a.target) d.at) (sym last.1) does.target)
        (subst (λ (a : Act). CountsNode r c a d.at k) (sym last.1) does.counts)
