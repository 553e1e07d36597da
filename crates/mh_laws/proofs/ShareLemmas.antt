-- What an action puts costs no more than its price, share by share.
use Rattle.std.specs.List.{cons_option}
use Rattle.std.specs.Option.{option_map_or}
use Rattle.std.specs.Prelude.{◌++◌, ◌∷◌, ◌≡◌, ◌≤◌, Bool, List, None, Option, Some, [], false, not, pos, slice_get, true, ℤ}
use Rattle.std.proofs.Common.{◌∙◌, ap, inl, inr, refl, subst, sym}
use Rattle.std.proofs.Math.Nat.{le-max_left, le-max_right}
use Rattle.mh_base.specs.declared.event.EventType.{EventType}
use Rattle.mh_base.specs.declared.obj_ref.ObjRef.{ObjRef}
use Rattle.mh_base.specs.declared.value.Value.{Value}
use Rattle.mh_base.specs.declared.value.Value.TheVariants as value
use Rattle.mh_group.specs.Table.{is_link}
use Rattle.mh_model.specs.declared.act.Act.{Act}
use Rattle.mh_model.specs.declared.act.Argument.{Argument}
use Rattle.mh_model.specs.declared.act.Argument.TheVariants as argument
use Rattle.mh_model.specs.declared.config.Config.{Config}
use Rattle.mh_model.specs.declared.item.Item.{Item}
use Rattle.mh_model.specs.declared.item.Item.TheVariants as item
use Rattle.mh_model.specs.declared.object.Fixed.{Fixed}
use Rattle.mh_model.specs.declared.object.Object.{Object}
use Rattle.mh_model.specs.Arguments.{value_in, values}
use Rattle.mh_model.specs.Configuration.{present}
use Rattle.mh_model.specs.Items.{acts}
use Rattle.mh_model.specs.Saying.{event_numbered}
use Rattle.mh_model.specs.Service.{Service, part_at}
use Rattle.mh_laws.specs.Costs.{Effect, data_sent, effect, emit, named, sends, share, slot_numbers, slots}
use Rattle.mh_laws.specs.Each.{Among, Each}
use Rattle.mh_laws.specs.Flow.{Flow}
use Rattle.mh_laws.specs.Price.{Nothing, Price, if_price, most_price, sum_price}
use Rattle.mh_laws.specs.Ways.{AreBy, Changes, Drops, Halts, IsBy, IsKnown, IsSent, IsWay, Prepares, Runs, Sends, Share, Slots, Tells, slots_of}
use Rattle.mh_laws.proofs.CoverLemmas.{slot_at}
use Rattle.mh_laws.proofs.FiredLemmas.{told_fits}
use Rattle.mh_laws.proofs.FitLemmas.{Fits, acts_fit, fits_as, fits_both, fits_less, fits_none}
use Rattle.mh_laws.proofs.LifeCostLemmas.{IsListedIn, change_fits, one_item}
use Rattle.mh_laws.proofs.PriceLemmas.{le_trans}
use Rattle.mh_laws.specs.Weighing.{IsPartCovered, Weights, acts_cost, worth}
use Rattle.mh_laws.proofs.WeighLemmas.{among_most}

-- an event that is sent is written as a word
abbrev pub IsWord : List Argument → Type 0
IsWord [] = Unit {0}
IsWord (x ∷ []) = Unit {0}
IsWord (x ∷ argument.Direct (value.Int n) ∷ more) = Unit {0}
IsWord _ = false ≡ true

-- to what the first of these may come
abbrev pub first_named : Flow → Config → List Argument → List ObjRef
first_named w c [] = []
first_named w c (x ∷ xs) = named w c x

-- what has to be known where a share is put
abbrev pub Needs : Service → Flow → Weights → Config → List Argument → List Value → ObjRef → Object → Share → Type 0
Needs v w f c xs vs r o Slots = (is_link o.fixed.class ≡ false) × IsPartCovered v w f c o.fixed
Needs v w f c xs vs r o Sends = IsWord xs × ((q : ObjRef) → slice_get vs 0 ≡ Some (value.Object q) → Among (first_named w c xs) q)
Needs v w f c xs vs r o Changes = IsListedIn w c vs r o
Needs v w f c xs vs r o p = Unit {0}

pub known_sent : (os : List Object) (more : List Argument) → IsKnown (data_sent more) (slice_get (values os more) 0)
known_sent os [] = refl
known_sent os (argument.Direct x ∷ more) = refl
known_sent os (argument.Through x k ∷ more) = tt
known_sent os (argument.Receiver x ∷ more) = tt

some_int : (n k : ℤ) → Some (value.Int n) ≡ Some (value.Int k) → n ≡ k
some_int n k e = cc

sent_fits : (v : Service) (w : Flow) (f : Weights) (c : Config) (os : List Object) (xs : List Argument) (is : List Item) → IsSent (values os xs) is → IsWord xs → ((q : ObjRef) → slice_get (values os xs) 0 ≡ Some (value.Object q) → Among (first_named w c xs) q) → Fits v w f c is (worth f (sends v w c xs))
sent_fits v w f c os xs [] h word to = fits_none v w f c _
sent_fits v w f c os [] (item.Emit e ∷ []) h word to = absurd cc
sent_fits v w f c os (x ∷ []) (item.Emit e ∷ []) h word to = by (value_in os x) h.2
  where
    by : (m : Option Value) → slice_get (cons_option m []) 1 ≡ Some (value.Int (pos h.0)) → Fits v w f c (item.Emit e ∷ []) 0
    by None b = absurd cc
    by (Some u) b = absurd cc
sent_fits v w f c os (x ∷ argument.Direct (value.Int n) ∷ more) (item.Emit e ∷ []) h word to = by (value_in os x) h.1 h.2 h.4
  where
    qs : List ObjRef
    qs = named w c x

    source : Among qs e.source
    source = to e.source h.1

    price : Option EventType → Price Effect
    price m = option_map_or (λ (kind : EventType). most_price (λ q. emit v w c q kind (data_sent more)) qs) m Nothing

    by : (m : Option Value) → slice_get (cons_option m (value.Int n ∷ values os more)) 0 ≡ Some (value.Object e.source) → slice_get (cons_option m (value.Int n ∷ values os more)) 1 ≡ Some (value.Int (pos h.0)) → e.data ≡ slice_get (cons_option m (value.Int n ∷ values os more)) 2 → Fits v w f c (item.Emit e ∷ []) (worth f (price (event_numbered n)))
    by None a b d = absurd cc
    by (Some u) a b d =
        let number : n ≡ pos h.0 = some_int n (pos h.0) b in
        let kind : event_numbered n ≡ Some e.kind = ap event_numbered number ∙ h.3 in
        let known : IsKnown (data_sent more) e.data = subst (IsKnown (data_sent more)) (sym d) (known_sent os more) in
        let told = told_fits v w f c e.source e.kind (data_sent more) (item.Emit e ∷ []) (refl, refl, known) in
        subst (λ (m : Option EventType). Fits v w f c (item.Emit e ∷ []) (worth f (price m))) (sym kind)
        (fits_less v w f c (item.Emit e ∷ []) _ _ (among_most f (λ q. emit v w c q e.kind (data_sent more)) qs e.source source) told)
sent_fits v w f c os _ _ h word to = absurd cc

slots_fit : (v : Service) (w : Flow) (f : Weights) (c : Config) (p : Fixed) (e : List Act) → IsPartCovered v w f c p → Among (slots_of p) e → Fits v w f c (acts e) (worth f (most_price (λ n. effect c n p) (slot_numbers p)))
slots_fit v w f c p e covered h =
    let slot = slot_at p e h in
    let own : acts_cost v w f c e ≤ worth f (effect c slot.0 p) = subst (λ (x : List Act). acts_cost v w f c x ≤ worth f (effect c slot.0 p)) slot.3 (covered slot.0 slot.2) in
    fits_less v w f c (acts e) (acts_cost v w f c e) _ (le_trans _ _ _ own (among_most f (λ n. effect c n p) (slot_numbers p) slot.0 slot.1)) (acts_fit v w f c e)

share_fits : (v : Service) (w : Flow) (f : Weights) (c : Config) (os : List Object) (xs : List Argument) (r : ObjRef) (o : Object) (p : Share) (is : List Item) → part_at r (present v c) ≡ Some o.fixed → Needs v w f c xs (values os xs) r o p → IsBy r (values os xs) o p is → Fits v w f c is (worth f (share v w c xs r p))
share_fits v w f c os xs r o Prepares is part k h = fits_as v w f c is (item.Prepare r ∷ []) _ h (one_item v w f c (item.Prepare r) (λ rest. refl))
share_fits v w f c os xs r o Runs is part k h = fits_as v w f c is (item.Run r ∷ []) _ h (one_item v w f c (item.Run r) (λ rest. refl))
share_fits v w f c os xs r o Halts is part k h = fits_as v w f c is (item.Halt r ∷ []) _ h (one_item v w f c (item.Halt r) (λ rest. refl))
share_fits v w f c os xs r o Drops is part k h = fits_as v w f c is (item.Drop r ∷ []) _ h (one_item v w f c (item.Drop r) (λ rest. refl))
share_fits v w f c os xs r o (Tells kind d) is part k h = told_fits v w f c r kind d is h
share_fits v w f c os xs r o Sends is part k h = sent_fits v w f c os xs is h k.0 k.1
share_fits v w f c os xs r o Changes is part k h = change_fits v w f c (values os xs) r o is h k
share_fits v w f c os xs r o Slots is part k (inl none) = fits_as v w f c is [] _ none (fits_none v w f c _)
share_fits v w f c os xs r o Slots is part k (inr e) =
    fits_as v w f c is (acts e.0) _ e.1
    (subst (λ (m : Option Fixed). Fits v w f c (acts e.0) (worth f (option_map_or (slots c) m Nothing))) (sym part) (subst (λ (t : Bool). Fits v w f c (acts e.0) (worth f (if_price (not t) (most_price (λ n. effect c n o.fixed) (slot_numbers o.fixed))))) (sym k.0) (slots_fit v w f c o.fixed e.0 k.1 e.2)))

shares_fit : (v : Service) (w : Flow) (f : Weights) (c : Config) (os : List Object) (xs : List Argument) (r : ObjRef) (o : Object) (ps : List Share) (is : List Item) → part_at r (present v c) ≡ Some o.fixed → Each (Needs v w f c xs (values os xs) r o) ps → AreBy r (values os xs) o ps is → Fits v w f c is (worth f (sum_price (share v w c xs r) ps))
shares_fit v w f c os xs r o [] is part k h = fits_as v w f c is [] 0 h (fits_none v w f c 0)
shares_fit v w f c os xs r o (p ∷ ps) is part k h =
    fits_as v w f c is (h.0 ++ h.1) _ h.2
    (fits_both v w f c h.0 h.1 (worth f (share v w c xs r p)) (worth f (sum_price (share v w c xs r) ps)) (share_fits v w f c os xs r o p h.0 part k.0 h.3) (shares_fit v w f c os xs r o ps h.1 part k.1 h.4))

pub way_fits : (v : Service) (w : Flow) (f : Weights) (c : Config) (os : List Object) (xs : List Argument) (r : ObjRef) (o : Object) (pss : List (List Share)) (is : List Item) → part_at r (present v c) ≡ Some o.fixed → Each (Each (Needs v w f c xs (values os xs) r o)) pss → IsWay r (values os xs) o pss is → Fits v w f c is (worth f (most_price (λ ps. sum_price (share v w c xs r) ps) pss))
way_fits v w f c os xs r o [] is part k h = fits_as v w f c is [] 0 h (fits_none v w f c 0)
way_fits v w f c os xs r o (ps ∷ pss) is part k (inl h) =
    fits_less v w f c is _ _ (le-max_left _ _) (shares_fit v w f c os xs r o ps is part k.0 h)
way_fits v w f c os xs r o (ps ∷ pss) is part k (inr h) =
    fits_less v w f c is _ _ (le-max_right (worth f (sum_price (share v w c xs r) ps)) _) (way_fits v w f c os xs r o pss is part k.1 h)
