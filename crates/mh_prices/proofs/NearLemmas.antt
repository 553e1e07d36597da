-- The law of views. Where what two views answer is related part by part, by a relation of prices that holds of nothing and of one
-- step and passes to sums and to the larger of two, what comes of both is related. Of what an object itself emits the relation may
-- say more, at its reference; and sets are alike only where they are asked for.
use Rattle.std.specs.Prelude.{◌≡◌, Bool, true, false, ◌&&◌, not, List, [], ◌∷◌, filter, reverse, Option, Some, None, pos, refl}
use Rattle.std.specs.Option.{option_map, option_map_or}
use Rattle.std.proofs.Common.{ap, subst}
use Rattle.mh_base.specs.declared.obj_ref.ObjRef.{ObjRef}
use Rattle.mh_base.specs.declared.value.Value.TheVariants as value
use Rattle.mh_base.specs.declared.event.EventType.{EventType}
use Rattle.mh_base.specs.declared.event.EventType.TheVariants as event
use Rattle.mh_group.specs.declared.action_name.ActionName.{ActionName}
use Rattle.mh_group.specs.declared.action_name.ActionName.TheVariants as action
use Rattle.mh_group.specs.declared.class.Class.{Class}
use Rattle.mh_group.specs.declared.class.Class.TheVariants as class
use Rattle.mh_group.specs.Table.{has_content, is_link, is_list_group, is_runnable}
use Rattle.mh_base.specs.declared.value.Kind.{Kind}
use Rattle.mh_model.specs.declared.act.Argument.{Argument}
use Rattle.mh_model.specs.declared.act.Argument.TheVariants as argument
use Rattle.mh_model.specs.declared.object.member.Member.{Member}
use Rattle.mh_model.specs.declared.object.Fixed.{Fixed}
use Rattle.mh_model.specs.Faults.{is_transition}
use Rattle.mh_model.specs.Groups.{is_initially_active, is_shared}
use Rattle.mh_model.specs.Saying.{event_numbered}
use Rattle.mh_model.specs.Tokens.{members}
use Rattle.mh_laws.specs.Price.{Price, Nothing, One, Plus, Most, sum_price, most_price, if_price}
use Rattle.mh_laws.specs.Ways.{Told, Sure, Unsure, Share, Prepares, Runs, Halts, Drops, Tells, Sends, Changes, Slots, ways}
use Rattle.mh_laws.specs.View.{View, Lists, Around, change, data_sent, done_to, dropped, emit, enter, group_halt, group_run, halt, halt_alone, halts, leave_all, leave_scene, named, prepare, put_in, rise, rise_of, run, run_alone, sends, share, slots}

-- it passes to what is made of prices
pub record Passes {K L : Type 0} (R : Price K → Price L → Type 0) : Type 0 where
  pub nothing : R Nothing Nothing
  pub one : R One One
  pub plus : (p r : Price K) (q s : Price L) → R p q → R r s → R (Plus p r) (Plus q s)
  pub most : (p r : Price K) (q s : Price L) → R p q → R r s → R (Most p r) (Most q s)

-- sums and largest ones over sets, of what single objects emit
pub record NearSets {K L : Type 0} (At : ObjRef → Price K → Price L → Type 0) (R : Price K → Price L → Type 0) (S : List ObjRef → List ObjRef → Type 0) : Type 0 where
  pub sums : (f : ObjRef → Price K) (g : ObjRef → Price L) → ((r : ObjRef) → At r (f r) (g r)) → (rs ss : List ObjRef) → S rs ss → R (sum_price f rs) (sum_price g ss)
  pub largest : (f : ObjRef → Price K) (g : ObjRef → Price L) → ((r : ObjRef) → At r (f r) (g r)) → (rs ss : List ObjRef) → S rs ss → R (most_price f rs) (most_price g ss)

pub record NearViews {K L : Type 0} (At : ObjRef → Price K → Price L → Type 0) (R : Price K → Price L → Type 0) (a : View K) (b : View L) : Type 0 where
  pub part : (r : ObjRef) → a.part r ≡ b.part r
  pub dealt_with : (r : ObjRef) (kind : EventType) (d : Told) → At r (a.dealt_with r kind d) (b.dealt_with r kind d)
  pub slots : (r : ObjRef) (p : Fixed) → a.part r ≡ Some p → is_link p.class ≡ false → R (a.slots p) (b.slots p)

pub record NearLists {K L : Type 0} (At : ObjRef → Price K → Price L → Type 0) (R : Price K → Price L → Type 0) (S : List ObjRef → List ObjRef → Type 0) (a : Lists K) (b : Lists L) : Type 0 where
  pub view : NearViews At R a.view b.view
  -- of lists that are present the items are alike
  pub items : (r : ObjRef) (p : Fixed) → a.view.part r ≡ Some p → is_list_group p.class ≡ true → S (a.view.set r) (b.view.set r)
  pub change : (r : ObjRef) → S (a.view.set r) (b.view.set r) → R (a.change r) (b.change r)

-- what the action with these arguments names is alike, and where it leads
pub record NearDone {K L : Type 0} (At : ObjRef → Price K → Price L → Type 0) (R : Price K → Price L → Type 0) (S : List ObjRef → List ObjRef → Type 0) (a : Around K) (b : Around L) (n : ActionName) (xs : List Argument) (t : ObjRef) : Type 0 where
  pub lists : NearLists At R S a.lists b.lists
  pub leave : (all : Bool) → R (a.leave all) (b.leave all)
  pub exchange : is_transition n ≡ true → R (a.exchange t.group) (b.exchange t.group)
  pub own : S (a.lists.view.set t) (b.lists.view.set t)
  pub sent : (x : ObjRef) (i : Option Kind) (more : List Argument) → xs ≡ argument.Through x i ∷ more → S (a.lists.view.set x) (b.lists.view.set x)

plus_of : {K L : Type 0} {T : Price K → Price L → Type 0} → Passes T → {p r : Price K} {q s : Price L} → T p q → T r s → T (Plus p r) (Plus q s)
plus_of k {p} {r} {q} {s} h j = k.plus p r q s h j

module _ {K L : Type 0} (At : ObjRef → Price K → Price L → Type 0) (R : Price K → Price L → Type 0) (S : List ObjRef → List ObjRef → Type 0) (near : (r : ObjRef) → Passes (At r)) (k : Passes R) (wide : (r : ObjRef) (p : Price K) (q : Price L) → At r p q → R p q) (u : NearSets At R S) where
  plus : {p r : Price K} {q s : Price L} → R p q → R r s → R (Plus p r) (Plus q s)
  plus {p} {r} {q} {s} h j = k.plus p r q s h j

  most : {p r : Price K} {q s : Price L} → R p q → R r s → R (Most p r) (Most q s)
  most {p} {r} {q} {s} h j = k.most p r q s h j

  step : {p : Price K} {q : Price L} → R p q → R (Plus One p) (Plus One q)
  step h = plus k.one h

  -- Sums over one list, and what is there or not

  sum_alike : {X : Type 0} (f : X → Price K) (g : X → Price L) → ((x : X) → R (f x) (g x)) → (xs : List X) → R (sum_price f xs) (sum_price g xs)
  sum_alike f g each [] = k.nothing
  sum_alike f g each (x ∷ xs) = plus (each x) (sum_alike f g each xs)

  most_alike : {X : Type 0} (f : X → Price K) (g : X → Price L) → ((x : X) → R (f x) (g x)) → (xs : List X) → R (most_price f xs) (most_price g xs)
  most_alike f g each [] = k.nothing
  most_alike f g each (x ∷ xs) = most (each x) (most_alike f g each xs)

  there_alike : {X : Type 0} (f : X → Price K) (g : X → Price L) → ((x : X) → R (f x) (g x)) → (m n : Option X) → m ≡ n → R (option_map_or f m Nothing) (option_map_or g n Nothing)
  there_alike {X} f g each m n e = subst (λ (o : Option X). R (option_map_or f m Nothing) (option_map_or g o Nothing)) e (by m)
    where
      by : (o : Option X) → R (option_map_or f o Nothing) (option_map_or g o Nothing)
      by None = k.nothing
      by (Some x) = each x

  widen : {r : ObjRef} {p : Price K} {q : Price L} → At r p q → R p q
  widen {r} {p} {q} h = wide r p q h

  -- Objects

  pub emit_near : (a : View K) (b : View L) → NearViews At R a b → (r : ObjRef) (kind : EventType) (d : Told) → At r (emit a r kind d) (emit b r kind d)
  emit_near a b h r kind d = plus_of (near r) (near r).one (h.dealt_with r kind d)

  plain : (a : View K) (b : View L) → NearViews At R a b → (r : ObjRef) (kind : EventType) → At r (emit a r kind (Sure None)) (emit b r kind (Sure None))
  plain a b h r kind = emit_near a b h r kind (Sure None)

  rise_near : (a : View K) (b : View L) → NearViews At R a b → (r : ObjRef) → At r (rise a r) (rise b r)
  rise_near a b h r = subst (λ (o : Option Fixed). At r (rise a r) (option_map_or (rise_of b r) (option_map (λ (p : Fixed). p.class) o) Nothing)) (h.part r) (by (a.part r))
    where
      has : (x : Bool) → At r (if_price x (emit a r event.ContentAvailable (Sure None))) (if_price x (emit b r event.ContentAvailable (Sure None)))
      has true = plain a b h r event.ContentAvailable
      has false = (near r).nothing

      by : (o : Option Fixed) → At r (option_map_or (rise_of a r) (option_map (λ (p : Fixed). p.class) o) Nothing) (option_map_or (rise_of b r) (option_map (λ (p : Fixed). p.class) o) Nothing)
      by None = (near r).nothing
      by (Some p) = plus_of (near r) (plain a b h r event.IsAvailable) (has (has_content p.class))

  pub prepare_near : (a : View K) (b : View L) → NearViews At R a b → (r : ObjRef) → At r (prepare a r) (prepare b r)
  prepare_near a b h r = plus_of (near r) (near r).one (rise_near a b h r)

  pub run_alone_near : (a : View K) (b : View L) → NearViews At R a b → (r : ObjRef) → At r (run_alone a r) (run_alone b r)
  run_alone_near a b h r = plus_of (near r) (near r).one (plus_of (near r) (rise_near a b h r) (plain a b h r event.IsRunning))

  pub halt_alone_near : (a : View K) (b : View L) → NearViews At R a b → (r : ObjRef) → At r (halt_alone a r) (halt_alone b r)
  halt_alone_near a b h r = plus_of (near r) (near r).one (plain a b h r event.IsStopped)

  pub dropped_near : (a : View K) (b : View L) → NearViews At R a b → (r : ObjRef) → At r (dropped a r) (dropped b r)
  dropped_near a b h r = plus_of (near r) (near r).one (plain a b h r event.IsDeleted)

  -- Lists

  all_halted : (a : View K) (b : View L) → NearViews At R a b → (r : ObjRef) → S (a.set r) (b.set r) → R (sum_price (halt_alone a) (a.set r)) (sum_price (halt_alone b) (b.set r))
  all_halted a b h r own = u.sums (halt_alone a) (halt_alone b) (halt_alone_near a b h) (a.set r) (b.set r) own

  pub change_near : (a : View K) (b : View L) → NearViews At R a b → (r : ObjRef) → S (a.set r) (b.set r) → R (change a r) (change b r)
  change_near a b h r own =
      plus (all_halted a b h r own)
      (plus (u.sums (run_alone a) (run_alone b) (run_alone_near a b h) (a.set r) (b.set r) own)
      (plus (widen (emit_near a b h r event.FirstItemPresented Unsure)) (plus (widen (emit_near a b h r event.LastItemPresented Unsure))
      (plus (widen (emit_near a b h r event.HeadItems Unsure)) (widen (emit_near a b h r event.TailItems Unsure))))))

  group_run_near : (a : Lists K) (b : Lists L) → NearLists At R S a b → (r : ObjRef) (p : Fixed) (x : Class) → (is_list_group x ≡ true → S (a.view.set r) (b.view.set r)) → R (group_run a r p x) (group_run b r p x)
  group_run_near a b h r p class.TokenGroup listed =
      plus (sum_alike (λ (m : Member). run_alone a.view m.object) (λ (m : Member). run_alone b.view m.object) (λ m. widen (run_alone_near a.view b.view h.view m.object)) (members p))
      (widen (emit_near a.view b.view h.view r event.TokenMovedTo (Sure (Some (value.Int (pos 1))))))
  group_run_near a b h r p class.ListGroup listed = h.change r (listed refl)
  group_run_near a b h r p _ listed = k.nothing

  group_halt_near : (a : Lists K) (b : Lists L) → NearLists At R S a b → (r : ObjRef) (p : Fixed) (x : Class) → (is_list_group x ≡ true → S (a.view.set r) (b.view.set r)) → R (group_halt a r p x) (group_halt b r p x)
  group_halt_near a b h r p class.TokenGroup listed =
      sum_alike (λ (m : Member). halt_alone a.view m.object) (λ (m : Member). halt_alone b.view m.object) (λ m. widen (halt_alone_near a.view b.view h.view m.object)) (members p)
  group_halt_near a b h r p class.ListGroup listed = all_halted a.view b.view h.view r (listed refl)
  group_halt_near a b h r p _ listed = k.nothing

  there_near : (a : Lists K) (b : Lists L) → NearLists At R S a b → (r : ObjRef) (f : Fixed → Price K) (g : Fixed → Price L) → ((p : Fixed) → (is_list_group p.class ≡ true → S (a.view.set r) (b.view.set r)) → R (f p) (g p)) → R (option_map_or f (a.view.part r) Nothing) (option_map_or g (b.view.part r) Nothing)
  there_near a b h r f g each = subst (λ (o : Option Fixed). R (option_map_or f (a.view.part r) Nothing) (option_map_or g o Nothing)) (h.view.part r) (by (a.view.part r) (h.items r))
    where
      by : (o : Option Fixed) → ((p : Fixed) → o ≡ Some p → is_list_group p.class ≡ true → S (a.view.set r) (b.view.set r)) → R (option_map_or f o Nothing) (option_map_or g o Nothing)
      by None listed = k.nothing
      by (Some p) listed = each p (listed p refl)

  pub run_near : (a : Lists K) (b : Lists L) → NearLists At R S a b → (r : ObjRef) → R (run a r) (run b r)
  run_near a b h r =
      plus (widen (run_alone_near a.view b.view h.view r))
      (there_near a b h r (λ (p : Fixed). group_run a r p p.class) (λ (p : Fixed). group_run b r p p.class) (λ p listed. group_run_near a b h r p p.class listed))

  pub halt_near : (a : Lists K) (b : Lists L) → NearLists At R S a b → (r : ObjRef) → R (halt a r) (halt b r)
  halt_near a b h r =
      plus (widen (halt_alone_near a.view b.view h.view r))
      (there_near a b h r (λ (p : Fixed). group_halt a r p p.class) (λ (p : Fixed). group_halt b r p p.class) (λ p listed. group_halt_near a b h r p p.class listed))

  -- Groups

  pub enter_near : (a : Lists K) (b : Lists L) → NearLists At R S a b → (p : Price K) (q : Price L) → R p q → (g : ObjRef) (ps : List Fixed) → R (enter a p g ps) (enter b q g ps)
  enter_near a b h p q starts g ps =
      step
      (plus starts
      (plus (sum_alike (λ (x : Fixed). run a x.key) (λ (x : Fixed). run b x.key) (λ x. run_near a b h x.key) (filter is_initially_active ps)) (widen (plain a.view b.view h.view g event.IsRunning))))

  halts_near : (a : Lists K) (b : Lists L) → NearLists At R S a b → (is : Fixed → Bool) (ps : List Fixed) → R (halts a is ps) (halts b is ps)
  halts_near a b h is ps = sum_alike (λ (x : Fixed). halt a x.key) (λ (x : Fixed). halt b x.key) (λ x. halt_near a b h x.key) (filter is (reverse ps))

  pub leave_scene_near : (a : Lists K) (b : Lists L) → NearLists At R S a b → (p : Price K) (q : Price L) → R p q → (ps qs : List Fixed) → R (leave_scene a p ps qs) (leave_scene b q ps qs)
  leave_scene_near a b h p q closes ps qs =
      plus closes (plus (halts_near a b h (λ x. is_runnable x.class) ps) (halts_near a b h (λ x. is_runnable x.class && not (is_shared x)) qs))

  pub leave_all_near : (a : Lists K) (b : Lists L) → NearLists At R S a b → (p r : Price K) (q s : Price L) → R p q → R r s → (ps qs : List Fixed) → R (leave_all a p r ps qs) (leave_all b q s ps qs)
  leave_all_near a b h p r q s closes ends ps qs =
      plus closes (plus ends (plus (halts_near a b h (λ x. is_runnable x.class) ps) (halts_near a b h (λ x. is_runnable x.class) qs)))

  -- Actions

  sends_near : (a : View K) (b : View L) → NearViews At R a b → (xs : List Argument) → ((x : ObjRef) (i : Option Kind) (more : List Argument) → xs ≡ argument.Through x i ∷ more → S (a.set x) (b.set x)) → R (sends a xs) (sends b xs)
  sends_near a b h (x ∷ argument.Direct (value.Int n) ∷ more) sent =
      there_alike (λ kind. most_price (λ q. emit a q kind (data_sent more)) (named a x)) (λ kind. most_price (λ q. emit b q kind (data_sent more)) (named b x)) (λ kind. by kind x (λ y i e. sent y i rest (ap (λ (z : Argument). z ∷ rest) e))) (event_numbered n) (event_numbered n) refl
    where
      rest : List Argument
      rest = argument.Direct (value.Int n) ∷ more

      each : (kind : EventType) (q : ObjRef) → At q (emit a q kind (data_sent more)) (emit b q kind (data_sent more))
      each kind q = emit_near a b h q kind (data_sent more)

      by : (kind : EventType) (y : Argument) → ((z : ObjRef) (i : Option Kind) → y ≡ argument.Through z i → S (a.set z) (b.set z)) → R (most_price (λ q. emit a q kind (data_sent more)) (named a y)) (most_price (λ q. emit b q kind (data_sent more)) (named b y))
      by kind (argument.Direct (value.Object q)) own = most (widen (each kind q)) k.nothing
      by kind (argument.Through y i) own = u.largest (λ (q : ObjRef). emit a q kind (data_sent more)) (λ (q : ObjRef). emit b q kind (data_sent more)) (each kind) (a.set y) (b.set y) (own y i refl)
      by kind _ own = k.nothing
  sends_near a b h _ sent = k.nothing

  slots_near : (a : View K) (b : View L) → NearViews At R a b → (t : ObjRef) → R (option_map_or (slots a) (a.part t) Nothing) (option_map_or (slots b) (b.part t) Nothing)
  slots_near a b h t = subst (λ (o : Option Fixed). R (option_map_or (slots a) (a.part t) Nothing) (option_map_or (slots b) o Nothing)) (h.part t) (by (a.part t) (h.slots t))
    where
      of : (p : Fixed) (c : Bool) → is_link p.class ≡ c → (is_link p.class ≡ false → R (a.slots p) (b.slots p)) → R (if_price (not c) (a.slots p)) (if_price (not c) (b.slots p))
      of p true e own = k.nothing
      of p false e own = own e

      by : (o : Option Fixed) → ((p : Fixed) → o ≡ Some p → is_link p.class ≡ false → R (a.slots p) (b.slots p)) → R (option_map_or (slots a) o Nothing) (option_map_or (slots b) o Nothing)
      by None own = k.nothing
      by (Some p) own = of p (is_link p.class) refl (own p refl)

  share_near : (a : Around K) (b : Around L) (n : ActionName) (xs : List Argument) (t : ObjRef) → NearDone At R S a b n xs t → (x : Share) → R (share a.lists xs t x) (share b.lists xs t x)
  share_near a b n xs t h Prepares = widen (prepare_near a.lists.view b.lists.view h.lists.view t)
  share_near a b n xs t h Runs = run_near a.lists b.lists h.lists t
  share_near a b n xs t h Halts = halt_near a.lists b.lists h.lists t
  share_near a b n xs t h Drops = widen (dropped_near a.lists.view b.lists.view h.lists.view t)
  share_near a b n xs t h (Tells kind d) = widen (emit_near a.lists.view b.lists.view h.lists.view t kind d)
  share_near a b n xs t h Sends = sends_near a.lists.view b.lists.view h.lists.view xs h.sent
  share_near a b n xs t h Changes = h.lists.change t h.own
  share_near a b n xs t h Slots = slots_near a.lists.view b.lists.view h.lists.view t

  put_near : (a : Around K) (b : Around L) (n : ActionName) (xs : List Argument) (t : ObjRef) → NearDone At R S a b n xs t → (pss : List (List Share)) → R (put_in a.lists xs t pss) (put_in b.lists xs t pss)
  put_near a b n xs t h pss =
      most_alike (λ (ps : List Share). sum_price (share a.lists xs t) ps) (λ (ps : List Share). sum_price (share b.lists xs t) ps)
      (λ ps. sum_alike (share a.lists xs t) (share b.lists xs t) (share_near a b n xs t h) ps) pss

  pub done_near : (a : Around K) (b : Around L) (n : ActionName) (xs : List Argument) (t : ObjRef) → NearDone At R S a b n xs t → R (done_to a n xs t) (done_to b n xs t)
  done_near a b action.TransitionTo xs t h = plus (h.leave false) (h.exchange refl)
  done_near a b action.Launch xs t h = plus (h.leave true) (h.exchange refl)
  done_near a b action.Quit xs t h = plus (h.leave true) k.one
  done_near a b n xs t h = put_near a b n xs t h (ways n xs)
