-- What an object puts that becomes available, runs, stops or is dropped costs no more than its price.
use Rattle.std.specs.Option.{is_some}
use Rattle.std.specs.Prelude.{◌&&◌, ◌++◌, ◌+◌, ◌∷◌, ◌≡◌, ◌≤◌, Bool, List, None, Option, Some, [], false, filter, map, not, pos, slice_get, true, ℕ}
use Rattle.std.proofs.Common.{◌∙◌, ap, arith, inl, inr, refl, subst, sym}
use Rattle.mh_base.specs.declared.event.EventType.{EventType}
use Rattle.mh_base.specs.declared.event.EventType.TheVariants as event
use Rattle.mh_base.specs.declared.obj_ref.ObjRef.{ObjRef}
use Rattle.mh_base.specs.declared.value.Value.{Value}
use Rattle.mh_base.specs.declared.value.Value.TheVariants as value
use Rattle.mh_group.specs.Table.{has_content, is_list_group, is_visible}
use Rattle.mh_group.specs.declared.attribute.Attribute.TheVariants as attribute
use Rattle.mh_group.specs.declared.class.Class.{Class}
use Rattle.mh_group.specs.declared.class.Class.TheVariants as class
use Rattle.mh_model.specs.declared.config.Config.{Config}
use Rattle.mh_model.specs.declared.file.File.{File}
use Rattle.mh_model.specs.declared.held.Held.{Held}
use Rattle.mh_model.specs.declared.held.Held.TheVariants as of
use Rattle.mh_model.specs.declared.item.Item.{Item}
use Rattle.mh_model.specs.declared.item.Item.TheVariants as item
use Rattle.mh_model.specs.declared.object.member.Member.{Member}
use Rattle.mh_model.specs.declared.object.Body.{Body}
use Rattle.mh_model.specs.declared.object.Fixed.{Fixed}
use Rattle.mh_model.specs.declared.object.Object.{Object}
use Rattle.mh_model.specs.Bodies.{loaded}
use Rattle.mh_model.specs.Files.{by_content, comes_to}
use Rattle.mh_model.specs.Items.{plain_event}
use Rattle.mh_model.specs.Lifecycle.{emit_if, group_halts, group_runs, loads_if, members_halted, members_run, rise_items, token_told}
use Rattle.mh_model.specs.Lists.{Shown, is_shown, list_items, nothing_shown, objects_of, shows}
use Rattle.mh_model.specs.Property.{read_of}
use Rattle.mh_model.specs.Service.{Service}
use Rattle.mh_model.specs.Tokens.{members}
use Rattle.mh_model.specs.Widget.{event_with}
use Rattle.mh_laws.specs.Costs.{change, emit, group_halt, group_run, halt_alone, item_price, plain_emit, rise_of, run_alone}
use Rattle.mh_laws.specs.Flow.{Flow}
use Rattle.mh_laws.specs.Price.{if_price, sum_price}
use Rattle.mh_laws.specs.Ways.{AreListTold, IsChange, IsNoMore, Sure, Unsure, count_of}
use Rattle.mh_laws.proofs.CountLemmas.{count_filter, count_shown}
use Rattle.mh_laws.proofs.FiredLemmas.{told_fits}
use Rattle.mh_laws.proofs.FitLemmas.{Fits, fits_as, fits_both, fits_less, fits_none, next}
use Rattle.mh_laws.proofs.PriceLemmas.{le_trans}
use Rattle.mh_laws.proofs.SumLemmas.{sum_within}
use Rattle.mh_laws.proofs.WayLemmas.{events_told}
use Rattle.mh_laws.specs.Weighing.{Weights, work_cost, worth}

-- an item alone, of which the configuration stays
pub one_item : (v : Service) (w : Flow) (f : Weights) (c : Config) (i : Item) → ((rest : List Item) → work_cost v w f c (i ∷ rest) ≡ worth f (item_price v w c i) + work_cost v w f c rest) → Fits v w f c (i ∷ []) (worth f (item_price v w c i))
one_item v w f c i is rest = let same = is rest in omega (arith, same)

-- an event without data, if it comes
pub emit_if_fits : (v : Service) (w : Flow) (f : Weights) (c : Config) (b : Bool) (r : ObjRef) (kind : EventType) → Fits v w f c (emit_if b r kind) (worth f (plain_emit v w c r kind))
emit_if_fits v w f c true r kind = told_fits v w f c r kind (Sure None) (plain_event r kind ∷ []) (refl, refl, refl)
emit_if_fits v w f c false r kind = told_fits v w f c r kind (Sure None) [] tt

-- content comes only to what has content

pub no_content : {X : Type 0} (g : Value → Option X) (m : Option Held) → is_some (by_content g m false) ≡ false
no_content {X} g None = refl
no_content {X} g (Some (of.Value v)) = refl
no_content {X} g (Some _) = refl

content_class : (fs : List File) (p : Fixed) (b : Body) → has_content p.class ≡ false → is_some (loaded fs p b) ≡ false
content_class fs p b h =
    ap (λ (t : Bool). is_some (by_content (comes_to fs) (read_of attribute.OrigContent p b) t)) h ∙ no_content (comes_to fs) (read_of attribute.OrigContent p b)

and_false : (a b : Bool) → b ≡ false → (a && b) ≡ false
and_false true b e = e
and_false false b e = refl

pub rise_fits : (v : Service) (w : Flow) (f : Weights) (c : Config) (fs : List File) (becomes : Option Object → Bool) (r : ObjRef) (o : Object) → Fits v w f c (rise_items fs becomes r (Some o)) (worth f (rise_of v w c r o.fixed.class))
rise_fits v w f c fs becomes r o =
    fits_both v w f c (emit_if (becomes (Some o)) r event.IsAvailable) (emit_if (loads_if fs becomes (Some o)) r event.ContentAvailable)
    (worth f (plain_emit v w c r event.IsAvailable)) (worth f (if_price (has_content o.fixed.class) (plain_emit v w c r event.ContentAvailable)))
    (emit_if_fits v w f c (becomes (Some o)) r event.IsAvailable)
    (by (has_content o.fixed.class) refl)
  where
    by : (b : Bool) → has_content o.fixed.class ≡ b → Fits v w f c (emit_if (loads_if fs becomes (Some o)) r event.ContentAvailable) (worth f (if_price b (plain_emit v w c r event.ContentAvailable)))
    by true e = emit_if_fits v w f c (loads_if fs becomes (Some o)) r event.ContentAvailable
    by false e =
        let never : loads_if fs becomes (Some o) ≡ false = and_false (becomes (Some o)) _ (content_class fs o.fixed o.body e) in
        subst (λ (t : Bool). Fits v w f c (emit_if t r event.ContentAvailable) 0) (sym never) (fits_none v w f c 0)

-- Members

alone_run_fits : (v : Service) (w : Flow) (f : Weights) (c : Config) (xs : List ObjRef) → Fits v w f c (map item.RunMember xs) (worth f (sum_price (run_alone v w c) xs))
alone_run_fits v w f c [] = fits_none v w f c 0
alone_run_fits v w f c (x ∷ xs) = λ rest. next (worth f (run_alone v w c x)) _ _ _ (alone_run_fits v w f c xs rest)

alone_halt_fits : (v : Service) (w : Flow) (f : Weights) (c : Config) (xs : List ObjRef) → Fits v w f c (map item.HaltMember xs) (worth f (sum_price (halt_alone v w c) xs))
alone_halt_fits v w f c [] = fits_none v w f c 0
alone_halt_fits v w f c (x ∷ xs) = λ rest. next (worth f (halt_alone v w c x)) _ _ _ (alone_halt_fits v w f c xs rest)

members_run_fit : (v : Service) (w : Flow) (f : Weights) (c : Config) (ms : List Member) → Fits v w f c (members_run ms) (worth f (sum_price (λ (m : Member). run_alone v w c m.object) ms))
members_run_fit v w f c [] = fits_none v w f c 0
members_run_fit v w f c (m ∷ ms) = λ rest. next (worth f (run_alone v w c m.object)) _ _ _ (members_run_fit v w f c ms rest)

members_halt_fit : (v : Service) (w : Flow) (f : Weights) (c : Config) (ms : List Member) → Fits v w f c (members_halted ms) (worth f (sum_price (λ (m : Member). halt_alone v w c m.object) ms))
members_halt_fit v w f c [] = fits_none v w f c 0
members_halt_fit v w f c (m ∷ ms) = λ rest. next (worth f (halt_alone v w c m.object)) _ _ _ (members_halt_fit v w f c ms rest)

-- A list that changes

added_up : (a b c d h r : ℕ) → h + r + (a + b + c + d) ≤ h + (r + (a + (b + (c + d))))
added_up a b c d h r = omega arith

events_fit : (v : Service) (w : Flow) (f : Weights) (c : Config) (r : ObjRef) (is : List Item) → AreListTold r is → Fits v w f c is (worth f (emit v w c r event.FirstItemPresented Unsure) + worth f (emit v w c r event.LastItemPresented Unsure) + worth f (emit v w c r event.HeadItems Unsure) + worth f (emit v w c r event.TailItems Unsure))
events_fit v w f c r is t =
    let first = told_fits v w f c r event.FirstItemPresented Unsure t.first t.first_told in
    let last = told_fits v w f c r event.LastItemPresented Unsure t.last t.last_told in
    let head = told_fits v w f c r event.HeadItems Unsure t.head t.head_told in
    let tail = told_fits v w f c r event.TailItems Unsure t.tail t.tail_told in
    let two = fits_both v w f c t.first t.last _ _ first last in
    let three = fits_both v w f c (t.first ++ t.last) t.head _ _ two head in
    fits_as v w f c is (t.first ++ t.last ++ t.head ++ t.tail) _ t.all (fits_both v w f c (t.first ++ t.last ++ t.head) t.tail _ _ three tail)

-- an item of the list, or what is put into it, stands in its set
pub record IsListedIn (w : Flow) (c : Config) (vs : List Value) (r : ObjRef) (o : Object) : Type 0 where
  pub own : (q : ObjRef) → count_of q (objects_of o.body.list.entries) ≤ count_of q (w.sets c r)
  pub added : (q : ObjRef) → slice_get vs 1 ≡ Some (value.Object q) → 1 ≤ count_of q (w.sets c r)

in_set : (w : Flow) (c : Config) (vs : List Value) (r : ObjRef) (o : Object) (q : ObjRef) (n : ℕ) → IsListedIn w c vs r o → IsNoMore vs (count_of q (objects_of o.body.list.entries)) q n → n ≤ count_of q (w.sets c r)
in_set w c vs r o q n k (inl h) = let own = k.own q in omega (arith, own, h)
in_set w c vs r o q n k (inr h) = let added = k.added q h.0 in let few = h.1 in omega (arith, added, few)

pub change_fits : (v : Service) (w : Flow) (f : Weights) (c : Config) (vs : List Value) (r : ObjRef) (o : Object) (is : List Item) → IsChange r vs o is → IsListedIn w c vs r o → Fits v w f c is (worth f (change v w c r))
change_fits v w f c vs r o is t k =
    let set : List ObjRef = w.sets c r in
    let halts = fits_less v w f c (map item.HaltMember t.halted) _ (worth f (sum_price (halt_alone v w c) set)) (sum_within f.cost (halt_alone v w c) t.halted set (λ q. le_trans _ _ _ (t.halted_listed q) (k.own q))) (alone_halt_fits v w f c t.halted) in
    let runs = fits_less v w f c (map item.RunMember t.run) _ (worth f (sum_price (run_alone v w c) set)) (sum_within f.cost (run_alone v w c) t.run set (λ q. in_set w c vs r o q (count_of q t.run) k (t.run_listed q))) (alone_run_fits v w f c t.run) in
    let both = fits_both v w f c (map item.HaltMember t.halted) (map item.RunMember t.run) _ _ halts runs in
    let all = fits_both v w f c (map item.HaltMember t.halted ++ map item.RunMember t.run) t.events _ _ both (events_fit v w f c r t.events t.told) in
    subst (λ (x : List Item). Fits v w f c x (worth f (change v w c r))) (sym t.all)
    (fits_less v w f c (map item.HaltMember t.halted ++ map item.RunMember t.run ++ t.events) _ (worth f (change v w c r)) (added_up _ _ _ _ _ _) all)

-- Groups that run and halt

own_listed : (w : Flow) (c : Config) (r : ObjRef) (o : Object) → ((q : ObjRef) → count_of q (objects_of o.body.list.entries) ≤ count_of q (w.sets c r)) → IsListedIn w c [] r o
own_listed w c r o h = record { own = h; added = λ q e. absurd cc }

run_change : (r : ObjRef) (o : Object) → IsChange r [] o (list_items r nothing_shown (shows true o.fixed o.body.list))
run_change r o =
    let after : Shown = shows true o.fixed o.body.list in
    record {
      halted = [];
      run = filter (λ x. not (is_shown x [])) after.items;
      events = _;
      all = refl;
      halted_listed = λ q. omega arith;
      run_listed = λ q.
          let one = count_filter q (λ x. not (is_shown x [])) after.items in
          let two = count_shown q true o.fixed o.body.list in
          inl (omega (arith, one, two));
      told = events_told r nothing_shown after;
    }

-- the items of a list, each at most once, stand in its set
abbrev pub AreInSet : Flow → Config → ObjRef → Object → Type 0
AreInSet w c r o = (q : ObjRef) → count_of q (objects_of o.body.list.entries) ≤ count_of q (w.sets c r)

-- the group's members, and that its token is at the first, in the order in which they are put
pub running_fits : (v : Service) (w : Flow) (f : Weights) (c : Config) (r : ObjRef) (o : Object) (k : Class) → (is_list_group k ≡ true → AreInSet w c r o) → Fits v w f c (group_runs k r o ++ plain_event r event.IsRunning ∷ token_told k r) (worth f (plain_emit v w c r event.IsRunning) + worth f (group_run v w c r o.fixed k))
running_fits v w f c r o class.TokenGroup h =
    let runs = members_run_fit v w f c (members o.fixed) in
    let is = told_fits v w f c r event.IsRunning (Sure None) (plain_event r event.IsRunning ∷ []) (refl, refl, refl) in
    let moved = told_fits v w f c r event.TokenMovedTo (Sure (Some (value.Int (pos 1)))) (event_with r event.TokenMovedTo (value.Int (pos 1)) ∷ []) (refl, refl, refl) in
    let ends = fits_both v w f c (plain_event r event.IsRunning ∷ []) (event_with r event.TokenMovedTo (value.Int (pos 1)) ∷ []) _ _ is moved in
    let all = fits_both v w f c (members_run (members o.fixed)) (plain_event r event.IsRunning ∷ event_with r event.TokenMovedTo (value.Int (pos 1)) ∷ []) _ _ runs ends in
    fits_less v w f c _ _ _ (turned_round _ _ _) all
  where
    turned_round : (a b d : ℕ) → a + (b + d) ≤ b + (a + d)
    turned_round a b d = omega arith
running_fits v w f c r o class.ListGroup h =
    let runs = change_fits v w f c [] r o (list_items r nothing_shown (shows true o.fixed o.body.list)) (run_change r o) (own_listed w c r o (h refl)) in
    let is = told_fits v w f c r event.IsRunning (Sure None) (plain_event r event.IsRunning ∷ []) (refl, refl, refl) in
    fits_less v w f c _ _ _ (swapped _ _) (fits_both v w f c (list_items r nothing_shown (shows true o.fixed o.body.list)) (plain_event r event.IsRunning ∷ []) _ _ runs is)
  where
    swapped : (a b : ℕ) → a + b ≤ b + a
    swapped a b = omega arith
running_fits v w f c r o _ h =
    fits_less v w f c (plain_event r event.IsRunning ∷ []) _ _ (with_none _) (told_fits v w f c r event.IsRunning (Sure None) (plain_event r event.IsRunning ∷ []) (refl, refl, refl))
  where
    with_none : (a : ℕ) → a ≤ a + 0
    with_none a = omega arith

-- what a group halts, and that it stopped
pub stopping_fits : (v : Service) (w : Flow) (f : Weights) (c : Config) (r : ObjRef) (o : Object) (k : Class) → (is_list_group k ≡ true → AreInSet w c r o) → Fits v w f c (group_halts k o ++ plain_event r event.IsStopped ∷ []) (worth f (plain_emit v w c r event.IsStopped) + worth f (group_halt v w c r o.fixed k))
stopping_fits v w f c r o class.TokenGroup h =
    let halts = members_halt_fit v w f c (members o.fixed) in
    let is = told_fits v w f c r event.IsStopped (Sure None) (plain_event r event.IsStopped ∷ []) (refl, refl, refl) in
    fits_less v w f c _ _ _ (swapped _ _) (fits_both v w f c (members_halted (members o.fixed)) (plain_event r event.IsStopped ∷ []) _ _ halts is)
  where
    swapped : (a b : ℕ) → a + b ≤ b + a
    swapped a b = omega arith
stopping_fits v w f c r o class.ListGroup h =
    let set : List ObjRef = w.sets c r in
    let shown : List ObjRef = filter (λ x. not (is_shown x [])) (shows o.body.running o.fixed o.body.list).items in
    let halts = fits_less v w f c (map item.HaltMember shown) _ (worth f (sum_price (halt_alone v w c) set)) (sum_within f.cost (halt_alone v w c) shown set (λ q. le_trans _ _ _ (le_trans _ _ _ (count_filter q (λ x. not (is_shown x [])) (shows o.body.running o.fixed o.body.list).items) (count_shown q o.body.running o.fixed o.body.list)) (h refl q))) (alone_halt_fits v w f c shown) in
    let is = told_fits v w f c r event.IsStopped (Sure None) (plain_event r event.IsStopped ∷ []) (refl, refl, refl) in
    fits_less v w f c _ _ _ (swapped _ _) (fits_both v w f c (map item.HaltMember shown) (plain_event r event.IsStopped ∷ []) _ _ halts is)
  where
    swapped : (a b : ℕ) → a + b ≤ b + a
    swapped a b = omega arith
stopping_fits v w f c r o _ h =
    fits_less v w f c (plain_event r event.IsStopped ∷ []) _ _ (with_none _) (told_fits v w f c r event.IsStopped (Sure None) (plain_event r event.IsStopped ∷ []) (refl, refl, refl))
  where
    with_none : (a : ℕ) → a ≤ a + 0
    with_none a = omega arith

-- a visible runs and halts no others

pub alone_runs : (v : Service) (w : Flow) (f : Weights) (c : Config) (r : ObjRef) (o : Object) (k : Class) → is_visible k ≡ true → Fits v w f c (group_runs k r o ++ plain_event r event.IsRunning ∷ token_told k r) (worth f (plain_emit v w c r event.IsRunning))
alone_runs v w f c r o class.TokenGroup h = absurd cc
alone_runs v w f c r o class.ListGroup h = absurd cc
alone_runs v w f c r o _ h = told_fits v w f c r event.IsRunning (Sure None) (plain_event r event.IsRunning ∷ []) (refl, refl, refl)

pub alone_halts : (v : Service) (w : Flow) (f : Weights) (c : Config) (r : ObjRef) (o : Object) (k : Class) → is_visible k ≡ true → Fits v w f c (group_halts k o ++ plain_event r event.IsStopped ∷ []) (worth f (plain_emit v w c r event.IsStopped))
alone_halts v w f c r o class.TokenGroup h = absurd cc
alone_halts v w f c r o class.ListGroup h = absurd cc
alone_halts v w f c r o _ h = told_fits v w f c r event.IsStopped (Sure None) (plain_event r event.IsStopped ∷ []) (refl, refl, refl)
