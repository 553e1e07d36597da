-- The events that come of an action are those that the table lists for it.
use Rattle.std.specs.Prelude.{◌≡◌, ◌==◌, Bool, true, false, if◌then◌else◌, List, [], ◌∷◌, ◌++◌, map, filter, Option, Some, None, not, ◌&&◌, refl}
use Rattle.std.specs.List.{list_all, flat_map}
use Rattle.std.specs.Option.{is_some}
use Rattle.std.specs.Cmp.Derive.{both_true}
use Rattle.std.proofs.Common.{inl, inr, ap, ◌∙◌, sym, subst, append-nil}
use Rattle.mh_base.specs.declared.obj_ref.ObjRef.{ObjRef}
use Rattle.mh_base.specs.declared.value.Value.{Value}
use Rattle.mh_base.specs.declared.value.Value.TheVariants as value
use Rattle.mh_base.specs.declared.event.EventType.{EventType}
use Rattle.mh_base.specs.declared.event.EventType.TheVariants as event
use Rattle.mh_base.specs.Event.{event_types}
use Rattle.mh_group.specs.declared.action_name.ActionName.{ActionName}
use Rattle.mh_group.specs.declared.action_name.ActionName.TheVariants as action
use Rattle.mh_group.specs.declared.class.Class.{Class}
use Rattle.mh_group.specs.declared.class.Class.TheVariants as class
use Rattle.mh_group.specs.Table.{emits, has_content, prepare_events, run_events}
use Rattle.mh_group.specs.declared.attribute.Attribute.TheVariants as attribute
use Rattle.mh_model.specs.declared.held.Held.{Held}
use Rattle.mh_model.specs.declared.held.Held.TheVariants as of
use Rattle.mh_model.specs.declared.item.Item.{Item}
use Rattle.mh_model.specs.declared.item.Item.TheVariants as item
use Rattle.mh_model.specs.declared.object.member.Member.{Member}
use Rattle.mh_model.specs.declared.object.Object.{Object}
use Rattle.mh_model.specs.declared.operator.Operator.{Operator}
use Rattle.mh_model.specs.declared.file.File.{File}
use Rattle.mh_model.specs.Items.{plain_event}
use Rattle.mh_model.specs.Lifecycle.{is_available_at, emit_if, members_run, members_halted, group_runs, group_halts, token_told, running_items, stopping_items, started_items, halt_items, prepare_items, run_items}
use Rattle.mh_group.specs.Same.{are_same}
use Rattle.mh_model.specs.Lists.{Shown, nothing_shown, shows, is_shown, truth_told, count_told, halted_members, run_members, list_items}
use Rattle.mh_model.specs.Programs.{counted}
use Rattle.mh_model.specs.Property.{read_of, value_held}
use Rattle.mh_model.specs.Tokens.{members}
use Rattle.mh_model.specs.Widget.{event_with}
use Rattle.mh_model.specs.Variables.{operator_of}
use Rattle.mh_model.specs.Bodies.{loaded}
use Rattle.mh_model.specs.Saying.{event_numbered, sent, tested}
use Rattle.mh_laws.specs.Describing.{Piece, Tells, Lists, Slots, can_put, IsOf, IsOneOf, AreOf, kinds, emits_of, items_put, events_put, is_listed, EmitsWhatIsListed}
use Rattle.mh_model.specs.Groups.{entering}
use Rattle.mh_model.specs.Files.{by_content, comes_to, is_loadable}
use Rattle.mh_model.proofs.ListLemmas.{and_left, and_right, all_joined}
use Rattle.mh_laws.proofs.DescribingLemmas.{puts_of}
use Rattle.mh_laws.proofs.LeadingLemmas.{entered_runs}

ran_listed : (c : Class) → is_listed (run_events c) event.IsAvailable ≡ true
ran_listed class.Text = refl
ran_listed class.EntryField = refl
ran_listed class.ListGroup = refl
ran_listed class.TokenGroup = refl
ran_listed _ = refl

loads_run : (c : Class) → has_content c ≡ true → is_listed (run_events c) event.ContentAvailable ≡ true
loads_run class.Text h = refl
loads_run class.EntryField h = refl
loads_run _ h = absurd cc

loads_prepare : (c : Class) → has_content c ≡ true → is_listed (prepare_events c) event.ContentAvailable ≡ true
loads_prepare c h = subst (λ (b : Bool). is_listed (if b then event.IsAvailable ∷ event.ContentAvailable ∷ [] else event.IsAvailable ∷ []) event.ContentAvailable ≡ true) (sym h) refl

-- what is told by content is told of a class that has some
tells_content : {X : Type 0} (f : Value → Option X) (h : Option Held) (b : Bool) → is_some (by_content f h b) ≡ true → b ≡ true
tells_content f None b e = absurd cc
tells_content f (Some (of.Value v)) true e = refl
tells_content f (Some (of.Value v)) false e = absurd cc
tells_content f (Some (of.Pair x y)) b e = absurd cc
tells_content f (Some (of.Colour x)) b e = absurd cc
tells_content f (Some (of.Event x)) b e = absurd cc
tells_content f (Some (of.Effect x)) b e = absurd cc
tells_content f (Some (of.Members x)) b e = absurd cc
tells_content f (Some (of.Rows x)) b e = absurd cc
tells_content f (Some (of.Positions x)) b e = absurd cc
tells_content f (Some of.Kept) b e = absurd cc

prepares_listed : (c : Class) → is_listed (prepare_events c) event.IsAvailable ≡ true
prepares_listed c = by (has_content c)
  where
    by : (b : Bool) → is_listed (if b then event.IsAvailable ∷ event.ContentAvailable ∷ [] else event.IsAvailable ∷ []) event.IsAvailable ≡ true
    by true = refl
    by false = refl

each_listed : (e : EventType) → is_listed event_types e ≡ true
each_listed event.IsAvailable = refl
each_listed _ = refl

-- events that come or not
one_comes : (p : EventType → Bool) (r : ObjRef) (kind : EventType) (b : Bool) → p kind ≡ true → list_all p (kinds (emit_if b r kind) ++ []) ≡ true
one_comes p r kind true h = both_true h refl
one_comes p r kind false h = refl

-- that an object becomes available, that its content is there, and what is listed behind that
rise_comes : (p : EventType → Bool) (r : ObjRef) (a b : Bool) (is : List Item) → p event.IsAvailable ≡ true → (b ≡ true → p event.ContentAvailable ≡ true) → list_all p (kinds is ++ []) ≡ true → list_all p (kinds ((emit_if a r event.IsAvailable ++ emit_if (a && b) r event.ContentAvailable) ++ is) ++ []) ≡ true
rise_comes p r true true is h k rest = both_true h (both_true (k refl) rest)
rise_comes p r true false is h k rest = both_true h rest
rise_comes p r false b is h k rest = rest

rises_alone : (p : EventType → Bool) (r : ObjRef) (a b : Bool) → p event.IsAvailable ≡ true → (b ≡ true → p event.ContentAvailable ≡ true) → list_all p (kinds (emit_if a r event.IsAvailable ++ emit_if (a && b) r event.ContentAvailable) ++ []) ≡ true
rises_alone p r true true h k = both_true h (both_true (k refl) refl)
rises_alone p r true false h k = both_true h refl
rises_alone p r false b h k = refl

-- Members run and halt, and emit nothing of the group itself.

kinds_both : (p : EventType → Bool) (is js : List Item) → list_all p (kinds is) ≡ true → list_all p (kinds js) ≡ true → list_all p (kinds (is ++ js)) ≡ true
kinds_both p [] js h k = k
kinds_both p (item.Emit e ∷ is) js h k = both_true (and_left (p e.kind) (list_all p (kinds is)) h) (kinds_both p is js (and_right (p e.kind) (list_all p (kinds is)) h) k)
kinds_both p (item.Act a ∷ is) js h k = kinds_both p is js h k
kinds_both p (item.Prepare a ∷ is) js h k = kinds_both p is js h k
kinds_both p (item.Run a ∷ is) js h k = kinds_both p is js h k
kinds_both p (item.Halt a ∷ is) js h k = kinds_both p is js h k
kinds_both p (item.RunMember a ∷ is) js h k = kinds_both p is js h k
kinds_both p (item.HaltMember a ∷ is) js h k = kinds_both p is js h k
kinds_both p (item.Drop a ∷ is) js h k = kinds_both p is js h k
kinds_both p (item.Enter g ∷ is) js h k = kinds_both p is js h k
kinds_both p (item.Exchange g ∷ is) js h k = kinds_both p is js h k
kinds_both p (item.End ∷ is) js h k = kinds_both p is js h k

members_run_silent : (p : EventType → Bool) (ms : List Member) → list_all p (kinds (members_run ms)) ≡ true
members_run_silent p [] = refl
members_run_silent p (m ∷ ms) = members_run_silent p ms

members_halted_silent : (p : EventType → Bool) (ms : List Member) → list_all p (kinds (members_halted ms)) ≡ true
members_halted_silent p [] = refl
members_halted_silent p (m ∷ ms) = members_halted_silent p ms

run_silent : (p : EventType → Bool) (xs : List ObjRef) → list_all p (kinds (map item.RunMember xs)) ≡ true
run_silent p [] = refl
run_silent p (x ∷ xs) = run_silent p xs

halt_silent : (p : EventType → Bool) (xs : List ObjRef) → list_all p (kinds (map item.HaltMember xs)) ≡ true
halt_silent p [] = refl
halt_silent p (x ∷ xs) = halt_silent p xs

told_comes : (p : EventType → Bool) (r : ObjRef) (kind : EventType) (same : Bool) (v : Value) → p kind ≡ true → list_all p (kinds (if same then [] else event_with r kind v ∷ [])) ≡ true
told_comes p r kind true v h = refl
told_comes p r kind false v h = both_true h refl

list_comes : (p : EventType → Bool) (r : ObjRef) (a b : Shown) → p event.FirstItemPresented ≡ true → p event.LastItemPresented ≡ true → p event.HeadItems ≡ true → p event.TailItems ≡ true → list_all p (kinds (list_items r a b)) ≡ true
list_comes p r a b f l h t =
    let first = truth_told event.FirstItemPresented r a.has_first b.has_first in
    let last = truth_told event.LastItemPresented r a.has_last b.has_last in
    let head = count_told event.HeadItems r a.head b.head in
    let tail = count_told event.TailItems r a.tail b.tail in
    kinds_both p (halted_members a.items b.items ++ run_members a.items b.items) (first ++ last ++ head ++ tail)
    (kinds_both p (halted_members a.items b.items) (run_members a.items b.items) (halt_silent p (filter (λ x. not (is_shown x b.items)) a.items)) (run_silent p (filter (λ x. not (is_shown x a.items)) b.items)))
    (kinds_both p (first ++ last ++ head) tail
    (kinds_both p (first ++ last) head
    (kinds_both p first last (told_comes p r event.FirstItemPresented (are_same a.has_first b.has_first) (value.Bool b.has_first) f) (told_comes p r event.LastItemPresented (are_same a.has_last b.has_last) (value.Bool b.has_last) l))
    (told_comes p r event.HeadItems (a.head == b.head) (value.Int (counted b.head)) h))
    (told_comes p r event.TailItems (a.tail == b.tail) (value.Int (counted b.tail)) t))

running_come : (k : Class) (r : ObjRef) (o : Object) → list_all (is_listed (run_events k)) (kinds (group_runs k r o ++ plain_event r event.IsRunning ∷ token_told k r)) ≡ true
running_come class.TokenGroup r o = kinds_both (is_listed (run_events class.TokenGroup)) (members_run (members o.fixed)) _ (members_run_silent (is_listed (run_events class.TokenGroup)) (members o.fixed)) refl
running_come class.ListGroup r o =
    kinds_both (is_listed (run_events class.ListGroup)) (list_items r nothing_shown (shows true o.fixed o.body.list)) _
    (list_comes (is_listed (run_events class.ListGroup)) r nothing_shown (shows true o.fixed o.body.list) refl refl refl refl) refl
running_come class.Text r o = refl
running_come class.EntryField r o = refl
running_come _ r o = refl

stopping_come : (k : Class) (p : EventType → Bool) (r : ObjRef) (o : Object) → p event.IsStopped ≡ true → list_all p (kinds (group_halts k o ++ plain_event r event.IsStopped ∷ [])) ≡ true
stopping_come class.TokenGroup p r o h = kinds_both p (members_halted (members o.fixed)) _ (members_halted_silent p (members o.fixed)) (both_true h refl)
stopping_come class.ListGroup p r o h = kinds_both p (halted_members (shows o.body.running o.fixed o.body.list).items []) _ (halt_silent p (filter (λ x. not (is_shown x [])) (shows o.body.running o.fixed o.body.list).items)) (both_true h refl)
stopping_come _ p r o h = both_true h refl

nothing_behind : (p : EventType → Bool) (is : List Item) → list_all p (kinds is) ≡ true → list_all p (kinds is ++ []) ≡ true
nothing_behind p is h = ap (list_all p) (append-nil (kinds is)) ∙ h

started_come : (r : ObjRef) (o : Object) → list_all (is_listed (run_events o.fixed.class)) (kinds (started_items r (Some o)) ++ []) ≡ true
started_come r o = nothing_behind (is_listed (run_events o.fixed.class)) (started_items r (Some o)) (by o.body.running)
  where
    by : (b : Bool) → list_all (is_listed (run_events o.fixed.class)) (kinds (if b then [] else running_items r o)) ≡ true
    by true = refl
    by false = running_come o.fixed.class r o

halted_come : (p : EventType → Bool) (r : ObjRef) (o : Object) → p event.IsStopped ≡ true → list_all p (kinds (halt_items r (Some o))) ≡ true
halted_come p r o h = by o.body.running
  where
    by : (b : Bool) → list_all p (kinds (if b then stopping_items r o else [])) ≡ true
    by true = stopping_come o.fixed.class p r o h
    by false = refl

-- an object that is to run
runs_come : (fs : List File) (r : ObjRef) (o : Object) → list_all (is_listed (run_events o.fixed.class)) (kinds (run_items fs r (Some o)) ++ []) ≡ true
runs_come fs r o =
    let c : Class = o.fixed.class in
    rise_comes (is_listed (run_events c)) r (not o.body.running && not o.body.available) (is_some (loaded fs o.fixed o.body)) (started_items r (Some o))
    (ran_listed c) (λ h. loads_run c (tells_content (comes_to fs) (read_of attribute.OrigContent o.fixed o.body) (has_content c) h))
    (started_come r o)

-- an object that is to become available
prepares_come : (fs : List File) (r : ObjRef) (o : Object) → list_all (is_listed (prepare_events o.fixed.class)) (kinds (prepare_items fs r (Some o)) ++ []) ≡ true
prepares_come fs r o =
    let c : Class = o.fixed.class in
    rises_alone (is_listed (prepare_events c)) r (not o.body.available) (is_some (loaded fs o.fixed o.body))
    (prepares_listed c) (λ h. loads_prepare c (tells_content (comes_to fs) (read_of attribute.OrigContent o.fixed o.body) (has_content c) h))

-- content that is replaced
data_comes : (fs : List File) (r : ObjRef) (o : Object) (b : Bool) → list_all (is_listed (event.ContentAvailable ∷ [])) (flat_map (emits_of fs r o) (emit_if b r event.ContentAvailable)) ≡ true
data_comes fs r o true = refl
data_comes fs r o false = refl

data_listed : (fs : List File) (b : Bool) (vs : List Value) (r : ObjRef) (o : Object) → list_all (is_listed (event.ContentAvailable ∷ [])) (events_put fs b action.SetData vs r o) ≡ true
data_listed fs b (v ∷ []) r o = data_comes fs r o (is_loadable v && is_available_at (Some o) && is_some (comes_to fs v))
data_listed fs b _ r o = refl

sent_comes : (fs : List File) (source r : ObjRef) (o : Object) (m : Option EventType) (more : List Value) → list_all (is_listed event_types) (flat_map (emits_of fs r o) (sent source m more)) ≡ true
sent_comes fs source r o None more = refl
sent_comes fs source r o (Some kind) more = both_true (each_listed kind) refl

sends_listed : (fs : List File) (b : Bool) (vs : List Value) (r : ObjRef) (o : Object) → list_all (is_listed event_types) (events_put fs b action.SendEvent vs r o) ≡ true
sends_listed fs b (value.Object q ∷ value.Int kind ∷ more) r o = sent_comes fs q r o (event_numbered kind) more
sends_listed fs b _ r o = refl

test_comes : (fs : List File) (r : ObjRef) (o : Object) (m : Option Operator) (given : Option Value) (x : Value) → list_all (is_listed (event.TestEvent ∷ [])) (flat_map (emits_of fs r o) (tested r m given x)) ≡ true
test_comes fs r o (Some t) (Some h) x = refl
test_comes fs r o _ given x = refl

tests_listed : (fs : List File) (b : Bool) (vs : List Value) (r : ObjRef) (o : Object) → list_all (is_listed (event.TestEvent ∷ [])) (events_put fs b action.TestVariable vs r o) ≡ true
tests_listed fs b (value.Int n ∷ x ∷ []) r o = test_comes fs r o (operator_of n) (value_held o.fixed o.body) x
tests_listed fs b _ r o = refl

-- what is put of pieces emits what the pieces tell

abbrev tells_in : List EventType → Piece → Bool
tells_in es (Tells kind) = is_listed es kind
tells_in es Lists = true
tells_in es Slots = true
tells_in es _ = false

piece_comes : (fs : List File) (r : ObjRef) (vs : List Value) (o : Object) (es : List EventType) (p : Piece) (i : Item) → IsOf r vs o p i → tells_in es p ≡ true → list_all (is_listed es) (emits_of fs r o i) ≡ true
piece_comes fs r vs o es (Tells kind) (item.Emit e) of h = both_true (ap (is_listed es) of.1 ∙ h) refl
piece_comes fs r vs o es Lists (item.RunMember x) of h = refl
piece_comes fs r vs o es Lists (item.HaltMember x) of h = refl
piece_comes fs r vs o es Slots (item.Act a) of h = refl
piece_comes fs r vs o es _ _ of h = absurd cc

one_of_comes : (fs : List File) (r : ObjRef) (vs : List Value) (o : Object) (es : List EventType) (ps : List Piece) (i : Item) → IsOneOf r vs o ps i → list_all (tells_in es) ps ≡ true → list_all (is_listed es) (emits_of fs r o i) ≡ true
one_of_comes fs r vs o es [] i of h = absurd cc
one_of_comes fs r vs o es (p ∷ ps) i (inl of) h = piece_comes fs r vs o es p i of (and_left (tells_in es p) (list_all (tells_in es) ps) h)
one_of_comes fs r vs o es (p ∷ ps) i (inr of) h = one_of_comes fs r vs o es ps i of (and_right (tells_in es p) (list_all (tells_in es) ps) h)

pieces_come : (fs : List File) (r : ObjRef) (vs : List Value) (o : Object) (es : List EventType) (ps : List Piece) (is : List Item) → AreOf r vs o ps is → list_all (tells_in es) ps ≡ true → list_all (is_listed es) (flat_map (emits_of fs r o) is) ≡ true
pieces_come fs r vs o es ps [] of h = refl
pieces_come fs r vs o es ps (i ∷ is) of h =
    all_joined (is_listed es) (emits_of fs r o i) (flat_map (emits_of fs r o) is) (one_of_comes fs r vs o es ps i of.0 h) (pieces_come fs r vs o es ps is of.1 h)

-- all that an action can put are such pieces
told_listed : (fs : List File) (b : Bool) (n : ActionName) (vs : List Value) (r : ObjRef) (o : Object) → list_all (tells_in (emits n o.fixed.class)) (can_put n) ≡ true → list_all (is_listed (emits n o.fixed.class)) (events_put fs b n vs r o) ≡ true
told_listed fs b n vs r o h = pieces_come fs r vs o (emits n o.fixed.class) (can_put n) (items_put fs b n vs r o) (puts_of fs b n vs r o) h

-- a group that is entered
enters_listed : (r : ObjRef) (o : Object) → list_all (is_listed (event.IsRunning ∷ [])) (kinds (entering r.group (o.fixed ∷ [])) ++ []) ≡ true
enters_listed r o = ap (λ es. list_all (is_listed (event.IsRunning ∷ [])) (es ++ [])) (entered_runs r.group (o.fixed ∷ []))

rule_listed : (fs : List File) (b : Bool) (n : ActionName) (vs : List Value) (r : ObjRef) (o : Object) → list_all (is_listed (emits n o.fixed.class)) (events_put fs b n vs r o) ≡ true
rule_listed fs b action.Run vs r o = runs_come fs r o
rule_listed fs b action.Activate vs r o = runs_come fs r o
rule_listed fs b action.Stop vs r o = nothing_behind (is_listed (event.IsStopped ∷ [])) (halt_items r (Some o)) (halted_come (is_listed (event.IsStopped ∷ [])) r o refl)
rule_listed fs b action.Deactivate vs r o = nothing_behind (is_listed (event.IsStopped ∷ [])) (halt_items r (Some o)) (halted_come (is_listed (event.IsStopped ∷ [])) r o refl)
rule_listed fs b action.Preload vs r o = prepares_come fs r o
rule_listed fs b action.Unload vs r o =
    all_joined (is_listed (event.IsStopped ∷ event.IsDeleted ∷ [])) (kinds (halt_items r (Some o))) (kinds (emit_if o.body.available r event.IsDeleted) ++ [])
    (halted_come (is_listed (event.IsStopped ∷ event.IsDeleted ∷ [])) r o refl) (one_comes (is_listed (event.IsStopped ∷ event.IsDeleted ∷ [])) r event.IsDeleted o.body.available refl)
rule_listed fs b action.SendEvent vs r o = sends_listed fs b vs r o
rule_listed fs b action.TestVariable vs r o = tests_listed fs b vs r o
rule_listed fs b action.SetData vs r o = data_listed fs b vs r o
rule_listed fs b action.TransitionTo vs r o = enters_listed r o
rule_listed fs b action.Launch vs r o = enters_listed r o
rule_listed fs b action.Quit vs r o = refl
rule_listed fs b n vs r o = told_listed fs b n vs r o refl

pub emits_listed : EmitsWhatIsListed
emits_listed fs b n vs r o admitted =
    subst (λ (t : Bool). list_all (is_listed (if t then emits n o.fixed.class else [])) (events_put fs b n vs r o) ≡ true) (sym admitted) (rule_listed fs b n vs r o)
