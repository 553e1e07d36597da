-- What may be said is closed, and what is not of it never comes.
use Rattle.std.specs.Prelude.{◌≡◌, Bool, true, false, not, if◌then◌else◌, List, [], ◌∷◌, Option, Some, ℤ, refl}
use Rattle.std.specs.Cmp.Derive.{both_true}
use Rattle.std.specs.List.{list_any}
use Rattle.std.specs.Option.{option_map_or}
use Rattle.std.proofs.Common.{ap, sym, subst, inl}
use Rattle.std.proofs.lemmas.Bool.Decides.{Decides-eqb, Decides-int_eq}
use Rattle.mh_base.specs.declared.event.EventType.{EventType}
use Rattle.mh_base.specs.declared.event.EventType.TheVariants as event
use Rattle.mh_base.specs.declared.value.Value.{Value}
use Rattle.mh_base.specs.declared.value.Value.TheVariants as value
use Rattle.mh_base.specs.Event.{number_of}
use Rattle.mh_group.specs.declared.action_name.ActionName.{ActionName}
use Rattle.mh_group.specs.declared.action_name.ActionName.TheVariants as action
use Rattle.mh_model.specs.declared.act.Act.{Act}
use Rattle.mh_model.specs.declared.act.Argument.{Argument}
use Rattle.mh_model.specs.declared.act.Argument.TheVariants as argument
use Rattle.mh_model.specs.declared.event.Event.{Event}
use Rattle.mh_model.specs.declared.input.Waiting.TheVariants as waiting
use Rattle.mh_model.specs.declared.item.Item.TheVariants as item
use Rattle.mh_model.specs.Configuration.{present}
use Rattle.mh_model.specs.Effects.{is_sending}
use Rattle.mh_model.specs.Saying.{event_numbered}
use Rattle.mh_model.specs.Service.{Service}
use Rattle.mh_laws.specs.Acceptable.{IsAcceptableBy}
use Rattle.mh_laws.specs.Active.{active_actions}
use Rattle.mh_laws.specs.Costs.{data_sent}
use Rattle.mh_laws.specs.Each.{Among}
use Rattle.mh_laws.specs.Flow.{Flow}
use Rattle.mh_model.specs.declared.key.Key.{Key}
use Rattle.mh_model.specs.declared.key.Key.TheVariants as key
use Rattle.mh_never.specs.Running.{any_act}
use Rattle.mh_never.specs.Saying.{IsSaidClosed, IsSaidIn, IsWaitIn, Sayings, is_usual}
use Rattle.mh_laws.specs.Ways.{IsKnown, Told, Sure, Unsure}
use Rattle.mh_laws.proofs.EachLemmas.{among_joined, each_among}
use Rattle.mh_laws.proofs.NodeLemmas.{config_among}
use Rattle.mh_never.proofs.SaidLemmas.{never_says as law}
use Rattle.mh_model.specs.Key.{key_number}
use Rattle.mh_model.specs.Step.{engine_event, key_event}
use Rattle.mh_alive.specs.declared.sendings.Sending.{Sending}
use Rattle.mh_alive.specs.Alive.{Alive, InEachRun, IsAliveOf, IsUnsaid, never_says}
use Rattle.mh_alive.specs.Sendings.{is_counted, is_key_number, is_sent, may_say, same_sending, sending_of, sending_with, sent, sent_by, sent_in}
use Rattle.mh_alive.proofs.SetLemmas.{or_first, or_second, put_there}

pub sending_itself : (x : Sending) → same_sending x x ≡ true
sending_itself x = both_true (both_true ((Decides-eqb x.kind x.kind).1 refl) ((Decides-eqb x.sort x.sort).1 refl)) ((Decides-int_eq x.number x.number).1 refl)

abbrev pub says_in : Alive → Sayings
says_in a e = may_say a.sent e.kind e.data

is_sending_event : (n : ActionName) → n ≡ action.SendEvent → is_sending n ≡ true
is_sending_event n e = ap is_sending e

pub sent_here : (x : Act) (y : Argument) (n : ℤ) (more : List Argument) (kind : EventType) → x.name ≡ action.SendEvent
    → x.arguments ≡ y ∷ argument.Direct (value.Int n) ∷ more → event_numbered n ≡ Some kind → Among (sent_by x) (sending_of (number_of kind) (data_sent more))
sent_here x y n more kind sends are numbered =
    subst (λ (b : Bool). Among (if b then sending_with x.arguments else []) one) (sym (is_sending_event x.name sends))
    (subst (λ (xs : List Argument). Among (sending_with xs) one) (sym are)
    (subst (λ (m : Option EventType). Among (option_map_or (λ k. sending_of (number_of k) (data_sent more) ∷ []) m []) one) (sym numbered) (inl refl)))
  where
    one : Sending
    one = sending_of (number_of kind) (data_sent more)

pub key_known : (x : Key) → is_key_number (key_number x) ≡ true
key_known key.Up = refl
key_known _ = refl

usual_counted : (kind : EventType) (d : Option Value) → is_usual kind d ≡ true → is_counted kind d ≡ true
usual_counted event.TimerFired d h = absurd cc
usual_counted event.UserInput d h = absurd cc
usual_counted _ d h = h

pub said_closed : (v : Service) (w : Flow) (a : Alive) → IsAliveOf v w a → IsSaidClosed v w any_act (says_in a)
said_closed v w a is = record {
  usual = λ r kind d h. or_first (is_counted kind d) (is_sent a.sent kind d) (usual_counted kind d h);
  timers = λ c among x there may t set. refl;
  keys = λ c among p there scene x passed. or_first (is_key_number (key_number x)) (is_sent a.sent event.UserInput (Some (value.Int (key_number x)))) (key_known x);
  registers = λ c among x there may sets n given r may_be y passed. or_first (is_key_number (key_number y)) (is_sent a.sent event.UserInput (Some (value.Int (key_number y)))) (key_known y);
  sent = λ c among x there may sends y n more are kind numbered r d known.
      or_second (is_counted kind d) (is_sent a.sent kind d)
      (by kind d (data_sent more) known
      (subst (λ (ss : List Sending). list_any (same_sending (sending_of (number_of kind) (data_sent more))) ss ≡ true) (sym is.sent)
      (put_there same_sending sending_itself [] (sent v w) (sending_of (number_of kind) (data_sent more))
      (among_joined (sent_in v) w.configs c _ (config_among w.configs c among)
      (among_joined sent_by (active_actions (present v c)) x _ there (sent_here x y n more kind sends are numbered))))));
}
  where
    by : (kind : EventType) (d : Option Value) (t : Told) → IsKnown t d → list_any (same_sending (sending_of (number_of kind) t)) a.sent ≡ true → is_sent a.sent kind d ≡ true
    by kind d Unsure known h = or_first (list_any (same_sending (sending_of (number_of kind) Unsure)) a.sent) (list_any (same_sending (sending_of (number_of kind) (Sure d))) a.sent) h
    by kind d (Sure m) known h =
        or_second (list_any (same_sending (sending_of (number_of kind) Unsure)) a.sent) (list_any (same_sending (sending_of (number_of kind) (Sure d))) a.sent)
        (subst (λ (x : Option Value). list_any (same_sending (sending_of (number_of kind) (Sure x))) a.sent ≡ true) (sym known) h)

pub unsaid : (v : Service) (w : Flow) (a : Alive) (kind : EventType) (d : Option Value) → IsAliveOf v w a → IsAcceptableBy v w → never_says a kind d ≡ true → InEachRun v (IsUnsaid kind d)
unsaid v w a kind d is accepted never mjd fs ss ms s run =
    let only = law v w accepted (says_in a) (said_closed v w a is) mjd fs ss ms s run in record {
      work = λ e there k f. no e k f (each_among (IsSaidIn (says_in a)) s.work (item.Emit e) only.work there);
      queue = λ e there k f. no e k f (each_among (IsWaitIn (says_in a)) s.queue (waiting.Event e) only.queue there);
      keys = λ x r k f. no (key_event x r) k f (or_first (is_key_number (key_number x)) (is_sent a.sent event.UserInput (Some (value.Int (key_number x)))) (key_known x));
      engine = λ n g k f. no (engine_event n g) k f refl;
    }
  where
    untrue : (b : Bool) → not b ≡ true → b ≡ true → false ≡ true
    untrue true h e = h
    untrue false h e = e

    no : (e : Event) → e.kind ≡ kind → e.data ≡ d → may_say a.sent e.kind e.data ≡ true → false ≡ true
    no e k f says = untrue (may_say a.sent kind d) never (subst (λ (t : EventType). may_say a.sent t d ≡ true) k (subst (λ (m : Option Value). may_say a.sent e.kind m ≡ true) f says))
