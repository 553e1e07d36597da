-- Timers and what waits, of what is present.
use Rattle.std.specs.Prelude.{◌≡◌, ℕ, ◌+◌, Bool, true, false, if◌then◌else◌, cond, List, [], ◌∷◌, filter, refl, ℤ, pos, negsuc, map, not, nat_lt}
use Rattle.std.specs.List.{list_all}
use Rattle.std.specs.Cmp.Derive.{both_true}
use Rattle.std.specs.Ordering.{is_lt}
use Rattle.std.proofs.Common.{◌∙◌, sym}
use Rattle.std.proofs.lemmas.List.Folds.{list_all-map}
use Rattle.std.proofs.lemmas.Slice.Eq.{bytes_eq-Decides}
use Rattle.std.proofs.lemmas.Bool.Decides.{Decides-eqb}
use Rattle.mh_base.specs.declared.value.Value.{Value}
use Rattle.mh_base.specs.declared.value.Value.TheVariants as value
use Rattle.mh_model.specs.declared.file.Wait.{Wait}
use Rattle.mh_model.specs.declared.object.Fixed.{Fixed}
use Rattle.mh_model.specs.declared.object.Object.{Object}
use Rattle.mh_model.specs.Service.{parts, is_there}
use Rattle.mh_model.specs.Reference.{same_ref, group_ref}
use Rattle.mh_model.specs.Step.{is_streaming, stream_event, is_waiting, content_event}
use Rattle.mh_laws.specs.Safe.{has_origin, has_group}
use Rattle.mh_model.specs.declared.time.Moments.{Moments}
use Rattle.mh_model.specs.declared.time.Timer.{Timer}
use Rattle.mh_model.specs.Time.{is_timer, cancelled, timed, timed_from, entered_at, set_timers, is_due, by_due, placed, in_order, due, timer_event}
use Rattle.mh_model.specs.declared.input.Waiting.TheVariants as waiting
use Rattle.mh_model.proofs.ServiceLemmas.{is_there_left, is_there_right}
use Rattle.mh_model.proofs.ListLemmas.{and_left, and_right, all_joined, all_follow}
use Rattle.mh_laws.proofs.StateLemmas.{there}

-- a part of a list
pub all_kept : {X : Type 0} (p q t : X → Bool) → ((x : X) → p x ≡ true → q x ≡ true → t x ≡ true) → (xs : List X) → list_all q xs ≡ true → list_all t (filter p xs) ≡ true
all_kept p q t follows [] h = refl
all_kept {X} p q t follows (x ∷ xs) h = by (p x) refl (all_kept p q t follows xs (and_right (q x) (list_all q xs) h))
  where
    by : (b : Bool) → p x ≡ b → list_all t (filter p xs) ≡ true → list_all t (cond b (x ∷ filter p xs) (filter p xs)) ≡ true
    by true is rest = both_true (follows x is (and_left (q x) (list_all q xs) h)) rest
    by false is rest = rest

pub all_filtered : {X : Type 0} (p q : X → Bool) (xs : List X) → list_all q xs ≡ true → list_all q (filter p xs) ≡ true
all_filtered p q xs h = all_kept p q q (λ x is good. good) xs h

-- Setting a timer for a group that is present, or cancelling it.

timed_safe : (ps : List Fixed) (g : List ℕ) (id : ℤ) (moment : ℕ) (ts : List Timer) → is_there (group_ref g) ps ≡ true → list_all (has_group ps) ts ≡ true → list_all (has_group ps) (timed g id moment ts) ≡ true
timed_safe ps g id moment ts there h =
    all_joined (has_group ps) (cancelled g id ts) (record { group = g; id = id; due = moment } ∷ []) (all_filtered (λ t. not (is_timer g id t)) (has_group ps) ts h) (both_true there refl)

timed_from_safe : (ps : List Fixed) (from : ℕ) (d : ℤ) (g : List ℕ) (id : ℤ) (now : ℕ) (ts : List Timer) → is_there (group_ref g) ps ≡ true → list_all (has_group ps) ts ≡ true → list_all (has_group ps) (timed_from from d g id now ts) ≡ true
timed_from_safe ps from (pos n) g id now ts there h = by (nat_lt (from + n) now)
  where
    by : (b : Bool) → list_all (has_group ps) (if b then cancelled g id ts else timed g id (from + n) ts) ≡ true
    by true = all_filtered (λ t. not (is_timer g id t)) (has_group ps) ts h
    by false = timed_safe ps g id (from + n) ts there h
timed_from_safe ps from (negsuc n) g id now ts there h = all_filtered (λ t. not (is_timer g id t)) (has_group ps) ts h

pub set_timers_safe : (ps : List Fixed) (vs : List Value) (app g : List ℕ) (m : Moments) (ts : List Timer) → is_there (group_ref g) ps ≡ true → list_all (has_group ps) ts ≡ true → list_all (has_group ps) (set_timers vs app g m ts) ≡ true
set_timers_safe ps (value.Int id ∷ []) app g m ts there h = all_filtered (λ t. not (is_timer g id t)) (has_group ps) ts h
set_timers_safe ps (value.Int id ∷ value.Int n ∷ []) app g m ts there h = timed_from_safe ps m.present n g id m.present ts there h
set_timers_safe ps (value.Int id ∷ value.Int n ∷ value.Bool absolute ∷ []) app g m ts there h =
    timed_from_safe ps (if absolute then entered_at app g m else m.present) n g id m.present ts there h
set_timers_safe ps _ app g m ts there h = h

-- The events of timers that are due come from groups that are present.

placed_safe : (ps : List Fixed) (app : List ℕ) (t : Timer) (ts : List Timer) → has_group ps t ≡ true → list_all (has_group ps) ts ≡ true → list_all (has_group ps) (placed app t ts) ≡ true
placed_safe ps app t [] good h = both_true good refl
placed_safe ps app t (x ∷ ts) good h =
    by (is_lt (by_due app t x)) (placed_safe ps app t ts good (and_right (has_group ps x) (list_all (has_group ps) ts) h))
  where
    by : (b : Bool) → list_all (has_group ps) (placed app t ts) ≡ true → list_all (has_group ps) (if b then t ∷ x ∷ ts else x ∷ placed app t ts) ≡ true
    by true rest = both_true good h
    by false rest = both_true (and_left (has_group ps x) (list_all (has_group ps) ts) h) rest

in_order_safe : (ps : List Fixed) (app : List ℕ) (ts : List Timer) → list_all (has_group ps) ts ≡ true → list_all (has_group ps) (in_order app ts) ≡ true
in_order_safe ps app [] h = refl
in_order_safe ps app (t ∷ ts) h =
    placed_safe ps app t (in_order app ts) (and_left (has_group ps t) (list_all (has_group ps) ts) h) (in_order_safe ps app ts (and_right (has_group ps t) (list_all (has_group ps) ts) h))

pub fired_safe : (ps : List Fixed) (now : ℕ) (app : List ℕ) (ts : List Timer) → list_all (has_group ps) ts ≡ true → list_all (has_origin ps) (map (λ t. waiting.Event (timer_event t)) (due now app ts)) ≡ true
fired_safe ps now app ts h =
    list_all-map (has_origin ps) (λ t. waiting.Event (timer_event t)) (due now app ts)
    ∙ in_order_safe ps app (filter (is_due now) ts) (all_filtered (is_due now) (has_group ps) ts h)

-- So do those of streams, and of what waited for a file: they are objects that are present.

all_there : (ps : List Fixed) → list_all (λ p. is_there p.key ps) ps ≡ true
all_there [] = refl
all_there (p ∷ ps) =
    both_true (is_there_left p.key (p ∷ []) ps itself)
    (all_follow (λ q. is_there q.key ps) (λ q. is_there q.key (p ∷ ps)) (λ q h. is_there_right q.key (p ∷ []) ps h) ps (all_there ps))
  where
    same : same_ref p.key p.key ≡ true
    same = both_true ((bytes_eq-Decides p.key.group p.key.group).1 refl) ((Decides-eqb p.key.number p.key.number).1 refl)

    itself : is_there p.key (p ∷ []) ≡ true
    itself = rw same refl

pub streams_safe : (n : ℤ) (os : List Object) → list_all (has_origin (parts os)) (map (λ o. waiting.Event (stream_event n o)) (filter is_streaming os)) ≡ true
streams_safe n os =
    list_all-map (has_origin (parts os)) (λ o. waiting.Event (stream_event n o)) (filter is_streaming os)
    ∙ all_filtered is_streaming (λ o. is_there o.fixed.key (parts os)) os (sym (list_all-map (λ p. is_there p.key (parts os)) (λ o. o.fixed) os) ∙ all_there (parts os))

pub contents_safe : (name : List ℕ) (ws : List Wait) (os : List Object) → list_all (has_origin (parts os)) (map (λ o. waiting.Event (content_event o)) (filter (is_waiting name ws) os)) ≡ true
contents_safe name ws os =
    list_all-map (has_origin (parts os)) (λ o. waiting.Event (content_event o)) (filter (is_waiting name ws) os)
    ∙ all_filtered (is_waiting name ws) (λ o. is_there o.fixed.key (parts os)) os (sym (list_all-map (λ p. is_there p.key (parts os)) (λ o. o.fixed) os) ∙ all_there (parts os))
