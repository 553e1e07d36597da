-- When two keys are one, and two turns.
use Rattle.std.specs.Prelude.{◌≡◌, ℕ, Bool, true, false, ◌&&◌, List, Option, Some, refl}
use Rattle.std.specs.declared.cmp.Ordering.{Ordering}
use Rattle.std.specs.declared.cmp.Ordering.TheVariants.{Less, Equal, Greater}
use Rattle.std.specs.Cmp.{IsTotalOrder}
use Rattle.std.specs.Cmp.Lexicographic.{bytes_decides}
use Rattle.std.specs.Ordering.{int_eq, is_eq, nat_cmp}
use Rattle.std.specs.Option.{option_map_or}
use Rattle.std.specs.Str.{bytes_eq}
use Rattle.std.proofs.Common.{ap, sym, subst}
use Rattle.std.proofs.lemmas.Bool.Decides.{Decides-int_eq}
use Rattle.std.proofs.lemmas.Cmp.{nat_cmp_total, on_total, then_total, tied_itself}
use Rattle.std.proofs.lemmas.Map.Lookups.{exact_unsigned}
use Rattle.mh_model.specs.declared.time.Timer.{Timer}
use Rattle.mh_model.specs.Time.{is_timer}
use Rattle.mh_events.specs.declared.timer_key.TimerKey.{TimerKey}
use Rattle.mh_events.specs.declared.turn.Turn.{Turn}
use Rattle.mh_events.specs.Turns.{has_turn, key_of, same_timer_key, turn_cmp}
use Rattle.mh_events.proofs.AgeLemmas.{both_equal}

abbrev pub Find : Type 0
Find = TimerKey → Option Turn

both : (a b : Bool) → (a && b) ≡ true → (a ≡ true) × (b ≡ true)
both true b is = (refl, is)
both false b is = absurd cc

joined : (a b : Bool) → a ≡ true → b ≡ true → (a && b) ≡ true
joined true b one two = two
joined false b one two = absurd cc

pub same_as : (a b : Bool) → (a ≡ true → b ≡ true) → (b ≡ true → a ≡ true) → a ≡ b
same_as true b to back = sym (to refl)
same_as false true to back = back refl
same_as false false to back = refl

pub is_false : (b : Bool) → (b ≡ true → ⊥) → b ≡ false
is_false true not_so = absurd (not_so refl)
is_false false not_so = refl

pub within : (u v : Turn) → Some u ≡ Some v → u ≡ v
within u v is = ap (λ (m : Option Turn). option_map_or (λ (w : Turn). w) m u) is

pub key_is : (a b : TimerKey) → same_timer_key a b ≡ true → a ≡ b
key_is a b is =
    let parts = both (int_eq a.id b.id) (bytes_eq a.group b.group) is in
    let one = (Decides-int_eq a.id b.id).0 parts.0 in
    let two = (bytes_decides a.group b.group).0 parts.1 in
    λ i. record { id = one i; group = two i }

pub key_itself : (a : TimerKey) → same_timer_key a a ≡ true
key_itself a = joined (int_eq a.id a.id) (bytes_eq a.group a.group) ((Decides-int_eq a.id a.id).1 refl) ((bytes_decides a.group a.group).1 refl)

pub timer_is : (k : TimerKey) (t : Timer) → is_timer k.group k.id t ≡ true → k ≡ key_of t
timer_is k t is =
    let parts = both (bytes_eq t.group k.group) (int_eq t.id k.id) is in
    let one = (Decides-int_eq t.id k.id).0 parts.1 in
    let two = (bytes_decides t.group k.group).0 parts.0 in
    sym (λ i. record { id = one i; group = two i })

timer_itself : (t : Timer) → is_timer t.group t.id t ≡ true
timer_itself t = joined (bytes_eq t.group t.group) (int_eq t.id t.id) ((bytes_decides t.group t.group).1 refl) ((Decides-int_eq t.id t.id).1 refl)

pub timer_here : (k : TimerKey) (t : Timer) → k ≡ key_of t → is_timer k.group k.id t ≡ true
timer_here k t is = subst (λ (q : TimerKey). is_timer q.group q.id t ≡ true) (sym is) (timer_itself t)

pub turn_total : IsTotalOrder turn_cmp
turn_total = then_total (on_total (λ u. u.due) nat_cmp_total) (on_total (λ u. u.number) nat_cmp_total)

equal : (o : Ordering) → is_eq o ≡ true → o ≡ Equal
equal Less is = absurd cc
equal Equal is = refl
equal Greater is = absurd cc

pub turn_is : (u : Turn) (e : Turn × Timer) → has_turn u e ≡ true → u ≡ e.0
turn_is u e is =
    let parts = both_equal (nat_cmp u.due e.0.due) (nat_cmp u.number e.0.number) (equal (turn_cmp u e.0) is) in
    let one = exact_unsigned u.due e.0.due parts.0 in
    let two = exact_unsigned u.number e.0.number parts.1 in
    λ i. record { due = one i; number = two i }

pub turn_here : (u : Turn) (e : Turn × Timer) → u ≡ e.0 → has_turn u e ≡ true
turn_here u e is = subst (λ (v : Turn). is_eq (turn_cmp v e.0) ≡ true) (sym is) (ap is_eq (tied_itself turn_total e.0))

pub group_alike : (app : List ℕ) (k q : TimerKey) → same_timer_key k q ≡ true → bytes_eq q.group app ≡ bytes_eq k.group app
group_alike app k q same = ap (λ (a : TimerKey). bytes_eq a.group app) (sym (key_is k q same))
