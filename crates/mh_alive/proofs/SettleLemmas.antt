-- Rounds: in the end each timer is there that something sets which may be put to work.
use Rattle.std.specs.Prelude.{◌≡◌, ◌≤◌, ◌+◌, ◌==◌, ℕ, zero, suc, Bool, true, false, not, if◌then◌else◌, cond, List, [], ◌∷◌, length, map, filter, refl}
use Rattle.std.specs.List.{list_any}
use Rattle.std.proofs.lemmas.Bool.Decides.{Decides-eqb}
use Rattle.std.proofs.Common.{arith, ap, sym, ◌∙◌}
use Rattle.indexmap.specs.IndexSet.{insert_all}
use Rattle.mh_base.specs.declared.obj_ref.ObjRef.{ObjRef}
use Rattle.mh_model.specs.Service.{Service}
use Rattle.mh_model.specs.Step.{is_empty}
use Rattle.mh_laws.specs.Each.{Among}
use Rattle.mh_laws.proofs.EachLemmas.{among_filtered, among_mapped}
use Rattle.mh_alive.specs.declared.settings.Setting.{Setting}
use Rattle.mh_alive.specs.declared.tellings.SetTimer.{SetTimer}
use Rattle.mh_alive.specs.Hearing.{Ears, hearers, may_set, settle, with_set}
use Rattle.mh_alive.specs.Tellings.{same_timer}
use Rattle.mh_alive.specs.Timers.{timers_with}
use Rattle.mh_alive.proofs.ComingLemmas.{timer_itself}
use Rattle.mh_alive.proofs.SetLemmas.{all_stay, put_there}

-- ROUNDS OF THE LOOP

abbrev now_of : Service → Ears → List Setting → List Setting
now_of v x ss = filter (may_set (hearers v x)) ss

abbrev later_of : Service → Ears → List Setting → List Setting
later_of v x ss = filter (λ s. not (may_set (hearers v x) s)) ss

no_zero : (n : ℕ) → (suc n == 0) ≡ false
no_zero n = by (suc n == 0) refl
  where
    by : (b : Bool) → (suc n == 0) ≡ b → b ≡ false
    by true is = let same = (Decides-eqb (suc n) 0).0 is in absurd (omega (arith, same))
    by false is = refl

none_mapped : (f : Setting → SetTimer) (xs : List Setting) (ys : List SetTimer) → ys ≡ map f xs → (length ys == 0) ≡ is_empty xs
none_mapped f [] ys e = ap (λ (zs : List SetTimer). length zs == 0) e
none_mapped f (x ∷ xs) ys e = ap (λ (zs : List SetTimer). length zs == 0) e ∙ no_zero (length (map f xs))

-- the last one, in which nothing is put in
pub round_done : (n m : ℕ) (v : Service) (x : Ears) (ss : List Setting) (ks : List ObjRef) (ts : List SetTimer) → n ≡ suc m → ks ≡ hearers v x → ts ≡ map (λ s. s.timer) (filter (may_set ks) ss) → (length ts == 0) ≡ true → x ≡ settle n v x ss
round_done n m v x ss ks ts more hear are none =
    sym (ap (λ (k : ℕ). settle k v x ss) more
    ∙ ap (λ (b : Bool). if b then x else settle m v (with_set x (now_of v x ss)) (later_of v x ss))
    (sym (none_mapped (λ s. s.timer) (now_of v x ss) ts (are ∙ ap (λ (rs : List ObjRef). map (λ s. s.timer) (filter (may_set rs) ss)) hear)) ∙ none))

-- or as many as there are settings have been made
pub rounds_over : (n : ℕ) (v : Service) (x : Ears) (ss : List Setting) → n ≡ 0 → x ≡ settle n v x ss
rounds_over n v x ss none = sym (ap (λ (k : ℕ). settle k v x ss) none)

-- and each before it
pub round_more : (n m : ℕ) (v : Service) (x y : Ears) (ss rest : List Setting) (ks : List ObjRef) (ts : List SetTimer) → n ≡ suc m → ks ≡ hearers v x → ts ≡ map (λ s. s.timer) (filter (may_set ks) ss) → rest ≡ filter (λ s. not (may_set ks s)) ss
    → (length ts == 0) ≡ false → y ≡ record x { timers = timers_with (insert_all same_timer x.timers.set ts) } → settle m v y rest ≡ settle n v x ss
round_more n m v x y ss rest ks ts more hear are left some made =
    (λ i. settle m v ((made ∙ ap (λ (us : List SetTimer). record x { timers = timers_with (insert_all same_timer x.timers.set us) }) timers) i) (others i))
    ∙ sym (ap (λ (k : ℕ). settle k v x ss) more
    ∙ ap (λ (b : Bool). if b then x else settle m v (with_set x (now_of v x ss)) (later_of v x ss)) (sym (none_mapped (λ s. s.timer) (now_of v x ss) ts timers) ∙ some))
  where
    timers : ts ≡ map (λ s. s.timer) (now_of v x ss)
    timers = are ∙ ap (λ (rs : List ObjRef). map (λ s. s.timer) (filter (may_set rs) ss)) hear

    others : rest ≡ later_of v x ss
    others = left ∙ ap (λ (rs : List ObjRef). filter (λ s. not (may_set rs s)) ss) hear

-- CLOSED

-- what is sent and the registers stay as they are
pub settle_keeps : (n : ℕ) (v : Service) (x : Ears) (ss : List Setting) → ((settle n v x ss).sent ≡ x.sent) × ((settle n v x ss).registers ≡ x.registers)
settle_keeps zero v x ss = (refl, refl)
settle_keeps (suc n) v x ss = by (is_empty (now_of v x ss)) (settle_keeps n v (with_set x (now_of v x ss)) (later_of v x ss))
  where
    next : Ears
    next = settle n v (with_set x (now_of v x ss)) (later_of v x ss)

    by : (b : Bool) → (next.sent ≡ x.sent) × (next.registers ≡ x.registers) → ((if b then x else next).sent ≡ x.sent) × ((if b then x else next).registers ≡ x.registers)
    by true h = (refl, refl)
    by false h = h

-- the groups are those of the timers
pub settle_groups : (n : ℕ) (v : Service) (x : Ears) (ss : List Setting) → x.timers ≡ timers_with x.timers.set → (settle n v x ss).timers ≡ timers_with (settle n v x ss).timers.set
settle_groups zero v x ss h = h
settle_groups (suc n) v x ss h = by (is_empty (now_of v x ss)) (settle_groups n v (with_set x (now_of v x ss)) (later_of v x ss) refl)
  where
    next : Ears
    next = settle n v (with_set x (now_of v x ss)) (later_of v x ss)

    by : (b : Bool) → next.timers ≡ timers_with next.timers.set → (if b then x else next).timers ≡ timers_with (if b then x else next).timers.set
    by true g = h
    by false g = g

-- a timer that is there stays
pub stays : (n : ℕ) (v : Service) (x : Ears) (ss : List Setting) (t : SetTimer) → list_any (same_timer t) x.timers.set ≡ true → list_any (same_timer t) (settle n v x ss).timers.set ≡ true
stays zero v x ss t h = h
stays (suc n) v x ss t h = by (is_empty (now_of v x ss)) (stays n v (with_set x (now_of v x ss)) (later_of v x ss) t (all_stay same_timer t x.timers.set (map (λ s. s.timer) (now_of v x ss)) h))
  where
    next : Ears
    next = settle n v (with_set x (now_of v x ss)) (later_of v x ss)

    by : (b : Bool) → list_any (same_timer t) next.timers.set ≡ true → list_any (same_timer t) (if b then x else next).timers.set ≡ true
    by true g = h
    by false g = g

-- fewer are left where some are gone
fewer : (p : Setting → Bool) (ss : List Setting) (n : ℕ) → length ss ≤ suc n → is_empty (filter p ss) ≡ false → length (filter (λ s. not (p s)) ss) ≤ n
fewer p ss n h some = below _ _ _ (both ss) (one (filter p ss) some) h
  where
    one : (xs : List Setting) → is_empty xs ≡ false → 1 ≤ length xs
    one [] e = absurd cc
    one (x ∷ xs) e = omega arith

    both : (xs : List Setting) → length (filter p xs) + length (filter (λ s. not (p s)) xs) ≡ length xs
    both [] = refl
    both (x ∷ xs) = by (p x) (both xs)
      where
        by : (b : Bool) → length (filter p xs) + length (filter (λ s. not (p s)) xs) ≡ length xs
            → length (cond b (x ∷ filter p xs) (filter p xs)) + length (cond (not b) (x ∷ filter (λ s. not (p s)) xs) (filter (λ s. not (p s)) xs)) ≡ suc (length xs)
        by true e = omega (arith, e)
        by false e = omega (arith, e)

    below : (a b c : ℕ) → a + b ≡ c → 1 ≤ a → c ≤ suc n → b ≤ n
    below a b c e l g = omega (arith, e, l, g)

none_among : {X : Type 0} (xs : List X) (x : X) → is_empty xs ≡ true → Among xs x → ⊥
none_among [] x e h = absurd cc
none_among (y ∷ xs) x e h = absurd cc

pub settle_closed : (n : ℕ) (v : Service) (x : Ears) (ss : List Setting) → length ss ≤ n → (s : Setting) → Among ss s → may_set (hearers v (settle n v x ss)) s ≡ true
    → list_any (same_timer s.timer) (settle n v x ss).timers.set ≡ true
settle_closed zero v x [] h s there may = absurd cc
settle_closed zero v x (y ∷ ss) h s there may = absurd (omega (arith, h))
settle_closed (suc n) v x ss h s there may =
    by (is_empty (now_of v x ss)) refl (λ some later m. settle_closed n v (with_set x (now_of v x ss)) (later_of v x ss) (fewer (may_set (hearers v x)) ss n h some) s later m) may
  where
    next : Ears
    next = settle n v (with_set x (now_of v x ss)) (later_of v x ss)

    -- one that may be done now is put in, another is left for later
    further : (b : Bool) → may_set (hearers v x) s ≡ b → (Among (later_of v x ss) s → may_set (hearers v next) s ≡ true → list_any (same_timer s.timer) next.timers.set ≡ true)
        → may_set (hearers v next) s ≡ true → list_any (same_timer s.timer) next.timers.set ≡ true
    further true is rest m =
        stays n v (with_set x (now_of v x ss)) (later_of v x ss) s.timer
        (put_there same_timer timer_itself x.timers.set (map (λ y. y.timer) (now_of v x ss)) s.timer (among_mapped (λ (y : Setting). y.timer) (now_of v x ss) s (among_filtered (may_set (hearers v x)) ss s is there)))
    further false is rest m = rest (among_filtered (λ y. not (may_set (hearers v x) y)) ss s (ap not is) there) m

    by : (b : Bool) → is_empty (now_of v x ss) ≡ b → (is_empty (now_of v x ss) ≡ false → Among (later_of v x ss) s → may_set (hearers v next) s ≡ true → list_any (same_timer s.timer) next.timers.set ≡ true)
        → may_set (hearers v (if b then x else next)) s ≡ true → list_any (same_timer s.timer) (if b then x else next).timers.set ≡ true
    by true none rest m = absurd (none_among (now_of v x ss) s none (among_filtered (may_set (hearers v x)) ss s m there))
    by false some rest m = further (may_set (hearers v x) s) refl (rest some) m
