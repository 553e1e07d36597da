-- What is gathered configuration by configuration is what is gathered of all.
use Rattle.std.specs.Prelude.{◌≡◌, Bool, true, false, cond, List, [], ◌∷◌, ◌++◌, ℕ, filter, fold, map, refl}
use Rattle.std.specs.List.{flat_map}
use Rattle.std.proofs.Common.{ap, sym, subst, ◌∙◌}
use Rattle.std.proofs.lemmas.List.{map-append}
use Rattle.std.proofs.lemmas.List.Concat.{flat_map-append}
use Rattle.indexmap.specs.IndexSet.{insert_all}
use Rattle.mh_base.specs.declared.obj_ref.ObjRef.{ObjRef}
use Rattle.mh_model.specs.declared.act.Act.{Act}
use Rattle.mh_model.specs.declared.config.Config.{Config}
use Rattle.mh_model.specs.declared.object.Fixed.{Fixed}
use Rattle.mh_model.specs.Configuration.{present}
use Rattle.mh_model.specs.Effects.{actions}
use Rattle.mh_model.specs.Reference.{same_key}
use Rattle.mh_model.specs.Service.{Service}
use Rattle.mh_laws.specs.Active.{active_actions, is_active}
use Rattle.mh_laws.specs.Flow.{Flow, Sets}
use Rattle.mh_flow.specs.Sites.{Site, sites, sites_of}
use Rattle.mh_flow.specs.Solved.{Solved, flow_in, held_by}
use Rattle.mh_flow.proofs.SiteLemmas.{through_active, through_sites}
use Rattle.mh_alive.specs.Alive.{Alive, IsAliveOf, alive_with}
use Rattle.mh_alive.specs.declared.settings.Setting.{Setting}
use Rattle.mh_alive.specs.declared.tellings.SetTimer.{SetTimer}
use Rattle.mh_alive.specs.Puts.{all_puts, puts, web_with}
use Rattle.mh_alive.specs.Hearing.{all_timers, setting, settings, settings_among, settings_by, settings_in, settings_of}
use Rattle.mh_alive.specs.Registers.{registers_by, registers_in, same_register, written_registers}
use Rattle.mh_alive.specs.Gathering.{Gathered, gathered, nothing, with_config, with_parts, with_present, with_sites}
use Rattle.mh_alive.specs.Runners.{run_by, run_with, runners_in}
use Rattle.mh_alive.specs.Sendings.{same_sending, sent_by, sent_in}
use Rattle.mh_alive.specs.Tellings.{same_telling, same_timer, set_by, set_in, set_timers, told, told_by, told_in, told_itself}
use Rattle.mh_alive.specs.There.{sets_there}
use Rattle.mh_alive.proofs.SetLemmas.{put_both}

-- parts, further parts and what is done there
three : {K : Type 0} (same : K → K → Bool) (f : Fixed → List K) (g : Act → List K) (ks : List K) (ps qs all : List Fixed) (xs : List Site) → ps ++ qs ≡ all → xs ≡ sites_of all
    → insert_all same (insert_all same (insert_all same ks (flat_map f ps)) (flat_map f qs)) (flat_map (λ x. g x.act) xs) ≡ insert_all same ks (flat_map f all ++ flat_map g (active_actions all))
three {K} same f g ks ps qs all xs whole are =
    put_both same (insert_all same ks (flat_map f ps)) (flat_map f qs) (flat_map (λ (x : Site). g x.act) xs)
    ∙ put_both same ks (flat_map f ps) (flat_map f qs ++ flat_map (λ (x : Site). g x.act) xs)
    ∙ ap (λ (t : List K). insert_all same ks (flat_map f ps ++ (flat_map f qs ++ t))) (ap (λ (ys : List Site). flat_map (λ (x : Site). g x.act) ys) are ∙ through_active g all)
    ∙ ap (insert_all same ks) (sym (assoc (flat_map f ps) (flat_map f qs) (flat_map g (active_actions all))))
    ∙ ap (λ (t : List K). insert_all same ks (t ++ flat_map g (active_actions all))) (sym (flat_map-append f ps qs) ∙ ap (flat_map f) whole)
  where
    assoc : (xs ys zs : List K) → (xs ++ ys) ++ zs ≡ xs ++ (ys ++ zs)
    assoc [] ys zs = refl
    assoc (x ∷ xs) ys zs = ap (λ (t : List K). x ∷ t) (assoc xs ys zs)

acts_of : {K : Type 0} (same : K → K → Bool) (g : Act → List K) (ks : List K) (all : List Fixed) (xs : List Site) → xs ≡ sites_of all
    → insert_all same ks (flat_map (λ x. g x.act) xs) ≡ insert_all same ks (flat_map g (active_actions all))
acts_of same g ks all xs are = ap (insert_all same ks) (ap (λ (ys : List Site). flat_map (λ (x : Site). g x.act) ys) are ∙ through_active g all)

pub part_settings : (h : Sets) (p : Fixed) (xs : List Site) → xs ≡ sites p → flat_map (λ (x : Site). settings_by h p x.act) xs ≡ settings_of h p
part_settings h p xs are = ap (flat_map (λ (x : Site). settings_by h p x.act)) are ∙ through_sites (settings_by h p) p

-- one list of settings behind the other

appended : (xs ys zs : List Setting) → (xs ++ ys) ++ zs ≡ xs ++ (ys ++ zs)
appended [] ys zs = refl
appended (x ∷ xs) ys zs = ap (λ (t : List Setting). x ∷ t) (appended xs ys zs)

among_append : (h : Sets) (all xs ys : List Fixed) → settings_among h all (xs ++ ys) ≡ settings_among h all xs ++ settings_among h all ys
among_append h all [] ys = refl
among_append h all (x ∷ xs) ys = by (is_active all x) (among_append h all xs ys)
  where
    by : (b : Bool) → settings_among h all (xs ++ ys) ≡ settings_among h all xs ++ settings_among h all ys
        → flat_map (settings_of h) (cond b (x ∷ filter (is_active all) (xs ++ ys)) (filter (is_active all) (xs ++ ys))) ≡ flat_map (settings_of h) (cond b (x ∷ filter (is_active all) xs) (filter (is_active all) xs)) ++ settings_among h all ys
    by true rest = ap (λ (t : List Setting). settings_of h x ++ t) rest ∙ sym (appended (settings_of h x) (settings_among h all xs) (settings_among h all ys))
    by false rest = rest

settings_joined : (h : Sets) (all : List Fixed) (ss : List Setting) (ps qs : List Fixed) → ps ++ qs ≡ all → (ss ++ settings_among h all ps) ++ settings_among h all qs ≡ ss ++ settings_among h all all
settings_joined h all ss ps qs whole =
    appended ss (settings_among h all ps) (settings_among h all qs)
    ∙ ap (λ (t : List Setting). ss ++ t) (sym (among_append h all ps qs) ∙ ap (λ (x : List Fixed). settings_among h all x) whole)

pub there_gathered : (h : Sets) (a b c d : Gathered) (ps qs all : List Fixed) (xs : List Site) → ps ++ qs ≡ all → xs ≡ sites_of all
    → b ≡ with_parts h all a ps → c ≡ with_parts h all b qs → d ≡ with_sites h c xs → d ≡ with_present h a all
unfolding with_present
there_gathered h a b c d ps qs all xs whole are first second third =
    third ∙ ap (λ (g : Gathered). with_sites h g xs) (second ∙ ap (λ (g : Gathered). with_parts h all g qs) first)
    ∙ (λ i. record {
      runners = three same_key (run_with h) (run_by h) a.runners ps qs all xs whole are i;
      sent = acts_of same_sending sent_by a.sent all xs are i;
      told = three same_telling told_itself (told_by h) a.told ps qs all xs whole are i;
      settings = settings_joined h all a.settings ps qs whole i;
      registers = three same_register written_registers (registers_by h) a.registers ps qs all xs whole are i;
    })

-- where this is held
pub config_gathered : (v : Service) (f : Solved) (c : Config) (ps : List Fixed) (lists : List (List ObjRef)) (a b : Gathered)
    → ps ≡ present v c → held_by (present v c) lists ≡ (flow_in v f).sets c
    → b ≡ with_present (sets_there (record { present = ps; lists = lists })) a ps → b ≡ with_config v (flow_in v f) a c
unfolding sets_there with_config
config_gathered v f c ps lists a b there holds made =
    made ∙ (λ i. with_present (held_by (there i) lists) a (there i)) ∙ ap (λ (h : Sets). with_present h a (present v c)) holds

-- configuration by configuration
abbrev over : Service → Flow → Gathered → List Config → Gathered
over v w g cs = record {
  runners = insert_all same_key g.runners (flat_map (runners_in v w) cs);
  sent = insert_all same_sending g.sent (flat_map (sent_in v) cs);
  told = insert_all same_telling g.told (flat_map (told_in v w) cs);
  settings = g.settings ++ flat_map (settings_in v w) cs;
  registers = insert_all same_register g.registers (flat_map (registers_in v w) cs);
}

one_more : (v : Service) (w : Flow) (g : Gathered) (c : Config) (cs : List Config) → over v w (with_config v w g c) cs ≡ over v w g (c ∷ cs)
unfolding with_config with_present
one_more v w g c cs = λ i. record {
  runners = put_both same_key g.runners (runners_in v w c) (flat_map (runners_in v w) cs) i;
  sent = put_both same_sending g.sent (sent_in v c) (flat_map (sent_in v) cs) i;
  told = put_both same_telling g.told (told_in v w c) (flat_map (told_in v w) cs) i;
  settings = appended g.settings (settings_in v w c) (flat_map (settings_in v w) cs) i;
  registers = put_both same_register g.registers (registers_in v w c) (flat_map (registers_in v w) cs) i;
}

all_over : (v : Service) (w : Flow) (g : Gathered) (cs : List Config) → fold (with_config v w) g cs ≡ over v w g cs
all_over v w g [] = λ i. record { runners = g.runners; sent = g.sent; told = g.told; settings = sym (none g.settings) i; registers = g.registers }
  where
    none : (xs : List Setting) → xs ++ [] ≡ xs
    none [] = refl
    none (x ∷ xs) = ap (λ (t : List Setting). x ∷ t) (none xs)
all_over v w g (c ∷ cs) = all_over v w (with_config v w g c) cs ∙ one_more v w g c cs

pub all_gathered : (v : Service) (w : Flow) (a b : Gathered) (cs : List Config) → a ≡ nothing → cs ≡ w.configs → b ≡ fold (with_config v w) a cs → b ≡ gathered v w
all_gathered v w a b cs none all made =
    made ∙ (λ i. fold (with_config v w) (none i) (all i)) ∙ all_over v w nothing w.configs

-- the timers of settings are those that are set

joined_map : {X Y Z : Type 0} (f : Y → Z) (g : X → List Y) (k : X → List Z) → ((x : X) → map f (g x) ≡ k x) → (xs : List X) → map f (flat_map g xs) ≡ flat_map k xs
joined_map f g k each [] = refl
joined_map {X} {Y} {Z} f g k each (x ∷ xs) = map-append f (g x) (flat_map g xs) ∙ (λ i. each x i ++ joined_map f g k each xs i)

nested : {X Y Z : Type 0} (f : Y → List Z) (g : X → List Y) (xs : List X) → flat_map (λ x. flat_map f (g x)) xs ≡ flat_map f (flat_map g xs)
nested f g [] = refl
nested {X} {Y} {Z} f g (x ∷ xs) = ap (λ (t : List Z). flat_map f (g x) ++ t) (nested f g xs) ∙ sym (flat_map-append f (g x) (flat_map g xs))

own_timers : (p : Fixed) (ts : List SetTimer) → map (λ (s : Setting). s.timer) (map (setting p) ts) ≡ ts
own_timers p [] = refl
own_timers p (t ∷ ts) = ap (λ (us : List SetTimer). t ∷ us) (own_timers p ts)

timers_in : (v : Service) (w : Flow) (c : Config) → map (λ (s : Setting). s.timer) (settings_in v w c) ≡ set_in v w c
timers_in v w c =
    joined_map (λ (s : Setting). s.timer) (settings_of h) (λ p. flat_map (set_by h) (actions p))
    (λ p. joined_map (λ (s : Setting). s.timer) (settings_by h p) (set_by h) (λ a. own_timers p (set_by h a)) (actions p)) (filter (is_active (present v c)) (present v c))
    ∙ nested (set_by h) actions (filter (is_active (present v c)) (present v c))
  where
    h : Sets
    h = w.sets c

timers_set : (v : Service) (w : Flow) → map (λ (s : Setting). s.timer) (settings v w) ≡ set_timers v w
timers_set v w = joined_map (λ (s : Setting). s.timer) (settings_in v w) (set_in v w) (timers_in v w) w.configs

-- and what is made of it is what may be alive
pub alive_is : (v : Service) (w : Flow) (g : Gathered) (a : Alive) → g ≡ gathered v w → a ≡ alive_with v g → IsAliveOf v w a
alive_is v w g a all made = subst (IsAliveOf v w) (sym (made ∙ ap (alive_with v) all)) (record { runners = refl; sent = refl; puts = puts_are; hearers = refl })
  where
    puts_are : insert_all same_key [] (all_puts v (web_with (insert_all same_telling [] (told v w)) (all_timers (settings v w)))) ≡ insert_all same_key [] (puts v w)
    puts_are = ap (λ (ts : List SetTimer). insert_all same_key [] (all_puts v (web_with (insert_all same_telling [] (told v w)) (insert_all same_timer [] ts)))) (timers_set v w)

pub groups_joined : {K : Type 0} (f : List Fixed → List K) (gs : List (List ℕ × List Fixed)) → flat_map f (map (λ g. g.1) gs) ≡ flat_map (λ g. f g.1) gs
groups_joined f [] = refl
groups_joined {K} f (g ∷ gs) = ap (λ (t : List K). f g.1 ++ t) (groups_joined f gs)
