-- An exchange keeps a state safe: what stays is of what stays present.
use Rattle.std.specs.Prelude.{◌≡◌, ℕ, Bool, true, false, ◌||◌, if◌then◌else◌, List, [], ◌++◌, Option, Some, None, refl}
use Rattle.std.specs.List.{Contains}
use Rattle.std.specs.Option.{option_map_or, option_or}
use Rattle.std.specs.Str.{bytes_eq}
use Rattle.std.proofs.Common.{inl, inr, ap, ◌∙◌, sym, subst, append-nil}
use Rattle.std.proofs.lemmas.List.Folds.{find-append}
use Rattle.std.proofs.lemmas.Slice.Eq.{bytes_eq-Decides}
use Rattle.mh_base.specs.declared.obj_ref.ObjRef.{ObjRef}
use Rattle.mh_group.specs.Table.{is_scene, is_application}
use Rattle.mh_model.specs.declared.config.Config.{Config}
use Rattle.mh_model.specs.declared.input.Waiting.TheVariants as waiting
use Rattle.mh_model.specs.declared.input.Waiting.{Waiting}
use Rattle.mh_model.specs.declared.item.Item.TheVariants as item
use Rattle.mh_model.specs.declared.item.Item.{Item}
use Rattle.mh_model.specs.declared.object.Fixed.{Fixed}
use Rattle.mh_model.specs.declared.time.Timer.{Timer}
use Rattle.mh_model.specs.Configuration.{is_group_of, is_service, scene_parts, present}
use Rattle.mh_model.specs.Reference.{same_ref, group_ref}
use Rattle.mh_model.specs.Rules.{stays, rule, scene_exchanged, application_exchanged, is_input}
use Rattle.mh_model.specs.Service.{fresh, Service, part_at, group_parts, is_in, is_there}
use Rattle.mh_model.specs.State.{State}
use Rattle.mh_laws.specs.Flow.{IsHeld, Flow, IsOpen}
use Rattle.mh_laws.specs.Safe.{config_of, behind, has_origin, has_group, IsSafeItem, IsSafeWork, IsSafeBy}
use Rattle.mh_model.proofs.ListLemmas.{found}
use Rattle.mh_model.proofs.PartLemmas.{parts-fresh}
use Rattle.mh_model.proofs.ServiceLemmas.{same_ref-same, is_there_left, group_parts_in}
use Rattle.mh_laws.proofs.EachLemmas.{each_left, each_right}
use Rattle.mh_laws.proofs.HeldLemmas.{held_fresh, held_passed}
use Rattle.mh_laws.proofs.TimeLemmas.{all_kept}

-- an object of the application is among its parts
among_own : (v : Service) (application : List ℕ) (scene : Option (List ℕ)) (r : ObjRef) → is_service v ≡ true → bytes_eq r.group application ≡ true → is_there r (group_parts v application ++ scene_parts v scene) ≡ true → is_there r (group_parts v application) ≡ true
among_own v application None r good own h = subst (λ (ps : List Fixed). is_there r ps ≡ true) (append-nil (group_parts v application)) h
among_own v application (Some g) r good own h = by (part_at r (group_parts v application)) (part_at r (group_parts v g)) refl refl (sym (ap (λ (m : Option Fixed). option_map_or (λ (p : Fixed). true) m false) (find-append (λ (p : Fixed). same_ref r p.key) (group_parts v application) (group_parts v g))) ∙ h)
  where
    same : r.group ≡ application
    same = (bytes_eq-Decides r.group application).0 own

    by : (m o : Option Fixed) → part_at r (group_parts v application) ≡ m → part_at r (group_parts v g) ≡ o → option_map_or (λ (p : Fixed). true) (option_or m o) false ≡ true → option_map_or (λ (p : Fixed). true) m false ≡ true
    by (Some p) o e f h = refl
    by None None e f h = absurd cc
    by None (Some p) e f h =
        let hit = found (λ (x : Fixed). same_ref r x.key) (is_in g) (group_parts v g) p (group_parts_in v g good) f in
        let key : r ≡ p.key = same_ref-same r p.key hit.0 in
        let named : p.key.group ≡ g = (bytes_eq-Decides p.key.group g).0 hit.1 in
        let one : application ≡ g = sym same ∙ ap (λ (q : ObjRef). q.group) key ∙ named in
        let never : None ≡ Some p = sym e ∙ ap (λ (x : List ℕ). part_at r (group_parts v x)) one ∙ f in
        absurd cc

origin_stays : (v : Service) (application : List ℕ) (scene : Option (List ℕ)) (g : List ℕ) → is_service v ≡ true → (w : Waiting) → stays application w ≡ true → has_origin (group_parts v application ++ scene_parts v scene) w ≡ true → has_origin (group_parts v application ++ group_parts v g) w ≡ true
origin_stays v application scene g good (waiting.Input i) own h = refl
origin_stays v application scene g good (waiting.Event e) own h =
    is_there_left e.source (group_parts v application) (group_parts v g) (among_own v application scene e.source good own h)

timer_stays : (v : Service) (application : List ℕ) (scene : Option (List ℕ)) (g : List ℕ) → is_service v ≡ true → (t : Timer) → bytes_eq t.group application ≡ true → has_group (group_parts v application ++ scene_parts v scene) t ≡ true → has_group (group_parts v application ++ group_parts v g) t ≡ true
timer_stays v application scene g good t own h =
    is_there_left (group_ref t.group) (group_parts v application) (group_parts v g) (among_own v application scene (group_ref t.group) good own h)

input_stays : (before after : List Fixed) (w : Waiting) → is_input w ≡ true → has_origin before w ≡ true → has_origin after w ≡ true
input_stays before after (waiting.Input i) is h = refl
input_stays before after (waiting.Event e) is h = absurd cc

pub safe_exchange : {fw : Flow} (s : State) (k : IsSafeBy fw s) (g : List ℕ) (rest : List Item) (n : ℕ) → IsSafeItem s.service fw (config_of s) (item.Exchange g) → IsSafeWork s.service fw (behind s.service (config_of s) (item.Exchange g)) rest → IsSafeBy fw (rule (item.Exchange g) (record s { work = rest; taken = n }))
safe_exchange {fw} s k g rest n leads_there behind_it = by (is_group_of is_application s.service g) refl leads_there.0 leads_there.1 behind_it
  where
    before : List Fixed
    before = present s.service (config_of s)

    to_application : Config
    to_application = record { app = g; scene = None }

    to_scene : Config
    to_scene = record { app = s.application; scene = Some g }

    by : (b : Bool) → is_group_of is_application s.service g ≡ b → (b || is_group_of is_scene s.service g) ≡ true → IsOpen s.service fw (config_of s) (if b then to_application else to_scene) → IsSafeWork s.service fw (if b then to_application else to_scene) rest → IsSafeBy fw (if b then application_exchanged g (record s { work = rest; taken = n }) else scene_exchanged g (record s { work = rest; taken = n }))
    by true is some opened safe = record {
      accepted = k.accepted;
      application = is;
      scene = refl;
      among = opened.0;
      own = parts-fresh (group_parts s.service g);
      others = refl;
      own_held = held_fresh (fw.sets to_application) (group_parts s.service g) (each_left (λ p. IsHeld (fw.sets to_application) (fresh p)) (group_parts s.service g) [] (k.accepted.solution.original to_application opened.0));
      others_held = tt;
      work = (inl refl, safe);
      transition = tt;
      timers = refl;
      queue = all_kept is_input (has_origin before) (has_origin (present s.service to_application)) (input_stays before (present s.service to_application)) s.queue k.queue;
      faultless = k.faultless;
    }
    by false is some opened safe = record {
      accepted = k.accepted;
      application = k.application;
      scene = some;
      among = opened.0;
      own = k.own;
      others = parts-fresh (group_parts s.service g);
      own_held = held_passed (fw.sets (config_of s)) (fw.sets to_scene) s.objects.application (λ p among q h. opened.1 p (subst (λ (ps : List Fixed). Contains ps p) k.own among) q h) k.own_held;
      others_held = held_fresh (fw.sets to_scene) (group_parts s.service g) (each_right (λ p. IsHeld (fw.sets to_scene) (fresh p)) (group_parts s.service s.application) (group_parts s.service g) (k.accepted.solution.original to_scene opened.0));
      work = (inr refl, safe);
      transition = tt;
      timers = all_kept (λ t. bytes_eq t.group s.application) (has_group before) (has_group (present s.service to_scene)) (timer_stays s.service s.application s.scene g k.accepted.service) s.timers k.timers;
      queue = all_kept (stays s.application) (has_origin before) (has_origin (present s.service to_scene)) (origin_stays s.service s.application s.scene g k.accepted.service) s.queue k.queue;
      faultless = k.faultless;
    }
