-- A service that is read from files is that of its files, and what is late are scenes.
use Rattle.std.specs.Prelude.{◌≡◌, ℕ, Bool, true, false, ◌||◌, not, cond, List, [], ◌∷◌, map, Option, Some, None, Result, Ok, Err, refl}
use Rattle.std.specs.List.{find}
use Rattle.std.specs.Str.{bytes_eq}
use Rattle.std.proofs.Common.{ap, subst, sym}
use Rattle.std.proofs.lemmas.Slice.Eq.{bytes_eq-Decides}
use Rattle.mh_group.specs.Table.{is_scene}
use Rattle.mh_codec.specs.Tags.{Tags}
use Rattle.mh_model.specs.Configuration.{is_group_of}
use Rattle.mh_model.specs.Late.{is_late_scene}
use Rattle.mh_model.specs.Service.{Service}
use Rattle.mh_service.specs.Refusals.{File, Refusal as ServiceRefusal}
use Rattle.mh_service.specs.Resolved.{resolved}
use Rattle.mh_told.specs.declared.unplayable.Unplayable.{Unplayable}
use Rattle.mh_told.specs.Reading.{◌>>=◌, Source, each_once, late_lines, names_no_scene, read_files, refusal_for, service_of, service_read, service_tagged, table_of, unless_no_scene, unless_refused, with_late, with_names}
use Rattle.mh_told.proofs.LateLemmas.{all_scenes, once_scenes}
use Rattle.mh_sealing.specs.Sealing.{IsWhole}

-- where nothing is found that fails a test, a name among them passes it
passes : (p : List ℕ → Bool) (names : List (List ℕ)) (g : List ℕ) → find (λ n. not (p n)) names ≡ None → is_late_scene g names ≡ true → p g ≡ true
passes p [] g none h = absurd cc
passes p (n ∷ ns) g none h = by (p n) refl none (bytes_eq g n) refl h (passes p ns g)
  where
    here : (c : Bool) → bytes_eq g n ≡ c → p n ≡ true → find (λ m. not (p m)) ns ≡ None → (c || is_late_scene g ns) ≡ true
        → (find (λ m. not (p m)) ns ≡ None → is_late_scene g ns ≡ true → p g ≡ true) → p g ≡ true
    here true same is none h more = subst (λ (m : List ℕ). p m ≡ true) (sym ((bytes_eq-Decides g n).0 same)) is
    here false same is none h more = more none h

    by : (b : Bool) → p n ≡ b → cond (not b) (Some n) (find (λ m. not (p m)) ns) ≡ None → (c : Bool) → bytes_eq g n ≡ c → (c || is_late_scene g ns) ≡ true
        → (find (λ m. not (p m)) ns ≡ None → is_late_scene g ns ≡ true → p g ≡ true) → p g ≡ true
    by true is none c same h more = here c same is none h more
    by false is none c same h more = absurd cc

made : (o : Option ServiceRefusal) (x s : Service) → IsWhole x → unless_refused o x ≡ Ok s → IsWhole s
made None x s whole e =
    let same : x ≡ s = cc in
    subst IsWhole same whole
made (Some r) x s whole e = cc

-- the service of files
whole_files : (start : List ℕ) (r : Result (List File) Unplayable) (s : Service) → (r >>= service_of start) ≡ Ok s → IsWhole s
unfolding service_of
whole_files start (Err x) s e = cc
whole_files start (Ok groups) s e =
    made (refusal_for start groups) (record { groups = map resolved groups; start = start; programs = []; files = groups; late = [] }) s
    (record { groups = refl; programs = refl; scenes = λ g h. absurd cc }) e

marked : (lines : List (List ℕ)) (o : Option (List ℕ)) (x s : Service) → IsWhole x → find (names_no_scene x) lines ≡ o → unless_no_scene o (record x { late = each_once lines }) ≡ Ok s → IsWhole s
marked lines None x s whole none e =
    let same : record x { late = each_once lines } ≡ s = cc in
    let given : unless_no_scene (find (names_no_scene x) lines) (each_once lines) ≡ Ok (each_once lines) = ap (λ (o : Option (List ℕ)). unless_no_scene o (each_once lines)) none in
    let scenes = all_scenes x (each_once lines) (once_scenes x lines (each_once lines) given) in
    subst IsWhole same (record { groups = whole.groups; programs = whole.programs; scenes = λ g h. passes (is_group_of is_scene x) (each_once lines) g scenes h })
marked lines (Some line) x s whole none e = cc

-- with its late scenes
whole_late : (late : Option (List ℕ)) (x s : Service) → IsWhole x → with_late late x ≡ Ok s → IsWhole s
unfolding with_names
whole_late None x s whole e =
    let same : x ≡ s = cc in
    subst IsWhole same whole
whole_late (Some bytes) x s whole e = marked (late_lines bytes) (find (names_no_scene x) (late_lines bytes)) x s whole refl e

whole_read : (tags : Tags) (start : List ℕ) (late : Option (List ℕ)) (files : List Source) (s : Service) → service_read tags start late files ≡ Ok s → IsWhole s
unfolding service_read
whole_read tags start late files s e = by (read_files tags [] files >>= service_of start) refl e
  where
    by : (r : Result Service Unplayable) → (read_files tags [] files >>= service_of start) ≡ r → (r >>= with_late late) ≡ Ok s → IsWhole s
    by (Err x) is h = cc
    by (Ok v) is h = whole_late late v s (whole_files start (read_files tags [] files) v is) h

pub whole_service : (tags : Option (List ℕ)) (start : List ℕ) (late : Option (List ℕ)) (files : List Source) (s : Service) → service_tagged tags start late files ≡ Ok s → IsWhole s
unfolding service_tagged
whole_service tags start late files s e = by (table_of tags) e
  where
    by : (t : Result Tags Unplayable) → (t >>= (λ (ts : Tags). service_read ts start late files)) ≡ Ok s → IsWhole s
    by (Err why) h = cc
    by (Ok ts) h = whole_read ts start late files s h
