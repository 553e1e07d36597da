-- A service that is read from files has no programs but the built-in ones.
use Rattle.std.specs.Prelude.{◌≡◌, ℕ, List, [], map, Option, Some, None, Result, Ok, Err, IfOk, OnOk, refl}
use Rattle.std.specs.List.{find}
use Rattle.std.proofs.Common.{ap, sym, subst, ◌∙◌}
use Rattle.std.proofs.lemmas.Result.{IfOk-weaker}
use Rattle.mh_laws.specs.Budget.{IsAccepted}
use Rattle.mh_model.specs.declared.program.Signature.{Signature}
use Rattle.mh_model.specs.Service.{Service}
use Rattle.mh_service.specs.Refusals.{File, Refusal as ServiceRefusal}
use Rattle.mh_service.specs.Resolved.{resolved}
use Rattle.mh_flow.specs.Equipment.{equipped}
use Rattle.mh_verify.specs.Free.{IsVerified, Verified, most_cost}
use Rattle.mh_report.specs.declared.material.Material.{Material}
use Rattle.mh_script.specs.declared.script.Command.{Command}
use Rattle.mh_told.specs.declared.unplayable.Unplayable.{Unplayable}
use Rattle.mh_told.specs.Reading.{◌>>=◌, Source, each_once, late_lines, names_no_scene, read_files, refusal_for, service_of, service_read, service_tagged, table_of, unless_no_scene, unless_refused, with_late, with_names}
use Rattle.mh_codec.specs.Tags.{Tags}
use Rattle.mh_report.specs.declared.options.Options.{Options}
use Rattle.mh_script.specs.Contents.{contents}
use Rattle.mh_report.specs.Reading.{chosen_service, commands_of, late_of, readied, readied_with, service_with, tags_of}

made : (o : Option ServiceRefusal) (x s : Service) → x.programs ≡ [] → unless_refused o x ≡ Ok s → s.programs ≡ []
made None x s none e =
    let same : x ≡ s = cc in
    subst (λ (y : Service). y.programs ≡ []) same none
made (Some r) x s none e = cc

-- the service of files
plain_files : (start : List ℕ) (r : Result (List File) Unplayable) (s : Service) → (r >>= service_of start) ≡ Ok s → s.programs ≡ []
unfolding service_of
plain_files start (Err x) s e = cc
plain_files start (Ok groups) s e =
    made (refusal_for start groups) (record { groups = map resolved groups; start = start; programs = []; files = groups; late = [] }) s refl e

marked : (o : Option (List ℕ)) (x s : Service) → x.programs ≡ [] → unless_no_scene o x ≡ Ok s → s.programs ≡ []
marked None x s none e =
    let same : x ≡ s = cc in
    subst (λ (y : Service). y.programs ≡ []) same none
marked (Some line) x s none e = cc

-- with its late scenes
plain_late : (late : Option (List ℕ)) (x s : Service) → x.programs ≡ [] → with_late late x ≡ Ok s → s.programs ≡ []
unfolding with_names
plain_late None x s none e =
    let same : x ≡ s = cc in
    subst (λ (y : Service). y.programs ≡ []) same none
plain_late (Some bytes) x s none e = marked (find (names_no_scene x) (late_lines bytes)) (record x { late = each_once (late_lines bytes) }) s none e

plain_read : (tags : Tags) (start : List ℕ) (late : Option (List ℕ)) (files : List Source) (s : Service) → service_read tags start late files ≡ Ok s → s.programs ≡ []
unfolding service_read
plain_read tags start late files s e = by (read_files tags [] files >>= service_of start) refl e
  where
    by : (r : Result Service Unplayable) → (read_files tags [] files >>= service_of start) ≡ r → (r >>= with_late late) ≡ Ok s → s.programs ≡ []
    by (Err x) is h = cc
    by (Ok v) is h = plain_late late v s (plain_files start (read_files tags [] files) v is) h

-- with a table of tags, if the file of it gives one
plain_under : {A : Type 0} (P : A → Type 0) (t : Result Tags Unplayable) (f : Tags → Result A Unplayable) (x : A)
    → ((tags : Tags) → f tags ≡ Ok x → P x) → (t >>= f) ≡ Ok x → P x
plain_under {A} P (Err why) f x each e = cc
plain_under {A} P (Ok tags) f x each e = each tags e

pub plain_service : (options : Options) (files : List Source) (s : Service) → chosen_service options files ≡ Ok s → s.programs ≡ []
unfolding service_tagged
plain_service options files s e =
    plain_under (λ (v : Service). v.programs ≡ []) (table_of (tags_of options)) (service_with options files) s
    (λ tags is. plain_read tags options.start.items (late_of options) files s is) e

abbrev material : Tags → Service → List Source → List Command → Material
material tags s files cs = record { service = s; files = contents tags s files; commands = cs }

plain_ready : (options : Options) (files : List Source) (script : List ℕ) (m : Material) (tags : Tags) → readied_with options files script tags ≡ Ok m → m.service.programs ≡ []
unfolding readied_with
plain_ready options files script m tags e = by (service_with options files tags) refl e
  where
    given : (s : Service) → service_with options files tags ≡ Ok s → (c : Result (List Command) Unplayable)
        → (c >>= (λ (cs : List Command). Ok (material tags s files cs))) ≡ Ok m → m.service.programs ≡ []
    given s is (Err x) h = cc
    given s is (Ok cs) h =
        let same : material tags s files cs ≡ m = cc in
        subst (λ (x : Material). x.service.programs ≡ []) same (plain_read tags options.start.items (late_of options) files s is)

    by : (r : Result Service Unplayable) → service_with options files tags ≡ r
        → (r >>= (λ (s : Service). commands_of tags s.files script >>= (λ (cs : List Command). Ok (material tags s files cs)))) ≡ Ok m → m.service.programs ≡ []
    by (Err x) is h = cc
    by (Ok s) is h = given s is (commands_of tags s.files script) h

pub plain_material : (options : Options) (files : List Source) (script : List ℕ) (m : Material) → readied options files script ≡ Ok m → m.service.programs ≡ []
unfolding readied
plain_material options files script m e =
    plain_under (λ (x : Material). x.service.programs ≡ []) (table_of (tags_of options)) (readied_with options files script) m
    (λ tags is. plain_ready options files script m tags is) e

-- such a service is what is verified
pub unequipped : (s : Service) → s.programs ≡ [] → equipped s [] ≡ s
unequipped s none = ap (λ (ps : List Signature). record s { programs = ps }) (sym none)

pub same_service : {E : Type 0} (s : Service) (r : Result Verified E) → s.programs ≡ [] → IfOk r (λ a. a.service ≡ equipped s []) → IfOk r (λ a. a.service ≡ s)
same_service {E} s r none same = IfOk-weaker r _ _ (λ a e. e ∙ unequipped s none) same

pub accepted_service : {E : Type 0} (s : Service) (r : Result Verified E) → s.programs ≡ [] → IfOk r (λ a. a.service ≡ equipped s []) → IfOk r (λ a. IsVerified a) → OnOk r (IsAccepted most_cost s)
accepted_service {E} s (Ok a) none same so = subst (λ (v : Service). IsAccepted most_cost v) (same ∙ unequipped s none) so.by.accepted
accepted_service {E} s (Err e) none same so = tt
