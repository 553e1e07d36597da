-- What an engine by a seal begins with is the service with stubs, unless two groups with one digest are met.
use Rattle.std.specs.Prelude.{◌≡◌, ◌++◌, ◌||◌, ℕ, zero, suc, Bool, true, false, cond, if◌then◌else◌, List, [], ◌∷◌, map, Option, Some, None, refl}
use Rattle.std.specs.List.{find, list_any, position, remove}
use Rattle.std.specs.Option.{option_map, option_map_or, option_or}
use Rattle.std.specs.Str.{bytes_eq}
use Rattle.std.specs.Cmp.Lexicographic.{nat_list_eq_equiv}
use Rattle.std.proofs.Common.{ap, subst, sym, ◌∙◌}
use Rattle.std.proofs.lemmas.List.Folds.{list_any-append}
use Rattle.std.proofs.lemmas.Slice.Eq.{bytes_eq-Decides}
use Rattle.sha2.specs.Sha256.{sha256}
use Rattle.mh_codec.specs.Tags.{profile}
use Rattle.mh_group.specs.declared.written.Written.{Written}
use Rattle.mh_group.specs.Same.{same_group}
use Rattle.mh_group.proofs.SameLemmas.{group_same}
use Rattle.mh_laws.specs.Budget.{Bounds, GoesWell, bounds}
use Rattle.mh_laws.specs.Headline.{begun_with}
use Rattle.mh_model.specs.declared.file.File.{File as Content}
use Rattle.mh_model.specs.declared.input.Move.{Move}
use Rattle.mh_model.specs.Late.{is_late_scene, is_written_so, written_at}
use Rattle.mh_model.specs.Picture.{shown}
use Rattle.mh_model.specs.Service.{Service}
use Rattle.mh_model.specs.Step.{run}
use Rattle.mh_model.proofs.ListLemmas.{all_left, all_right, some_same}
use Rattle.mh_seal.specs.declared.seal.Seal.{Seal}
use Rattle.mh_seal.specs.declared.seal.SealedGroup.{SealedGroup}
use Rattle.mh_seal_laws.specs.Digests.{brings_group, digests, meets_collision, seal_by}
use Rattle.mh_seal_laws.specs.Joined.{IsOfSeal, as_entry, entries}
use Rattle.mh_seal_laws.specs.Seal.{Seal as LawSeal, sealed_run}
use Rattle.mh_seal_laws.specs.Sealed.{Agrees, sealed_budget}
use Rattle.mh_seal_laws.specs.Stubs.{seal_of, stubbed}
use Rattle.mh_seal_laws.specs.Told.{IsSealOf, bounds_in, by_told, told_group}
use Rattle.mh_seal_laws.proofs.DigestLemmas.{digests_agree, one_false, other_false}
use Rattle.mh_seal_laws.proofs.JoinLemmas.{joined}
use Rattle.mh_seal_laws.proofs.ToldLemmas.{profile_is_table, told_digests, told_seal_goes_well}
use Rattle.mh_service.specs.declared.service_error.Why.TheVariants as why
use Rattle.mh_service.specs.Refusals.{File, Refusal, bad_reference, double_name, for_reason, refusal_before, refusal_of}
use Rattle.mh_service.specs.Resolved.{resolved}
use Rattle.mh_service.specs.Sealed.{Entry, as_file, missing}
use Rattle.mh_verify.specs.Free.{Verified, most_cost}
use Rattle.mh_engine.specs.declared.sealed.starting.Unsealed.{Unsealed}
use Rattle.mh_engine.specs.declared.sealed.starting.Unsealed.TheVariants as unsealed
use Rattle.mh_engine.specs.Sealed.{entries_of, file_at, files_behind, first_unsealed, no_service, sealed_refusal, service_of, unsealed_at, unsealed_by}
use Rattle.mh_engine.specs.SealedLaw.{BeginsStubbed, StartedGoesWell, as_post}

-- Nothing was found

first_none : {X : Type 0} (o p : Option X) → option_or o p ≡ None → o ≡ None
first_none None p e = refl
first_none (Some x) p e = absurd cc

then_none : {X : Type 0} (o p : Option X) → option_or o p ≡ None → p ≡ None
then_none None p e = e
then_none (Some x) p e = absurd cc

map_none : {X Y : Type 0} (f : X → Y) (o : Option X) → option_map f o ≡ None → o ≡ None
map_none f None e = refl
map_none f (Some x) e = absurd cc

-- of files that make a service no two have one name
no_double : (start : List ℕ) (fs : List File) → refusal_of start fs ≡ None → double_name [] fs ≡ None
no_double start fs e =
    let before : refusal_before start fs ≡ None = first_none (refusal_before start fs) (for_reason why.BadReference (bad_reference fs)) e in
    let names : for_reason why.DoubleName (double_name [] fs) ≡ None = first_none (for_reason why.DoubleName (double_name [] fs)) _ before in
    map_none (λ (n : List ℕ). (why.DoubleName, n)) (double_name [] fs) names

not_seen : (b : Bool) (n : List ℕ) (o : Option (List ℕ)) → (if b then Some n else o) ≡ None → b ≡ false
not_seen true n o e = absurd cc
not_seen false n o e = refl

none_behind : (b : Bool) (n : List ℕ) (o : Option (List ℕ)) → (if b then Some n else o) ≡ None → o ≡ None
none_behind true n o e = absurd cc
none_behind false n o e = e

-- Names

differs_back : (g h : List ℕ) → bytes_eq g h ≡ false → bytes_eq h g ≡ false
differs_back g h e = by (bytes_eq h g) refl
  where
    by : (b : Bool) → bytes_eq h g ≡ b → b ≡ false
    by true own = sym (subst (λ (x : List ℕ). bytes_eq g x ≡ true) (sym ((bytes_eq-Decides h g).0 own)) (nat_list_eq_equiv.refl g)) ∙ e
    by false own = refl

-- a name that was not seen yet is looked up among the rest
abbrev IsRest : List File → List (List ℕ) → List File → Type 0
IsRest vs seen hs = (g : List ℕ) → list_any (bytes_eq g) seen ≡ false → written_at g vs ≡ written_at g hs

own_file : (vs : List File) (seen : List (List ℕ)) (h : File) (hs : List File) → IsRest vs seen (h ∷ hs) → list_any (bytes_eq h.0) seen ≡ false → written_at h.0 vs ≡ Some h.1
own_file vs seen h hs rest new =
    rest h.0 new ∙ ap (λ (b : Bool). option_map (λ (f : File). f.1) (cond b (Some h) (find (λ (f : File). bytes_eq f.0 h.0) hs))) (nat_list_eq_equiv.refl h.0)

rest_behind : (vs : List File) (seen : List (List ℕ)) (h : File) (hs : List File) → IsRest vs seen (h ∷ hs) → IsRest vs (seen ++ h.0 ∷ []) hs
rest_behind vs seen h hs rest g new =
    let parts : (list_any (bytes_eq g) seen || (bytes_eq g h.0 || false)) ≡ false = sym (list_any-append (bytes_eq g) seen (h.0 ∷ [])) ∙ new in
    let other : bytes_eq h.0 g ≡ false = differs_back g h.0 (one_false (bytes_eq g h.0) false (other_false (list_any (bytes_eq g) seen) (bytes_eq g h.0 || false) parts)) in
    rest g (one_false (list_any (bytes_eq g) seen) (bytes_eq g h.0 || false) parts)
    ∙ ap (λ (b : Bool). option_map (λ (f : File). f.1) (cond b (Some h) (find (λ (f : File). bytes_eq f.0 g) hs))) other

-- What the seal says of the files that are there is what the service itself would say

agrees_first : (k l : LawSeal) (g : List ℕ) (fs : List File) (x : Written) → Agrees k l (map as_post fs) → written_at g fs ≡ Some x → k.fits g x ≡ l.fits g x
agrees_first k l g [] x each e = absurd cc
agrees_first k l g (f ∷ fs) x each e = by (bytes_eq f.0 g) refl each.0.0 (agrees_first k l g fs x each.1) e
  where
    by : (b : Bool) → bytes_eq f.0 g ≡ b → k.fits f.0 f.1 ≡ l.fits f.0 f.1 → (written_at g fs ≡ Some x → k.fits g x ≡ l.fits g x)
        → option_map (λ (y : File). y.1) (cond b (Some f) (find (λ (y : File). bytes_eq y.0 g) fs)) ≡ Some x → k.fits g x ≡ l.fits g x
    by true own says more e =
        subst (λ (y : Written). k.fits g y ≡ l.fits g y) (some_same e) (subst (λ (h : List ℕ). k.fits h f.1 ≡ l.fits h f.1) ((bytes_eq-Decides f.0 g).0 own) says)
    by false own says more e = more e

agrees_less : (k l : LawSeal) (i : ℕ) (fs : List File) → Agrees k l (map as_post fs) → Agrees k l (map as_post (remove fs i))
agrees_less k l zero [] each = tt
agrees_less k l (suc i) [] each = tt
agrees_less k l zero (f ∷ fs) each = each.1
agrees_less k l (suc i) (f ∷ fs) each = (each.0, agrees_less k l i fs each.1)

agrees_behind : (k l : LawSeal) (g : SealedGroup) (fs : List File) → Agrees k l (map as_post fs) → Agrees k l (map as_post (files_behind g fs))
agrees_behind k l g fs each = late g.is_late
  where
    found : (o : Option ℕ) → Agrees k l (map as_post (option_map_or (remove fs) o fs))
    found None = each
    found (Some i) = agrees_less k l i fs each

    late : (b : Bool) → Agrees k l (map as_post (if b then fs else option_map_or (remove fs) (position (λ (f : File). bytes_eq f.0 g.name) fs) fs))
    late true = each
    late false = found (position (λ (f : File). bytes_eq f.0 g.name) fs)

-- Entries

-- the file that is in nobody's way is there, and fits
fitting : (s : Seal) (name : List ℕ) (m : Option Written) → unsealed_by s name m ≡ None → (x : Written) × (m ≡ Some x) × ((by_told s).fits name x ≡ true)
fitting s name None e = absurd cc
fitting s name (Some x) e = (x, refl, by ((by_told s).fits name x) e)
  where
    by : (b : Bool) → (if b then None else Some (unsealed.Differs name)) ≡ None → b ≡ true
    by true e = refl
    by false e = absurd cc

own_entry : (v : Service) (s : Seal) (h : File) (m : Option Written) → written_at h.0 v.files ≡ Some h.1 → ((x : Written) → m ≡ Some x → (by_told s).fits h.0 x ≡ (seal_of v).fits h.0 x)
    → unsealed_by s h.0 m ≡ None → m ≡ Some h.1
own_entry v s h m own agrees none =
    let it = fitting s h.0 m none in
    let same : is_written_so it.0 (written_at h.0 v.files) ≡ true = sym (agrees it.0 it.1) ∙ it.2 in
    it.1 ∙ ap Some (group_same it.0 h.1 (subst (λ (o : Option Written). is_written_so it.0 o ≡ true) own same))

entries_same : (v : Service) (s : Seal) (seen : List (List ℕ)) (hs fs : List File) → Agrees (by_told s) (seal_of v) (map as_post fs) → IsRest v.files seen hs
    → first_unsealed s (map (told_group v.late) hs) fs ≡ None → double_name seen (map as_file (entries_of (map (told_group v.late) hs) fs)) ≡ None
    → entries_of (map (told_group v.late) hs) fs ≡ map (as_entry v.late) hs
entries_same v s seen [] fs each rest here apart = refl
entries_same v s seen (h ∷ hs) fs each rest here apart =
    let g : SealedGroup = told_group v.late h in
    let left : List File = files_behind g fs in
    let names : Option (List ℕ) = double_name (seen ++ h.0 ∷ []) (map as_file (entries_of (map (told_group v.late) hs) left)) in
    let unseen : list_any (bytes_eq h.0) seen ≡ false = not_seen (list_any (bytes_eq h.0) seen) h.0 names apart in
    let more = entries_same v s (seen ++ h.0 ∷ []) hs left (agrees_behind (by_told s) (seal_of v) g fs each) (rest_behind v.files seen h hs rest)
    (then_none (unsealed_at s g (written_at h.0 fs)) (first_unsealed s (map (told_group v.late) hs) left) here)
    (none_behind (list_any (bytes_eq h.0) seen) h.0 names apart) in
    let one = at (is_late_scene h.0 v.late) (own_file v.files seen h hs rest unseen)
    (first_none (unsealed_at s g (written_at h.0 fs)) (first_unsealed s (map (told_group v.late) hs) left) here) in
    λ i. (h.0, one i) ∷ more i
  where
    at : (b : Bool) → written_at h.0 v.files ≡ Some h.1 → (if b then None else unsealed_by s h.0 (written_at h.0 fs)) ≡ None
        → (if b then None else written_at h.0 fs) ≡ (if b then None else Some h.1)
    at true own e = refl
    at false own e = own_entry v s h (written_at h.0 fs) own (λ x is. agrees_first (by_told s) (seal_of v) h.0 fs x each is) e

-- The law

pub begins_stubbed : BeginsStubbed
begins_stubbed v b tags s of able is fs groups none free =
    let told : seal_by profile sha256 (digests profile sha256 v.files) ≡ by_told s =
    ap (seal_by profile sha256) (sym (told_digests v.late v.files) ∙ ap (map (λ (g : SealedGroup). (g.name, g.digest))) (sym is.groups)) in
    let each : Agrees (by_told s) (seal_of v) (map as_post fs) =
    subst (λ (k : LawSeal). Agrees k (seal_of v) (map as_post fs)) told (digests_agree profile sha256 v profile_is_table able (map as_post fs) groups none) in
    let refused : Option Refusal = refusal_of s.start (map as_file (entries_of s.groups fs)) in
    let here : first_unsealed s s.groups fs ≡ None = first_none (first_unsealed s s.groups fs) (option_map no_service refused) free in
    let good : refused ≡ None = map_none no_service refused (then_none (first_unsealed s s.groups fs) (option_map no_service refused) free) in
    let same : entries_of s.groups fs ≡ entries v =
    subst (λ (gs : List SealedGroup). first_unsealed s gs fs ≡ None → double_name [] (map as_file (entries_of gs fs)) ≡ None → entries_of gs fs ≡ entries v) (sym is.groups)
    (entries_same v s [] v.files fs each (λ g new. refl)) here (no_double s.start (map as_file (entries_of s.groups fs)) good) in
    joined v (service_of s fs) of (record {
      groups = ap (λ (es : List Entry). map resolved (map as_file es)) same;
      start = is.start;
      programs = refl;
      files = refl;
      late = ap missing same;
    })

-- from this service it goes well, as the whole one does
abbrev IsWell : Verified → Seal → ℕ → List Content → List Move → Service → Type 0
IsWell a s mjd cs ms u =
    GoesWell (sealed_budget (bounds_in s.bounds) (by_told s) ms s.bounds.start (begun_with u mjd cs)) (sealed_run (by_told s) ms (begun_with u mjd cs))
    × (shown (sealed_run (by_told s) ms (begun_with u mjd cs)) ≡ shown (run ms (begun_with a.service mjd cs)))

pub started_goes_well : StartedGoesWell
started_goes_well a sure of scenes able tags s is fs free mjd cs ms groups none =
    let met : (list_any (meets_collision profile sha256 a.service.files) (map as_post fs) || list_any (meets_collision profile sha256 a.service.files) ms) ≡ false =
    sym (list_any-append (meets_collision profile sha256 a.service.files) (map as_post fs) ms) ∙ none in
    let same : service_of s fs ≡ stubbed a.service =
    begins_stubbed a.service a.bounds tags s of able is fs (all_left brings_group (map as_post fs) ms groups)
    (one_false (list_any (meets_collision profile sha256 a.service.files) (map as_post fs)) (list_any (meets_collision profile sha256 a.service.files) ms) met) free in
    let own : IsSealOf a.service (bounds sure.by.accepted) tags s = subst (λ (b : Bounds). IsSealOf a.service b tags s) (sym sure.by.bounds) is in
    subst (IsWell a s mjd cs ms) (sym same)
    (told_seal_goes_well most_cost a.service sure.by.accepted scenes able tags s own mjd cs ms (all_right brings_group (map as_post fs) ms groups)
    (other_false (list_any (meets_collision profile sha256 a.service.files) (map as_post fs)) (list_any (meets_collision profile sha256 a.service.files) ms) met))
