-- The stubs of the laws are those of `mh_service`, and so are the groups.
use Rattle.std.specs.Prelude.{◌≡◌, ◌∷◌, Bool, List, None, Some, [], cond, false, filter, if◌then◌else◌, map, true, unwrap_or, ℕ}
use Rattle.std.specs.List.{find}
use Rattle.std.specs.Option.{option_map}
use Rattle.std.specs.Str.{bytes_eq}
use Rattle.std.proofs.Common.{ap, refl, sym, ◌∙◌}
use Rattle.std.proofs.lemmas.Slice.Eq.{bytes_eq-Decides}
use Rattle.mh_group.specs.declared.written.Written.{Written}
use Rattle.mh_model.specs.declared.object.Fixed.{Fixed}
use Rattle.mh_model.specs.Late.{is_late_scene, written_at}
use Rattle.mh_model.specs.Service.{Service, group_parts}
use Rattle.mh_model.proofs.ListLemmas.{some_same}
use Rattle.mh_service.specs.Refusals.{File}
use Rattle.mh_service.specs.Resolved.{parts_of, resolved}
use Rattle.mh_service.specs.Sealed.{as_file, missing}
use Rattle.mh_seal_laws.specs.Joined.{OfSealIsStubbed, as_entry}
use Rattle.mh_seal_laws.specs.Stubs.{stubbed_group}

abbrev Parts : Type 0
Parts = List ℕ × List Fixed

-- the parts of a group are what its file says
parts_in : (g : List ℕ) (fs : List File) (x : Written) → written_at g fs ≡ Some x → unwrap_or (option_map (λ e. e.1) (find (λ e. bytes_eq e.0 g) (map resolved fs))) [] ≡ parts_of g x
parts_in g [] x e = absurd cc
parts_in g (f ∷ fs) x e = by (bytes_eq f.0 g) refl (parts_in g fs x) e
  where
    by : (b : Bool) → bytes_eq f.0 g ≡ b → (written_at g fs ≡ Some x → unwrap_or (option_map (λ (e : Parts). e.1) (find (λ (e : Parts). bytes_eq e.0 g) (map resolved fs))) [] ≡ parts_of g x) → option_map (λ (y : File). y.1) (cond b (Some f) (find (λ (y : File). bytes_eq y.0 g) fs)) ≡ Some x → unwrap_or (option_map (λ (e : Parts). e.1) (cond b (Some (resolved f)) (find (λ (e : Parts). bytes_eq e.0 g) (map resolved fs)))) [] ≡ parts_of g x
    by true own more e = ap (λ (n : List ℕ). parts_of n f.1) ((bytes_eq-Decides f.0 g).0 own) ∙ ap (parts_of g) (some_same e)
    by false own more e = more e

pub parts_resolved : (v : Service) (g : List ℕ) (x : Written) → v.groups ≡ map resolved v.files → written_at g v.files ≡ Some x → group_parts v g ≡ parts_of g x
parts_resolved v g x of e = ap (λ (es : List Parts). unwrap_or (option_map (λ (y : Parts). y.1) (find (λ (y : Parts). bytes_eq y.0 g) es)) []) of ∙ parts_in g v.files x e

-- a stub stands for each late scene
stubs_same : (late : List (List ℕ)) (fs : List File) → map resolved (map as_file (map (as_entry late) fs)) ≡ map (stubbed_group late) (map resolved fs)
stubs_same late [] = refl
stubs_same late (f ∷ fs) = by (is_late_scene f.0 late) (stubs_same late fs)
  where
    rest : List Parts
    rest = map resolved (map as_file (map (as_entry late) fs))

    by : (b : Bool) → rest ≡ map (stubbed_group late) (map resolved fs) → resolved (as_file (f.0, if b then None else Some f.1)) ∷ rest ≡ (if b then (f.0, parts_of f.0 (as_file (f.0, None)).1) else resolved f) ∷ map (stubbed_group late) (map resolved fs)
    by true more = ap (λ (es : List Parts). resolved (as_file (f.0, None)) ∷ es) more
    by false more = ap (λ (es : List Parts). resolved f ∷ es) more

-- and those are the ones that are not there
missing_same : (late : List (List ℕ)) (fs : List File) → missing (map (as_entry late) fs) ≡ map (λ f. f.0) (filter (λ f. is_late_scene f.0 late) fs)
missing_same late [] = refl
missing_same late (f ∷ fs) = by (is_late_scene f.0 late) (missing_same late fs)
  where
    by : (b : Bool) → missing (map (as_entry late) fs) ≡ map (λ (x : File). x.0) (filter (λ (x : File). is_late_scene x.0 late) fs) → missing ((f.0, if b then None else Some f.1) ∷ map (as_entry late) fs) ≡ map (λ (x : File). x.0) (if b then f ∷ filter (λ (x : File). is_late_scene x.0 late) fs else filter (λ (x : File). is_late_scene x.0 late) fs)
    by true more = ap (λ (ns : List (List ℕ)). f.0 ∷ ns) more
    by false more = more

pub joined : OfSealIsStubbed
joined v u of is = λ i. record { groups = groups i; start = is.start i; programs = programs i; files = is.files i; late = late i }
  where
    groups : u.groups ≡ map (stubbed_group v.late) v.groups
    groups = is.groups ∙ stubs_same v.late v.files ∙ sym (ap (map (stubbed_group v.late)) of.groups)

    programs : u.programs ≡ v.programs
    programs = is.programs ∙ sym of.programs

    late : u.late ≡ v.late
    late = is.late ∙ missing_same v.late v.files ∙ sym of.late
