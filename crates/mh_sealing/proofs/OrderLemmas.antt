-- Late scenes in the order of the groups.
use Rattle.std.specs.Prelude.{◌≡◌, ℕ, Bool, true, false, ◌||◌, not, cond, List, [], ◌∷◌, filter, map, Some, None, refl}
use Rattle.std.specs.Cmp.Derive.{both_true}
use Rattle.std.specs.Cmp.Lexicographic.{nat_list_eq_equiv}
use Rattle.std.specs.List.{find, list_all}
use Rattle.std.specs.Str.{bytes_eq}
use Rattle.std.proofs.Common.{ap, subst, sym, ◌∙◌}
use Rattle.std.proofs.lemmas.Slice.Eq.{bytes_eq-Decides}
use Rattle.mh_group.specs.Table.{is_scene}
use Rattle.mh_model.proofs.ListLemmas.{and_left, and_right}
use Rattle.mh_model.specs.Configuration.{is_group_of}
use Rattle.mh_model.specs.Late.{is_late_scene}
use Rattle.mh_model.specs.Service.{Service}
use Rattle.mh_service.specs.Refusals.{File}
use Rattle.mh_seal_laws.specs.Bringing.{AreScenes}
use Rattle.mh_seal_laws.specs.Joined.{IsOfFiles}
use Rattle.mh_sealing.specs.Sealing.{IsWhole, in_order, late_among}

abbrev Names : Type 0
Names = List (List ℕ)

-- What is put in order

-- a name that is kept was there
was_there : (late : Names) (fs : List File) (name : List ℕ) → is_late_scene name (late_among late fs) ≡ true → is_late_scene name late ≡ true
was_there late [] name e = absurd cc
was_there late (f ∷ fs) name e = by (is_late_scene f.0 late) refl e (was_there late fs name)
  where
    rest : List File
    rest = filter (λ (x : File). is_late_scene x.0 late) fs

    one : (c : Bool) → bytes_eq name f.0 ≡ c → is_late_scene f.0 late ≡ true → (c || is_late_scene name (map (λ (x : File). x.0) rest)) ≡ true
        → (is_late_scene name (map (λ (x : File). x.0) rest) ≡ true → is_late_scene name late ≡ true) → is_late_scene name late ≡ true
    one true same is h more = subst (λ (n : List ℕ). is_late_scene n late ≡ true) (sym ((bytes_eq-Decides name f.0).0 same)) is
    one false same is h more = more h

    by : (b : Bool) → is_late_scene f.0 late ≡ b → is_late_scene name (map (λ (x : File). x.0) (cond b (f ∷ rest) rest)) ≡ true
        → (is_late_scene name (map (λ (x : File). x.0) rest) ≡ true → is_late_scene name late ≡ true) → is_late_scene name late ≡ true
    by true is h more = one (bytes_eq name f.0) refl is h more
    by false is h more = more h

or_right : (b c : Bool) → c ≡ true → (b || c) ≡ true
or_right true c e = refl
or_right false c e = e

-- files are among their own names
own_names : (names : Names) (fs : List File) → ((n : List ℕ) → is_late_scene n (map (λ f. f.0) fs) ≡ true → is_late_scene n names ≡ true) → list_all (λ f. is_late_scene f.0 names) fs ≡ true
own_names names [] among = refl
own_names names (f ∷ fs) among =
    both_true (among f.0 (ap (λ (b : Bool). b || is_late_scene f.0 (map (λ (x : File). x.0) fs)) (nat_list_eq_equiv.refl f.0)))
    (own_names names fs (λ n h. among n (or_right (bytes_eq n f.0) (is_late_scene n (map (λ (x : File). x.0) fs)) h)))

-- so nothing changes where it is put in order again
kept : (late names : Names) (fs : List File) → ((n : List ℕ) → is_late_scene n names ≡ true → is_late_scene n late ≡ true)
    → list_all (λ f. is_late_scene f.0 names) (filter (λ f. is_late_scene f.0 late) fs) ≡ true → late_among names fs ≡ late_among late fs
kept late names [] was all = refl
kept late names (f ∷ fs) was all = by (is_late_scene f.0 late) refl all (kept late names fs was)
  where
    rest : List File
    rest = filter (λ (x : File). is_late_scene x.0 late) fs

    in_names : List File → Bool
    in_names = list_all (λ (x : File). is_late_scene x.0 names)

    with_head : (c : Bool) → c ≡ true → late_among names fs ≡ late_among late fs → map (λ (x : File). x.0) (cond c (f ∷ filter (λ (x : File). is_late_scene x.0 names) fs) (filter (λ (x : File). is_late_scene x.0 names) fs)) ≡ f.0 ∷ late_among late fs
    with_head true e more = ap (λ (ns : Names). f.0 ∷ ns) more
    with_head false e more = absurd cc

    without : (c : Bool) → (c ≡ true → false ≡ true) → late_among names fs ≡ late_among late fs → map (λ (x : File). x.0) (cond c (f ∷ filter (λ (x : File). is_late_scene x.0 names) fs) (filter (λ (x : File). is_late_scene x.0 names) fs)) ≡ late_among late fs
    without true never more = let e = never refl in absurd cc
    without false never more = more

    by : (b : Bool) → is_late_scene f.0 late ≡ b → in_names (cond b (f ∷ rest) rest) ≡ true
        → (in_names rest ≡ true → late_among names fs ≡ late_among late fs) → late_among names (f ∷ fs) ≡ map (λ (x : File). x.0) (cond b (f ∷ rest) rest)
    by true is h more =
        with_head (is_late_scene f.0 names) (and_left (is_late_scene f.0 names) (in_names rest) h) (more (and_right (is_late_scene f.0 names) (in_names rest) h))
    by false is h more = without (is_late_scene f.0 names) (λ e. subst (λ (b : Bool). b ≡ true) is (was f.0 e)) (more h)

again : (late : Names) (fs : List File) → late_among (late_among late fs) fs ≡ late_among late fs
again late fs = kept late (late_among late fs) fs (was_there late fs) (own_names (late_among late fs) (filter (λ (f : File). is_late_scene f.0 late) fs) (λ n h. h))

-- what a head end seals is what the laws speak of

pub of_files : (v : Service) → IsWhole v → IsOfFiles (in_order v)
of_files v whole = record { groups = whole.groups; programs = whole.programs; late = sym (again v.late v.files) }

pub are_scenes : (v : Service) → IsWhole v → AreScenes (in_order v) (in_order v).late
are_scenes v whole = λ g h. whole.scenes g (was_there v.late v.files g h)

-- so none of what is put in order is no scene
unfit_none : (p : List ℕ → Bool) (names : Names) → ((n : List ℕ) → is_late_scene n names ≡ true → p n ≡ true) → find (λ n. not (p n)) names ≡ None
unfit_none p [] each = refl
unfit_none p (n ∷ ns) each =
    by (p n) (each n (ap (λ (b : Bool). b || is_late_scene n ns) (nat_list_eq_equiv.refl n)))
    (unfit_none p ns (λ m h. each m (or_right (bytes_eq m n) (is_late_scene m ns) h)))
  where
    by : (b : Bool) → b ≡ true → find (λ m. not (p m)) ns ≡ None → cond (not b) (Some n) (find (λ m. not (p m)) ns) ≡ None
    by true e more = more
    by false e more = absurd cc

pub all_scenes : (v : Service) (names : Names) (name : List ℕ) → AreScenes v v.late → names ≡ late_among v.late v.files
    → find (λ n. not (is_group_of is_scene v n)) names ≡ Some name → ⊥
all_scenes v names name scenes is found =
    let none = unfit_none (is_group_of is_scene v) names (λ n h. scenes n (was_there v.late v.files n (subst (λ (ns : Names). is_late_scene n ns ≡ true) is h))) in
    some_is_not_none (sym found ∙ none)
  where
    some_is_not_none : Some name ≡ None → ⊥
    some_is_not_none e = cc
