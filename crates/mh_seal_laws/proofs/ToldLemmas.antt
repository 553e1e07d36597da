-- A run by what a seal tells of an accepted service goes well.
use Rattle.std.specs.Prelude.{◌≡◌, ◌^◌, ℕ, true, List, [], ◌∷◌, map, nat_lt, slice_index, zero, suc}
use Rattle.std.specs.List.{list_all}
use Rattle.std.proofs.Common.{ap, arith, refl, subst, sym, ◌∙◌}
use Rattle.std.proofs.lemmas.Bool.{ltb-true}
use Rattle.sha2.specs.Sha256.{sha256}
use Rattle.mh_codec.specs.Tags.{AreSmall, IsTable, profile}
use Rattle.mh_model.proofs.ListLemmas.{and_left, and_right}
use Rattle.mh_model.specs.declared.file.File.{File}
use Rattle.mh_model.specs.declared.input.Move.{Move}
use Rattle.mh_model.specs.Picture.{shown}
use Rattle.mh_model.specs.Service.{Service}
use Rattle.mh_model.specs.Step.{run}
use Rattle.mh_laws.specs.Budget.{Bounds, GoesWell, bounds}
use Rattle.mh_laws.specs.Headline.{begun_with}
use Rattle.mh_service.specs.Contents.{files}
use Rattle.mh_service.specs.Refusals.{File as GroupFile}
use Rattle.mh_seal.specs.declared.seal.SealedGroup.{SealedGroup}
use Rattle.mh_seal.specs.Digests.{digest_of}
use Rattle.mh_seal_laws.specs.Digests.{digests, seal_by}
use Rattle.mh_seal_laws.specs.Seal.{Seal, sealed_run}
use Rattle.mh_seal_laws.specs.Sealed.{sealed_budget}
use Rattle.mh_seal_laws.specs.Stubs.{stubbed}
use Rattle.mh_seal_laws.specs.Told.{EachHasSeal, ToldSealGoesWell, bounds_in, by_told, told_bounds, told_group}
use Rattle.mh_seal_laws.proofs.DigestLemmas.{digests_agree}
use Rattle.mh_seal_laws.proofs.SealedLemmas.{goes_well}

-- The tags of the profile are a table

small : (ts : List ℕ) → list_all (λ t. nat_lt t (2 ^ 16)) ts ≡ true → AreSmall ts
small [] all k = let none : slice_index [] k ≡ 0 = refl in omega (arith, none)
small (t ∷ ts) all zero = ltb-true t (2 ^ 16) (and_left (nat_lt t (2 ^ 16)) (list_all (λ x. nat_lt x (2 ^ 16)) ts) all)
small (t ∷ ts) all (suc k) = small ts (and_right (nat_lt t (2 ^ 16)) (list_all (λ x. nat_lt x (2 ^ 16)) ts) all) k

pub profile_is_table : IsTable profile
profile_is_table = record {
  classes = record { full = refl; small = small profile.classes refl; single = refl };
  attributes = record { full = refl; small = small profile.attributes refl; single = refl };
  actions = record { full = refl; small = small profile.actions refl; single = refl };
  values = record { full = refl; small = small profile.values refl; single = refl };
}

-- what is told of the files are their digests
pub told_digests : (late : List (List ℕ)) (fs : List GroupFile) → map (λ (g : SealedGroup). (g.name, g.digest)) (map (told_group late) fs) ≡ digests profile sha256 fs
told_digests late [] = refl
told_digests late (f ∷ fs) = ap (λ (ds : List (List ℕ × List ℕ)). (f.0, digest_of f.1) ∷ ds) (told_digests late fs)

pub each_has_seal : EachHasSeal
each_has_seal v b tags = (
  record { start = v.start; groups = map (told_group v.late) v.files; contents = files v; bounds = told_bounds b; tags = sha256 tags },
  record { start = refl; groups = refl; contents = λ name. refl; stated = refl; tags_told = refl },
)

-- by these bounds and this seal
abbrev IsWell : Service → ℕ → List File → List Move → Bounds → Seal → Type 0
IsWell v mjd fs ms b k =
    GoesWell (sealed_budget b k ms b.start (begun_with (stubbed v) mjd fs)) (sealed_run k ms (begun_with (stubbed v) mjd fs))
    × (shown (sealed_run k ms (begun_with (stubbed v) mjd fs)) ≡ shown (run ms (begun_with v mjd fs)))

pub told_seal_goes_well : ToldSealGoesWell
told_seal_goes_well most v a scenes sealable tags s is mjd fs ms groups none =
    let own : Seal = seal_by profile sha256 (digests profile sha256 v.files) in
    let by : own ≡ by_told s = ap (seal_by profile sha256) (sym (told_digests v.late v.files) ∙ ap (map (λ (g : SealedGroup). (g.name, g.digest))) (sym is.groups)) in
    let told : bounds a ≡ bounds_in s.bounds = sym (ap bounds_in is.stated) in
    subst (λ (k : Seal). IsWell v mjd fs ms (bounds_in s.bounds) k) by
    (subst (λ (b : Bounds). IsWell v mjd fs ms b own) told (goes_well own most v a scenes mjd fs ms (digests_agree profile sha256 v profile_is_table sealable ms groups none)))
