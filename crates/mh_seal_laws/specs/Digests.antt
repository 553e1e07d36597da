-- Seals by digests: of each group the digest of the octets that spell it stands for the group.
use Rattle.std.specs.Prelude.{◌≡◌, ℕ, Bool, true, false, ◌&&◌, not, nat_le, List, map, length, Option, Some, None}
use Rattle.std.specs.List.{find, list_all, list_any}
use Rattle.std.specs.Option.{option_map, option_map_or}
use Rattle.std.specs.Str.{bytes_eq}
use Rattle.mh_base.specs.Limits.{largest_file}
use Rattle.mh_group.specs.declared.written.Written.{Written}
use Rattle.mh_group.specs.Fit.{is_group}
use Rattle.mh_group.specs.Holdable.{is_holdable}
use Rattle.mh_codec.specs.Spelling.{group}
use Rattle.mh_codec.specs.Tags.{IsTable, Tags}
use Rattle.mh_model.specs.declared.file.File.{File}
use Rattle.mh_model.specs.declared.input.Input.TheVariants as input
use Rattle.mh_model.specs.declared.input.Move.{Move}
use Rattle.mh_model.specs.declared.input.Move.TheVariants as move
use Rattle.mh_model.specs.Late.{written_at}
use Rattle.mh_model.specs.Service.{Service}
use Rattle.mh_laws.specs.Budget.{GoesWell, IsAccepted, bounds}
use Rattle.mh_laws.specs.Headline.{begun_with}
use Rattle.mh_service.specs.Refusals.{File as GroupFile}
use Rattle.mh_service.specs.Resolved.{parts_of, resolved}
use Rattle.mh_service.specs.Sealed.{with_group}
use Rattle.mh_seal_laws.specs.Bringing.{AreScenes}
use Rattle.mh_seal_laws.specs.Seal.{Seal, sealed_run}
use Rattle.mh_seal_laws.specs.Sealed.{Agrees, sealed_budget}
use Rattle.mh_seal_laws.specs.Stubs.{seal_of, stubbed}

-- Under a table of tags, with any function that takes octets to their digest
module _ (tags : Tags) (digest : List ℕ → List ℕ) where
  -- the notation can hold the group
  unfoldable pub is_spelled : Written → Bool
  is_spelled x = nat_le (length (group tags x)) largest_file && is_holdable x

  abbrev pub digest_of : Written → List ℕ
  digest_of x = digest (group tags x)

  -- the names of groups with their digests, as a seal lists them
  abbrev pub digests : List GroupFile → List (List ℕ × List ℕ)
  digests fs = map (λ f. (f.0, digest_of f.1)) fs

  abbrev pub has_digest : Written → Option (List ℕ) → Bool
  has_digest x None = false
  has_digest x (Some d) = is_spelled x && bytes_eq (digest_of x) d

  abbrev pub listed_at : List ℕ → List (List ℕ × List ℕ) → Option (List ℕ)
  listed_at g ds = option_map (λ e. e.1) (find (λ e. bytes_eq e.0 g) ds)

  -- the seal that goes by the digests which are listed
  abbrev pub seal_by : List (List ℕ × List ℕ) → Seal
  seal_by ds = record { fits = λ g x. has_digest x (listed_at g ds); grown = λ g x. with_group g (parts_of g x) }

  -- two groups are spelled otherwise and have one digest
  abbrev pub is_collision : Written → Written → Bool
  is_collision x y = bytes_eq (digest_of x) (digest_of y) && not (bytes_eq (group tags x) (group tags y))

  -- the move brings one of them, and the service has the other under this name
  abbrev pub meets_collision : List GroupFile → Move → Bool
  meets_collision fs (move.Post (input.Scene g x)) = option_map_or (is_collision x) (written_at g fs) false
  meets_collision fs _ = false

  -- the service is that of its files, each of which can be spelled
  pub record IsSealable (v : Service) : Type 0 where
    pub files : v.groups ≡ map resolved v.files
    pub groups : list_all (λ f. is_group f.1) v.files ≡ true
    pub spelled : list_all (λ f. is_spelled f.1) v.files ≡ true

-- a group that is posted is one that the tables allow, as readers give no others
abbrev pub brings_group : Move → Bool
brings_group (move.Post (input.Scene g x)) = is_group x
brings_group _ = true

-- UNLESS TWO GROUPS WITH ONE DIGEST ARE MET, the digests are right of all that is met.
abbrev pub DigestsAgree : Type 0
DigestsAgree =
    (tags : Tags) (digest : List ℕ → List ℕ) (v : Service) →
    IsTable tags → IsSealable tags digest v →
    (ms : List Move) → list_all brings_group ms ≡ true → list_any (meets_collision tags digest v.files) ms ≡ false →
    Agrees (seal_by tags digest (digests tags digest v.files)) (seal_of v) ms

-- AND SO nothing is stuck in a run beside the digests of an accepted service, and it takes no more steps than its bounds allow.
abbrev pub DigestsGoWell : Type 0
DigestsGoWell =
    (tags : Tags) (digest : List ℕ → List ℕ) (most : ℕ) (v : Service)
    (a : IsAccepted most v) → AreScenes v v.late → IsTable tags → IsSealable tags digest v →
    (mjd : ℕ) (fs : List File) (ms : List Move) →
    list_all brings_group ms ≡ true → list_any (meets_collision tags digest v.files) ms ≡ false →
    GoesWell
    (sealed_budget (bounds a) (seal_by tags digest (digests tags digest v.files)) ms (bounds a).start
    (begun_with (stubbed v) mjd fs))
    (sealed_run (seal_by tags digest (digests tags digest v.files)) ms (begun_with (stubbed v) mjd fs))
