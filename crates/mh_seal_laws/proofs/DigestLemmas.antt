-- Where no two groups with one digest are met, a seal by digests says what the service's own does.
use Rattle.std.specs.Prelude.{◌≡◌, ◌≤◌, ◌∷◌, ◌&&◌, ◌||◌, Bool, List, None, Option, Some, [], cond, false, length, not, true, ℕ}
use Rattle.std.specs.List.{find, list_all, list_any}
use Rattle.std.specs.Option.{option_map, option_map_or}
use Rattle.std.specs.Str.{bytes_eq}
use Rattle.std.specs.Cmp.Derive.{both_true}
use Rattle.std.specs.Cmp.Lexicographic.{nat_list_eq_equiv}
use Rattle.std.proofs.Common.{ap, refl, subst, sym, ◌∙◌}
use Rattle.std.proofs.lemmas.Bool.{leb-true}
use Rattle.std.proofs.lemmas.Slice.Eq.{bytes_eq-Decides}
use Rattle.mh_base.specs.Limits.{largest_file}
use Rattle.mh_group.specs.declared.written.Written.{Written}
use Rattle.mh_group.specs.Fit.{is_group}
use Rattle.mh_group.specs.Holdable.{is_holdable}
use Rattle.mh_group.specs.Same.{same_group}
use Rattle.mh_group.proofs.SameLemmas.{group_itself, group_same}
use Rattle.mh_codec.specs.Spelling.{group}
use Rattle.mh_codec.specs.Tags.{IsTable, Tags}
use Rattle.mh_codec.specs.Writable.{Spells}
use Rattle.mh_codec.proofs.SpellingLaws.{spells_one}
use Rattle.mh_model.specs.declared.input.Input.TheVariants as input
use Rattle.mh_model.specs.declared.input.Move.{Move}
use Rattle.mh_model.specs.declared.input.Move.TheVariants as move
use Rattle.mh_model.specs.declared.object.Fixed.{Fixed}
use Rattle.mh_model.specs.Late.{is_written_so, written_at}
use Rattle.mh_model.specs.Service.{Service, group_parts}
use Rattle.mh_model.proofs.ListLemmas.{and_left, and_right, some_same}
use Rattle.mh_service.specs.Refusals.{File as GroupFile}
use Rattle.mh_service.specs.Resolved.{parts_of}
use Rattle.mh_service.specs.Sealed.{with_group}
use Rattle.mh_seal_laws.proofs.JoinLemmas.{parts_resolved}
use Rattle.mh_seal_laws.specs.Digests.{DigestsAgree, DigestsGoWell, IsSealable, brings_group, digest_of, digests, has_digest, is_collision, is_spelled, listed_at, meets_collision, seal_by}
use Rattle.mh_seal_laws.specs.Sealed.{Agrees, AgreesAt}
use Rattle.mh_seal_laws.specs.Stubs.{seal_of}
use Rattle.mh_seal_laws.proofs.PlayLemmas.{not_false}
use Rattle.mh_seal_laws.proofs.SealedLemmas.{goes_well}

-- Bits

pub one_false : (b c : Bool) → (b || c) ≡ false → b ≡ false
one_false true c e = absurd cc
one_false false c e = refl

pub other_false : (b c : Bool) → (b || c) ≡ false → c ≡ false
other_false true c e = absurd cc
other_false false c e = e

-- The files of a service

listed_so : (tags : Tags) (digest : List ℕ → List ℕ) (g : List ℕ) (fs : List GroupFile) → listed_at tags digest g (digests tags digest fs) ≡ option_map (digest_of tags digest) (written_at g fs)
listed_so tags digest g [] = refl
listed_so tags digest g (f ∷ fs) = by (bytes_eq f.0 g) (listed_so tags digest g fs)
  where
    by : (b : Bool) → listed_at tags digest g (digests tags digest fs) ≡ option_map (digest_of tags digest) (written_at g fs) → option_map (λ (e : List ℕ × List ℕ). e.1) (cond b (Some (f.0, digest_of tags digest f.1)) (find (λ (e : List ℕ × List ℕ). bytes_eq e.0 g) (digests tags digest fs))) ≡ option_map (digest_of tags digest) (option_map (λ (e : GroupFile). e.1) (cond b (Some f) (find (λ (e : GroupFile). bytes_eq e.0 g) fs)))
    by true more = refl
    by false more = more

written_passes : (p : Written → Bool) (g : List ℕ) (fs : List GroupFile) (y : Written) → list_all (λ f. p f.1) fs ≡ true → written_at g fs ≡ Some y → p y ≡ true
written_passes p g [] y all e = absurd cc
written_passes p g (f ∷ fs) y all e = by (bytes_eq f.0 g) (and_left (p f.1) (list_all (λ (x : GroupFile). p x.1) fs) all) (written_passes p g fs y (and_right (p f.1) (list_all (λ (x : GroupFile). p x.1) fs) all)) e
  where
    by : (b : Bool) → p f.1 ≡ true → (written_at g fs ≡ Some y → p y ≡ true) → option_map (λ (x : GroupFile). x.1) (cond b (Some f) (find (λ (x : GroupFile). bytes_eq x.0 g) fs)) ≡ Some y → p y ≡ true
    by true own more e = subst (λ (z : Written). p z ≡ true) (some_same e) own
    by false own more e = more e

-- Spellings

spells_of : (tags : Tags) (digest : List ℕ → List ℕ) (x : Written) → is_spelled tags digest x ≡ true → (length (group tags x) ≤ largest_file) × (is_holdable x ≡ true)
unfolding is_spelled
spells_of tags digest x h = (leb-true (length (group tags x)) largest_file (and_left _ (is_holdable x) h), and_right _ (is_holdable x) h)

spelled_alike : (tags : Tags) (digest : List ℕ → List ℕ) → IsTable tags → (x y : Written) → is_group x ≡ true → is_group y ≡ true → is_spelled tags digest x ≡ true → is_spelled tags digest y ≡ true → group tags x ≡ group tags y → x ≡ y
unfolding Spells
spelled_alike tags digest table x y fit allowed own other e =
    let a = spells_of tags digest x own in
    let b = spells_of tags digest y other in
    spells_one tags table (group tags x) x y fit allowed (refl, a.0, a.1) (e, a.0, b.1)

-- a group has the digest of the service's own just where it is the same
pub digest_tells : (tags : Tags) (digest : List ℕ → List ℕ) → IsTable tags → (x y : Written) → is_group x ≡ true → is_group y ≡ true → is_spelled tags digest y ≡ true → is_collision tags digest x y ≡ false → has_digest tags digest x (Some (digest_of tags digest y)) ≡ same_group x y
digest_tells tags digest table x y fit allowed spelled none = by (same_group x y) refl
  where
    dx : List ℕ
    dx = digest_of tags digest x

    dy : List ℕ
    dy = digest_of tags digest y

    itself : x ≡ y → (is_spelled tags digest x && bytes_eq dx dy) ≡ true
    itself e = subst (λ (z : Written). (is_spelled tags digest z && bytes_eq (digest_of tags digest z) dy) ≡ true) (sym e) (both_true spelled (nat_list_eq_equiv.refl dy))

    alike : (is_spelled tags digest x && bytes_eq dx dy) ≡ true → x ≡ y
    alike h =
        let hit = and_right (is_spelled tags digest x) (bytes_eq dx dy) h in
        let octets = not_false (bytes_eq (group tags x) (group tags y)) (ap (λ (b : Bool). b && not (bytes_eq (group tags x) (group tags y))) (sym hit) ∙ none) in
        spelled_alike tags digest table x y fit allowed (and_left (is_spelled tags digest x) (bytes_eq dx dy) h) spelled ((bytes_eq-Decides (group tags x) (group tags y)).0 octets)

    never : false ≡ true → (is_spelled tags digest x && bytes_eq dx dy) ≡ false
    never h = absurd cc

    other : same_group x y ≡ false → (c : Bool) → (is_spelled tags digest x && bytes_eq dx dy) ≡ c → (is_spelled tags digest x && bytes_eq dx dy) ≡ false
    other e true h = never (sym e ∙ subst (λ (z : Written). same_group x z ≡ true) (alike h) (group_itself x))
    other e false h = h

    by : (s : Bool) → same_group x y ≡ s → (is_spelled tags digest x && bytes_eq dx dy) ≡ s
    by true e = itself (group_same x y e)
    by false e = other e (is_spelled tags digest x && bytes_eq dx dy) refl

-- One move, and all of them

module _ (tags : Tags) (digest : List ℕ → List ℕ) (v : Service) (table : IsTable tags) (able : IsSealable tags digest v) where
  fits_same : (g : List ℕ) (x : Written) → is_group x ≡ true → (m : Option Written) → written_at g v.files ≡ m → option_map_or (is_collision tags digest x) m false ≡ false → has_digest tags digest x (option_map (digest_of tags digest) m) ≡ is_written_so x m
  fits_same g x fit None e none = refl
  fits_same g x fit (Some y) e none = digest_tells tags digest table x y fit (written_passes is_group g v.files y able.groups e) (written_passes (is_spelled tags digest) g v.files y able.spelled e) none

  grown_same : (g : List ℕ) (x : Written) → (m : Option Written) → written_at g v.files ≡ m → is_written_so x m ≡ true → parts_of g x ≡ group_parts v g
  grown_same g x None e h = absurd cc
  grown_same g x (Some y) e h = sym (parts_resolved v g x able.files (subst (λ (z : Written). written_at g v.files ≡ Some z) (sym (group_same x y h)) e))

  agrees_at : (m : Move) → brings_group m ≡ true → meets_collision tags digest v.files m ≡ false → AgreesAt (seal_by tags digest (digests tags digest v.files)) (seal_of v) m
  agrees_at (move.Post (input.Scene g x)) fit none = (ap (has_digest tags digest x) (listed_so tags digest g v.files) ∙ fits_same g x fit (written_at g v.files) refl none, λ h w. ap (λ (ps : List Fixed). with_group g ps w) (grown_same g x (written_at g v.files) refl h))
  agrees_at (move.Post (input.Key k)) fit none = tt
  agrees_at (move.Post (input.Tick n)) fit none = tt
  agrees_at (move.Post (input.Stream n)) fit none = tt
  agrees_at (move.Post (input.Engine n)) fit none = tt
  agrees_at (move.Post (input.Arrive f)) fit none = tt
  agrees_at move.Step fit none = tt

  all_agree : (ms : List Move) → list_all brings_group ms ≡ true → list_any (meets_collision tags digest v.files) ms ≡ false → Agrees (seal_by tags digest (digests tags digest v.files)) (seal_of v) ms
  all_agree [] fit none = tt
  all_agree (m ∷ ms) fit none =
      let one = meets_collision tags digest v.files m in
      let rest = list_any (meets_collision tags digest v.files) ms in
      (agrees_at m (and_left (brings_group m) (list_all brings_group ms) fit) (one_false one rest none), all_agree ms (and_right (brings_group m) (list_all brings_group ms) fit) (other_false one rest none))

pub digests_agree : DigestsAgree
digests_agree tags digest v table able ms fit none = all_agree tags digest v table able ms fit none

pub digests_go_well : DigestsGoWell
digests_go_well tags digest most v a scenes table able mjd fs ms fit none =
    (goes_well (seal_by tags digest (digests tags digest v.files)) most v a scenes mjd fs ms (digests_agree tags digest v table able ms fit none)).0
