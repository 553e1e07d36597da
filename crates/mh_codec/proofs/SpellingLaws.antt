-- The laws that join the reading to the spelling: what is read is spelled so, and what is spelled so is
-- read.
use Rattle.std.proofs.Common.{◌≡◌, ◌≢◌, ℕ, true, nat_lt, List, [], length, Result, Ok, Err, IfErr, refl, sym, ◌∙◌, subst, append-nil}
use Rattle.mh_base.specs.Reading.{Rest, whole}
use Rattle.mh_base.specs.Limits.{largest_file}
use Rattle.mh_base.proofs.ReadingLemmas.{went, if_not_ok, ok_same, one_answer, is_file, file_is}
use Rattle.mh_der.specs.Rest.{Element}
use Rattle.mh_der.proofs.DigitLemmas.{AreBytes}
use Rattle.mh_group.specs.declared.written.Written.{Written as Group}
use Rattle.mh_group.specs.Fit.{is_group}
use Rattle.mh_codec.specs.declared.codec_error.CodecError.{CodecError}
use Rattle.mh_codec.specs.declared.codec_error.CodecError.TheVariants.{At, NoMemory}
use Rattle.mh_codec.specs.declared.codec_error.Why.TheVariants.{Limit}
use Rattle.mh_codec.specs.Tags.{Tags, IsTable}
use Rattle.mh_codec.specs.Spelling.{group}
use Rattle.mh_codec.specs.Writable.{Spells, SpellsNone, SpellsNoOther}
use Rattle.mh_codec.specs.Gives.{Fails, Gives}
use Rattle.mh_codec.specs.Reading.{taken, ended, group_at, read}
use Rattle.mh_codec.proofs.ElementLemmas.{written, last_part, taken_found, good_found, taken_given, nothing_left, ended_given}
use Rattle.mh_codec.proofs.GroupLemmas.{group_read, group_written, group_one}

module _ (tags : Tags) (table : IsTable tags) where
  -- what is read is spelled so
  pub read_found : (octets : List ℕ) (g : Group) → AreBytes octets → read tags octets ≡ Ok g → Spells tags octets g
  unfolding read Spells
  read_found octets g bytes is =
      let t = if_not_ok (nat_lt largest_file (length octets)) _ Limit 0 g is in
      let a = went (taken (whole octets)) _ g t.1 in
      let f = taken_found (whole octets) a.value.0 a.value.1 bytes a.first in
      let x = went (group_at tags a.value.0) _ g a.behind in
      let end = went (ended a.value.1) _ g x.behind in
      let none = nothing_left a.value.1 end.first in
      let r = group_read tags table a.value.0 x.value (good_found (whole octets) a.value.0 a.value.1 f) x.first in
      let spelled = last_part octets (written a.value.0) a.value.1.bytes (group tags x.value) f.written none r.0 in
      subst (Spells tags octets) (ok_same end.behind) (spelled, is_file (length octets) t.0, r.1)

  -- the group that an element spells is one that the tables allow
  pub element_fits : (octets : List ℕ) (e : Element) (behind : Rest) (g : Group) → AreBytes octets → taken (whole octets) ≡ Ok (e, behind) → group_at tags e ≡ Ok g → is_group g ≡ true
  element_fits octets e behind g bytes stands is =
      let f = taken_found (whole octets) e behind bytes stands in
      (group_read tags table e g (good_found (whole octets) e behind f) is).2

  -- what is spelled so is read
  pub read_given : (octets : List ℕ) (g : Group) → is_group g ≡ true → Spells tags octets g → read tags octets ≡ Ok g
  unfolding read Spells
  read_given octets g fit (is, short, good) =
      let one = group_one tags table g in
      let a = taken_given (whole octets) one.tag one.contents [] one.small (is ∙ one.is ∙ sym (append-nil _)) in
      let x = group_written tags table a.found g a.small fit good (a.is ∙ sym one.is) in
      rw (file_is (length octets) short, a.takes, x, ended_given a.rest a.behind) refl

  pub none_spelled : (octets : List ℕ) (e : CodecError) → Fails e (read tags octets) → e ≢ NoMemory → SpellsNone tags octets
  none_spelled octets (At w o) fails other g fit spells = absurd (cc (read_given octets g fit spells))
  none_spelled octets NoMemory fails other g fit spells = other refl

  pub no_other_spelled : (octets : List ℕ) (g : Group) → read tags octets ≡ Ok g → SpellsNoOther tags octets g
  no_other_spelled octets g e h fit spells = one_answer g h (read tags octets) e (read_given octets h fit spells)

  -- no octets spell two groups
  pub spells_one : (octets : List ℕ) (g h : Group) → is_group g ≡ true → is_group h ≡ true → Spells tags octets g → Spells tags octets h → g ≡ h
  spells_one octets g h fit allowed spells tells = no_other_spelled octets h (read_given octets h allowed tells) g fit spells

  -- what a reader may say of octets whose reading it gives
  pub gives_none : (octets : List ℕ) (result : Result Group CodecError) → Gives (λ x. x) result (read tags octets) → IfErr result (λ e. e ≢ NoMemory → SpellsNone tags octets)
  gives_none octets (Ok g) gives = tt
  gives_none octets (Err e) gives = none_spelled octets e gives
