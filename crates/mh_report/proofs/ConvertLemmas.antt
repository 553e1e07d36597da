-- What converting rests on: a group that is spelled has a spelling, and one that none spells has none.
use Rattle.std.proofs.Common.{◌≡◌, ℕ, ◌≤◌, Bool, true, false, ◌&&◌, nat_le, List, length, refl, ap, sym, ◌∙◌, subst, arith}
use Rattle.std.proofs.lemmas.Bool.{and_parts}
use Rattle.std.proofs.lemmas.Bool.Decides.{nat_tests}
use Rattle.mh_group.specs.declared.written.Written.{Written}
use Rattle.mh_codec.specs.Spelling.{group}
use Rattle.mh_codec.specs.Tags.{Tags}
use Rattle.mh_group.specs.Holdable.{is_holdable}
use Rattle.mh_codec.specs.Writable.{Spells}
use Rattle.mh_codec.specs.Unwritable.{HasNoSpelling}
use Rattle.mh_report.specs.Converted.{has_spelling, in_octets, Converts, convert_done}
use Rattle.std.specs.Io.KnownBytes.{Appends}
use Rattle.mh_report.specs.Sink.{IsBeginning}
use Rattle.mh_report.specs.Played.{HasWritten, HasBegun}
use Rattle.mh_report.specs.declared.status.Status.{Status}
use Rattle.mh_report.specs.declared.status.Status.TheVariants as status
use Rattle.mh_report.specs.declared.play_error.PlayError.{PlayError}
use Rattle.mh_report.proofs.WrittenLemmas.{whole, cut}
use Rattle.mh_told.specs.declared.unplayable.Unplayable.{Unplayable}
use Rattle.mh_told.specs.declared.unplayable.Unplayable.TheVariants as unplayable
use Rattle.std.specs.Prelude.{Option, Result, Ok, Err, OnOk, OnErr, IfOk, if◌then◌else◌}

is_within : (n : ℕ) → n ≤ 1048576 → nat_le n 1048576 ≡ true
is_within n h = grind (arith, nat_tests)

within : (n : ℕ) → nat_le n 1048576 ≡ true → n ≤ 1048576
within n h = grind (arith, nat_tests)

pub spelled : (tags : Tags) (name octets : List ℕ) (g : Written) → Spells tags octets g → in_octets tags name g ≡ Ok octets
unfolding in_octets has_spelling Spells
spelled tags name octets g s =
    let same : length (group tags g) ≡ length octets = ap (λ (l : List ℕ). length l) (sym s.0) in
    let short : nat_le (length (group tags g)) 1048576 ≡ true = is_within (length (group tags g)) (omega (arith, same, s.1)) in
    rw (s.2, short) (ap Ok (sym s.0))

pub unspelled : (tags : Tags) (name : List ℕ) (g : Written) → HasNoSpelling tags g → in_octets tags name g ≡ Err (unplayable.File name 13 0)
unfolding in_octets has_spelling Spells
unspelled tags name g none = by (is_holdable g && nat_le (length (group tags g)) 1048576) refl
  where
    by : (t : Bool) → (is_holdable g && nat_le (length (group tags g)) 1048576) ≡ t → (if t then Ok (group tags g) else Err (unplayable.File name 13 0)) ≡ Err (unplayable.File name 13 0)
    by false e = refl
    by true e =
        let parts = and_parts (is_holdable g) (nat_le (length (group tags g)) 1048576) e in
        absurd (none (group tags g) (refl, within (length (group tags g)) parts.1, parts.0))

-- what is handed out is what is meant
pub converted_whole : (r : Result (List ℕ) Unplayable) (before after : Option (List ℕ)) (bytes text : List ℕ) (answer : Result Status PlayError) → r ≡ Ok text → bytes ≡ text
    → OnOk answer (Appends before after bytes) → IfOk answer (λ st. st ≡ status.Good) → IfOk answer (HasWritten (Converts r) before after)
converted_whole r before after bytes text answer is same taken how =
    subst (λ (x : Result (List ℕ) Unplayable). IfOk answer (HasWritten (Converts x) before after)) (sym (is ∙ ap Ok (sym same)))
    (whole (Converts (Ok bytes)) before after answer bytes status.Good (convert_done bytes) taken how)

pub converted_cut : (r : Result (List ℕ) Unplayable) (before after : Option (List ℕ)) (bytes text : List ℕ) (answer : Result Status PlayError) → r ≡ Ok text → bytes ≡ text
    → OnErr answer (IsBeginning before after bytes) → OnErr answer (HasBegun (Converts r) before after)
converted_cut r before after bytes text answer is same begun =
    subst (λ (x : Result (List ℕ) Unplayable). OnErr answer (HasBegun (Converts x) before after)) (sym (is ∙ ap Ok (sym same)))
    (cut (Converts (Ok bytes)) before after answer bytes status.Good (convert_done bytes) begun)
