-- What is written of a play by a seal, and how it ends. The seal is read, or one line says what is wrong with it; then the files
-- of the groups that are here from the start, or one line says which cannot be read; the engine begins by the seal, or one line
-- says which group stands in the way; then the script and the content files are played as those of a whole service are, but
-- that the seal says whether a scene's file is the one that was sealed.
use Rattle.std.specs.Prelude.{◌≡◌, ◌≢◌, ℕ, true, if◌then◌else◌, List, [], ◌∷◌, ◌++◌, Option, Some, None, Result, Ok, Err, codes}
use Rattle.std.specs.Fmt.{decimal}
use Rattle.std.specs.Str.{bytes_eq}
use Rattle.sha2.specs.Sha256.{sha256}
use Rattle.mh_codec.specs.Tags.{Tags}
use Rattle.mh_model.specs.declared.file.File.{File as Content}
use Rattle.mh_model.specs.State.{State, begun}
use Rattle.mh_service.specs.Refusals.{File}
use Rattle.mh_seal.specs.declared.seal.Seal.{Seal}
use Rattle.mh_seal.specs.declared.seal_error.SealError.{SealError}
use Rattle.mh_seal.specs.declared.seal_error.SealError.TheVariants as seal_error
use Rattle.mh_seal.specs.Reading.{IsRefusal, is_seal}
use Rattle.mh_seal.specs.Text.{seal_text}
use Rattle.mh_machine.specs.declared.refusal.Refused.{Refused}
use Rattle.mh_machine.specs.declared.refusal.RefusedWhy.{RefusedWhy}
use Rattle.mh_machine.specs.declared.refusal.RefusedWhy.TheVariants as refused
use Rattle.mh_engine.specs.declared.sealed.starting.Unsealed.{Unsealed}
use Rattle.mh_engine.specs.Sealed.{sealed_refusal, service_of, unsealed_group, unsealed_number}
use Rattle.mh_script.specs.declared.script.Command.{Command}
use Rattle.mh_told.specs.declared.unplayable.Unplayable.{Unplayable}
use Rattle.mh_told.specs.declared.unplayable.Unplayable.TheVariants as unplayable
use Rattle.mh_sealing.specs.Here.{contents_by, groups_here}
use Rattle.mh_told.specs.Reading.{◌>>=◌, Source, table_of}
use Rattle.mh_verdict.specs.Lines.{complaint}
use Rattle.mh_report.specs.declared.by_seal.Ready.{Ready}
use Rattle.mh_report.specs.declared.options.Options.{Options}
use Rattle.mh_report.specs.declared.status.Status.{Status}
use Rattle.mh_report.specs.declared.status.Status.TheVariants as status
use Rattle.mh_report.specs.Played.{play_lines, play_status}
use Rattle.mh_report.specs.Presets.{begins, presets}
use Rattle.mh_report.specs.Reading.{commands_of, tags_of}
use Rattle.mh_report.specs.Sealed.{tag_octets}

-- why a post was refused, if it was; want of memory is no refusal
abbrev pub IsTold : Result (Unit {0}) Refused → Option RefusedWhy → Type 0
IsTold (Ok u) why = why ≡ None
IsTold (Err r) why = (why ≡ Some r.why) × (r.why ≢ refused.NoMemory)

-- What is read

-- 73: the file of tags is another than the one of which the seal tells
abbrev pub tags_by : Seal → Options → Result Tags Unplayable
tags_by s options =
    table_of (tags_of options)
    >>= (λ (t : Tags). if bytes_eq s.tags (sha256 (tag_octets options)) then Ok t else Err (unplayable.Tags 73 0))

-- all of this, or the first thing that cannot be read
unfoldable pub readied_by : Seal → List Source → Options → Result Ready Unplayable
readied_by s files options = do
  tags ← tags_by s options
  groups ← groups_here s tags files
  Ok (record { tags = tags; groups = groups; contents = contents_by s tags files })

-- How the play goes on

-- what is told of the group that stands in the way

abbrev pub unstarted_by : Option ℕ → Option (List ℕ) → Unplayable
unstarted_by None group = unplayable.NoMemory
unstarted_by (Some number) None = unplayable.NoMemory
unstarted_by (Some number) (Some group) = unplayable.Service number group

abbrev pub unstarted : Unsealed → Unplayable
unstarted e = unstarted_by (unsealed_number e) (unsealed_group e)

abbrev pub started_by : Option Unsealed → State → Result State Unplayable
started_by None t = Ok t
started_by (Some e) t = Err (unstarted e)

-- the state in which an engine begins by the seal, with these groups and on this day
abbrev pub started : Seal → List File → ℕ → Result State Unplayable
started s fs mjd = started_by (sealed_refusal s fs) (begun (service_of s fs) mjd)

-- what is written, and how it ends
abbrev pub Told : Type 0
Told = List ℕ × Status

abbrev pub unread : Unplayable → Told
unread e = (complaint e, status.Unreadable)

-- the commands are played, once the content files are there
abbrev pub commanded : Option Seal → List Content → State → Result (List Command) Unplayable → Told
commanded k files s (Ok cs) = (play_lines cs (begins k (presets files s)), play_status cs (begins k (presets files s)))
commanded k files s (Err e) = unread e

-- the script is read beside the files that the engine's service keeps: beside a seal there are none
abbrev pub scripted : Option Seal → Tags → List Content → List ℕ → Result State Unplayable → Told
scripted k tags files script (Ok s) = commanded k files s (commands_of tags s.service.files script)
scripted k tags files script (Err e) = unread e

abbrev pub told_by : Seal → ℕ → List ℕ → Result Ready Unplayable → Told
told_by s mjd script (Ok m) = scripted (Some s) m.tags m.contents script (started s m.groups mjd)
told_by s mjd script (Err e) = unread e

-- Reports

-- the line on bytes that are no seal: the number of the first wrong line; a seal of another version tells so in the first one
unfoldable pub seal_line : SealError → List ℕ
seal_line (seal_error.Line n) = codes "seal 70 " ++ decimal n ++ 10 ∷ []
seal_line seal_error.Version = codes "seal 71 1" ++ 10 ∷ []
seal_line seal_error.NoMemory = []

-- this is written, and it ends so
abbrev pub Is : Told → List ℕ → Status → Type 0
Is told report how = (report ≡ told.0) × (how ≡ told.1)

-- What is written of a play by the bytes of a seal, and how it ends.
pub data PlaysBySeal (options : Options) (files : List Source) (bytes script : List ℕ) : List ℕ → Status → Type 0 where
  play_no_seal : (e : SealError) → e ≢ seal_error.NoMemory → IsRefusal bytes e →
      PlaysBySeal options files bytes script (seal_line e) status.Unreadable
  play_by_seal : (s : Seal) → is_seal s ≡ true → bytes ≡ seal_text s → (report : List ℕ) (how : Status) →
      Is (told_by s options.mjd script (readied_by s files options)) report how → PlaysBySeal options files bytes script report how
