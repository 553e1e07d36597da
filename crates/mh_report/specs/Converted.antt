-- What is written for a file that is converted: its group in the notation that is wanted, or the line on what
-- is in the way.
use Rattle.std.specs.Prelude.{ℕ, Bool, ◌&&◌, nat_le, if◌then◌else◌, List, length, Result, Ok, Err}
use Rattle.mh_group.specs.declared.written.Written.{Written}
use Rattle.mh_codec.specs.Spelling.{group}
use Rattle.mh_codec.specs.Tags.{Tags}
use Rattle.mh_group.specs.Holdable.{is_holdable}
use Rattle.mh_codec.specs.Numbers.{number_of as octets_number_of}
use Rattle.mh_codec.specs.declared.codec_error.Why.TheVariants as octets_why
use Rattle.mh_text.specs.Printed.{printed, passes_limit}
use Rattle.mh_text.specs.Numbers.{number_of}
use Rattle.mh_text.specs.declared.text_error.Why.TheVariants as text_why
use Rattle.mh_report.specs.declared.convert.Notation.{Notation}
use Rattle.mh_report.specs.declared.convert.Notation.TheVariants as notation
use Rattle.mh_report.specs.declared.status.Status.{Status}
use Rattle.mh_report.specs.declared.status.Status.TheVariants as status
use Rattle.mh_told.specs.declared.unplayable.Unplayable.{Unplayable}
use Rattle.mh_told.specs.declared.unplayable.Unplayable.TheVariants as unplayable
use Rattle.mh_verdict.specs.Lines.{complaint}
use Rattle.mh_told.specs.Reading.{◌>>=◌, group_in, table_of}
use Rattle.mh_report.specs.declared.options.Options.{Options}
use Rattle.mh_report.specs.Reading.{tags_of}

-- the binary notation can spell the group in a file
unfoldable pub has_spelling : Tags → Written → Bool
has_spelling tags g = is_holdable g && nat_le (length (group tags g)) 1048576

-- the octets of the group in the binary notation
unfoldable pub in_octets : Tags → List ℕ → Written → Result (List ℕ) Unplayable
in_octets tags name g = if has_spelling tags g then Ok (group tags g) else Err (unplayable.File name (octets_number_of octets_why.Limit) 0)

-- its printed form
unfoldable pub in_text : List ℕ → Written → Result (List ℕ) Unplayable
in_text name g = if passes_limit g then Err (unplayable.File name (number_of text_why.Limit) 0) else Ok (printed g)

abbrev pub written_in : Tags → Notation → List ℕ → Written → Result (List ℕ) Unplayable
written_in tags notation.Binary name g = in_octets tags name g
written_in tags notation.Textual name g = in_text name g

-- the file of this name, converted with these tags; its group is read in the notation in which it begins
unfoldable pub converted_with : Notation → List ℕ → List ℕ → Tags → Result (List ℕ) Unplayable
converted_with to name bytes tags = group_in tags name bytes >>= written_in tags to name

-- the same with the tags that are chosen; or the line on the file of tags
unfoldable pub converted : Options → Notation → List ℕ → List ℕ → Result (List ℕ) Unplayable
converted options to name bytes = table_of (tags_of options) >>= converted_with to name bytes

-- What is written of a file that is converted, and how it ends.
pub data Converts : Result (List ℕ) Unplayable → List ℕ → Status → Type 0 where
  convert_unreadable : (e : Unplayable) → Converts (Err e) (complaint e) status.Unreadable
  convert_done : (bytes : List ℕ) → Converts (Ok bytes) bytes status.Good
