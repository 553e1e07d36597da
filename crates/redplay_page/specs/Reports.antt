-- Verdicts, reports and groups in the other notation: what `redplay check`, `play`, `to-der` and `to-text` print.
use Rattle.std.specs.Prelude.{ℕ, Bool, true, false, List, [], Option}
use Rattle.mh_crossing.specs.Files.{File}
use Rattle.mh_report.specs.Converted.{Converts, converted}
use Rattle.mh_report.specs.Played.{Checks, Plays}
use Rattle.mh_report.specs.Reading.{chosen_service, readied}
use Rattle.mh_report.specs.declared.convert.Notation.{Notation}
use Rattle.mh_report.specs.declared.convert.Notation.TheVariants as notation
use Rattle.mh_report.specs.declared.options.Options.{Options}
use Rattle.redplay_page.specs.Chosen.{AreOptions}
use Rattle.redplay_page.specs.Told.{IsEnded}

-- the verdict
pub record AreChecked (start late : List ℕ) (files : List File) (text : List ℕ) (n : ℕ) : Type 0 where
  pub options : Options
  pub chosen : AreOptions start late 0 false options
  pub meant : IsEnded (Checks (chosen_service options files)) text n

-- the report of a script
pub record AreReported (start late script : List ℕ) (day : ℕ) (lenient : Bool) (files : List File) (text : List ℕ) (n : ℕ) : Type 0 where
  pub options : Options
  pub chosen : AreOptions start late day lenient options
  pub meant : IsEnded (Plays options.mjd options.lenient (readied options files script)) text n

abbrev pub notation_of : Bool → Notation
notation_of true = notation.Binary
notation_of false = notation.Textual

-- a file in the notation that is wanted
pub record IsConverted (name bytes : List ℕ) (binary : Bool) (text : List ℕ) (n : ℕ) : Type 0 where
  pub options : Options
  pub chosen : AreOptions [] [] 0 false options
  pub meant : IsEnded (Converts (converted options (notation_of binary) name bytes)) text n
