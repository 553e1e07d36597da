-- What is chosen beside the files: the path of the application to start with, the paths of late scenes, a path a line, and the
-- modified Julian day. The tags are the profile's.
use Rattle.std.specs.Prelude.{◌≡◌, ℕ, Bool, List, Option, Some, None}
use Rattle.mh_report.specs.declared.options.Options.{Options}
use Rattle.mh_report.specs.Reading.{late_of as late_option, tags_of as tags_option}
use Rattle.mh_try.specs.declared.tried.Chosen.{Chosen}
use Rattle.mh_try.specs.Tried.{late_of, tags_of}

pub record IsChosen (start late : List ℕ) (day : ℕ) (c : Chosen) : Type 0 where
  pub begins : c.start.items ≡ start
  pub awaits : late_of c ≡ Some late
  pub plain : tags_of c ≡ None
  pub date : c.mjd ≡ day

pub record AreOptions (start late : List ℕ) (day : ℕ) (lenient : Bool) (o : Options) : Type 0 where
  pub begins : o.start.items ≡ start
  pub awaits : late_option o ≡ Some late
  pub plain : tags_option o ≡ None
  pub date : o.mjd ≡ day
  pub judged : o.lenient ≡ lenient
