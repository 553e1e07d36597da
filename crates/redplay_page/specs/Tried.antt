-- Traces, coverages and scripts that lead to a fault: what `redtry trace`, `cover` and `find` print.
use Rattle.std.specs.Prelude.{◌≡◌, ℕ, ◌-◌, ◌^◌, Bool, true, false, List, [], ◌∷◌, None}
use Rattle.mh_crossing.specs.Files.{File}
use Rattle.mh_find.specs.declared.goal.Goal.TheVariants as goal
use Rattle.mh_trace.specs.declared.form.Form.{Form}
use Rattle.mh_trace.specs.declared.form.Form.TheVariants as form
use Rattle.mh_trace.specs.declared.form.Telling.{Telling}
use Rattle.mh_try.specs.declared.tried.Chosen.{Chosen}
use Rattle.mh_try.specs.Led.{LeadsTo}
use Rattle.mh_try.specs.Tried.{cover_read, trace_read}
use Rattle.redplay_page.specs.Chosen.{IsChosen}
use Rattle.redplay_page.specs.Told.{IsGiven}

abbrev pub form_of : Bool → Form
form_of true = form.Json
form_of false = form.Text

-- all steps
abbrev pub telling_all : Bool → Telling
telling_all objects = record { form = form_of objects; from = 1; until = 2 ^ 64 - 1 }

-- the trace of a script, as lines or as objects
pub record AreTraced (start late script : List ℕ) (day : ℕ) (objects : Bool) (files : List File) (text : List ℕ) (n : ℕ) : Type 0 where
  pub chosen : Chosen
  pub is : IsChosen start late day chosen
  pub meant : IsGiven (trace_read (telling_all objects) chosen None files script) text n

-- what it covers
pub record AreCovered (start late script : List ℕ) (day : ℕ) (files : List File) (text : List ℕ) (n : ℕ) : Type 0 where
  pub chosen : Chosen
  pub is : IsChosen start late day chosen
  pub meant : IsGiven (cover_read false chosen files (script ∷ [])) text n

-- where a script was found, it leads to a fault
pub record AreSought (start late : List ℕ) (day : ℕ) (files : List File) (text : List ℕ) (n : ℕ) : Type 0 where
  pub chosen : Chosen
  pub is : IsChosen start late day chosen
  pub leads : n ≡ 0 → LeadsTo goal.Fault chosen files text
