-- How a session begins, and a script that is done.
use Rattle.std.specs.Prelude.{◌≡◌, ℕ, ◌<◌, Bool, true, List, Option, Some, Result, Ok, Err, IfOk}
use Rattle.std.proofs.Common.{sym, subst, lit<, inl, inr}
use Rattle.mh_codec.specs.Tags.{profile}
use Rattle.mh_crossing.specs.Answers.{no_memory, no_script}
use Rattle.mh_crossing.specs.Files.{AreHanded, File, have_paths}
use Rattle.mh_crossing.specs.declared.source.Source.{Source}
use Rattle.mh_script.specs.declared.script.Command.{Command}
use Rattle.mh_told.specs.Reading.{Fails}
use Rattle.mh_told.specs.declared.unplayable.Unplayable.{Unplayable}
use Rattle.mh_told.specs.declared.unplayable.Unplayable.TheVariants as unplayable
use Rattle.mh_try.specs.Tried.{commands_of}
use Rattle.mh_try.specs.declared.tried.Chosen.{Chosen}
use Rattle.redplay_page.specs.Chosen.{IsChosen}
use Rattle.redplay_page.specs.Playing.{HasOpened, IsObeyed, IsOpened, ObeysBy, Playing, opened_with, unopened_number}
use Rattle.redplay_page.specs.Tried.{telling_all}
use Rattle.redplay_page.proofs.ToldLemmas.{failed}
use Rattle.redplay_page.specs.declared.opening.Unopened.{Unopened}
use Rattle.redplay_page.specs.declared.opening.Unopened.TheVariants as unopened

pub opened_so : {E : Type 0} (sources : List Source) (start late : List ℕ) (day : ℕ) (objects : Bool) (files : List File) (c : Chosen) (r : Result Playing E) → have_paths sources ≡ true → AreHanded sources files
    → IsChosen start late day c → IfOk r (λ s. opened_with (telling_all objects) c files profile ≡ Ok s) → IfOk r (λ s. IsOpened sources start late day objects s)
opened_so sources start late day objects files c (Err e) paths same is opened = tt
opened_so sources start late day objects files c (Ok s) paths same is opened =
    record { paths = paths; files = files; same = same; chosen = c; is = is; opened = opened }

pub has_opened : (sources : List Source) (start late : List ℕ) (day : ℕ) (objects : Bool) (s : Playing) (o : Option Playing) → IsOpened sources start late day objects s → o ≡ Some s → HasOpened sources start late day objects o
has_opened sources start late day objects s o opened is = subst (λ (x : Option Playing). HasOpened sources start late day objects x) (sym is) opened

-- no number of these is 0
pub unopened_some : (w : Unopened) → 0 < unopened_number w
unopened_some unopened.NoMemory = lit< tt
unopened_some unopened.NoDay = lit< tt
unopened_some unopened.NoPath = lit< tt
unopened_some unopened.Unread = lit< tt

-- the commands of the script were done
pub obeyed_so : (script : List ℕ) (cs : List Command) (s t : Playing) (n : ℕ) → commands_of profile s.tracing.state.service.files script ≡ Ok cs → ObeysBy (Ok cs) s t n → IsObeyed script s t n
obeyed_so script cs s t n is so = subst (λ (r : Result (List Command) Unplayable). ObeysBy r s t n) (sym is) so

-- a line of it says none
pub unread_so : (script : List ℕ) (e : Unplayable) (s t : Playing) (n : ℕ) → Fails e (commands_of profile s.tracing.state.service.files script) → (e ≡ unplayable.NoMemory → ⊥) → n ≡ no_script → t ≡ s
    → IsObeyed script s t n
unread_so script e s t n fails other number same =
    subst (λ (r : Result (List Command) Unplayable). ObeysBy r s t n) (sym (failed (commands_of profile s.tracing.state.service.files script) e fails other)) (inl number, same)

-- or memory was refused
starved : (r : Result (List Command) Unplayable) (s t : Playing) (n : ℕ) → n ≡ no_memory → t ≡ s → ObeysBy r s t n
starved (Ok cs) s t n number same = ((λ good. cc), λ some. number)
starved (Err why) s t n number same = (inr number, same)

pub starved_so : (script : List ℕ) (s t : Playing) (n : ℕ) → n ≡ no_memory → t ≡ s → IsObeyed script s t n
starved_so script s t n number same = starved (commands_of profile s.tracing.state.service.files script) s t n number same
