-- Traces, coverages and scripts that lead to a fault.
use Rattle.std.specs.Prelude.{◌≡◌, ℕ, Bool, false, List, [], ◌∷◌, Option, Some, None, Result, Ok, Err, IfOk, IfSome, IsOkAnd}
use Rattle.std.proofs.Common.{subst}
use Rattle.mh_crossing.specs.Files.{File}
use Rattle.mh_find.specs.declared.goal.Goal.TheVariants as goal
use Rattle.mh_told.specs.declared.unplayable.Unplayable.{Unplayable}
use Rattle.mh_trace.specs.declared.form.Telling.{Telling}
use Rattle.mh_try.specs.declared.tried.Chosen.{Chosen}
use Rattle.mh_try.specs.Led.{LeadsTo}
use Rattle.mh_try.specs.Tried.{cover_read, trace_read}
use Rattle.redplay_page.specs.Chosen.{IsChosen}
use Rattle.redplay_page.specs.Told.{IsGiven}
use Rattle.redplay_page.specs.Tried.{AreCovered, AreSought, AreTraced, telling_all}
use Rattle.redplay_page.specs.declared.told.Told.{Told}

pub traced_so : {E : Type 0} (start late script : List ℕ) (day : ℕ) (objects : Bool) (files : List File) (c : Chosen) (x : Telling) (r : Result Told E) → IsChosen start late day c → x ≡ telling_all objects
    → IfOk r (λ t. IsGiven (trace_read x c None files script) t.bytes.items t.number) → IfOk r (λ t. AreTraced start late script day objects files t.bytes.items t.number)
traced_so start late script day objects files c x (Err e) is all given = tt
traced_so start late script day objects files c x (Ok t) is all given =
    record { chosen = c; is = is; meant = subst (λ (y : Telling). IsGiven (trace_read y c None files script) t.bytes.items t.number) all given }

pub covered_so : {E : Type 0} (start late script : List ℕ) (day : ℕ) (files : List File) (c : Chosen) (scripts : List (List ℕ)) (r : Result Told E) → IsChosen start late day c → scripts ≡ script ∷ []
    → IfOk r (λ t. IsGiven (cover_read false c files scripts) t.bytes.items t.number) → IfOk r (λ t. AreCovered start late script day files t.bytes.items t.number)
covered_so start late script day files c scripts (Err e) is one given = tt
covered_so start late script day files c scripts (Ok t) is one given =
    record { chosen = c; is = is; meant = subst (λ (ss : List (List ℕ)). IsGiven (cover_read false c files ss) t.bytes.items t.number) one given }

-- a script that was found
leads : (P : List ℕ → Type 0) (sought : Result (Option (List ℕ)) Unplayable) (text : List ℕ) → IfOk sought (λ found. IfSome found P) → IsOkAnd sought (λ found. found ≡ Some text) → P text
leads P (Ok found) text each is = subst (λ (o : Option (List ℕ)). IfSome o P) is each
leads P (Err e) text each is = absurd is

pub sought_so : {E : Type 0} (start late : List ℕ) (day : ℕ) (files : List File) (c : Chosen) (sought : Result (Option (List ℕ)) Unplayable) (r : Result Told E) → IsChosen start late day c
    → IfOk sought (λ found. IfSome found (λ script. LeadsTo goal.Fault c files script)) → IfOk r (λ t. t.number ≡ 0 → IsOkAnd sought (λ found. found ≡ Some t.bytes.items))
    → IfOk r (λ t. AreSought start late day files t.bytes.items t.number)
sought_so start late day files c sought (Err e) is each found = tt
sought_so start late day files c sought (Ok t) is each found =
    record { chosen = c; is = is; leads = λ good. leads (λ script. LeadsTo goal.Fault c files script) sought t.bytes.items each (found good) }
