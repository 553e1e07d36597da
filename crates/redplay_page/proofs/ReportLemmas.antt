-- Verdicts, reports and conversions, by what the calls behind them have written.
use Rattle.std.specs.Prelude.{◌≡◌, ℕ, Bool, false, List, [], ◌++◌, Option, Some, Result, Ok, Err, IfOk, IsOkAnd}
use Rattle.std.proofs.Common.{ap, ◌∙◌, sym, subst}
use Rattle.mh_crossing.specs.Files.{File}
use Rattle.mh_report.specs.Converted.{Converts, converted}
use Rattle.mh_report.specs.Played.{Checks, HasWritten, Plays}
use Rattle.mh_report.specs.Reading.{chosen_service, readied}
use Rattle.mh_report.specs.Report.{exit_code}
use Rattle.mh_report.specs.declared.convert.Notation.{Notation}
use Rattle.mh_report.specs.declared.options.Options.{Options}
use Rattle.mh_report.specs.declared.status.Status.{Status}
use Rattle.redplay_page.specs.Chosen.{AreOptions}
use Rattle.redplay_page.specs.Reports.{AreChecked, AreReported, IsConverted, notation_of}
use Rattle.redplay_page.specs.Told.{IsEnded}
use Rattle.redplay_page.specs.declared.told.Told.{Told}

-- what was written into an empty list is a whole report
whole : (Means : List ℕ → Status → Type 0) (before bytes : List ℕ) (how : Status) (n : ℕ) → before ≡ [] → HasWritten Means (Some before) (Some bytes) how → n ≡ exit_code how → IsEnded Means bytes n
whole Means before bytes how n empty w number =
    let same : w.report ≡ bytes = sym (w.taken ∙ ap (λ (front : List ℕ). front ++ w.report) empty) in
    record { how = how; meant = subst (λ (text : List ℕ). Means text how) same w.meant; number = number }

ended_so : {E F : Type 0} (Means : List ℕ → Status → Type 0) (before bytes : List ℕ) (written : Result Status E) (r : Result Told F) → before ≡ [] → IfOk written (HasWritten Means (Some before) (Some bytes))
    → IfOk r (λ t. t.bytes.items ≡ bytes) → IfOk r (λ t. IsOkAnd written (λ how. t.number ≡ exit_code how)) → IfOk r (λ t. IsEnded Means t.bytes.items t.number)
ended_so Means before bytes written (Err e) empty meant same number = tt
ended_so Means before bytes (Ok how) (Ok t) empty meant same number =
    subst (λ (text : List ℕ). IsEnded Means text t.number) (sym same) (whole Means before bytes how t.number empty meant number)
ended_so Means before bytes (Err e) (Ok t) empty meant same number = absurd number

pub checked_so : {E F : Type 0} (start late : List ℕ) (files : List File) (o : Options) (before bytes : List ℕ) (written : Result Status E) (r : Result Told F) → AreOptions start late 0 false o → before ≡ []
    → IfOk written (HasWritten (Checks (chosen_service o files)) (Some before) (Some bytes)) → IfOk r (λ t. t.bytes.items ≡ bytes) → IfOk r (λ t. IsOkAnd written (λ how. t.number ≡ exit_code how))
    → IfOk r (λ t. AreChecked start late files t.bytes.items t.number)
checked_so start late files o before bytes written (Err e) is empty meant same number = tt
checked_so {E} {F} start late files o before bytes written (Ok t) is empty meant same number =
    record { options = o; chosen = is; meant = ended_so {F = F} (Checks (chosen_service o files)) before bytes written (Ok t) empty meant same number }

pub reported_so : {E F : Type 0} (start late script : List ℕ) (day : ℕ) (lenient : Bool) (files : List File) (o : Options) (before bytes : List ℕ) (written : Result Status E) (r : Result Told F)
    → AreOptions start late day lenient o → before ≡ [] → IfOk written (HasWritten (Plays o.mjd o.lenient (readied o files script)) (Some before) (Some bytes)) → IfOk r (λ t. t.bytes.items ≡ bytes)
    → IfOk r (λ t. IsOkAnd written (λ how. t.number ≡ exit_code how)) → IfOk r (λ t. AreReported start late script day lenient files t.bytes.items t.number)
reported_so start late script day lenient files o before bytes written (Err e) is empty meant same number = tt
reported_so {E} {F} start late script day lenient files o before bytes written (Ok t) is empty meant same number =
    record { options = o; chosen = is; meant = ended_so {F = F} (Plays o.mjd o.lenient (readied o files script)) before bytes written (Ok t) empty meant same number }

pub converted_so : {E F : Type 0} (name bytes : List ℕ) (binary : Bool) (to : Notation) (o : Options) (before after : List ℕ) (written : Result Status E) (r : Result Told F) → AreOptions [] [] 0 false o
    → to ≡ notation_of binary → before ≡ [] → IfOk written (HasWritten (Converts (converted o to name bytes)) (Some before) (Some after)) → IfOk r (λ t. t.bytes.items ≡ after)
    → IfOk r (λ t. IsOkAnd written (λ how. t.number ≡ exit_code how)) → IfOk r (λ t. IsConverted name bytes binary t.bytes.items t.number)
converted_so name bytes binary to o before after written (Err e) is by empty meant same number = tt
converted_so {E} {F} name bytes binary to o before after written (Ok t) is by empty meant same number =
    record {
      options = o;
      chosen = is;
      meant = subst (λ (x : Notation). IsEnded (Converts (converted o x name bytes)) t.bytes.items t.number) by
          (ended_so {F = F} (Converts (converted o to name bytes)) before after written (Ok t) empty meant same number);
    }
