-- What the list of an accepted service, and of one that is refused, says.
use Rattle.std.specs.Prelude.{◌≡◌, ℕ, List, [], ◌∷◌, Result, Ok, Err, IfOk, refl}
use Rattle.std.proofs.Common.{inl, inr, ap, subst, sym}
use Rattle.mh_findings.specs.declared.finding.Finding.{Finding}
use Rattle.mh_model.specs.Service.{Service}
use Rattle.mh_laws.specs.Budget.{Bounds}
use Rattle.mh_laws.specs.Flow.{Flow}
use Rattle.mh_flow.specs.Equipment.{equipped}
use Rattle.mh_flow.specs.Solved.{Solved, flow_in}
use Rattle.mh_lint.specs.declared.lint.Asked.{Asked}
use Rattle.mh_lint.specs.Laws.{FindingsNeverHappen}
use Rattle.mh_told.specs.declared.unplayable.Unplayable.{Unplayable}
use Rattle.mh_told.specs.declared.unplayable.Unplayable.TheVariants as unplayable
use Rattle.mh_told.specs.Reading.{Fails, Source as File}
use Rattle.mh_verify.specs.declared.refusal.Refusal.{Refusal}
use Rattle.mh_verify.specs.declared.refusal.RefusalKind.TheVariants as kind
use Rattle.mh_verify.specs.Free.{IsAcceptedBy, most_cost}
use Rattle.mh_verify.specs.Order.{IsTold}
use Rattle.mh_judged.specs.Accepted.{IsAcceptedList, IsList}
use Rattle.mh_judged.specs.Judged.{IsListBehind, IsListOf, IsServiceList}
use Rattle.mh_judged.specs.Unread.{unread_findings}

-- the flow by which a service is accepted is the one by which the list was made
pub list_so : FindingsNeverHappen → (q : Asked) (v w : Service) (folder : List ℕ) (fs : List File) (f : Solved) (b : Bounds) (found : List Finding)
    → w ≡ v → IsAcceptedBy v f b → IsList q w (flow_in w f) folder fs found → IsAcceptedList q v folder fs found
list_so law q v w folder fs f b found same k told =
    let whole = subst (λ (x : Service). IsList q x (flow_in x f) folder fs found) same told in
    let here = subst (λ (x : Flow). IsList q v x folder fs found) (sym k.by) whole in
    record {
      accepted = k.accepted;
      alive = here.alive;
      is = here.is;
      list = here.list;
      never = law most_cost v k.accepted here.alive here.is q.all;
    }

pub kept_ok : {T E : Type 0} {P Q : T → Type 0} (r : Result T E) → ((x : T) → P x → Q x) → IfOk r P → IfOk r Q
kept_ok (Ok x) f h = f x h
kept_ok (Err e) f h = h

-- a refusal that is not for want of memory names what comes first
pub refused_so : (q : Asked) (most : ℕ) (folder : List ℕ) (fs : List File) (start : List ℕ) (v : Service) (r : Refusal) (found : List Finding)
    → IsTold v [] r → (r.kind ≡ kind.NoMemory → ⊥) → IsListBehind most folder fs start r found → IsServiceList q most v folder fs start found
refused_so q most folder fs start v r found (inl first) other list = IsServiceList.refused (record { refusal = r; names = first; list = list })
refused_so q most folder fs start v r found (inr same) other list = absurd (other (ap (λ (x : Refusal). x.kind) same))

pub accepted_so : (q : Asked) (most : ℕ) (folder : List ℕ) (fs : List File) (start : List ℕ) (v w : Service) (found : List Finding)
    → w ≡ equipped v [] → IsAcceptedList q w folder fs found → IsServiceList q most v folder fs start found
accepted_so q most folder fs start v w found same list = IsServiceList.accepted (subst (λ (x : Service). IsAcceptedList q x folder fs found) same list)

-- what is not read is what the reading says
pub unread_so : (q : Asked) (most : ℕ) (given folder : List ℕ) (fs : List File) (start : List ℕ) (why : Unplayable) (r : Result Service Unplayable) (found : List Finding)
    → Fails why r → (why ≡ unplayable.NoMemory → ⊥) → found ≡ unread_findings given folder fs why → IsListOf q most given folder fs start r found
unread_so q most given folder fs start why r found so other list = subst (λ (x : Result Service Unplayable). IsListOf q most given folder fs start x found) (sym (error_so why r so other)) list
  where
    error_so : (why : Unplayable) (r : Result Service Unplayable) → Fails why r → (why ≡ unplayable.NoMemory → ⊥) → r ≡ Err why
    error_so (unplayable.File name number offset) r so other = so
    error_so (unplayable.Service number group) r so other = so
    error_so (unplayable.Tags number place) r so other = so
    error_so (unplayable.Script number) r so other = so
    error_so unplayable.NoMemory r so other = absurd (other refl)
