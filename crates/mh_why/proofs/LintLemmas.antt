-- What the lines on a service say.
use Rattle.std.specs.Prelude.{◌≡◌, ℕ, List, [], None, Result, Ok, Err, IfOk}
use Rattle.std.proofs.Common.{inl, inr, ap, subst, sym, ◌∙◌}
use Rattle.mh_model.specs.Service.{Service}
use Rattle.mh_laws.specs.Budget.{Bounds}
use Rattle.mh_laws.specs.Flow.{Flow}
use Rattle.mh_flow.specs.Solved.{Solved, flow_in}
use Rattle.mh_lint.specs.declared.lint.Asked.{Asked}
use Rattle.mh_lint.specs.Laws.{FindingsNeverHappen}
use Rattle.mh_lint.specs.Lint.{IsLintText}
use Rattle.mh_told.specs.declared.unplayable.Unplayable.{Unplayable}
use Rattle.mh_told.specs.declared.unplayable.Unplayable.TheVariants as unplayable
use Rattle.mh_told.specs.Reading.{Fails, Source as File}
use Rattle.mh_verify.specs.declared.refusal.Refusal.{Refusal}
use Rattle.mh_verify.specs.declared.refusal.RefusalKind.TheVariants as kind
use Rattle.mh_verify.specs.Free.{IsAcceptedBy, most_cost}
use Rattle.mh_verify.specs.Order.{IsTold, Names}
use Rattle.mh_why.specs.Lint.{AreLinesOn, IsLintOf}
use Rattle.mh_why.proofs.VerdictLemmas.{unreadable_so}

-- the flow by which a service is accepted is the one by which the lines were found
pub lines_so : FindingsNeverHappen → (q : Asked) (v w : Service) (fs : List File) (f : Solved) (b : Bounds) (text : List ℕ)
    → w ≡ v → IsAcceptedBy v f b → IsLintText q w (flow_in w f) fs text → IsLintOf q v fs text
lines_so law q v w fs f b text same k told =
    let whole = subst (λ (x : Service). IsLintText q x (flow_in x f) fs text) same told in
    let here = subst (λ (x : Flow). IsLintText q v x fs text) (sym k.by) whole in
    record {
      accepted = k.accepted;
      alive = here.alive;
      is = here.is;
      lines = here.lines;
      never = law most_cost v k.accepted here.alive here.is q.all;
    }

pub kept_ok : {T E : Type 0} {P Q : T → Type 0} (r : Result T E) → ((x : T) → P x → Q x) → IfOk r P → IfOk r Q
kept_ok (Ok x) f h = f x h
kept_ok (Err e) f h = h

service_same : (s t : Service) → ◌≡◌ {A = Result Service Unplayable} (Ok s) (Ok t) → s ≡ t
service_same s t e = cc

-- there are none of a service that is refused
pub refused_none : (q : Asked) (fs : List File) (s : Service) (r : Refusal) → IsTold s [] r → (r.kind ≡ kind.NoMemory → ⊥) → AreLinesOn q fs (Ok s) None
refused_none q fs s r (inl first) other = λ t e. subst (λ (x : Service). (m : Refusal) × Names x [] m) (service_same s t e) (r, first)
refused_none q fs s r (inr same) other = absurd (other (ap (λ (x : Refusal). x.kind) same))

no_service : (why : Unplayable) (t : Service) → ◌≡◌ {A = Result Service Unplayable} (Err why) (Ok t) → ⊥
no_service why t e = absurd cc

-- nor of files that make no service
pub unread_none : (q : Asked) (fs : List File) (why : Unplayable) (read : Result Service Unplayable) → Fails why read → (why ≡ unplayable.NoMemory → ⊥) → AreLinesOn q fs read None
unread_none q fs why read so other = λ t e. absurd (no_service why t (sym (unreadable_so why read so other) ∙ e))
