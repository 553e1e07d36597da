-- What is found of a service that the verifier refuses, behind its refusal: what is wrong at other places, with what else is
-- wrong and may be why.
use Rattle.std.specs.Prelude.{ℕ, List, [], ◌∷◌, ◌++◌, codes, drop, map, Option, Some, None, unwrap_or}
use Rattle.std.specs.Str.Lossy.{utf8_lossy}
use Rattle.mh_cause.specs.declared.detail.Detail.{Detail}
use Rattle.mh_cause.specs.declared.detail.Detail.TheVariants as detail
use Rattle.mh_cause.specs.Refusing.{Refused}
use Rattle.mh_findings.specs.declared.finding.Finding.{Finding}
use Rattle.mh_findings.specs.declared.finding.Grade.TheVariants as grade
use Rattle.mh_findings.specs.declared.finding.Related.{Related}
use Rattle.mh_findings.specs.declared.finding.Site.{Site}
use Rattle.mh_model.specs.Service.{Service}
use Rattle.mh_refusals.specs.declared.told.Told.{Told}
use Rattle.mh_refusals.specs.Causes.{cause_of}
use Rattle.mh_told.specs.Reading.{Source as File}
use Rattle.mh_verify.specs.declared.refusal.Refusal.{Refusal}
use Rattle.mh_verify.specs.Order.{refusal_of}
use Rattle.mh_verify.specs.Kinds.{kind_number}
use Rattle.mh_why.specs.Cases.{holder_of, refusal_detail}
use Rattle.mh_judged.specs.Advised.{found_as}
use Rattle.mh_judged.specs.Places.{part_site}
use Rattle.mh_judged.specs.Refusals.{link_related, named_related, refusal_advice, rule_of_kind}

-- as if the verifier had refused it for this
abbrev pub refusal_told : Service → Told → Refusal
refusal_told s t = refusal_of s t.found (record { chain = t.chain; at = t.found.object })

-- what is known of it
abbrev pub refused_by : Told → Refused
refused_by t = record {
  number = unwrap_or (kind_number t.found.kind) 0;
  group = t.found.place.group;
  object = t.found.place.object;
  index = t.found.place.index;
  action = t.found.action;
  at = t.found.object;
  holder = holder_of t.chain;
}

-- what else is refused and may be why

abbrev pub cause_at : List ℕ → List File → Told → Related
cause_at folder fs t =
    record { at = part_site folder fs t.found.place detail.Unknown; what = utf8_lossy (codes "what is refused here may be why") }

abbrev pub cause_related : List ℕ → List File → Option Told → List Related
cause_related folder fs None = []
cause_related folder fs (Some t) = cause_at folder fs t ∷ []

-- the object that is named, the links, and what may be why
unfoldable pub related_told : List ℕ → List File → List Told → Told → List Related
related_told folder fs ts t =
    named_related folder fs (Some t.found.object) ++ map (link_related folder fs) t.chain
    ++ cause_related folder fs (cause_of ts t)

abbrev pub told_site : List ℕ → List File → Told → Detail → Site
told_site folder fs t d = part_site folder fs t.found.place d

unfoldable pub told_finding : Service → List ℕ → List File → List Told → Told → Finding
told_finding s folder fs ts t =
    found_as grade.Refused (rule_of_kind t.found.kind) (told_site folder fs t (refusal_detail (refusal_told s t)))
    (refusal_advice (refusal_told s t)) (related_told folder fs ts t)

-- of all but the first, which is the verifier's own
abbrev pub told_findings : Service → List ℕ → List File → List Told → List Finding
told_findings s folder fs ts = map (told_finding s folder fs ts) (drop 1 ts)
