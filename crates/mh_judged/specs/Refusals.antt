-- What is found of a service that the verifier refuses: its refusal, with the object that is named, the links of its chain and
-- the arrows of its circle as related places.
use Rattle.std.specs.Prelude.{ℕ, ◌==◌, if◌then◌else◌, List, [], ◌∷◌, ◌++◌, codes, map, Option, Some, None, unwrap_or}
use Rattle.std.specs.Fmt.{decimal}
use Rattle.std.specs.Str.Lossy.{utf8_lossy}
use Rattle.mh_base.specs.declared.obj_ref.ObjRef.{ObjRef}
use Rattle.mh_cause.specs.declared.detail.Detail.{Detail}
use Rattle.mh_findings.specs.declared.finding.Finding.{Finding}
use Rattle.mh_findings.specs.declared.finding.Grade.TheVariants as grade
use Rattle.mh_findings.specs.declared.finding.Related.{Related}
use Rattle.mh_findings.specs.declared.finding.Site.{Site}
use Rattle.mh_places.specs.declared.span.Span.{Span}
use Rattle.mh_places.specs.Directory.{object_span}
use Rattle.mh_flow.specs.declared.chain.link.Link.{Link}
use Rattle.mh_group.specs.Words.{action_word}
use Rattle.mh_layers.specs.declared.arrows.arrow.Arrow.{Arrow}
use Rattle.mh_told.specs.Reading.{Source as File}
use Rattle.mh_verify.specs.Kinds.{kind_number}
use Rattle.mh_verify.specs.declared.refusal.Place.{Place}
use Rattle.mh_verify.specs.declared.refusal.Refusal.{Refusal}
use Rattle.mh_verify.specs.declared.refusal.RefusalKind.{RefusalKind}
use Rattle.mh_why.specs.Advice.{refusals}
use Rattle.mh_why.specs.Cases.{refusal_cause, refusal_detail, refusal_mend}
use Rattle.mh_why.specs.Circles.{at_words}
use Rattle.mh_judged.specs.declared.advice.Advice.{Advice}
use Rattle.mh_judged.specs.Advised.{advice_in, advised, found_as}
use Rattle.mh_judged.specs.Places.{numbered_site, part_site, site_at}

-- V and the number
unfoldable pub rule_of_kind : RefusalKind → List ℕ
rule_of_kind k = codes "V" ++ decimal (unwrap_or (kind_number k) 0)

abbrev pub rule_of : Refusal → List ℕ
rule_of r = rule_of_kind r.kind

-- by its case; where that is not known, by its number
abbrev pub case_or_row : List ℕ → List ℕ → List ℕ → Advice
case_or_row rule [] mend = advice_in refusals [] rule
case_or_row rule (b ∷ bs) mend = advised (b ∷ bs) mend

unfoldable pub refusal_advice : Refusal → Advice
refusal_advice r = case_or_row (rule_of r) (refusal_cause r) (refusal_mend r)

-- where it is wrong: a part of an action, or a member; of too many steps the application that starts
abbrev pub refused_site : List ℕ → List File → List ℕ → Option Place → Detail → Site
refused_site folder fs start None d = site_at folder start None
refused_site folder fs start (Some p) d = part_site folder fs p d

-- RELATED PLACES

-- the object that is named, where it stands somewhere

abbrev pub named_here : Site → ObjRef → Related
named_here at r = record { at = at; what = utf8_lossy (at_words r ++ codes " is named here") }

abbrev pub named_at : List ℕ → ObjRef → Option Span → List Related
named_at folder r None = []
named_at folder r (Some s) = named_here (site_at folder r.group (Some s)) r ∷ []

abbrev pub named_related : List ℕ → List File → Option ObjRef → List Related
named_related folder fs None = []
named_related folder fs (Some r) = named_at folder r (object_span fs r)

-- a link: an object that has the reference from the start, or an action that brings it somewhere
abbrev pub link_words : Link → List ℕ
link_words l =
    if l.index == 0 then at_words l.key ++ codes " has it from the start"
    else codes "action " ++ decimal l.index ++ codes " of " ++ at_words l.key ++ codes " brings it to " ++ at_words l.written

unfoldable pub link_related : List ℕ → List File → Link → Related
link_related folder fs l = record { at = numbered_site folder fs l.key l.index; what = utf8_lossy (link_words l) }

unfoldable pub arrow_words : Arrow → List ℕ
arrow_words a =
    action_word a.action ++ codes ", action " ++ decimal a.index ++ codes " of " ++ at_words a.cause.at
    ++ codes ", puts the next effect to work"

unfoldable pub arrow_related : List ℕ → List File → Arrow → Related
arrow_related folder fs a = record { at = numbered_site folder fs a.cause.at a.index; what = utf8_lossy (arrow_words a) }

unfoldable pub related_to : List ℕ → List File → Refusal → List Related
related_to folder fs r =
    named_related folder fs r.object ++ map (link_related folder fs) r.chain ++ map (arrow_related folder fs) r.cycle

-- THE FINDING

unfoldable pub refusal_finding : List ℕ → List File → List ℕ → Refusal → Finding
refusal_finding folder fs start r =
    found_as grade.Refused (rule_of r) (refused_site folder fs start r.place (refusal_detail r)) (refusal_advice r) (related_to folder fs r)
