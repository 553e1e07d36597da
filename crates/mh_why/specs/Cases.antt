-- The cause and the mend of a refusal, by its case.
use Rattle.std.specs.Prelude.{ℕ, ◌-◌, ◌==◌, Bool, false, true, if◌then◌else◌, List, [], ◌∷◌, ◌++◌, length, slice_get, codes, Option, Some, None, unwrap_or}
use Rattle.std.specs.Fmt.{decimal}
use Rattle.std.specs.List.{list_any}
use Rattle.std.specs.Option.{option_map}
use Rattle.mh_base.specs.declared.obj_ref.ObjRef.{ObjRef}
use Rattle.mh_cause.specs.declared.detail.Detail.{Detail}
use Rattle.mh_cause.specs.declared.detail.Detail.TheVariants as detail
use Rattle.mh_cause.specs.Causes.{cause, mend}
use Rattle.mh_cause.specs.Details.{detail_of}
use Rattle.mh_cause.specs.Refusing.{Refused}
use Rattle.mh_flow.specs.declared.chain.link.Link.{Link}
use Rattle.mh_layers.specs.declared.arrows.arrow.Arrow.{Arrow}
use Rattle.mh_layers.specs.declared.arrows.arrow.By.{By}
use Rattle.mh_layers.specs.declared.arrows.arrow.By.TheVariants as by
use Rattle.mh_layers.specs.declared.bounds.InputKind.{InputKind}
use Rattle.mh_layers.specs.Bounding.{kind_word}
use Rattle.mh_verify.specs.declared.refusal.Place.{Place}
use Rattle.mh_verify.specs.declared.refusal.Refusal.{Refusal}
use Rattle.mh_verify.specs.declared.refusal.RefusalKind.{RefusalKind}
use Rattle.mh_verify.specs.declared.refusal.RefusalKind.TheVariants as refusal
use Rattle.mh_verify.specs.Kinds.{kind_number}
use Rattle.mh_why.specs.declared.explanation.case.TheConstants as told
use Rattle.mh_why.specs.Advice.{advice, refusals}
use Rattle.mh_why.specs.Wrapping.{paragraph}

-- the variable or the list in which the last link of a chain puts a reference
abbrev pub holder_of : List Link → Option ObjRef
holder_of chain = option_map (λ (l : Link). l.written) (slice_get chain (length chain - 1))

abbrev pub refused_at : Refusal → Option Place → Option ObjRef → Option Refused
refused_at r (Some p) (Some at) =
    Some (record {
      number = unwrap_or (kind_number r.kind) 0;
      group = p.group;
      object = p.object;
      index = p.index;
      action = r.action;
      at = at;
      holder = holder_of r.chain;
    })
refused_at r p at = None

-- what is known of a refusal that names a reference
abbrev pub refused_of : Refusal → Option Refused
refused_of r = refused_at r r.place r.object

-- none where the case is not known

-- effects that put each other to work

unfoldable pub cycle_cause : ℕ → List ℕ
cycle_cause n = if n == 1 then told.ONE_EFFECT.now else codes "these " ++ decimal n ++ told.SEVERAL_EFFECTS.now

-- too many steps
unfoldable pub steps_cause : InputKind → List ℕ
steps_cause i = told.AN_INPUT.now ++ kind_word i ++ told.TOO_MANY.now

-- a refusal that names no reference
abbrev pub plain_cause : RefusalKind → ℕ → List ℕ
plain_cause refusal.Cycle n = cycle_cause n
plain_cause (refusal.TooManySteps i) n = steps_cause i
plain_cause k n = []

-- the arrow enters a group, whose OnStartUp is done then
abbrev pub is_entry : By → Bool
is_entry by.Entered = true
is_entry _ = false

abbrev pub enters : Arrow → Bool
enters a = is_entry a.by

unfoldable pub cycle_mend : List Arrow → List ℕ
cycle_mend arrows =
    if list_any enters arrows then told.ENTERED_AGAIN.now
    else (if length arrows == 1 then told.ALONE_OUTSIDE.now else told.WAIT_OUTSIDE.now)

abbrev pub plain_mend : RefusalKind → List Arrow → List ℕ
plain_mend refusal.Cycle arrows = cycle_mend arrows
plain_mend (refusal.TooManySteps i) arrows = told.HAVE_FEWER.now
plain_mend k arrows = []

abbrev pub cause_for : Refusal → Option Refused → List ℕ
cause_for r None = plain_cause r.kind (length r.cycle)
cause_for r (Some known) = cause r.service known

abbrev pub mend_for : Refusal → Option Refused → List ℕ
mend_for r None = plain_mend r.kind r.cycle
mend_for r (Some known) = mend r.service known

unfoldable pub refusal_cause : Refusal → List ℕ
refusal_cause r = cause_for r (refused_of r)

unfoldable pub refusal_mend : Refusal → List ℕ
refusal_mend r = mend_for r (refused_of r)

-- which part of the action is wrong

abbrev pub detail_for : Refusal → Option Refused → Detail
detail_for r None = detail.Unknown
detail_for r (Some known) = detail_of r.service known

unfoldable pub refusal_detail : Refusal → Detail
refusal_detail r = detail_for r (refused_of r)

-- what is told of a refusal with this number, where these are known of its case

unfoldable pub case_words : List ℕ → List ℕ → List ℕ
case_words cause mend = paragraph (codes "  Cause: " ++ cause ++ codes ".") ++ paragraph (codes "  Mend: " ++ mend ++ codes ".")

-- the verifier's numbers begin with V
abbrev pub is_verdict : List ℕ → Bool
is_verdict [] = false
is_verdict (b ∷ bs) = b == 86

unfoldable pub case_advice : List ℕ → List ℕ → List ℕ → List ℕ
case_advice cause mend number = by_case cause
  where
    by_case : List ℕ → List ℕ
    by_case [] = advice refusals number
    by_case (b ∷ bs) = if is_verdict number then case_words (b ∷ bs) mend else advice refusals number
