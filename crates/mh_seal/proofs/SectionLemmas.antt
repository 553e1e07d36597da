-- A seal's text from the start on: what was read of it, and where it breaks off.
use Rattle.std.specs.Prelude.{◌≡◌, ◌+◌, ◌++◌, ◌∷◌, Bool, List, [], codes, length, refl, true, ℕ}
use Rattle.std.specs.Cmp.Derive.{both_true}
use Rattle.std.proofs.Common.{ap, sym, ◌∙◌}
use Rattle.mh_base.specs.Path.{has_good_parts, is_path}
use Rattle.mh_seal.specs.declared.seal.Seal.{Seal}
use Rattle.mh_seal.specs.declared.seal.SealedBounds.{SealedBounds}
use Rattle.mh_seal.specs.declared.seal.SealedGroup.{SealedGroup}
use Rattle.mh_seal.specs.declared.seal_error.SealError.{SealError}
use Rattle.mh_seal.specs.Breaking.{IsBreak}
use Rattle.mh_seal.specs.Lines.{AreLines, HasLine, HasNoLine, IsMissing}
use Rattle.mh_seal.specs.Reading.{is_group, is_seal}
use Rattle.mh_seal.specs.Sections.{Ending, body, ending, is_ending}
use Rattle.mh_seal.specs.Text.{as_is, bounds_text, group_value, line, lines}
use Rattle.mh_seal.proofs.BreakLemmas.{all_break, behind_break, carried_break, here_break, many_good, many_text, one_good, one_text}
use Rattle.mh_seal.proofs.LineLemmas.{first_lines, is_first, no_line, wider}
use Rattle.mh_seal.proofs.ValueLemmas.{plain_name}
use Rattle.mh_seal.proofs.EndingLemmas.{some_digest}
use Rattle.mh_seal.proofs.GroupLemmas.{plain_group}

-- From the start

-- with what the parts begin

first_ending : (e : Ending) → is_first (98 ∷ []) (ending e) ≡ true
unfolding ending bounds_text line
first_ending e = refl

first_contents : (p : List (List ℕ) × Ending) → is_first (99 ∷ 98 ∷ []) (many_text (codes "content ") as_is ending p) ≡ true
first_contents p = first_lines as_is 99 (codes "ontent ") (99 ∷ 98 ∷ []) (ending p.1) p.0 refl (wider 99 (98 ∷ []) (ending p.1) (first_ending p.1))

pub no_content : (e : Ending) → HasNoLine is_path as_is (codes "content ") (ending e)
no_content e = no_line is_path as_is 99 (codes "ontent ") (98 ∷ []) (ending e) (first_ending e) refl

pub no_group : (p : List (List ℕ) × Ending) → HasNoLine is_group group_value (codes "group ") (many_text (codes "content ") as_is ending p)
no_group p = no_line is_group group_value 103 (codes "roup ") (99 ∷ 98 ∷ []) (many_text (codes "content ") as_is ending p) (first_contents p) refl

abbrev Contents : Type 0
Contents = List (List ℕ) × Ending

abbrev Groups : Type 0
Groups = List SealedGroup × Contents

abbrev are_contents : Contents → Bool
are_contents p = many_good is_path is_ending p

abbrev contents_text : Contents → List ℕ
contents_text p = many_text (codes "content ") as_is ending p

abbrev are_groups : Groups → Bool
are_groups p = many_good is_group are_contents p

abbrev groups_text : Groups → List ℕ
groups_text p = many_text (codes "group ") group_value contents_text p

abbrev some_bounds : SealedBounds
some_bounds = record { start = 0; key = 0; tick = 0; stream = 0; engine = 0; arrive = 0 }

abbrev pub some_groups : Groups
some_groups = ([], ([], (some_bounds, some_digest)))

-- some name
pub is_name : is_path (97 ∷ []) ≡ true
unfolding has_good_parts
is_name = refl

-- the start, and what stands behind it
pub in_body : (s : Seal) → one_text (codes "start ") as_is groups_text (s.start, (s.groups, (s.contents, (s.bounds, s.tags)))) ≡ body s
unfolding body
in_body s = refl

as_body : (first : ℕ) (bytes : List ℕ) (e : SealError) → IsBreak (one_good is_path are_groups) (one_text (codes "start ") as_is groups_text) first bytes e → IsBreak is_seal body first bytes e
as_body first bytes e h = carried_break (one_good is_path are_groups) (one_text (codes "start ") as_is groups_text) is_seal body first bytes e to (λ s g. ((s.start, (s.groups, (s.contents, (s.bounds, s.tags)))), g, in_body s)) h
  where
    to : (p : List ℕ × Groups) → one_good is_path are_groups p ≡ true → (s : Seal) × (is_seal s ≡ true) × (body s ≡ one_text (codes "start ") as_is groups_text p)
    to (start, (groups, (contents, (bounds, tags)))) g =
        let s : Seal = record { start = start; groups = groups; contents = contents; bounds = bounds; tags = tags } in
        (s, g, sym (in_body s))

pub no_start : (first : ℕ) (bytes : List ℕ) (e : SealError) → IsMissing is_path as_is (codes "start ") first bytes e → IsBreak is_seal body first bytes e
no_start first bytes e h = as_body first bytes e (here_break (codes "start ") is_path as_is refl plain_name are_groups groups_text (97 ∷ []) some_groups first bytes e is_name refl h)

pub no_ending : (first second third fourth : ℕ) (bytes r1 r2 r3 start : List ℕ) (groups : List SealedGroup) (contents : List (List ℕ)) (e : SealError) →
    HasLine is_path as_is (codes "start ") bytes start r1 → second ≡ first + 1 →
    AreLines is_group group_value (codes "group ") r1 groups r2 → third ≡ second + length groups →
    AreLines is_path as_is (codes "content ") r2 contents r3 → fourth ≡ third + length contents →
    IsBreak is_ending ending fourth r3 e → IsBreak is_seal body first bytes e
no_ending first second third fourth bytes r1 r2 r3 start groups contents e s l g m c n h =
    as_body first bytes e
    (behind_break (codes "start ") is_path as_is refl plain_name are_groups groups_text start first second bytes r1 e s l
    (all_break (codes "group ") is_group group_value refl plain_group are_contents contents_text (λ x k. no_group x) groups second third r1 r2 e g m
    (all_break (codes "content ") is_path as_is refl plain_name is_ending ending (λ x k. no_content x) contents third fourth r2 r3 e c n h)))

pub body_read : (bytes r1 r2 r3 start tags : List ℕ) (groups : List SealedGroup) (contents : List (List ℕ)) (bounds : SealedBounds) →
    HasLine is_path as_is (codes "start ") bytes start r1 → AreLines is_group group_value (codes "group ") r1 groups r2 →
    AreLines is_path as_is (codes "content ") r2 contents r3 → (is_ending (bounds, tags) ≡ true) × (r3 ≡ ending (bounds, tags)) →
    (is_seal (record { start = start; groups = groups; contents = contents; bounds = bounds; tags = tags }) ≡ true)
    × (bytes ≡ body (record { start = start; groups = groups; contents = contents; bounds = bounds; tags = tags }))
body_read bytes r1 r2 r3 start tags groups contents bounds s g c e = (
  both_true s.0 (both_true g.0 (both_true c.0 e.0)),
  s.1 ∙ ap (λ (t : List ℕ). line (codes "start ") start ++ t) (g.1 ∙ ap (λ (t : List ℕ). lines (codes "group ") group_value groups ++ t) (c.1 ∙ ap (λ (t : List ℕ). lines (codes "content ") as_is contents ++ t) e.1))
      ∙ in_body (record { start = start; groups = groups; contents = contents; bounds = bounds; tags = tags }),
)
