-- The lines of notes, and which notes are told: a rule is turned off for all files, or by a comment in one.
use Rattle.std.specs.Prelude.{◌≡◌, ℕ, ◌-◌, ◌==◌, Bool, false, ◌||◌, if◌then◌else◌, List, [], ◌++◌, codes, slice_get, take, Option, Some, None}
use Rattle.std.specs.List.{flat_map, list_any}
use Rattle.bstr.specs.Text.{lines_of, without_terminator}
use Rattle.mh_base.specs.declared.obj_ref.ObjRef.{ObjRef}
use Rattle.mh_model.specs.Service.{Service}
use Rattle.mh_told.specs.Reading.{Source}
use Rattle.mh_lint.specs.declared.note.Note.{Note}
use Rattle.mh_places.specs.Directory.{action_place}
use Rattle.mh_lint.specs.declared.rule.Allowed.{Allowed}
use Rattle.mh_lint.specs.declared.rule.Rule.{Rule}
use Rattle.mh_lint.specs.declared.rule.Rule.TheVariants as rule
use Rattle.mh_lint.specs.Notes.{ends_in}
use Rattle.mh_lint.specs.Rules.{has, rule_text, rule_word}
use Rattle.mh_lint.specs.Sources.{allow_words, file_of}
use Rattle.mh_lint.specs.Telling.{front_words, object_words, place_words}

-- WHICH ARE TOLD

-- what a line ends in that turns the rule off for its file
unfoldable pub comment_words : Rule → List ℕ
comment_words x = allow_words ++ rule_word x

abbrev pub turns_off : List ℕ → List ℕ → Bool
turns_off words line = ends_in words (without_terminator line)

abbrev pub allows : List ℕ → List ℕ → Bool
allows words bytes = list_any (turns_off words) (lines_of bytes)

-- which rules the comments of a file turn off
unfoldable pub allowed_in : List ℕ → Allowed
allowed_in bs = record {
  editor_backup = allows (comment_words rule.EditorBackup) bs;
  identifier_differs = allows (comment_words rule.IdentifierDiffers) bs;
  unknown_rule = allows (comment_words rule.UnknownRule) bs;
  start_leads_away = allows (comment_words rule.StartLeadsAway) bs;
  not_shared = allows (comment_words rule.NotShared) bs;
  no_actions = allows (comment_words rule.NoActions) bs;
  behind_transition = allows (comment_words rule.BehindTransition) bs;
  division_by_zero = allows (comment_words rule.DivisionByZero) bs;
  negative_size = allows (comment_words rule.NegativeSize) bs;
  colour_octets = allows (comment_words rule.ColourOctets) bs;
  unheard_timer = allows (comment_words rule.UnheardTimer) bs;
  locked_for_ever = allows (comment_words rule.LockedForEver) bs;
  unread_variable = allows (comment_words rule.UnreadVariable) bs;
  no_interaction = allows (comment_words rule.NoInteraction) bs;
  off_screen = allows (comment_words rule.OffScreen) bs;
  covers_no_cell = allows (comment_words rule.CoversNoCell) bs;
  cut_text = allows (comment_words rule.CutText) bs;
  text_in_its_colour = allows (comment_words rule.TextInItsColour) bs;
  bare_line_feeds = allows (comment_words rule.BareLineFeeds) bs;
  named_alike = allows (comment_words rule.NamedAlike) bs;
  content_to_come = allows (comment_words rule.ContentToCome) bs;
}

abbrev pub IsTurnedOff : List ℕ → Allowed → Type 0
IsTurnedOff bs a = a ≡ allowed_in bs

-- in the file at this place
abbrev pub has_if : Option Allowed → Rule → Bool
has_if None x = false
has_if (Some a) x = has a x

abbrev pub has_at : List Allowed → ℕ → Rule → Bool
has_at all n x = has_if (slice_get all n) x

abbrev pub file_allows : Option Source → List ℕ → Bool
file_allows None words = false
file_allows (Some f) words = allows words f.1.items

abbrev pub is_allowed : Allowed → List Source → Note → Bool
is_allowed a fs n = has a n.rule || file_allows (file_of fs n.at.group) (comment_words n.rule)

-- PLACES

unfoldable pub act_front : List Source → ObjRef → ℕ → List ℕ
act_front fs r index = r.group ++ codes ":" ++ place_words (action_place fs r (index - 1))

-- the file, and the place in it of the object, or of its action with this number, from 1 on
abbrev pub note_front : List Source → ObjRef → ℕ → List ℕ
note_front fs r n = if n == 0 then front_words fs r else act_front fs r n

-- LINES

unfoldable pub rule_end : Rule → List ℕ
rule_end x = codes " " ++ rule_text x ++ codes " (" ++ rule_word x ++ codes ")\n"

unfoldable pub note_words : Service → List Source → Note → List ℕ
note_words v fs n = note_front fs n.at n.index ++ codes " note: " ++ object_words v n.at ++ rule_end n.rule

abbrev pub told_words : Allowed → Service → List Source → Note → List ℕ
told_words a v fs n = if is_allowed a fs n then [] else note_words v fs n

-- a line each, but of those that are turned off
abbrev pub notes_words : Allowed → Service → List Source → List Note → List ℕ
notes_words a v fs ns = flat_map (told_words a v fs) ns
