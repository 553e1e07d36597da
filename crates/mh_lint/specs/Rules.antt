-- The rules of notes: their names, what is said of what has them, and which are turned off.
use Rattle.std.specs.Prelude.{ℕ, Bool, List, [], ◌∷◌, codes, Option}
use Rattle.std.specs.List.{find}
use Rattle.std.specs.Str.{bytes_eq}
use Rattle.mh_lint.specs.declared.rule.Allowed.{Allowed}
use Rattle.mh_lint.specs.declared.rule.Rule.{Rule}
use Rattle.mh_lint.specs.declared.rule.Rule.TheVariants as rule

unfoldable pub rule_word : Rule → List ℕ
rule_word rule.EditorBackup = codes "editor-backup"
rule_word rule.IdentifierDiffers = codes "identifier-differs"
rule_word rule.UnknownRule = codes "unknown-rule"
rule_word rule.StartLeadsAway = codes "start-leads-away"
rule_word rule.NotShared = codes "not-shared"
rule_word rule.NoActions = codes "no-actions"
rule_word rule.BehindTransition = codes "behind-transition"
rule_word rule.DivisionByZero = codes "division-by-zero"
rule_word rule.NegativeSize = codes "negative-size"
rule_word rule.ColourOctets = codes "colour-octets"
rule_word rule.UnheardTimer = codes "unheard-timer"
rule_word rule.LockedForEver = codes "locked-for-ever"
rule_word rule.UnreadVariable = codes "unread-variable"
rule_word rule.NoInteraction = codes "no-interaction"
rule_word rule.OffScreen = codes "off-screen"
rule_word rule.CoversNoCell = codes "covers-no-cell"
rule_word rule.CutText = codes "cut-text"
rule_word rule.TextInItsColour = codes "text-in-its-colour"
rule_word rule.BareLineFeeds = codes "bare-line-feeds"
rule_word rule.NamedAlike = codes "named-alike"
rule_word rule.ContentToCome = codes "content-to-come"

unfoldable pub rule_text : Rule → List ℕ
rule_text rule.EditorBackup = codes "has the name of an editor's backup, and is read as a group all the same"
rule_text rule.IdentifierDiffers = codes "calls itself by a name that is not the path of its file, and is known by that path alone"
rule_text rule.UnknownRule = codes "stands in a file with a comment that allows a rule which there is none of"
rule_text rule.StartLeadsAway = codes "leads away at once, so that its items which are active at first do not run"
rule_text rule.NotShared = codes "is not shared: it ends with the first transition, and nothing runs it again"
rule_text rule.NoActions = codes "does nothing: its effect has no action"
rule_text rule.BehindTransition = codes "has an action behind one that leads away, which throws it off unless something led away before"
rule_text rule.DivisionByZero = codes "divides by zero, which changes nothing"
rule_text rule.NegativeSize = codes "sets a negative size, which changes nothing"
rule_text rule.ColourOctets = codes "sets a colour that has not four octets, which changes nothing"
rule_text rule.UnheardTimer = codes "sets a timer that no link hears"
rule_text rule.LockedForEver = codes "locks the screen, and no action of the service unlocks it"
rule_text rule.UnreadVariable = codes "is read by nothing: no action tests it, takes its value or goes through it"
rule_text rule.NoInteraction = codes "never takes a key: no action lets it interact"
rule_text rule.OffScreen = codes "lies off the screen, and nothing moves it"
rule_text rule.CoversNoCell = codes "covers no cell of 12 by 16 units, and nothing changes its box"
rule_text rule.CutText = codes "has a text that is cut by its box, and nothing changes either"
rule_text rule.TextInItsColour = codes "has a text in the colour of its own background, and nothing changes that"
rule_text rule.BareLineFeeds = codes "shows content with line feeds and no carriage return, which alone ends a line (=0D)"
rule_text rule.NamedAlike = codes "shows content that the folder has not, and a file there has nearly its name"
rule_text rule.ContentToCome = codes "shows content that has to arrive: the folder has no such file"

-- all rules
abbrev pub rules : List Rule
rules =
    rule.EditorBackup ∷ rule.IdentifierDiffers ∷ rule.UnknownRule ∷ rule.StartLeadsAway ∷ rule.NotShared ∷ rule.NoActions ∷
    rule.BehindTransition ∷ rule.DivisionByZero ∷ rule.NegativeSize ∷ rule.ColourOctets ∷ rule.UnheardTimer ∷
    rule.LockedForEver ∷ rule.UnreadVariable ∷ rule.NoInteraction ∷ rule.OffScreen ∷ rule.CoversNoCell ∷ rule.CutText ∷
    rule.TextInItsColour ∷ rule.BareLineFeeds ∷ rule.NamedAlike ∷ rule.ContentToCome ∷ []

-- the one with this name, if there is one
abbrev pub rule_named : List ℕ → Option Rule
rule_named word = find (λ x. bytes_eq (rule_word x) word) rules

abbrev pub has : Allowed → Rule → Bool
has a rule.EditorBackup = a.editor_backup
has a rule.IdentifierDiffers = a.identifier_differs
has a rule.UnknownRule = a.unknown_rule
has a rule.StartLeadsAway = a.start_leads_away
has a rule.NotShared = a.not_shared
has a rule.NoActions = a.no_actions
has a rule.BehindTransition = a.behind_transition
has a rule.DivisionByZero = a.division_by_zero
has a rule.NegativeSize = a.negative_size
has a rule.ColourOctets = a.colour_octets
has a rule.UnheardTimer = a.unheard_timer
has a rule.LockedForEver = a.locked_for_ever
has a rule.UnreadVariable = a.unread_variable
has a rule.NoInteraction = a.no_interaction
has a rule.OffScreen = a.off_screen
has a rule.CoversNoCell = a.covers_no_cell
has a rule.CutText = a.cut_text
has a rule.TextInItsColour = a.text_in_its_colour
has a rule.BareLineFeeds = a.bare_line_feeds
has a rule.NamedAlike = a.named_alike
has a rule.ContentToCome = a.content_to_come
