-- What is noted by the files as they are handed in: how a group calls itself, which rules a file turns off, and which content is
-- to come, has nearly the name of a file, or has lines that are glued together.
use Rattle.std.specs.Prelude.{ℕ, zero, suc, ◌+◌, ◌==◌, nat_lt, Bool, true, false, ◌&&◌, ◌||◌, not, if◌then◌else◌, List, [], ◌∷◌, codes, drop, length, take, Option, Some, None}
use Rattle.std.specs.List.{find, list_any, position}
use Rattle.std.specs.Option.{option_map_or}
use Rattle.std.specs.Str.{bytes_eq, str_eq_ignore_ascii_case}
use Rattle.bstr.specs.Text.{lines_of, without_terminator}
use Rattle.mh_base.specs.declared.value.Value.{Value}
use Rattle.mh_base.specs.declared.value.Value.TheVariants as value
use Rattle.mh_base.specs.Path.{is_path, led_to}
use Rattle.mh_base.specs.Reading.{Rest, whole}
use Rattle.mh_group.specs.declared.attribute.Attribute.TheVariants as attribute
use Rattle.mh_group.specs.Table.{has_content}
use Rattle.mh_model.specs.declared.object.Fixed.{Fixed}
use Rattle.mh_model.specs.Property.{held, as_value}
use Rattle.mh_text.specs.declared.token.kind.TokenKind.TheVariants as kind
use Rattle.mh_text.specs.Left.{Lexed, finished, bad, token, lexed}
use Rattle.mh_text.specs.Reading.{inner}
use Rattle.mh_told.specs.Reading.{Source}
use Rattle.mh_lint.specs.declared.rule.Rule.{Rule}
use Rattle.mh_lint.specs.Rules.{rule_named}

abbrev pub file_of : List Source → List ℕ → Option Source
file_of fs g = find (λ (f : Source). bytes_eq f.0 g) fs

-- IDENTIFIERS. That of a group stands in the fourth token of its text, behind a brace, the class and a bracket.

abbrev pub text_in : (Rest → Option (List ℕ)) → Lexed → Option (List ℕ)
text_in further (token kind.Text start text rest) = Some text
text_in further (token k start text rest) = further rest
text_in further _ = None

-- the first text in marks among so many tokens
abbrev pub first_text : ℕ → Rest → Option (List ℕ)
first_text zero r = None
first_text (suc n) r = text_in (first_text n) (lexed r)

-- the name leads to another path than the group's
abbrev pub leads_elsewhere : List ℕ → List ℕ → Bool
leads_elsewhere g name = not (is_path (led_to g name) && bytes_eq (led_to g name) g)

unfoldable pub calls_itself_else : List ℕ → List ℕ → Bool
calls_itself_else bytes g = option_map_or (λ text. leads_elsewhere g (inner text)) (first_text 4 (whole bytes)) false

-- COMMENTS that turn a rule off

abbrev pub allow_words : List ℕ
allow_words = codes "// lint: allow "

-- what stands behind these words
unfoldable pub behind_words : List ℕ → List ℕ → Option (List ℕ)
behind_words words [] = None
behind_words words (b ∷ bs) =
    if bytes_eq (take (length words) (b ∷ bs)) words then Some (drop (length words) (b ∷ bs)) else behind_words words bs

abbrev pub is_no_rule : Option (List ℕ) → Bool
is_no_rule None = false
is_no_rule (Some word) = option_map_or (λ x. false) (rule_named word) true

abbrev pub names_no_rule : List ℕ → Bool
names_no_rule line = is_no_rule (behind_words allow_words (without_terminator line))

-- a line allows a rule that there is none of
abbrev pub allows_unknown : List ℕ → Bool
allows_unknown bytes = list_any names_no_rule (lines_of bytes)

-- of the file of a group

abbrev pub is_called_else : Option Source → List ℕ → Bool
is_called_else None g = false
is_called_else (Some f) g = calls_itself_else f.1.items g

abbrev pub has_unknown : Option Source → Bool
has_unknown None = false
has_unknown (Some f) = allows_unknown f.1.items

-- CONTENT

abbrev pub has_file : List Source → List ℕ → Bool
has_file fs g = list_any (λ (f : Source). bytes_eq f.0 g) fs

-- the value is the name of a file that is not there
abbrev pub is_missing : List Source → Option Value → Bool
is_missing fs (Some (value.Content g)) = not (has_file fs g)
is_missing fs _ = false

-- the object shows content that has to arrive
abbrev pub is_to_come : List Source → Fixed → Bool
is_to_come fs p = has_content p.class && is_missing fs (as_value (held attribute.OrigContent p.properties))

-- CONTENT OF WHICH THE NAME IS NEARLY THERE: but for the case of letters, or for an ending behind a dot

abbrev pub begins_dot : List ℕ → Bool
begins_dot [] = false
begins_dot (b ∷ bs) = b == 46

abbrev pub has_ending : List ℕ → List ℕ → Bool
has_ending short long = bytes_eq (take (length short) long) short && begins_dot (drop (length short) long)

abbrev pub is_named_alike : List ℕ → List ℕ → Bool
is_named_alike g h = str_eq_ignore_ascii_case h g || has_ending g h || has_ending h g

abbrev pub has_alike : List Source → List ℕ → Bool
has_alike fs g = list_any (λ (f : Source). is_named_alike g f.0) fs

abbrev pub is_nearly_there : List Source → Option Value → Bool
is_nearly_there fs (Some (value.Content g)) = not (has_file fs g) && has_alike fs g
is_nearly_there fs _ = false

-- the object shows content that is not there, while a file has nearly its name
abbrev pub is_mistaken : List Source → Fixed → Bool
is_mistaken fs p = has_content p.class && is_nearly_there fs (as_value (held attribute.OrigContent p.properties))

-- LINES THAT ARE GLUED TOGETHER: they end in line feeds, which draw nothing, and not in carriage returns. One at the very end does
-- no harm.

abbrev pub is_feed : ℕ → Bool
is_feed b = b == 10

abbrev pub is_return : ℕ → Bool
is_return b = b == 13

abbrev pub is_within : ℕ → Option ℕ → Bool
is_within count None = false
is_within count (Some n) = nat_lt (n + 1) count

abbrev pub glues : List ℕ → Bool
glues bs = is_within (length bs) (position is_feed bs) && not (list_any is_return bs)

abbrev pub glues_file : Option Source → Bool
glues_file None = false
glues_file (Some f) = glues f.1.items

abbrev pub glues_value : List Source → Option Value → Bool
glues_value fs (Some (value.Octets bs)) = glues bs
glues_value fs (Some (value.Content g)) = glues_file (file_of fs g)
glues_value fs _ = false

-- the object shows content whose lines are glued together
abbrev pub is_glued : List Source → Fixed → Bool
is_glued fs p = has_content p.class && glues_value fs (as_value (held attribute.OrigContent p.properties))
