-- What is told of a group that is named and is none: a file of its name that does not begin as a group, or one with a name like it.
use Rattle.std.specs.Prelude.{ℕ, Bool, ◌&&◌, ◌||◌, if◌then◌else◌, List, [], ◌++◌, drop, length, codes}
use Rattle.std.specs.List.{find}
use Rattle.std.specs.Option.{option_map_or}
use Rattle.mh_misread.specs.Likeness.{is_like as is_like_word}
use Rattle.mh_why.specs.declared.explanation.unread.missing.TheConstants.{BYTE_ORDER_MARK, HAS_MARK, HAS_COMMENT, HAS_NO_BRACE, IS_THERE, NO_GROUP, NO_FILE, LIES_THERE, IS_CALLED}
use Rattle.mh_why.specs.Painting.{begins_with}
use Rattle.mh_why.specs.Sources.{Source, source_named}
use Rattle.mh_why.specs.Wrapping.{paragraph}

-- why these bytes begin no group
abbrev pub no_group_since : List ℕ → List ℕ
no_group_since bs =
    if begins_with BYTE_ORDER_MARK.now bs then HAS_MARK.now
    else (if begins_with (codes "/*") bs then HAS_COMMENT.now else HAS_NO_BRACE.now)

unfoldable pub no_group_text : Source → List ℕ
no_group_text s = paragraph (IS_THERE.now ++ s.name ++ NO_GROUP.now ++ no_group_since s.text)

abbrev pub unless_group : Source → List ℕ
unless_group s = if s.is_group then [] else no_group_text s

-- the word is this one, and goes on behind a dot
abbrev pub goes_on : List ℕ → List ℕ → Bool
goes_on front word = begins_with front word && begins_with (codes ".") (drop (length front) word)

-- one of the two names goes on where the other ends, or they differ in small letters alone
abbrev pub is_like : List ℕ → Source → Bool
is_like group s = goes_on group s.name || (goes_on s.name group || is_like_word 0 group s.name)

unfoldable pub like_text : List ℕ → Source → List ℕ
like_text group s = paragraph (NO_FILE.now ++ group ++ LIES_THERE.now ++ s.name ++ IS_CALLED.now)

abbrev pub like_named : List Source → List ℕ → List ℕ
like_named ss group = option_map_or (like_text group) (find (is_like group) ss) []

unfoldable pub missing : List Source → List ℕ → List ℕ
missing ss group = option_map_or unless_group (source_named ss group) (like_named ss group)
