-- What is turned off in a file is found by its name.
use Rattle.std.proofs.Common.{◌≡◌, ℕ, Bool, true, false, List, Option, Some, None, refl, ap, sym, ◌∙◌}
use Rattle.std.specs.Prelude.{slice_get}
use Rattle.std.specs.List.{position}
use Rattle.std.specs.Str.{bytes_eq}
use Rattle.mh_told.specs.Reading.{Source}
use Rattle.mh_places.specs.Directory.{AreBeside, IsFound, file_of}
use Rattle.mh_places.proofs.DirectoryLemmas.{none_found, one_found}
use Rattle.mh_lint.specs.declared.rule.Allowed.{Allowed}
use Rattle.mh_lint.specs.declared.rule.Rule.{Rule}
use Rattle.mh_lint.specs.declared.rule.Rule.TheVariants as rule
use Rattle.mh_lint.specs.NoteLines.{IsTurnedOff, allowed_in, allows, comment_words, file_allows, has_at, has_if}
use Rattle.mh_lint.specs.Rules.{has}

has_in : (bs : List ℕ) (x : Rule) → has (allowed_in bs) x ≡ allows (comment_words x) bs
unfolding allowed_in
has_in bs rule.EditorBackup = refl
has_in bs rule.IdentifierDiffers = refl
has_in bs rule.UnknownRule = refl
has_in bs rule.StartLeadsAway = refl
has_in bs rule.NotShared = refl
has_in bs rule.NoActions = refl
has_in bs rule.BehindTransition = refl
has_in bs rule.DivisionByZero = refl
has_in bs rule.NegativeSize = refl
has_in bs rule.ColourOctets = refl
has_in bs rule.UnheardTimer = refl
has_in bs rule.LockedForEver = refl
has_in bs rule.UnreadVariable = refl
has_in bs rule.NoInteraction = refl
has_in bs rule.OffScreen = refl
has_in bs rule.CoversNoCell = refl
has_in bs rule.CutText = refl
has_in bs rule.TextInItsColour = refl
has_in bs rule.BareLineFeeds = refl
has_in bs rule.NamedAlike = refl
has_in bs rule.ContentToCome = refl

found_so : (x : Rule) (o : Option Source) (q : Option Allowed) → IsFound IsTurnedOff o q → has_if q x ≡ file_allows o (comment_words x)
found_so x None None is = refl
found_so x (Some f) (Some a) is = ap (λ (b : Allowed). has b x) is ∙ has_in f.1.items x
found_so x None (Some a) is = absurd is
found_so x (Some f) None is = absurd is

pub no_file : (fs : List Source) (g : List ℕ) (x : Rule) → position (λ (f : Source). bytes_eq f.0 g) fs ≡ None → false ≡ file_allows (file_of fs g) (comment_words x)
no_file fs g x none = found_so x (file_of fs g) None (none_found IsTurnedOff fs g none)

pub one_file : (fs : List Source) (all : List Allowed) (g : List ℕ) (x : Rule) (m : ℕ) → AreBeside IsTurnedOff fs all → position (λ (f : Source). bytes_eq f.0 g) fs ≡ Some m → has_at all m x ≡ file_allows (file_of fs g) (comment_words x)
one_file fs all g x m are at = found_so x (file_of fs g) (slice_get all m) (one_found IsTurnedOff fs all g m are at)
