use Rattle.std.proofs.Common.{◌≡◌, ◌++◌, map}
use Rattle.bstr.specs.Utf8.{lossy_chars}
use Rattle.mh_terminal.specs.Frames.{harmless}
use Rattle.mh_why.proofs.wrap.harmless_characters.Given as goal

abbrev pub invariant-loop-character : goal.invariant-loop-character
invariant-loop-character l = l.characters.items ++ map harmless l.character-iterator ≡ map harmless (lossy_chars l.fn.words)
