use Rattle.std.proofs.Common.{rules}
use Rattle.mh_resident.proofs.answers.answer_of.Goals as goal

pub returns-in-DayOfWeek : goal.returns-in-DayOfWeek
returns-in-DayOfWeek c = let h = c.day_of_week.ensures c.args.now in search (rules, h)

pub returns-in-StringLength : goal.returns-in-StringLength
returns-in-StringLength c = let h = c.string_length.ensures c.args.now in search (rules, h)

pub returns-in-Substring : goal.returns-in-Substring
returns-in-Substring c = let h = c.get_substring.ensures c.args.now in search (rules, h)

pub returns-in-ExtractSubstring : goal.returns-in-ExtractSubstring
returns-in-ExtractSubstring c = let h = c.extract_substring.ensures c.args.now in search (rules, h)

pub returns-in-SearchSubstring : goal.returns-in-SearchSubstring
returns-in-SearchSubstring c = let h = c.search_substring.ensures c.args.now in search (rules, h)
