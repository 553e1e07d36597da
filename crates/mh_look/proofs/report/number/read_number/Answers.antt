use Rattle.std.proofs.Common.{◌≡◌, length, ◌∙◌}
use Rattle.std.specs.Fmt.{decimal}
use Rattle.mh_look.proofs.NumberLemmas.{count_decimal, take_decimal, same_number, some_number}
use Rattle.mh_look.proofs.report.number.read_number.Goals as goal

pub returns-in_err-number-clause-found : goal.returns-in_err-number-clause-found
returns-in_err-number-clause-found c n fits rest ends e =
    let count : c.count_digits-count.result ≡ length (decimal n) = c.count_digits-count.ensures.exact ∙ count_decimal n c.args.bytes.now rest fits ends e in
    some_number c.parse.result n c.in_err-number.was (c.parse.ensures n fits (take_decimal n c.args.bytes.now rest c.count_digits-count.result e count))

pub returns-clause-found : goal.returns-clause-found
returns-clause-found c n fits rest ends e =
    let count : c.count_digits-count.result ≡ length (decimal n) = c.count_digits-count.ensures.exact ∙ count_decimal n c.args.bytes.now rest fits ends e in
    same_number c.parse.result c.in_ok-number.number n c.count_digits-count.result (length (decimal n)) c.in_ok-number.was (c.parse.ensures n fits (take_decimal n c.args.bytes.now rest c.count_digits-count.result e count)) count
