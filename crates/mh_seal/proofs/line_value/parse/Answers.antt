use Rattle.std.proofs.Common.{◌∙◌, sym, ap}
use Rattle.std.specs.Result.{result_ok}
use Rattle.std.proofs.lemmas.Fmt.{parse-decimal}
use Rattle.mh_seal.proofs.ValueLemmas.{decimal_text, ok_has}
use Rattle.mh_seal.proofs.line_value.parse.Goals as goal

pub returns-in_err-text : goal.returns-in_err-text
returns-in_err-text c n fits e =
    decimal_text n c.args.digits.now c.from_utf8.result _ _ fits e c.from_utf8.ensures.cases (sym c.ok.ensures.value ∙ c.in_err-text.was)

pub returns : goal.returns
returns c n fits e =
    let same = ok_has c.from_utf8.result c.in_ok-text.text _ _ c.from_utf8.ensures.cases (sym c.ok.ensures.value ∙ c.in_ok-text.was) in
    c.ok-2.ensures.value ∙ ap result_ok (parse-decimal 64 n c.in_ok-text.text.now c.parse.result fits fits (same.0 ∙ e) c.parse.ensures.value.0)
