use Rattle.std.specs.Prelude.{◌≡◌, ℕ, ◌+◌, List, ◌∷◌, ◌++◌, length}
use Rattle.std.specs.Fmt.{decimal}
use Rattle.std.proofs.Common.{lit<}
use Rattle.mh_look.specs.Cells.{colours_text}
use Rattle.mh_look.proofs.TailLemmas.{tail}
use Rattle.mh_look.proofs.OptionLemmas.{seconds, nothing_is}
use Rattle.mh_look.proofs.PlaceLemmas.{ends_number, behind_first, behind_last, is_place}
use Rattle.mh_look.proofs.report.run.read_place.Goals as goal

pub returns-in_err-last-clause-found : goal.returns-in_err-last-clause-found
returns-in_err-last-clause-found c = λ p first last colours rest e.
    let left : List ℕ = colours_text p.fore p.back rest in
    let one = c.in_ok-first.ensures.found p.first first (45 ∷ (decimal p.last ++ left)) (ends_number 45 (decimal p.last ++ left) (lit< tt)) e in
    let at : tail c.in_ok-first.before c.args.bytes.now ≡ 45 ∷ (decimal p.last ++ left) = behind_first p rest c.args.bytes.now c.in_ok-first.before e (seconds c.in_ok-first.first p.first c.in_ok-first.before _ one) in
    let two = c.in_err-last.ensures.found p.last last left (ends_number 32 _ (lit< tt)) at in
    nothing_is _ _ two

pub returns-in_err-fore-clause-found : goal.returns-in_err-fore-clause-found
returns-in_err-fore-clause-found c = λ p first last colours rest e.
    let left : List ℕ = colours_text p.fore p.back rest in
    let one = c.in_ok-first.ensures.found p.first first (45 ∷ (decimal p.last ++ left)) (ends_number 45 (decimal p.last ++ left) (lit< tt)) e in
    let before : c.in_ok-first.before ≡ length (decimal p.first) + 1 = seconds c.in_ok-first.first p.first c.in_ok-first.before _ one in
    let two = c.in_ok-last.ensures.found p.last last left (ends_number 32 _ (lit< tt)) (behind_first p rest c.args.bytes.now c.in_ok-first.before e before) in
    let behind : c.in_ok-last.length ≡ length (decimal p.last) + 1 = seconds c.in_ok-last.last p.last c.in_ok-last.length _ two in
    nothing_is _ _ (c.in_err-fore.ensures.found p.fore p.back colours rest (behind_last p rest c.args.bytes.now c.in_ok-first.before c.in_ok-last.length e before behind))

pub returns-clause-found : goal.returns-clause-found
returns-clause-found c = λ p first last colours rest e.
    let left : List ℕ = colours_text p.fore p.back rest in
    let one = c.in_ok-first.ensures.found p.first first (45 ∷ (decimal p.last ++ left)) (ends_number 45 (decimal p.last ++ left) (lit< tt)) e in
    let before : c.in_ok-first.before ≡ length (decimal p.first) + 1 = seconds c.in_ok-first.first p.first c.in_ok-first.before _ one in
    let two = c.in_ok-last.ensures.found p.last last left (ends_number 32 _ (lit< tt)) (behind_first p rest c.args.bytes.now c.in_ok-first.before e before) in
    let behind : c.in_ok-last.length ≡ length (decimal p.last) + 1 = seconds c.in_ok-last.last p.last c.in_ok-last.length _ two in
    let three = c.in_ok-fore.ensures.found p.fore p.back colours rest (behind_last p rest c.args.bytes.now c.in_ok-first.before c.in_ok-last.length e before behind) in
    is_place p c.in_ok-first.first c.in_ok-last.last c.in_ok-fore.fore c.in_ok-fore.back c.in_ok-first.before c.in_ok-last.length one two three
