use Rattle.std.proofs.Common.{arith, ◌∙◌, ◌≡◌, ◌+◌, ◌≤◌, List, length, ap}
use Rattle.std.proofs.lemmas.List.{length-map, take_all}
use Rattle.mh_model.specs.declared.input.Waiting.{Waiting}
use Rattle.mh_model.specs.Step.{files_ahead}
use Rattle.mh_carousel.specs.Ahead.{has}
use Rattle.mh_carousel.specs.Carried.{file_of, files_of}
use Rattle.mh_carousel.proofs.AheadLemmas.{few, there_already, many_new}
use Rattle.mh_carousel.proofs.ahead.is_one_too_many.Goals as goal

pub returns-then-len-lt-MOST_FILES : goal.returns-then-len-lt-MOST_FILES
returns-then-len-lt-MOST_FILES c =
    let there : c.len.result ≡ length c.args.files.now.entries = c.len.ensures.len in
    let total : c.len.result + c.len-2.result ≡ length (files_of c.args.files.now.entries) + length c.args.queue.now.items = omega (arith, there, c.len-2.ensures.all, length-map c.args.files.now.entries file_of) in
    few c.args.file.now (files_of c.args.files.now.entries) c.args.queue.now.items (c.len.result + c.len-2.result) total c.if-len-lt-MOST_FILES.true

pub returns-then-has_ahead : goal.returns-then-has_ahead
returns-then-has_ahead c =
    let all : length c.args.queue.now.items ≤ c.len-3.result = omega (arith, c.len-3.ensures.all) in
    there_already c.args.file.now (files_ahead (files_of c.args.files.now.entries) c.args.queue.now.items)
    (c.if-has_ahead.ensures ∙ ap (λ (ws : List Waiting). has c.args.file.now.name (files_ahead (files_of c.args.files.now.entries) ws)) (take_all c.len-3.result c.args.queue.now.items all))

pub returns : goal.returns
returns c =
    let all : length c.args.queue.now.items ≤ c.len-3.result = omega (arith, c.len-3.ensures.all) in
    many_new c.args.file.now (files_ahead (files_of c.args.files.now.entries) c.args.queue.now.items) c.count_ahead.result
    (c.if-has_ahead.ensures ∙ ap (λ (ws : List Waiting). has c.args.file.now.name (files_ahead (files_of c.args.files.now.entries) ws)) (take_all c.len-3.result c.args.queue.now.items all))
    c.count_ahead.ensures
