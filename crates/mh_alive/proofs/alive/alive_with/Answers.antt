use Rattle.std.proofs.Common.{◌≡◌, ◌∙◌, [], ap}
use Rattle.indexmap.specs.IndexSet.{insert_all}
use Rattle.mh_model.specs.Reference.{same_key}
use Rattle.mh_alive.specs.Alive.{alive_with}
use Rattle.mh_alive.specs.Hearing.{all_timers, hearers, settled}
use Rattle.mh_alive.specs.Puts.{all_puts, web_with}
use Rattle.mh_flow.proofs.ChartLemmas.{ok_of}
use Rattle.mh_alive.proofs.alive.alive_with.Goals as goal

pub returns : goal.returns
returns c =
    let v = c.args.service.now in
    let g = c.gathered.inside in
    let puts = ok_of c.puts_of-puts.result c.in_ok-made.made.1 (λ x. x.keys ≡ insert_all same_key [] (all_puts v (web_with g.told.keys (all_timers c.as_slice.result.now)))) c.in_ok-made.ensures.held.1 c.puts_of-puts.ensures in
    let hears = ok_of c.hearers_of-hearers.result c.in_ok-made.made.0 (λ x. x.keys ≡ hearers v (settled v g.sent.keys g.registers.keys g.settings.items)) c.in_ok-made.ensures.held.0 c.hearers_of-hearers.ensures in
    (λ i. record {
      runners = g.runners.keys;
      sent = g.sent.keys;
      puts = (puts ∙ ap (λ ss. insert_all same_key [] (all_puts v (web_with g.told.keys (all_timers ss)))) c.as_slice.ensures.value) i;
      hearers = hears i;
    })
    ∙ ap (alive_with v) c.gathered.view_is
