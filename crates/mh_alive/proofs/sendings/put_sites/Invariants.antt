use Rattle.std.proofs.Common.{◌≡◌, drop}
use Rattle.std.specs.List.{flat_map}
use Rattle.indexmap.specs.IndexSet.{insert_all}
use Rattle.mh_alive.specs.Sendings.{same_sending, sent_by}
use Rattle.mh_alive.proofs.sendings.put_sites.Given as goal

abbrev pub invariant-loop-site : goal.invariant-loop-site
invariant-loop-site l =
    insert_all same_sending l.sent.keys (flat_map (λ x. sent_by x.act) (drop l.site-index l.sites)) ≡ insert_all same_sending l.initial.sent.keys (flat_map (λ x. sent_by x.act) l.sites)
