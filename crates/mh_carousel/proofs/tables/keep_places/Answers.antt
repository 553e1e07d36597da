use Rattle.std.proofs.Common.{rules, if◌then◌else◌, None}
use Rattle.std.specs.Str.{bytes_eq}
use Rattle.mh_carousel.proofs.TableLemmas.{map-RetainsPairs}
use Rattle.mh_carousel.proofs.tables.keep_places.Goals as goal

pub returns-clause-entries : goal.returns-clause-entries
returns-clause-entries c =
    map-RetainsPairs _ (λ e. if bytes_eq e.0.group c.args.application.now then e.1 else None) _ (λ k v b w g call. search rules) _ _ c.retain.ensures.filtered
