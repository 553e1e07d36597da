use Rattle.std.proofs.Common.{rules, ap, subst, sym, ◌∙◌, ◌≡◌, None, length, ℕ}
use Rattle.std.specs.Map.{set_value}
use Rattle.std.specs.Str.{bytes_eq}
use Rattle.mh_model.specs.Files.{arrived}
use Rattle.mh_carousel.specs.declared.slot.Chain.{Chain}
use Rattle.mh_carousel.specs.Waited.{Names, Waited, AreLinked, waits_from}
use Rattle.mh_carousel.proofs.LinkLemmas.{arrived_linked, arrived_waits}
use Rattle.mh_carousel.proofs.waits.Waits.arrived.Goals as goal

pub invariant_of-self : goal.invariant_of-self
invariant_of-self c =
    let next : c.len-next.result ≡ length c.self.inside.slots.items = search rules in
    let entries = c.start_anew.ensures.entries ∙ ap (λ (n : ℕ). set_value (bytes_eq c.args.name.now) c.self.inside.names.entries (record { newest = None; from = n })) next in
    subst (λ (ns : Names). AreLinked c.self.inside.objects.entries ns c.self.inside.slots.items) (sym entries)
    (arrived_linked c.self.inside.objects.entries c.self.inside.names.entries c.self.inside.slots.items c.args.name.now c.reveal_apart.ensures.names c.self.invariant)

pub returns-clause-waits : goal.returns-clause-waits
returns-clause-waits c =
    let next : c.len-next.result ≡ length c.self.inside.slots.items = search rules in
    let entries = c.start_anew.ensures.entries ∙ ap (λ (n : ℕ). set_value (bytes_eq c.args.name.now) c.self.inside.names.entries (record { newest = None; from = n })) next in
    ap (λ (ns : Names). waits_from c.self.inside.objects.entries ns 0 c.self.inside.slots.items) entries
    ∙ arrived_waits c.self.inside.objects.entries c.self.inside.names.entries c.self.inside.slots.items c.args.name.now c.reveal_apart.ensures.names
    ∙ ap (λ (v : Waited). arrived c.args.name.now v.waits) c.self.view_is
