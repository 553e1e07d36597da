-- What the links of a chain do, and what they write last.
use Rattle.std.specs.Prelude.{◌≡◌, ℕ, ◌-◌, Bool, ◌&&◌, List, [], ◌∷◌, length, slice_get, refl}
use Rattle.std.specs.List.{list_any}
use Rattle.std.specs.Option.{option_map}
use Rattle.std.proofs.Common.{ap, ◌∙◌, arith}
use Rattle.mh_flow.specs.declared.chain.link.Link.{Link}
use Rattle.mh_base.specs.declared.obj_ref.ObjRef.{ObjRef}
use Rattle.mh_model.specs.Service.{Service, group_parts}
use Rattle.mh_verify.specs.Evidence.{goes_on, last_written, leads_on, sites_at}
use Rattle.mh_evidence.specs.Spots.{begins_there, goes_on_there, is_beginning, is_step, leads_on_there}
use Rattle.mh_evidence.proofs.SiteLemmas.{any_at_link}

written_from : (l : Link) (ls : List Link) → last_written (l ∷ ls) ≡ option_map (λ (m : Link). m.written) (slice_get (l ∷ ls) (length ls))
written_from l [] = refl
written_from l (m ∷ ls) = written_from m ls

pub written_last : (ls : List Link) → last_written ls ≡ option_map (λ l. l.written) (slice_get ls (length ls - 1))
written_last [] = refl
written_last (l ∷ ls) =
    written_from l ls
    ∙ ap (λ (n : ℕ). option_map (λ (m : Link). m.written) (slice_get (l ∷ ls) n)) (omega arith)

pub begun_there : (s : Service) (q : ObjRef) (l : Link) → list_any (is_beginning s q l) (sites_at s l) ≡ begins_there s q l
unfolding begins_there
begun_there s q l = any_at_link (is_beginning s q l) l (group_parts s l.key.group)

gone_on_there : (s : Service) (y : ObjRef) (l : Link) → goes_on s y l ≡ goes_on_there s y l
unfolding goes_on_there
gone_on_there s y l = any_at_link (is_step s y l) l (group_parts s l.key.group)

pub led_on_there : (s : Service) (y : ObjRef) (ls : List Link) → leads_on s y ls ≡ leads_on_there s y ls
led_on_there s y [] = refl
led_on_there s y (l ∷ ls) =
    ap (λ (b : Bool). b && leads_on s l.written ls) (gone_on_there s y l)
    ∙ ap (λ (b : Bool). goes_on_there s y l && b) (led_on_there s l.written ls)
