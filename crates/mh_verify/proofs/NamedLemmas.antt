-- What is named of what is wrong, where each reason has a rank: something, unless nothing is wrong.
use Rattle.std.proofs.Common.{◌≡◌, inl, inr, ℕ, Bool, true, false, cond, List, [], ◌∷◌, Option, Some, None, refl, ap, sym}
use Rattle.std.specs.List.{Contains}
use Rattle.std.specs.Option.{option_map, option_to_list, is_some}
use Rattle.mh_model.specs.declared.config.Config.{Config}
use Rattle.mh_model.specs.declared.fault.Reason.{Reason}
use Rattle.mh_model.specs.declared.fault.Reason.TheVariants as reason
use Rattle.mh_model.specs.declared.object.Fixed.{Fixed}
use Rattle.mh_model.specs.Service.{Service}
use Rattle.mh_model.specs.Faults.{Wrong, Ranking, wrongs, rank_of, is_named, least}
use Rattle.mh_laws.specs.Active.{known_with}
use Rattle.mh_laws.specs.Acceptable.{is_right}
use Rattle.mh_laws.specs.Flow.{Sets}
use Rattle.mh_model.proofs.ListLemmas.{empty_is, is_empty_of}
use Rattle.mh_flow.specs.Sites.{Site}
use Rattle.mh_flow.proofs.ContainsLemmas.{no_member, first_or_behind}
use Rattle.mh_verify.specs.declared.refusal.Found.{Found}
use Rattle.mh_verify.specs.Kinds.{reason_number}
use Rattle.mh_verify.specs.Refusals.{found_at, wrong_at}

-- what is named stays, or something else is
still_named : (rank : Ranking) (b : Wrong) (ws : List Wrong) → least rank (Some b) ws ≡ None → ⊥
still_named rank b [] e = cc
still_named rank b (w ∷ ws) e =
    by (is_named rank (Some b) (rank_of rank w)) (still_named rank w ws) (still_named rank b ws) e
  where
    by : (t : Bool) → (least rank (Some w) ws ≡ None → ⊥) → (least rank (Some b) ws ≡ None → ⊥) → least rank (cond t (Some w) (Some b)) ws ≡ None → ⊥
    by true new old e = new e
    by false new old e = old e

pub none_named : (rank : Ranking) → ((w : Reason) (held : Bool) → is_some (rank w held) ≡ true) → (ws : List Wrong) → least rank None ws ≡ None → ws ≡ []
none_named rank each [] e = refl
none_named rank each (w ∷ ws) e = by (rank_of rank w) (each w.reason (is_some w.through)) e
  where
    by : (o : Option ℕ) → is_some o ≡ true → least rank (cond (is_named rank None o) (Some w) None) ws ≡ None → w ∷ ws ≡ []
    by None k e = cc
    by (Some n) k e = absurd (still_named rank w ws e)

-- every reason has a number
is_numbered : (w : Reason) (held : Bool) → is_some (reason_number w held) ≡ true
is_numbered reason.Absent false = refl
is_numbered reason.Absent true = refl
is_numbered reason.WrongClass false = refl
is_numbered reason.WrongClass true = refl
is_numbered reason.WrongKind held = refl
is_numbered reason.Misfit held = refl
is_numbered reason.TimerHeld held = refl

-- An action is refused exactly where something is wrong with it.

pub unrefused_where_right : (s : Service) (ps : List Fixed) (h : Sets) (c : Config) (x : Site) → is_right s h ps x.act ≡ true → wrong_at s ps h c x ≡ []
unrefused_where_right s ps h c x e =
    ap (λ (ws : List Wrong). option_to_list (option_map (found_at c x) (least reason_number None ws))) (empty_is (wrongs (known_with s ps h) x.act) e)

pub right_where_unrefused : (s : Service) (ps : List Fixed) (h : Sets) (c : Config) (x : Site) → wrong_at s ps h c x ≡ [] → is_right s h ps x.act ≡ true
right_where_unrefused s ps h c x e =
    let ws = wrongs (known_with s ps h) x.act in
    is_empty_of ws (none_named reason_number is_numbered ws (by (least reason_number None ws) e))
  where
    by : (o : Option Wrong) → option_to_list (option_map (found_at c x) o) ≡ [] → o ≡ None
    by None e = refl
    by (Some w) e = cc

-- The configuration of a refusal is the one in which the site stands.
pub config_of_wrong : (s : Service) (ps : List Fixed) (h : Sets) (c : Config) (x : Site) (y : Found) → Contains (wrong_at s ps h c x) y → y.config ≡ c
config_of_wrong s ps h c x y m = by (least reason_number None (wrongs (known_with s ps h) x.act)) m
  where
    by : (o : Option Wrong) → Contains (option_to_list (option_map (found_at c x) o)) y → y.config ≡ c
    by None m = absurd (no_member y m)
    by (Some w) m =
        elim (first_or_behind (found_at c x w) [] y m) [ inl same ↦ sym (ap (λ (z : Found). z.config) same) | inr k ↦ absurd (no_member y k) ]
