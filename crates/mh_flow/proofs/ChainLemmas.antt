-- What links bring is held, and what is held is brought by links.
use Rattle.std.proofs.Common.{◌≡◌, ◌⊎◌, inl, inr, ℕ, true, List, [], ◌∷◌, ◌++◌, map, Option, Some, refl, sym, subst}
use Rattle.std.specs.Prelude.{slice_get}
use Rattle.std.specs.List.{Contains}
use Rattle.mh_base.specs.declared.obj_ref.ObjRef.{ObjRef}
use Rattle.mh_base.specs.declared.value.Kind.{Kind}
use Rattle.mh_base.specs.declared.value.Value.TheVariants as value
use Rattle.mh_model.specs.declared.act.Act.{Act}
use Rattle.mh_model.specs.declared.act.Argument.{Argument}
use Rattle.mh_model.specs.declared.act.Argument.TheVariants as argument
use Rattle.mh_model.specs.declared.config.Config.{Config}
use Rattle.mh_model.specs.declared.object.Fixed.{Fixed}
use Rattle.mh_model.specs.Configuration.{present}
use Rattle.mh_model.specs.Service.{Service, group_parts}
use Rattle.mh_laws.specs.Active.{active_actions, leads_to}
use Rattle.mh_laws.specs.Describing as saying
use Rattle.mh_laws.specs.Describing.{says}
use Rattle.mh_model.specs.Arguments.{receivers}
use Rattle.mh_laws.specs.Flow.{fills, is_given, is_list_in, is_reference_in, reads_reference}
use Rattle.mh_laws.specs.Least.{Fact, Derived, Reached, Held, Comes, Hands}
use Rattle.mh_laws.specs.Least as least
use Rattle.mh_flow.specs.declared.chain.link.Link.{Link}
use Rattle.mh_flow.specs.Chains.{Brings, IsDone, original, written, read, filled, passed, first_link, site_link}
use Rattle.mh_flow.specs.ChainLaws.{WhatIsBroughtIsHeld, WhatIsHeldIsBrought}
use Rattle.mh_flow.specs.Sites.{Site, sites_of}
use Rattle.mh_flow.proofs.SiteLemmas.{active_acts}
use Rattle.mh_flow.proofs.ContainsLemmas.{no_member, here, behind, first_or_behind}
use Rattle.mh_flow.proofs.ChainFirstLemmas.{IsFirst, is_first, value_at_first, item_at_first}

-- Members of a list that is mapped.

pub mapped : {X Y : Type 0} (f : X → Y) (xs : List X) (x : X) → Contains xs x → Contains (map f xs) (f x)
mapped f [] x h = absurd (no_member x h)
mapped {X} {Y} f (z ∷ xs) x h = by (first_or_behind z xs x h) (mapped f xs x)
  where
    by : (z ≡ x) ⊎ Contains xs x → (Contains xs x → Contains (map f xs) (f x)) → Contains (map f (z ∷ xs)) (f x)
    by (inl e) ih = subst (λ (y : X). Contains (map f (z ∷ xs)) (f y)) e (here (f z) (map f xs))
    by (inr m) ih = behind (f z) (map f xs) (f x) (ih m)

pub mapped_from : {X Y : Type 0} (f : X → Y) (xs : List X) (y : Y) → Contains (map f xs) y → (x : X) × Contains xs x × (f x ≡ y)
mapped_from f [] y h = absurd (no_member y h)
mapped_from {X} {Y} f (x ∷ xs) y h = by (first_or_behind (f x) (map f xs) y h) (mapped_from f xs y)
  where
    by : (f x ≡ y) ⊎ Contains (map f xs) y → (Contains (map f xs) y → (z : X) × Contains xs z × (f z ≡ y)) → (z : X) × Contains (x ∷ xs) z × (f z ≡ y)
    by (inl e) ih = (x, here x xs, e)
    by (inr m) ih = let found = ih m in (found.0, behind x xs found.0 found.1, found.2)

-- Active actions and their sites.

act_at : (ps : List Fixed) (x : Site) → Contains (sites_of ps) x → Contains (active_actions ps) x.act
act_at ps x m = subst (λ (xs : List Act). Contains xs x.act) (active_acts ps) (mapped (λ (x : Site). x.act) (sites_of ps) x m)

site_at : (ps : List Fixed) (a : Act) → Contains (active_actions ps) a → (x : Site) × Contains (sites_of ps) x × (x.act ≡ a)
site_at ps a m = mapped_from (λ (x : Site). x.act) (sites_of ps) a (subst (λ (xs : List Act). Contains xs a) (sym (active_acts ps)) m)

-- What links bring is held.

pub brought_is_held : WhatIsBroughtIsHeld
brought_is_held v q ls0 c0 r0 (original c p at among first) = by (is_first p q first)
  where
    by : IsFirst p q → Derived v (Held c p.key q)
    by (inl k) = least.original_value c p q at among k.0 k.1
    by (inr k) = least.original_item c p q at among k.0 k.1
brought_is_held v q ls0 c0 r0 (written c x r n done hands stands takes) =
    least.given c x.act n (argument.Direct (value.Object q)) r q done.reached (act_at (present v c) x done.site) hands stands done.comes takes refl (least.written c q)
brought_is_held v q ls0 c0 r0 (read ls c x r y n k done hands stands takes reads is brings) =
    least.given c x.act n (argument.Through y k) r q done.reached (act_at (present v c) x done.site) hands stands done.comes takes reads
    (least.read c y q k is (brought_is_held v q ls c y brings))
brought_is_held v q ls0 c0 r0 (filled ls c x r y done fill list receives is brings) =
    least.filled c x.act r y q done.reached (act_at (present v c) x done.site) fill done.comes list receives is (brought_is_held v q ls c r brings)
brought_is_held v q ls0 c0 r0 (passed ls c x r d g p done leads scene part brings) =
    least.passed c x.act r d g p q done.reached (act_at (present v c) x done.site) done.comes leads scene part (brought_is_held v q ls c p.key brings)

-- What is held is brought by links.

-- the argument is written so, or goes through a variable to which the reference is brought
abbrev IsBroughtBy : Service → Config → Argument → ObjRef → Type 0
IsBroughtBy v c x q =
    (x ≡ argument.Direct (value.Object q))
    ⊎ ((y : ObjRef) × (k : Option Kind) × (ls : List Link) × (x ≡ argument.Through y k) × (is_reference_in (present v c) y ≡ true) × Brings v q ls c y)

abbrev IsBrought : Service → Fact → Type 0
IsBrought v (Reached c) = Unit {0}
IsBrought v (Held c r q) = (ls : List Link) × Brings v q ls c r
IsBrought v (Comes c t q) = Unit {0}
IsBrought v (Hands c x q) = IsBroughtBy v c x q

-- where the action with this name and target is done to the object
done_at : (v : Service) (c : Config) (a : Act) (r : ObjRef) → Derived v (Reached c) → Contains (active_actions (present v c)) a → Derived v (Comes c a.target r) → (x : Site) × (x.act ≡ a) × IsDone v c x r
done_at v c a r at among comes =
    let found = site_at (present v c) a among in
    (found.0, found.2, record { reached = at; site = found.1; comes = subst (λ (b : Act). Derived v (Comes c b.target r)) (sym found.2) comes })

by_given : (v : Service) (c : Config) (a : Act) (n : ℕ) (x : Argument) (r q : ObjRef) → (s : Site) × (s.act ≡ a) × IsDone v c s r → Contains (says a.name) (saying.Hands n) → slice_get a.arguments n ≡ Some x → is_given (present v c) a.name r ≡ true → reads_reference x a.name ≡ true → IsBroughtBy v c x q → (ls : List Link) × Brings v q ls c r
by_given v c a n x r q (s, same, done) hands stands takes reads (inl e) = (
  site_link s r ∷ [],
  written c s r n done
      (subst (λ (b : Act). Contains (says b.name) (saying.Hands n)) (sym same) hands)
      (subst (λ (b : Act). slice_get b.arguments n ≡ Some (argument.Direct (value.Object q))) (sym same) (subst (λ (z : Argument). slice_get a.arguments n ≡ Some z) e stands))
      (subst (λ (b : Act). is_given (present v c) b.name r ≡ true) (sym same) takes),
)
by_given v c a n x r q (s, same, done) hands stands takes reads (inr (y, k, ls, e, is, brings)) = (
  ls ++ site_link s r ∷ [],
  read ls c s r y n k done
      (subst (λ (b : Act). Contains (says b.name) (saying.Hands n)) (sym same) hands)
      (subst (λ (b : Act). slice_get b.arguments n ≡ Some (argument.Through y k)) (sym same) (subst (λ (z : Argument). slice_get a.arguments n ≡ Some z) e stands))
      (subst (λ (b : Act). is_given (present v c) b.name r ≡ true) (sym same) takes)
      (subst (λ (b : Act). reads_reference (argument.Through y k) b.name ≡ true) (sym same) (subst (λ (z : Argument). reads_reference z a.name ≡ true) e reads)) is brings,
)

by_filled : (v : Service) (c : Config) (a : Act) (r y q : ObjRef) → (s : Site) × (s.act ≡ a) × IsDone v c s r → fills a.name ≡ true → is_list_in (present v c) r ≡ true → Contains (receivers a.arguments) y → is_reference_in (present v c) y ≡ true → IsBrought v (Held c r q) → IsBrought v (Held c y q)
by_filled v c a r y q (s, same, done) fill list receives is (ls, brings) = (
  ls ++ site_link s y ∷ [],
  filled ls c s r y done
      (subst (λ (b : Act). fills b.name ≡ true) (sym same) fill) list
      (subst (λ (b : Act). Contains (receivers b.arguments) y) (sym same) receives) is brings,
)

by_passed : (v : Service) (c : Config) (a : Act) (r : ObjRef) (d : Config) (g : List ℕ) (p : Fixed) (q : ObjRef) → (s : Site) × (s.act ≡ a) × IsDone v c s r → leads_to v c a.name r ≡ Some d → d.scene ≡ Some g → Contains (group_parts v c.app) p → IsBrought v (Held c p.key q) → IsBrought v (Held d p.key q)
by_passed v c a r d g p q (s, same, done) leads scene part (ls, brings) =
    (ls, passed ls c s r d g p done (subst (λ (b : Act). leads_to v c b.name r ≡ Some d) (sym same) leads) scene part brings)

brought : (v : Service) (f : Fact) → Derived v f → IsBrought v f
brought v f (least.start) = tt
brought v f (least.named c r) = tt
brought v f (least.referred c w q is h) = tt
brought v f (least.written c q) = inl refl
brought v f (least.read c w q k is h) = let found = brought v (Held c w q) h in inr (w, k, found.0, refl, is, found.1)
brought v f (least.original_value c p q at among is e) = (first_link p ∷ [], original c p at among (value_at_first p q is e))
brought v f (least.original_item c p q at among is h) = (first_link p ∷ [], original c p at among (item_at_first p q is h))
brought v f (least.given c a n x r q at among hands stands comes takes reads h) =
    by_given v c a n x r q (done_at v c a r at among comes) hands stands takes reads (brought v (Hands c x q) h)
brought v f (least.filled c a r y q at among fill comes list receives is h) =
    by_filled v c a r y q (done_at v c a r at among comes) fill list receives is (brought v (Held c r q) h)
brought v f (least.led c a r d at among comes leads) = tt
brought v f (least.passed c a r d g p q at among comes leads scene part h) =
    by_passed v c a r d g p q (done_at v c a r at among comes) leads scene part (brought v (Held c p.key q) h)

pub held_is_brought : WhatIsHeldIsBrought
held_is_brought v q c r h = brought v (Held c r q) h
