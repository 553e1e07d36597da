-- What a receiver has of programs changes nothing of what is present, nor of what effects put to work: arrows that go round in a
-- service that was given programs go round in the service itself.
use Rattle.std.proofs.Common.{◌≡◌, ◌&&◌, ℕ, Bool, false, pos, reverse, List, [], ◌∷◌, ◌++◌, Option, Some, None, filter, not, refl, if◌then◌else◌}
use Rattle.std.specs.List.{list_any}
use Rattle.std.specs.Option.{option_map_or}
use Rattle.mh_base.specs.declared.obj_ref.ObjRef.{ObjRef}
use Rattle.mh_base.specs.declared.event.EventType.{EventType}
use Rattle.mh_base.specs.declared.event.EventType.TheVariants as event
use Rattle.mh_base.specs.declared.value.Value.TheVariants as value
use Rattle.mh_base.specs.Event.{is_sync}
use Rattle.mh_group.specs.declared.action_name.ActionName.{ActionName}
use Rattle.mh_group.specs.declared.action_name.ActionName.TheVariants as action
use Rattle.mh_group.specs.declared.class.Class.{Class}
use Rattle.mh_group.specs.declared.class.Class.TheVariants as class
use Rattle.mh_group.specs.Table.{has_content, is_runnable}
use Rattle.mh_model.specs.declared.act.Act.{Act}
use Rattle.mh_model.specs.declared.act.Argument.{Argument}
use Rattle.mh_model.specs.declared.act.Argument.TheVariants as argument
use Rattle.mh_model.specs.declared.config.Config.{Config}
use Rattle.mh_model.specs.declared.object.member.Member.{Member}
use Rattle.mh_model.specs.declared.object.Fixed.{Fixed}
use Rattle.mh_model.specs.declared.program.Signature.{Signature}
use Rattle.mh_model.specs.Configuration.{present, scene_parts}
use Rattle.mh_model.specs.Groups.{is_initially_active, is_shared}
use Rattle.mh_model.specs.Known.{class_at}
use Rattle.mh_model.specs.Reference.{group_ref}
use Rattle.mh_model.specs.Saying.{event_numbered}
use Rattle.mh_model.specs.Service.{Service, group_parts, is_there, part_at}
use Rattle.mh_model.specs.Tokens.{members}
use Rattle.mh_laws.specs.Costs.{act, change, data_sent, done_to, dropped, emit, enter, event_from, exchange, fired, fired_if_there, group_effect, group_halt, group_run, halt, halt_alone, halts, heard_by, leave_all, leave_scene, named, named_data, on_close_down, on_start_up, plain_emit, prepare, rise, run, run_alone, scene_closes, sends, share, slots, targets}
use Rattle.mh_laws.specs.Flow.{Flow, reached}
use Rattle.mh_laws.specs.Price.{Nothing, One, Plus, if_price, most_price, sum_price}
use Rattle.mh_laws.specs.Safe.{exchanged}
use Rattle.mh_laws.specs.Ways.{Changes, Drops, Halts, Prepares, Runs, Sends, Share, Slots, Sure, Tells, Told, Unsure, ways}
use Rattle.mh_flow.specs.Equipment.{equipped}
use Rattle.mh_flow.specs.Sites.{Site, sites_of}
use Rattle.mh_layers.specs.declared.arrows.arrow.Arrow.{Arrow}
use Rattle.mh_layers.specs.declared.arrows.arrow.By.{By}
use Rattle.mh_layers.specs.Arrows.{counts, goes_round, granted, is_action_in, is_action_of, is_waited_for, leads, leads_back, meets, number_by, put_by, puts}

module _ (s : Service) (programs : List Signature) where
  abbrev whole : Service
  whole = equipped s programs

  -- What is present

  scene_same : (scene : Option (List ℕ)) → scene_parts whole scene ≡ scene_parts s scene
  scene_same None = refl
  scene_same (Some g) = refl

  pub present_same : (c : Config) → present whole c ≡ present s c
  present_same c = λ i. group_parts s c.app ++ scene_same c.scene i

  -- What it costs

  fired_same : (c : Config) (r : ObjRef) (kind : EventType) (d : Told) → fired whole c r kind d ≡ fired s c r kind d
  fired_same c r kind (Sure m) = λ i. heard_by c (event_from r kind m) (present_same c i)
  fired_same c r kind Unsure = λ i. most_price (λ m. heard_by c (event_from r kind m) (present_same c i)) (named_data (present_same c i))

  there_same : (c : Config) (r : ObjRef) (kind : EventType) (d : Told) → fired_if_there whole c r kind d ≡ fired_if_there s c r kind d
  there_same c r kind d = λ i. if_price (is_there r (present_same c i)) (fired_same c r kind d i)

  emit_same : (w : Flow) (c : Config) (r : ObjRef) (kind : EventType) (d : Told) → emit whole w c r kind d ≡ emit s w c r kind d
  emit_same w c r kind d =
      λ i. Plus One (if is_sync kind then there_same c r kind d i else Plus One (most_price (λ x. there_same x r kind d i) w.configs))

  plain_same : (w : Flow) (c : Config) (r : ObjRef) (kind : EventType) → plain_emit whole w c r kind ≡ plain_emit s w c r kind
  plain_same w c r kind = emit_same w c r kind (Sure None)

  rise_same : (w : Flow) (c : Config) (r : ObjRef) → rise whole w c r ≡ rise s w c r
  rise_same w c r =
      λ i. option_map_or (λ k. Plus (plain_same w c r event.IsAvailable i) (if_price (has_content k) (plain_same w c r event.ContentAvailable i)))
      (class_at r (present_same c i)) Nothing

  prepare_same : (w : Flow) (c : Config) (r : ObjRef) → prepare whole w c r ≡ prepare s w c r
  prepare_same w c r = λ i. Plus One (rise_same w c r i)

  run_alone_same : (w : Flow) (c : Config) (r : ObjRef) → run_alone whole w c r ≡ run_alone s w c r
  run_alone_same w c r = λ i. Plus One (Plus (rise_same w c r i) (plain_same w c r event.IsRunning i))

  halt_alone_same : (w : Flow) (c : Config) (r : ObjRef) → halt_alone whole w c r ≡ halt_alone s w c r
  halt_alone_same w c r = λ i. Plus One (plain_same w c r event.IsStopped i)

  change_same : (w : Flow) (c : Config) (r : ObjRef) → change whole w c r ≡ change s w c r
  change_same w c r =
      λ i. Plus (sum_price (λ q. halt_alone_same w c q i) (w.sets c r))
      (Plus (sum_price (λ q. run_alone_same w c q i) (w.sets c r))
      (Plus (emit_same w c r event.FirstItemPresented Unsure i) (Plus (emit_same w c r event.LastItemPresented Unsure i)
      (Plus (emit_same w c r event.HeadItems Unsure i) (emit_same w c r event.TailItems Unsure i)))))

  group_run_same : (w : Flow) (c : Config) (r : ObjRef) (p : Fixed) (k : Class) → group_run whole w c r p k ≡ group_run s w c r p k
  group_run_same w c r p class.TokenGroup =
      λ i. Plus (sum_price (λ (m : Member). run_alone_same w c m.object i) (members p))
      (emit_same w c r event.TokenMovedTo (Sure (Some (value.Int (pos 1)))) i)
  group_run_same w c r p class.ListGroup = change_same w c r
  group_run_same w c r p _ = refl

  group_halt_same : (w : Flow) (c : Config) (r : ObjRef) (p : Fixed) (k : Class) → group_halt whole w c r p k ≡ group_halt s w c r p k
  group_halt_same w c r p class.TokenGroup = λ i. sum_price (λ (m : Member). halt_alone_same w c m.object i) (members p)
  group_halt_same w c r p class.ListGroup = λ i. sum_price (λ q. halt_alone_same w c q i) (w.sets c r)
  group_halt_same w c r p _ = refl

  run_same : (w : Flow) (c : Config) (r : ObjRef) → run whole w c r ≡ run s w c r
  run_same w c r =
      λ i. Plus (run_alone_same w c r i)
      (option_map_or (λ (p : Fixed). group_run_same w c r p p.class i) (part_at r (present_same c i)) Nothing)

  halt_same : (w : Flow) (c : Config) (r : ObjRef) → halt whole w c r ≡ halt s w c r
  halt_same w c r =
      λ i. Plus (halt_alone_same w c r i)
      (option_map_or (λ (p : Fixed). group_halt_same w c r p p.class i) (part_at r (present_same c i)) Nothing)

  dropped_same : (w : Flow) (c : Config) (r : ObjRef) → dropped whole w c r ≡ dropped s w c r
  dropped_same w c r = λ i. Plus One (plain_same w c r event.IsDeleted i)

  enter_same : (w : Flow) (c : Config) (g : List ℕ) → enter whole w c g ≡ enter s w c g
  enter_same w c g =
      λ i. Plus One (Plus (group_effect s c g on_start_up)
      (Plus (sum_price (λ (p : Fixed). run_same w c p.key i) (filter is_initially_active (group_parts s g)))
      (plain_same w c (group_ref g) event.IsRunning i)))

  exchange_same : (w : Flow) (c : Config) (g : List ℕ) → exchange whole w c g ≡ exchange s w c g
  exchange_same w c g = λ i. Plus One (if_price (reached w (exchanged s c g)) (enter_same w (exchanged s c g) g i))

  halts_same : (w : Flow) (c : Config) (is : Fixed → Bool) (ps : List Fixed) → halts whole w c is ps ≡ halts s w c is ps
  halts_same w c is ps = λ i. sum_price (λ (p : Fixed). halt_same w c p.key i) (filter is (reverse ps))

  leave_scene_same : (w : Flow) (c : Config) → leave_scene whole w c ≡ leave_scene s w c
  leave_scene_same w c =
      λ i. Plus (scene_closes s c) (Plus (halts_same w c (λ p. is_runnable p.class) (scene_same c.scene i) i)
      (halts_same w c (λ p. is_runnable p.class && not (is_shared p)) (group_parts s c.app) i))

  leave_all_same : (w : Flow) (c : Config) → leave_all whole w c ≡ leave_all s w c
  leave_all_same w c =
      λ i. Plus (scene_closes s c) (Plus (group_effect s c c.app on_close_down)
      (Plus (halts_same w c (λ p. is_runnable p.class) (scene_same c.scene i) i)
      (halts_same w c (λ p. is_runnable p.class) (group_parts s c.app) i)))

  sends_same : (w : Flow) (c : Config) (xs : List Argument) → sends whole w c xs ≡ sends s w c xs
  sends_same w c (x ∷ argument.Direct (value.Int n) ∷ more) =
      λ i. option_map_or (λ kind. most_price (λ q. emit_same w c q kind (data_sent more) i) (named w c x)) (event_numbered n) Nothing
  sends_same w c _ = refl

  share_same : (w : Flow) (c : Config) (xs : List Argument) (r : ObjRef) (x : Share) → share whole w c xs r x ≡ share s w c xs r x
  share_same w c xs r Prepares = prepare_same w c r
  share_same w c xs r Runs = run_same w c r
  share_same w c xs r Halts = halt_same w c r
  share_same w c xs r Drops = dropped_same w c r
  share_same w c xs r (Tells kind d) = emit_same w c r kind d
  share_same w c xs r Sends = sends_same w c xs
  share_same w c xs r Changes = change_same w c r
  share_same w c xs r Slots = λ i. option_map_or (slots c) (part_at r (present_same c i)) Nothing

  done_same : (w : Flow) (c : Config) (n : ActionName) (xs : List Argument) (r : ObjRef) → done_to whole w c n xs r ≡ done_to s w c n xs r
  done_same w c action.TransitionTo xs r = λ i. Plus (leave_scene_same w c i) (exchange_same w c r.group i)
  done_same w c action.Launch xs r = λ i. Plus (leave_all_same w c i) (exchange_same w c r.group i)
  done_same w c action.Quit xs r = λ i. Plus (leave_all_same w c i) One
  done_same w c n xs r = λ i. most_price (sum_price (λ x. share_same w c xs r x i)) (ways n xs)

  act_same : (w : Flow) (c : Config) (a : Act) → act whole w c a ≡ act s w c a
  act_same w c a = λ i. Plus One (most_price (λ r. done_same w c a.name a.arguments r i) (targets w c a.target))

  -- Arrows

  puts_same : (a next : Arrow) (x : Site) → puts whole a next x ≡ puts s a next x
  puts_same a next x = λ i. counts (put_by a.by next.cause) (act_same (granted s a next.cause.config x.act) a.cause.config x.act i)

  meets_same : (b : By) (next : Arrow) → meets whole b next ≡ meets s b next
  meets_same b next =
      λ i. option_map_or (λ p. is_waited_for b p && is_action_in (number_by b) next p) (part_at next.cause.at (present_same next.cause.config i)) false

  leads_same : (a next : Arrow) → leads whole a next ≡ leads s a next
  leads_same a next =
      λ i. list_any (λ x. is_action_of a x && puts_same a next x i) (sites_of (present_same a.cause.config i)) && meets_same a.by next i

  back_same : (z : Arrow) (arrows : List Arrow) → leads_back whole z arrows ≡ leads_back s z arrows
  back_same z [] = refl
  back_same z (a ∷ []) = leads_same a z
  back_same z (a ∷ b ∷ rest) = λ i. leads_same a b i && back_same z (b ∷ rest) i

  pub round_same : (arrows : List Arrow) → goes_round whole arrows ≡ goes_round s arrows
  round_same [] = refl
  round_same (a ∷ rest) = back_same a (a ∷ rest)
