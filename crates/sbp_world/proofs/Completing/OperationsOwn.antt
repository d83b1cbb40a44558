-- In every run an initiator that has an operation without a management ORB under way has a request of it under way: the read of a quadlet of the ROM, or the write of AGENT_RESET or of
-- UNSOLICITED_STATUS_ENABLE. So it is behind each of its calls.
use Rattle.sbp_world.proofs.Words.Std.{◌≡◌, inl, inr, ◌⊎◌, refl, sym, ◌∙◌, ap, subst, ℕ, ◌==◌, nat_lt, Bool, true, false, cond, List, [], ◌∷◌, ◌++◌, length, Option, Some, None, Result, Ok, Err, same_Some}
use Rattle.sbp_world.proofs.Words.Wire.{Action, Asked, Body, Finding, LabelParts, Layer, Moment, Operation, OpWord, OutboxState, Outgoing, Stale, asking_step, empty_outbox, expiring_step, judging_step, of_again, of_generation, of_grammar, of_label, of_request, of_response, seeing_step, seen_in_generation}
use Rattle.sbp_world.proofs.Words.Initiator.{Ending, InitiatorState, Purpose, Running, Turn, act_step, after_by, ask_quad, asked_as, asked_for, asked_quad, begun_as, called, demand_of, demanded_as, drop_list_step, dropped_as, end_own_for, end_own_step, end_step, ended_for, ended_step, ending_of, expire_step, expired_as, facts_with, fail_step, fault_number, finish_rom, is_address, is_managed, judged_as, new_state, next_quad, operation_of, receive_step, received, refusal, see_step, seen_as, wanted_body, with_rom, with_unit}
use Rattle.config_rom.specs.Reading.{Tree, reading}
use Rattle.config_rom.specs.Unit.{sbp_unit_of}
use Rattle.config_rom.specs.declared.fault.RomFault.{RomFault}
use Rattle.config_rom.specs.declared.unit.SbpUnit.{SbpUnit}
use Rattle.initiator_base.specs.Places.{management_at}
use Rattle.initiator_base.specs.Quads.{with_quad}
use Rattle.orb_list.specs.Lists.{ListState, drop_lists}
use Rattle.sbp_initiator.specs.declared.purpose.Demand.{Demand}
use Rattle.sbp_initiator.specs.declared.purpose.Ending.TheVariants as endings
use Rattle.sbp_initiator.specs.declared.purpose.Purpose.TheVariants as purposes
use Rattle.sbp_journal.specs.declared.event.Action.TheVariants as actions
use Rattle.sbp_journal.specs.declared.operation.Operation.TheVariants as operations
use Rattle.sbp_journal.specs.declared.operation.OpWord.TheVariants as words
use Rattle.sbp_world.proofs.Common.{none_is, same_number, untrue}
use Rattle.sbp_world.proofs.Hosts.ActLeft.{ActLeft, act_left}
use Rattle.sbp_world.proofs.Hosts.Aimed.{IsAimed, aimed_carried, first_aimed, own_called}
use Rattle.sbp_world.proofs.Hosts.Carries.{Carries, Nothing}
use Rattle.sbp_world.proofs.Hosts.Hosted.{expires_fit, hears_fit, marks_of}
use Rattle.sbp_world.proofs.Hosts.Layered.{LayerLeft, expire_left, read, receive_left, same}
use Rattle.sbp_world.proofs.Hosts.Lives.{At, Called, ask_begins, ask_keeps}
use Rattle.sbp_world.proofs.Hosts.Pointed.{expired_called, judged_called, stale_is}
use Rattle.sbp_world.proofs.Hosts.Pointing.{at_same}
use Rattle.sbp_world.proofs.Hosts.Requested.{done_sends}
use Rattle.sbp_world.proofs.Lists.ManageActs.{act_operation}
use Rattle.sbp_world.proofs.Lists.ManageHears.{hears_left, lapses_left}
use Rattle.sbp_world.proofs.Lists.ManageLeaves as leaves
use Rattle.sbp_world.proofs.Lists.ManageRuns.{first_none}
use Rattle.sbp_world.proofs.Lists.ManageSees.{none_later}
use Rattle.sbp_world.proofs.Pointers.Asks.{act_allowed}
use Rattle.sbp_world.proofs.Pointers.Leaving.{ClosedFor, LapsedFor, expire_goes, judge_goes}

-- what the requests of an operation are for; those of one with a management ORB are left out
abbrev pub its_requests : Operation → (act : ℕ) → Option Purpose
its_requests operations.Rom act = Some (purposes.Rom act)
its_requests operations.AgentReset act = Some (purposes.AgentReset act)
its_requests operations.Enable act = Some (purposes.Enable act)
its_requests _ act = None

-- a transaction with the target is under way for this
pub record HasLabel (s : InitiatorState) (purpose : Purpose) : Type 0 where
  pub number : ℕ
  pub at : At s.layer s.target number (Some purpose)

abbrev pub HasOwn : InitiatorState → Type 0
HasOwn s = (r : Running) (purpose : Purpose) → s.operation ≡ Some r → its_requests r.operation r.act ≡ Some purpose → HasLabel s purpose

-- ---- the end of the transaction of an operation
module _ (r : Running) where
  -- it ends the operation
  abbrev Ends : Turn → Type 0
  Ends t = t.1.operation ≡ None

  ends_for : (found : Option Running) (word : OpWord) (o : OutboxState) (u : InitiatorState) → found ≡ Some r → Ends (end_own_for found r.act word o u)
  ends_for None word o u e = none_is r e
  ends_for (Some running) word o u e = by (running.act == r.act) (ap (λ x. x == r.act) (same_act e) ∙ same_number r.act)
    where
      same_act : Some running ≡ Some r → running.act ≡ r.act
      same_act f = ap act_in f
        where
          act_in : Option Running → ℕ
          act_in None = 0
          act_in (Some x) = x.act

      by : (b : Bool) → b ≡ true → Ends (cond b (end_step running.operation word o u) (o, u))
      by true f = refl
      by false f = untrue f

  pub ends : (word : OpWord) (o : OutboxState) (u : InitiatorState) → u.operation ≡ Some r → Ends (end_own_step r.act word o u)
  ends word o u e = ends_for u.operation word o u e

  pub fails : (o : OutboxState) (u : InitiatorState) → u.operation ≡ Some r → Ends (fail_step r.act o u)
  fails o u e = ends words.Error o u e

  drops_by : (d : Option ℕ × ListState) (o : OutboxState) (u : InitiatorState) → (dropped_as d o u).1.operation ≡ u.operation
  drops_by (None, lists) o u = refl
  drops_by (Some n, lists) o u = refl

  -- or, of a ROM, asks for the next quadlet
  record AsksNext (u : InitiatorState) (t : Turn) : Type 0 where
    body : Body
    asked : Asked
    step : asking_step u.layer u.target body (purposes.Rom r.act) ≡ (Some asked, t.1.layer)

  abbrev Goes : InitiatorState → Turn → Type 0
  Goes u t = Ends t ⊎ AsksNext u t

  module _ (o : OutboxState) (u : InitiatorState) (e : u.operation ≡ Some r) where
    units : (unit : Option SbpUnit) → Ends (with_unit unit r.act o u)
    units None = ends words.NoUnit o u e
    units (Some unit) = ends words.Done o (record u { management = Some (management_at unit.management) }) e

    roms : (x : Result Tree RomFault) → Ends (with_rom x r.act o u)
    roms (Ok tree) = units (sbp_unit_of tree.blocks tree.entries)
    roms (Err fault) = ends (words.Bad (fault_number fault)) o u e

    asks : (x : Option Asked × Layer Purpose) → asking_step u.layer u.target (next_quad u.quads) (purposes.Rom r.act) ≡ x → Goes u (asked_quad x r.act o u)
    asks (Some asked, layer) f = inr (record { body = next_quad u.quads; asked = asked; step = f })
    asks (None, layer) f = inl (ends words.Error o (record u { layer = layer }) e)

    quads : (b : Bool) → Goes u (cond b (finish_rom r.act o u) (ask_quad r.act o u))
    quads true = inl (roms (reading u.quads))
    quads false = asks (asking_step u.layer u.target (next_quad u.quads) (purposes.Rom r.act)) refl

    refused : (b : Bool) → Ends (cond b (finish_rom r.act o u) (end_own_step r.act words.Error o u))
    refused true = roms (reading u.quads)
    refused false = ends words.Error o u e

  module _ (o : OutboxState) (u : InitiatorState) (e : u.operation ≡ Some r) where
    rom_goes : (ending : Ending) → Goes u (ended_step (purposes.Rom r.act) ending o u)
    unfolding ended_step
    rom_goes (endings.Complete value) = let v = record u { quads = with_quad u.quads value } in by (quads o v e (length v.quads == 256))
      where
        by : {t : Turn} → Goes (record u { quads = with_quad u.quads value }) t → Goes u t
        by (inl x) = inl x
        by (inr x) = inr (record { body = x.body; asked = x.asked; step = x.step })
    rom_goes (endings.Refused rcode) = inl (refused o u e (is_address rcode))
    rom_goes endings.Expired = inl (ends words.Error o u e)

    reset_ends : (ending : Ending) → Ends (ended_step (purposes.AgentReset r.act) ending o u)
    unfolding ended_step
    reset_ends (endings.Complete value) = let d = drop_list_step o u in ends words.Done d.0 d.1 (drops_by (drop_lists u.lists) o u ∙ e)
    reset_ends (endings.Refused rcode) = fails o u e
    reset_ends endings.Expired = fails o u e

    enable_ends : (ending : Ending) → Ends (ended_step (purposes.Enable r.act) ending o u)
    unfolding ended_step
    enable_ends (endings.Complete value) = ends words.Done o u e
    enable_ends (endings.Refused rcode) = fails o u e
    enable_ends endings.Expired = fails o u e

  same_purpose : (a b : Purpose) → Some a ≡ Some b → a ≡ b
  same_purpose a b e = cc

  -- of whatever operation it is
  abbrev EndsOrReads : InitiatorState → Purpose → Turn → Type 0
  EndsOrReads u purpose t = Ends t ⊎ (AsksNext u t × (purpose ≡ purposes.Rom r.act))

  ended_goes : (operation : Operation) (purpose : Purpose) → its_requests operation r.act ≡ Some purpose → (ending : Ending) (o : OutboxState) (u : InitiatorState) → u.operation ≡ Some r → EndsOrReads u purpose (ended_step purpose ending o u)
  ended_goes operations.Rom purpose f ending o u e = subst (λ p. EndsOrReads u p (ended_step p ending o u)) (same_purpose (purposes.Rom r.act) purpose f) (by (rom_goes o u e ending))
    where
      by : {t : Turn} → Goes u t → EndsOrReads u (purposes.Rom r.act) t
      by (inl x) = inl x
      by (inr x) = inr (x, refl)
  ended_goes operations.AgentReset purpose f ending o u e = inl (subst (λ p. Ends (ended_step p ending o u)) (same_purpose (purposes.AgentReset r.act) purpose f) (reset_ends o u e ending))
  ended_goes operations.Enable purpose f ending o u e = inl (subst (λ p. Ends (ended_step p ending o u)) (same_purpose (purposes.Enable r.act) purpose f) (enable_ends o u e ending))
  ended_goes operations.Login purpose f ending o u e = none_is purpose f
  ended_goes operations.Query purpose f ending o u e = none_is purpose f
  ended_goes operations.Reconnect purpose f ending o u e = none_is purpose f
  ended_goes operations.Logout purpose f ending o u e = none_is purpose f
  ended_goes operations.Abort purpose f ending o u e = none_is purpose f
  ended_goes operations.AbortSet purpose f ending o u e = none_is purpose f
  ended_goes operations.UnitReset purpose f ending o u e = none_is purpose f
  ended_goes operations.TargetReset purpose f ending o u e = none_is purpose f
  ended_goes operations.State purpose f ending o u e = none_is purpose f

-- what an operation that begins asks for
abbrev pub AsksFor : Action → InitiatorState → Purpose → Type 0
AsksFor action s purpose = (demand : Demand) × ((demand_of action s ≡ Some demand) × (demand.purpose ≡ purpose))

asks_by : (action : Action) (operation : Operation) (s : InitiatorState) → operation_of action ≡ Some operation → (purpose : Purpose) → its_requests operation s.counts.acts ≡ Some purpose → AsksFor action s purpose
asks_by action operation s o purpose f = by action (ap (requested s.counts.acts) o ∙ f)
  where
    requested : ℕ → Option Operation → Option Purpose
    requested act None = None
    requested act (Some operation) = its_requests operation act

    by : (action : Action) → requested s.counts.acts (operation_of action) ≡ Some purpose → AsksFor action s purpose
    by actions.Rom e = (_, (refl, same_Some (purposes.Rom s.counts.acts) purpose e))
    by actions.AgentReset e = (_, (refl, same_Some (purposes.AgentReset s.counts.acts) purpose e))
    by actions.Enable e = (_, (refl, same_Some (purposes.Enable s.counts.acts) purpose e))
    by action e = none_is purpose e

begun_requests : (b : Bool) (operation : Operation) (s : InitiatorState) → (let r = begun_as b operation s in its_requests r.operation r.act ≡ its_requests operation s.counts.acts)
begun_requests true operation s = refl
begun_requests false operation s = refl

-- ---- a call
-- what a layer has under way it has behind what a call of its initiator leaves of it
left_keeps : (l : Layer Purpose) (target : ℕ) (now : Layer Purpose) → Called l → LayerLeft l target now → (number : ℕ) (purpose : Option Purpose) → At l target number purpose → At now target number purpose
left_keeps l target now c (same g p) number purpose a = at_same l now target number purpose p a
left_keeps l target now c (read body act asked step) number purpose a = ask_keeps l target body (purposes.Rom act) asked now c step target number purpose a

module _ (ready : Bool) (i : ℕ) (s : InitiatorState) (aimed : IsAimed ready i s) (has : HasOwn s) where
  pub c : Called s.layer
  c = own_called ready i s aimed.own

  -- a transaction ends, as the layer J has closed it
  module _ (J : Layer Purpose) (called_J : Called J) (t : Turn) (target_is : t.1.target ≡ s.target) (keeps : (number : ℕ) (purpose : Option Purpose) → At J s.target number purpose → At t.1.layer s.target number purpose) where
    abbrev here : InitiatorState
    here = called (record s { layer = J })

    pub stays : (r : Running) (purpose : Purpose) (number : ℕ) → At J s.target number (Some purpose) → HasLabel t.1 purpose
    stays r purpose number a = record { number = number; at = subst (λ p. At t.1.layer p number (Some purpose)) (sym target_is) (keeps number (Some purpose) a) }

    -- the one that ends is the operation's
    pub closed_own : (r : Running) (purpose : Purpose) → t.1.operation ≡ Some r → s.operation ≡ Some r → its_requests r.operation r.act ≡ Some purpose → (ending : Ending) → t ≡ ended_step purpose ending empty_outbox here → HasLabel t.1 purpose
    closed_own r purpose now was f ending is = by (ended_goes r r.operation purpose f ending empty_outbox here was)
      where
        by : EndsOrReads r here purpose (ended_step purpose ending empty_outbox here) → HasLabel t.1 purpose
        by (inl e) = none_is r (sym (ap (λ (x : Turn). x.1.operation) is ∙ e) ∙ now)
        by (inr x) =
            let step = x.0.step ∙ ap (λ (y : Turn). (Some x.0.asked, y.1.layer)) (sym is) in
            let for : At t.1.layer s.target x.0.asked.label.number (Some (purposes.Rom r.act)) = ask_begins J s.target x.0.body (purposes.Rom r.act) x.0.asked t.1.layer called_J step in
            record { number = x.0.asked.label.number; at = subst (λ p. At t.1.layer p x.0.asked.label.number (Some purpose)) (sym target_is) (subst (λ p. At t.1.layer s.target x.0.asked.label.number (Some p)) (sym x.1) for) }

  -- ---- a packet that it hears
  module _ (generation : ℕ) (bytes : List ℕ) where
    abbrev pub heard_layer : Layer Purpose
    heard_layer = (judging_step s.layer generation bytes).1

    abbrev pub finding : Finding Purpose
    finding = (judging_step s.layer generation bytes).0

    abbrev pub heard : Turn
    heard = (receive_step generation bytes empty_outbox s).1

    pub heard_called : Called heard_layer
    heard_called = judged_called ready s.layer generation bytes c

    pub heard_was : (r : Running) → heard.1.operation ≡ Some r → s.operation ≡ Some r
    heard_was r e = leaves.was_by s heard.1 _ (hears_left s generation bytes (hears_fit ready i s aimed.own.called generation bytes)) r e

    pub heard_target : heard.1.target ≡ s.target
    heard_target = (receive_left generation bytes s).target_is

    pub heard_keeps : (number : ℕ) (purpose : Option Purpose) → At heard_layer s.target number purpose → At heard.1.layer s.target number purpose
    heard_keeps = left_keeps heard_layer s.target heard.1.layer heard_called (receive_left generation bytes s).layer

    closes : (f : Finding Purpose) → finding ≡ f → (r : Running) (purpose : Purpose) → heard.1.operation ≡ Some r → its_requests r.operation r.act ≡ Some purpose → ClosedFor f (Some purpose) → heard ≡ (received (f, heard_layer) bytes empty_outbox s).1 → HasLabel heard.1 purpose
    closes of_generation e r purpose now f x is = absurd x
    closes of_grammar e r purpose now f x is = absurd x
    closes of_label e r purpose now f x is = absurd x
    closes (of_again p rcode) e r purpose now f x is = absurd x
    closes (of_request p) e r purpose now f x is = absurd x
    closes (of_response p label other) e r purpose now f x is =
        closed_own heard_layer heard_called heard heard_target heard_keeps r purpose now (heard_was r now) f (ending_of p)
        (is ∙ ap (λ o. ended_for o (ending_of p) empty_outbox (called (record s { layer = heard_layer }))) x)

    pub heard_is : heard ≡ (received (finding, heard_layer) bytes empty_outbox s).1
    unfolding receive_step
    heard_is = refl

    hears_own : HasOwn heard.1
    hears_own r purpose now f =
        let l = has r purpose (heard_was r now) f in
        by l.number (judge_goes s.layer s.target l.number (Some purpose) c l.at generation bytes)
      where
        by : (number : ℕ) → At heard_layer s.target number (Some purpose) ⊎ ClosedFor finding (Some purpose) → HasLabel heard.1 purpose
        by number (inl a) = stays heard_layer heard_called heard heard_target heard_keeps r purpose number a
        by number (inr x) = closes finding refl r purpose now f x heard_is

  -- ---- one that times out
  module _ (label : LabelParts) where
    abbrev pub late_layer : Layer Purpose
    late_layer = (expiring_step s.layer s.target label).1

    abbrev pub found : Result (Option Purpose) Stale
    found = (expiring_step s.layer s.target label).0

    abbrev pub late : Turn
    late = (expire_step label empty_outbox s).1

    pub late_called : Called late_layer
    late_called = expired_called ready s.layer s.target label c

    pub late_was : (r : Running) → late.1.operation ≡ Some r → s.operation ≡ Some r
    late_was r e = leaves.was_by s late.1 _ (lapses_left s label (expires_fit ready i s aimed.own.called label)) r e

    pub late_target : late.1.target ≡ s.target
    late_target = (expire_left label s).target_is

    pub late_keeps : (number : ℕ) (purpose : Option Purpose) → At late_layer s.target number purpose → At late.1.layer s.target number purpose
    late_keeps = left_keeps late_layer s.target late.1.layer late_called (expire_left label s).layer

    lapses : (x : Result (Option Purpose) Stale) → (r : Running) (purpose : Purpose) → late.1.operation ≡ Some r → its_requests r.operation r.act ≡ Some purpose → LapsedFor x (Some purpose) → late ≡ (expired_as (x, late_layer) empty_outbox s).1 → HasLabel late.1 purpose
    lapses (Err stale) r purpose now f x is = absurd x
    lapses (Ok other) r purpose now f x is =
        closed_own late_layer late_called late late_target late_keeps r purpose now (late_was r now) f endings.Expired
        (is ∙ ap (λ o. ended_for o endings.Expired empty_outbox (called (record s { layer = late_layer }))) x)

    pub late_is : late ≡ (expired_as (found, late_layer) empty_outbox s).1
    unfolding expire_step
    late_is = refl

    expires_own : HasOwn late.1
    expires_own r purpose now f =
        let l = has r purpose (late_was r now) f in
        by l.number (expire_goes s.layer s.target l.number (Some purpose) c l.at s.target label)
      where
        by : (number : ℕ) → At late_layer s.target number (Some purpose) ⊎ LapsedFor found (Some purpose) → HasLabel late.1 purpose
        by number (inl a) = stays late_layer late_called late late_target late_keeps r purpose number a
        by number (inr x) = lapses found r purpose now f x late_is

  -- ---- a sight
  same_sight : (generation id target : ℕ) → nat_lt s.layer.generation generation ≡ false → HasOwn (see_step generation id target empty_outbox s).1
  unfolding see_step seeing_step
  same_sight generation id target e = subst (λ b. HasOwn (seen_as (cond b (true, seen_in_generation s.layer generation id) (false, s.layer)) target empty_outbox s).1) (sym e) has

  sees_own : (generation id target : ℕ) → HasOwn (see_step generation id target empty_outbox s).1
  sees_own generation id target = by (nat_lt s.layer.generation generation) refl
    where
      by : (b : Bool) → nat_lt s.layer.generation generation ≡ b → HasOwn (see_step generation id target empty_outbox s).1
      by true e = λ r purpose now f. none_is r (sym (none_later generation id target s e) ∙ now)
      by false e = same_sight generation id target e

  -- ---- an action
  module _ (action : Action) (done_is : (act_step action empty_outbox s).0 ≡ None) where
    abbrev pub acted : Turn
    acted = (act_step action empty_outbox s).1

    -- it sends the request that it asks for
    record Sends (t : Turn) : Type 0 where
      packet : Outgoing
      is : t.0.packets ≡ packet ∷ []

    abbrev Sent : Option Demand → Turn → Type 0
    Sent demand t = Sends t ⊎ ((t.0.packets ≡ []) × (demand ≡ None))

    asked_sends : (x : Option Asked × Layer Purpose) → (asked_as x action empty_outbox s).0 ≡ None → Sends (asked_as x action empty_outbox s).1
    asked_sends (None, layer) e = none_is 10 (sym e)
    asked_sends (Some asked, layer) e =
        let packet : Outgoing = record { to = s.target; label = Some asked.label; bytes = asked.bytes } in
        record { packet = packet; is = ap (λ ps. ps ++ packet ∷ []) (done_sends action empty_outbox (record s { layer = layer })) }

    demanded_sends : (demand : Option Demand) → (demanded_as demand action empty_outbox s).0 ≡ None → Sent demand (demanded_as demand action empty_outbox s).1
    demanded_sends None e = inr (done_sends action empty_outbox s, refl)
    demanded_sends (Some demand) e = inl (asked_sends (asked_for demand s) e)

    judged_sends : (refused : Option ℕ) → (judged_as refused action empty_outbox s).0 ≡ None → Sent (demand_of action s) (judged_as refused action empty_outbox s).1
    judged_sends (Some number) e = none_is number (sym e)
    judged_sends None e = demanded_sends (demand_of action s) e

    sends : Sent (demand_of action s) acted
    unfolding act_step
    sends = judged_sends (refusal action (facts_with true s action)) done_is

    abbrev pub left : ActLeft action s acted
    left = act_left action s done_is

    pub forth : (number : ℕ) (purpose : Option Purpose) → At s.layer s.target number purpose → At acted.1.layer s.target number purpose
    forth number purpose a = by sends
      where
        by : Sent (demand_of action s) acted → At acted.1.layer s.target number purpose
        by (inl x) =
            let k = left.asking x.packet x.is in
            ask_keeps s.layer s.target (wanted_body k.demand.wanted) k.demand.purpose k.asked acted.1.layer c k.step s.target number purpose a
        by (inr x) = subst (λ (l : Layer Purpose). At l s.target number purpose) (sym (left.quiet x.0)) a

    pub label_of : (number : ℕ) (purpose : Purpose) → At acted.1.layer s.target number (Some purpose) → HasLabel acted.1 purpose
    label_of number purpose a = record { number = number; at = subst (λ p. At acted.1.layer p number (Some purpose)) (sym left.target_is) a }

    pub begins_label : (demand : Demand) → demand_of action s ≡ Some demand → HasLabel acted.1 demand.purpose
    begins_label demand d = by sends
      where
        by : Sent (demand_of action s) acted → HasLabel acted.1 demand.purpose
        by (inl x) =
            let k = left.asking x.packet x.is in
            subst (λ (y : Demand). HasLabel acted.1 y.purpose) (same_Some k.demand demand (sym k.is ∙ d))
            (label_of k.asked.label.number k.demand.purpose (ask_begins s.layer s.target (wanted_body k.demand.wanted) k.demand.purpose k.asked acted.1.layer c k.step))
        by (inr x) = none_is demand (sym x.1 ∙ d)

    begins_own : (operation : Operation) → operation_of action ≡ Some operation → (r : Running) → begun_as (is_managed operation) operation s ≡ r → (purpose : Purpose) → its_requests r.operation r.act ≡ Some purpose → HasLabel acted.1 purpose
    begins_own operation o r is purpose f =
        let x = asks_by action operation s o purpose (sym (begun_requests (is_managed operation) operation s) ∙ subst (λ (y : Running). its_requests y.operation y.act ≡ Some purpose) (sym is) f) in
        subst (HasLabel acted.1) x.1.1 (begins_label x.0 x.1.0)

    acts_own : HasOwn acted.1
    acts_own r purpose now f = by (operation_of action) refl (sym (act_operation action s (act_allowed action s done_is) (marks_of ready i s aimed.own.called) done_is) ∙ now)
      where
        by : (x : Option Operation) → operation_of action ≡ x → after_by x s ≡ Some r → HasLabel acted.1 purpose
        by None o e = let l = has r purpose e f in label_of l.number purpose (forth l.number (Some purpose) l.at)
        by (Some operation) o e = begins_own operation o r (same_Some (begun_as (is_managed operation) operation s) r e) purpose f

-- ---- each initiator
pub record Owned (ready : Bool) (past : List Moment) (i : ℕ) (s : InitiatorState) : Type 0 where
  pub aimed : IsAimed ready i s
  pub has : HasOwn s

pub owned_carried : (ready : Bool) → Carries Nothing (Owned ready)
owned_carried ready =
    let aims = aimed_carried ready in
    record {
      known = λ line event past i s h. tt;
      number = λ past i s h. h.aimed.own.number;
      asked = λ line event past i s h. record { aimed = h.aimed; has = h.has };
      apart = λ note past i s e w h. record { aimed = h.aimed; has = h.has };
      sent = λ serial generation from to bytes past i s n h. record { aimed = h.aimed; has = h.has };
      hears = λ serial generation bytes past i s heard shown after h. record {
        own = record { aimed = (aims.hears serial generation bytes past i s heard shown after h.aimed).own; has = hears_own ready i s h.aimed h.has generation bytes };
        others = λ j x e g. record { aimed = g.aimed; has = g.has };
      };
      expires = λ serial label past i s after h. record {
        own = record { aimed = (aims.expires serial label past i s after h.aimed).own; has = expires_own ready i s h.aimed h.has label };
        others = λ j x e g. record { aimed = g.aimed; has = g.has };
      };
      stale = λ label past i s e h. subst (λ (x : InitiatorState). Owned ready past i x) (sym (stale_is ready label s e)) h;
      sees = λ generation id target past i s e h. record {
        own = record { aimed = (aims.sees generation id target past i s e h.aimed).own; has = sees_own ready i s h.aimed h.has generation id target };
        others = λ j x f g. record { aimed = g.aimed; has = g.has };
      };
      acts = λ action past i s e fit d shown known h.
          let x = aims.acts action past i s e fit d shown tt h.aimed in
          record {
            others = λ j y f g. record { aimed = g.aimed; has = g.has };
            quiet = λ none. record { aimed = x.quiet none; has = acts_own ready i s h.aimed h.has action d };
            asking = λ packet one serial generation f q. record { aimed = x.asking packet one serial generation f q; has = acts_own ready i s h.aimed h.has action d };
          };
    }

pub first_owned : (past : List Moment) (i : ℕ) (ready : Bool) → Owned ready past i (new_state i ready)
first_owned past i ready = record { aimed = first_aimed i ready; has = λ r purpose e f. none_is r (sym (first_none i ready) ∙ e) }
