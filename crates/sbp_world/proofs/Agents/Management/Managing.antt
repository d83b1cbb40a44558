-- What the management agent does at a reply: its notes change the office as its step does the node, and at most one request leaves for it.
use Rattle.sbp_world.proofs.Words.Std.{◌≡◌, ◌∙◌, refl, sym, ap, subst, ℕ, zero, suc, ◌+◌, ◌==◌, nat_lt, is_some, Bool, true, false, cond, List, [], ◌∷◌, ◌++◌, length, Option, Some, None, Result, Ok, Err}
use Rattle.sbp_world.proofs.Words.Wire.{CutCause, Outgoing, Side, OutboxState}
use Rattle.sbp_world.proofs.Words.Target.{Table, Decision, Effect, ManagerStep, Operation, decide, reads_eui, cut, clear_one, cut_placed, node_decided, effect_by, failed_by, place_in, tell_left, NodeState, Scene, desk_at, login_at, scene, with_side, clear_from, clear_unit, cut_all, cut_at, cut_from, is_cut, state_in, is_reset}
use Rattle.sbp_world.proofs.Words.Initiator.{FailCause, ManagementOrb, management_orb, Answer, payload_of, write_failure}
use Rattle.sbp_world.proofs.Words.World.{Office, by_side, by_sides}
use Rattle.mgmt_agent.specs.declared.decision.Effect.TheVariants as effects
use Rattle.mgmt_agent.specs.declared.decision.Outcome.{Outcome}
use Rattle.mgmt_agent.specs.declared.operation.Phase.{Phase}
use Rattle.mgmt_agent.specs.declared.operation.Phase.TheVariants as phases
use Rattle.mgmt_agent.specs.Machine as management
use Rattle.orb_layout.specs.declared.ask.Ask.TheVariants as ask
use Rattle.sbp_journal.specs.declared.cause.CutCause.TheVariants as cuts
use Rattle.sbp_journal.specs.declared.side.Side.TheVariants as sides
use Rattle.sbp_target.proofs.Histories.Seats.{Lives}
use Rattle.sbp_world.proofs.Agents.Management.Calm.{AreQuiet, Calm, From, IsQuiet, clears_from, clears_one, cuts_all, cuts_placed}
use Rattle.sbp_world.proofs.Agents.Management.Deciding.{by_decision, by_effect}
use Rattle.sbp_world.specs.Agents.Management.Offices.{failed}
use Rattle.sbp_world.proofs.Agents.Management.Sides.{AllBehind, TellsBehind, behind_more, sides_more}
use Rattle.sbp_target.proofs.Requests.Effects.{cut_packets}

-- ---- what is told, and what it makes of an office

pub record Says (first now : Office) (told : List Side) : Type 0 where
  pub is : by_sides told first ≡ now
  pub behind : AllBehind told

pub says_more : (first now : Office) (told : List Side) (side : Side) → TellsBehind side → Says first now told → Says first (by_side side now) (told ++ side ∷ [])
says_more first now told side b s = record { is = sides_more told side first ∙ ap (by_side side) s.is; behind = behind_more told side s.behind b }

quiet_side : (side : Side) (o : Office) → IsQuiet side → (by_side side o ≡ o) × TellsBehind side
quiet_side (sides.Own note) o q = absurd q
quiet_side (sides.Opened place orb) o q = (refl, tt)
quiet_side (sides.Ran place orb cdb payload outcome) o q = (refl, tt)
quiet_side (sides.Ended place orb status) o q = (refl, tt)
quiet_side (sides.Dead place cause) o q = (refl, tt)
quiet_side (sides.Cut place cause) o q = (refl, tt)
quiet_side (sides.Managed node function subject status login) o q = absurd q
quiet_side (sides.ManageFailed node cause) o q = absurd q
quiet_side (sides.Held login) o q = absurd q
quiet_side (sides.Expired login) o q = absurd q
quiet_side (sides.Back login) o q = absurd q
quiet_side (sides.Left login) o q = absurd q
quiet_side (sides.Cleared unit) o q = (refl, tt)
quiet_side (sides.Unsolicited place) o q = (refl, tt)
quiet_side (sides.Unsent place) o q = (refl, tt)

pub quiet_says : (told : List Side) (o : Office) → AreQuiet told → Says o o told
quiet_says [] o q = record { is = refl; behind = tt }
quiet_says (side ∷ later) o q =
    let one = quiet_side side o q.0 in
    let rest = quiet_says later o q.1 in
    record { is = ap (by_sides later) one.0 ∙ rest.is; behind = (one.1, rest.behind) }

-- ---- cuts and cleared units let no packet leave

cut_sends : (cause : CutCause) (place : ℕ) (s : Scene) → (cut cause place s).outbox.packets ≡ s.outbox.packets
unfolding cut
cut_sends cause place s = cut_packets (is_reset (state_in (desk_at s.node place).agent.phase)) place cause s.outbox

sends_if : (b : Bool) (x y : Scene) (packets : List Outgoing) → x.outbox.packets ≡ packets → y.outbox.packets ≡ packets → (cond b x y).outbox.packets ≡ packets
sends_if true x y packets p q = p
sends_if false x y packets p q = q

cut_one_sends : (cause : CutCause) (unit : Option ℕ) (place : ℕ) (s : Scene) → (cut_at cause unit place s).outbox.packets ≡ s.outbox.packets
unfolding cut_at
cut_one_sends cause unit place s = sends_if (is_cut unit (login_at s.node place)) (cut cause place s) s s.outbox.packets (cut_sends cause place s) refl

cuts_send : (left place : ℕ) (cause : CutCause) (unit : Option ℕ) (s : Scene) → (cut_from left place cause unit s).outbox.packets ≡ s.outbox.packets
unfolding cut_from
cuts_send zero place cause unit s = refl
cuts_send (suc left) place cause unit s = cuts_send left (place + 1) cause unit (cut_at cause unit place s) ∙ cut_one_sends cause unit place s

placed_sends : (place : Option ℕ) (cause : CutCause) (s : Scene) → (cut_placed place cause s).outbox.packets ≡ s.outbox.packets
placed_sends None cause s = refl
placed_sends (Some place) cause s = cut_sends cause place s

clears_send : (left unit : ℕ) (s : Scene) → (clear_from left unit s).outbox.packets ≡ s.outbox.packets
unfolding clear_from clear_unit
clears_send zero unit s = refl
clears_send (suc left) unit s = clears_send left (unit + 1) (clear_unit unit s)

one_clear_sends : (unit : ℕ) (s : Scene) → (clear_one unit s).outbox.packets ≡ s.outbox.packets
unfolding clear_unit
one_clear_sends unit s = sends_if (nat_lt unit (length s.node.units)) (clear_unit unit s) s s.outbox.packets refl refl

-- ---- a step up to what it asks for

-- The node of this scene has the logins, the keys and the operation of another; what was told makes one office of another; and the packets are those.
pub record Stands (first now : Office) (old : Lives) (node : NodeState) (packets : List Outgoing) (s : Scene) : Type 0 where
  pub logins : s.node.logins ≡ node.logins
  pub keys : s.node.keys ≡ node.keys
  pub manager : s.node.manager ≡ node.manager
  pub rom : s.node.rom ≡ node.rom
  pub says : Says first now s.outbox.sides
  pub from : From old s.node.layer
  pub packets_are : s.outbox.packets ≡ packets

calm_stands : (o : Office) (old : Lives) (node : NodeState) (packets : List Outgoing) (s : Scene) → Calm old node s → s.outbox.packets ≡ packets → Stands o o old node packets s
calm_stands o old node packets s c p =
    record { logins = c.logins; keys = c.keys; manager = c.manager; rom = c.rom; says = quiet_says s.outbox.sides o c.quiet; from = c.from; packets_are = p }

tells_more : (first now : Office) (old : Lives) (node : NodeState) (packets : List Outgoing) (side : Side) (s : Scene) → TellsBehind side → Stands first now old node packets s → Stands first (by_side side now) old node packets (scene s.node (with_side s.outbox side))
tells_more first now old node packets side s b h =
    record { logins = h.logins; keys = h.keys; manager = h.manager; rom = h.rom; says = says_more first now s.outbox.sides side b h.says; from = h.from; packets_are = h.packets_are }

module _ (first : Office) (old : Lives) (node : NodeState) (outbox : OutboxState) (silent : outbox.sides ≡ []) (f : From old node.layer) where
  calm : Calm old node (scene node outbox)
  calm = record { logins = refl; keys = refl; manager = refl; rom = refl; quiet = subst AreQuiet (sym silent) tt; from = f }

  begun : Stands first first old node outbox.packets (scene node outbox)
  begun = calm_stands first old node outbox.packets (scene node outbox) calm refl

  left_tells : (x : Option ℕ) (place : ℕ) → Stands first (by_effect (effects.Entered place x) 0 first) old node outbox.packets (scene node (tell_left x outbox))
  left_tells None place = begun
  left_tells (Some login) place = tells_more first first old node outbox.packets (sides.Left login) (scene node outbox) tt begun

  effects_stand : (effect : Effect) (subject : ℕ) → Stands first (by_effect effect subject first) old node outbox.packets (effect_by effect subject (scene node outbox))
  effects_stand effects.Nothing subject = begun
  effects_stand (effects.Entered place replaced) subject =
      let h = left_tells replaced place in record { logins = h.logins; keys = h.keys; manager = h.manager; rom = h.rom; says = h.says; from = h.from; packets_are = h.packets_are }
  effects_stand (effects.Back place) subject = tells_more first first old node outbox.packets (sides.Back subject) (scene node outbox) tt begun
  effects_stand (effects.Left place) subject =
      let t = cut_placed (place_in place) cuts.Logout (scene node outbox) in
      let c = cuts_placed old node (place_in place) cuts.Logout (scene node outbox) calm in
      let h = tells_more first first old node outbox.packets (sides.Left subject) t tt (calm_stands first old node outbox.packets t c (placed_sends (place_in place) cuts.Logout (scene node outbox))) in
      record { logins = h.logins; keys = h.keys; manager = h.manager; rom = h.rom; says = h.says; from = h.from; packets_are = h.packets_are }
  effects_stand (effects.Abort place orb) subject = record { logins = refl; keys = refl; manager = refl; rom = refl; says = begun.says; from = f; packets_are = refl }
  effects_stand (effects.AbortSet place) subject =
      calm_stands first old node outbox.packets (cut_placed (place_in place) cuts.AbortSet (scene node outbox))
      (cuts_placed old node (place_in place) cuts.AbortSet (scene node outbox) calm) (placed_sends (place_in place) cuts.AbortSet (scene node outbox))
  effects_stand (effects.UnitReset unit) subject =
      let t = cut_all cuts.UnitReset (Some unit) (scene node outbox) in
      calm_stands first old node outbox.packets (clear_one unit t) (clears_one old node unit t (cuts_all old node cuts.UnitReset (Some unit) (scene node outbox) calm))
      (one_clear_sends unit t ∙ cuts_send 8 0 cuts.UnitReset (Some unit) (scene node outbox))
  effects_stand effects.TargetReset subject =
      let t = cut_all cuts.TargetReset None (scene node outbox) in
      calm_stands first old node outbox.packets (clear_from (length t.node.units) 0 t) (clears_from old node (length t.node.units) 0 t (cuts_all old node cuts.TargetReset None (scene node outbox) calm))
      (clears_send (length t.node.units) 0 t ∙ cuts_send 8 0 cuts.TargetReset None (scene node outbox))

  pub decision_stands : (d : Option Decision) (effect : Effect) (source : ℕ) → Stands first (by_decision d effect first) old node outbox.packets (node_decided d effect source (scene node outbox))
  unfolding node_decided
  decision_stands None effect source = begun
  decision_stands (Some d) effect source =
      tells_more first (by_effect effect d.subject first) old node outbox.packets (sides.Managed source d.function d.subject d.status d.login) (effect_by effect d.subject (scene node outbox)) tt (effects_stand effect d.subject)

abbrev pub failed_if : Option FailCause → Office → Office
failed_if None o = o
failed_if (Some cause) o = failed o

pub failing_stands : (first now : Office) (old : Lives) (node : NodeState) (packets : List Outgoing) (source : ℕ) (cause : Option FailCause) (s : Scene) → Stands first now old node packets s → Stands first (failed_if cause now) old node packets (failed_by source cause s)
failing_stands first now old node packets source None s h = h
failing_stands first now old node packets source (Some cause) s h = tells_more first now old node packets (sides.ManageFailed source cause) s tt h

-- ---- a step that fails leaves no operation, and asks for nothing

abbrev pub FailsClean : ManagerStep × (management.Machine × Table) → Type 0
FailsClean r = is_some r.0.failed ≡ true → (r.1.0.operation ≡ None) × (r.0.ask ≡ ask.Nothing)

module _ (m : management.Machine) (own : Operation) (table : Table) (keys : List (List ℕ)) where
  fails_not : (r : ManagerStep × (management.Machine × Table)) → r.0.failed ≡ None → FailsClean r
  fails_not r e f = absurd (let no : false ≡ true = sym (ap (λ (x : Option FailCause). is_some x) e) ∙ f in cc)

  clean_if : (b : Bool) (x y : ManagerStep × (management.Machine × Table)) → FailsClean x → FailsClean y → FailsClean (cond b x y)
  clean_if true x y p q = p
  clean_if false x y p q = q

  responds_by : (b : Bool) (x y : ManagerStep × management.Machine) → x.0.failed ≡ None → y.0.failed ≡ None → (cond b x y).0.failed ≡ None
  responds_by true x y p q = p
  responds_by false x y p q = q

  as_never : (r : Outcome × Table) (orb : ManagementOrb) → (management.decided_as r m own orb).0.failed ≡ None
  as_never (outcome, left) orb =
      let n = record m { outgoing = management.cut_response orb outcome left } in
      responds_by (length n.outgoing == 0) (management.status_step n own orb.fifo outcome.status) (management.quiet (ask.Write orb.second (length n.outgoing)), management.in_phase n own (phases.Response orb.fifo)) refl refl

  decides_never : (orb : ManagementOrb) (eui : ℕ) → (management.decide_step m own orb eui table keys).0.failed ≡ None
  unfolding management.decide_step
  decides_never orb eui = as_never (decide orb own.source eui table keys) orb

  orb_clean : (bytes : Result (List ℕ) FailCause) → FailsClean (management.orb_got bytes m own table keys)
  orb_clean (Err cause) = λ f. (refl, refl)
  orb_clean (Ok bytes) =
      let orb = management_orb bytes in
      let x = management.beside table (management.eui_step m own (phases.HighEui orb) management.high_eui_at) in
      let y = management.decide_step m own orb 0 table keys in
      clean_if (reads_eui orb) x y (fails_not x refl) (fails_not y (decides_never orb 0))

  high_clean : (bytes : Result (List ℕ) FailCause) (orb : ManagementOrb) → FailsClean (management.beside table (management.high_got bytes m own orb))
  high_clean (Err cause) orb = λ f. (refl, refl)
  high_clean (Ok bytes) orb = fails_not (management.beside table (management.high_got (Ok bytes) m own orb)) refl

  low_clean : (bytes : Result (List ℕ) FailCause) (orb : ManagementOrb) (high : ℕ) → FailsClean (management.low_got bytes m own orb high table keys)
  low_clean (Err cause) orb high = λ f. (refl, refl)
  low_clean (Ok bytes) orb high = fails_not (management.low_got (Ok bytes) m own orb high table keys) (decides_never orb _)

  response_clean : (failure : Option FailCause) (fifo : ℕ) → FailsClean (management.beside table (management.response_written failure m own fifo))
  response_clean None fifo = fails_not (management.beside table (management.response_written None m own fifo)) refl
  response_clean (Some cause) fifo = λ f. (refl, refl)

  status_clean : (failure : Option FailCause) → FailsClean (management.beside table (management.status_written failure m))
  status_clean None = fails_not (management.beside table (management.status_written None m)) refl
  status_clean (Some cause) = λ f. (refl, refl)

  phase_clean : (phase : Phase) (answer : Answer) → FailsClean (management.reply_in phase m own table keys answer)
  phase_clean phases.Orb answer = orb_clean (payload_of answer 32)
  phase_clean (phases.HighEui orb) answer = high_clean (payload_of answer 4) orb
  phase_clean (phases.LowEui orb high) answer = low_clean (payload_of answer 4) orb high
  phase_clean (phases.Response fifo) answer = response_clean (write_failure answer) fifo
  phase_clean phases.Status answer = status_clean (write_failure answer)

operation_clean : (operation : Option Operation) (m : management.Machine) (table : Table) (keys : List (List ℕ)) (answer : Answer) → FailsClean (management.reply_to operation m table keys answer)
operation_clean None m table keys answer = λ f. absurd (let no : false ≡ true = f in cc)
operation_clean (Some own) m table keys answer = phase_clean m own table keys own.phase answer

pub fails_clean : (m : management.Machine) (table : Table) (keys : List (List ℕ)) (answer : Answer) → FailsClean (management.reply_step m table keys answer)
unfolding management.reply_step
fails_clean m table keys answer = operation_clean m.operation m table keys answer
