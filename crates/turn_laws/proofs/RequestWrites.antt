-- What the requests behind a step of an agent write: a write that finds a label is one write of its bytes, what finds none and what reads is none; and where a read finds no label, no write does.
use Rattle.std.proofs.Common.{◌≡◌, ◌∙◌, refl, sym, ap, subst, ℕ, zero, suc, ◌+◌, ◌≤◌, ◌&&◌, ◌||◌, not, nat_le, nat_lt, is_some, Bool, true, false, cond, List, [], ◌∷◌, ◌++◌, length, Option, Some, None, arith}
use Rattle.std.proofs.lemmas.Grind.{common_steps}
use Rattle.async_packet.specs.Fields.{largest}
use Rattle.bus_transactions.specs.Fitting.{FitsRequest}
use Rattle.command_agent.specs.Machine.{Machine}
use Rattle.command_agent.specs.Steps.{block_of, end_step, lost_step, main_lost, status_phase}
use Rattle.command_agent.specs.declared.phase.Phase.{Phase}
use Rattle.command_agent.specs.declared.phase.Phase.TheVariants as phases
use Rattle.label_table.specs.declared.judgement.Asked.{Asked}
use Rattle.label_table.specs.Bodies.{Body, block_read, block_write}
use Rattle.label_table.specs.Layer.{Layer, asking_step, free_labels}
use Rattle.label_table.specs.Requests.{is_last, is_write, with_label}
use Rattle.login_table.specs.declared.login.Login.{Login}
use Rattle.orb_layout.specs.declared.ask.Ask.{Ask}
use Rattle.orb_layout.specs.declared.ask.Ask.TheVariants.{Nothing, Read, Write}
use Rattle.orb_layout.specs.declared.ask.FailCause.{FailCause}
use Rattle.orb_layout.specs.declared.ask.FailCause.TheVariants as causes
use Rattle.orb_layout.specs.declared.status.StatusBlock.{StatusBlock}
use Rattle.orb_layout.specs.declared.status.StatusKind.{StatusKind}
use Rattle.orb_layout.specs.declared.status.StatusKind.TheVariants as kinds
use Rattle.orb_layout.specs.StatusBlocks.{status_bytes}
use Rattle.sbp_journal.specs.declared.outbox.Outgoing.{Outgoing}
use Rattle.sbp_journal.specs.Wire.{Terms}
use Rattle.sbp_laws.specs.Packets.{access_in_bytes, finds_label, id_for, id_of, is_free, label_for, lowest_from, request_bytes, serves, to_peer}
use Rattle.sbp_laws.specs.SentWrites.{NodeWrite, node_write}
use Rattle.sbp_target.specs.declared.purpose.Purpose.{Purpose}
use Rattle.sbp_target.specs.declared.purpose.Purpose.TheVariants as purposes
use Rattle.sbp_target.specs.Agents.{agent_body}
use Rattle.sbp_world.proofs.Common.{and_first, none_is, some_none, untrue}
use Rattle.sbp_world.proofs.Hosts.Labels.{found_by}
use Rattle.sbp_world.proofs.Lists.StatusPackets.{AllRead}
use Rattle.sbp_world.proofs.Lists.StatusReads.{IsOfBody, IsRead, asked_body, body_reads, reads_body}
use Rattle.turn_laws.proofs.EndFound.{fits}
use Rattle.turn_laws.proofs.EndTries.{fails_in}
use Rattle.turn_laws.proofs.FollowEnds.{no_label}
use Rattle.turn_laws.proofs.FollowSends.{packet_of, requested, requested_ahead}
use Rattle.turn_laws.proofs.FoundLabels.{Spells}
use Rattle.sbp_world.proofs.Agents.FreeLabels.{read_plain}
use Rattle.turn_laws.proofs.RequestLabels.{access_in_body, body_access}
use Rattle.turn_laws.proofs.StepLabels.{finds_in}
use Rattle.turn_laws.proofs.TurnWrites.{all_writes}

-- ---- one request
pub written_by : (node peer offset : ℕ) (payload : List ℕ) (r : Option Asked) → ((asked : Asked) → r ≡ Some asked → access_in_bytes asked.bytes ≡ body_access (block_write offset payload))
    → all_writes node (packet_of peer r) ≡ cond (is_some r) (record { to = node; offset = offset; payload = payload } ∷ []) []
written_by node peer offset payload None f = refl
written_by node peer offset payload (Some asked) f = ap (λ access. node_write node access ++ []) (f asked refl)

-- a read writes nothing
pub read_by : (layer : Layer Purpose) (peer : ℕ) (body : Body) → reads_body body ≡ true → (r : Option Asked) → IsOfBody layer peer body r → AllRead (packet_of peer r)
read_by layer peer body e None h = tt
read_by layer peer body e (Some asked) h = (subst IsRead (sym h) (body_reads asked.label.number layer.node peer body e), tt)

module _ (node q : ℕ) (layer : Layer Purpose) (login : Login) (spells : Spells q layer login) (offset : ℕ) (payload : List ℕ) where
  abbrev body : Body
  body = block_write offset payload

  abbrev write : NodeWrite
  write = record { to = node; offset = offset; payload = payload }

  pub write_sent : FitsRequest body → all_writes node (requested q login layer (Some body)) ≡ cond (finds_in q layer login body) (write ∷ []) []
  write_sent fit = written_by node login.node offset payload (asking_step layer login.node body (purposes.Agent q)).0 (λ asked e. access_in_body body asked.bytes (spells body fit asked e))

-- what finds none is not sent
module _ (q : ℕ) (layer : Layer Purpose) (login : Login) where
  unsent_by : (r : Option Asked) → is_some r ≡ false → packet_of login.node r ≡ []
  unsent_by None e = refl
  unsent_by (Some asked) e = untrue (sym e)

  pub unsent : (body : Body) → finds_in q layer login body ≡ false → requested q login layer (Some body) ≡ []
  unsent body e = unsent_by (asking_step layer login.node body (purposes.Agent q)).0 e

  -- a read writes nothing
  if_reads : (b : Bool) (packets : List Outgoing) → AllRead packets → AllRead (cond b [] packets)
  if_reads true packets h = tt
  if_reads false packets h = h

  pub ahead_reads : (ask : Ask) → ((offset size : ℕ) → ask ≡ Write offset size → ⊥) → (outgoing : List ℕ) → AllRead (requested_ahead q login layer (agent_body ask false login.fifo outgoing))
  ahead_reads Nothing f outgoing = tt
  ahead_reads (Write offset size) f outgoing = absurd (f offset size refl)
  ahead_reads (Read offset len) f outgoing = by (nat_le len largest)
    where
      by : (b : Bool) → AllRead (requested_ahead q login layer (cond b (Some (block_read offset len)) None))
      by true = if_reads (nat_lt (free_labels layer login.node) 16) _ (read_by layer login.node (block_read offset len) refl (asking_step layer login.node (block_read offset len) (purposes.Agent q)).0 (asked_body layer login.node (block_read offset len) (purposes.Agent q)))
      by false = tt

-- ---- where a read finds no label
none_lower : (tries label : ℕ) (test other : ℕ → Bool) → ((m : ℕ) → other m ≡ true → test m ≡ true) → lowest_from tries test label ≡ None → lowest_from tries other label ≡ None
unfolding lowest_from
none_lower zero label test other h e = refl
none_lower (suc tries) label test other h e = by (none_lower tries (label + 1) test other h) (other label) refl (test label) refl e
  where
    by : (lowest_from tries test (label + 1) ≡ None → lowest_from tries other (label + 1) ≡ None) → (b : Bool) → other label ≡ b → (c : Bool) → test label ≡ c
        → cond c (Some label) (lowest_from tries test (label + 1)) ≡ None → cond b (Some label) (lowest_from tries other (label + 1)) ≡ None
    by more b f true g k = some_none label k
    by more true f false g k = untrue (sym g ∙ h label f)
    by more false f false g k = more k

pub no_some : (o : Option ℕ) → is_some o ≡ false → o ≡ None
no_some None e = refl
no_some (Some x) e = untrue (sym e)

module _ (t : Terms) (node peer offset len at : ℕ) (payload : List ℕ) where
  abbrev reading : Body
  reading = block_read offset len

  abbrev writing : Body
  writing = block_write at payload

  -- a label that serves the write is free
  serves_read : (m : ℕ) → serves t node peer (request_bytes t node peer writing) m ≡ true → serves t node peer (request_bytes t node peer reading) m ≡ true
  serves_read m e =
      let u = to_peer t node peer m in
      let bytes = request_bytes t node peer reading in
      let free = and_first (is_free (t.held u)) (not (is_write (request_bytes t node peer writing)) || not (is_last (t.last u) (with_label m (request_bytes t node peer writing)))) e in
      ap (λ b. is_free (t.held u) && (not b || not (is_last (t.last u) (with_label m bytes)))) (read_plain (id_of t node) (id_for t node peer) offset len) ∙ ap (λ b. b && true) free

  none_for : label_for t node peer (request_bytes t node peer reading) ≡ None → label_for t node peer (request_bytes t node peer writing) ≡ None
  unfolding label_for
  none_for e = none_lower 64 0 _ _ serves_read e

  pub none_found : finds_label t node peer reading ≡ false → finds_label t node peer writing ≡ false
  none_found e =
      let read = label_for t node peer (request_bytes t node peer reading) in
      found_by t node peer writing None (none_for (no_some read (sym (found_by t node peer reading read refl) ∙ e)))

-- ---- the loss of the main transaction for want of a label
small_failed : (block : StatusBlock) → length (status_bytes (record block { kind = kinds.Failed })) ≤ 2048
small_failed block = grind (arith, common_steps)

failed_body : (m : Machine) (fifo : ℕ) (kind : StatusKind) → Some kinds.Failed ≡ Some kind
    → (let l = end_step m kinds.Failed (Some causes.Label) in agent_body l.0.ask (is_some l.0.ended) fifo l.1.outgoing) ≡ Some (block_write fifo (status_bytes (block_of m kind)))
failed_body m fifo kind e =
    let same : kinds.Failed ≡ kind = cc in
    let bytes = status_bytes (block_of m kinds.Failed) in
    ap (λ b. cond b (Some (block_write fifo bytes)) None) (fits (length bytes) (small_failed (block_of m kinds.Failed))) ∙ ap (λ k. Some (block_write fifo (status_bytes (block_of m k)))) same

lost_by : (phase : Phase) (m : Machine) (fifo : ℕ) (kind : StatusKind) → fails_in phase ≡ Some kind
    → (let l = main_lost phase m causes.Label in agent_body l.0.ask (is_some l.0.ended) fifo l.1.outgoing) ≡ Some (block_write fifo (status_bytes (block_of m kind)))
lost_by phases.Fetching m fifo kind e = failed_body m fifo kind e
lost_by phases.ReadingTable m fifo kind e = failed_body m fifo kind e
lost_by (phases.ReadingData wanted) m fifo kind e = failed_body m fifo kind e
lost_by phases.Answering m fifo kind e = failed_body m fifo kind e
lost_by phases.WritingStatus m fifo kind e = none_is kind e
lost_by phases.ReadingNext m fifo kind e = none_is kind e
lost_by phases.Reset m fifo kind e = none_is kind e
lost_by phases.WritingLastStatus m fifo kind e = none_is kind e
lost_by phases.Suspended m fifo kind e = none_is kind e
lost_by phases.Dead m fifo kind e = none_is kind e

-- it has the status write of the ORB that it ends
pub lost_body : (m : Machine) (fifo : ℕ) (kind : StatusKind) → fails_in m.phase ≡ Some kind
    → (let l = no_label m in agent_body l.0.ask (is_some l.0.ended) fifo l.1.outgoing) ≡ Some (block_write fifo (status_bytes (block_of m kind)))
unfolding lost_step
lost_body m fifo kind e = lost_by m.phase m fifo kind e

-- or none, where the status write of the ORB is lost
status_quiet : (dead : Option FailCause) (m : Machine) → (main_lost (status_phase dead) m causes.Label).0.ask ≡ Nothing
status_quiet None m = refl
status_quiet (Some cause) m = refl

pub status_lost : (m : Machine) (dead : Option FailCause) → m.phase ≡ status_phase dead → (no_label m).0.ask ≡ Nothing
unfolding lost_step
status_lost m dead e = ap (λ p. (main_lost p m causes.Label).0.ask) e ∙ status_quiet dead m
