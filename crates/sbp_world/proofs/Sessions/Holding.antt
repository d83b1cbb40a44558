-- In every run the login of an initiator's host is the response that its session carries, and its response buffers are those in its memory.
use Rattle.sbp_world.proofs.Words.Std.{◌≡◌, ◌∙◌, refl, sym, ap, subst, ℕ, ◌==◌, Bool, false, List, Option, Some, None, Result, Ok, Err}
use Rattle.sbp_world.proofs.Words.Wire.{LabelParts, PacketFault, Packet, lock, lock_response, read_block, read_block_response, read_quadlet, read_quadlet_response, write_block, write_quadlet, write_response, reading, Row, by_again, by_generation, by_grammar, by_label, by_request, by_response, row_of, Finding, Layer, facts_of, judged_by, judging_step, of_again, of_generation, of_grammar, of_label, of_request, of_response, access_of, empty_outbox, Moment}
use Rattle.sbp_world.proofs.Words.Initiator.{IsWhole, slot_calls_after, LoginResponse, Purpose, Running, InitiatorState, Turn, own_rom, carried}
use Rattle.sbp_world.proofs.Words.Laws.{host_at, access_in, spelled_by}
use Rattle.sbp_world.proofs.Words.World.{behind, AreBuffers}
use Rattle.sbp_world.proofs.Hosts.Hosted.{Cored}
use Rattle.sbp_initiator.proofs.Histories.Slotted.{slot_law}
use Rattle.orb_list.proofs.Steps.{held_law}
use Rattle.sbp_journal.specs.declared.operation.Operation.TheVariants as operations
use Rattle.sbp_world.proofs.Sessions.Buffers.{buffers_stand}
use Rattle.sbp_world.proofs.Sessions.Gears.{Gear, gear_at}
use Rattle.sbp_world.proofs.Sessions.Mild.{Mild}

pub none_is : {A : Type 0} (response : LoginResponse) → None ≡ Some response → A
none_is response e = absurd (let no : None ≡ Some response = e in cc)

-- ---- what an initiator holds

pub record Own (past : List Moment) (i : ℕ) (s : InitiatorState) : Type 0 where
  pub login : (response : LoginResponse) → carried s.seat ≡ Some response → (host_at past i).login ≡ response
  pub responses : AreBuffers (host_at past i).responses s.lists.memory
  -- a session that logs in carries none yet
  pub none : (running : Running) → s.operation ≡ Some running → running.operation ≡ operations.Login → carried s.seat ≡ None

-- behind notes that change nothing of it
pub own_gear : (past now : List Moment) (i : ℕ) (s : InitiatorState) → gear_at now i ≡ gear_at past i → Own past i s → Own now i s
own_gear past now i s e h = record {
  login = λ response f. ap (λ (g : Gear). g.login) e ∙ h.login response f;
  responses = subst (λ x. AreBuffers x s.lists.memory) (sym (ap (λ (g : Gear). g.responses) e)) h.responses;
  none = h.none;
}

-- and behind a call that brings no login
pub own_mild : (past : List Moment) (i : ℕ) (s : InitiatorState) (t : Turn) → Mild s t → Own past i s → Own (behind t.0.sides past) i t.1
own_mild past i s t m h = record {
  login = λ response f. ap (λ (g : Gear). g.login) (m.gear past i) ∙ h.login response (m.seat response f);
  responses = subst (λ x. AreBuffers x t.1.lists.memory) (sym (ap (λ (g : Gear). g.responses) (m.gear past i))) (buffers_stand (host_at past i).responses s.lists.memory t.1.lists.memory m.places h.responses);
  none = λ running e f. fades (carried t.1.seat) refl (h.none running (m.operation running e) f);
}
  where
    fades : (now : Option LoginResponse) → carried t.1.seat ≡ now → carried s.seat ≡ None → carried t.1.seat ≡ None
    fades None e n = e
    fades (Some response) e n = none_is response (sym n ∙ m.seat response e)

-- what a call leaves of its initiator, where something is the case, and of all others
pub record Leaves (Case : Type 0) (past : List Moment) (i : ℕ) (t : Turn) : Type 0 where
  pub own : Case → Own (behind t.0.sides past) i t.1
  pub others : (j : ℕ) → (j == i) ≡ false → gear_at (behind t.0.sides past) j ≡ gear_at past j

pub leaves_mild : (Case : Type 0) (past : List Moment) (i : ℕ) (s : InitiatorState) (t : Turn) → Mild s t → (Case → Own past i s) → Leaves Case past i t
leaves_mild Case past i s t m h = record { own = λ x. own_mild past i s t m (h x); others = λ j e. m.gear past j }

pub mild_self : (s : InitiatorState) → Mild s (empty_outbox, s)
mild_self s = record { gear = λ ms j. refl; seat = λ response e. e; places = refl; number = refl; operation = λ running e. e }

-- ---- the memory is whole

pub whole_of : (ready : Bool) (past : List Moment) (i : ℕ) (s : InitiatorState) → Cored ready past i s → IsWhole s.lists.memory
whole_of ready past i s c =
    let k = c.own.called in
    let calls_of = slot_calls_after i ready k.calls in
    subst (λ (x : InitiatorState). IsWhole x.lists.memory) k.is
    (let a = slot_law i ready k.calls k.fit in subst IsWhole a.memory (held_law.run_held calls_of (own_rom i) a.proper).whole)

-- ---- a response is no access

module _ (layer : Layer Purpose) (bytes : List ℕ) (p : Packet) (label : LabelParts) (purpose : Option Purpose) where
  abbrev Responds : Row → Result Packet PacketFault → Type 0
  Responds row read = (judged_by row layer bytes read).0 ≡ of_response p label purpose

  no_label : ◌≡◌ {A = Finding Purpose} of_label (of_response p label purpose) → ⊥
  no_label e = cc

  no_generation : ◌≡◌ {A = Finding Purpose} of_generation (of_response p label purpose) → ⊥
  no_generation e = cc

  no_grammar : ◌≡◌ {A = Finding Purpose} of_grammar (of_response p label purpose) → ⊥
  no_grammar e = cc

  no_request : (q : Packet) → ◌≡◌ {A = Finding Purpose} (of_request q) (of_response p label purpose) → ⊥
  no_request q e = cc

  no_again : (q : Packet) (rcode : ℕ) → ◌≡◌ {A = Finding Purpose} (of_again q rcode) (of_response p label purpose) → ⊥
  no_again q rcode e = cc

  response_none : (q : Packet) → Responds by_response (Ok q) → access_of q ≡ None
  response_none (write_quadlet header offset value) e = absurd (no_label e)
  response_none (write_block header offset payload) e = absurd (no_label e)
  response_none (read_quadlet header offset) e = absurd (no_label e)
  response_none (read_block header offset count) e = absurd (no_label e)
  response_none (lock header offset extended payload) e = absurd (no_label e)
  response_none (write_response header rcode) e = refl
  response_none (read_quadlet_response header rcode value) e = refl
  response_none (read_block_response header rcode payload) e = refl
  response_none (lock_response header rcode extended payload) e = refl

  row_none : (row : Row) (read : Result Packet PacketFault) → Responds row read → access_in (spelled_by read) ≡ None
  row_none by_generation read e = absurd (no_generation e)
  row_none by_grammar read e = absurd (no_grammar e)
  row_none by_label read e = absurd (no_label e)
  row_none by_response (Ok q) e = response_none q e
  row_none by_response (Err fault) e = absurd (no_grammar e)
  row_none by_again (Ok q) e = absurd (no_again q _ e)
  row_none by_again (Err fault) e = absurd (no_grammar e)
  row_none by_request (Ok q) e = absurd (no_request q e)
  row_none by_request (Err fault) e = absurd (no_grammar e)

  pub response_access : (generation : ℕ) → (judging_step layer generation bytes).0 ≡ of_response p label purpose → access_in (spelled_by (reading bytes)) ≡ None
  unfolding judging_step
  response_access generation e = row_none (row_of (facts_of layer generation bytes)) (reading bytes) e
