-- What a call leaves of its initiator does not depend on what the outbox has.
use Rattle.sbp_world.proofs.Words.Std.{◌≡◌, refl, ◌∙◌, ap, ℕ, ◌==◌, Bool, true, false, cond, List, [], length, replicate, Option, Some, None, Result, Ok, Err, big_bytes}
use Rattle.sbp_world.proofs.Words.Wire.{LabelParts, Packet, header_in, lock, lock_response, read_block, read_block_response, read_quadlet, read_quadlet_response, write_block, write_quadlet, write_response, Asked, Stale, Finding, Layer, answering_step, asking_step, expiring_step, judging_step, of_again, of_generation, of_grammar, of_label, of_request, of_response, seeing_step, OutboxState, Judged, Action, Cmd, OpWord}
use Rattle.sbp_world.proofs.Words.Target.{RomFault, SbpUnit, Tree, reading, sbp_unit_of, is_block}
use Rattle.sbp_world.proofs.Words.Initiator.{read_step, OrbFault, StatusBlock, StatusKind, PresentList, ListState, drop_lists, free_lists, high_lists, low_lists, take_lists, write_lists, find_in, TicketParts, Fifo, Demand, Ending, Purpose, Running, InitiatorState, act_step, append_step, counted, asked_as, asked_for, demand_of, demanded_as, done_step, dummy_for, facts_with, judged_as, link_as, link_step, login_id, low_as, low_step, put_as, put_step, ring_for, ring_step, put_lists, Turn, asked_quad, conflict_for, drop_list_step, drop_where, dropped_as, end_own_for, end_own_step, ended_for, ended_step, fail_step, good_end, is_address, is_conflict, known_step, known_where, managed_step, next_quad, quad_got, state_told, stick_step, then_step, told, with_rom, with_unit, addressed, block_at, block_by, block_step, called, expire_step, expired_as, fifo_of, is_foreign, managed_for, present_for, quadlet_at, read_as, receive_step, received, responded_as, respond_step, serve_step, status_step, taken_as, taken_by, type_error, written_as, ends_list, refusal, interrupted, resets_told, see_step, seen_as, counts_for, ending_of, no_marks, status_in, with_quad, Call, acts, done, lets_expire, receives, sees}
use Rattle.orb_layout.specs.declared.status.StatusKind.TheVariants as kinds
use Rattle.sbp_journal.specs.declared.event.Action.TheVariants as actions
use Rattle.sbp_journal.specs.declared.note.Note.TheVariants as notes
use Rattle.sbp_journal.specs.declared.operation.OpWord.TheVariants as words
use Rattle.initiator_base.specs.declared.fifos.Fifo.TheVariants as fifos
use Rattle.sbp_initiator.specs.declared.purpose.Ending.TheVariants as endings
use Rattle.sbp_initiator.specs.declared.purpose.Purpose.TheVariants as purposes

module _ (o p : OutboxState) where
  pick_same : (b : Bool) (w x y z : Turn) → w.1 ≡ x.1 → y.1 ≡ z.1 → (cond b w y).1 ≡ (cond b x z).1
  pick_same true w x y z e f = e
  pick_same false w x y z e f = f

  drop_same : (r : Option ℕ × ListState) (s : InitiatorState) → (dropped_as r o s).1 ≡ (dropped_as r p s).1
  drop_same (None, lists) s = refl
  drop_same (Some n, lists) s = refl

  own_same : (running : Option Running) (act : ℕ) (word : OpWord) (s : InitiatorState) → (end_own_for running act word o s).1 ≡ (end_own_for running act word p s).1
  own_same None act word s = refl
  own_same (Some running) act word s = pick_same (running.act == act) _ _ _ _ refl refl

-- one step and then another
then_same : (f : OutboxState → InitiatorState → Turn) → ((o p : OutboxState) (s : InitiatorState) → (f o s).1 ≡ (f p s).1) → (x y : Turn) → x.1 ≡ y.1 → (then_step f x).1 ≡ (then_step f y).1
then_same f same x y e = same x.0 y.0 x.1 ∙ ap (λ (s : InitiatorState). (f y.0 s).1) e

fail_same : (act : ℕ) (o p : OutboxState) (s : InitiatorState) → (fail_step act o s).1 ≡ (fail_step act p s).1
fail_same act o p s = then_same stick_step (λ o p s. refl) (end_own_step act words.Error o s) (end_own_step act words.Error p s) (own_same o p s.operation act words.Error s)

conflict_same : (running : Option Running) (act : ℕ) (o p : OutboxState) (s : InitiatorState) → (conflict_for running act o s).1 ≡ (conflict_for running act p s).1
conflict_same None act o p s = refl
conflict_same (Some running) act o p s = pick_same o p (running.act == act) _ _ _ _ refl refl

where_same : (b : Bool) (o p : OutboxState) (s : InitiatorState) → (drop_where b o s).1 ≡ (drop_where b p s).1
where_same true o p s = drop_same o p (drop_lists s.lists) s
where_same false o p s = refl

managed_same : (running : Running) (status : ℕ) (o p : OutboxState) (s : InitiatorState) → (managed_step running status o s).1 ≡ (managed_step running status p s).1
managed_same running status o p s =
    pick_same o p (status == 0) _ _ _ _ (then_same (good_end running) (λ o p s. refl) (drop_where (ends_list (Some running.operation)) o s) (drop_where (ends_list (Some running.operation)) p s) (where_same (ends_list (Some running.operation)) o p s)) refl

-- ---- the target's ROM

unit_same : (unit : Option SbpUnit) (act : ℕ) (o p : OutboxState) (s : InitiatorState) → (with_unit unit act o s).1 ≡ (with_unit unit act p s).1
unit_same None act o p s = own_same o p s.operation act words.NoUnit s
unit_same (Some unit) act o p s = own_same o p s.operation act words.Done _

rom_same : (r : Result Tree RomFault) (act : ℕ) (o p : OutboxState) (s : InitiatorState) → (with_rom r act o s).1 ≡ (with_rom r act p s).1
rom_same (Ok tree) act o p s = unit_same (sbp_unit_of tree.blocks tree.entries) act o p s
rom_same (Err fault) act o p s = own_same o p s.operation act _ s

quad_same : (r : Option Asked × Layer Purpose) (act : ℕ) (o p : OutboxState) (s : InitiatorState) → (asked_quad r act o s).1 ≡ (asked_quad r act p s).1
quad_same (Some asked, layer) act o p s = refl
quad_same (None, layer) act o p s = own_same o p s.operation act words.Error (record s { layer = layer })

got_same : (act : ℕ) (o p : OutboxState) (s : InitiatorState) → (quad_got act o s).1 ≡ (quad_got act p s).1
got_same act o p s =
    pick_same o p (length s.quads == 256) _ _ _ _ (rom_same (reading s.quads) act o p s) (quad_same (asking_step s.layer s.target (next_quad s.quads) (purposes.Rom act)) act o p s)

-- ---- by what a transaction was for

known_same : (value : ℕ) (o p : OutboxState) (s : InitiatorState) → (known_step value o s).1 ≡ (known_step value p s).1
known_same value o p s = pick_same o p (value == 0) _ _ _ _ (drop_same o p (drop_lists s.lists) s) refl

known_where_same : (b : Bool) (value : ℕ) (o p : OutboxState) (s : InitiatorState) → (known_where b value o s).1 ≡ (known_where b value p s).1
known_where_same true value o p s = known_same value o p s
known_where_same false value o p s = refl

pub ended_same : (purpose : Purpose) (ending : Ending) (o p : OutboxState) (s : InitiatorState) → (ended_step purpose ending o s).1 ≡ (ended_step purpose ending p s).1
unfolding ended_step
ended_same (purposes.Pointer list) (endings.Complete value) o p s = refl
ended_same (purposes.Pointer list) (endings.Refused rcode) o p s = refl
ended_same (purposes.Pointer list) endings.Expired o p s = refl
ended_same purposes.Doorbell (endings.Complete value) o p s = refl
ended_same purposes.Doorbell (endings.Refused rcode) o p s = refl
ended_same purposes.Doorbell endings.Expired o p s = refl
ended_same (purposes.AgentReset act) (endings.Complete value) o p s =
    then_same (end_own_step act words.Done) (λ o p s. own_same o p s.operation act words.Done s) (drop_list_step o s) (drop_list_step p s) (drop_same o p (drop_lists s.lists) s)
ended_same (purposes.AgentReset act) (endings.Refused rcode) o p s = fail_same act o p s
ended_same (purposes.AgentReset act) endings.Expired o p s = fail_same act o p s
ended_same (purposes.Enable act) (endings.Complete value) o p s = own_same o p s.operation act words.Done s
ended_same (purposes.Enable act) (endings.Refused rcode) o p s = fail_same act o p s
ended_same (purposes.Enable act) endings.Expired o p s = fail_same act o p s
ended_same (purposes.Management act) (endings.Complete value) o p s = refl
ended_same (purposes.Management act) (endings.Refused rcode) o p s =
    pick_same o p (is_conflict rcode) _ _ _ _ (conflict_same s.operation act o p s) (fail_same act o p s)
ended_same (purposes.Management act) endings.Expired o p s = fail_same act o p s
ended_same (purposes.Rom act) (endings.Complete value) o p s = got_same act o p (record s { quads = with_quad s.quads value })
ended_same (purposes.Rom act) (endings.Refused rcode) o p s =
    pick_same o p (is_address rcode) _ _ _ _ (rom_same (reading s.quads) act o p s) (own_same o p s.operation act words.Error s)
ended_same (purposes.Rom act) endings.Expired o p s = own_same o p s.operation act words.Error s
ended_same (purposes.State act list) (endings.Complete value) o p s =
    then_same (state_told act (words.State value)) (λ o p s. refl) (known_where (counts_for s.lists.slots.present list) value o s) (known_where (counts_for s.lists.slots.present list) value p s) (known_where_same (counts_for s.lists.slots.present list) value o p s)
ended_same (purposes.State act list) (endings.Refused rcode) o p s = refl
ended_same (purposes.State act list) endings.Expired o p s = refl

for_same : (purpose : Option Purpose) (ending : Ending) (o p : OutboxState) (s : InitiatorState) → (ended_for purpose ending o s).1 ≡ (ended_for purpose ending p s).1
for_same None ending o p s = refl
for_same (Some purpose) ending o p s = ended_same purpose ending o p s

-- ---- a delivery

responded_same : (r : List ℕ × Layer Purpose) (source : ℕ) (o p : OutboxState) (s : InitiatorState) → (responded_as r source o s).1 ≡ (responded_as r source p s).1
responded_same (response, layer) source o p s = refl

respond_same : (q : Packet) (bytes : List ℕ) (rcode : ℕ) (given : List ℕ) (x y : Turn) → x.1 ≡ y.1 → (respond_step q bytes rcode given x).1 ≡ (respond_step q bytes rcode given y).1
respond_same q bytes rcode given x y e =
    responded_same (answering_step x.1.layer q bytes rcode given) (header_in q).source x.0 y.0 x.1 ∙ ap (λ (s : InitiatorState). (respond_step q bytes rcode given (y.0, s)).1) e

-- what two judgements leave
abbrev SameLeft : Judged × Turn → Judged × Turn → Type 0
SameLeft x y = x.1.1 ≡ y.1.1

pick_left : (b : Bool) (w x y z : Judged × Turn) → SameLeft w x → SameLeft y z → SameLeft (cond b w y) (cond b x z)
pick_left true w x y z e f = e
pick_left false w x y z e f = f

module _ (bytes : List ℕ) (o p : OutboxState) where
  taken_same : (r : Option TicketParts × ListState) (kind : StatusKind) (q : Packet) (s : InitiatorState) → SameLeft (taken_as r kind q bytes o s) (taken_as r kind q bytes p s)
  taken_same (None, lists) kind q s = respond_same q bytes 0 [] (o, record s { lists = lists }) (p, record s { lists = lists }) refl
  taken_same (Some t, lists) kind q s = respond_same q bytes 0 [] (taken_by t lists kind o (called s)) (taken_by t lists kind p (called s)) refl

  managed_for_same : (running : Option Running) (status : ℕ) (q : Packet) (s : InitiatorState) → SameLeft (managed_for running status q bytes o s) (managed_for running status q bytes p s)
  managed_for_same None status q s = respond_same q bytes 0 [] (o, s) (p, s) refl
  managed_for_same (Some running) status q s = respond_same q bytes 0 [] (managed_step running status o (called s)) (managed_step running status p (called s)) (managed_same running status o p (called s))

  block_same : (kind : StatusKind) (block : StatusBlock) (q : Packet) (s : InitiatorState) → SameLeft (block_by kind block q bytes o s) (block_by kind block q bytes p s)
  block_same (kinds.Management status) block q s = managed_for_same (present_for block.orb s.operation) status q s
  block_same kinds.Good block q s = taken_same (take_lists s.lists block) kinds.Good q s
  block_same (kinds.Check sense) block q s = taken_same (take_lists s.lists block) (kinds.Check sense) q s
  block_same kinds.Dummy block q s = taken_same (take_lists s.lists block) kinds.Dummy q s
  block_same kinds.Aborted block q s = taken_same (take_lists s.lists block) kinds.Aborted q s
  block_same (kinds.Illegal meaning) block q s = taken_same (take_lists s.lists block) (kinds.Illegal meaning) q s
  block_same kinds.Failed block q s = taken_same (take_lists s.lists block) kinds.Failed q s

  read_same : (r : Result StatusBlock OrbFault) (q : Packet) (s : InitiatorState) → SameLeft (block_step r q bytes o s) (block_step r q bytes p s)
  read_same (Err fault) q s = respond_same q bytes 5 [] (o, s) (p, s) refl
  read_same (Ok block) q s = block_same block.kind block q s

  status_same : (is_login : Bool) (payload : List ℕ) (q : Packet) (s : InitiatorState) → SameLeft (status_step is_login payload q bytes o s) (status_step is_login payload q bytes p s)
  status_same true payload q s = pick_left (is_block payload) _ _ _ _ (respond_same q bytes 0 [] (told o (notes.Told s.number), called s) (told p (notes.Told s.number), called s) refl) (read_same (status_in payload) q s)
  status_same false payload q s = read_same (status_in payload) q s

  read_as_same : (r : ℕ × List ℕ) (q : Packet) (s : InitiatorState) → SameLeft (read_as r q bytes o s) (read_as r q bytes p s)
  read_as_same (rcode, out) q s = respond_same q bytes rcode out (o, called s) (p, called s) refl

  written_same : (r : ℕ × ListState) (q : Packet) (s : InitiatorState) → SameLeft (written_as r q bytes o s) (written_as r q bytes p s)
  written_same (rcode, lists) q s =
      respond_same q bytes rcode [] (o, record (called s) { lists = lists }) (p, record (called s) { lists = lists }) refl

  unserved_same : (q : Packet) (s : InitiatorState) → (respond_step q bytes type_error [] (o, called s)).1 ≡ (respond_step q bytes type_error [] (p, called s)).1
  unserved_same q s = respond_same q bytes type_error [] (o, called s) (p, called s) refl

  serve_same : (q : Packet) (s : InitiatorState) → SameLeft (serve_step q bytes o s) (serve_step q bytes p s)
  serve_same (read_quadlet header offset) s = read_as_same (read_step s.lists.memory offset (replicate 4 0)) (read_quadlet header offset) s
  serve_same (read_block header offset asked) s = read_as_same (read_step s.lists.memory offset (replicate asked 0)) (read_block header offset asked) s
  serve_same (write_quadlet header offset value) s = written_same (write_lists s.lists offset (big_bytes 4 value)) (write_quadlet header offset value) s
  serve_same (write_block header offset payload) s = written_same (write_lists s.lists offset payload) (write_block header offset payload) s
  serve_same (lock header offset extended payload) s = unserved_same (lock header offset extended payload) s
  serve_same (write_response header rcode) s = unserved_same (write_response header rcode) s
  serve_same (read_quadlet_response header rcode value) s = unserved_same (read_quadlet_response header rcode value) s
  serve_same (read_block_response header rcode payload) s = unserved_same (read_block_response header rcode payload) s
  serve_same (lock_response header rcode extended payload) s = unserved_same (lock_response header rcode extended payload) s

  block_at_same : (fifo : Option Fifo) (payload : List ℕ) (q : Packet) (s : InitiatorState) → SameLeft (block_at fifo payload q bytes o s) (block_at fifo payload q bytes p s)
  block_at_same None payload q s = serve_same q s
  block_at_same (Some fifos.Closed) payload q s = respond_same q bytes 7 [] (o, s) (p, s) refl
  block_at_same (Some fifos.Login) payload q s = status_same true payload q s
  block_at_same (Some fifos.Place) payload q s = status_same false payload q s

  quadlet_at_same : (fifo : Option Fifo) (q : Packet) (s : InitiatorState) → SameLeft (quadlet_at fifo q bytes o s) (quadlet_at fifo q bytes p s)
  quadlet_at_same None q s = serve_same q s
  quadlet_at_same (Some fifos.Closed) q s = respond_same q bytes 7 [] (o, s) (p, s) refl
  quadlet_at_same (Some fifos.Login) q s = serve_same q s
  quadlet_at_same (Some fifos.Place) q s = serve_same q s

  addressed_same : (q : Packet) (s : InitiatorState) → SameLeft (addressed q bytes o s) (addressed q bytes p s)
  addressed_same (write_block header offset payload) s = block_at_same (fifo_of s offset) payload (write_block header offset payload) s
  addressed_same (write_quadlet header offset value) s = quadlet_at_same (fifo_of s offset) (write_quadlet header offset value) s
  addressed_same (read_quadlet header offset) s = serve_same (read_quadlet header offset) s
  addressed_same (read_block header offset asked) s = serve_same (read_block header offset asked) s
  addressed_same (lock header offset extended payload) s = serve_same (lock header offset extended payload) s
  addressed_same (write_response header rcode) s = serve_same (write_response header rcode) s
  addressed_same (read_quadlet_response header rcode value) s = serve_same (read_quadlet_response header rcode value) s
  addressed_same (read_block_response header rcode payload) s = serve_same (read_block_response header rcode payload) s
  addressed_same (lock_response header rcode extended payload) s = serve_same (lock_response header rcode extended payload) s

  received_same : (f : Finding Purpose) (layer : Layer Purpose) (s : InitiatorState) → SameLeft (received (f, layer) bytes o s) (received (f, layer) bytes p s)
  received_same of_generation layer s = refl
  received_same of_grammar layer s = refl
  received_same of_label layer s = refl
  received_same (of_response q label purpose) layer s = for_same purpose (ending_of q) o p (called (record s { layer = layer }))
  received_same (of_again q rcode) layer s = respond_same q bytes rcode [] (o, record s { layer = layer }) (p, record s { layer = layer }) refl
  received_same (of_request q) layer s =
      let t = record s { layer = layer } in
      pick_left (is_foreign q t) _ _ _ _ (respond_same q bytes 7 [] (o, t) (p, t) refl) (addressed_same q t)

  pub receive_same : (generation : ℕ) (s : InitiatorState) → (receive_step generation bytes o s).1.1 ≡ (receive_step generation bytes p s).1.1
  unfolding receive_step
  receive_same generation s = received_same (judging_step s.layer generation bytes).0 (judging_step s.layer generation bytes).1 s

-- ---- a time-out

expired_same : (r : Result (Option Purpose) Stale × Layer Purpose) (o p : OutboxState) (s : InitiatorState) → (expired_as r o s).1.1 ≡ (expired_as r p s).1.1
expired_same (Err stale, layer) o p s = refl
expired_same (Ok purpose, layer) o p s = for_same purpose endings.Expired o p (called (record s { layer = layer }))

pub expire_same : (label : LabelParts) (o p : OutboxState) (s : InitiatorState) → (expire_step label o s).1.1 ≡ (expire_step label p s).1.1
unfolding expire_step
expire_same label o p s = expired_same (expiring_step s.layer s.target label) o p s

-- ---- a sight

seen_same : (r : Bool × Layer Purpose) (target : ℕ) (o p : OutboxState) (s : InitiatorState) → (seen_as r target o s).1 ≡ (seen_as r target p s).1
seen_same (false, layer) target o p s = refl
seen_same (true, layer) target o p s =
    let t = interrupted (record s { layer = layer }) target in
    ap (λ (x : InitiatorState). record x { lists = free_lists x.lists; marks = no_marks }) (drop_same (resets_told s.number s.operation s.states o) (resets_told s.number s.operation s.states p) (drop_lists t.lists) t)

pub see_same : (generation id target : ℕ) (o p : OutboxState) (s : InitiatorState) → (see_step generation id target o s).1 ≡ (see_step generation id target p s).1
unfolding see_step
see_same generation id target o p s = seen_same (seeing_step s.layer generation id) target o p s

-- ---- an action

put_same : (r : Option TicketParts × ListState) (cmd : Cmd) (o p : OutboxState) (s : InitiatorState) → (put_as r cmd o s).1 ≡ (put_as r cmd p s).1
put_same (None, lists) cmd o p s = refl
put_same (Some t, lists) cmd o p s = refl

low_same : (r : Option TicketParts × ListState) (o p : OutboxState) (s : InitiatorState) → (low_as r o s).1 ≡ (low_as r p s).1
low_same (None, lists) o p s = refl
low_same (Some t, lists) o p s = refl

link_same : (r : Option TicketParts × ListState) (o p : OutboxState) (s : InitiatorState) → (link_as r o s).1 ≡ (link_as r p s).1
link_same (None, lists) o p s = refl
link_same (Some t, lists) o p s = refl

ring_same : (found : Option PresentList) (o p : OutboxState) (s : InitiatorState) → (ring_for found o s).1 ≡ (ring_for found p s).1
ring_same None o p s = refl
ring_same (Some list) o p s = refl

dummy_same : (found : Option TicketParts) (o p : OutboxState) (s : InitiatorState) → (dummy_for found o s).1 ≡ (dummy_for found p s).1
dummy_same None o p s = refl
dummy_same (Some t) o p s = refl

append_same : (cmd : Cmd) (o p : OutboxState) (s : InitiatorState) → (append_step cmd o s).1 ≡ (append_step cmd p s).1
append_same cmd o p s =
    let a = put_step cmd o s in
    let b = put_step cmd p s in
    let e = put_same (put_lists s.lists cmd s.layer.node (login_id s)) cmd o p s in
    let f = then_same low_step (λ o p s. low_same (low_lists s.lists) o p s) a b e in
    let g = then_same link_step (λ o p s. link_same (high_lists s.lists) o p s) (then_step low_step a) (then_step low_step b) f in
    then_same ring_step (λ o p s. ring_same s.lists.slots.present o p s) (then_step link_step (then_step low_step a)) (then_step link_step (then_step low_step b)) g

done_same : (action : Action) (o p : OutboxState) (s : InitiatorState) → (done_step action o s).1 ≡ (done_step action p s).1
unfolding done_step
done_same (actions.Put cmd) o p s = put_same (put_lists s.lists cmd s.layer.node (login_id s)) cmd o p s
done_same (actions.Append cmd) o p s = append_same cmd o p s
done_same actions.Low o p s = low_same (low_lists s.lists) o p s
done_same actions.Link o p s = link_same (high_lists s.lists) o p s
done_same actions.Ring o p s = ring_same s.lists.slots.present o p s
done_same (actions.Dummy orb) o p s = dummy_same (find_in s.lists.slots.slots orb) o p s
done_same actions.Rom o p s = refl
done_same actions.AgentReset o p s = refl
done_same actions.State o p s = refl
done_same actions.Enable o p s = refl
done_same (actions.Login unit reconnect exclusive password) o p s = refl
done_same (actions.Query unit) o p s = refl
done_same actions.Reconnect o p s = refl
done_same actions.Logout o p s = refl
done_same (actions.Abort orb) o p s = refl
done_same actions.AbortSet o p s = refl
done_same actions.UnitReset o p s = refl
done_same actions.TargetReset o p s = refl

asked_same : (r : Option Asked × Layer Purpose) (action : Action) (o p : OutboxState) (s : InitiatorState) → (asked_as r action o s).1.1 ≡ (asked_as r action p s).1.1
asked_same (None, layer) action o p s = refl
asked_same (Some asked, layer) action o p s = ap counted (done_same action o p (record s { layer = layer }))

demanded_same : (demand : Option Demand) (action : Action) (o p : OutboxState) (s : InitiatorState) → (demanded_as demand action o s).1.1 ≡ (demanded_as demand action p s).1.1
demanded_same None action o p s = ap counted (done_same action o p s)
demanded_same (Some demand) action o p s = asked_same (asked_for demand s) action o p s

judged_same : (refused : Option ℕ) (action : Action) (o p : OutboxState) (s : InitiatorState) → (judged_as refused action o s).1.1 ≡ (judged_as refused action p s).1.1
judged_same (Some number) action o p s = refl
judged_same None action o p s = demanded_same (demand_of action s) action o p s

pub act_same : (action : Action) (o p : OutboxState) (s : InitiatorState) → (act_step action o s).1.1 ≡ (act_step action p s).1.1
unfolding act_step
act_same action o p s = judged_same (refusal action (facts_with true s action)) action o p s

-- ---- every call

pub call_same : (call : Call) (o p : OutboxState) (s : InitiatorState) → (done call (o, s)).1 ≡ (done call (p, s)).1
call_same (acts action) o p s = act_same action o p s
call_same (receives generation bytes) o p s = receive_same bytes o p generation s
call_same (lets_expire label) o p s = expire_same label o p s
call_same (sees generation id target) o p s = see_same generation id target o p s
