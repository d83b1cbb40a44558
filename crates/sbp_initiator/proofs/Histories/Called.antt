-- The laws of an initiator over every list of its calls, by its moves.
use Rattle.std.proofs.Common.{arith, ◌≡◌, refl, sym, ap, ◌∙◌, ℕ, ◌+◌, Bool, true, false, List, [], ◌∷◌, ◌++◌, append_assoc, append-nil, Option}
use Rattle.label_table.specs.declared.judgement.Asked.{Asked}
use Rattle.label_table.specs.Layer.{Layer, answering_step, asking_step}
use Rattle.label_table.specs.History as wire
use Rattle.sbp_session.specs.declared.seat.Seat.{Seat}
use Rattle.sbp_session.specs.declared.seat.Seat.TheVariants as seats
use Rattle.sbp_session.specs.declared.seat.Origin.{Origin}
use Rattle.sbp_session.specs.Moves.{Event, sent, entered, good, bad, conflict, pointing, pointed, reset, failed, goes}
use Rattle.sbp_journal.specs.declared.outbox.Outgoing.{Outgoing}
use Rattle.sbp_journal.specs.Outgoings.{empty_outbox}
use Rattle.sbp_initiator.specs.declared.purpose.Purpose.{Purpose}
use Rattle.sbp_initiator.specs.declared.state.Counts.{Counts}
use Rattle.sbp_initiator.specs.Effects.{Turn}
use Rattle.sbp_initiator.specs.Initiators.{first_seat, new_state}
use Rattle.sbp_initiator.specs.Histories.Moves.{Stage, stage, staged, is_reset, Grow, outgoing, response, Move, Moves, tells, sits, resets, relists, marks_as, works_at, reads_on, holds, learns, turns_to, counts_up, judges, answers, asks, fails, sends, expires, sees, stay, go_on}
use Rattle.sbp_initiator.specs.Histories.Laws.{Call, acts, receives, lets_expire, IsCall, AreCalls, done, after, packets_of, with_asked, IsWireRun, WireLaw, IsSession, is_sight, SessionLaw, CountLaw}
use Rattle.sbp_initiator.specs.Histories.Laws as laws
use Rattle.sbp_initiator.proofs.Histories.Acted.{act_moves}
use Rattle.sbp_initiator.proofs.Histories.Delivered.{receive_moves, expire_moves, see_moves}

-- each call is moves
pub call_moves : (call : Call) (z : Stage) (t : Turn) → IsCall call → Moves true z (staged [] t) → Moves true z (staged [] (done call t))
call_moves (acts action) z t h m = act_moves true z action t.0 t.1 h m
call_moves (receives generation bytes) z t h m = receive_moves true z generation bytes t.0 t.1 m
call_moves (lets_expire label) z t h m = expire_moves true z label t.0 t.1 m
call_moves (laws.sees generation id target) z t h m = see_moves z generation id target t.0 t.1 m

-- and one that is no sight of a generation is moves without a reset
calm_moves : (call : Call) (z : Stage) (t : Turn) → IsCall call → is_sight call ≡ false → Moves false z (staged [] t) → Moves false z (staged [] (done call t))
calm_moves (acts action) z t h e m = act_moves false z action t.0 t.1 h m
calm_moves (receives generation bytes) z t h e m = receive_moves false z generation bytes t.0 t.1 m
calm_moves (lets_expire label) z t h e m = expire_moves false z label t.0 t.1 m
calm_moves (laws.sees generation id target) z t h e m = absurd (untrue e)
  where
    untrue : true ≡ false → ⊥
    untrue f = cc

pub run_moves : (number : ℕ) (ready : Bool) (calls : List Call) → AreCalls calls → Moves true (stage [] empty_outbox (new_state number ready)) (staged [] (after number ready calls))
run_moves number ready [] h = stay _
run_moves number ready (call ∷ calls) h = call_moves call _ (after number ready calls) h.0 (run_moves number ready calls h.1)

-- ---- the transaction layer
wired_by : (may_reset : Bool) (node : ℕ) (x y : Stage) → Move may_reset x y → IsWireRun node x.state.layer (x.outbox.packets ++ x.asked) → IsWireRun node y.state.layer (y.outbox.packets ++ y.asked)
wired_by r node _ _ (tells x note) w = w
wired_by r node _ _ (sits x event e) w = w
wired_by r node _ _ (resets x e) w = w
wired_by r node _ _ (relists x change e) w = w
wired_by r node _ _ (marks_as x known) w = w
wired_by r node _ _ (works_at x operation) w = w
wired_by r node _ _ (reads_on x states) w = w
wired_by r node _ _ (holds x read) w = w
wired_by r node _ _ (learns x management) w = w
wired_by r node _ _ (turns_to x target) w = w
wired_by r node _ _ (counts_up x new g) w = w
wired_by r node _ _ (judges x generation bytes) w =
    record { calls = wire.judges generation bytes ∷ w.calls; layer_is = ap (λ (l : Layer Purpose). wire.done (wire.judges generation bytes) l) w.layer_is; packets_are = w.packets_are }
wired_by r node _ _ (answers o s p bytes rcode given) w =
    let a : List ℕ × Layer Purpose = answering_step s.layer p bytes rcode given in
    let f : answering_step (wire.after node w.calls) p bytes rcode given ≡ a = ap (λ (l : Layer Purpose). answering_step l p bytes rcode given) w.layer_is in
    record {
      calls = wire.answers p bytes rcode given ∷ w.calls;
      layer_is = ap (λ (q : List ℕ × Layer Purpose). q.1) f;
      packets_are = ap (λ (q : List ℕ × Layer Purpose). packets_of node w.calls ++ response p q.0 ∷ []) f
          ∙ ap (λ (ps : List Outgoing). ps ++ response p a.0 ∷ []) (w.packets_are ∙ append-nil o.packets)
          ∙ sym (append-nil (o.packets ++ response p a.0 ∷ []));
    }
wired_by r node _ _ (fails x peer body purpose layer e) w =
    let f = ap (λ (l : Layer Purpose). asking_step l peer body purpose) w.layer_is ∙ e in
    record {
      calls = wire.asks peer body purpose ∷ w.calls;
      layer_is = ap (λ (p : Option Asked × Layer Purpose). p.1) f;
      packets_are = ap (λ (p : Option Asked × Layer Purpose). with_asked peer p.0 (packets_of node w.calls)) f ∙ w.packets_are;
    }
wired_by r node _ _ (asks x peer body purpose asked layer e) w =
    let f = ap (λ (l : Layer Purpose). asking_step l peer body purpose) w.layer_is ∙ e in
    record {
      calls = wire.asks peer body purpose ∷ w.calls;
      layer_is = ap (λ (p : Option Asked × Layer Purpose). p.1) f;
      packets_are = ap (λ (p : Option Asked × Layer Purpose). with_asked peer p.0 (packets_of node w.calls)) f
          ∙ ap (λ (ps : List Outgoing). ps ++ outgoing peer asked ∷ []) w.packets_are
          ∙ append_assoc x.outbox.packets x.asked (outgoing peer asked ∷ []);
    }
wired_by r node _ _ (sends o s packet asked) w =
    record { calls = w.calls; layer_is = w.layer_is; packets_are = w.packets_are ∙ sym (append_assoc o.packets (packet ∷ []) asked) }
wired_by r node _ _ (expires x peer label) w =
    record { calls = wire.lets_expire peer label ∷ w.calls; layer_is = ap (λ (l : Layer Purpose). wire.done (wire.lets_expire peer label) l) w.layer_is; packets_are = w.packets_are }
wired_by r node _ _ (sees x generation id) w =
    record { calls = wire.sees generation id ∷ w.calls; layer_is = ap (λ (l : Layer Purpose). wire.done (wire.sees generation id) l) w.layer_is; packets_are = w.packets_are }

wired : (may_reset : Bool) (node : ℕ) (x y : Stage) → Moves may_reset x y → IsWireRun node x.state.layer (x.outbox.packets ++ x.asked) → IsWireRun node y.state.layer (y.outbox.packets ++ y.asked)
wired r node _ _ (stay x) w = w
wired r node _ _ (go_on x y z m n) w = wired_by r node y z n (wired r node x y m w)

first_wire : (number : ℕ) (ready : Bool) → IsWireRun (0xffc1 + number) (new_state number ready).layer []
unfolding new_state
first_wire number ready = record { calls = []; layer_is = refl; packets_are = refl }

pub wire_law : WireLaw
wire_law number ready calls h =
    let x = stage [] empty_outbox (new_state number ready) in
    let t = after number ready calls in
    let w = wired true (0xffc1 + number) x (staged [] t) (run_moves number ready calls h) (first_wire number ready) in
    record { calls = w.calls; layer_is = w.layer_is; packets_are = w.packets_are ∙ append-nil t.0.packets }

-- ---- the session
sat_by : (may_reset : Bool) (first : Seat) (x y : Stage) → Move may_reset x y → IsSession first x.state.seat → IsSession first y.state.seat
sat_by r first _ _ (tells x note) w = w
sat_by r first _ _ (sits x event e) w = record { events = event ∷ w.events; seat = ap (λ (s : Seat). goes event s) w.seat }
sat_by r first _ _ (resets x e) w = record { events = reset ∷ w.events; seat = ap (λ (s : Seat). goes reset s) w.seat }
sat_by r first _ _ (relists x change e) w = w
sat_by r first _ _ (marks_as x known) w = w
sat_by r first _ _ (works_at x operation) w = w
sat_by r first _ _ (reads_on x states) w = w
sat_by r first _ _ (holds x read) w = w
sat_by r first _ _ (learns x management) w = w
sat_by r first _ _ (turns_to x target) w = w
sat_by r first _ _ (counts_up x new g) w = w
sat_by r first _ _ (judges x generation bytes) w = w
sat_by r first _ _ (answers o s p bytes rcode given) w = w
sat_by r first _ _ (asks x peer body purpose asked layer e) w = w
sat_by r first _ _ (fails x peer body purpose layer e) w = w
sat_by r first _ _ (sends o s packet asked) w = w
sat_by r first _ _ (expires x peer label) w = w
sat_by r first _ _ (sees x generation id) w = w

sat : (may_reset : Bool) (first : Seat) (x y : Stage) → Moves may_reset x y → IsSession first x.state.seat → IsSession first y.state.seat
sat r first _ _ (stay x) w = w
sat r first _ _ (go_on x y z m n) w = sat_by r first y z n (sat r first x y m w)

first_sat : (number : ℕ) (ready : Bool) → IsSession (first_seat ready number) (new_state number ready).seat
unfolding new_state
first_sat number ready = record { events = []; seat = refl }

session_moves : (number : ℕ) (ready : Bool) (calls : List Call) → AreCalls calls → IsSession (first_seat ready number) (after number ready calls).1.seat
session_moves number ready calls h =
    sat true (first_seat ready number) (stage [] empty_outbox (new_state number ready)) (staged [] (after number ready calls)) (run_moves number ready calls h) (first_sat number ready)

-- a session that is Stuck stays so at each event but a reset
stays : (event : Event) (origin : Origin) → is_reset event ≡ false → goes event (seats.Stuck origin) ≡ seats.Stuck origin
unfolding goes
stays sent origin e = refl
stays (entered response) origin e = refl
stays good origin e = refl
stays bad origin e = refl
stays conflict origin e = refl
stays pointing origin e = refl
stays pointed origin e = refl
stays reset origin e = cc
stays failed origin e = refl

stuck_by : (origin : Origin) (x y : Stage) → Move false x y → x.state.seat ≡ seats.Stuck origin → y.state.seat ≡ seats.Stuck origin
stuck_by origin _ _ (tells x note) w = w
stuck_by origin _ _ (sits x event e) w = ap (λ (s : Seat). goes event s) w ∙ stays event origin e
stuck_by origin _ _ (resets x e) w = cc
stuck_by origin _ _ (relists x change e) w = w
stuck_by origin _ _ (marks_as x known) w = w
stuck_by origin _ _ (works_at x operation) w = w
stuck_by origin _ _ (reads_on x states) w = w
stuck_by origin _ _ (holds x read) w = w
stuck_by origin _ _ (learns x management) w = w
stuck_by origin _ _ (turns_to x target) w = w
stuck_by origin _ _ (counts_up x new g) w = w
stuck_by origin _ _ (judges x generation bytes) w = w
stuck_by origin _ _ (answers o s p bytes rcode given) w = w
stuck_by origin _ _ (asks x peer body purpose asked layer e) w = w
stuck_by origin _ _ (fails x peer body purpose layer e) w = w
stuck_by origin _ _ (sends o s packet asked) w = w
stuck_by origin _ _ (expires x peer label) w = w
stuck_by origin _ _ (sees x generation id) w = w

stuck_on : (origin : Origin) (x y : Stage) → Moves false x y → x.state.seat ≡ seats.Stuck origin → y.state.seat ≡ seats.Stuck origin
stuck_on origin _ _ (stay x) w = w
stuck_on origin _ _ (go_on x y z m n) w = stuck_by origin y z n (stuck_on origin x y m w)

pub session_law : SessionLaw
session_law = record {
  moves = session_moves;
  stuck = λ call turn origin h e f. stuck_on origin (staged [] turn) (staged [] (done call turn)) (calm_moves call (staged [] turn) turn h e (stay _)) f;
}

-- ---- the counts
same_counts : (c : Counts) → Grow c c
same_counts c = record { managed = omega arith; logins = omega arith; running = omega arith; calls = omega arith; acts = omega arith }

grown : (a b c : Counts) → Grow a b → Grow b c → Grow a c
grown a b c g h =
    let g1 = g.managed in let h1 = h.managed in let g2 = g.logins in let h2 = h.logins in let g3 = g.running in let h3 = h.running in
    let g4 = g.calls in let h4 = h.calls in let g5 = g.acts in let h5 = h.acts in
    record { managed = omega arith; logins = omega arith; running = omega arith; calls = omega arith; acts = omega arith }

grows_by : (r : Bool) (x y : Stage) → Move r x y → Grow x.state.counts y.state.counts
grows_by r _ _ (tells x note) = same_counts x.state.counts
grows_by r _ _ (sits x event e) = same_counts x.state.counts
grows_by r _ _ (resets x e) = same_counts x.state.counts
grows_by r _ _ (relists x change e) = same_counts x.state.counts
grows_by r _ _ (marks_as x known) = same_counts x.state.counts
grows_by r _ _ (works_at x operation) = same_counts x.state.counts
grows_by r _ _ (reads_on x states) = same_counts x.state.counts
grows_by r _ _ (holds x read) = same_counts x.state.counts
grows_by r _ _ (learns x management) = same_counts x.state.counts
grows_by r _ _ (turns_to x target) = same_counts x.state.counts
grows_by r _ _ (counts_up x new g) = g
grows_by r _ _ (judges x generation bytes) = same_counts x.state.counts
grows_by r _ _ (answers o s p bytes rcode given) = same_counts s.counts
grows_by r _ _ (asks x peer body purpose asked layer e) = same_counts x.state.counts
grows_by r _ _ (fails x peer body purpose layer e) = same_counts x.state.counts
grows_by r _ _ (sends o s packet asked) = same_counts s.counts
grows_by r _ _ (expires x peer label) = same_counts x.state.counts
grows_by r _ _ (sees x generation id) = same_counts x.state.counts

grows : (r : Bool) (x y : Stage) → Moves r x y → Grow x.state.counts y.state.counts
grows r _ _ (stay x) = same_counts x.state.counts
grows r _ _ (go_on x y z m n) = grown x.state.counts y.state.counts z.state.counts (grows r x y m) (grows_by r y z n)

call_grows : (call : Call) (turn : Turn) → IsCall call → Grow turn.1.counts (done call turn).1.counts
call_grows call turn h = grows true (staged [] turn) (staged [] (done call turn)) (call_moves call (staged [] turn) turn h (stay _))

pub count_law : CountLaw
count_law = record {
  managed = λ call turn h. (call_grows call turn h).managed;
  logins = λ call turn h. (call_grows call turn h).logins;
  running = λ call turn h. (call_grows call turn h).running;
}
