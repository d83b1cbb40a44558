-- Which write of ORB_POINTER is under way (NCITS 325-1998, ORB_POINTER), by the run terms: in every run the request of such a write in an
-- initiator's layer is the one that the run names for its present list, and its label waits for the answer to that. What the run names
-- was sent by the initiator to its target. Unless the session is Stuck it counts as pointing exactly while the request that is named is
-- under way. So whether an operation that ends lists waits is what the run says of it, and such an action is refused with the least
-- number whose row holds of the run terms, where its request finds a label exactly as the run says, or where one of its first rows holds.
use Rattle.std.specs.Prelude.{◌≡◌, ◌<◌, ℕ, suc, ◌||◌, ◌&&◌, not, Bool, true, false, List, ◌∷◌, ◌++◌, map, Option, Some}
use Rattle.bus_transactions.specs.Wire.{transaction}
use Rattle.sbp_journal.specs.Outgoings.{OutboxState}
use Rattle.sbp_journal.specs.Rows.{Refusals}
use Rattle.rbc_disk.specs.Runs.{Told}
use Rattle.sbp_journal.specs.Run.{Moment, asked, said}
use Rattle.sbp_journal.specs.Transactions.{Kind, Sending}
use Rattle.sbp_journal.specs.Wire.{terms, waits}
use Rattle.sbp_journal.specs.declared.event.Action.{Action}
use Rattle.sbp_session.specs.Seats.{points}
use Rattle.sbp_initiator.specs.declared.state.InitiatorState.{InitiatorState}
use Rattle.sbp_initiator.specs.Acting.{act_step, facts_with}
use Rattle.sbp_initiator.specs.Refusals.{ends_list, operation_of, rows_of, sends}
use Rattle.sbp_initiator.specs.Refusing.{finds_label}
use Rattle.sbp_laws.specs.Actions.{is_pointing, refusal_at, refusals}
use Rattle.sbp_laws.specs.Hosts.{host_at, is_stuck}
use Rattle.sbp_initiator.specs.Histories.Pointing.{Pointed}
use Rattle.sbp_world.specs.Histories.{history_of}
use Rattle.sbp_world.specs.Runs.{Run, after, beginning}
use Rattle.sbp_world.specs.Settling.{MayAll, after_all}
use Rattle.sbp_world.specs.Worlds.{begun, initiator_at}
use Rattle.sbp_world.specs.Hosts.Refusing.{initiator_of}
use Rattle.sbp_world.specs.Hosts.Runs.{IsRun, more_deliveries}

-- the label waits, in the generation that its initiator is in, for the answer to the request that is named
pub record WaitsForPointer (past : List Moment) (i number : ℕ) : Type 0 where
  pub kind : Kind
  pub serial : ℕ
  pub named : (host_at past i).pointer ≡ Some serial
  pub held : (terms past).held (transaction ((terms past).generation (suc i)) (suc i) 0 number) ≡ waits kind serial

-- the packet with a serial is a node's own, to another node
pub record IsSentBy (past : List Moment) (from to serial : ℕ) : Type 0 where
  pub packet : Sending
  pub sent : (terms past).sent serial ≡ Some packet
  pub from_is : packet.from ≡ from
  pub to_is : packet.to ≡ to
  pub honest : packet.injected ≡ false

-- the first rows of a refusal, on the session and what is under way, decide
abbrev pub DecidesByWaiting : Refusals → Type 0
DecidesByWaiting r = (r.stuck || r.wrong_state) || r.waiting ≡ true

-- what an initiator is at a moment of a run
pub record PointsByWrites (past : List Moment) (i : ℕ) (s : InitiatorState) : Type 0 where
  pub waits_for : (a : Pointed s.layer) → WaitsForPointer past i a.write.number
  pub asks : (serial : ℕ) → (host_at past i).pointer ≡ Some serial → IsSentBy past (suc i) 0 serial
  pub points_while : is_stuck (host_at past i).session ≡ false → is_pointing (terms past) (host_at past i).pointer ≡ points s.seat

-- After each line, and behind each delivery of a line that delivers one packet after the other.
pub record PointerRunLaw : Type 0 where
  pub after_lines : (line : ℕ) (run : Run) → IsRun run → (i : ℕ) → i < run.initiators → PointsByWrites (history_of line run) i (initiator_of run i)
  pub between : (line : ℕ) (run : Run) → IsRun run → (next : ℕ) (most : Option ℕ) (told : List (Option Told)) → MayAll told (begun (after (beginning run) run.entries)) → (i : ℕ) → i < run.initiators → (let w = (after_all told (begun (after (beginning run) run.entries))).world in PointsByWrites (map said w.fresh ++ asked next (more_deliveries most) ∷ history_of line run) i (initiator_at w i))
  pub waiting : (line : ℕ) (run : Run) → IsRun run → (i : ℕ) → i < run.initiators → (action : Action) (has_label : Bool) → (let host = host_at (history_of line run) i in is_stuck host.session ≡ false → (refusals (history_of line run) i action host).waiting ≡ (rows_of action (facts_with has_label (initiator_of run i) action)).waiting)
  pub decided : (line : ℕ) (run : Run) → IsRun run → (i : ℕ) → i < run.initiators → (action : Action) (o : OutboxState) → ends_list (operation_of action) ≡ true → (refusals (history_of line run) i action (host_at (history_of line run) i)).no_label ≡ (sends action && not (finds_label action (initiator_of run i))) → refusal_at (history_of line run) i action ≡ (act_step action o (initiator_of run i)).0
  pub first : (line : ℕ) (run : Run) → IsRun run → (i : ℕ) → i < run.initiators → (action : Action) (o : OutboxState) → ends_list (operation_of action) ≡ true → DecidesByWaiting (refusals (history_of line run) i action (host_at (history_of line run) i)) → refusal_at (history_of line run) i action ≡ (act_step action o (initiator_of run i)).0
