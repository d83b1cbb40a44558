-- Each transaction that times out in a run was under way then, by the terms, and each packet that is got has bytes.
use Rattle.std.proofs.Common.{◌≡◌, sym, ◌∙◌, ap, ℕ, suc, ◌<◌, nat_eq, nat_lt, arith, Bool, true, false, cond, List, [], ◌∷◌, length, Some, Ok}
use Rattle.std.specs.Prelude.{◌-◌}
use Rattle.std.proofs.lemmas.Bool.Decides.{nat_tests}
use Rattle.rbc_disk.specs.Disk.{Disk}
use Rattle.sbp_bus.specs.Packets.{end_note, judged_note}
use Rattle.sbp_bus.specs.Requests.{find}
use Rattle.sbp_bus.specs.declared.requests.Request.{Request}
use Rattle.sbp_initiator.specs.Receiving.{expire_step}
use Rattle.sbp_initiator.specs.declared.state.InitiatorState.{InitiatorState}
use Rattle.sbp_journal.specs.Outgoings.{OutboxState, empty_outbox}
use Rattle.sbp_journal.specs.Run.{Moment, asked, said}
use Rattle.sbp_journal.specs.Wire.{Terms, terms}
use Rattle.sbp_journal.specs.declared.cause.Judged.{Judged}
use Rattle.sbp_journal.specs.declared.cause.Judged.TheVariants as judgements
use Rattle.sbp_journal.specs.declared.note.Note.{Note}
use Rattle.sbp_journal.specs.declared.note.Note.TheVariants as notes
use Rattle.sbp_laws.specs.Packets.{is_under_way}
use Rattle.sbp_laws.specs.Turns.{EachTurn, EachTurnBefore, Turn}
use Rattle.sbp_target.specs.Nodes as target
use Rattle.sbp_target.specs.Receiving.{expired}
use Rattle.sbp_world.proofs.Agents.Management.Holding.{past_terms}
use Rattle.sbp_world.proofs.Agents.Management.Still.{hist}
use Rattle.sbp_world.proofs.Wire.Comes.{to_zero}
use Rattle.sbp_world.proofs.Wire.Holding.{to_target}
use Rattle.sbp_world.proofs.Wire.Arrivals.{IsTarget}
use Rattle.sbp_world.proofs.Wire.UnderWay.{at_own_is, at_target_is, expired_was}
use Rattle.sbp_world.specs.Packets.{at_initiator, at_target, expires, initiator_expires, target_expired, target_left}
use Rattle.sbp_world.specs.Worlds.{Scene, WorldState, initiator_at}
use Rattle.turn_laws.proofs.Calls.{Cases}
use Rattle.turn_laws.proofs.Pass.{of_every_run}
use Rattle.turn_laws.proofs.Places.{Place}
use Rattle.turn_laws.proofs.ReadsUnderWay.{AreTimely, IsTimely}
use Rattle.turn_laws.specs.Runs.{OfEveryRun}

abbrev StartsTimely : Turn → Type 0
StartsTimely t = IsTimely t.start t.past

-- the first moment of each turn is enough
timely_of : (past : List Moment) (rest : List Note) → EachTurnBefore StartsTimely past rest → AreTimely past
timely_of [] rest e = tt
timely_of (asked line event ∷ past) rest e = (tt, timely_of past [] e.1)
timely_of (said (notes.Got serial) ∷ past) rest e = (e.0, timely_of past [] e.1)
timely_of (said (notes.Ignored serial cause) ∷ past) rest e = (tt, timely_of past [] e.1)
timely_of (said (notes.TimedOut serial) ∷ past) rest e = (e.0, timely_of past [] e.1)
timely_of (said (notes.Seen node generation) ∷ past) rest e = (tt, timely_of past [] e.1)
timely_of (said notes.Tick ∷ past) rest e = (tt, timely_of past [] e.1)
timely_of (said notes.Settled ∷ past) rest e = (tt, timely_of past [] e.1)
timely_of (said notes.Stopped ∷ past) rest e = (tt, timely_of past [] e.1)
timely_of (said note ∷ past) rest e = (tt, timely_of past (note ∷ rest) e)

judged_timely : (serial : ℕ) (judged : Judged) (past : List Moment) → IsTimely (said (notes.Got serial)) past → IsTimely (said (judged_note serial judged)) past
judged_timely serial judgements.Got past h = h
judged_timely serial (judgements.Ignored cause) past h = tt

end_timely : (done : Bool) (past : List Moment) → IsTimely (said (end_note done)) past
end_timely true past = tt
end_timely false past = tt

module _ (units ready : ℕ) (start : List Disk) where
  got_bytes : (past : List Moment) (s : Scene) → Place units ready start past s → (serial : ℕ) → IsTimely (said (notes.Got serial)) (hist past s.world)
  got_bytes past s here serial packet e =
      (here.holds.sound.stands.is.knows.ours serial packet (ap (λ (t : Terms). t.sent serial) (past_terms s.world here.holds.sound.stands) ∙ e)).bytes

  module _ (past : List Moment) (s : Scene) (here : Place units ready start past s) (serial : ℕ) (request : Request) (found : find s.world.requests serial ≡ Some request) where
    abbrev w : WorldState
    w = s.world

    aimed : (i : ℕ) → i < length w.initiators → IsTarget w (suc i) (initiator_at w i).target
    aimed i inside = to_target w.generations.seen i (initiator_at w i).target (here.holds.sound.nodes.own.holds i inside).fits.target_known

    was_under_way : (expires request w).0 ≡ true → is_under_way (terms (hist past w)) serial ≡ true
    was_under_way e = ap (λ (t : Terms). is_under_way t serial) (sym (past_terms w here.holds.sound.stands)) ∙ expired_was w here.holds.sound.stands serial request found aimed e

    target_timely : request.node ≡ 0 → (done : Unit {0}) (t : target.Scene) → expired request.peer request.label (target.scene w.target empty_outbox) ≡ (Ok done, t)
        → is_under_way (terms (hist past w)) serial ≡ true
    unfolding expires target_expired
    target_timely node_is done t e =
        was_under_way
        (ap (λ b. (cond b (at_target (target_expired request w.target) w) (initiator_expires request w)).0) (to_zero request.node node_is)
        ∙ at_target_is (target_left (expired request.peer request.label (target.scene w.target empty_outbox)) w.target) w
        ∙ ap (λ y. (target_left y w.target).0) e)

    own_timely : (i : ℕ) → request.node ≡ suc i → i < length w.initiators → (outbox : OutboxState) (state : InitiatorState)
        → expire_step request.label empty_outbox (initiator_at w i) ≡ (true, (outbox, state)) → is_under_way (terms (hist past w)) serial ≡ true
    unfolding expires
    own_timely i node_is inside outbox state e =
        let other : nat_eq request.node 0 ≡ false = grind (arith, nat_tests) in
        let there : nat_lt i (length w.initiators) ≡ true = grind (arith, nat_tests) in
        was_under_way
        (ap (λ b. (cond b (at_target (target_expired request w.target) w) (initiator_expires request w)).0) other
        ∙ ap (λ j. (cond (nat_lt j (length w.initiators)) (at_initiator j (expire_step request.label empty_outbox (initiator_at w j)) w) (false, (empty_outbox, w))).0)
        (let z : request.node - 1 ≡ i = omega arith in z)
        ∙ ap (λ b. (cond b (at_initiator i (expire_step request.label empty_outbox (initiator_at w i)) w) (false, (empty_outbox, w))).0) there
        ∙ at_own_is i (expire_step request.label empty_outbox (initiator_at w i)) w
        ∙ ap (λ (y : Bool × _). y.0) e)

  timely_cases : Cases units ready start StartsTimely
  timely_cases = record {
    heard = λ past s serial again run one found zero_to may others here behind judged. judged_timely serial _ (hist past s.world) (got_bytes past s here serial);
    heard_own = λ past s serial again one i found to_is inside own here behind judged. judged_timely serial _ (hist past s.world) (got_bytes past s here serial);
    late = λ past s serial request done t found node_is e others here behind judged. target_timely past s here serial request found node_is done t e;
    late_own = λ past s serial request i outbox state found node_is inside e own here behind judged. own_timely past s here serial request found i node_is inside outbox state e;
    sees = λ past s others here behind judged. tt;
    sees_own = λ past s i inside own here behind judged. tt;
    ticks = λ past s others here behind judged. tt;
    ends = λ past s done here behind. end_timely done (hist past s.world);
    acts = λ past s line i action outbox state inside e own here behind. tt;
    lines = λ past s line event rest behind brings fresh here there. tt;
    begins = λ line initiators is_ready. tt;
  }

pub timely_law : OfEveryRun (λ start past. AreTimely past)
timely_law =
    let law = of_every_run (λ start. StartsTimely) (λ units ready start has. timely_cases units ready start) in
    record {
      after_lines = λ line run r has small size. timely_of _ [] (law.after_lines line run r has small size);
      between = λ line run r has small size next most told may. timely_of _ [] (law.between line run r has small size next most told may);
    }

-- so a law of turns may know it of what stands before each
abbrev pub Timely : (Turn → Type 0) → Turn → Type 0
Timely L t = AreTimely t.past → L t

module _ (L : Turn → Type 0) where
  each_then : (past : List Moment) (rest : List Note) → AreTimely past → EachTurnBefore (Timely L) past rest → EachTurnBefore L past rest
  each_then [] rest t e = tt
  each_then (asked line event ∷ past) rest t e = (e.0 t.1, each_then past [] t.1 e.1)
  each_then (said (notes.Got serial) ∷ past) rest t e = (e.0 t.1, each_then past [] t.1 e.1)
  each_then (said (notes.Ignored serial cause) ∷ past) rest t e = (e.0 t.1, each_then past [] t.1 e.1)
  each_then (said (notes.TimedOut serial) ∷ past) rest t e = (e.0 t.1, each_then past [] t.1 e.1)
  each_then (said (notes.Seen node generation) ∷ past) rest t e = (e.0 t.1, each_then past [] t.1 e.1)
  each_then (said notes.Tick ∷ past) rest t e = (e.0 t.1, each_then past [] t.1 e.1)
  each_then (said notes.Settled ∷ past) rest t e = (e.0 t.1, each_then past [] t.1 e.1)
  each_then (said notes.Stopped ∷ past) rest t e = (e.0 t.1, each_then past [] t.1 e.1)
  each_then (said note ∷ past) rest t e = each_then past (note ∷ rest) t.1 e

pub untimed : (L : List Disk → Turn → Type 0) → OfEveryRun (λ start past. EachTurn (Timely (L start)) past) → OfEveryRun (λ start past. EachTurn (L start) past)
untimed L law = record {
  after_lines = λ line run r has small size. each_then (L run.start.disks) _ [] (timely_law.after_lines line run r has small size) (law.after_lines line run r has small size);
  between = λ line run r has small size next most told may. each_then (L run.start.disks) _ [] (timely_law.between line run r has small size next most told may)
      (law.between line run r has small size next most told may);
}
