-- In every run each moment of an initiator stands as it may.
use Rattle.sbp_world.proofs.Words.Std.{arith, ◌≡◌, inl, refl, sym, ◌∙◌, ap, subst, ℕ, suc, ◌+◌, ◌<◌, ◌≤◌, nat_eq, is_some, not, Bool, true, false, List, [], ◌∷◌, ◌++◌, map, Option, Some, nat_tests}
use Rattle.sbp_world.proofs.Words.Wire.{transaction, Moment, asked, said, Transaction, Held, terms, Action, Event, Note}
use Rattle.sbp_world.proofs.Words.Target.{Told}
use Rattle.sbp_world.proofs.Words.Initiator.{InitiatorState, new_state, is_unwritten, wanted_body}
use Rattle.sbp_world.proofs.Words.Laws.{event_of}
use Rattle.sbp_world.proofs.Words.World.{history_of, Run, world_after, beginning, MayAll, after_all, begun, initiator_at, Core, IsRun, more_deliveries, MaySend}
use Rattle.bus_transactions.proofs.Fits.{request_fits}
use Rattle.sbp_journal.specs.declared.event.Event.TheVariants as events
use Rattle.sbp_journal.specs.declared.note.Note.TheVariants as notes
use Rattle.sbp_world.proofs.FitInitiator.Acts.{IfDemand, demand_fits}
use Rattle.sbp_world.proofs.FitInitiator.Law.{fitting_law as own_fitting_law}
use Rattle.sbp_world.proofs.FitTarget.Law.{fitting_law}
use Rattle.sbp_world.proofs.Wire.Holding.{TargetOf, target_small}
use Rattle.sbp_world.proofs.Wire.Runs.{sound_after}
use Rattle.sbp_world.specs.Hosts.Refusing.{initiator_of}
use Rattle.sbp_world.proofs.Hosts.Aimed.{first_aimed}
use Rattle.sbp_world.proofs.Hosts.Carried.{Knows, between_runs, of_runs}
use Rattle.sbp_world.proofs.Hosts.Carries.{Carries, IsNoAct, is_apart}
use Rattle.sbp_world.proofs.Hosts.Cores.{sent_core}
use Rattle.sbp_world.proofs.Hosts.Held.{sent_old}
use Rattle.sbp_world.proofs.Hosts.OrbTerms.{orbs_apart, orbs_left}
use Rattle.sbp_world.proofs.Hosts.Pointed.{first_pointed, pointed_carried, stale_is, first_marks}
use Rattle.sbp_world.proofs.Hosts.PointerNotes.{Fit, apart_passes, opens, pointer, sent_fades, older}
use Rattle.sbp_world.proofs.Hosts.Pointing.{keeps_is, wrote_is}
use Rattle.sbp_world.proofs.Hosts.Runs.{are_after}
use Rattle.sbp_world.proofs.Hosts.Shown.{IsElsewhere}
use Rattle.sbp_world.proofs.Pointers.Ages.{moment_closes, moment_generation}
use Rattle.sbp_world.proofs.Pointers.GuardDoes.{Ready, does_guarded}
use Rattle.sbp_world.proofs.Pointers.GuardHears.{expires_guarded, hears_guarded}
use Rattle.sbp_world.proofs.Pointers.GuardSees.{sees_guarded}
use Rattle.sbp_world.proofs.Pointers.Guarded.{Guarded, firsts_same}
use Rattle.sbp_world.proofs.Pointers.Passing.{apart_sight, apart_stands, asked_goes, current_by, current_goes, none_by, none_goes}
use Rattle.sbp_world.proofs.Pointers.Pends.{unwritten_not}
use Rattle.sbp_world.proofs.Pointers.Resetting.{apart_fades, first_resets, sent_resets, still_resets}
use Rattle.sbp_world.proofs.Pointers.Showing.{apart_present}
use Rattle.sbp_world.proofs.Pointers.WaitActs.{first_asks}
use Rattle.sbp_world.proofs.Pointers.Waits.{asked_apart, line_asks, sent_asks, state_apart, still_asks}
use Rattle.sbp_world.proofs.Pointers.Spelled.{spelled_by}
use Rattle.sbp_world.proofs.Pointers.Sending.{not_new}
use Rattle.sbp_world.proofs.Common.{untrue}

-- ---- what others tell and send

asked_guarded : (ready : Bool) (line : ℕ) (event : Event) (past : List Moment) (i : ℕ) (s : InitiatorState) → Guarded ready past i s → Guarded ready (asked line event ∷ past) i s
asked_guarded ready line event past i s h =
    let goes = asked_goes line event past i in
    record {
      pointed = (pointed_carried ready).asked line event past i s h.pointed;
      aimed = h.aimed;
      pend = firsts_same past (asked line event ∷ past) i s refl h.pend;
      generation = h.generation ∙ sym goes.generation;
      kept = λ f.
          let k = h.kept (record { serials = f.serials; sent = f.sent }) in
          record { answered = λ e. none_goes goes (k.answered e); current = current_goes goes k.current; told = (tt, k.told) };
      asks = λ f. line_asks line event past i s.target s.layer (h.asks (record { serials = f.serials; sent = f.sent }));
      resets = λ f. still_resets past (asked line event ∷ past) i s (λ u e. e) (λ g m. ap (λ (x : Transaction → Held). x (transaction g (suc i) 0 m)) (opens event (terms past)).held) ((pointed_carried ready).asked line event past i s h.pointed).cored (h.resets (record { serials = f.serials; sent = f.sent }));
      shown = h.shown;
    }

apart_guarded : (ready : Bool) (note : Note) (past : List Moment) (i : ℕ) (s : InitiatorState) → is_apart i note ≡ true → IsElsewhere past i note → Guarded ready past i s → Guarded ready (said note ∷ past) i s
apart_guarded ready note past i s e w h =
    let passes = apart_passes note past i e w in
    let stays = moment_generation (suc i) (said note) past (apart_sight note i e) in
    record {
      pointed = (pointed_carried ready).apart note past i s e w h.pointed;
      aimed = h.aimed;
      pend = firsts_same past (said note ∷ past) i s (orbs_apart note past i e) h.pend;
      generation = h.generation ∙ sym stays;
      kept = λ f.
          let k = h.kept (passes.fit f) in
          let points = h.pointed.points (passes.fit f) in
          record {
            answered = λ z. none_by passes.fades (moment_closes (said note) past) (k.answered z);
            current = current_by past (said note ∷ past) i passes.fades (λ n p. passes.sent f n (points.below n p)) stays k.current;
            told = (apart_stands note past i e, k.told);
          };
      asks = λ f. still_asks past (said note ∷ past) i s.target s.layer passes.held passes.count (λ n l. asked_apart note past i e n) (λ n l. state_apart note past i e n) (h.asks (passes.fit f));
      resets = λ f. still_resets past (said note ∷ past) i s (apart_fades note past i e) passes.held ((pointed_carried ready).apart note past i s e w h.pointed).cored (h.resets (passes.fit f));
      shown = λ n f. apart_present note past i e ∙ h.shown n f;
    }

no_act : {A : Type 0} (i : ℕ) (action : Action) (event : Option Event) → IsNoAct i event → event ≡ Some (events.Act i action) → A
no_act i action event n e = absurd (differ (nat_eq i i) (subst (IsNoAct i) e n) (let f : nat_eq i i ≡ true = grind (arith, nat_tests) in f))
  where
    differ : (b : Bool) → b ≡ false → b ≡ true → ⊥
    differ true e f = cc
    differ false e f = cc

sent_guarded : (ready : Bool) (serial generation from to : ℕ) (bytes : List ℕ) (past : List Moment) (i : ℕ) (s : InitiatorState) → IsNoAct i (event_of past) → Guarded ready past i s → Guarded ready (said (notes.Sent serial generation from to bytes) ∷ past) i s
sent_guarded ready serial generation from to bytes past i s n h =
    let note = notes.Sent serial generation from to bytes in
    let stays = moment_generation (suc i) (said note) past refl in
    let fades = sent_fades serial generation from to bytes past i n in
    record {
      pointed = (pointed_carried ready).sent serial generation from to bytes past i s n h.pointed;
      aimed = h.aimed;
      pend = firsts_same past (said note ∷ past) i s (orbs_left note past i refl) h.pend;
      generation = h.generation ∙ sym stays;
      kept = λ f.
          let g : Fit past = record { serials = f.serials.1; sent = f.sent.1 } in
          let k = h.kept g in
          let below = (h.pointed.points g).below in
          record {
            answered = λ z. none_by fades (moment_closes (said note) past) (k.answered z);
            current = current_by past (said note ∷ past) i fades (λ m p. sent_old serial m _ (terms past) (older m serial (terms past).count (below m p) f.serials.0)) stays k.current;
            told = ((λ same honest. may_send below f), k.told);
          };
      asks = λ f. sent_asks serial generation from to bytes past i s.target s.layer f (h.asks (record { serials = f.serials.1; sent = f.sent.1 }));
      resets = λ f. let g : Fit past = record { serials = f.serials.1; sent = f.sent.1 } in sent_resets serial generation from to bytes past i s.target s.layer n f (h.asks g) (h.resets g);
      shown = h.shown;
    }
  where
    wrote_on : is_some (pointer (said (notes.Sent serial generation (suc i) to bytes) ∷ past) i) ≡ is_some (pointer past i)
    wrote_on = ap (λ (c : Core). c.wrote_pointer) (sent_core serial generation (suc i) to bytes past i n)

    may_send : ((m : ℕ) → pointer past i ≡ Some m → m ≤ (terms past).count) → Fit (said (notes.Sent serial generation from to bytes) ∷ past) → MaySend past i serial generation to bytes
    may_send below f = record {
      stays = λ m e. keeps_is (pointer past i) _ m (sent_fades serial generation (suc i) to bytes past i n) (wrote_on ∙ ap is_some e) e;
      names = λ m e. inl (sent_fades serial generation (suc i) to bytes past i n m e);
      points = λ e. not_new serial (terms past).count (below serial (sent_fades serial generation (suc i) to bytes past i n serial e)) f.serials.0;
      rung = λ action e r. no_act i action (event_of past) n e;
      cuts = λ action e c. no_act i action (event_of past) n e;
      writes = λ action e access f w. no_act i action (event_of past) n e;
    }

pub guarded_carried : (ready : Bool) → Carries Ready (Guarded ready)
guarded_carried ready = record {
  known = λ line event past i s r. record { rows = r.rows; pin = r.pin; spelled = r.spelled };
  number = λ past i s h. h.pointed.cored.own.number;
  asked = asked_guarded ready;
  apart = apart_guarded ready;
  sent = sent_guarded ready;
  hears = hears_guarded ready;
  expires = expires_guarded ready;
  stale = λ label past i s e h. subst (λ (x : InitiatorState). Guarded ready past i x) (sym (stale_is ready label s e)) h;
  sees = sees_guarded ready;
  acts = does_guarded ready;
}

-- ---- the beginning

pub first_guarded : (line i initiators : ℕ) (ready : Bool) → i < initiators → Guarded ready (said (notes.Begin initiators ready) ∷ asked line (events.Begin initiators ready) ∷ []) i (new_state i ready)
unfolding new_state
first_guarded line i initiators ready b =
    let p = first_pointed line i initiators ready b in
    record {
      pointed = p;
      aimed = first_aimed i ready;
      pend = record { first = λ n e. untrue e; counts = λ e f. unwritten_not e; beside = λ e. unwritten_not e; stays = λ e. untrue e };
      generation = refl;
      kept = λ f. record {
        answered = λ e. untrue e;
        current = λ serial packet e g. untrue (sym (wrote_is p.cored ∙ ap (λ m. not (is_unwritten m)) (first_marks i ready)) ∙ ap is_some e);
        told = (refl, (tt, tt));
      };
      asks = λ f. first_asks (said (notes.Begin initiators ready) ∷ asked line (events.Begin initiators ready) ∷ []) i ready;
      resets = λ f. first_resets (said (notes.Begin initiators ready) ∷ asked line (events.Begin initiators ready) ∷ []) i ready;
      shown = λ n e. untrue e;
    }

-- ---- what is known as a line begins

pub ready_known : (line : ℕ) (run : Run) → Knows Ready line run
ready_known line run entries few short all fit i b =
    let sound = sound_after fitting_law own_fitting_law line run entries few short all fit in
    let w = (world_after (beginning run) entries).world in
    let s = initiator_at w i in
    let h = sound.sound.nodes.own.holds i b in
    let count = sound.sound.nodes.own.counts i b in
    let small = h.fits.running_fits in
    record {
      rows = (are_after line run entries few short all fit i b).rows;
      pin = (are_after line run entries few short all fit i b).pin;
      spelled = λ action demand asked e f.
          let fits : IfDemand (Some demand) = subst IfDemand e (demand_fits (TargetOf w.generations.seen i) s.counts.acts (s.counts.acts + 1) s h.fits (omega arith) action) in
          let peer = target_small w.generations.seen i s.target h.fits.target_known in
          spelled_by s.layer s.target (wanted_body demand.wanted) demand.purpose h.layer (request_fits s.layer.node s.target (wanted_body demand.wanted) h.layer.small peer fits) asked f;
    }

pub guarded_of_runs : (line : ℕ) (run : Run) → IsRun run → (i : ℕ) → i < run.initiators → Guarded run.ready (history_of line run) i (initiator_of run i)
guarded_of_runs line run r i b =
    of_runs (Guarded run.ready) (guarded_carried run.ready) line run (ready_known line run) (λ j c. first_guarded line j run.initiators run.ready c) r i b

pub guarded_between : (line : ℕ) (run : Run) → IsRun run → (next : ℕ) (most : Option ℕ) (told : List (Option Told)) → MayAll told (begun (world_after (beginning run) run.entries)) → (i : ℕ) → i < run.initiators → (let w = (after_all told (begun (world_after (beginning run) run.entries))).world in Guarded run.ready (map said w.fresh ++ asked next (more_deliveries most) ∷ history_of line run) i (initiator_at w i))
guarded_between line run r next most told m i b =
    between_runs (Guarded run.ready) (guarded_carried run.ready) line run (ready_known line run) (λ j c. first_guarded line j run.initiators run.ready c) r next most told m i b
