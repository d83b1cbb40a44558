-- Why each list of an initiator is dropped, in every run: by the wire, the packet that brought it is one of the target, which was not judged before.
use Rattle.sbp_world.proofs.Words.Std.{◌≡◌, ◌∙◌, refl, sym, ap, subst, ◌<◌, ℕ, suc, Bool, true, false, List, [], ◌∷◌, ◌++◌, map}
use Rattle.sbp_world.proofs.Words.Wire.{write_block, Moment, asked, said, Sending, terms}
use Rattle.sbp_world.proofs.Words.Laws.{EachMoment}
use Rattle.sbp_world.proofs.Words.World.{history_of, after, beginning, after_all, WorldState, begun, IsOfWire, Stands, more_deliveries, turn_of, Always, AreEnds, Ends, EndsAt, IsDoneNow, ends_by_reset, ends_by_sight, ends_by_state, ends_by_status}
use Rattle.bus_transactions.proofs.PacketParts.{part_read}
use Rattle.sbp_journal.specs.declared.note.Note.TheVariants as notes
use Rattle.sbp_world.proofs.FitInitiator.Law.{fitting_law as own_fitting_law}
use Rattle.sbp_world.proofs.FitTarget.Law.{fitting_law}
use Rattle.sbp_world.proofs.Wire.Runs.{sound_after}
use Rattle.sbp_world.proofs.Wire.Starts.{laws_of}
use Rattle.sbp_world.proofs.Hosts.Carried.{stands_between}
use Rattle.sbp_world.proofs.Hosts.Runs.{count_after, count_between}
use Rattle.sbp_world.proofs.Pointers.Guarded.{Guarded}
use Rattle.sbp_world.proofs.Pointers.Guarding.{first_guarded, guarded_carried, ready_known}
use Rattle.sbp_world.proofs.Lists.Calm.{injects_before}
use Rattle.sbp_world.proofs.Lists.ManageKnown.{OfWire, before_it, current_of, not_judged}
use Rattle.sbp_world.proofs.Lists.ManageWire.{WireMoments, wire_moments}
use Rattle.sbp_world.proofs.Lists.OpenedCauses.{AllDrops, DropAt, drops_after, drops_between}
use Rattle.sbp_world.proofs.Lists.OpenedEnds.{Drops, IsBlockGot, drops_by_block, drops_by_reset, drops_by_sight, drops_by_state}
use Rattle.sbp_world.proofs.Common.{untrue}

-- ---- the moment that began a turn
of_turn : (past : List Moment) → OfWire past → OfWire (turn_of past)
of_turn [] w = w
of_turn (said (notes.Taken j n k status answer) ∷ past) w = of_turn past (before_it (said (notes.Taken j n k status answer)) past w)
of_turn (said (notes.Told j) ∷ past) w = of_turn past (before_it (said (notes.Told j)) past w)
of_turn (said (notes.Rung j n k) ∷ past) w = of_turn past (before_it (said (notes.Rung j n k)) past w)
of_turn (said (notes.Drop j n) ∷ past) w = of_turn past (before_it (said (notes.Drop j n)) past w)
of_turn (said (notes.Op j operation word) ∷ past) w = of_turn past (before_it (said (notes.Op j operation word)) past w)
of_turn (said (notes.Stuck j) ∷ past) w = of_turn past (before_it (said (notes.Stuck j)) past w)
of_turn (moment ∷ past) w = w

-- ---- a status block that is got
module _ (serial i : ℕ) (earlier : List Moment) (w : OfWire (said (notes.Got serial) ∷ earlier)) (d : IsBlockGot earlier serial i) where
  abbrev later : List Moment
  later = said (notes.Got serial) ∷ earlier

  abbrev p : Sending
  p = d.packet

  current : p.generation ≡ (terms earlier).generation (suc i)
  current = current_of earlier p (w.judged.0 p d.sent) ∙ ap (terms earlier).generation d.to_own

  from : p.from ≡ 0
  from = d.from_target current

  target_fair : (terms earlier).injects 0 ≡ false
  target_fair = injects_before (said (notes.Got serial)) earlier 0 w.fair

  honest_by : (b : Bool) → p.injected ≡ b → b ≡ false
  honest_by false e = refl
  honest_by true e = untrue (sym target_fair ∙ ap (terms earlier).injects (sym from) ∙ (w.moments.0.facts.honest serial p d.sent).bold e)

  -- it was not judged before
  fresh : (terms earlier).news serial ≡ 0
  fresh =
      not_judged serial earlier p w.moments.0.later d.sent (honest_by p.injected refl) (ap (terms later).injects from ∙ w.fair)
      d.header.label (part_read p.bytes (write_block d.header d.offset d.payload) d.spelled)

  done_now : IsDoneNow earlier serial i
  done_now = record {
    underway = d.underway;
    is = d.is;
    manages = d.manages;
    cuts = d.cuts;
    packet = p;
    sent = d.sent;
    to_own = d.to_own;
    current = current;
    fresh = fresh;
    done = record {
      from_target = from;
      header = d.header;
      offset = d.offset;
      payload = d.payload;
      spelled = d.spelled;
      logins = d.logins;
      is_out = d.is_out;
      opens = d.opens;
      block = d.block;
      read = d.read;
      kind = d.kind;
      orb_is = d.orb_is;
    };
  }

-- ---- each drop
ends_of : (past : List Moment) (i : ℕ) → OfWire past → Drops past i → Ends past i
ends_of past i w (drops_by_reset serial earlier got own value a r) = ends_by_reset serial earlier got own value a r
ends_of past i w (drops_by_state serial earlier got own a t) = ends_by_state serial earlier got own a t
ends_of past i w (drops_by_block serial earlier got d) = ends_by_status serial earlier got (done_now serial i earlier (subst OfWire got w) d)
ends_of past i w (drops_by_sight generation earlier seen l) = ends_by_sight generation earlier seen l

drop_ends : (m : Moment) (past : List Moment) (i : ℕ) → OfWire past → DropAt i m past → EndsAt i m past
drop_ends (said (notes.Drop j n)) past i w d = λ same. ends_of (turn_of past) i (of_turn past w) (d same (record { serials = w.serials; sent = w.sent }))
drop_ends (said note) past i w d = tt
drop_ends (asked line event) past i w d = tt

all_ends : (past : List Moment) (i : ℕ) → OfWire past → AllDrops i past → EachMoment (EndsAt i) past
all_ends [] i w h = tt
all_ends (m ∷ past) i w h = let b = before_it m past w in (drop_ends m past i b h.0, all_ends past i b h.1)

-- ---- in every run
of_wire : (past ms : List Moment) (w : WorldState) → Stands past w → map said w.fresh ++ past ≡ ms → OfWire ms
of_wire past ms w h e =
    let laws : IsOfWire ms = subst IsOfWire e (laws_of past w h) in
    let is : h.wire.past ≡ ms = h.is.past_is ∙ e in
    record {
      serials = laws.serials;
      judged = laws.judged;
      answered = laws.answered;
      sent = laws.sent;
      moments = subst WireMoments is (wire_moments h.wire h.reached);
      fair = subst (λ x. (terms x).injects 0 ≡ false) is h.is.fair;
    }

pub ends_law : Always AreEnds
ends_law = record {
  after_lines = λ line run r u v d i b calm.
      let k = sound_after fitting_law own_fitting_law line run run.entries r.few r.short r.entries r.lines in
      let x = of_wire k.past (history_of line run) (after (beginning run) run.entries).world k.sound.stands k.is in
      all_ends (history_of line run) i x (drops_after line run r i (subst (λ m. i < m) (count_after run run.entries) b));
  between = λ line run r u v d next most told m i b calm.
      let s = after (beginning run) run.entries in
      let w = (after_all told (begun s)).world in
      let now = map said w.fresh ++ asked next (more_deliveries most) ∷ history_of line run in
      let k = stands_between (Guarded run.ready) (guarded_carried run.ready) line run (ready_known line run) (λ j c. first_guarded line j run.initiators run.ready c) r next most told m in
      let x = of_wire k.past now w k.sound.stands k.is in
      all_ends now i x (drops_between line run r i (subst (λ m. i < m) (count_after run run.entries) (subst (λ m. i < m) (count_between told s) b)) next most told m);
}
