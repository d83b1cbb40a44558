-- What each line of `tasks` brings, in the words of the laws, and what its world counts behind it.
use Rattle.sbp_world.proofs.Words.Std.{if◌then◌else◌, is_some, reverse, ◌≡◌, ◌∙◌, refl, sym, ap, subst, ℕ, suc, ◌+◌, ◌^◌, ◌<◌, ◌-◌, nat_lt, Bool, true, false, List, [], ◌∷◌, ◌++◌, length, map, Option, Some, None}
use Rattle.sbp_world.proofs.Words.Wire.{flying, found_sent, is_flying, Moment, asked, said, Terms, terms, Event, Note, OutboxState, Request, find, lists_weight, no_packet}
use Rattle.rbc_disk.specs.Disk.{Disk}
use Rattle.rbc_disk.specs.Runs.{Told}
use Rattle.sbp_journal.specs.declared.event.Event.TheVariants as events
use Rattle.sbp_journal.specs.declared.note.Note.TheVariants as notes
use Rattle.sbp_world.proofs.Words.Laws.{AreDeliveries, BringsLine, Either, IsDelivery, IsTurnOf, SettlesWithin, flies, initiators, is_under_way, law_refused, law_repeats, lowest_in_flight, shares}
use Rattle.sbp_world.proofs.Words.World.{budget, initiator_at, first_told, is_in_flight, is_settled, lowest, may_repeat, BytesTold, IsLine, WorldState, without_notes}
use Rattle.sbp_world.proofs.Common.{and_second}
use Rattle.sbp_world.proofs.FitInitiator.Law.{fitting_law as own_fitting_law}
use Rattle.sbp_world.proofs.Wire.Arrivals.{IsTarget}
use Rattle.sbp_world.proofs.Wire.Begun.{NoneBegins}
use Rattle.sbp_world.proofs.Wire.Brings.{brings_if, flies_here, found_here, lapse_brings, left_of, lose_brings, lowest_here, many_bring, many_settle, repeats_here, some_sent}
use Rattle.sbp_world.proofs.Wire.CommandBytes.{AreTold}
use Rattle.sbp_world.proofs.Wire.Counted.{most_share}
use Rattle.sbp_world.proofs.Wire.Entries.{act_none, counts_settle, none_back, none_by, own_aims}
use Rattle.sbp_world.proofs.Wire.LineCounts.{acts_balance, loses_balance, more_balance, refuses, settles_by}
use Rattle.sbp_world.proofs.Wire.Lowest.{AreMany, none_yet, one_more}
use Rattle.sbp_world.proofs.Wire.Sound.{first_fits, first_flies}
use Rattle.sbp_world.proofs.Wire.Turns.{Delivered}
use Rattle.sbp_world.specs.Packets as packets
use Rattle.task_world.specs.Delivering.{delivered}
use Rattle.task_world.specs.Lines.{MayTellIn, happens_to, is_task_line}
use Rattle.task_world.specs.Packets.{delivered_if, expires, timed_out, timeout_line, timeout_of}
use Rattle.task_world.specs.Settling.{AreUpTo, MayAll, MayAt, MayNext, after_all, delivered_at, delivered_next, settled}
use Rattle.task_world.specs.Worlds.{TaskScene, TaskWorldState, begun, world_of}
use Rattle.task_world.proofs.Fit.Law.{fitting_law}
use Rattle.task_world.proofs.Wire.Counts.{Counts, delivers_counts, times_out_counts}
use Rattle.task_world.proofs.Wire.Delivered.{SoundScene}
use Rattle.task_world.proofs.Wire.Expired.{SoundWorld}
use Rattle.task_world.proofs.Wire.Lines.{next_heard, opens}
use Rattle.task_world.proofs.Wire.Told.{delivers, ends, plain_left, same_expiry}

-- ---- one packet
-- a packet that is kept is delivered to its node
kept_delivers : {past : List Moment} {lines : ℕ} (s : TaskScene) (sound : SoundScene past lines s) (serial : ℕ) (again : Bool) (told : Option Told) → BytesTold told → is_some (found_sent serial s.scene.world.store.kept) ≡ true → Delivered serial s.scene.world.fresh (delivered serial again told s).scene.world.fresh
kept_delivers s sound serial again told fits e =
    let f = some_sent (found_sent serial s.scene.world.store.kept) e in delivers s sound serial told fits f.0 f.1 again

module _ {past : List Moment} {lines : ℕ} (s : TaskScene) (sound : SoundScene past lines s) (none : s.scene.world.fresh ≡ []) (line serial : ℕ) where
  abbrev t : Terms
  t = terms sound.own.stands.wire.past

  delivers_if : (again b : Bool) (told : List (Option Told)) → AreTold told → (b ≡ true → is_some (found_sent serial s.scene.world.store.kept) ≡ true) → Either b (IsDelivery serial (reverse (delivered_if b line serial again told s).scene.world.fresh)) (reverse (delivered_if b line serial again told s).scene.world.fresh ≡ law_refused line 11)
  delivers_if again true told fits found =
      brings_if line serial true (delivered serial again (first_told told) s).scene.world s.scene.world none (λ e. kept_delivers s sound serial again (first_told told) (first_fits told fits) (found refl))
  delivers_if again false told fits found = brings_if line serial false s.scene.world s.scene.world none (λ e. cc)

  deliver_brings : (told : List (Option Told)) → AreTold told → let new = reverse (delivered_if (is_in_flight serial s.scene.world) line serial false told s).scene.world.fresh in Either (flies (t.flight serial)) (IsDelivery serial new) (new ≡ law_refused line 11)
  deliver_brings told fits =
      let new = reverse (delivered_if (is_in_flight serial s.scene.world) line serial false told s).scene.world.fresh in
      subst (λ b. Either b (IsDelivery serial new) (new ≡ law_refused line 11)) (flies_here s.scene.world sound.own.stands serial)
      (delivers_if false (is_in_flight serial s.scene.world) told fits (found_here s.scene.world sound.own.stands serial))

  repeat_brings : (told : List (Option Told)) → AreTold told → let new = reverse (delivered_if (may_repeat serial s.scene.world) line serial true told s).scene.world.fresh in Either (law_repeats t serial) (IsDelivery serial new) (new ≡ law_refused line 11)
  repeat_brings told fits =
      let new = reverse (delivered_if (may_repeat serial s.scene.world) line serial true told s).scene.world.fresh in
      subst (λ b. Either b (IsDelivery serial new) (new ≡ law_refused line 11)) (repeats_here s.scene.world sound.own.stands serial)
      (delivers_if true (may_repeat serial s.scene.world) told fits (and_second (nat_lt (s.scene.world.store.last - 1024) serial) (is_some (found_sent serial s.scene.world.store.kept))))

-- ---- a time-out
module _ {past : List Moment} {lines : ℕ} (w : TaskWorldState) (sound : SoundWorld past lines w) (none : w.world.fresh ≡ []) (line serial : ℕ) where
  abbrev aimed : (i : ℕ) → i < length w.world.initiators → IsTarget w.world (suc i) (initiator_at w.world i).target
  aimed i inside = own_aims own_fitting_law w.world sound.own i inside

  abbrev left : Request → Bool × (OutboxState × WorldState)
  left request = plain_left (expires request w)

  timed_is : (node : ℕ) (r : Bool × (OutboxState × TaskWorldState)) → packets.timed_out line serial node (plain_left r) ≡ (timed_out line serial node r).world
  timed_is node (true, (outbox, x)) = refl
  timed_is node (false, (outbox, x)) = refl

  same_line : (o : Option Request) → left_of w.world sound.own.stands line serial aimed none left (λ request. same_expiry w sound request) (λ request. ends w sound request) o ≡ (timeout_of o line serial w).world
  same_line None = refl
  same_line (Some request) = timed_is request.node (expires request w)

  abbrev Brings : WorldState → Type 0
  Brings new = Either (is_under_way (terms sound.own.stands.wire.past) serial) (IsTurnOf (notes.TimedOut serial) (reverse new.fresh)) (reverse new.fresh ≡ law_refused line 11)

  timeout_brings : Brings (timeout_line line serial w).world
  unfolding timeout_line
  timeout_brings =
      subst Brings (same_line (find w.world.requests serial))
      (lapse_brings w.world sound.own.stands line serial aimed none left (λ request. same_expiry w sound request) (λ request. ends w sound request))

-- ---- deliveries one after the other
module _ {past : List Moment} {lines : ℕ} (start : TaskScene) (sound : SoundScene past lines start) (none : start.scene.world.fresh ≡ []) (once : (terms past).repeats ≡ false) where
  record Ran (told : List (Option Told)) : Type 0 where
    sound_now : SoundScene past lines (after_all told start)
    many : AreMany past (length told) (after_all told start).scene.world.fresh

  next_by : (told : Option Told) → BytesTold told → (before : List (Option Told)) → Ran before → (o : Option ℕ) → lowest (after_all before start).scene.world ≡ o → MayAt o told (after_all before start) → SoundScene past lines (delivered_at o told (after_all before start)) × AreMany past (suc (length before)) (delivered_at o told (after_all before start)).scene.world.fresh
  next_by told fits before r None e may = absurd may
  next_by told fits before r (Some serial) e may =
      let s = after_all before start in
      let h = r.sound_now.own.stands in
      let low : lowest_in_flight (terms (map said s.scene.world.fresh ++ past)) ≡ Some serial =
      ap (λ ms. lowest_in_flight (terms ms)) (sym h.is.past_is) ∙ sym (lowest_here s.scene.world h) ∙ e in
      let flown : is_flying serial s.scene.world.store.kept ≡ true = first_flies (flying s.scene.world.store.kept) serial e in (
        next_heard fitting_law own_fitting_law told fits s r.sound_now once (Some serial) e,
        one_more past (length before) serial s.scene.world.fresh (delivered serial false told s).scene.world.fresh r.many low (kept_delivers s r.sound_now serial false told fits (found_here s.scene.world h serial flown)),
      )

  ran : (told : List (Option Told)) → AreTold told → MayAll told start → Ran told
  unfolding delivered_next MayNext
  ran [] fits may = record { sound_now = sound; many = none_yet past start.scene.world.fresh none }
  ran (told ∷ before) fits may =
      let n = next_by told fits.0 before (ran before fits.1 may.1) (lowest (after_all before start).scene.world) refl may.0 in
      record { sound_now = n.0; many = n.1 }

  up_to_brings : (most : ℕ) (told : List (Option Told)) → AreTold told → AreUpTo most told start → AreDeliveries past most (reverse (after_all told start).scene.world.fresh)
  up_to_brings most told fits may =
      let r = ran told fits may.may in
      many_bring (after_all told start).scene.world r.sound_now.own.stands most (length told) r.many may.few may.all

  settle_brings : (most : ℕ) (told : List (Option Told)) → AreTold told → AreUpTo most told start → SettlesWithin most past (reverse (settled told start).scene.world.fresh)
  settle_brings most told fits may =
      let r = ran told fits may.may in
      many_settle (after_all told start).scene.world r.sound_now.own.stands most (length told) r.many may.few may.all

  -- and what is counted behind them
  counts_at : (most : ℕ) (told : Option Told) → BytesTold told → (before : List (Option Told)) → Ran before → Counts past most (after_all before start).scene.world → (o : Option ℕ) → Counts past most (delivered_at o told (after_all before start)).scene.world
  counts_at most told fits before r c None = c
  counts_at most told fits before r c (Some serial) = delivers_counts past most (after_all before start) r.sound_now serial false told fits c

  pub all_counts : (most : ℕ) (told : List (Option Told)) → AreTold told → MayAll told start → Counts past most start.scene.world → Counts past most (after_all told start).scene.world
  unfolding delivered_next MayNext
  all_counts most [] fits may c = c
  all_counts most (told ∷ before) fits may c =
      counts_at most told fits.0 before (ran before fits.1 may.1) (all_counts most before fits.1 may.1 c) (lowest (after_all before start).scene.world)

-- a delivery, or a refusal
delivered_counts : {before : List Moment} {lines : ℕ} (past : List Moment) (most : ℕ) (s : TaskScene) → SoundScene before lines s → (line serial : ℕ) (again b : Bool) (told : List (Option Told)) → AreTold told → Counts past most s.scene.world → Counts past most (delivered_if b line serial again told s).scene.world
delivered_counts past most s sound line serial again true told t c = delivers_counts past most s sound serial again (first_told told) (first_fits told t) c
delivered_counts past most s sound line serial again false told t c = refuses past most line no_packet s.scene.world c

-- ---- a line
module _ {past : List Moment} {lines : ℕ} (disks : List Disk) (s : TaskScene) (sound : SoundScene past lines s) where
  abbrev before : List Moment
  before = map said s.scene.world.fresh ++ past

  abbrev behind : ℕ → Event → List (Option Told) → List Note
  behind line event told = (happens_to line event told (begun s)).scene.world.fresh

  module _ (counted : length s.scene.world.initiators ≡ initiators before) (weighs : lists_weight s.scene.world.loads ≡ shares before before) where
    pub brings_line : (line : ℕ) (event : Event) (told : List (Option Told)) → is_task_line event ≡ true → AreTold told → MayTellIn event told (begun s) → BringsLine disks before line event (reverse (behind line event told))
    brings_line line (events.Begin n ready) told a t may = cc
    brings_line line (events.Act i action) told a t may = tt
    brings_line line (events.Deliver serial) told a t may =
        let o = opens line (events.Deliver serial) s refl sound in
        let new = reverse (behind line (events.Deliver serial) told) in
        subst (λ p. Either (flies ((terms p).flight serial)) (IsDelivery serial new) (new ≡ law_refused line 11)) o.own.stands.is.past_is
        (deliver_brings (begun s) o refl line serial told t)
    brings_line line (events.Repeat serial) told a t may =
        let o = opens line (events.Repeat serial) s refl sound in
        let new = reverse (behind line (events.Repeat serial) told) in
        subst (λ p. Either (law_repeats (terms p) serial) (IsDelivery serial new) (new ≡ law_refused line 11)) o.own.stands.is.past_is
        (repeat_brings (begun s) o refl line serial told t)
    brings_line line (events.Lose serial) told a t may =
        let o = opens line (events.Lose serial) s refl sound in
        let new = reverse (behind line (events.Lose serial) told) in
        subst (λ p. new ≡ (if flies ((terms p).flight serial) then notes.Lost serial ∷ [] else law_refused line 11)) o.own.stands.is.past_is
        (lose_brings (without_notes s.scene.world) o.own.stands line serial refl)
    brings_line line (events.Timeout serial) told a t may =
        let o = opens line (events.Timeout serial) s refl sound in
        let new = reverse (behind line (events.Timeout serial) told) in
        subst (λ p. Either (is_under_way (terms p) serial) (IsTurnOf (notes.TimedOut serial) new) (new ≡ law_refused line 11)) o.own.stands.is.past_is
        (timeout_brings (world_of (begun s)) o refl line serial)
    brings_line line (events.Step count) told a t may =
        up_to_brings (begun s) (opens line (events.Step count) s refl sound) refl refl count told t may
    brings_line line events.Settle told a t may =
        subst (λ most. SettlesWithin most (asked line events.Settle ∷ before) (reverse (behind line events.Settle told))) (counts_settle s.scene.world sound.own.stands counted weighs line)
        (settle_brings (begun s) (opens line events.Settle s refl sound) refl refl (budget (begun s).scene.world) told t may)
    brings_line line (events.Reset physical) told a t may = cc
    brings_line line (events.See node) told a t may = cc
    brings_line line events.Tick told a t may = cc
    brings_line line (events.Inject i bytes) told a t may = cc
    brings_line line (events.Key unit key) told a t may = cc

    pub begins_none : (line : ℕ) (event : Event) (told : List (Option Told)) → is_task_line event ≡ true → AreTold told → MayTellIn event told (begun s) → NoneBegins (behind line event told)
    begins_none line (events.Act i action) told a t may = act_none line i action (without_notes s.scene.world) refl
    begins_none line (events.Begin n ready) told a t may = cc
    begins_none line event told a t may =
        none_back (behind line event told)
        (none_by disks before line event (reverse (behind line event told)) tt (brings_line line event told a t may))

  -- what its world counts
  module _ (most : ℕ) (small : most + most_share < 2 ^ 64) where
    abbrev CountsMore : ℕ → Event → List (Option Told) → Type 0
    CountsMore line event told = Counts (asked line event ∷ before) (most + most_share) (happens_to line event told (begun s)).scene.world

    abbrev asked_now : ℕ → Event → List Moment
    asked_now line event = asked line event ∷ before

    pub counts_line : (line : ℕ) (event : Event) (told : List (Option Told)) → is_task_line event ≡ true → IsLine event (length s.scene.world.initiators) → AreTold told → MayTellIn event told (begun s) → Counts (asked_now line event) most (begun s).scene.world → CountsMore line event told
    counts_line line (events.Begin n ready) told a q t may c = cc
    counts_line line (events.Act i action) told a q t may c =
        acts_balance (asked_now line (events.Act i action)) most small line i action (without_notes s.scene.world) q.0 q.2 refl c
    counts_line line (events.Deliver serial) told a q t may c =
        more_balance (asked_now line (events.Deliver serial)) most small _
        (delivered_counts (asked_now line (events.Deliver serial)) most (begun s) (opens line (events.Deliver serial) s refl sound) line serial false (is_in_flight serial s.scene.world) told t c)
    counts_line line (events.Repeat serial) told a q t may c =
        more_balance (asked_now line (events.Repeat serial)) most small _
        (delivered_counts (asked_now line (events.Repeat serial)) most (begun s) (opens line (events.Repeat serial) s refl sound) line serial true (may_repeat serial (begun s).scene.world) told t c)
    counts_line line (events.Lose serial) told a q t may c =
        more_balance (asked_now line (events.Lose serial)) most small _ (loses_balance (asked_now line (events.Lose serial)) most line serial (without_notes s.scene.world) c)
    counts_line line (events.Timeout serial) told a q t may c =
        more_balance (asked_now line (events.Timeout serial)) most small _
        (times_out_counts (asked_now line (events.Timeout serial)) most (world_of (begun s)) (opens line (events.Timeout serial) s refl sound) line serial c)
    counts_line line (events.Step count) told a q t may c =
        more_balance (asked_now line (events.Step count)) most small _ (all_counts (begun s) (opens line (events.Step count) s refl sound) refl refl most told t may.may c)
    counts_line line events.Settle told a q t may c =
        more_balance (asked_now line events.Settle) most small _
        (settles_by (asked_now line events.Settle) most (is_settled (after_all told (begun s)).scene.world) (after_all told (begun s)).scene (all_counts (begun s) (opens line events.Settle s refl sound) refl refl most told t may.may c))
    counts_line line (events.Reset physical) told a q t may c = cc
    counts_line line (events.See node) told a q t may c = cc
    counts_line line events.Tick told a q t may c = cc
    counts_line line (events.Inject i bytes) told a q t may c = cc
    counts_line line (events.Key unit key) told a q t may c = cc
