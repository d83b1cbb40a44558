-- In every run the write of an operation of management that an initiator has under way brings the address of the management ORB in its place to MANAGEMENT_AGENT: it was sent in the line of such an action.
use Rattle.sbp_world.proofs.Words.Std.{arith, ◌≡◌, ◌∙◌, refl, sym, ap, subst, ℕ, suc, ◌%◌, ◌<◌, ◌≤◌, ◌++◌, ◌&&◌, ◌==◌, big_bytes, nat_eq, nat_lt, not, Bool, true, false, cond, List, [], ◌∷◌, length, map, Option, Some, None, nat_tests, same_Some}
use Rattle.sbp_world.proofs.Words.Wire.{Action, Event, Moment, Part, Sending, SerialsCount, asked, management_agent, part_of, request, response, said, start_at, start_serves, terms}
use Rattle.sbp_world.proofs.Words.Initiator.{start_of}
use Rattle.sbp_world.proofs.Words.Laws.{EachMoment, Host, Underway, access_in_bytes, event_of, host_at, is_management, operation_of, present_list}
use Rattle.sbp_world.proofs.Words.World.{IsOwnWrite, WritesManaged, after, after_all, asked_in, beginning, begun, history_of, managed_write, manages, more_deliveries, own_action}
use Rattle.bus_memory.specs.declared.window.Window.TheVariants as windows
use Rattle.sbp_journal.specs.Addresses.{management_address}
use Rattle.sbp_journal.specs.Transactions.{no_packet}
use Rattle.sbp_journal.specs.declared.event.Event.TheVariants as events
use Rattle.sbp_journal.specs.declared.note.Note.TheVariants as notes
use Rattle.sbp_journal.specs.declared.operation.Operation.{Operation}
use Rattle.sbp_laws.specs.Hosts.{known_host}
use Rattle.sbp_laws.specs.Hosts as laws
use Rattle.sbp_world.specs.Completing.EndsAimed.{AimedLaw, IsAimed}
use Rattle.sbp_world.proofs.Common.{delivers, itself, none_is, untrue}
use Rattle.sbp_world.proofs.Completing.LabelsPlaces.{holding_everywhere}
use Rattle.sbp_world.proofs.Hosts.Carried.{between_runs, of_runs}
use Rattle.sbp_world.proofs.Hosts.Carries.{IsNoAct}
use Rattle.sbp_world.proofs.Hosts.Cores.{wire_is}
use Rattle.sbp_world.proofs.Hosts.Held.{sent_new}
use Rattle.sbp_world.proofs.Hosts.Remaining.{remains, serials_behind}
use Rattle.sbp_world.proofs.Hosts.SentMoments.{sent_below, serials_from}
use Rattle.sbp_world.proofs.Hosts.Runs.{count_after, count_between}
use Rattle.sbp_world.proofs.Lists.Clauses.{open_lists_law}
use Rattle.sbp_world.proofs.Lists.LiveAway.{begins_none, no_act, sent_goes}
use Rattle.sbp_world.proofs.Lists.ListsProved.{closing}
use Rattle.sbp_world.proofs.Lists.ManageFirsts.{Goes, begun_first, line_first, note_first, other_first, same_goes}
use Rattle.sbp_world.proofs.Lists.ManageLines.{eight_at, first_wrote}
use Rattle.sbp_world.proofs.Lists.ManageProved.{one_managed_law}
use Rattle.sbp_world.proofs.Lists.ManageWrites.{HasPlace, WroteAt, Wrote, spells_known, wrote_carried}
use Rattle.sbp_world.proofs.Lists.RomHeld.{rom_law}
use Rattle.sbp_world.proofs.Lists.StatusLogins.{each_there}
use Rattle.sbp_world.proofs.Pointers.Written.{older_asked, still_asked}
use Rattle.sbp_world.proofs.Wire.Starts.{laws_of}

-- ---- the line in which it was sent
pub record WasBegun (past : List Moment) (i : ℕ) (u : Underway) : Type 0 where
  pub later : List Moment
  pub before : List Moment
  pub generation : ℕ
  pub to : ℕ
  pub bytes : List ℕ
  pub is : later ++ said (notes.Sent u.first generation (suc i) to bytes) ∷ before ≡ past
  pub honest : (terms before).injected u.first ≡ false
  pub action : Action
  pub line : event_of before ≡ Some (events.Act i action)
  pub managing : manages (operation_of action) ≡ true
  pub place : u.place ≡ (host_at before i).writes % 2

-- an action of the initiator, or none
data IsActing (i : ℕ) (event : Option Event) : Type 0 where
  acts : (action : Action) → event ≡ Some (events.Act i action) → IsActing i event
  others : IsNoAct i event → IsActing i event

acting_of : (i : ℕ) (event : Option Event) → IsActing i event
acting_of i (Some (events.Act j action)) = by (nat_eq i j) refl
  where
    by : (b : Bool) → nat_eq i j ≡ b → IsActing i (Some (events.Act j action))
    by true e = let same : j ≡ i = grind (arith, nat_tests) in acts action (ap (λ n. Some (events.Act n action)) same)
    by false e = others e
acting_of i None = others tt
acting_of i (Some (events.Begin initiators ready)) = others tt
acting_of i (Some (events.Reset physical)) = others tt
acting_of i (Some (events.See node)) = others tt
acting_of i (Some (events.Deliver packet)) = others tt
acting_of i (Some (events.Repeat packet)) = others tt
acting_of i (Some (events.Lose packet)) = others tt
acting_of i (Some (events.Timeout packet)) = others tt
acting_of i (Some (events.Step count)) = others tt
acting_of i (Some events.Settle) = others tt
acting_of i (Some events.Tick) = others tt
acting_of i (Some (events.Inject initiator bytes)) = others tt
acting_of i (Some (events.Key unit key)) = others tt

module _ (i : ℕ) where
  abbrev AreBegun : List Moment → Type 0
  AreBegun past = (u : Underway) → (host_at past i).operation ≡ Some u → is_management u.operation ≡ true → WasBegun past i u

  goes_begun : (m : Moment) (past : List Moment) → Goes (host_at past i) (host_at (m ∷ past) i) → AreBegun past → AreBegun (m ∷ past)
  goes_begun m past g h u e manage =
      let x = g.on u e in
      let b = h x.was x.is (ap is_management x.operation ∙ manage) in
      record {
        later = m ∷ b.later;
        before = b.before;
        generation = b.generation;
        to = b.to;
        bytes = b.bytes;
        is = ap (λ n. m ∷ (b.later ++ said (notes.Sent n b.generation (suc i) b.to b.bytes) ∷ b.before)) (sym x.first) ∙ ap (λ (xs : List Moment). m ∷ xs) b.is;
        honest = ap (terms b.before).injected (sym x.first) ∙ b.honest;
        action = b.action;
        line = b.line;
        managing = b.managing;
        place = sym x.place ∙ b.place;
      }

  -- ---- a packet is sent
  module _ (serial generation to : ℕ) (bytes : List ℕ) (past : List Moment) (h : AreBegun past) where
    abbrev sent : Moment
    sent = said (notes.Sent serial generation (suc i) to bytes)

    abbrev Now : Type 0
    Now = AreBegun (sent ∷ past)

    host_by : (b : Bool) (x : Host) → b ≡ false → Goes (host_at past i) (cond b x (host_at past i))
    host_by true x e = untrue (sym e)
    host_by false x e = same_goes (host_at past i) (host_at past i) refl

    -- one that was injected
    injected_on : (terms past).injected serial ≡ true → Now
    injected_on e =
        goes_begun sent past
        (host_by (nat_eq (suc i) (suc i) && not ((known_host past i).wire.injected serial)) (laws.sent_as (part_of bytes) (event_of past) i (present_list past i) serial (host_at past i))
        (both_false (nat_eq (suc i) (suc i)) ((known_host past i).wire.injected serial) (ap (λ t. t.injected serial) (wire_is past i) ∙ e))) h
      where
        both_false : (a b : Bool) → b ≡ true → (a && not b) ≡ false
        both_false true true e = refl
        both_false true false e = untrue e
        both_false false b e = refl

    module _ (honest : (terms past).injected serial ≡ false) (action : Action) (line : event_of past ≡ Some (events.Act i action)) where
      begins_as : (operation : Operation) → operation_of action ≡ Some operation → (label : ℕ) (kind : _) → part_of bytes ≡ request label kind → Now
      begins_as operation o label kind part u e manage =
          let b = begun_first action label kind serial generation to bytes past i line part honest operation u o e in
          record {
            later = [];
            before = past;
            generation = generation;
            to = to;
            bytes = bytes;
            is = ap (λ n. said (notes.Sent n generation (suc i) to bytes) ∷ past) b.0;
            honest = ap (terms past).injected b.0 ∙ honest;
            action = action;
            line = line;
            managing = ap manages o ∙ ap is_management (sym b.1.1) ∙ manage;
            place = b.1.0;
          }

      host_is : (part : Part) → part_of bytes ≡ part → laws.sent_as part (event_of past) i (present_list past i) serial (host_at past i) ≡ host_at past i → Goes (host_at past i) (host_at (sent ∷ past) i)
      host_is part e f =
          same_goes (host_at past i) (host_at (sent ∷ past) i)
          (picked (nat_eq (suc i) (suc i) && not ((known_host past i).wire.injected serial)) (laws.sent_as (part_of bytes) (event_of past) i (present_list past i) serial (host_at past i)) (ap (λ p. laws.sent_as p (event_of past) i (present_list past i) serial (host_at past i)) e ∙ f))
        where
          picked : (b : Bool) (x : Host) → x ≡ host_at past i → (cond b x (host_at past i)).operation ≡ (host_at past i).operation
          picked true x g = ap (λ (k : Host). k.operation) g
          picked false x g = refl

      by_part : (operation : Operation) → operation_of action ≡ Some operation → (part : Part) → part_of bytes ≡ part → Now
      by_part operation o (request label kind) e = begins_as operation o label kind e
      by_part operation o (response label kind) e = goes_begun sent past (host_is (response label kind) e refl) h
      by_part operation o no_packet e = goes_begun sent past (host_is no_packet e refl) h

      by_operation : (found : Option Operation) → operation_of action ≡ found → Now
      by_operation None o = goes_begun sent past (sent_goes serial generation (suc i) to bytes past i (begins_none action line o)) h
      by_operation (Some operation) o = by_part operation o (part_of bytes) refl

    by_acting : IsActing i (event_of past) → (terms past).injected serial ≡ false → Now
    by_acting (acts action line) honest = by_operation honest action line (operation_of action) refl
    by_acting (others n) honest = goes_begun sent past (sent_goes serial generation (suc i) to bytes past i (no_act n)) h

    pub sent_begun : Now
    sent_begun = by ((terms past).injected serial) refl
      where
        by : (b : Bool) → (terms past).injected serial ≡ b → Now
        by true e = injected_on e
        by false e = by_acting (acting_of i (event_of past)) e

  -- ---- each moment
  begin_goes : (b : Bool) (x host : Host) → x.operation ≡ None → Goes host (cond b x host)
  begin_goes true x host e = record { on = λ now f. none_is now (sym e ∙ f) }
  begin_goes false x host e = same_goes host host refl

  all_sent : (serial generation from to : ℕ) (bytes : List ℕ) (past : List Moment) → AreBegun past → AreBegun (said (notes.Sent serial generation from to bytes) ∷ past)
  all_sent serial generation from to bytes past h = by (nat_eq from (suc i)) refl
    where
      by : (b : Bool) → nat_eq from (suc i) ≡ b → AreBegun (said (notes.Sent serial generation from to bytes) ∷ past)
      by true e =
          let same : suc i ≡ from = grind (arith, nat_tests) in
          subst (λ n. AreBegun (said (notes.Sent serial generation n to bytes) ∷ past)) same (sent_begun serial generation to bytes past h)
      by false e = goes_begun (said (notes.Sent serial generation from to bytes)) past (other_first serial generation from to bytes past i e) h

  all_begun : (past : List Moment) → AreBegun past
  all_begun [] = λ u e manage. none_is u e
  all_begun (asked line event ∷ past) = goes_begun (asked line event) past (line_first line event past i) (all_begun past)
  all_begun (said (notes.Begin initiators ready) ∷ past) = goes_begun (said (notes.Begin initiators ready)) past (begin_goes (ready && nat_lt i initiators) (laws.ready_host i) (host_at past i) refl) (all_begun past)
  all_begun (said (notes.Sent serial generation from to bytes) ∷ past) = all_sent serial generation from to bytes past (all_begun past)
  all_begun (said note ∷ past) = goes_begun (said note) past (note_first note past i refl) (all_begun past)

-- ---- what it asks for stays
module _ (i r : ℕ) where
  asked_one : (m : Moment) (past : List Moment) → SerialsCount (m ∷ past) → r ≤ (terms past).count → asked_in (m ∷ past) r i ≡ asked_in past r i
  asked_one (said (notes.Sent serial generation from to bytes)) past c l = older_asked i serial generation from to bytes past r (let s = c.0 in grind (arith, nat_tests))
  asked_one (said note) past c l = still_asked (said note) past i r refl
  asked_one (asked line event) past c l = still_asked (asked line event) past i r refl

  asked_later : (later past : List Moment) → SerialsCount (later ++ past) → r ≤ (terms past).count → asked_in (later ++ past) r i ≡ asked_in past r i
  asked_later [] past c l = refl
  asked_later (m ∷ later) past c l =
      let back = serials_behind m (later ++ past) c in
      let grow = (remains later past back).count in
      asked_one m (later ++ past) c (omega (arith, l, grow)) ∙ asked_later later past back l

-- ---- at a place
module _ (past : List Moment) (i : ℕ) (u : Underway) (b : WasBegun past i u) (counts : SerialsCount past) (own : IsOwnWrite past i u.first) (writes : WritesManaged past i) (wrote : EachMoment (WroteAt i) past) where
  abbrev q : Sending
  q = record { generation = b.generation; from = suc i; to = b.to; bytes = b.bytes; injected = (terms b.before).injected u.first }

  abbrev note : Moment
  note = said (notes.Sent u.first b.generation (suc i) b.to b.bytes)

  abbrev now : List Moment
  now = note ∷ b.before

  wrote_it : HasPlace b.before i b.bytes
  wrote_it = each_there (WroteAt i) b.later note b.before (subst (EachMoment (WroteAt i)) (sym b.is) wrote) refl b.honest b.action b.line b.managing

  counts_on : SerialsCount (b.later ++ now)
  counts_on = subst SerialsCount (sym b.is) counts

  sent_then : (terms now).sent u.first ≡ Some q
  sent_then = sent_new u.first q (terms b.before)

  low : u.first ≤ (terms now).count
  low = sent_below now u.first q (serials_from b.later now counts_on) sent_then

  sent_all : (terms past).sent u.first ≡ Some q
  sent_all = ap (λ ms. (terms ms).sent u.first) (sym b.is) ∙ ((remains b.later now counts_on).sent u.first low ∙ sent_then)

  same : q ≡ own.packet
  same = same_Some q own.packet (sym sent_all ∙ own.sent)

  if_itself : {A : Type 0} (n : ℕ) (x y : A) → cond (nat_eq n n) x y ≡ x
  if_itself n x y = ap (λ c. cond c x y) (itself n)

  asked_then : asked_in now u.first i ≡ Some b.action
  asked_then =
      if_itself u.first (cond (nat_eq i i) (own_action i (event_of b.before)) (asked_in b.before u.first i)) (asked_in b.before u.first i)
      ∙ (if_itself i (own_action i (event_of b.before)) (asked_in b.before u.first i) ∙ (ap (own_action i) b.line ∙ if_itself i (Some b.action) None))

  asked_all : asked_in past u.first i ≡ Some b.action
  asked_all = ap (λ ms. asked_in ms u.first i) (sym b.is) ∙ (asked_later i u.first b.later now counts_on low ∙ asked_then)

  spelled : access_in_bytes own.packet.bytes ≡ Some (managed_write wrote_it.offset ((host_at b.before i).writes % 2))
  spelled = ap (λ (x : Sending). access_in_bytes x.bytes) (sym same) ∙ wrote_it.spelled

  offset : wrote_it.offset ≡ management_address
  offset = writes u.first own.packet b.action (managed_write wrote_it.offset ((host_at b.before i).writes % 2)) own.sent own.from_is own.honest asked_all b.managing spelled

  agent_there : start_at management_address ≡ management_agent
  unfolding start_at
  agent_there = refl

  eight_long : (x : ℕ) → (length (big_bytes 8 x) == 8) ≡ true
  eight_long x = refl

  aimed : IsAimed past i u.place u.first
  aimed =
      let access = managed_write wrote_it.offset ((host_at b.before i).writes % 2) in
      let at : start_at access.offset ≡ management_agent = ap start_at offset ∙ agent_there in
      record {
        packet = own.packet;
        sent = own.sent;
        for_place = record {
          from_is = own.from_is;
          to_is = own.to_is;
          access = access;
          spelled = spelled;
          at = at;
          serves = ap (λ s. start_serves s access) at ∙ eight_long (start_of (windows.Management ((host_at b.before i).writes % 2)));
          names =
              eight_at (start_of (windows.Management ((host_at b.before i).writes % 2))) (let x : (host_at b.before i).writes % 2 < 2 = omega arith in omega (arith, x))
              ∙ ap (λ n. start_of (windows.Management n)) (sym b.place);
        };
        honest = own.honest;
        current = own.current;
        label = own.label;
        part = own.part;
      }

-- ---- each run
pub aimed_law : AimedLaw
aimed_law = record {
  after_lines = λ line run r has small size tame i b own u e manage.
      let here = (after (beginning run) run.entries).world in
      let inside : i < run.initiators = subst (λ n. i < n) (count_after run run.entries) b in
      let so_far = closing.before open_lists_law line run r has small size tame in
      let h = holding_everywhere.after_lines line run r has small size in
      let past = history_of line run in
      aimed past i u (all_begun i past u e manage) (subst SerialsCount h.is (laws_of h.past here h.holds.sound.stands).serials)
      ((one_managed_law.after_lines line run r has small size so_far i inside own).busy u e manage).own (rom_law.after_lines line run r has small size i inside).writes
      (of_runs (Wrote run.ready) (wrote_carried run.ready) line run (spells_known line run) (λ j c. first_wrote line run.initiators run.ready j c) r i inside).kept;
  between = λ line run r has small size next most told m tame i b own u e manage.
      let here = after (beginning run) run.entries in
      let v = (after_all told (begun here)).world in
      let past = map said v.fresh ++ asked next (more_deliveries most) ∷ history_of line run in
      let inside : i < run.initiators = subst (λ n. i < n) (count_between told here ∙ count_after run run.entries) b in
      let so_far = closing.between open_lists_law line run r has small size next (more_deliveries most) (delivers most) told m tame in
      let h = holding_everywhere.between line run r has small size next most told m in
      aimed past i u (all_begun i past u e manage) (subst SerialsCount h.is (laws_of h.past v h.holds.sound.stands).serials)
      ((one_managed_law.between line run r has small size next most told m so_far i inside own).busy u e manage).own (rom_law.between line run r has small size next most told m i inside).writes
      (between_runs (Wrote run.ready) (wrote_carried run.ready) line run (spells_known line run) (λ j c. first_wrote line run.initiators run.ready j c) r next most told m i inside).kept;
}
