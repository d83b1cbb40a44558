-- As each packet is got in a run in which no initiator injected packets, or few logins were given, an answer to an agent brings of an initiator that injected none what the agent of its own place asked for, or
-- what begins elsewhere.
use Rattle.sbp_world.proofs.Common.{same_node}
use Rattle.sbp_world.proofs.Words.Std.{◌⊎◌, ◌≡◌, ◌∙◌, refl, sym, ap, subst, ◌<◌, ℕ, suc, Bool, false, cond, List, [], ◌∷◌, ◌++◌, map, Option, Some, None}
use Rattle.sbp_world.proofs.Words.Wire.{Moment, asked, said, Part, Sending, Transaction, between, part_of, request, response, Held, Terms, opened, terms, Event, Note}
use Rattle.sbp_world.proofs.Words.Target.{Disk}
use Rattle.sbp_world.proofs.Words.Laws.{Moved, moved_by, read_by, injectors, access_in, answer_in, answered_as, answered_at, answered_in, closed_by, packet_in, receiver_in, sender_in, Target, agent_at, for_agent, is_serial, over, purpose_of, target_at, EachMoment}
use Rattle.sbp_world.proofs.Words.World.{ready_logins, WorldState, serial_of, more_deliveries, OpenListsLaw, IsTameOrFew, AllElsewhere, IsOwnOrOther, is_main_of, main_moved, main_read, IsCalm, initiator_in, AreOwnAsGot, OwnAsGot, OwnAsGotLaw}
use Rattle.std.specs.Prelude.{◌&&◌}
use Rattle.sbp_journal.specs.Transactions.{no_packet}
use Rattle.sbp_journal.specs.declared.event.Event.TheVariants as events
use Rattle.sbp_journal.specs.declared.note.Note.TheVariants as notes
use Rattle.sbp_laws.specs.CarriedBytes.{bytes_in}
use Rattle.sbp_world.proofs.Agents.Management.Holding.{Holding}
use Rattle.sbp_world.proofs.Agents.Management.Still.{hist}
use Rattle.sbp_world.proofs.Lists.Calm.{calm_before}
use Rattle.sbp_world.proofs.Lists.Courses.{EveryPlace, Keeps, at_between, at_lines, more_than_one}
use Rattle.sbp_world.proofs.Lists.FedGots.{are_own_gots}
use Rattle.sbp_world.proofs.Lists.Gots.{Next, next, next_line, same_still}
use Rattle.sbp_world.proofs.Lists.Judging.{goes_next, grown as grown_by}
use Rattle.sbp_world.proofs.Lists.ListsProved.{closing}
use Rattle.sbp_world.proofs.Lists.LiveRuns.{goes_tame_or_few}
use Rattle.sbp_world.proofs.Lists.ManageSends.{opened_terms}
use Rattle.sbp_world.proofs.Lists.OrbWaits.{over_twice}
use Rattle.sbp_world.proofs.Lists.Quiet.{AllQuiet, IsQuiet}
use Rattle.sbp_world.proofs.Lists.Sites.{waiting}
use Rattle.sbp_world.proofs.Lists.StillRuns.{ground_everywhere}
use Rattle.sbp_world.proofs.Lists.StillTurns.{Ground, site_at}

-- ---- at a place
module _ (units ready : ℕ) (has : 0 < units) (start : List Disk) {past : List Moment} {lines : ℕ} (w : WorldState) (h : Holding units ready start past lines w) (q : Ground start (hist past w) w) (beside : IsTameOrFew (hist past w)) where
  own_here : (serial : ℕ) → AreOwnAsGot (injectors (hist past w)) start (hist past w) serial
  own_here serial place b side mine i calm waits to r other slot which closed purpose =
      let site = site_at start past w q in
      let x = waiting units ready has start w h site place b side mine waits in
      let same : initiator_in w place ≡ i = same_node (initiator_in w place) i (sym x.to ∙ to) in
      subst (λ j. IsOwnOrOther start (hist past w) j place slot serial) same
      (are_own_gots units ready has start w h site (q.lists beside) q.along place b x.is_open (subst (IsCalm (hist past w)) (sym same) calm) serial r other slot which closed purpose)

-- ---- as a line begins
pub held_same : (event : Event) (t : Terms) → (opened event t).held ≡ t.held
held_same (events.Reset physical) t = refl
held_same (events.Repeat serial) t = refl
held_same _ t = refl

module _ (start : List Disk) (line : ℕ) (event : Event) (past : List Moment) where
  abbrev here : List Moment
  here = asked line event ∷ past

  abbrev t : Terms
  t = terms past

  abbrev u : Terms
  u = terms here

  sent_same : u.sent ≡ t.sent
  sent_same = (opened_terms event t).sent

  held_is : u.held ≡ t.held
  held_is = held_same event t

  as_held : (part : Part) (sending : Sending) → answered_as part u sending ≡ answered_as part t sending
  as_held (response label kind) sending = ap (λ (f : Transaction → Held). closed_by (f (between sending sending.to sending.from label)) kind) held_is
  as_held (request label kind) sending = refl
  as_held no_packet sending = refl

  in_held : (sent : Option Sending) → answered_in u sent ≡ answered_in t sent
  in_held None = refl
  in_held (Some sending) = as_held (part_of sending.bytes) sending

  pub answered_same : (serial : ℕ) → answered_at u serial ≡ answered_at t serial
  answered_same serial = ap (λ (f : ℕ → Option Sending). answered_in u (f serial)) sent_same ∙ in_held (t.sent serial)

  -- what is read by it
  pub read_so : (i serial : ℕ) (own : Option ℕ) → read_by u i serial own ≡ read_by t i serial own
  read_so i serial None = refl
  read_so i serial (Some own) =
      ap (λ (f : ℕ → Option Sending). cond (is_serial (sender_in (f serial)) (suc i) && is_serial (receiver_in (f serial)) 0) (moved_by (access_in (packet_in (f own))) (bytes_in (answer_in (packet_in (f serial))))) []) sent_same

  pub read_same : (i serial : ℕ) → read_by u i serial (answered_at u serial) ≡ read_by t i serial (answered_at t serial)
  read_same i serial = ap (read_by u i serial) (answered_same serial) ∙ read_so i serial (answered_at t serial)

  main_so : (T : Target) (place serial : ℕ) (own : Option ℕ) → main_moved u T place serial own ≡ main_moved t T place serial own
  main_so T place serial None = refl
  main_so T place serial (Some own) =
      ap (λ (f : ℕ → Option Sending). cond (is_main_of (purpose_of T own) place) (moved_by (access_in (packet_in (f own))) (bytes_in (answer_in (packet_in (f serial))))) []) sent_same

  main_same : (place serial : ℕ) → main_read start here place serial ≡ main_read start past place serial
  main_same place serial =
      ap (λ (f : ℕ → Option Sending). cond (is_serial (receiver_in (f serial)) 0) (main_moved u (over (target_at start here)) place serial (answered_at u serial)) []) sent_same
      ∙ (ap (λ (T : Target). cond (is_serial (receiver_in (t.sent serial)) 0) (main_moved u T place serial (answered_at u serial)) []) (over_twice (target_at start past))
      ∙ (ap (λ own. cond (is_serial (receiver_in (t.sent serial)) 0) (main_moved u (over (target_at start past)) place serial own) []) (answered_same serial)
      ∙ ap (λ xs. cond (is_serial (receiver_in (t.sent serial)) 0) xs []) (main_so (over (target_at start past)) place serial (answered_at t serial))))

  own_asked : (wild : ℕ → Bool) → ((serial : ℕ) → AreOwnAsGot wild start past serial) → (serial : ℕ) → AreOwnAsGot wild start here serial
  own_asked wild own serial place b side mine i calm waits to r other slot which closed purpose =
      let twice = over_twice (target_at start past) in
      let x = own serial place b side mine i calm
      (subst (λ (T : Target). serial_of side (agent_at T place) ≡ Some mine) twice waits) (ap (λ (f : ℕ → Option Sending). receiver_in (f mine)) (sym sent_same) ∙ to) r other slot which
      (sym (answered_same serial) ∙ closed) (subst (λ (T : Target). purpose_of T r ≡ for_agent other which) twice purpose) in
      subst (λ (m : List Moved). (read_by u i serial (answered_at u serial) ≡ m) ⊎ ((m ≡ []) × AllElsewhere slot (read_by u i serial (answered_at u serial)))) (sym (main_same place serial))
      (subst (λ (r : List Moved). (r ≡ main_read start past place serial) ⊎ ((main_read start past place serial ≡ []) × AllElsewhere slot r)) (sym (read_same i serial)) x)

-- ---- a turn
module _ (wild : ℕ → Bool) (start : List Disk) where
  own_note : (note : Note) (past : List Moment) → ((serial : ℕ) → AreOwnAsGot wild start past serial) → OwnAsGot wild start (said note) past
  own_note (notes.Got serial) past a = a serial
  own_note note past a = tt

  own_moment : (moment : Moment) (past : List Moment) → ((serial : ℕ) → AreOwnAsGot wild start past serial) → OwnAsGot wild start moment past
  own_moment (asked line event) past a = tt
  own_moment (said note) past a = own_note note past a

  own_quiet : (note : Note) (past : List Moment) → IsQuiet note → OwnAsGot wild start (said note) past
  own_quiet (notes.Got serial) past q = absurd q
  own_quiet note past q = tt

  own_more : (front : List Note) (past : List Moment) → AllQuiet front → EachMoment (OwnAsGot wild start) past → EachMoment (OwnAsGot wild start) (map said front ++ past)
  own_more [] past q g = g
  own_more (note ∷ front) past q g = (own_quiet note (map said front ++ past) q.0, own_more front past q.1 g)

  own_turn : (before now : List Moment) → Next before now → ((serial : ℕ) → AreOwnAsGot wild start before serial) → EachMoment (OwnAsGot wild start) before → EachMoment (OwnAsGot wild start) now
  own_turn before now (same_still e) a g = subst (EachMoment (OwnAsGot wild start)) (sym e) g
  own_turn before now (next front q moment is) a g = subst (EachMoment (OwnAsGot wild start)) is (own_more front (moment ∷ before) q (own_moment moment before a, g))
  own_turn before now (next_line front q note line event is) a g =
      subst (EachMoment (OwnAsGot wild start)) is
      (own_more front (said note ∷ asked line event ∷ before) q (own_note note (asked line event ∷ before) (own_asked start line event before wild a), (tt, g)))

-- of more initiators that injected packets
module _ (wild more : ℕ → Bool) (calm : (i : ℕ) → more i ≡ false → wild i ≡ false) (start : List Disk) where
  own_but : (past : List Moment) (serial : ℕ) → AreOwnAsGot wild start past serial → AreOwnAsGot more start past serial
  own_but past serial own place b side mine i quiet = own place b side mine i (calm i quiet)

  note_but : (note : Note) (past : List Moment) → OwnAsGot wild start (said note) past → OwnAsGot more start (said note) past
  note_but (notes.Got serial) past own = own_but past serial own
  note_but note past own = tt

  all_but : (past : List Moment) → EachMoment (OwnAsGot wild start) past → EachMoment (OwnAsGot more start) past
  all_but [] own = tt
  all_but (asked line event ∷ past) own = (tt, all_but past own.1)
  all_but (said note ∷ past) own = (note_but note past own.0, all_but past own.1)

-- ---- at each place of a run
abbrev pub OwnSo : List Disk → List Moment → WorldState → Type 0
OwnSo start past w = IsTameOrFew past → EachMoment (OwnAsGot (injectors past) start) past

all_own : (units ready : ℕ) → 0 < units → (start : List Disk) → Keeps units ready start (Ground start) (OwnSo start)
all_own units ready has start past s later t lines more g h h_now q q_now e beside =
    let before = hist past s.world in
    let now = hist later t.world in
    let then = goes_tame_or_few past s later t g beside in
    let grown = grown_by before now (goes_next past s later t g) in
    let calm : (i : ℕ) → injectors now i ≡ false → injectors before i ≡ false = λ i quiet. calm_before grown.new before i (subst (λ ms. IsCalm ms i) (sym grown.is) quiet) in
    own_turn (injectors now) start before now (goes_next past s later t g)
    (λ serial. own_but (injectors before) (injectors now) calm start before serial (own_here units ready has start s.world h q then serial)) (all_but (injectors before) (injectors now) calm start before (e then))

pub own_as_got : OpenListsLaw → EveryPlace OwnSo
own_as_got lists = record {
  after_lines = λ line run r has small size so_far.
      at_lines Ground (OwnSo run.start.disks) (ground_everywhere lists) line run r.few has small size (all_own run.units (ready_logins run.initiators run.ready) has run.start.disks) (λ beside. (tt, (tt, tt))) r so_far;
  between = λ line run r has small size next most told m so_far.
      at_between Ground (OwnSo run.start.disks) (ground_everywhere lists) line run r.few has small size (all_own run.units (ready_logins run.initiators run.ready) has run.start.disks) (λ beside. (tt, (tt, tt))) r next most told m so_far;
}

pub own_as_got_law : OpenListsLaw → OwnAsGotLaw
own_as_got_law lists = record {
  after_lines = λ line run r has small size beside. (own_as_got lists).after_lines line run r has small size (closing.before lists line run r has small size beside) beside;
  between = λ line run r has small size next most told m beside.
      (own_as_got lists).between line run r has small size next most told m (closing.between lists line run r has small size next (more_deliveries most) (more_than_one most) told m beside) beside;
}
