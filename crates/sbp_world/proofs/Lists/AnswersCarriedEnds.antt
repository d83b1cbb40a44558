-- As a good status is taken whose ORB has data that go to its initiator, in a buffer with bytes, the target wrote data of this ORB in the generation that the initiator is in; and where its data do not, it wrote none.
use Rattle.sbp_world.proofs.Words.Std.{arith, ◌≡◌, ◌∙◌, refl, sym, ap, subst, ◌<◌, ◌≤◌, ◌+◌, nat_lt, nat_eq, ℕ, suc, Bool, true, false, cond, List, [], ◌∷◌, ◌++◌, Option, Some, None, nat_tests, same_Some}
use Rattle.sbp_world.proofs.Words.Wire.{SerialsCount, Cmd, Moment, asked, said, Sending, terms, AreJudged}
use Rattle.sbp_world.proofs.Words.Target.{Disk, Machine}
use Rattle.sbp_world.proofs.Words.Initiator.{StatusKind}
use Rattle.sbp_world.proofs.Words.Laws.{cmd_of, command_at, last_got, lowest_vacant, orb, prepared_in, slot_at, slots, EndedOrb, status_due, MayEndWith, appends, ended_status, ends, runs, ran_status, EachMoment, event_of}
use Rattle.sbp_world.proofs.Words.World.{IsTakenBy, AreServed, IsDataOf, IsAnswered, EndedWell, GoodEnds, IsWrittenWell, well_behind, well_fresh, IsTakenSo, IsToHost, IsTakenOf}
use Rattle.orb_layout.specs.declared.status.StatusKind.TheVariants as kinds
use Rattle.sbp_journal.specs.declared.note.Note.TheVariants as notes
use Rattle.sbp_world.proofs.Lists.UnrunLaws.{unrun_law}
use Rattle.sbp_world.proofs.Hosts.Remaining.{remains}
use Rattle.sbp_world.proofs.Hosts.SentMoments.{count_now, sent_there, serials_from}
use Rattle.sbp_world.proofs.Lists.AnswersCarriedBefore.{WereDataWritten, has_run, into, out, ran_told, run_on}
use Rattle.sbp_world.proofs.Lists.DataClosed.{IsSound, answered_low, are_served, its, sent, sound_from}
use Rattle.sbp_world.proofs.Lists.DataOpen.{ended_less}
use Rattle.sbp_world.proofs.Lists.DataServed.{dry_before, inside, moved, ran_so}
use Rattle.sbp_world.proofs.Lists.DataSlots.{appends_grow, command_lasts, same_orb, slot_lasts}
use Rattle.sbp_world.proofs.Lists.DataWaits.{under_way_now}
use Rattle.sbp_world.proofs.Lists.ManageTerms.{got_rests}
use Rattle.sbp_world.proofs.Lists.ManageWire.{WireAt, WireMoments}
use Rattle.sbp_world.proofs.Lists.OpenedMoments.{rest_same}
use Rattle.sbp_world.proofs.Lists.Passing.{PassLaw}
use Rattle.sbp_world.proofs.Lists.Rises.{Rises}
use Rattle.sbp_world.proofs.Lists.Sights.{BeginsLine, SightAt}
use Rattle.sbp_world.proofs.Lists.StatusKnown.{each_from, generation_grows, got_by, IsKnown}
use Rattle.sbp_world.proofs.Lists.StatusMoments.{DueIs, due_is, ended_stays}
use Rattle.sbp_world.proofs.Lists.StatusNull.{WasDue, was_due}
use Rattle.sbp_world.proofs.Common.{itself, moments_split as split}

none_due : {A : Type 0} (one : EndedOrb) → None ≡ Some one → A
none_due one e = absurd (let z : None ≡ Some one = e in cc)

-- ---- the end whose status is due: no generation was seen since
pub record DueEnd (before : List Moment) (one : EndedOrb) : Type 0 where
  pub later : List Moment
  pub rest : List Moment
  pub status : StatusKind
  pub is : later ++ said (notes.Ended one.initiator (Some one.one.list) (Some one.one.number) status) ∷ rest ≡ before
  pub level : (terms before).generation 0 ≡ (terms rest).generation 0

further : (m : Moment) (past : List Moment) (one : EndedOrb) → (terms (m ∷ past)).generation 0 ≡ (terms past).generation 0 → DueEnd past one → DueEnd (m ∷ past) one
further m past one same d = record { later = m ∷ d.later; rest = d.rest; status = d.status; is = ap (λ ms. m ∷ ms) d.is; level = same ∙ d.level }

pub due_end : (before : List Moment) (one : EndedOrb) → EachMoment SightAt before → status_due before ≡ Some one → DueEnd before one
due_end [] one sights e = none_due one e
due_end (asked line event ∷ past) one sights e = none_due one e
due_end (said (notes.Got serial) ∷ past) one sights e = none_due one e
due_end (said (notes.Ignored serial cause) ∷ past) one sights e = none_due one e
due_end (said (notes.TimedOut serial) ∷ past) one sights e = none_due one e
due_end (said (notes.Ended j (Some m) (Some l) status) ∷ past) one sights e =
    let same = same_Some (record { initiator = j; one = orb m l }) one e in
    record {
      later = [];
      rest = past;
      status = status;
      is = ap (λ (o : EndedOrb). said (notes.Ended o.initiator (Some o.one.list) (Some o.one.number) status) ∷ past) (sym same);
      level = refl;
    }
due_end (said (notes.Seen node generation) ∷ past) one sights e = absurd (seen_not past sights.0 e)
  where
    seen_not : (past : List Moment) → BeginsLine past → status_due past ≡ Some one → ⊥
    seen_not [] b f = none_due one f
    seen_not (asked line event ∷ past) b f = none_due one f
    seen_not (said note ∷ past) b f = b
due_end (said (notes.Begin initiators ready) ∷ past) one sights e = further (said (notes.Begin initiators ready)) past one refl (due_end past one sights.1 e)
due_end (said note ∷ past) one sights e = further (said note) past one (ap (λ (g : ℕ → ℕ). g 0) (rest_same note past refl).generation) (due_end past one sights.1 e)

-- ---- where an ORB is prepared, and appended
module _ (i n k : ℕ) (wild : ℕ → Bool) where
  pub commanded : (past : List Moment) (cmd : Cmd) → PassLaw wild past → command_at past i n k ≡ Some cmd → k < appends past i n
  commanded [] cmd law e = absurd (let z : None ≡ Some cmd = e in cc)
  commanded (said (notes.Append j m l cdb buffer) ∷ past) cmd law e = by (nat_eq i j) (nat_eq n m) (nat_eq k l) refl refl refl (λ f. grown (commanded past cmd law.1 f)) e
    where
      grown : k < appends past i n → k < appends (said (notes.Append j m l cdb buffer) ∷ past) i n
      grown b = let more = appends_grow i n k (said (notes.Append j m l cdb buffer) ∷ []) past in omega (arith, more, b)

      here : nat_eq i j ≡ true → nat_eq n m ≡ true → nat_eq k l ≡ true → k < cond (nat_eq i j) (cond (nat_eq n m) (suc (appends past j m)) (appends past i n)) (appends past i n)
      here f g h =
          let number : l ≡ appends past j m = law.0.next.number in
          let same : k ≡ l = grind (arith, nat_tests, h) in
          subst (λ x. k < cond x (cond (nat_eq n m) (suc (appends past j m)) (appends past i n)) (appends past i n)) (sym f)
          (subst (λ x. k < cond x (suc (appends past j m)) (appends past i n)) (sym g) (omega (arith, number, same)))

      by : (x y z : Bool) → nat_eq i j ≡ x → nat_eq n m ≡ y → nat_eq k l ≡ z → (command_at past i n k ≡ Some cmd → k < appends (said (notes.Append j m l cdb buffer) ∷ past) i n) → cond x (cond y (cond z (cmd_of (event_of past)) (command_at past i n k)) (command_at past i n k)) (command_at past i n k) ≡ Some cmd → k < appends (said (notes.Append j m l cdb buffer) ∷ past) i n
      by true true true f g h again x = here f g h
      by true true false f g h again x = again x
      by true false z f g h again x = again x
      by false y z f g h again x = again x
  commanded (_ ∷ past) cmd law e = commanded past cmd law.1 e

  pub prepared_then : (later before : List Moment) (slot : ℕ) → PassLaw wild (later ++ before) → k < appends before i n → prepared_in (later ++ before) i slot ≡ Some (orb n k) → prepared_in before i slot ≡ Some (orb n k)
  prepared_then [] before slot law b e = e
  prepared_then (said (notes.Append j m l cdb buffer) ∷ later) before slot law b e = by (nat_eq i j) (nat_eq slot (lowest_vacant (slots (later ++ before) j))) refl (λ f. prepared_then later before slot law.1 b f) e
    where
      new : nat_eq i j ≡ true → (m ≡ n) × (l ≡ k) → ⊥
      new f s =
          let number : l ≡ appends (later ++ before) j m = law.0.next.number in
          let same_i : j ≡ i = grind (arith, nat_tests, f) in
          let there : k ≡ appends (later ++ before) i n = sym s.1 ∙ (number ∙ (ap (λ x. appends (later ++ before) x m) same_i ∙ ap (λ x. appends (later ++ before) i x) s.0)) in
          let more = appends_grow i n k later before in
          omega (arith, there, more, b)

      by : (x y : Bool) → nat_eq i j ≡ x → (prepared_in (later ++ before) i slot ≡ Some (orb n k) → prepared_in before i slot ≡ Some (orb n k)) → cond x (cond y (Some (orb m l)) (prepared_in (later ++ before) i slot)) (prepared_in (later ++ before) i slot) ≡ Some (orb n k) → prepared_in before i slot ≡ Some (orb n k)
      by true true f again h = absurd (new f (same_orb m l n k h))
      by true false f again h = again h
      by false y f again h = again h
  prepared_then (_ ∷ later) before slot law b e = prepared_then later before slot law.1 b e

-- ---- as a good status is taken

ends_there : (past : List Moment) (i n k : ℕ) (status : StatusKind) → ended_status (said (notes.Ended i (Some n) (Some k) status) ∷ past) i n k ≡ Some status
ends_there past i n k status =
    ap (λ b. cond b (cond (nat_eq n n) (cond (nat_eq k k) (Some status) (ended_status past i n k)) (ended_status past i n k)) (ended_status past i n k)) (itself i)
    ∙ (ap (λ b. cond b (cond (nat_eq k k) (Some status) (ended_status past i n k)) (ended_status past i n k)) (itself n)
    ∙ ap (λ b. cond b (Some status) (ended_status past i n k)) (itself k))

module _ (start : List Disk) (wild : ℕ → Bool) (i : ℕ) (own : wild i ≡ false) (past : List Moment) (sound : IsSound start wild i own past) (known : IsKnown wild past i) (wires : WireMoments past) (sights : EachMoment SightAt past) (good : EachMoment (GoodEnds i) past) (n k : ℕ) (so : IsTakenSo past i n k kinds.Good) (of_one : IsTakenOf past i n k kinds.Good) (by : IsTakenBy past i n k kinds.Good) (there : prepared_in past i (slot_at past i n k) ≡ Some (orb n k)) where
  abbrev X : ℕ
  X = last_got past

  w : WasDue i n k past X
  w = was_due i n k past X so.sent

  abbrev leaves : Moment
  leaves = said (notes.Sent X w.generation 0 w.to w.bytes)

  abbrev sent_here : List Moment
  sent_here = leaves ∷ w.before

  counted : SerialsCount (w.later ++ sent_here)
  counted = subst SerialsCount (sym w.is) sound.serials

  own_gen : w.generation ≡ (terms w.before).generation 0
  own_gen = (each_from WireAt w.later sent_here (subst WireMoments (sym w.is) wires)).0.now

  abbrev was : Sending
  was = record { generation = w.generation; from = 0; to = w.to; bytes = w.bytes; injected = (terms w.before).injected X }

  sent_past : (terms past).sent X ≡ Some was
  sent_past =
      let number : X ≡ (terms w.before).count + 1 = (serials_from w.later sent_here counted).0 in
      let count : (terms sent_here).count ≡ (terms w.before).count + 1 = count_now w.before X w.generation 0 w.to w.bytes in
      ap (λ ms. (terms ms).sent X) (sym w.is) ∙ ((remains w.later sent_here counted).sent X (omega (arith, number, count)) ∙ sent_there w.before X w.generation 0 w.to w.bytes)

  packet_gen : so.packet.generation ≡ w.generation
  packet_gen = sym (ap (λ (s : Sending). s.generation) (same_Some was so.packet (sym sent_past ∙ so.there)))

  -- it was got in the generation that the initiator is in
  abbrev q : List Moment
  q = by.before

  sent_then : (terms q).sent X ≡ Some so.packet
  sent_then = ap (λ (f : ℕ → Option Sending). f X) (sym (got_rests X q).sent) ∙ (ap (λ ms. (terms ms).sent X) (sym by.behind) ∙ so.there)

  got_current : so.packet.generation ≡ (terms past).generation (suc i)
  got_current =
      got_by X q so.packet (subst AreJudged by.behind known.judged) sent_then
      ∙ (ap (λ x. (terms q).generation x) so.to_host
      ∙ (ap (λ (f : ℕ → ℕ). f (suc i)) (sym (got_rests X q).generation) ∙ ap (λ ms. (terms ms).generation (suc i)) (sym by.behind)))

  level_sent : (terms w.before).generation 0 ≡ (terms past).generation (suc i)
  level_sent = sym own_gen ∙ (sym packet_gen ∙ got_current)

  -- ---- the end that sent it
  due : DueIs (status_due w.before) i n k
  due = due_is (status_due w.before) i n k w.to w.due

  d : DueEnd w.before due.one
  d = due_end w.before due.one (each_from SightAt w.later sent_here (subst (EachMoment SightAt) (sym w.is) sights)).1 due.is

  abbrev N : Moment
  N = said (notes.Ended i (Some n) (Some k) d.status)

  named : said (notes.Ended due.one.initiator (Some due.one.one.list) (Some due.one.one.number) d.status) ≡ N
  named =
      ap (λ a. said (notes.Ended a (Some due.one.one.list) (Some due.one.one.number) d.status)) due.initiator
      ∙ (ap (λ a. said (notes.Ended i (Some a) (Some due.one.one.number) d.status)) due.list ∙ ap (λ a. said (notes.Ended i (Some n) (Some a) d.status)) due.number)

  at_end : d.later ++ N ∷ d.rest ≡ w.before
  at_end = ap (λ m. d.later ++ m ∷ d.rest) (sym named) ∙ d.is

  abbrev front : List Moment
  front = (w.later ++ leaves ∷ []) ++ d.later

  at_all : front ++ N ∷ d.rest ≡ past
  at_all = sym (split (w.later ++ leaves ∷ []) d.later (N ∷ d.rest)) ∙ (ap (λ h. (w.later ++ leaves ∷ []) ++ h) at_end ∙ (sym (split w.later (leaves ∷ []) w.before) ∙ w.is))

  passes_all : PassLaw wild (front ++ N ∷ d.rest)
  passes_all = subst (PassLaw wild) (sym at_all) sound.passes

  low : k < ends (N ∷ d.rest) i n
  low = ended_less wild i own (N ∷ d.rest) (each_from _ front (N ∷ d.rest) passes_all) n k d.status (ends_there d.rest i n k d.status)

  ended_now : ended_status past i n k ≡ Some d.status
  ended_now = ap (λ h. ended_status h i n k) (sym at_all) ∙ (ended_stays wild i own front (N ∷ d.rest) n k passes_all low ∙ ends_there d.rest i n k d.status)

  status_good : d.status ≡ kinds.Good
  status_good = same_Some d.status kinds.Good (sym ended_now ∙ of_one.ended)

  -- it ran
  pub ran : has_run past i n k ≡ true
  ran =
      let p = (each_from _ front (N ∷ d.rest) passes_all).0 own in
      let status : ran_status d.rest i n k ≡ Some kinds.Good = (subst (λ st. MayEndWith st (ran_status d.rest i n k)) status_good (p.by unrun_law)) in
      subst (λ h. has_run h i n k ≡ true) at_all (run_on front (N ∷ d.rest) i n k (ran_told d.rest i n k kinds.Good status))

  e : EndedWell d.rest i n k
  e =
      let g : GoodEnds i N d.rest = (each_from (GoodEnds i) front (N ∷ d.rest) (subst (EachMoment (GoodEnds i)) (sym at_all) good)).0 in
      (subst (λ st. GoodEnds i (said (notes.Ended i (Some n) (Some k) st)) d.rest) status_good g) refl

  abbrev C : List Moment
  C = e.before

  abbrev front_c : List Moment
  front_c = front ++ N ∷ e.later

  at_c : front_c ++ C ≡ past
  at_c = sym (split front (N ∷ e.later) C) ∙ (ap (λ h. front ++ N ∷ h) e.is ∙ at_all)

  sound_c : IsSound start wild i own C
  sound_c = sound_from start wild i own front_c C (subst (IsSound start wild i own) (sym at_c) sound)

  passes_c : PassLaw wild (front_c ++ C)
  passes_c = subst (PassLaw wild) (sym at_c) sound.passes

  level_c : (terms C).generation 0 ≡ (terms past).generation (suc i)
  level_c = sym e.level ∙ (sym d.level ∙ level_sent)

  seen_c : (terms C).generation (suc i) ≤ (terms past).generation (suc i)
  seen_c = subst (λ h. (terms C).generation (suc i) ≤ (terms h).generation (suc i)) at_c (generation_grows front_c C (suc i) (subst Rises (sym at_c) sound.rises))

  served_c : AreServed start C i
  served_c = are_served start wild i own C sound_c

  -- ---- it came behind the last chunk
  module _ (m : Machine) (got : ℕ) (a : IsAnswered C i n k m got) where
    current : (terms C).generation 0 ≡ (terms C).generation (suc i)
    current =
        let x = level_c in
        let y = seen_c in
        let z = answered_low start wild i own C sound_c served_c n k m got a in
        omega (arith, x, y, z)

    appended : k < appends C i n
    appended = commanded i n k wild C a.cmd sound_c.passes a.command

    slot_same : slot_at past i n k ≡ slot_at C i n k
    slot_same = ap (λ h. slot_at h i n k) (sym at_c) ∙ slot_lasts i n k wild front_c C passes_c appended

    stood : prepared_in C i (slot_at C i n k) ≡ Some (orb n k)
    stood =
        prepared_then i n k wild front_c C (slot_at C i n k) passes_c appended
        (ap (λ h. prepared_in h i (slot_at C i n k)) at_c ∙ (ap (λ s. prepared_in past i s) (sym slot_same) ∙ there))

    written_now : WereDataWritten start past i n k
    written_now =
        let s = sent start wild i own C sound_c served_c n k m got a in
        record {
          serial = a.serial;
          slot = slot_at C i n k;
          packet = s.packet;
          of = out i past front_c C at_c sound.serials n k a.serial (slot_at C i n k) s.packet (its start wild i own C sound_c served_c n k m got a current stood);
          current = under_way_now (terms C) a.serial s.packet s.sent a.under_way ∙ (ap (λ x. (terms C).generation x) s.from ∙ level_c);
        }

    command_same : (cmd : Cmd) → command_at past i n k ≡ Some cmd → a.cmd ≡ cmd
    command_same cmd c = same_Some a.cmd cmd (sym a.command ∙ (sym (command_lasts i n k wild front_c C passes_c appended) ∙ (ap (λ h. command_at h i n k) at_c ∙ c)))

  -- ---- it came in the turn of the run
  module _ (none : runs C i n k ≡ 0) (serial place : ℕ) (packet : Sending) (x : IsDataOf start past i n k serial packet place) where
    open_then : (status : StatusKind) → ended_status x.before i n k ≡ Some status → status ≡ kinds.Failed
    open_then = moved i past n k serial place packet x (λ a b. (status : StatusKind) → ended_status x.before i a b ≡ Some status → status ≡ kinds.Failed) x.was.still

    -- it was sent before the end
    not_behind : (terms (N ∷ d.rest)).count < serial → ⊥
    not_behind high =
        let found = inside serial packet.generation packet.from packet.to packet.bytes x.before front (N ∷ d.rest) x.later (x.is ∙ sym at_all) (subst SerialsCount (sym at_all) sound.serials) high in
        let front_x = x.later ++ said (notes.Sent serial packet.generation packet.from packet.to packet.bytes) ∷ [] in
        let whole : front_x ++ x.before ≡ past = sym (split x.later (said (notes.Sent serial packet.generation packet.from packet.to packet.bytes) ∷ []) x.before) ∙ x.is in
        let passes_x : PassLaw wild x.before = each_from _ front_x x.before (subst (PassLaw wild) (sym whole) sound.passes) in
        let ended_x : ended_status x.before i n k ≡ Some d.status =
        ap (λ h. ended_status h i n k) (sym found.1) ∙ (ended_stays wild i own found.0 (N ∷ d.rest) n k (subst (PassLaw wild) (sym found.1) passes_x) low ∙ ends_there d.rest i n k d.status) in
        let failed : kinds.Good ≡ kinds.Failed = sym status_good ∙ open_then d.status ended_x in
        cc

    early : serial ≤ (terms (N ∷ d.rest)).count
    early = by_less (nat_lt (terms (N ∷ d.rest)).count serial) refl
      where
        by_less : (b : Bool) → nat_lt (terms (N ∷ d.rest)).count serial ≡ b → serial ≤ (terms (N ∷ d.rest)).count
        by_less true f = absurd (not_behind (let z : (terms (N ∷ d.rest)).count < serial = grind (arith, nat_tests, f) in z))
        by_less false f = grind (arith, nat_tests, f)

    -- and before its turn
    before_turn : serial ≤ (terms C).count
    before_turn =
        let inner = into i past front (N ∷ d.rest) at_all sound.serials n k serial place packet x early in
        let rest_serials : SerialsCount (e.later ++ C) = subst SerialsCount (sym e.is) (serials_from (front ++ N ∷ []) d.rest (subst SerialsCount (sym (sym (split front (N ∷ []) d.rest) ∙ at_all)) sound.serials)) in
        dry_before i e.later C e.alone rest_serials serial place packet (subst (λ h. IsToHost h i serial packet) (sym e.is) (record { is = inner.sent.is; from_target = inner.sent.from_target; to_host = inner.sent.to_host })) x.writes

    no_data : ⊥
    no_data =
        let some = ran_so i C n k serial place packet (into i past front_c C at_c sound.serials n k serial place packet x before_turn) in
        omega (arith, none, some)

  -- ---- so it wrote data, or it has none
  pub data Wrote : Type 0 where
    has_written : ((cmd : Cmd) → command_at past i n k ≡ Some cmd → cmd.to_initiator ≡ true) → WereDataWritten start past i n k → Wrote
    has_none : ((cmd : Cmd) → command_at past i n k ≡ Some cmd → cmd.to_initiator ≡ true → cmd.length ≡ 0) → ((serial place : ℕ) (packet : Sending) → IsDataOf start past i n k serial packet place → ⊥) → Wrote

  wrote_by : IsWrittenWell d.rest C i n k → Wrote
  wrote_by (well_fresh none cmd command empty) =
      has_none
      (λ other c to.
      let same : cmd ≡ other = same_Some cmd other (sym command ∙ (sym (command_lasts i n k wild front_c C passes_c (commanded i n k wild C cmd sound_c.passes command)) ∙ (ap (λ h. command_at h i n k) at_c ∙ c))) in
      ap (λ (x : Cmd). x.length) (sym same) ∙ empty (ap (λ (x : Cmd). x.to_initiator) same ∙ to))
      (λ serial place packet x. no_data none serial place packet x)
  wrote_by (well_behind got later is m filled a to) =
      has_written (λ cmd c. ap (λ (x : Cmd). x.to_initiator) (sym (command_same m got a cmd c)) ∙ to) (written_now m got a)

  pub wrote : Wrote
  wrote = wrote_by e.written
