-- In each turn of every run in which an initiator that injected nothing gets a packet, `told` stands exactly where the target sent this packet as an unsolicited status; so the media law holds of each run in which nobody injected a packet.
use Rattle.std.proofs.Common.{arith, ◌≡◌, ◌∙◌, refl, sym, ap, subst, inl, inr, ◌⊎◌, ℕ, zero, suc, ◌<◌, ◌≤◌, ◌==◌, ◌&&◌, ◌||◌, nat_le, not, Bool, true, false, List, [], ◌∷◌, ◌++◌, map, reverse, Option, Some, None, append_assoc}
use Rattle.std.specs.List.{list_any}
use Rattle.std.proofs.lemmas.Bool.Decides.{nat_tests}
use Rattle.std.proofs.lemmas.Option.{same_Some}
use Rattle.bus_memory.specs.Windows.{is_fifo}
use Rattle.label_table.specs.Judging.{Row, by_again, by_generation, by_grammar, by_label, by_request, by_response, row_of}
use Rattle.media_bay.specs.Unsolicited.{is_block}
use Rattle.rbc_disk.specs.Disk.{Disk}
use Rattle.sbp_journal.specs.Addresses.{Access, lies_in_rom}
use Rattle.sbp_journal.specs.Rows.{RequestFacts, first_or, ignored_as, judging_of, serving, telling}
use Rattle.sbp_journal.specs.Run.{Moment, asked, said}
use Rattle.sbp_journal.specs.Transactions.{Sending}
use Rattle.sbp_journal.specs.Wire.{Terms, terms}
use Rattle.sbp_journal.specs.declared.cause.Cause.TheVariants as causes
use Rattle.sbp_laws.specs.Agents.{target_before}
use Rattle.sbp_laws.specs.JudgementLaw.{facts_at, facts_of, is_login_fifo, request_facts, rom_size}
use Rattle.sbp_laws.specs.MediaLaw.{told_at, told_due}
use Rattle.sbp_laws.specs.Packets.{access_in, access_in_bytes, packet_in, receiver_in}
use Rattle.sbp_laws.specs.SentLaw.{end_of}
use Rattle.sbp_laws.specs.Targets.{Target, is_write_access, target_at}
use Rattle.sbp_laws.specs.Turns.{EachTurn, Turn}
use Rattle.sbp_world.specs.Lists.FewLogins.{IsCalmBeside}
use Rattle.sbp_world.proofs.Common.{and_first, and_second, none_is, untrue}
use Rattle.sbp_world.proofs.Hosts.Remaining.{opened_same, remains}
use Rattle.sbp_world.proofs.Hosts.SentMoments.{sent_below, serials_from}
use Rattle.sbp_world.proofs.Lists.Beside.{beside_before}
use Rattle.turn_laws.specs.PushSent.{GetsCalmly, TellsTheCalm, TellsWhatWasSent, ToldSentLaw}
use Rattle.turn_laws.specs.PushTold.{TellsPushes}
use Rattle.turn_laws.specs.Runs.{OfEveryRun}
use Rattle.turn_laws.specs.Told.{TellsByRow, is_telling, packet_tells, row_tells, told_by, told_of, told_to}
use Rattle.turn_laws.proofs.BehindTurns.{behind_every_turn}
use Rattle.turn_laws.proofs.Begun.{IsStart, carried_law}
use Rattle.turn_laws.proofs.EachTurns.{joined_law}
use Rattle.turn_laws.proofs.LaterTerms.{Pushes}
use Rattle.turn_laws.proofs.NewWrites.{AreAssigned, assigned_law}
use Rattle.turn_laws.proofs.NoPushes.{IsPush, OwnNoPush, first_no_push, own_no_push}
use Rattle.turn_laws.proofs.PendingTurns.{line_pushes, note_pushes}
use Rattle.turn_laws.proofs.PushOwners.{IsOwned, IsWrite}
use Rattle.turn_laws.proofs.PushSerials.{Apart, Has, note_count}
use Rattle.turn_laws.proofs.PushTold.{push_told_law}
use Rattle.turn_laws.proofs.RequestPackets.{Sound, sound_law}
use Rattle.turn_laws.proofs.SerialsStay.{ends_turn}
use Rattle.turn_laws.proofs.Told.{told_law}
use Rattle.turn_laws.proofs.UnaskedPushes.{bytes_ask, stays}

-- ---- a packet of the target that its row tells of, to an initiator that injected nothing
pub record IsTold (ms : List Moment) (s i : ℕ) : Type 0 where
  pub packet : Sending
  pub is : (terms ms).sent s ≡ Some packet
  pub from : packet.from ≡ 0
  pub to : packet.to ≡ suc i
  pub calm : IsCalmBeside ms i
  pub access : Access
  pub asks : access_in_bytes packet.bytes ≡ Some access
  pub push : IsPush access

-- each was sent as an unsolicited status
abbrev pub ArePushed : List Disk → List Moment → Type 0
ArePushed start ms = (s i : ℕ) → IsTold ms s i → Has (Pushes start ms) s

-- what is known of a turn
record IsKnown (start : List Disk) (t : Turn) : Type 0 where
  sound : Sound start t
  assigned : AreAssigned start t
  own : OwnNoPush start (end_of t)

start_count : (moment : Moment) (past : List Moment) → IsStart moment → (terms (moment ∷ past)).count ≡ (terms past).count
start_count (asked line event) past i = (opened_same event (terms past)).count
start_count (said note) past i = note_count note (terms past) i

start_pushes : (start : List Disk) (moment : Moment) (past : List Moment) → IsStart moment → Pushes start (moment ∷ past) ≡ Pushes start past
start_pushes start (asked line event) past i = line_pushes start line event past
start_pushes start (said note) past i = note_pushes start note past i

module _ (start : List Disk) (t : Turn) (quiet : IsStart t.start) (before : ArePushed start t.past) (k : IsKnown start t) (s i : ℕ) (told : IsTold (end_of t) s i) where
  abbrev now : List Moment
  now = end_of t

  abbrev first : List Moment
  first = t.start ∷ t.past

  abbrev rest : List Moment
  rest = map said (reverse t.rest)

  count_is : (terms first).count ≡ (terms t.past).count
  count_is = start_count t.start t.past quiet

  -- sent before the turn
  old : s ≤ (terms first).count → Has (Pushes start now) s
  old low =
      let behind : (rest ++ t.start ∷ []) ++ t.past ≡ now = append_assoc rest (t.start ∷ []) t.past in
      let in_first = (remains rest first k.sound.own.1).sent s low in
      let in_past = (remains (t.start ∷ []) t.past (serials_from rest first k.sound.own.1)).sent s (omega (arith, count_is, low)) in
      let was : IsTold t.past s i = record {
        packet = told.packet;
        is = sym in_past ∙ (sym in_first ∙ told.is);
        from = told.from;
        to = told.to;
        calm = beside_before (rest ++ t.start ∷ []) t.past i (subst (λ ms. IsCalmBeside ms i) (sym behind) told.calm);
        access = told.access;
        asks = told.asks;
        push = told.push;
      } in
      stays start s t.rest first (subst (λ xs. Has xs s) (sym (start_pushes start t.start t.past quiet)) (before s i was))

  -- or in it
  write : IsWrite ((terms now).sent s)
  write =
      let asks = bytes_ask told.packet.bytes told.access told.asks in
      record {
        packet = told.packet;
        is = told.is;
        from = told.from;
        label = asks.label;
        kind = asks.kind;
        part = asks.is;
        writes = ap is_write_access told.asks ∙ told.push.writes;
      }

  no_owner : ((target_at start now).reply ≡ None) × IsOwned (target_at start now) s → ⊥
  no_owner o =
      k.own s i o.0 o.1 told.calm (ap receiver_in told.is ∙ ap (λ n. Some n) told.to) told.access (ap (λ so. access_in (packet_in so)) told.is ∙ told.asks) told.push

  new : (terms first).count < s → Has (Pushes start now) s
  new young = by (k.assigned s (record { young = young; small = sent_below now s told.packet k.sound.own.1 told.is; write = write }))
    where
      by : Has (Pushes start now) s ⊎ (((target_at start now).reply ≡ None) × IsOwned (target_at start now) s) → Has (Pushes start now) s
      by (inl h) = h
      by (inr o) = absurd (no_owner o)

  pushed : Has (Pushes start now) s
  pushed = by (nat_le s (terms first).count) refl
    where
      by : (b : Bool) → nat_le s (terms first).count ≡ b → Has (Pushes start now) s
      by true e = old (grind (arith, nat_tests))
      by false e = new (grind (arith, nat_tests))

known_law : OfEveryRun (λ start past. EachTurn (IsKnown start) past)
known_law =
    joined_law (λ start t. Sound start t × AreAssigned start t) (λ start t. OwnNoPush start (end_of t)) IsKnown (λ start t a b. record { sound = a.0; assigned = a.1; own = b })
    (joined_law Sound AreAssigned (λ start t. Sound start t × AreAssigned start t) (λ start t a b. (a, b)) sound_law assigned_law)
    (behind_every_turn OwnNoPush own_no_push first_no_push)

none_told : (s i : ℕ) → IsTold [] s i → ⊥
none_told s i told = none_is told.packet told.is

-- so before each turn of every run
pushed_law : OfEveryRun (λ start past. EachTurn (λ t. ArePushed start t.past) past)
pushed_law = carried_law IsKnown ArePushed (λ start s i told. absurd (none_told s i told)) (λ start t quiet before k s i told. pushed start t quiet before k s i told) known_law

-- ---- what a row tells of is such a packet
record Tells (a b c : Bool) : Type 0 where
  source : a ≡ false
  status : c ≡ true

rows_tell : (a b c d g : Bool)
    → is_telling (first_or serving ((a, ignored_as causes.Source 7) ∷ (b, ignored_as causes.Login 7) ∷ (c, telling) ∷ (d, ignored_as causes.Grammar 5) ∷ (g, ignored_as causes.Slot 0) ∷ [])) ≡ true → Tells a b c
rows_tell true b c d g e = untrue e
rows_tell false true c d g e = untrue e
rows_tell false false true d g e = record { source = refl; status = refl }
rows_tell false false false true g e = untrue e
rows_tell false false false false true e = untrue e
rows_tell false false false false false e = untrue e

row_request : (row : Row) (facts : Option RequestFacts) → row_tells row facts ≡ true → row_tells by_request facts ≡ true
row_request by_generation facts e = untrue e
row_request by_grammar facts e = untrue e
row_request by_label facts e = untrue e
row_request by_response facts e = untrue e
row_request by_again facts e = untrue e
row_request by_request facts e = e

not_read : (lock write rom target : Bool) → write ≡ true → (true && not (not lock && not write && rom) && not target) ≡ false → target ≡ true
not_read true true rom true w e = refl
not_read true true rom false w e = untrue (sym e)
not_read false true rom true w e = refl
not_read false true rom false w e = untrue (sym e)
not_read lock false rom target w e = untrue w

-- the facts of a request that is told
record IsOfPush (from : ℕ) (access : Access) : Type 0 where
  sender : from ≡ 0
  push : IsPush access

module _ (start : List Disk) (t : Turn) (q : Sending) (i : ℕ) (to : q.to ≡ suc i) where
  abbrev wire : Terms
  wire = terms t.past

  abbrev T : Target
  T = target_before start t

  abbrev Facts_to : Access → RequestFacts
  Facts_to access = request_facts start t.past T wire q.from (suc i) access

  of_facts : (access : Access) → is_telling (judging_of (Facts_to access)) ≡ true → IsOfPush q.from access
  of_facts access e =
      let f = Facts_to access in
      let row = rows_tell (f.to_initiator && not f.reads_rom && not f.of_target) (f.of_other_login || f.to_closed_fifo) (f.is_status && f.is_unsolicited) (f.is_status && not f.is_read) (f.is_status && not f.is_awaited) e in
      let status = and_first f.is_status f.is_unsolicited row.status in
      let pushed = and_second f.is_status f.is_unsolicited row.status in
      let writes = and_first access.is_write access.is_block (and_first (access.is_write && access.is_block) (is_fifo access.offset) status) in
      let own = not_read access.is_lock access.is_write (lies_in_rom (rom_size (suc i) 0) access) (q.from == 0) writes row.source in
      record {
        sender = grind (arith, nat_tests);
        push = record {
          writes = writes;
          fifo = and_first (is_login_fifo access.offset) (is_block access.payload) pushed;
          block = and_second (is_login_fifo access.offset) (is_block access.payload) pushed;
        };
      }

  -- a packet that tells asks for something
  record IsAskedSo : Type 0 where
    access : Access
    asks : access_in_bytes q.bytes ≡ Some access
    of : IsOfPush q.from access

  by_access : (o : Option Access) → access_in_bytes q.bytes ≡ o → row_tells by_request (facts_at start t.past T wire q o) ≡ true → IsAskedSo
  by_access None e tells = untrue tells
  by_access (Some access) e tells =
      record { access = access; asks = e; of = of_facts access (subst (λ n. is_telling (judging_of (request_facts start t.past T wire q.from n access)) ≡ true) to tells) }

  asked_so : packet_tells start t q ≡ true → IsAskedSo
  asked_so tells = by_access (access_in_bytes q.bytes) refl (row_request (row_of (facts_of wire q)) (facts_at start t.past T wire q (access_in_bytes q.bytes)) tells)

has_any : (xs : List ℕ) (s : ℕ) → Has xs s → list_any (λ x. x == s) xs ≡ true
has_any [] s h = absurd h
has_any (x ∷ xs) s (inl e) = ap (λ b. b || list_any (λ y. y == s) xs) (let z : (x == s) ≡ true = grind (arith, nat_tests) in z)
has_any (x ∷ xs) s (inr h) = by (has_any xs s h) (x == s)
  where
    by : list_any (λ y. y == s) xs ≡ true → (b : Bool) → (b || list_any (λ y. y == s) xs) ≡ true
    by e true = refl
    by e false = e

-- ---- a turn in which an initiator that injected nothing gets a packet
module _ (start : List Disk) (t : Turn) (told : TellsByRow start t) (pushes : TellsPushes start t) (pushed : ArePushed start t.past) (serial i : ℕ) (g : GetsCalmly t serial i) where
  abbrev so : Option Sending
  so = (terms t.past).sent serial

  abbrev is_pushed : Bool
  is_pushed = list_any (λ push. push == serial) (target_before start t).pushes

  due : told_due (target_before start t) t t.start ≡ told_at (Some (suc i)) is_pushed
  due = ap (told_due (target_before start t) t) g.gets ∙ ap (λ o. told_at o is_pushed) g.receiver

  -- it was sent as an unsolicited status
  is_told : is_pushed ≡ true → TellsWhatWasSent start t
  is_told e = pushes serial i (record { gets = g.gets; receiver = g.receiver; is_push = e; welcome = inl g.calm }) ∙ sym (due ∙ ap (told_at (Some (suc i))) e)

  -- or not, and then its row does not tell of it
  tells_none : is_pushed ≡ false → (q : Sending) → so ≡ Some q → (b : Bool) → packet_tells start t q ≡ b → told_to q.to b ≡ []
  tells_none e q is false f = told_none q.to
    where
      told_none : (n : ℕ) → told_to n false ≡ []
      told_none zero = refl
      told_none (suc n) = refl
  tells_none e q is true f =
      let to = same_Some q.to (suc i) (sym (ap receiver_in is) ∙ g.receiver) in
      let x = asked_so start t q i to f in
      let has = pushed serial i (record { packet = q; is = is; from = x.of.sender; to = to; calm = g.calm; access = x.access; asks = x.asks; push = x.of.push }) in
      let there = subst (λ xs. Has xs serial) (sym (ends_turn (Apart 0) refl (target_at start t.past)).pushes) has in
      untrue (sym e ∙ has_any (target_before start t).pushes serial there)

  by_sending : is_pushed ≡ false → (o : Option Sending) → so ≡ o → told_by start t o ≡ []
  by_sending e None is = refl
  by_sending e (Some q) is = ap (told_to q.to) refl ∙ tells_none e q is (packet_tells start t q) refl

  is_silent : is_pushed ≡ false → TellsWhatWasSent start t
  is_silent e =
      told ∙ (ap (told_of start t) g.gets ∙ by_sending e so refl) ∙ sym (due ∙ ap (told_at (Some (suc i))) e)

  tells_calm : TellsWhatWasSent start t
  tells_calm = by is_pushed refl
    where
      by : (b : Bool) → is_pushed ≡ b → TellsWhatWasSent start t
      by true e = is_told e
      by false e = is_silent e

pub told_sent_law : ToldSentLaw
told_sent_law =
    joined_law (λ start t. TellsByRow start t × TellsPushes start t) (λ start t. ArePushed start t.past) TellsTheCalm (λ start t a b serial i g. tells_calm start t a.0 a.1 b serial i g)
    (joined_law TellsByRow TellsPushes (λ start t. TellsByRow start t × TellsPushes start t) (λ start t a b. (a, b)) told_law push_told_law) pushed_law
