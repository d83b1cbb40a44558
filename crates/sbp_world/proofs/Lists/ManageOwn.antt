-- What is in hand of an initiator's management stays as it hears a packet, lets a transaction time out, and sees a generation.
use Rattle.sbp_world.proofs.Words.Std.{arith, ◌≡◌, ◌∙◌, ◌⊎◌, inl, inr, refl, sym, ap, subst, ℕ, suc, ◌%◌, ◌≤◌, ◌<◌, nat_eq, Bool, true, false, List, ◌∷◌, Option, Some, None, Ok, nat_tests}
use Rattle.sbp_world.proofs.Words.Wire.{rcode_of, LabelParts, Packet, header_in, write_block, reading, awaits, kind_as, shape_of, transaction, ReplyKind, Layer, judging_step, of_response, purpose_for, state_for, judged_note, empty_outbox, Moment, said, Sending, Transaction, Held, terms, waits, Judged, Note}
use Rattle.sbp_world.proofs.Words.Target.{Disk}
use Rattle.sbp_world.proofs.Words.Initiator.{start_of, Purpose, Running, InitiatorState, Turn, is_conflict, receive_step, ending_of, is_orb_of, is_stuck_seat}
use Rattle.sbp_world.proofs.Words.Laws.{Underway, host_at, is_management}
use Rattle.sbp_world.proofs.Words.World.{behind, Core, Work, host_core, own_core, work_in, work_of, IsBusy, IsFree, IsRest, IsServed, IsTelling}
use Rattle.bus_memory.specs.declared.window.Window.TheVariants as windows
use Rattle.sbp_initiator.specs.declared.purpose.Ending.TheVariants as endings
use Rattle.sbp_initiator.specs.declared.purpose.Purpose.TheVariants as purposes
use Rattle.sbp_journal.specs.declared.cause.Judged.TheVariants as judgements
use Rattle.sbp_journal.specs.declared.note.Note.TheVariants as notes
use Rattle.sbp_world.proofs.Wire.Agrees.{got_agrees, ignored_agrees}
use Rattle.sbp_world.proofs.Wire.Deliver.{judging_stays}
use Rattle.sbp_world.proofs.Hosts.Aimed.{IsAimed}
use Rattle.sbp_world.proofs.Hosts.Held.{got_waits, ignored_quiet}
use Rattle.sbp_world.proofs.Hosts.Hosted.{Cored, hears_fit}
use Rattle.sbp_world.proofs.Hosts.Layered.{AreTame, Left as LayerOf}
use Rattle.sbp_world.proofs.Hosts.Lives.{At, judge_at}
use Rattle.sbp_world.proofs.Hosts.Pointed.{judged_called}
use Rattle.sbp_world.proofs.Hosts.Pointing.{called_of, under_way_now}
use Rattle.sbp_world.proofs.Hosts.Shown.{IsHeard, IsShown}
use Rattle.sbp_world.proofs.Lists.ManageFinds.{block_is_got, read_request, refused_rcode}
use Rattle.sbp_world.proofs.Lists.ManageFirsts.{Goes, goes_then, note_first, told_first}
use Rattle.sbp_world.proofs.Lists.ManageGot.{gets_other, got_busy, got_free}
use Rattle.sbp_world.proofs.Lists.ManageHand.{InHand, Own, busy_on}
use Rattle.sbp_world.proofs.Lists.ManageHears.{IsEndedBy, IsStatusFor, by_conflict, by_status, hears_left}
use Rattle.sbp_world.proofs.Lists.ManageLabels.{Asks, AskedFor, asks_to, ended_asks}
use Rattle.sbp_world.proofs.Lists.ManageLeaves.{IsEnded, Left}
use Rattle.sbp_world.proofs.Lists.ManageMoments.{Hands, IsAnswer, MayHand, TakeFacts, quiet_calm}
use Rattle.sbp_world.proofs.Lists.ManageNotes.{none_taken}
use Rattle.sbp_world.proofs.Lists.ManageSights.{told_busy, told_free, told_hands}
use Rattle.sbp_world.proofs.Lists.ManageStays.{Calms, calm_busy, calm_free, zero_or}
use Rattle.sbp_world.proofs.Lists.ManageTerms.{got_more, none_is, same_some}
use Rattle.sbp_world.proofs.Pointers.Ending.{read_in}
use Rattle.sbp_world.proofs.Pointers.Finds.{closed_over, closes_at}
use Rattle.sbp_world.proofs.Pointers.Guarded.{receive_got as response_got}
use Rattle.sbp_world.proofs.Common.{untrue}

-- ---- the operation under way, at the host and at the initiator

pub record AtHost (past : List Moment) (i : ℕ) (r : Running) : Type 0 where
  pub u : Underway
  pub is : (host_at past i).operation ≡ Some u
  pub same : u.operation ≡ r.operation

-- the operation of a work
work_same : (u : Underway) (r : Running) → work_of (Some u) ≡ work_in (Some r) → u.operation ≡ r.operation
work_same u r e = ap (λ (w : Work). w.operation) (same_some _ _ e)

at_host_by : (past : List Moment) (i : ℕ) (r : Running) (found : Option Underway) → (host_at past i).operation ≡ found → work_of found ≡ work_in (Some r) → AtHost past i r
at_host_by past i r None e w = none_is _ w
at_host_by past i r (Some u) e w = record { u = u; is = e; same = work_same u r w }

pub at_host : (past : List Moment) (i : ℕ) (s : InitiatorState) (r : Running) → host_core (host_at past i) ≡ own_core s → s.operation ≡ Some r → AtHost past i r
at_host past i s r c e = at_host_by past i r (host_at past i).operation refl (ap (λ (x : Core). x.work) c ∙ ap work_in e)

-- ---- a packet that was judged

module _ (start : List Disk) (serial : ℕ) (past : List Moment) (i : ℕ) where
  pub judged_free : (j : Judged) → MayHand start i (said (judged_note serial j)) past → IsFree start past i → IsFree start (said (judged_note serial j) ∷ past) i
  judged_free judgements.Got f k = got_free start past i serial f.packet f.facts k
  judged_free (judgements.Ignored cause) f k = calm_free (quiet_calm start i (notes.Ignored serial cause) past refl f) k

  judged_busy : (j : Judged) → MayHand start i (said (judged_note serial j)) past → (place write : ℕ) → IsBusy start past i place write → IsBusy start (said (judged_note serial j) ∷ past) i place write
  judged_busy judgements.Got f place write k = got_busy start past i serial f.packet f.facts place write k
  judged_busy (judgements.Ignored cause) f place write k = calm_busy (quiet_calm start i (notes.Ignored serial cause) past refl f) place write k

  pub judged_first : (j : Judged) → Goes (host_at past i) (host_at (said (judged_note serial j) ∷ past) i)
  judged_first judgements.Got = note_first (notes.Got serial) past i refl
  judged_first (judgements.Ignored cause) = note_first (notes.Ignored serial cause) past i refl

  judged_held : (j : Judged) (v : Transaction) (kind : ReplyKind) → shape_of ((terms (said (judged_note serial j) ∷ past)).held v) ≡ awaits kind → (terms (said (judged_note serial j) ∷ past)).held v ≡ (terms past).held v
  judged_held judgements.Got v kind e = got_waits ((terms past).sent serial) serial (terms past) v kind e
  judged_held (judgements.Ignored cause) v kind e = ap (λ (h : Transaction → Held). h v) (ignored_quiet ((terms past).sent serial) cause serial (terms past)).held

  judged_count : (j : Judged) → (terms past).count ≤ (terms (said (judged_note serial j) ∷ past)).count
  judged_count judgements.Got = let e = (got_agrees ((terms past).sent serial) serial (terms past)).count in omega (arith, e)
  judged_count (judgements.Ignored cause) = let e = (ignored_agrees ((terms past).sent serial) cause serial (terms past)).count in omega (arith, e)

pub conflict_is : (rcode : ℕ) → is_conflict rcode ≡ true → rcode ≡ 4
conflict_is rcode e = grind (arith, nat_tests)

pub is_orb : (managed : Option ℕ) (orb : ℕ) → is_orb_of managed orb ≡ true → (place : ℕ) × ((place < 2) × (orb ≡ start_of (windows.Management place)))
is_orb None orb e = untrue e
is_orb (Some m) orb e = (m % 2, ((let x : m % 2 < 2 = omega arith in x), (let x : orb ≡ start_of (windows.Management (m % 2)) = grind (arith, nat_tests) in x)))

module _ (ready : Bool) (start : List Disk) (serial generation : ℕ) (bytes : List ℕ) (past : List Moment) (i : ℕ) (s : InitiatorState) (heard : IsHeard past i serial generation bytes) (shown : IsShown past i s.target s.layer) (after : IsShown (said (judged_note serial (receive_step generation bytes empty_outbox s).0) ∷ past) i s.target (judging_step s.layer generation bytes).1) (cored : Cored ready past i s) (aimed : IsAimed ready i s) (h : InHand start past i s) where
  abbrev judged : Judged
  judged = (receive_step generation bytes empty_outbox s).0

  abbrev t : Turn
  t = (receive_step generation bytes empty_outbox s).1

  abbrev l : Layer Purpose
  l = (judging_step s.layer generation bytes).1

  abbrev note : Note
  note = judged_note serial judged

  abbrev heard_now : List Moment
  heard_now = said note ∷ past

  abbrev later : List Moment
  later = behind t.0.sides heard_now

  abbrev got_now : List Moment
  got_now = said (notes.Got serial) ∷ past

  -- the operation under way
  underway : (r : Running) → s.operation ≡ Some r → AtHost past i r
  underway r e = at_host past i s r cored.core e

  busy_is : (r : Running) (e : s.operation ≡ Some r) → is_management r.operation ≡ true → (let u = (underway r e).u in IsBusy start past i u.place u.first)
  busy_is r e m = let a = underway r e in h.busy a.u a.is (ap is_management a.same ∙ m)

  -- ---- what a packet that was got is

  module _ (f : TakeFacts start past i serial) where
    pub packet_is : f.packet ≡ heard.packet
    packet_is = same_some f.packet heard.packet (sym f.facts.sent ∙ heard.sent)

    pub to_it : f.packet.to ≡ suc i
    to_it = ap (λ (q : Sending). q.to) packet_is ∙ heard.to_is

    pub bytes_are : f.packet.bytes ≡ bytes
    bytes_are = ap (λ (q : Sending). q.bytes) packet_is ∙ heard.bytes_are

    -- of the target, where it names it
    pub of_target : (p : Packet) → reading bytes ≡ Ok p → (header_in p).source ≡ s.target → f.packet.from ≡ 0
    of_target p r e =
        let g : f.packet.generation ≡ s.layer.generation = f.facts.current ∙ ap (terms past).generation to_it ∙ sym shown.generation in
        let source = heard.source p (ap reading heard.bytes_are ∙ r) in
        let q = sym packet_is in
        heard.apart s.layer.generation f.packet.from 0
        (ap (λ n. (terms past).ids n f.packet.from) (sym g)
        ∙ ap (λ (x : Sending). (terms past).ids x.generation x.from) packet_is
        ∙ sym source ∙ e ∙ sym shown.named)

  -- ---- a response of conflict_error

  module _ (p : Packet) (label : LabelParts) (act rcode : ℕ) (found : (judging_step s.layer generation bytes).0 ≡ of_response p label (Some (purposes.Management act))) (r : Running) (under : s.operation ≡ Some r) (manages : is_management r.operation ≡ true) (own : r.act ≡ act) (ending : ending_of p ≡ endings.Refused rcode) (conflict : is_conflict rcode ≡ true) where
    a : At s.layer (header_in p).source label.number (Some (purposes.Management act))
    a = closes_at s.layer generation bytes p label (Some (purposes.Management act)) (called_of cored) found

    peer : (header_in p).source ≡ s.target
    peer = aimed.aims (header_in p).source label.number (Some (purposes.Management act)) a

    w : AskedFor past i s.layer.generation label.number act (Own past i s)
    w = h.labels.waits_for label.number act (subst (λ x. At s.layer x label.number (Some (purposes.Management act))) peer a)

    abbrev v : Transaction
    v = transaction s.layer.generation (suc i) 0 label.number

    over : (terms heard_now).held v ≡ waits w.kind w.serial → ⊥
    over e =
        let g : l.generation ≡ s.layer.generation = judging_stays s.layer generation bytes in
        let u = under_way_now (state_for l.peers s.target label.number) (kind_as w.kind) (after.states label.number ∙ ap (λ x. shape_of ((terms heard_now).held (transaction x (suc i) 0 label.number))) g ∙ ap shape_of e) in
        let b : At l s.target label.number (purpose_for l.peers s.target label.number) = record { kind = u.kind; serial = u.serial; state = u.is; is_for = refl } in
        closed_over s.layer generation bytes p label (Some (purposes.Management act)) (called_of cored) found (purpose_for l.peers s.target label.number) (subst (λ x. At l x label.number (purpose_for l.peers s.target label.number)) (sym peer) b)

    now_got : judged ≡ judgements.Got
    now_got = response_got generation bytes p label (Some (purposes.Management act)) s found

    module _ (f : TakeFacts start past i serial) where
      spelled : reading bytes ≡ Ok p
      spelled = read_in s.layer generation bytes p label (Some (purposes.Management act)) found

      code : rcode_of f.packet.bytes ≡ 4
      code = ap rcode_of (bytes_are f) ∙ refused_rcode bytes rcode p spelled ending ∙ conflict_is rcode conflict

      answer : IsAnswer past i label.number w.serial 4
      answer =
          let g = shown.generation in
          let at = underway r under in
          let b = (busy_is r under manages).own in
          let first_is : at.u.first ≡ w.serial = w.own r under own manages at.u at.is in
          f.answers (to_it f) (of_target f p spelled peer) label.number w.kind w.serial b.packet b.label (ap (terms past).sent (sym first_is) ∙ b.sent) b.part
          (ap (λ n. (terms past).held (transaction n (suc i) 0 label.number)) (sym g) ∙ w.held)
          (λ e. over (ap (λ j. (terms (said (judged_note serial j) ∷ past)).held v) now_got ∙ ap (λ n. (terms got_now).held (transaction n (suc i) 0 label.number)) g ∙ e))
          4 code

      -- it is that of the operation, whose write is over so
      free_before : IsFree start past i
      free_before =
          let at = underway r under in
          let b = busy_is r under manages in
          let first_is : at.u.first ≡ w.serial = w.own r under own manages at.u at.is in
          let news : 0 < (terms past).news at.u.first = subst (λ n. 0 < (terms past).news n) (sym first_is) answer.news in
          record {
            none = λ n place x. (let y = (b.only n place x).0 in let z = x.unjudged in let q = ap (terms past).news y in absurd (omega (arith, z, q, news)));
            rest = rest at.u b first_is (b.judged news);
          }
        where
          rest : (u : Underway) → IsBusy start past i u.place u.first → u.first ≡ w.serial → IsRest start past i ⊎ IsServed start past i u.place u.first → IsRest start past i
          rest u b e (inl k) = k
          rest u b e (inr k) =
              let x = k.accepted in
              absurd (x.given answer.packet (transaction ((terms past).generation (suc i)) (suc i) 0 label.number) (ap (terms past).sent e ∙ answer.sent) answer.begun (answer.current ∙ sym e) (none_taken past f.facts.none u.first) answer.given)

  -- ---- a status block

  module _ (r : Running) (under : s.operation ≡ Some r) (manages : is_management r.operation ≡ true) (b : IsStatusFor s generation bytes r) (f : TakeFacts start past i serial) where
    abbrev at_orb : (place : ℕ) × ((place < 2) × (b.block.orb ≡ start_of (windows.Management place)))
    at_orb = is_orb r.managed b.block.orb b.names

    read_it : reading bytes ≡ Ok (write_block b.header b.offset b.payload)
    read_it = read_request s.layer generation bytes (write_block b.header b.offset b.payload) b.found

    telling : IsTelling start past i serial at_orb.0
    telling =
        f.tells (to_it f) (of_target f (write_block b.header b.offset b.payload) read_it b.source) b.header b.offset b.payload (ap reading (bytes_are f) ∙ read_it) s.counts.logins _ b.is_open_fifo b.block b.read b.status b.kind at_orb.0 at_orb.1.0 at_orb.1.1

    calm : Calms start past got_now i
    calm = gets_other start past i serial f.packet f.facts (let e = to_it f in let x : nat_eq f.packet.to 0 ≡ false = grind (arith, nat_tests) in x)

    -- what it leaves is at rest
    served_free : (place write : ℕ) → IsBusy start past i place write → 0 < (terms past).news write → IsServed start past i place write → IsFree start got_now i
    served_free place write k more y = record {
      none = λ n at x. (let z = (k.only n at (calm.asking n at x)).0 in let w = (calm.asking n at x).unjudged in let q = ap (terms past).news z in absurd (omega (arith, w, q, more)));
      rest = record {
        silent = λ n at x.
            let one = y.one n serial at at_orb.0 (calm.telling n at x) telling in
            let m = got_more serial past f.packet f.facts.sent in
            let z = x.unjudged in
            let q = ap (terms got_now).news one in
            absurd (omega (arith, m, z, q));
        over = λ at op x. (let had = calm.handling at op x in had.goes (y.status serial at_orb.0 telling at had.was had.before));
      };
    }

    free_then : IsFree start got_now i
    free_then =
        let at = underway r under in
        let k = busy_is r under manages in
        zero_or ((terms past).news at.u.first) (λ e. absurd ((k.waiting e).silent serial at_orb.0 telling)) (λ m. by at.u k m (k.judged m))
      where
        by : (u : Underway) → IsBusy start past i u.place u.first → 0 < (terms past).news u.first → IsRest start past i ⊎ IsServed start past i u.place u.first → IsFree start got_now i
        by u k m (inl x) = absurd (x.silent serial at_orb.0 telling)
        by u k m (inr y) = served_free u.place u.first k m y

  -- ---- all that it leaves

  module _ (tame : AreTame t.0.sides) (hands : Hands start i later) where
    known : Hands start i heard_now
    known = told_hands start i t.0.sides heard_now tame hands

    left : Left s (λ r. IsEndedBy s generation bytes r) t.1
    left = hears_left s generation bytes (hears_fit ready i s cored.own.called generation bytes)

    got_facts : judged ≡ judgements.Got → TakeFacts start past i serial
    got_facts e = subst (λ j. MayHand start i (said (judged_note serial j)) past) e known.0

    heard_free : IsFree start past i → IsFree start heard_now i
    heard_free k = judged_free start serial past i judged known.0 k

    ended_free : (r : Running) → s.operation ≡ Some r → is_management r.operation ≡ true → IsEndedBy s generation bytes r → IsFree start heard_now i
    ended_free r e m (by_conflict p label act rcode found own ending conflict) =
        heard_free (free_before p label act rcode found r e m own ending conflict (got_facts (now_got p label act rcode found r e m own ending conflict)))
    ended_free r e m (by_status b) =
        let got = block_is_got s generation bytes r b e in
        subst (λ j. IsFree start (said (judged_note serial j) ∷ past) i) (sym got) (free_then r e m b (got_facts got))

    free_as : (found : Option Running) → s.operation ≡ found → IsEnded s (λ r. IsEndedBy s generation bytes r) t.1 → is_stuck_seat t.1.seat ≡ false → IsFree start heard_now i
    free_as None e k n = heard_free (h.free (λ r f. none_is r (sym e ∙ f)) (left.unstuck n))
    free_as (Some r) e k n = by (is_management r.operation) refl
      where
        by : (b : Bool) → is_management r.operation ≡ b → IsFree start heard_now i
        by true m = ended_free r e m (k.why r e m n)
        by false m = heard_free (h.free (λ x f. ap (λ (y : Running). is_management y.operation) (same_some x r (sym f ∙ e)) ∙ m) (left.unstuck n))

    free_now : ((r : Running) → t.1.operation ≡ Some r → is_management r.operation ≡ false) → is_stuck_seat t.1.seat ≡ false → IsFree start later i
    free_now none n = told_free start i t.0.sides heard_now tame hands (by left.operation)
      where
        by : (t.1.operation ≡ s.operation) ⊎ IsEnded s (λ r. IsEndedBy s generation bytes r) t.1 → IsFree start heard_now i
        by (inl e) = heard_free (h.free (λ r f. none r (e ∙ f)) (left.unstuck n))
        by (inr k) = free_as s.operation refl k n

    goes : Goes (host_at past i) (host_at later i)
    goes = goes_then (host_at past i) (host_at heard_now i) (host_at later i) (judged_first start serial past i judged) (told_first t.0.sides heard_now i tame)

    own_now : (act n : ℕ) → Own past i s act n → Own later i t.1 act n
    own_now act n k = by left.operation
      where
        by : (t.1.operation ≡ s.operation) ⊎ IsEnded s (λ r. IsEndedBy s generation bytes r) t.1 → Own later i t.1 act n
        by (inl e) = λ r f a m u g. (let w = goes.on u g in sym w.first ∙ k r (sym e ∙ f) a m w.was w.is)
        by (inr d) = λ r f a m u g. none_is r (sym d.none ∙ f)

    labels_now : LayerOf l s.target t → Asks later i t.1.target t.1.layer (Own later i t.1)
    labels_now x =
        subst (λ n. Asks later i n t.1.layer (Own later i t.1)) (sym x.target_is)
        (asks_to (Own past i s) (Own later i t.1) own_now
        (ended_asks (Own past i s) past note i s.target s.layer l (judged_held start serial past i judged) (judged_count start serial past i judged) h.labels (judged_called ready s.layer generation bytes (called_of cored)) (judging_stays s.layer generation bytes)
        (λ m q a. judge_at s.layer generation bytes s.target m q (called_of cored) a) after t.0.sides tame t.1.layer x.layer))

    pub hears_hand : LayerOf l s.target t → InHand start later i t.1
    hears_hand x = record {
      free = free_now;
      busy = busy_on start past later i (λ place write k. told_busy start i t.0.sides heard_now tame hands place write (judged_busy start serial past i judged known.0 place write k)) goes h.busy;
      labels = labels_now x;
    }
