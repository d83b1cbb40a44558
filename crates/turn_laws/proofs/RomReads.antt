-- What a call of an initiator makes of what it has of a ROM: what its notes of operations say, behind the quadlet that a response brings, and nothing else.
use Rattle.std.proofs.Common.{arith, ◌≡◌, ◌∙◌, inl, inr, ◌⊎◌, refl, sym, ap, subst, ℕ, ◌<◌, ◌≤◌, ◌==◌, nat_lt, Bool, true, false, cond, List, [], ◌∷◌, ◌++◌, length, Option, Some, None, Result, Ok, Err}
use Rattle.std.proofs.lemmas.Bool.Decides.{nat_tests}
use Rattle.async_packet.specs.Labels.{LabelParts}
use Rattle.async_packet.specs.Packet.{Packet, header_in}
use Rattle.bus_memory.specs.Windows.{slot_of}
use Rattle.label_table.specs.declared.judgement.Asked.{Asked}
use Rattle.label_table.specs.declared.reply.Stale.{Stale}
use Rattle.label_table.specs.Layer.{Finding, Layer, answering_step, expiring_step, judging_step, of_again, of_generation, of_grammar, of_label, of_request, of_response, seeing_step}
use Rattle.orb_layout.specs.declared.status.StatusBlock.{StatusBlock}
use Rattle.orb_layout.specs.declared.status.StatusKind.{StatusKind}
use Rattle.orb_layout.specs.declared.status.StatusKind.TheVariants as kinds
use Rattle.orb_list.specs.Lists.{ListState, drop_lists, high_lists, low_lists, take_lists}
use Rattle.orb_list.specs.Table.{find_in}
use Rattle.orb_list.specs.Tickets.{TicketParts}
use Rattle.orb_list.specs.declared.list.PresentList.{PresentList}
use Rattle.sbp_initiator.proofs.Histories.Effects.{Fits, ended_does}
use Rattle.sbp_initiator.proofs.Histories.Over.{sound}
use Rattle.sbp_initiator.proofs.Histories.Purposes.{IfFor}
use Rattle.sbp_initiator.proofs.Histories.Requests.{HasOrb, request_answers}
use Rattle.sbp_initiator.specs.Acting.{act_step, append_step, asked_as, asked_for, demand_of, demanded_as, done_step, dummy_for, facts_with, judged_as, link_as, link_step, login_id, low_as, low_step, managed_by, orb_by, pinned_for, put_as, put_step, ring_for, with_running}
use Rattle.sbp_initiator.specs.Commands.{put_lists}
use Rattle.sbp_initiator.specs.Effects.{Turn, dropped_as, ended_for}
use Rattle.sbp_initiator.specs.Histories.Drops.{drop_if, ends_the_list}
use Rattle.sbp_initiator.specs.Histories.Ends.{OpEnd, OpMove, drops, fails_write, notes_of, ops, own, read_ends, state_ops, sticks, sticks_by}
use Rattle.sbp_initiator.specs.Histories.Taking.{Brought, block_drops, block_note, block_notes, brought, nothing, status, taken_by, taken_of, unsolicited, waiting_at}
use Rattle.sbp_initiator.specs.Receiving.{called, expire_step, expired_as, receive_step, received, request_step}
use Rattle.sbp_initiator.specs.Refusals.{refusal}
use Rattle.sbp_initiator.specs.Seeing.{all_end, interrupted, reset_told, resets_told, see_step, seen_as, states_end}
use Rattle.sbp_initiator.specs.States.{ending_of, is_unwritten, no_marks}
use Rattle.sbp_initiator.specs.declared.purpose.Demand.{Demand}
use Rattle.sbp_initiator.specs.declared.purpose.Ending.{Ending}
use Rattle.sbp_initiator.specs.declared.purpose.Ending.TheVariants as endings
use Rattle.sbp_initiator.specs.declared.purpose.Pointing.TheVariants as pointings
use Rattle.sbp_initiator.specs.declared.purpose.Purpose.{Purpose}
use Rattle.sbp_initiator.specs.declared.purpose.Purpose.TheVariants as purposes
use Rattle.sbp_initiator.specs.declared.purpose.Running.{Running}
use Rattle.sbp_initiator.specs.declared.state.InitiatorState.{InitiatorState}
use Rattle.sbp_journal.specs.Outgoings.{OutboxState, empty_outbox}
use Rattle.sbp_journal.specs.declared.event.Action.{Action}
use Rattle.sbp_journal.specs.declared.event.Action.TheVariants as actions
use Rattle.sbp_journal.specs.declared.event.Cmd.{Cmd}
use Rattle.sbp_journal.specs.declared.note.Note.{Note}
use Rattle.sbp_journal.specs.declared.note.Note.TheVariants as notes
use Rattle.sbp_journal.specs.declared.operation.Operation.{Operation}
use Rattle.sbp_journal.specs.declared.operation.Operation.TheVariants as operations
use Rattle.sbp_journal.specs.declared.operation.OpWord.{OpWord}
use Rattle.sbp_journal.specs.declared.operation.OpWord.TheVariants as words
use Rattle.sbp_journal.specs.declared.side.Side.TheVariants as sides
use Rattle.sbp_session.specs.Moves.{goes, pointing}
use Rattle.sbp_world.proofs.Common.{none_is, same_number, some_none}
use Rattle.sbp_world.proofs.Hosts.Hosted.{expires_fit, hears_fit}
use Rattle.sbp_world.proofs.Hosts.KnowEnds.{Points}
use Rattle.sbp_world.proofs.Hosts.KnowHears.{IfExpires, IfFits}
use Rattle.sbp_world.proofs.Hosts.Statuses.Hearing.{answer_silent}
use Rattle.sbp_world.specs.Hosts.Calling.{IsCalled}
use Rattle.turn_laws.proofs.HostRoms.{AllOwn, Rom, begun_rom, own_both, rom}
use Rattle.turn_laws.proofs.RomEnds.{RomGoes, ended_leaves, ends, goes_on, is_plain, left_own, own_rom, read_on, rom_goes}
use Rattle.turn_laws.proofs.RomLabels.{IfRom, IsRom, apart_fits, bare}
use Rattle.turn_laws.proofs.RomStays.{request_reads, request_stays}

-- ---- what notes make of it
abbrev pub note_own : Note → Rom → Rom
note_own (notes.Op j operation word) r = left_own operation word r
note_own note r = r

abbrev pub told_own : List Note → Rom → Rom
told_own [] r = r
told_own (note ∷ later) r = told_own later (note_own note r)

told_both : (a b : List Note) (r : Rom) → told_own (a ++ b) r ≡ told_own b (told_own a r)
told_both [] b r = refl
told_both (note ∷ a) b r = told_both a b (note_own note r)

-- notes of an initiator that leave it
record AreQuiet (number : ℕ) (ns : List Note) : Type 0 where
  owned : AllOwn number ns
  leave : (r : Rom) → told_own ns r ≡ r

quiet_both : (number : ℕ) (a b : List Note) → AreQuiet number a → AreQuiet number b → AreQuiet number (a ++ b)
quiet_both number a b h k = record { owned = own_both number a b h.owned k.owned; leave = λ r. told_both a b r ∙ ap (told_own b) (h.leave r) ∙ k.leave r }

none_quiet : (number : ℕ) → AreQuiet number []
none_quiet number = record { owned = tt; leave = λ r. refl }

-- What a call tells and leaves, behind these quadlets: those from before, or fewer than 256 where a ROM goes on.
pub record LearnsBy (number : ℕ) (management : Option ℕ) (before q : List ℕ) (t : Turn) : Type 0 where
  pub told : List Note
  pub sides : t.0.sides ≡ own told
  pub owned : AllOwn number told
  pub is : own_rom t.1 ≡ told_own told (rom q management)
  pub over : (q ≡ before) ⊎ IfRom t.1 (λ r. (length q == 256) ≡ false)

abbrev pub Learns : InitiatorState → List ℕ → Turn → Type 0
Learns s q t = LearnsBy s.number s.management s.quads q t

told_quads : (ns : List Note) (r : Rom) → (told_own ns r).quads ≡ r.quads
told_quads [] r = refl
told_quads (notes.Op j operation word ∷ later) r = told_quads later (left_own operation word r) ∙ left_quads operation word r
  where
    left_quads : (operation : Operation) (word : OpWord) (r : Rom) → (left_own operation word r).quads ≡ r.quads
    left_quads operations.Rom words.Done r = refl
    left_quads operations.Rom word r = refl
    left_quads operation word r = refl
told_quads (note ∷ later) r = told_quads later r

-- the quadlets from before, or at most those of a ROM
abbrev pub IsShort : List ℕ → List ℕ → Type 0
IsShort before q = (q ≡ before) ⊎ (length q ≤ 256)

pub few_behind : (s : InitiatorState) (q : List ℕ) (t : Turn) → Learns s q t → IsShort s.quads q → IfRom s (λ r. length s.quads < 256) → ((r : Running) → t.1.operation ≡ Some r → s.operation ≡ Some r) → IfRom t.1 (λ r. length t.1.quads < 256)
few_behind s q t L short few was r e k = subst (λ xs. length xs < 256) (sym (ap (λ (x : Rom). x.quads) L.is ∙ told_quads L.told (rom q s.management))) (by L.over short)
  where
    by : (q ≡ s.quads) ⊎ IfRom t.1 (λ r. (length q == 256) ≡ false) → IsShort s.quads q → length q < 256
    by (inl f) m = subst (λ xs. length xs < 256) (sym f) (few r (was r e) k)
    by (inr f) (inl m) = subst (λ xs. length xs < 256) (sym m) (few r (was r e) k)
    by (inr f) (inr m) = (let x : (length q == 256) ≡ false = f r e k in grind (arith, nat_tests))

-- ---- the end of a transaction, or of nothing, by the operation that ends
not_rom : (operation : Operation) (word : OpWord) (r : Rom) → (operation ≡ operations.Rom → ⊥) → left_own operation word r ≡ r
not_rom operations.Rom word r n = absurd (n refl)
not_rom operation word r n = refl

state_left : (word : OpWord) (r : Rom) → left_own operations.State word r ≡ r
state_left word r = refl

drops_quiet : (number : ℕ) (drop : Option ℕ) → AreQuiet number (drops number drop)
drops_quiet number None = none_quiet number
drops_quiet number (Some list) = record { owned = (refl, tt); leave = λ r. refl }

states_quiet : (number : ℕ) (state : Option OpWord) → AreQuiet number (state_ops number state)
states_quiet number None = none_quiet number
states_quiet number (Some word) = record { owned = (same_number number, tt); leave = λ r. state_left word r }

sticks_quiet : (number : ℕ) (stuck : Bool) → AreQuiet number (sticks number stuck)
sticks_quiet number false = none_quiet number
sticks_quiet number true = record { owned = (refl, tt); leave = λ r. refl }

-- one that is not of a ROM, where that stays
rests : (before after : Option Running) → ((r : Running) → before ≡ Some r → r.operation ≡ operations.Rom → after ≡ Some r) → (op : Option OpEnd) → OpMove before op after → (number : ℕ) → AreQuiet number (ops number op)
rests before after stays None m number = none_quiet number
rests before after stays (Some end) m number = record {
  owned = (same_number number, tt);
  leave = λ r. not_rom end.operation end.word r (λ e. none_is m.0.running (sym m.1 ∙ stays m.0.running m.0.under_way (m.0.same ∙ e)));
}

notes_quiet : (number : ℕ) (drop : Option ℕ) (op : Option OpEnd) (state : Option OpWord) (stuck : Bool) → AreQuiet number (ops number op) → AreQuiet number (notes_of number drop op state stuck)
notes_quiet number drop op state stuck h =
    quiet_both number (drops number drop) (ops number op ++ (state_ops number state ++ sticks number stuck)) (drops_quiet number drop)
    (quiet_both number (ops number op) (state_ops number state ++ sticks number stuck) h (quiet_both number (state_ops number state) (sticks number stuck) (states_quiet number state) (sticks_quiet number stuck)))

-- where all notes leave it
quietly : (s : InitiatorState) (t : Turn) (ns : List Note) → t.0.sides ≡ own ns → AreQuiet s.number ns → own_rom t.1 ≡ own_rom s → Learns s s.quads t
quietly s t ns e h is = record { told = ns; sides = e; owned = h.owned; is = is ∙ sym (h.leave (own_rom s)); over = inl refl }

-- the quadlets behind the end of a transaction
abbrev pub quads_for : Option Purpose → Ending → List ℕ → List ℕ
quads_for (Some (purposes.Rom act)) ending q = read_on ending q
quads_for purpose ending q = q

-- a read of a ROM is of the operation
abbrev pub OfRom : Option Purpose → InitiatorState → Type 0
OfRom (Some (purposes.Rom act)) s = IsRom act s.operation
OfRom purpose s = Unit {0}

module _ (ending : Ending) (s : InitiatorState) where
  plain_learns : (purpose : Purpose) → is_plain purpose ≡ true → Fits purpose s.operation × Points purpose s.lists.slots.present s.marks.pointing → Learns s s.quads (ended_for (Some purpose) ending empty_outbox s)
  plain_learns purpose plain f =
      let d = (ended_does purpose ending empty_outbox s f.0).does in
      let t = ended_for (Some purpose) ending empty_outbox s in
      let any : Running = record { operation = operations.Rom; act = 0; managed = None } in
      let drop = drop_if (ends_the_list purpose ending s.lists.slots.present) s.lists.slots.present in
      let state = read_ends purpose ending in
      let stuck = sticks_by (fails_write purpose ending) s.seat in
      quietly s t (notes_of s.number drop d.op state stuck) d.sides
      (notes_quiet s.number drop d.op state stuck
      (rests s.operation t.1.operation
      (λ r e k. (ended_leaves r (Unit {0}) purpose ending empty_outbox s plain (λ x. apart_fits r purpose k (subst (Fits purpose) e f.0))).operation tt e) d.op d.move s.number))
      (ended_leaves any ⊥ purpose ending empty_outbox s plain (λ x. absurd x)).read

  rom_learns : (act : ℕ) → IsRom act s.operation → Learns s (read_on ending s.quads) (ended_for (Some (purposes.Rom act)) ending empty_outbox s)
  rom_learns act k =
      subst (λ n. Learns s (read_on ending s.quads) (ended_for (Some (purposes.Rom n)) ending empty_outbox s)) k.act (by (rom_goes k.running k.kind empty_outbox s k.is ending))
    where
      by : {t : Turn} → RomGoes empty_outbox s k.running.act (read_on ending s.quads) t → Learns s (read_on ending s.quads) t
      by (ends word x) = record { told = notes.Op s.number operations.Rom word ∷ []; sides = x.sides; owned = (same_number s.number, tt); is = x.is; over = inr (λ r e f. none_is r (sym x.operation ∙ e)) }
      by (goes_on x) = record { told = []; sides = x.sides; owned = tt; is = x.is; over = inr (λ r e f. x.more) }

  pub ended_learns : (purpose : Option Purpose) → IfFor (λ p. Fits p s.operation × Points p s.lists.slots.present s.marks.pointing) purpose → OfRom purpose s → Learns s (quads_for purpose ending s.quads) (ended_for purpose ending empty_outbox s)
  ended_learns None f g = quietly s (empty_outbox, s) [] refl (none_quiet s.number) refl
  ended_learns (Some (purposes.Rom act)) f g = rom_learns act g
  ended_learns (Some (purposes.Pointer list)) f g = plain_learns (purposes.Pointer list) refl f
  ended_learns (Some purposes.Doorbell) f g = plain_learns purposes.Doorbell refl f
  ended_learns (Some (purposes.AgentReset act)) f g = plain_learns (purposes.AgentReset act) refl f
  ended_learns (Some (purposes.Enable act)) f g = plain_learns (purposes.Enable act) refl f
  ended_learns (Some (purposes.Management act)) f g = plain_learns (purposes.Management act) refl f
  ended_learns (Some (purposes.State act list)) f g = plain_learns (purposes.State act list) refl f

-- ---- a time-out
abbrev pub late_quads : Result (Option Purpose) Stale → List ℕ → List ℕ
late_quads (Ok purpose) q = quads_for purpose endings.Expired q
late_quads (Err stale) q = q

abbrev pub LateOfRom : Result (Option Purpose) Stale → InitiatorState → Type 0
LateOfRom (Ok purpose) s = OfRom purpose s
LateOfRom (Err stale) s = Unit {0}

expired_learns : (r : Result (Option Purpose) Stale) (layer : Layer Purpose) (s : InitiatorState) → IfExpires r s → LateOfRom r s → Learns s (late_quads r s.quads) (expired_as (r, layer) empty_outbox s).1
expired_learns (Err stale) layer s f g = quietly s (empty_outbox, record s { layer = layer }) [] refl (none_quiet s.number) refl
expired_learns (Ok purpose) layer s f g = ended_learns endings.Expired (called (record s { layer = layer })) purpose f (of_rom purpose g)
  where
    of_rom : (q : Option Purpose) → OfRom q s → OfRom q (called (record s { layer = layer }))
    of_rom (Some (purposes.Rom act)) h = h
    of_rom q h = tt

-- a quadlet comes of a response alone
late_same : (r : Result (Option Purpose) Stale) (q : List ℕ) → late_quads r q ≡ q
late_same (Ok (Some (purposes.Rom act))) q = refl
late_same (Ok (Some purpose)) q = refl
late_same (Ok None) q = refl
late_same (Err stale) q = refl

pub expire_learns : (ready : Bool) (i : ℕ) (s : InitiatorState) → IsCalled ready i s → (label : LabelParts) → LateOfRom (expiring_step s.layer s.target label).0 s → Learns s s.quads (expire_step label empty_outbox s).1
unfolding expire_step
expire_learns ready i s h label g =
    let r = (expiring_step s.layer s.target label).0 in
    subst (λ q. Learns s q (expired_as (r, (expiring_step s.layer s.target label).1) empty_outbox s).1) (late_same r s.quads) (expired_learns r (expiring_step s.layer s.target label).1 s (expires_fit ready i s h label) g)

-- ---- a delivery
-- what it takes or is told first
one_quiet : (number : ℕ) (t : TicketParts) (kind : StatusKind) (lists : ListState) → AreQuiet number (block_notes (taken_of (Some t) kind lists number))
one_quiet number t kind lists = record { owned = (refl, tt); leave = λ r. refl }

module _ (s : InitiatorState) where
  taken_quiet : (found : Option TicketParts) (kind : StatusKind) (lists : ListState) → AreQuiet s.number (block_notes (taken_of found kind lists s.number))
  taken_quiet None kind lists = none_quiet s.number
  taken_quiet (Some t) kind lists = one_quiet s.number t kind lists

  kind_quiet : (kind : StatusKind) (block : StatusBlock) → AreQuiet s.number (block_notes (taken_by kind block s))
  kind_quiet (kinds.Management code) block = none_quiet s.number
  kind_quiet kind block = taken_quiet (waiting_at s.lists.slots.slots (slot_of block.orb)) kind (take_lists s.lists block).1

  brought_quiet : (b : Brought) → AreQuiet s.number (block_notes (block_note b s))
  brought_quiet nothing = none_quiet s.number
  brought_quiet unsolicited = record { owned = (refl, tt); leave = λ r. refl }
  brought_quiet (status block) = kind_quiet block.kind block

abbrev pub heard_quads : Finding Purpose → List ℕ → List ℕ
heard_quads (of_response p label purpose) q = quads_for purpose (ending_of p) q
heard_quads finding q = q

abbrev pub HeardOfRom : Finding Purpose → InitiatorState → Type 0
HeardOfRom (of_response p label purpose) s = OfRom purpose s
HeardOfRom finding s = Unit {0}

module _ (ready : Bool) (i : ℕ) (s : InitiatorState) (h : IsCalled ready i s) (generation : ℕ) (bytes : List ℕ) where
  has : HasOrb s.operation
  has = subst (λ (x : InitiatorState). HasOrb x.operation) h.is (sound i ready h.calls).orb

  has_of : (r : Running) → s.operation ≡ Some r → HasOrb (Some r)
  has_of r e = subst HasOrb e has

  answered : (p : Packet) (layer : Layer Purpose) → (let u = record s { layer = layer } in Learns s s.quads (request_step p bytes empty_outbox u).1)
  answered p layer =
      let u : InitiatorState = record s { layer = layer } in
      let a = request_answers bytes empty_outbox u has p in
      let t = (request_step p bytes empty_outbox u).1 in
      let drop = drop_if (block_drops (brought p u) u) s.lists.slots.present in
      quietly s t (block_notes (block_note (brought p u) u) ++ notes_of s.number drop a.op None false) a.sides
      (quiet_both s.number (block_notes (block_note (brought p u) u)) (notes_of s.number drop a.op None false) (brought_quiet u (brought p u))
      (notes_quiet s.number drop a.op None false (rests s.operation t.1.operation (λ r e k. request_stays r (bare r (has_of r e) k) bytes empty_outbox u e p) a.op a.move s.number)))
      (request_reads bytes empty_outbox u p)

  again_rom : (p : Packet) (rcode : ℕ) (layer : Layer Purpose) → own_rom (received (of_again p rcode, layer) bytes empty_outbox s).1.1 ≡ own_rom s
  unfolding answering_step
  again_rom p rcode layer = refl

  by_finding : (f : Finding Purpose) (layer : Layer Purpose) → IfFits f s → HeardOfRom f s → Learns s (heard_quads f s.quads) (received (f, layer) bytes empty_outbox s).1
  by_finding of_generation layer f g = quietly s (empty_outbox, record s { layer = layer }) [] refl (none_quiet s.number) refl
  by_finding of_grammar layer f g = quietly s (empty_outbox, record s { layer = layer }) [] refl (none_quiet s.number) refl
  by_finding of_label layer f g = quietly s (empty_outbox, record s { layer = layer }) [] refl (none_quiet s.number) refl
  by_finding (of_response p label purpose) layer f g = ended_learns (ending_of p) (called (record s { layer = layer })) purpose f (of_rom purpose g)
    where
      of_rom : (q : Option Purpose) → OfRom q s → OfRom q (called (record s { layer = layer }))
      of_rom (Some (purposes.Rom act)) h = h
      of_rom q h = tt
  by_finding (of_again p rcode) layer f g =
      let answer = answering_step layer p bytes rcode [] in
      quietly s _ [] (answer_silent answer (header_in p).source empty_outbox (record s { layer = layer })) (none_quiet s.number) (again_rom p rcode layer)
  by_finding (of_request p) layer f g = answered p layer

  pub hears_learns : HeardOfRom (judging_step s.layer generation bytes).0 s → Learns s (heard_quads (judging_step s.layer generation bytes).0 s.quads) (receive_step generation bytes empty_outbox s).1
  unfolding receive_step
  hears_learns g = let found = judging_step s.layer generation bytes in by_finding found.0 found.1 (hears_fit ready i s h generation bytes) g

-- ---- a sight
record TellsQuiet (number : ℕ) (o : OutboxState) : Type 0 where
  told : List Note
  sides : o.sides ≡ own told
  quiet : AreQuiet number told

own_more : (ns : List Note) (note : Note) → own ns ++ sides.Own note ∷ [] ≡ own (ns ++ note ∷ [])
own_more [] note = refl
own_more (n ∷ ns) note = ap (λ xs. sides.Own n ∷ xs) (own_more ns note)

tells_more : (number : ℕ) (o : OutboxState) (note : Note) → AreQuiet number (note ∷ []) → TellsQuiet number o → TellsQuiet number (record o { sides = o.sides ++ sides.Own note ∷ [] })
tells_more number o note q h = record {
  told = h.told ++ note ∷ [];
  sides = ap (λ xs. xs ++ sides.Own note ∷ []) h.sides ∙ own_more h.told note;
  quiet = quiet_both number h.told (note ∷ []) h.quiet q;
}

reset_left : (operation : Operation) (r : Rom) → left_own operation words.Reset r ≡ r
reset_left operations.Rom r = refl
reset_left operation r = refl

resets : (number : ℕ) (operation : Operation) (o : OutboxState) → TellsQuiet number o → TellsQuiet number (reset_told number operation o)
resets number operation o h = tells_more number o (notes.Op number operation words.Reset) (record { owned = (same_number number, tt); leave = λ r. reset_left operation r }) h

states_all : (number : ℕ) (acts : List ℕ) (o : OutboxState) → TellsQuiet number o → TellsQuiet number (states_end number acts o)
states_all number [] o h = h
states_all number (act ∷ acts) o h = states_all number acts (reset_told number operations.State o) (resets number operations.State o h)

pick_tells : (number : ℕ) (b : Bool) (x y : OutboxState) → TellsQuiet number x → TellsQuiet number y → TellsQuiet number (cond b x y)
pick_tells number true x y h k = h
pick_tells number false x y h k = k

all_all : (number : ℕ) (running : Running) (acts : List ℕ) (o : OutboxState) → TellsQuiet number o → TellsQuiet number (all_end number running acts o)
all_all number running [] o h = resets number running.operation o h
all_all number running (act ∷ acts) o h =
    pick_tells number (nat_lt running.act act) _ _ (states_all number (act ∷ acts) (reset_told number running.operation o) (resets number running.operation o h))
    (all_all number running acts (reset_told number operations.State o) (resets number operations.State o h))

resets_all : (number : ℕ) (operation : Option Running) (acts : List ℕ) (o : OutboxState) → TellsQuiet number o → TellsQuiet number (resets_told number operation acts o)
resets_all number None acts o h = states_all number acts o h
resets_all number (Some running) acts o h = all_all number running acts o h

learned : (s : InitiatorState) (t : Turn) → TellsQuiet s.number t.0 → own_rom t.1 ≡ own_rom s → Learns s s.quads t
learned s t h is = quietly s t h.told h.sides h.quiet is

sight_drops : (s : InitiatorState) (target : ℕ) (d : Option ℕ × ListState) (o : OutboxState) → TellsQuiet s.number o → (let t = dropped_as d o (interrupted s target) in TellsQuiet s.number t.0 × (own_rom t.1 ≡ own_rom s))
sight_drops s target (None, lists) o h = (h, refl)
sight_drops s target (Some n, lists) o h = (tells_more s.number o (notes.Drop s.number n) (record { owned = (refl, tt); leave = λ r. refl }) h, refl)

sees_by : (r : Bool × Layer Purpose) (target : ℕ) (s : InitiatorState) → Learns s s.quads (seen_as r target empty_outbox s)
sees_by (false, layer) target s = quietly s (empty_outbox, record s { layer = layer }) [] refl (none_quiet s.number) refl
sees_by (true, layer) target s =
    let u : InitiatorState = record s { layer = layer } in
    let x = sight_drops u target (drop_lists u.lists) (resets_told u.number u.operation u.states empty_outbox) (resets_all u.number u.operation u.states empty_outbox (record { told = []; sides = refl; quiet = none_quiet u.number })) in
    learned s (seen_as (true, layer) target empty_outbox s) x.0 x.1

pub sees_learns : (generation id target : ℕ) (s : InitiatorState) → Learns s s.quads (see_step generation id target empty_outbox s)
unfolding see_step
sees_learns generation id target s = sees_by (seeing_step s.layer generation id) target s

-- ---- an action: `rom` begins a ROM, and every other one leaves it
pick_rom : (b : Bool) (x y s : InitiatorState) → own_rom x ≡ own_rom s → own_rom y ≡ own_rom s → own_rom (cond b x y) ≡ own_rom s
pick_rom true x y s h k = h
pick_rom false x y s h k = k

puts_rom : (r : Option TicketParts × ListState) (cmd : Cmd) (o : OutboxState) (s : InitiatorState) → own_rom (put_as r cmd o s).1 ≡ own_rom s
puts_rom (None, lists) cmd o s = refl
puts_rom (Some t, lists) cmd o s = pick_rom (t.number == 0) (record s { lists = lists; marks = record no_marks { first = t.slot } }) (record s { lists = lists }) s refl refl

lows_rom : (r : Option TicketParts × ListState) (o : OutboxState) (s : InitiatorState) → own_rom (low_as r o s).1 ≡ own_rom s
lows_rom (None, lists) o s = refl
lows_rom (Some t, lists) o s = refl

links_rom : (r : Option TicketParts × ListState) (o : OutboxState) (s : InitiatorState) → own_rom (link_as r o s).1 ≡ own_rom s
links_rom (None, lists) o s = refl
links_rom (Some t, lists) o s = refl

rings_rom : (present : Option PresentList) (o : OutboxState) (s : InitiatorState) → own_rom (ring_for present o s).1 ≡ own_rom s
rings_rom None o s = refl
rings_rom (Some list) o s = pick_rom (is_unwritten s.marks.pointing) (record s { marks = record s.marks { pointing = pointings.Written }; seat = goes pointing s.seat }) (with_running s) s refl refl

appends_rom : (cmd : Cmd) (o : OutboxState) (s : InitiatorState) → own_rom (append_step cmd o s).1 ≡ own_rom s
appends_rom cmd o s =
    let x = put_step cmd o s in
    let y = low_step x.0 x.1 in
    let z = link_step y.0 y.1 in
    rings_rom z.1.lists.slots.present z.0 z.1 ∙ links_rom (high_lists y.1.lists) y.0 y.1 ∙ lows_rom (low_lists x.1.lists) x.0 x.1 ∙ puts_rom (put_lists s.lists cmd s.layer.node (login_id s)) cmd o s

dummies_rom : (t : Option TicketParts) (o : OutboxState) (s : InitiatorState) → own_rom (dummy_for t o s).1 ≡ own_rom s
dummies_rom None o s = refl
dummies_rom (Some t) o s = refl

pins_rom : (t : Option TicketParts) (s : InitiatorState) → own_rom (pinned_for t s) ≡ own_rom s
pins_rom None s = refl
pins_rom (Some t) s = refl

done_rom : (action : Action) (o : OutboxState) (s : InitiatorState) → own_rom (done_step action o s).1 ≡ begun_rom action (own_rom s)
unfolding done_step
done_rom (actions.Put cmd) o s = puts_rom (put_lists s.lists cmd s.layer.node (login_id s)) cmd o s
done_rom (actions.Append cmd) o s = appends_rom cmd o s
done_rom actions.Low o s = lows_rom (low_lists s.lists) o s
done_rom actions.Link o s = links_rom (high_lists s.lists) o s
done_rom actions.Ring o s = rings_rom s.lists.slots.present o s
done_rom (actions.Dummy orb) o s = dummies_rom (find_in s.lists.slots.slots orb) o s
done_rom actions.Rom o s = refl
done_rom actions.AgentReset o s = refl
done_rom actions.State o s = refl
done_rom actions.Enable o s = refl
done_rom (actions.Login unit reconnect exclusive password) o s = refl
done_rom (actions.Query unit) o s = refl
done_rom actions.Reconnect o s = refl
done_rom actions.Logout o s = refl
done_rom (actions.Abort orb) o s = let t = managed_by (orb_by (actions.Abort orb) s) operations.Abort s in pins_rom (find_in t.lists.slots.slots orb) t
done_rom actions.AbortSet o s = refl
done_rom actions.UnitReset o s = refl
done_rom actions.TargetReset o s = refl

module _ (action : Action) (s : InitiatorState) where
  asked_rom : (r : Option Asked × Layer Purpose) → (asked_as r action empty_outbox s).0 ≡ None → own_rom (asked_as r action empty_outbox s).1.1 ≡ begun_rom action (own_rom s)
  asked_rom (None, layer) e = some_none 10 e
  asked_rom (Some asked, layer) e = done_rom action empty_outbox (record s { layer = layer })

  demanded_rom : (demand : Option Demand) → (demanded_as demand action empty_outbox s).0 ≡ None → own_rom (demanded_as demand action empty_outbox s).1.1 ≡ begun_rom action (own_rom s)
  demanded_rom None e = done_rom action empty_outbox s
  demanded_rom (Some demand) e = asked_rom (asked_for demand s) e

  judged_rom : (number : Option ℕ) → (judged_as number action empty_outbox s).0 ≡ None → own_rom (judged_as number action empty_outbox s).1.1 ≡ begun_rom action (own_rom s)
  judged_rom (Some number) e = some_none number e
  judged_rom None e = demanded_rom (demand_of action s) e

  pub act_rom : (act_step action empty_outbox s).0 ≡ None → own_rom (act_step action empty_outbox s).1.1 ≡ begun_rom action (own_rom s)
  unfolding act_step
  act_rom e = judged_rom (refusal action (facts_with true s action)) e
