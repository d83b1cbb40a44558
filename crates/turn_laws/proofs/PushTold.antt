-- In each turn of every run an unsolicited status that an initiator gets is told where this one injected nothing, or at the FIFO of a login: it is a write of the block, and where it is not ignored its row tells.
use Rattle.std.proofs.Common.{arith, ◌≡◌, ◌∙◌, refl, sym, ap, subst, inl, inr, ◌⊎◌, ℕ, suc, ◌%◌, ◌==◌, ◌&&◌, ◌||◌, not, Bool, true, false, List, [], ◌∷◌, length, Some, None, Result, Ok, Err}
use Rattle.std.specs.List.{list_any}
use Rattle.std.proofs.lemmas.Bool.Decides.{nat_tests}
use Rattle.std.proofs.lemmas.Option.{same_Some}
use Rattle.async_packet.specs.Packet.{Packet, lock, lock_response, read_block, read_block_response, read_quadlet, read_quadlet_response, write_block, write_quadlet, write_response}
use Rattle.async_packet.specs.Reading.{reading}
use Rattle.async_packet.specs.declared.fault.PacketFault.{PacketFault}
use Rattle.bus_memory.specs.Windows.{is_fifo}
use Rattle.label_table.specs.Judging.{Facts, Row, by_again, by_generation, by_grammar, by_label, by_request, by_response, first_row, row_of}
use Rattle.media_bay.specs.Unsolicited.{block, block_head, is_block}
use Rattle.rbc_disk.specs.Disk.{Disk}
use Rattle.sbp_journal.specs.Addresses.{Access, access_of}
use Rattle.sbp_journal.specs.Rows.{RequestFacts, first_or, ignored_as, serving, telling}
use Rattle.sbp_journal.specs.Transactions.{Sending, part_by, part_in, part_of}
use Rattle.sbp_journal.specs.Wire.{Terms, terms}
use Rattle.sbp_journal.specs.declared.cause.Cause.{Cause}
use Rattle.sbp_journal.specs.declared.cause.Cause.TheVariants as causes
use Rattle.sbp_journal.specs.declared.note.Note.TheVariants as notes
use Rattle.sbp_laws.specs.Agents.{target_before}
use Rattle.sbp_laws.specs.JudgementLaw.{JudgesBy, Judges, by_judging, by_row, facts_at, facts_of, is_login_fifo, is_response, request_facts, verdict_of, verdict_on}
use Rattle.sbp_laws.specs.MediaLaw.{is_told_note}
use Rattle.sbp_laws.specs.NoteKinds.{of_kind}
use Rattle.sbp_laws.specs.Packets.{access_at, access_in, access_in_bytes, packet_in, receiver_in, spelled_by}
use Rattle.sbp_laws.specs.Targets.{Target, target_at}
use Rattle.sbp_laws.specs.Turns.{Turn}
use Rattle.sbp_world.specs.Lists.FewLogins.{IsCalmBeside}
use Rattle.sbp_world.specs.Lists.OwnLogins.{IsLoginFifo}
use Rattle.sbp_world.proofs.Common.{equal, untrue}
use Rattle.turn_laws.specs.PushTold.{GetsPush, PushToldLaw, TellsPushes, is_at_login}
use Rattle.turn_laws.specs.Told.{TellsByRow, is_telling, packet_tells, row_tells, told_by, told_of, told_to}
use Rattle.turn_laws.proofs.BlockRuns.{WereBlocks, blocks_law}
use Rattle.turn_laws.proofs.EachTurns.{joined_law}
use Rattle.turn_laws.proofs.Judgements.{judgement_run_law}
use Rattle.turn_laws.proofs.PushBlocks.{IsBlock}
use Rattle.turn_laws.proofs.PushSerials.{Apart, Has}
use Rattle.turn_laws.proofs.SerialsStay.{ends_turn}
use Rattle.turn_laws.proofs.Told.{told_law}
use Rattle.std.proofs.lemmas.Bool.{and_from}
use Rattle.sbp_world.proofs.Hosts.Replies.{same_access}

-- ---- a member of a list
any_has : (xs : List ℕ) (s : ℕ) → list_any (λ x. x == s) xs ≡ true → Has xs s
any_has [] s e = untrue e
any_has (x ∷ xs) s e = by (λ g. any_has xs s g) (x == s) refl e
  where
    by : (list_any (λ y. y == s) xs ≡ true → Has xs s) → (b : Bool) → (x == s) ≡ b → (b || list_any (λ y. y == s) xs) ≡ true → (x ≡ s) ⊎ Has xs s
    by more true f g = inl (equal x s f)
    by more false f g = inr (more g)

-- ---- the block is written, and read as one
pub whole_block : is_block block ≡ true
unfolding block_head
whole_block = refl

some_bytes : {A : Type 0} → [] ≡ block → A
unfolding block_head
some_bytes e = absurd (let no = ap (λ (xs : List ℕ). length xs) e in cc)

-- what asks so is a write of bytes
abbrev IsWritten : Access → Type 0
IsWritten access = (access.is_write ≡ true) × (access.is_block ≡ true)

none_asks : {A : Type 0} (a : Access) → None ≡ Some a → A
none_asks a e = absurd (let no : None ≡ Some a = e in cc)

empty_not : {A : Type 0} (a access : Access) → a.payload ≡ [] → Some a ≡ Some access → access.payload ≡ block → A
empty_not a access none e pays = some_bytes (sym none ∙ (ap (λ (x : Access). x.payload) (same_access a access e) ∙ pays))

written_by : (p : Packet) (access : Access) → access_of p ≡ Some access → access.payload ≡ block → IsWritten access × (is_response (part_in p) ≡ false)
written_by (write_block header offset payload) access e pays = let same = sym (same_access _ access e) in ((ap (λ (x : Access). x.is_write) same, ap (λ (x : Access). x.is_block) same), refl)
written_by (write_quadlet header offset value) access e pays = empty_not _ access refl e pays
written_by (read_quadlet header offset) access e pays = empty_not _ access refl e pays
written_by (read_block header offset size) access e pays = empty_not _ access refl e pays
written_by (lock header offset extended payload) access e pays = empty_not _ access refl e pays
written_by (write_response header rcode) access e pays = none_asks access e
written_by (read_quadlet_response header rcode value) access e pays = none_asks access e
written_by (read_block_response header rcode payload) access e pays = none_asks access e
written_by (lock_response header rcode extended payload) access e pays = none_asks access e

written : (bytes : List ℕ) (access : Access) → access_in_bytes bytes ≡ Some access → access.payload ≡ block → IsWritten access × (is_response (part_of bytes) ≡ false)
unfolding part_of
written bytes access e pays = by (reading bytes) e
  where
    by : (r : Result Packet PacketFault) → access_in (spelled_by r) ≡ Some access → IsWritten access × (is_response (part_by r) ≡ false)
    by (Ok p) f = written_by p access f pays
    by (Err fault) f = none_asks access f

-- ---- a request that is not ignored tells where it is such a block
not_got : {A : Type 0} (serial : ℕ) (cause : Cause) → notes.Ignored serial cause ≡ notes.Got serial → A
not_got serial cause e = absurd (let no : notes.Ignored serial cause ≡ notes.Got serial = e in cc)

rows_tell : (a b c d g : Bool) (serial : ℕ) → c ≡ true
    → (let j = first_or serving ((a, ignored_as causes.Source 7) ∷ (b, ignored_as causes.Login 7) ∷ (c, telling) ∷ (d, ignored_as causes.Grammar 5) ∷ (g, ignored_as causes.Slot 0) ∷ []) in (by_judging serial j).note ≡ notes.Got serial → is_telling j ≡ true)
rows_tell true b c d g serial t e = not_got serial causes.Source e
rows_tell false true c d g serial t e = not_got serial causes.Login e
rows_tell false false true d g serial t e = refl
rows_tell false false false d g serial t e = untrue t

-- and no other row has it got
row_tell : (row : Row) (serial : ℕ) (wire : Terms) (q : Sending) (facts : RequestFacts) → (row ≡ by_response → ⊥) → (facts.is_status && facts.is_unsolicited) ≡ true → (by_row row serial wire q (Some facts)).note ≡ notes.Got serial → row_tells row (Some facts) ≡ true
row_tell by_generation serial wire q facts other tells e = not_got serial causes.Generation e
row_tell by_grammar serial wire q facts other tells e = not_got serial causes.Grammar e
row_tell by_label serial wire q facts other tells e = not_got serial causes.Label e
row_tell by_response serial wire q facts other tells e = absurd (other refl)
row_tell by_again serial wire q facts other tells e = not_got serial causes.Again e
row_tell by_request serial wire q facts other tells e =
    rows_tell (facts.to_initiator && not facts.reads_rom && not facts.of_target) (facts.of_other_login || facts.to_closed_fifo) (facts.is_status && facts.is_unsolicited) (facts.is_status && not facts.is_read) (facts.is_status && not facts.is_awaited) serial tells e

no_response : (a b w g : Bool) → first_row ((a, by_generation) ∷ (b, by_grammar) ∷ (false && w, by_label) ∷ (false, by_response) ∷ (g, by_again) ∷ []) by_request ≡ by_response → ⊥
no_response true b w g e = cc
no_response false true w g e = cc
no_response false false w true e = cc
no_response false false w false e = cc

row_not : (f : Facts) → f.is_response ≡ false → row_of f ≡ by_response → ⊥
row_not f none =
    subst (λ r. first_row ((not f.is_current, by_generation) ∷ (not f.is_for_node, by_grammar) ∷ (r && not f.is_awaited, by_label) ∷ (r, by_response) ∷ (f.is_repeated, by_again) ∷ []) by_request ≡ by_response → ⊥) (sym none)
    (no_response (not f.is_current) (not f.is_for_node) (not f.is_awaited) f.is_repeated)

fifo_of : (offset : ℕ) → is_login_fifo offset ≡ true → is_fifo offset ≡ true
fifo_of offset e = by (is_fifo offset) e
  where
    by : (b : Bool) → (b && not (offset == 0x12002000) && not (offset == 0x12002020)) ≡ true → b ≡ true
    by true f = refl
    by false f = f

-- the FIFO of a login number is one of a login
login_at : (offset : ℕ) → IsLoginFifo offset → is_login_fifo offset ≡ true
unfolding is_fifo
login_at offset own =
    let few = own.few in
    let is = own.is in
    let whole : offset % 0x20 ≡ 0 = omega (arith, is) in
    grind (arith, nat_tests)

-- ---- a turn
module _ (start : List Disk) (t : Turn) (told : TellsByRow start t) (judges : Judges start t) (blocks : WereBlocks start t) (serial i : ℕ) (g : GetsPush start t serial i) where
  abbrev wire : Terms
  wire = terms t.past

  abbrev T : Target
  T = target_before start t

  sent : IsBlock t.past (wire.sent serial)
  sent = blocks serial (subst (λ xs. Has xs serial) (ends_turn (Apart 0) refl (target_at start t.past)).pushes (any_has T.pushes serial g.is_push))

  abbrev q : Sending
  q = sent.packet

  to_is : q.to ≡ suc i
  to_is = same_Some q.to (suc i) (sym (ap receiver_in sent.is) ∙ g.receiver)

  abbrev access : Access
  access = sent.access

  at_login : is_login_fifo access.offset ≡ true
  at_login = by g.welcome
    where
      by : IsCalmBeside t.past i ⊎ (is_at_login (access_at wire serial) ≡ true) → is_login_fifo access.offset ≡ true
      by (inl calm) = login_at access.offset (sent.fifo i calm to_is)
      by (inr at) = sym (ap is_at_login (ap (λ so. access_in (packet_in so)) sent.is ∙ sent.asks)) ∙ at

  writes : IsWritten access × (is_response (part_of q.bytes) ≡ false)
  writes = written q.bytes access sent.asks sent.payload

  abbrev Facts_to : ℕ → RequestFacts
  Facts_to n = request_facts start t.past T wire q.from n access

  facts_tell : ((Facts_to q.to).is_status && (Facts_to q.to).is_unsolicited) ≡ true
  facts_tell =
      subst (λ n. ((Facts_to n).is_status && (Facts_to n).is_unsolicited) ≡ true) (sym to_is)
      (and_from (access.is_write && access.is_block && is_fifo access.offset) (is_login_fifo access.offset && is_block access.payload)
      (and_from (access.is_write && access.is_block) (is_fifo access.offset) (and_from access.is_write access.is_block writes.0.0 writes.0.1) (fifo_of access.offset at_login))
      (and_from (is_login_fifo access.offset) (is_block access.payload) at_login (ap is_block sent.payload ∙ whole_block)))

  abbrev R : Row
  R = row_of (facts_of wire q)

  judged : (by_row R serial wire q (Some (Facts_to q.to))).note ≡ notes.Got serial
  judged =
      let law : (verdict_of start t serial).note ≡ notes.Got serial = subst (λ m. JudgesBy start t m) g.gets judges in
      sym (ap (λ so. (verdict_on start t serial so).note) sent.is ∙ ap (λ a. (by_row R serial wire q (facts_at start t.past T wire q a)).note) sent.asks) ∙ law

  tells : packet_tells start t q ≡ true
  tells =
      ap (λ a. row_tells R (facts_at start t.past T wire q a)) sent.asks
      ∙ row_tell R serial wire q (Facts_to q.to) (row_not (facts_of wire q) writes.1) facts_tell judged

  push_told : of_kind is_told_note t.rest ≡ notes.Told i ∷ []
  push_told =
      told ∙ (ap (told_of start t) g.gets ∙ (ap (told_by start t) sent.is ∙ (ap (λ n. told_to n (packet_tells start t q)) to_is ∙ ap (λ x. told_to (suc i) x) tells)))

pub push_told_law : PushToldLaw
push_told_law =
    joined_law (λ start t. TellsByRow start t × Judges start t) WereBlocks TellsPushes (λ start t a b serial i g. push_told start t a.0 a.1 b serial i g)
    (joined_law TellsByRow Judges (λ start t. TellsByRow start t × Judges start t) (λ start t a b. (a, b)) told_law judgement_run_law) blocks_law
