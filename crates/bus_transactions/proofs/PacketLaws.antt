-- The law of packets, of rows, and the once law.
use Rattle.std.specs.Prelude.{◌≡◌, ℕ, ◌+◌, Bool, true, false, List, [], ◌∷◌, Option, Some, None, Result, Ok, Err, refl}
use Rattle.std.proofs.Common.{ap, subst}
use Rattle.label_table.specs.declared.judgement.Asked.{Asked}
use Rattle.label_table.specs.declared.reply.Stale.{Stale}
use Rattle.label_table.specs.declared.source.Remembered.{Remembered}
use Rattle.label_table.specs.Layer.{Finding, of_generation, of_grammar, of_label, of_response, of_again, of_request, asking_step, expiring_step, judging_step}
use Rattle.sbp_journal.specs.Run.{Moment, said}
use Rattle.sbp_journal.specs.Transactions.{writing, Transaction, between}
use Rattle.sbp_journal.specs.Wire.{Terms, terms}
use Rattle.sbp_journal.specs.declared.cause.Cause.{Cause}
use Rattle.sbp_journal.specs.declared.note.Note.{Note}
use Rattle.sbp_journal.specs.declared.note.Note.TheVariants as notes
use Rattle.bus_transactions.specs.Wire.{Node, Due, Wire, next_serial, decided, first_note, id_for}
use Rattle.bus_transactions.specs.Moves.{Move, ask, answer, inject, deliver, lose, expire, disown, reset, see, start, tell, asking, answering, expiring, moved, after}
use Rattle.bus_transactions.specs.May.{May, MayAll, Always, is_plain}
use Rattle.bus_transactions.specs.Packets.{SerialsCount, PacketLaw}
use Rattle.bus_transactions.specs.Rows.{RowsLaw}
use Rattle.bus_transactions.specs.Once.{OnceLaw, ServedLaw}
use Rattle.bus_transactions.proofs.PacketParts.{request_read, asking_read}
use Rattle.bus_transactions.proofs.Follows.{last_is, kept_is}
use Rattle.bus_transactions.proofs.Facts.{fair, both, request_asked, asked_begun}
use Rattle.bus_transactions.proofs.Stands.{On, Stands}
use Rattle.bus_transactions.proofs.All.{all_stand}

-- ---- serials
plain_count : (note : Note) (past : List Moment) → is_plain note ≡ true → SerialsCount past → SerialsCount (said note ∷ past)
unfolding is_plain
plain_count (notes.Sent s generation from to bytes) past e c = cc
plain_count _ past e c = c

decided_count : (cause : Option Cause) (s : ℕ) (past : List Moment) → SerialsCount past → SerialsCount (said (decided cause s) ∷ past)
decided_count None s past c = c
decided_count (Some cause) s past c = c

judged_count : (finding : Finding (Unit {0})) (cause : Option Cause) (s : ℕ) (past : List Moment) → SerialsCount past → SerialsCount (said (first_note finding cause s) ∷ past)
judged_count of_generation cause s past c = c
judged_count of_grammar cause s past c = c
judged_count of_label cause s past c = c
judged_count (of_response p label purpose) cause s past c = c
judged_count (of_again p rcode) cause s past c = c
judged_count (of_request p) cause s past c = decided_count cause s past c

next_is : (w : Wire) → Stands w → next_serial w ≡ (terms w.past).count + 1
next_is w h = ap (λ n. n + 1) (last_is h.follows)

asked_count : (w : Wire) → Stands w → (node peer : ℕ) (r : Option Asked × Node) → SerialsCount w.past → SerialsCount (asking r node peer w).past
asked_count w h node peer (Some found, layer) c = (next_is w h, c)
asked_count w h node peer (None, layer) c = c

answered_count : (w : Wire) → Stands w → (due : Option Due) (rcode : ℕ) (given : List ℕ) → SerialsCount w.past → SerialsCount (answering due rcode given w).past
answered_count w h None rcode given c = c
answered_count w h (Some due) rcode given c = (next_is w h, c)

expired_count : (w : Wire) (node peer label : ℕ) (r : Result (Option (Unit {0})) Stale × Node) → SerialsCount w.past → SerialsCount (expiring r node peer label w).past
expired_count w node peer label (Ok purpose, layer) c = c
expired_count w node peer label (Err stale, layer) c = c

move_count : (w : Wire) → Stands w → (move : Move) → May move w → SerialsCount w.past → SerialsCount (moved move w).past
move_count w h (ask node peer body) may c = asked_count w h node peer (asking_step (w.layer node) (id_for w node peer) body tt) c
move_count w h (answer rcode given) may c = answered_count w h w.due rcode given c
move_count w h (inject node peer bytes) may c = (next_is w h, c)
move_count w h (deliver kept cause) may c = judged_count (judging_step (w.layer kept.sent.to) kept.sent.generation kept.sent.bytes).0 cause kept.serial w.past c
move_count w h (lose s) may c = c
move_count w h (expire node peer label) may c = expired_count w node peer label.number (expiring_step (w.layer node) (id_for w node peer) label) c
move_count w h (disown node peer label) may c = c
move_count w h (reset line physical) may c = c
move_count w h (see node) may c = c
move_count w h (start line event) may c = c
move_count w h (tell note) may c = plain_count note w.past may c

all_count : (moves : List Move) → MayAll moves → SerialsCount (after moves).past
all_count [] may = tt
all_count (move ∷ moves) may = move_count (after moves) (all_stand moves may.1) move may.0 (all_count moves may.1)

pub packets_always : Always PacketLaw
packets_always moves may =
    let h = all_stand moves may in
    (all_count moves may, record { last = last_is h.follows; kept_is = kept_is h.follows })

-- ---- rows
pub rows_always : Always RowsLaw
rows_always moves may =
    let w : Wire = after moves in
    let h = all_stand moves may in
    record {
      bus = h.bus_is;
      ids = h.ids_are;
      layers = λ i.
          let n = h.nodes i in
          record {
            generation = n.generation;
            id = n.id;
            labels = record { states_are = n.states_are; requests = n.lasts_are };
            filter = λ e.
                let o = subst (λ d. On (terms w.past) w.store w.layer w.bus w.ids d) e h in
                record {
                  requests = λ j l. ap (λ (r : Remembered). r.last) ((o.nodes i).seen_are j l refl);
                  rcodes = λ j l. ap (λ (r : Remembered). r.rcode) ((o.nodes i).seen_are j l refl);
                };
          };
    }

-- ---- writes
pub fair_is : (injects : ℕ → Bool) (u : Transaction) → injects u.requester ≡ false → fair injects u ≡ true
fair_is injects u e = rw e refl

both_is : (injects : ℕ → Bool) (u : Transaction) → injects u.requester ≡ false → injects u.responder ≡ false → both injects u ≡ true
both_is injects u e f = rw (e, f) refl

pub once_always : Always OnceLaw
once_always moves may s label q sent honest part =
    let t : Terms = terms (after moves).past in
    let c = (all_stand moves may).facts.counts s q sent in
    let u : Transaction = between q q.from q.to label in
    let begun = asked_begun q u honest (request_asked q label writing part) in
    let r = request_read q.bytes label writing part in
    let writes = (asking_read q.bytes r.packet label writing r.read r.is).writes in
    record {
      most = λ e. c.most u begun writes (fair_is t.injects u e);
      once = λ rcode e f closed. c.once u rcode begun writes (both_is t.injects u e f) closed;
    }

pub served_always : Always ServedLaw
served_always moves may s label q sent honest part from to closed =
    let t : Terms = terms (after moves).past in
    let u : Transaction = between q q.from q.to label in
    let begun = asked_begun q u honest (request_asked q label writing part) in
    let r = request_read q.bytes label writing part in
    let writes = (asking_read q.bytes r.packet label writing r.read r.is).writes in
    (all_stand moves may).codes.ended s q u sent begun writes (both_is t.injects u from to) closed
