-- Who injected no packets by a history injected none before.
use Rattle.sbp_world.proofs.Words.Std.{◌≡◌, ◌∙◌, refl, sym, ap, ℕ, suc, nat_eq, Bool, true, false, cond, List, [], ◌∷◌, ◌++◌, Option, Some, None, true≢false, upd}
use Rattle.sbp_world.proofs.Words.Wire.{Cause, Event, Note, rcode_of, Moment, asked, said, Kind, Part, Sending, Transaction, asked_by, begun_by, between, is_same_kind, is_to, part_of, request, response, Held, Owed, Terms, arrives, asked_in, begins, begun_in, closes, closes_if, free, gets, gets_as, gives, ignores, ignores_that, is_news, is_served, judges, judges_if, noted, opened, pays, puts, rests, sends, terms, times_out, waits}
use Rattle.sbp_world.proofs.Words.World.{WorldState, without_notes, IsCalm, Unrun}
use Rattle.sbp_journal.specs.declared.cause.Cause.TheVariants as causes
use Rattle.sbp_journal.specs.declared.event.Event.TheVariants as events
use Rattle.sbp_journal.specs.declared.note.Note.TheVariants as notes
use Rattle.sbp_journal.specs.Transactions.{no_packet}

-- what changes nothing of it
abbrev Same : Terms → Terms → Type 0
Same now before = now.injects ≡ before.injects

judges_same : (u : Option Transaction) (cause : Option Cause) (s : ℕ) (packet : Sending) (t : Terms) → Same (judges u cause s packet t) t
judges_same None cause s packet t = refl
judges_same (Some u) cause s packet t = refl

if_same : (b : Bool) (u : Option Transaction) (s : ℕ) (packet : Sending) (t : Terms) → Same (judges_if b u s packet t) t
if_same true u s packet t = judges_same u (Some causes.Grammar) s packet t
if_same false u s packet t = refl

closed_same : (b : Bool) (s : ℕ) (u : Transaction) (rcode : ℕ) (t : Terms) → Same (closes_if b s u rcode t) t
closed_same true s u rcode t = refl
closed_same false s u rcode t = refl

closes_same : (held : Held) (u : Transaction) (other : Kind) (rcode : ℕ) (t : Terms) → Same (closes held u other rcode t) t
closes_same (waits kind s) u other rcode t = closed_same (is_same_kind kind other) s u rcode t
closes_same free u other rcode t = refl
closes_same rests u other rcode t = refl

gets_same : (part : Part) (s : ℕ) (packet : Sending) (t : Terms) → Same (gets_as part s packet t) t
gets_same (request label kind) s packet t = judges_same (asked_by packet) None s packet t
gets_same (response label kind) s packet t = closes_same (t.held (between packet packet.to packet.from label)) (between packet packet.to packet.from label) kind (rcode_of packet.bytes) t
gets_same no_packet s packet t = refl

got_same : (sent : Option Sending) (s : ℕ) (t : Terms) → Same (gets sent s t) t
got_same None s t = refl
got_same (Some packet) s t = gets_same (part_of packet.bytes) s packet (is_served s (is_news s (arrives s t)))

ignores_same : (cause : Cause) (s : ℕ) (packet : Sending) (t : Terms) → Same (ignores cause s packet t) t
ignores_same causes.Generation s packet t = refl
ignores_same causes.Grammar s packet t = if_same (is_to packet.bytes (t.ids packet.generation packet.to)) (asked_by packet) s packet (is_news s t)
ignores_same causes.Label s packet t = refl
ignores_same causes.Again s packet t = judges_same (asked_by packet) (Some causes.Again) s packet t
ignores_same causes.Source s packet t = judges_same (asked_by packet) (Some causes.Source) s packet (is_news s t)
ignores_same causes.Login s packet t = judges_same (asked_by packet) (Some causes.Login) s packet (is_news s t)
ignores_same causes.Slot s packet t = judges_same (asked_by packet) (Some causes.Slot) s packet (is_served s (is_news s t))

that_same : (sent : Option Sending) (cause : Cause) (s : ℕ) (t : Terms) → Same (ignores_that sent cause s t) t
that_same None cause s t = refl
that_same (Some packet) cause s t = ignores_same cause s packet (arrives s t)

late_same : (u : Option Transaction) (t : Terms) → Same (times_out u t) t
late_same None t = refl
late_same (Some u) t = refl

begins_same : (u : Option Transaction) (s : ℕ) (packet : Sending) (t : Terms) → Same (begins u s packet t) t
begins_same None s packet t = refl
begins_same (Some u) s packet t = refl

gives_same : (u : Option Transaction) (rcode : ℕ) (t : Terms) → Same (gives u rcode t) t
gives_same None rcode t = refl
gives_same (Some u) rcode t = refl

pays_same : (owed : Option Owed) (sent : ℕ → Option Sending) (s : ℕ) (packet : Sending) (t : Terms) → Same (pays owed sent s packet t) t
pays_same None sent s packet t = refl
pays_same (Some owed) sent s packet t = gives_same (asked_in (sent owed.serial)) (rcode_of packet.bytes) t

opened_same : (event : Event) (t : Terms) → Same (opened event t) t
opened_same (events.Reset physical) t = refl
opened_same (events.Repeat s) t = refl
opened_same _ t = refl

more_by : (b c : Bool) (x : Bool) → cond b (cond c true x) x ≡ false → x ≡ false
more_by true true x e = absurd (true≢false e)
more_by true false x e = e
more_by false c x e = e

upd_by : (b : Bool) (f : ℕ → Bool) (from n : ℕ) → (cond b (upd f from true) f) n ≡ false → f n ≡ false
upd_by true f from n e = more_by true (nat_eq n from) (f n) e
upd_by false f from n e = e

sent_before : (s : ℕ) (packet : Sending) (t : Terms) (n : ℕ) → (sends s packet t).injects n ≡ false → t.injects n ≡ false
sent_before s packet t n e =
    let a = puts (begun_by packet) s packet t in
    let b = begins (begun_by packet) s packet a in
    upd_by packet.injected t.injects packet.from n (sym (ap (λ (f : ℕ → Bool). f n) (pays_same t.owes t.sent s packet b ∙ begins_same (begun_by packet) s packet a)) ∙ e)

from_same : (now before : Terms) (n : ℕ) → Same now before → now.injects n ≡ false → before.injects n ≡ false
from_same now before n same e = sym (ap (λ (f : ℕ → Bool). f n) same) ∙ e

noted_before : (note : Note) (t : Terms) (n : ℕ) → (noted note t).injects n ≡ false → t.injects n ≡ false
noted_before (notes.Sent s generation from to bytes) t n e = sent_before s (record { generation = generation; from = from; to = to; bytes = bytes; injected = t.injected s }) t n e
noted_before (notes.Got s) t n e = from_same (gets (t.sent s) s t) t n (got_same (t.sent s) s t) e
noted_before (notes.Ignored s cause) t n e = from_same (ignores_that (t.sent s) cause s t) t n (that_same (t.sent s) cause s t) e
noted_before (notes.TimedOut s) t n e = from_same (times_out (begun_in (t.sent s)) t) t n (late_same (begun_in (t.sent s)) t) e
noted_before _ t n e = e

before_one : (m : Moment) (past : List Moment) (i : ℕ) → IsCalm (m ∷ past) i → IsCalm past i
before_one (asked line event) past i e = from_same (opened event (terms past)) (terms past) (suc i) (opened_same event (terms past)) e
before_one (said note) past i e = noted_before note (terms past) (suc i) e

pub injects_before : (m : Moment) (past : List Moment) (n : ℕ) → (terms (m ∷ past)).injects n ≡ false → (terms past).injects n ≡ false
injects_before (asked line event) past n e = from_same (opened event (terms past)) (terms past) n (opened_same event (terms past)) e
injects_before (said note) past n e = noted_before note (terms past) n e

pub calm_before : (later past : List Moment) (i : ℕ) → IsCalm (later ++ past) i → IsCalm past i
calm_before [] past i e = e
calm_before (m ∷ later) past i e = calm_before later past i (before_one m (later ++ past) i e)

-- and a line that begins changes nothing of it
pub calm_asked : (line : ℕ) (event : Event) (past : List Moment) (i : ℕ) → IsCalm past i → IsCalm (asked line event ∷ past) i
calm_asked line event past i e = ap (λ (f : ℕ → Bool). f (suc i)) (opened_same event (terms past)) ∙ e

pub asked_calm : (line : ℕ) (event : Event) (past : List Moment) (i : ℕ) → IsCalm (asked line event ∷ past) i → IsCalm past i
asked_calm line event past i e = before_one (asked line event) past i e

-- what ran is at an agent still
pub unrun_now : (line : ℕ) (event : Event) (ms : List Moment) (w : WorldState) → Unrun ms w → Unrun (asked line event ∷ ms) (without_notes w)
unrun_now line event ms w u = record { held = λ i n c o e none. u.held i n (asked_calm line event ms i c) (record { latest = o.latest; uncut = o.uncut }) e none }
