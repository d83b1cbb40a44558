-- The packets that were sent stay what they are.
use Rattle.sbp_world.proofs.Words.Std.{arith, ◌≡◌, refl, sym, ◌∙◌, ap, subst, ℕ, ◌+◌, ◌≤◌, nat_eq, Bool, true, false, cond, List, [], ◌∷◌, ◌++◌, Option, Some, None, nat_tests}
use Rattle.sbp_world.proofs.Words.Wire.{SerialsCount, Moment, asked, said, Kind, Part, Sending, Transaction, asked_by, begun_by, part_of, request, response, Held, Owed, Terms, begins, closes, closes_if, free, gets, gets_as, gives, ignores, ignores_that, judges, judges_if, opened, pays, puts, rests, terms, times_out, waits, Cause, Event}
use Rattle.sbp_world.proofs.Words.Laws.{before_sent}
use Rattle.sbp_world.proofs.Words.World.{history_of, Run, after, beginning, RemainingLaw, Remains, IsRun}
use Rattle.sbp_journal.specs.Transactions.{no_packet}
use Rattle.sbp_journal.specs.declared.cause.Cause.TheVariants as causes
use Rattle.sbp_journal.specs.declared.event.Event.TheVariants as events
use Rattle.sbp_journal.specs.declared.note.Note.TheVariants as notes
use Rattle.sbp_world.proofs.FitInitiator.Law.{fitting_law as own_fitting_law}
use Rattle.sbp_world.proofs.FitTarget.Law.{fitting_law}
use Rattle.sbp_world.proofs.Wire.Runs.{sound_after}
use Rattle.sbp_world.proofs.Wire.Starts.{laws_of}
use Rattle.sbp_world.proofs.Hosts.PointerNotes.{older}

-- what no moment but a packet that is sent changes
pub record Same (t u : Terms) : Type 0 where
  pub count : u.count ≡ t.count
  pub sent : u.sent ≡ t.sent
  pub answers : u.answers ≡ t.answers

pub opened_same : (event : Event) (t : Terms) → Same t (opened event t)
opened_same (events.Reset physical) t = record { count = refl; sent = refl; answers = refl }
opened_same (events.Repeat serial) t = record { count = refl; sent = refl; answers = refl }
opened_same _ t = record { count = refl; sent = refl; answers = refl }

judges_same : (u : Option Transaction) (cause : Option Cause) (s : ℕ) (packet : Sending) (t : Terms) → Same t (judges u cause s packet t)
judges_same None cause s packet t = record { count = refl; sent = refl; answers = refl }
judges_same (Some u) cause s packet t = record { count = refl; sent = refl; answers = refl }

judges_if_same : (b : Bool) (u : Option Transaction) (s : ℕ) (packet : Sending) (t : Terms) → Same t (judges_if b u s packet t)
judges_if_same true u s packet t = judges_same u (Some causes.Grammar) s packet t
judges_if_same false u s packet t = record { count = refl; sent = refl; answers = refl }

closes_if_same : (b : Bool) (s : ℕ) (u : Transaction) (rcode : ℕ) (t : Terms) → Same t (closes_if b s u rcode t)
closes_if_same true s u rcode t = record { count = refl; sent = refl; answers = refl }
closes_if_same false s u rcode t = record { count = refl; sent = refl; answers = refl }

closes_same : (held : Held) (u : Transaction) (kind : Kind) (rcode : ℕ) (t : Terms) → Same t (closes held u kind rcode t)
closes_same (waits kind s) u other rcode t = closes_if_same _ s u rcode t
closes_same free u other rcode t = record { count = refl; sent = refl; answers = refl }
closes_same rests u other rcode t = record { count = refl; sent = refl; answers = refl }

gets_as_same : (part : Part) (s : ℕ) (packet : Sending) (t : Terms) → Same t (gets_as part s packet t)
gets_as_same (request label kind) s packet t = judges_same (asked_by packet) None s packet t
gets_as_same (response label kind) s packet t = closes_same _ _ kind _ t
gets_as_same no_packet s packet t = record { count = refl; sent = refl; answers = refl }

pub gets_same : (found : Option Sending) (s : ℕ) (t : Terms) → Same t (gets found s t)
gets_same None s t = record { count = refl; sent = refl; answers = refl }
gets_same (Some packet) s t = let k = gets_as_same (part_of packet.bytes) s packet _ in record { count = k.count; sent = k.sent; answers = k.answers }

ignores_same : (cause : Cause) (s : ℕ) (packet : Sending) (t : Terms) → Same t (ignores cause s packet t)
ignores_same causes.Generation s packet t = record { count = refl; sent = refl; answers = refl }
ignores_same causes.Grammar s packet t = let k = judges_if_same _ (asked_by packet) s packet _ in record { count = k.count; sent = k.sent; answers = k.answers }
ignores_same causes.Label s packet t = record { count = refl; sent = refl; answers = refl }
ignores_same causes.Again s packet t = judges_same (asked_by packet) (Some causes.Again) s packet t
ignores_same causes.Source s packet t = let k = judges_same (asked_by packet) (Some causes.Source) s packet _ in record { count = k.count; sent = k.sent; answers = k.answers }
ignores_same causes.Login s packet t = let k = judges_same (asked_by packet) (Some causes.Login) s packet _ in record { count = k.count; sent = k.sent; answers = k.answers }
ignores_same causes.Slot s packet t = let k = judges_same (asked_by packet) (Some causes.Slot) s packet _ in record { count = k.count; sent = k.sent; answers = k.answers }

pub ignores_that_same : (found : Option Sending) (cause : Cause) (s : ℕ) (t : Terms) → Same t (ignores_that found cause s t)
ignores_that_same None cause s t = record { count = refl; sent = refl; answers = refl }
ignores_that_same (Some packet) cause s t = let k = ignores_same cause s packet _ in record { count = k.count; sent = k.sent; answers = k.answers }

pub times_out_same : (u : Option Transaction) (t : Terms) → Same t (times_out u t)
times_out_same None t = record { count = refl; sent = refl; answers = refl }
times_out_same (Some u) t = record { count = refl; sent = refl; answers = refl }

-- ---- a packet is sent

pub begins_same : (u : Option Transaction) (s : ℕ) (packet : Sending) (t : Terms) → Same t (begins u s packet t)
begins_same None s packet t = record { count = refl; sent = refl; answers = refl }
begins_same (Some u) s packet t = record { count = refl; sent = refl; answers = refl }

gives_same : (u : Option Transaction) (rcode : ℕ) (t : Terms) → Same t (gives u rcode t)
gives_same None rcode t = record { count = refl; sent = refl; answers = refl }
gives_same (Some u) rcode t = record { count = refl; sent = refl; answers = refl }

pub record Pays (s : ℕ) (t u : Terms) : Type 0 where
  pub count : u.count ≡ t.count
  pub sent : u.sent ≡ t.sent
  pub answers : (r : ℕ) → nat_eq r s ≡ false → u.answers r ≡ t.answers r

pub pays_same : (owed : Option Owed) (sent : ℕ → Option Sending) (s : ℕ) (packet : Sending) (t : Terms) → Pays s t (pays owed sent s packet t)
pays_same None sent s packet t = record { count = refl; sent = refl; answers = λ r e. refl }
pays_same (Some owed) sent s packet t =
    let k = gives_same _ _ t in
    record { count = k.count; sent = k.sent; answers = λ r e. ap (λ b. cond b (Some owed.serial) (t.answers r)) e }

-- ---- a moment

same_remains : (m : Moment) (past : List Moment) → Same (terms past) (terms (m ∷ past)) → ((r : ℕ) → before_sent (m ∷ past) r ≡ before_sent past r) → Remains past (m ∷ past)
same_remains m past k e = record {
  count = let c = k.count in omega arith;
  sent = λ r h. ap (λ f. f r) k.sent;
  answers = λ r h. ap (λ f. f r) k.answers;
  before_it = λ r h. e r;
}

other_way : (r s count : ℕ) → r ≤ count → s ≡ count + 1 → nat_eq s r ≡ false
other_way r s count h e = grind (arith, nat_tests)

pub step : (m : Moment) (past : List Moment) → SerialsCount (m ∷ past) → Remains past (m ∷ past)
step (asked line event) past c = same_remains (asked line event) past (opened_same event (terms past)) (λ r. refl)
step (said (notes.Sent s generation from to bytes)) past c =
    let t = terms past in
    let packet : Sending = record { generation = generation; from = from; to = to; bytes = bytes; injected = t.injected s } in
    let put = puts (begun_by packet) s packet t in
    let a = begins_same (begun_by packet) s packet put in
    let p = pays_same t.owes t.sent s packet (begins (begun_by packet) s packet put) in
    record {
      count = let n = p.count ∙ a.count in omega arith;
      sent = λ r h. ap (λ f. f r) (p.sent ∙ a.sent) ∙ ap (λ b. cond b (Some packet) (t.sent r)) (older r s t.count h c.0);
      answers = λ r h. p.answers r (older r s t.count h c.0) ∙ ap (λ f. f r) a.answers;
      before_it = λ r h. ap (λ b. cond b past (before_sent past r)) (other_way r s t.count h c.0);
    }
step (said (notes.Got s)) past c = same_remains (said (notes.Got s)) past (gets_same ((terms past).sent s) s (terms past)) (λ r. refl)
step (said (notes.Ignored s cause)) past c = same_remains (said (notes.Ignored s cause)) past (ignores_that_same ((terms past).sent s) cause s (terms past)) (λ r. refl)
step (said (notes.TimedOut s)) past c = same_remains (said (notes.TimedOut s)) past (times_out_same _ (terms past)) (λ r. refl)
step (said note) past c = same_remains (said note) past (record { count = refl; sent = refl; answers = refl }) (λ r. refl)

pub serials_behind : (m : Moment) (past : List Moment) → SerialsCount (m ∷ past) → SerialsCount past
serials_behind (said (notes.Sent s generation from to bytes)) past c = c.1
serials_behind (said note) past c = c
serials_behind (asked line event) past c = c

pub remains_on : (before middle past : List Moment) → Remains before middle → Remains middle past → Remains before past
remains_on before middle past a b = record {
  count = let x = a.count in let y = b.count in omega arith;
  sent = λ r h. let x = a.count in b.sent r (omega arith) ∙ a.sent r h;
  answers = λ r h. let x = a.count in b.answers r (omega arith) ∙ a.answers r h;
  before_it = λ r h. let x = a.count in b.before_it r (omega arith) ∙ a.before_it r h;
}

pub remains : (later before : List Moment) → SerialsCount (later ++ before) → Remains before (later ++ before)
remains [] before c = record { count = omega arith; sent = λ r h. refl; answers = λ r h. refl; before_it = λ r h. refl }
remains (m ∷ later) before c =
    remains_on before (later ++ before) (m ∷ later ++ before) (remains later before (serials_behind m (later ++ before) c)) (step m (later ++ before) c)

-- ---- a run

pub serials : (line : ℕ) (run : Run) → IsRun run → SerialsCount (history_of line run)
serials line run q =
    let b = sound_after fitting_law own_fitting_law line run run.entries q.few q.short q.entries q.lines in
    subst SerialsCount b.is (laws_of b.past (after (beginning run) run.entries).world b.sound.stands).serials

pub remaining_law : RemainingLaw
remaining_law = record {
  remains = λ line run q later before e. subst (Remains before) e (remains later before (subst SerialsCount (sym e) (serials line run q)));
}
