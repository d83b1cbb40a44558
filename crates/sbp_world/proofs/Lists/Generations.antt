-- What each moment leaves of the generation of a node; and that the generation of the target does not fall.
use Rattle.sbp_world.proofs.Words.Std.{arith, ◌≡◌, refl, ◌∙◌, ap, subst, ℕ, ◌≤◌, nat_eq, ◌==◌, Bool, true, false, cond, List, ◌∷◌, Option, Some, None, nat_tests}
use Rattle.sbp_world.proofs.Words.Wire.{Moment, asked, said, Kind, Part, Sending, Transaction, asked_by, begun_by, part_of, request, response, Held, Owed, Terms, begins, closes, closes_if, free, gets, gets_as, gives, ignores, ignores_that, judges, judges_if, opened, pays, puts, rests, sends, terms, times_out, waits, Cause, Event}
use Rattle.sbp_journal.specs.Transactions.{no_packet}
use Rattle.sbp_journal.specs.declared.cause.Cause.TheVariants as causes
use Rattle.sbp_journal.specs.declared.event.Event.TheVariants as events
use Rattle.sbp_journal.specs.declared.note.Note.TheVariants as notes
use Rattle.sbp_world.proofs.Lists.Rises.{RisesAt}
use Rattle.sbp_world.proofs.Pointers.Ages.{other_node}

abbrev Same : Terms → Terms → Type 0
Same t u = u.generation ≡ t.generation

opens : (event : Event) (t : Terms) → Same t (opened event t)
opens (events.Reset physical) t = refl
opens (events.Repeat serial) t = refl
opens _ t = refl

judged : (u : Option Transaction) (cause : Option Cause) (s : ℕ) (packet : Sending) (t : Terms) → Same t (judges u cause s packet t)
judged None cause s packet t = refl
judged (Some u) cause s packet t = refl

judged_if : (b : Bool) (u : Option Transaction) (s : ℕ) (packet : Sending) (t : Terms) → Same t (judges_if b u s packet t)
judged_if true u s packet t = judged u (Some causes.Grammar) s packet t
judged_if false u s packet t = refl

closed_if : (b : Bool) (s : ℕ) (u : Transaction) (rcode : ℕ) (t : Terms) → Same t (closes_if b s u rcode t)
closed_if true s u rcode t = refl
closed_if false s u rcode t = refl

closed : (held : Held) (u : Transaction) (kind : Kind) (rcode : ℕ) (t : Terms) → Same t (closes held u kind rcode t)
closed (waits kind s) u other rcode t = closed_if _ s u rcode t
closed free u other rcode t = refl
closed rests u other rcode t = refl

got_as : (part : Part) (s : ℕ) (packet : Sending) (t : Terms) → Same t (gets_as part s packet t)
got_as (request label kind) s packet t = judged (asked_by packet) None s packet t
got_as (response label kind) s packet t = closed _ _ kind _ t
got_as no_packet s packet t = refl

got : (found : Option Sending) (s : ℕ) (t : Terms) → Same t (gets found s t)
got None s t = refl
got (Some packet) s t = got_as (part_of packet.bytes) s packet _

ignored : (cause : Cause) (s : ℕ) (packet : Sending) (t : Terms) → Same t (ignores cause s packet t)
ignored causes.Generation s packet t = refl
ignored causes.Grammar s packet t = judged_if _ (asked_by packet) s packet _
ignored causes.Label s packet t = refl
ignored causes.Again s packet t = judged (asked_by packet) (Some causes.Again) s packet t
ignored causes.Source s packet t = judged (asked_by packet) (Some causes.Source) s packet _
ignored causes.Login s packet t = judged (asked_by packet) (Some causes.Login) s packet _
ignored causes.Slot s packet t = judged (asked_by packet) (Some causes.Slot) s packet _

ignored_that : (found : Option Sending) (cause : Cause) (s : ℕ) (t : Terms) → Same t (ignores_that found cause s t)
ignored_that None cause s t = refl
ignored_that (Some packet) cause s t = ignored cause s packet _

timed : (u : Option Transaction) (t : Terms) → Same t (times_out u t)
timed None t = refl
timed (Some u) t = refl

begun : (u : Option Transaction) (s : ℕ) (packet : Sending) (t : Terms) → Same t (begins u s packet t)
begun None s packet t = refl
begun (Some u) s packet t = refl

given : (u : Option Transaction) (rcode : ℕ) (t : Terms) → Same t (gives u rcode t)
given None rcode t = refl
given (Some u) rcode t = refl

paid : (owed : Option Owed) (sent : ℕ → Option Sending) (s : ℕ) (packet : Sending) (t : Terms) → Same t (pays owed sent s packet t)
paid None sent s packet t = refl
paid (Some owed) sent s packet t = given _ _ t

sent : (s : ℕ) (packet : Sending) (t : Terms) → Same t (sends s packet t)
sent s packet t =
    let put = puts (begun_by packet) s packet t in
    paid t.owes t.sent s packet (begins (begun_by packet) s packet put) ∙ begun (begun_by packet) s packet put

-- ---- a moment
-- the node sees no generation
abbrev pub is_sight : ℕ → Moment → Bool
is_sight node (said (notes.Seen other generation)) = other == node
is_sight node moment = false

pub moment_generation : (node : ℕ) (m : Moment) (past : List Moment) → is_sight node m ≡ false → (terms (m ∷ past)).generation node ≡ (terms past).generation node
moment_generation node (asked line event) past e = ap (λ (g : ℕ → ℕ). g node) (opens event (terms past))
moment_generation node (said (notes.Sent s generation from to bytes)) past e = ap (λ (g : ℕ → ℕ). g node) (sent s _ (terms past))
moment_generation node (said (notes.Got s)) past e = ap (λ (g : ℕ → ℕ). g node) (got ((terms past).sent s) s (terms past))
moment_generation node (said (notes.Ignored s cause)) past e = ap (λ (g : ℕ → ℕ). g node) (ignored_that ((terms past).sent s) cause s (terms past))
moment_generation node (said (notes.TimedOut s)) past e = ap (λ (g : ℕ → ℕ). g node) (timed _ (terms past))
moment_generation node (said (notes.Seen seen generation)) past e = other_node node seen generation (terms past).generation e
moment_generation node (said note) past e = refl

-- ---- it does not fall
stays_up : (node : ℕ) (m : Moment) (past : List Moment) → is_sight node m ≡ false → (terms past).generation node ≤ (terms (m ∷ past)).generation node
stays_up node m past e = let a = moment_generation node m past e in omega (arith, a)

sees_up : (node seen generation : ℕ) (old : ℕ → ℕ) → old seen ≤ generation → old node ≤ cond (nat_eq node seen) generation (old node)
sees_up node seen generation old l = by (nat_eq node seen) refl
  where
    by : (b : Bool) → nat_eq node seen ≡ b → old node ≤ cond b generation (old node)
    by true e = let same : seen ≡ node = grind (arith, nat_tests) in subst (λ k. old k ≤ generation) same l
    by false e = omega arith

pub not_lower : (node : ℕ) (m : Moment) (past : List Moment) → RisesAt m past → (terms past).generation node ≤ (terms (m ∷ past)).generation node
not_lower node (said (notes.Seen seen generation)) past r = sees_up node seen generation (terms past).generation r
not_lower node (asked line event) past r = stays_up node (asked line event) past refl
not_lower node (said note) past r = stays_up node (said note) past refl
