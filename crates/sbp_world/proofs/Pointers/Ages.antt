-- What each moment leaves of the transactions that were closed, and of the generation of a node; and how a transaction that waits is closed.
use Rattle.sbp_world.proofs.Words.Std.{arith, ◌≡◌, refl, sym, ◌∙◌, ap, ℕ, nat_eq, ◌==◌, is_some, Bool, true, false, cond, List, ◌∷◌, Option, Some, None, nat_tests}
use Rattle.sbp_world.proofs.Words.Wire.{rcode_of, Moment, asked, said, Kind, Part, Sending, Transaction, asked_by, begun_by, between, is_same, is_same_kind, part_of, request, response, Held, Owed, Terms, arrives, begins, closes, closes_if, free, gets, gets_as, gives, ignores, ignores_that, is_news, is_served, judges, judges_if, opened, pays, puts, rests, sends, terms, times_out, waits, Cause, Event}
use Rattle.bus_transactions.proofs.PacketParts.{same_is}
use Rattle.sbp_journal.specs.Transactions.{no_packet}
use Rattle.sbp_journal.specs.declared.cause.Cause.TheVariants as causes
use Rattle.sbp_journal.specs.declared.event.Event.TheVariants as events
use Rattle.sbp_journal.specs.declared.note.Note.TheVariants as notes
use Rattle.sbp_world.proofs.Common.{untrue}

-- what was closed is so still
abbrev pub Closes : Terms → Terms → Type 0
Closes t u = (n : ℕ) → is_some (t.closed n) ≡ true → is_some (u.closed n) ≡ true

pub record Ages (t u : Terms) : Type 0 where
  pub closed : Closes t u
  pub generation : u.generation ≡ t.generation
  pub sent : u.sent ≡ t.sent

same_ages : {t u : Terms} → u.closed ≡ t.closed → u.generation ≡ t.generation → u.sent ≡ t.sent → Ages t u
same_ages e g s = record { closed = λ n f. ap (λ (c : ℕ → Option ℕ). is_some (c n)) e ∙ f; generation = g; sent = s }

opened_ages : (event : Event) (t : Terms) → Ages t (opened event t)
opened_ages (events.Reset physical) t = same_ages refl refl refl
opened_ages (events.Repeat serial) t = same_ages refl refl refl
opened_ages _ t = same_ages refl refl refl

judges_ages : (u : Option Transaction) (cause : Option Cause) (s : ℕ) (packet : Sending) (t : Terms) → Ages t (judges u cause s packet t)
judges_ages None cause s packet t = same_ages refl refl refl
judges_ages (Some u) cause s packet t = same_ages refl refl refl

judges_if_ages : (b : Bool) (u : Option Transaction) (s : ℕ) (packet : Sending) (t : Terms) → Ages t (judges_if b u s packet t)
judges_if_ages true u s packet t = judges_ages u (Some causes.Grammar) s packet t
judges_if_ages false u s packet t = same_ages refl refl refl

one_more : (b : Bool) (rcode : ℕ) (old : Option ℕ) → is_some old ≡ true → is_some (cond b (Some rcode) old) ≡ true
one_more true rcode old e = refl
one_more false rcode old e = e

closes_if_ages : (b : Bool) (s : ℕ) (u : Transaction) (rcode : ℕ) (t : Terms) → Ages t (closes_if b s u rcode t)
closes_if_ages true s u rcode t = record { closed = λ n f. one_more (nat_eq n s) rcode (t.closed n) f; generation = refl; sent = refl }
closes_if_ages false s u rcode t = same_ages refl refl refl

closes_ages : (held : Held) (u : Transaction) (kind : Kind) (rcode : ℕ) (t : Terms) → Ages t (closes held u kind rcode t)
closes_ages (waits kind s) u other rcode t = closes_if_ages _ s u rcode t
closes_ages free u other rcode t = same_ages refl refl refl
closes_ages rests u other rcode t = same_ages refl refl refl

gets_as_ages : (part : Part) (s : ℕ) (packet : Sending) (t : Terms) → Ages t (gets_as part s packet t)
gets_as_ages (request label kind) s packet t = judges_ages (asked_by packet) None s packet t
gets_as_ages (response label kind) s packet t = closes_ages _ _ kind _ t
gets_as_ages no_packet s packet t = same_ages refl refl refl

pub gets_ages : (found : Option Sending) (s : ℕ) (t : Terms) → Ages t (gets found s t)
gets_ages None s t = same_ages refl refl refl
gets_ages (Some packet) s t = let k = gets_as_ages (part_of packet.bytes) s packet _ in record { closed = k.closed; generation = k.generation; sent = k.sent }

ignores_ages : (cause : Cause) (s : ℕ) (packet : Sending) (t : Terms) → Ages t (ignores cause s packet t)
ignores_ages causes.Generation s packet t = same_ages refl refl refl
ignores_ages causes.Grammar s packet t = let k = judges_if_ages _ (asked_by packet) s packet _ in record { closed = k.closed; generation = k.generation; sent = k.sent }
ignores_ages causes.Label s packet t = same_ages refl refl refl
ignores_ages causes.Again s packet t = judges_ages (asked_by packet) (Some causes.Again) s packet t
ignores_ages causes.Source s packet t = let k = judges_ages (asked_by packet) (Some causes.Source) s packet _ in record { closed = k.closed; generation = k.generation; sent = k.sent }
ignores_ages causes.Login s packet t = let k = judges_ages (asked_by packet) (Some causes.Login) s packet _ in record { closed = k.closed; generation = k.generation; sent = k.sent }
ignores_ages causes.Slot s packet t = let k = judges_ages (asked_by packet) (Some causes.Slot) s packet _ in record { closed = k.closed; generation = k.generation; sent = k.sent }

pub ignores_that_ages : (found : Option Sending) (cause : Cause) (s : ℕ) (t : Terms) → Ages t (ignores_that found cause s t)
ignores_that_ages None cause s t = same_ages refl refl refl
ignores_that_ages (Some packet) cause s t = let k = ignores_ages cause s packet _ in record { closed = k.closed; generation = k.generation; sent = k.sent }

times_out_ages : (u : Option Transaction) (t : Terms) → Ages t (times_out u t)
times_out_ages None t = same_ages refl refl refl
times_out_ages (Some u) t = same_ages refl refl refl

begins_ages : (u : Option Transaction) (s : ℕ) (packet : Sending) (t : Terms) → Ages t (begins u s packet t)
begins_ages None s packet t = same_ages refl refl refl
begins_ages (Some u) s packet t = same_ages refl refl refl

gives_ages : (u : Option Transaction) (rcode : ℕ) (t : Terms) → Ages t (gives u rcode t)
gives_ages None rcode t = same_ages refl refl refl
gives_ages (Some u) rcode t = same_ages refl refl refl

pays_ages : (owed : Option Owed) (sent : ℕ → Option Sending) (s : ℕ) (packet : Sending) (t : Terms) → Ages t (pays owed sent s packet t)
pays_ages None sent s packet t = same_ages refl refl refl
pays_ages (Some owed) sent s packet t = let k = gives_ages _ _ t in record { closed = k.closed; generation = k.generation; sent = k.sent }

pub sends_ages : (s : ℕ) (packet : Sending) (t : Terms) → Closes t (sends s packet t) × ((sends s packet t).generation ≡ t.generation)
sends_ages s packet t =
    let put = puts (begun_by packet) s packet t in
    let a = begins_ages (begun_by packet) s packet put in
    let p = pays_ages t.owes t.sent s packet (begins (begun_by packet) s packet put) in
    ((λ n f. p.closed n (a.closed n f)), p.generation ∙ a.generation)

-- ---- a moment

-- what was closed before a moment is so behind it
pub moment_closes : (m : Moment) (past : List Moment) → Closes (terms past) (terms (m ∷ past))
moment_closes (asked line event) past = (opened_ages event (terms past)).closed
moment_closes (said (notes.Sent s generation from to bytes)) past = (sends_ages s _ (terms past)).0
moment_closes (said (notes.Got s)) past = (gets_ages ((terms past).sent s) s (terms past)).closed
moment_closes (said (notes.Ignored s cause)) past = (ignores_that_ages ((terms past).sent s) cause s (terms past)).closed
moment_closes (said (notes.TimedOut s)) past = (times_out_ages _ (terms past)).closed
moment_closes (said note) past = λ n f. f

-- a moment at which no packet is sent
abbrev pub is_leaving : Moment → Bool
is_leaving (said (notes.Sent s generation from to bytes)) = true
is_leaving moment = false

pub moment_sent : (m : Moment) (past : List Moment) → is_leaving m ≡ false → (terms (m ∷ past)).sent ≡ (terms past).sent
moment_sent (asked line event) past e = (opened_ages event (terms past)).sent
moment_sent (said (notes.Sent s generation from to bytes)) past e = untrue (sym e)
moment_sent (said (notes.Got s)) past e = (gets_ages ((terms past).sent s) s (terms past)).sent
moment_sent (said (notes.Ignored s cause)) past e = (ignores_that_ages ((terms past).sent s) cause s (terms past)).sent
moment_sent (said (notes.TimedOut s)) past e = (times_out_ages _ (terms past)).sent
moment_sent (said note) past e = refl

-- the node sees no generation
abbrev pub is_sight : ℕ → Moment → Bool
is_sight node (said (notes.Seen other generation)) = other == node
is_sight node moment = false

pub other_node : (node seen generation : ℕ) (old : ℕ → ℕ) → (seen == node) ≡ false → cond (nat_eq node seen) generation (old node) ≡ old node
other_node node seen generation old e = let f : nat_eq node seen ≡ false = grind (arith, nat_tests) in ap (λ b. cond b generation (old node)) f

pub moment_generation : (node : ℕ) (m : Moment) (past : List Moment) → is_sight node m ≡ false → (terms (m ∷ past)).generation node ≡ (terms past).generation node
moment_generation node (asked line event) past e = ap (λ (g : ℕ → ℕ). g node) (opened_ages event (terms past)).generation
moment_generation node (said (notes.Sent s generation from to bytes)) past e = ap (λ (g : ℕ → ℕ). g node) (sends_ages s _ (terms past)).1
moment_generation node (said (notes.Got s)) past e = ap (λ (g : ℕ → ℕ). g node) (gets_ages ((terms past).sent s) s (terms past)).generation
moment_generation node (said (notes.Ignored s cause)) past e = ap (λ (g : ℕ → ℕ). g node) (ignores_that_ages ((terms past).sent s) cause s (terms past)).generation
moment_generation node (said (notes.TimedOut s)) past e = ap (λ (g : ℕ → ℕ). g node) (times_out_ages _ (terms past)).generation
moment_generation node (said (notes.Seen seen generation)) past e = other_node node seen generation (terms past).generation e
moment_generation node (said note) past e = refl

-- the generation that a node sees
pub seen_now : (node generation : ℕ) (past : List Moment) → (terms (said (notes.Seen node generation) ∷ past)).generation node ≡ generation
seen_now node generation past = let f : nat_eq node node ≡ true = grind (arith, nat_tests) in ap (λ b. cond b generation ((terms past).generation node)) f

-- ---- a transaction that waits no more is closed

pub serial_is : (a b : Kind) (m n : ℕ) → waits a m ≡ waits b n → n ≡ m
serial_is a b m n e = cc

closed_here : (s n rcode : ℕ) (old : Option ℕ) → n ≡ s → is_some (cond (nat_eq n s) (Some rcode) old) ≡ true
closed_here s n rcode old e = let f : nat_eq n s ≡ true = grind (arith, nat_tests) in ap (λ b. is_some (cond b (Some rcode) old)) f

module _ (v : Transaction) (kind : Kind) (n : ℕ) where
  -- no longer waits
  abbrev Over : Terms → Type 0
  Over u = u.held v ≡ waits kind n → ⊥

  closes_by : (b c : Bool) (own : Kind) (s : ℕ) (u : Transaction) (rcode : ℕ) (t : Terms) → is_same v u ≡ c → t.held u ≡ waits own s → t.held v ≡ waits kind n → Over (closes_if b s u rcode t) → is_some ((closes_if b s u rcode t).closed n) ≡ true
  closes_by false c own s u rcode t e h w f = absurd (f w)
  closes_by true false own s u rcode t e h w f = absurd (f (ap (λ b. cond b free (t.held v)) e ∙ w))
  closes_by true true own s u rcode t e h w f = closed_here s n rcode (t.closed n) (serial_is own kind s n (sym h ∙ ap t.held (sym (same_is v u e)) ∙ w))

  closes_held : (held : Held) (u : Transaction) (other : Kind) (rcode : ℕ) (t : Terms) → t.held u ≡ held → t.held v ≡ waits kind n → Over (closes held u other rcode t) → is_some ((closes held u other rcode t).closed n) ≡ true
  closes_held free u other rcode t h w f = absurd (f w)
  closes_held rests u other rcode t h w f = absurd (f w)
  closes_held (waits own s) u other rcode t h w f = closes_by (is_same_kind own other) (is_same v u) own s u rcode t refl h w f

  judges_held : (u : Option Transaction) (cause : Option Cause) (s : ℕ) (packet : Sending) (t : Terms) → t.held v ≡ waits kind n → (judges u cause s packet t).held v ≡ waits kind n
  judges_held None cause s packet t w = w
  judges_held (Some u) cause s packet t w = w

  gets_part : (part : Part) (s : ℕ) (packet : Sending) (t : Terms) → t.held v ≡ waits kind n → Over (gets_as part s packet t) → is_some ((gets_as part s packet t).closed n) ≡ true
  gets_part (request label other) s packet t w f = absurd (f (judges_held (asked_by packet) None s packet t w))
  gets_part (response label other) s packet t w f =
      let u = between packet packet.to packet.from label in closes_held (t.held u) u other (rcode_of packet.bytes) t refl w f
  gets_part no_packet s packet t w f = absurd (f w)

  gets_closed : (found : Option Sending) (s : ℕ) (t : Terms) → t.held v ≡ waits kind n → Over (gets found s t) → is_some ((gets found s t).closed n) ≡ true
  gets_closed None s t w f = absurd (f w)
  gets_closed (Some packet) s t w f = gets_part (part_of packet.bytes) s packet (is_served s (is_news s (arrives s t))) w f

  -- a packet that is got closes it
  pub got_closes : (serial : ℕ) (past : List Moment) → (terms past).held v ≡ waits kind n → Over (terms (said (notes.Got serial) ∷ past)) → is_some ((terms (said (notes.Got serial) ∷ past)).closed n) ≡ true
  got_closes serial past w f = gets_closed ((terms past).sent serial) serial (terms past) w f
