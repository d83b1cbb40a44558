-- The wire of a drill: no reset, no loss, nothing injected.
use Rattle.std.proofs.Common.{◌≡◌, ◌∙◌, refl, sym, ap, subst, ℕ, ◌==◌, Bool, true, false, cond, nat_eq, is_some, List, [], ◌∷◌, Option, Some, None}
use Rattle.async_packet.specs.Fields.{rcode_of}
use Rattle.bus_transactions.specs.Judging.{AreJudged, facts_of, may_ignore_by}
use Rattle.label_table.specs.Judging.{row_of}
use Rattle.sbp_base.specs.Update.{upd}
use Rattle.sbp_journal.specs.Run.{Moment, asked, history, said}
use Rattle.sbp_journal.specs.Transactions.{Kind, is_same_kind, is_to, Part, Sending, Transaction, asked_by, begun_by, between, no_packet, part_of, request, response}
use Rattle.sbp_journal.specs.Wire.{Flight, Held, Owed, Terms, gets, ignores_that, sends, times_out, arrives, asked_in, begins, begun_in, belongs_to, by_bus_rule, closes, closes_if, delivered, free, gets_as, gives, ignores, in_flight, is_news, is_served, judges, judges_if, local_id, lost, noted, opened, pays, puts, rests, terms, unsent, waits, withdraw, withdrawn}
use Rattle.sbp_journal.specs.declared.cause.Cause.{Cause}
use Rattle.sbp_journal.specs.declared.cause.Cause.TheVariants as causes
use Rattle.sbp_journal.specs.declared.event.Event.{Event}
use Rattle.sbp_journal.specs.declared.event.Event.TheVariants as events
use Rattle.sbp_journal.specs.declared.event.Action.TheVariants as actions
use Rattle.sbp_journal.specs.declared.note.Note.{Note}
use Rattle.sbp_journal.specs.declared.note.Note.TheVariants as notes
use Rattle.sbp_laws.specs.Budget.{HaveNoLoss, flies, since_reset}
use Rattle.sbp_laws.specs.SentPackets.{SentAt}
use Rattle.sbp_laws.specs.Turns.{EachMoment, is_sent}
use Rattle.drill_laws.specs.DrillLines.{IsDrillLine}
use Rattle.drill_laws.specs.DrillQuiet.{DrillsAreQuiet, IsQuiet}
use Rattle.drill_laws.proofs.DrillMoments.{DrillAt, MayAsk, drill_moments}

-- ---- what is looked at
pub record Parts : Type 0 where
  pub bus : ℕ
  pub ids : ℕ → ℕ → ℕ
  pub generation : ℕ → ℕ
  pub injected : ℕ → Bool
  pub injects : ℕ → Bool
  pub count : ℕ
  pub sent : ℕ → Option Sending
  pub flight : ℕ → Flight

abbrev pub parts : Terms → Parts
parts t = record { bus = t.bus; ids = t.ids; generation = t.generation; injected = t.injected; injects = t.injects; count = t.count; sent = t.sent; flight = t.flight }

pub record IsYoung (p : Parts) : Type 0 where
  pub bus : p.bus ≡ 0
  pub ids : (generation node : ℕ) → p.ids generation node ≡ local_id node
  pub generations : (node : ℕ) → p.generation node ≡ 0
  pub injected : (s : ℕ) → p.injected s ≡ false
  pub injects : (node : ℕ) → p.injects node ≡ false
  pub sent : (s : ℕ) (q : Sending) → p.sent s ≡ Some q → q.generation ≡ 0
  pub flown : (s : ℕ) → flies (p.flight s) ≡ true → is_some (p.sent s) ≡ true

abbrev pub Young : Terms → Type 0
Young t = IsYoung (parts t)

-- ---- a packet is sent

pays_keeps : (owes : Option Owed) (sent : ℕ → Option Sending) (s : ℕ) (q : Sending) (t : Terms) → parts (pays owes sent s q t) ≡ parts t
pays_keeps None sent s q t = refl
pays_keeps (Some owed) sent s q t = by (asked_in (sent owed.serial))
  where
    by : (u : Option Transaction) → parts (record (gives u (rcode_of q.bytes) t) { owes = None; answers = upd t.answers s (Some owed.serial) }) ≡ parts t
    by None = refl
    by (Some u) = refl

begins_keeps : (u : Option Transaction) (s : ℕ) (q : Sending) (t : Terms) → parts (begins u s q t) ≡ parts t
begins_keeps None s q t = refl
begins_keeps (Some u) s q t = refl

withdrawn_flies : (f : Flight) → flies (withdraw f) ≡ true → flies f ≡ true
withdrawn_flies in_flight e = refl
withdrawn_flies unsent e = absurd (cc e)
withdrawn_flies delivered e = absurd (cc e)
withdrawn_flies lost e = absurd (cc e)
withdrawn_flies withdrawn e = absurd (cc e)

pub rule_flies : (u : Option Transaction) (sent : ℕ → Option Sending) (flight : ℕ → Flight) (s : ℕ) → flies (by_bus_rule u sent flight s) ≡ true → flies (flight s) ≡ true
rule_flies None sent flight s e = e
rule_flies (Some u) sent flight s e = by (belongs_to u (sent s)) e
  where
    by : (b : Bool) → flies (cond b (withdraw (flight s)) (flight s)) ≡ true → flies (flight s) ≡ true
    by true e = withdrawn_flies (flight s) e
    by false e = e

puts_young : (u : Option Transaction) (s : ℕ) (q : Sending) (t : Terms) → q.generation ≡ 0 → q.injected ≡ false → Young t → Young (puts u s q t)
puts_young u s q t g i y = record {
  bus = y.bus;
  ids = y.ids;
  generations = y.generations;
  injected = y.injected;
  injects = λ node. by_injected q.injected i node;
  sent = λ o p e. by_sent (nat_eq o s) p (y.sent o p) e;
  flown = λ o e. by_flown (nat_eq o s) o (y.flown o) (rule_flies u t.sent t.flight o) e;
}
  where
    by_injected : (b : Bool) → b ≡ false → (node : ℕ) → (cond b (upd t.injects q.from true) t.injects) node ≡ false
    by_injected true e node = absurd (cc e)
    by_injected false e node = y.injects node

    by_sent : {o : Option Sending} (b : Bool) (p : Sending) → (o ≡ Some p → p.generation ≡ 0) → cond b (Some q) o ≡ Some p → p.generation ≡ 0
    by_sent true p old e = let same : q ≡ p = cc e in ap (λ x. x.generation) (sym same) ∙ g
    by_sent false p old e = old e

    by_flown : (b : Bool) (o : ℕ) → (flies (t.flight o) ≡ true → is_some (t.sent o) ≡ true) → (flies (by_bus_rule u t.sent t.flight o) ≡ true → flies (t.flight o) ≡ true) → flies (cond b in_flight (by_bus_rule u t.sent t.flight o)) ≡ true → is_some (cond b (Some q) (t.sent o)) ≡ true
    by_flown true o old rule e = refl
    by_flown false o old rule e = old (rule e)

-- ---- a packet arrives
arrives_young : (s : ℕ) (t : Terms) → Young t → Young (arrives s t)
arrives_young s t y = record {
  bus = y.bus;
  ids = y.ids;
  generations = y.generations;
  injected = y.injected;
  injects = y.injects;
  sent = y.sent;
  flown = λ o e. y.flown o (by_repeat t.repeats o e);
}
  where
    by_other : (b : Bool) (o : ℕ) → flies (cond b delivered (t.flight o)) ≡ true → flies (t.flight o) ≡ true
    by_other true o e = absurd (cc e)
    by_other false o e = e

    by_repeat : (b : Bool) (o : ℕ) → flies ((cond b t.flight (upd t.flight s delivered)) o) ≡ true → flies (t.flight o) ≡ true
    by_repeat true o e = e
    by_repeat false o e = by_other (nat_eq o s) o e

judges_keeps : (u : Option Transaction) (cause : Option Cause) (s : ℕ) (q : Sending) (t : Terms) → parts (judges u cause s q t) ≡ parts t
judges_keeps None cause s q t = refl
judges_keeps (Some u) cause s q t = refl

closes_if_keeps : (b : Bool) (s : ℕ) (u : Transaction) (rcode : ℕ) (t : Terms) → parts (closes_if b s u rcode t) ≡ parts t
closes_if_keeps true s u rcode t = refl
closes_if_keeps false s u rcode t = refl

closes_keeps : (held : Held) (u : Transaction) (other : Kind) (rcode : ℕ) (t : Terms) → parts (closes held u other rcode t) ≡ parts t
closes_keeps (waits kind s) u other rcode t = closes_if_keeps (is_same_kind kind other) s u rcode t
closes_keeps free u other rcode t = refl
closes_keeps rests u other rcode t = refl

pub gets_keeps : (part : Part) (s : ℕ) (q : Sending) (t : Terms) → parts (gets_as part s q t) ≡ parts t
gets_keeps (request label kind) s q t = judges_keeps (asked_by q) None s q t
gets_keeps (response label kind) s q t = closes_keeps (t.held (between q q.to q.from label)) (between q q.to q.from label) kind (rcode_of q.bytes) t
gets_keeps no_packet s q t = refl

judges_if_keeps : (b : Bool) (u : Option Transaction) (s : ℕ) (q : Sending) (t : Terms) → parts (judges_if b u s q t) ≡ parts t
judges_if_keeps true u s q t = judges_keeps u (Some causes.Grammar) s q t
judges_if_keeps false u s q t = refl

pub ignores_keeps : (cause : Cause) (s : ℕ) (q : Sending) (t : Terms) → parts (ignores cause s q t) ≡ parts t
ignores_keeps causes.Generation s q t = refl
ignores_keeps causes.Grammar s q t = judges_if_keeps (is_to q.bytes (t.ids q.generation q.to)) (asked_by q) s q (is_news s t)
ignores_keeps causes.Label s q t = refl
ignores_keeps causes.Again s q t = judges_keeps (asked_by q) (Some causes.Again) s q t
ignores_keeps causes.Source s q t = judges_keeps (asked_by q) (Some causes.Source) s q (is_news s t)
ignores_keeps causes.Login s q t = judges_keeps (asked_by q) (Some causes.Login) s q (is_news s t)
ignores_keeps causes.Slot s q t = judges_keeps (asked_by q) (Some causes.Slot) s q (is_served s (is_news s t))

-- ---- each moment
kept : (t u : Terms) → parts u ≡ parts t → Young t → Young u
kept t u e y = subst IsYoung (sym e) y

got_young : (found : Option Sending) (s : ℕ) (t : Terms) → Young t → Young (gets found s t)
got_young None s t y = y
got_young (Some q) s t y = kept (arrives s t) (gets (Some q) s t) (gets_keeps (part_of q.bytes) s q (is_served s (is_news s (arrives s t)))) (arrives_young s t y)

ignored_young : (found : Option Sending) (cause : Cause) (s : ℕ) (t : Terms) → Young t → Young (ignores_that found cause s t)
ignored_young None cause s t y = y
ignored_young (Some q) cause s t y = kept (arrives s t) (ignores_that (Some q) cause s t) (ignores_keeps cause s q (arrives s t)) (arrives_young s t y)

-- all that is looked at is put as the packet goes
pub sends_keeps : (s : ℕ) (q : Sending) (t : Terms) → parts (sends s q t) ≡ parts (puts (begun_by q) s q t)
sends_keeps s q t =
    let put = puts (begun_by q) s q t in
    pays_keeps t.owes t.sent s q (begins (begun_by q) s q put) ∙ begins_keeps (begun_by q) s q put

sent_young : (s : ℕ) (q : Sending) (t : Terms) → q.generation ≡ 0 → q.injected ≡ false → Young t → Young (sends s q t)
sent_young s q t g i y = kept (puts (begun_by q) s q t) (sends s q t) (sends_keeps s q t) (puts_young (begun_by q) s q t g i y)

line_young : (event : Event) (t : Terms) → IsDrillLine event → Young t → Young (opened event t)
line_young (events.Act i (actions.Append cmd)) t is y = y
line_young events.Settle t is y = y
line_young _ t is y = absurd is

asked_young : (past : List Moment) (event : Event) (t : Terms) → MayAsk past event → Young t → Young (opened event t)
asked_young [] event t is y = subst (λ e. Young (opened e t)) (sym is) y
asked_young (moment ∷ past) event t is y = line_young event t is y

note_young : (note : Note) (past : List Moment) → DrillAt (said note) past → SentAt (said note) past → Young (terms past) → Young (noted note (terms past))
note_young (notes.Sent s generation from to bytes) past d own y =
    let free = y.injected s in
    sent_young s (record { generation = generation; from = from; to = to; bytes = bytes; injected = (terms past).injected s }) (terms past) ((own.1 free).in_generation ∙ y.generations from) free y
note_young (notes.Got s) past d own y = got_young ((terms past).sent s) s (terms past) y
note_young (notes.Ignored s cause) past d own y = ignored_young ((terms past).sent s) cause s (terms past) y
note_young (notes.Lost s) past d own y = absurd (cc d)
note_young (notes.TimedOut s) past d own y = absurd (cc d)
note_young (notes.Injected s) past d own y = absurd (cc d)
note_young (notes.Reset generation) past d own y = absurd (cc d)
note_young (notes.Seen node generation) past d own y = absurd (cc d)
note_young _ past d own y = y

-- a note that sends nothing leaves what was sent
pub note_sent : (note : Note) (past : List Moment) → DrillAt (said note) past → is_sent note ≡ false → (noted note (terms past)).sent ≡ (terms past).sent
note_sent (notes.Sent s generation from to bytes) past d e = absurd (cc e)
note_sent (notes.Got s) past d e = by ((terms past).sent s)
  where
    by : (found : Option Sending) → (gets found s (terms past)).sent ≡ (terms past).sent
    by None = refl
    by (Some q) = ap (λ (p : Parts). p.sent) (gets_keeps (part_of q.bytes) s q (is_served s (is_news s (arrives s (terms past)))))
note_sent (notes.Ignored s cause) past d e = by ((terms past).sent s)
  where
    by : (found : Option Sending) → (ignores_that found cause s (terms past)).sent ≡ (terms past).sent
    by None = refl
    by (Some q) = ap (λ (p : Parts). p.sent) (ignores_keeps cause s q (arrives s (terms past)))
note_sent (notes.Lost s) past d e = refl
note_sent (notes.TimedOut s) past d e = by (begun_in ((terms past).sent s))
  where
    by : (u : Option Transaction) → (times_out u (terms past)).sent ≡ (terms past).sent
    by None = refl
    by (Some u) = refl
note_sent _ past d e = refl

pub young : (past : List Moment) → EachMoment DrillAt past → EachMoment SentAt past → Young (terms past)
young [] d own = record { bus = refl; ids = λ generation node. refl; generations = λ node. refl; injected = λ s. refl; injects = λ node. refl; sent = λ s q e. (let no : None ≡ Some q = e in absurd (cc no)); flown = λ s e. absurd (cc e) }
young (asked line event ∷ past) d own = asked_young past event (terms past) d.0 (young past d.1 own.1)
young (said note ∷ past) d own = note_young note past d.0 own.0 (young past d.1 own.1)

-- ---- nothing is lost
never_by_generation : (b c d e : Bool) → may_ignore_by (row_of (record { is_current = true; is_for_node = b; is_response = c; is_awaited = d; is_repeated = e })) causes.Generation ≡ false
never_by_generation false c d e = refl
never_by_generation true true false e = refl
never_by_generation true true true e = refl
never_by_generation true false d true = refl
never_by_generation true false d false = refl

abbrev IsClean : Moment → Type 0
IsClean (said (notes.Lost serial)) = ⊥
IsClean (said (notes.TimedOut serial)) = ⊥
IsClean (said (notes.Injected serial)) = ⊥
IsClean (said (notes.Ignored serial causes.Generation)) = ⊥
IsClean moment = Unit {0}

abbrev CleanAt : Moment → List Moment → Type 0
CleanAt moment past = IsClean moment

ignored_never : (past : List Moment) (s : ℕ) → Young (terms past) → flies ((terms past).flight s) ≡ true → ((q : Sending) → (terms past).sent s ≡ Some q → may_ignore_by (row_of (facts_of (terms past) q)) causes.Generation ≡ true) → ⊥
ignored_never past s y f judged = by ((terms past).sent s) refl (y.flown s f)
  where
    by : (found : Option Sending) → (terms past).sent s ≡ found → is_some found ≡ true → ⊥
    by None e some = absurd (cc some)
    by (Some q) e some =
        let facts = facts_of (terms past) q in
        let now : (q.generation == (terms past).generation q.to) ≡ true = ap (λ g. g == (terms past).generation q.to) (y.sent s q e) ∙ ap (λ g. 0 == g) (y.generations q.to) in
        let never : may_ignore_by (row_of facts) causes.Generation ≡ false
        = ap (λ b. may_ignore_by (row_of (record { is_current = b; is_for_node = facts.is_for_node; is_response = facts.is_response; is_awaited = facts.is_awaited; is_repeated = facts.is_repeated })) causes.Generation) now
        ∙ never_by_generation facts.is_for_node facts.is_response facts.is_awaited facts.is_repeated in
        let no : true ≡ false = sym (judged q e) ∙ never in
        absurd (cc no)

clean : (past : List Moment) → EachMoment DrillAt past → EachMoment SentAt past → AreJudged past → EachMoment CleanAt past
clean [] d own j = tt
clean (said (notes.Lost s) ∷ past) d own j = absurd (let no : false ≡ true = d.0 in cc no)
clean (said (notes.TimedOut s) ∷ past) d own j = absurd (let no : false ≡ true = d.0 in cc no)
clean (said (notes.Injected s) ∷ past) d own j = absurd (let no : false ≡ true = d.0 in cc no)
clean (said (notes.Ignored s causes.Generation) ∷ past) d own j = absurd (ignored_never past s (young past d.1 own.1) d.0 j.0)
clean (said (notes.Ignored s cause) ∷ past) d own j = (tt, clean past d.1 own.1 j.1)
clean (said (notes.Got s) ∷ past) d own j = (tt, clean past d.1 own.1 j.1)
clean (_ ∷ past) d own j = (tt, clean past d.1 own.1 j)

no_loss : (wire : Terms) (past : List Moment) → EachMoment CleanAt past → HaveNoLoss wire past
no_loss wire [] c = tt
no_loss wire (said (notes.Lost s) ∷ past) c = c.0
no_loss wire (said (notes.TimedOut s) ∷ past) c = c.0
no_loss wire (said (notes.Injected s) ∷ past) c = c.0
no_loss wire (said (notes.Ignored s causes.Generation) ∷ past) c = absurd c.0
no_loss wire (_ ∷ past) c = no_loss wire past c.1

clean_since : (past : List Moment) → EachMoment CleanAt past → EachMoment CleanAt (since_reset past)
clean_since [] c = tt
clean_since (said (notes.Reset generation) ∷ past) c = tt
clean_since (said (notes.Begin initiators ready) ∷ past) c = tt
clean_since (_ ∷ past) c = (c.0, clean_since past c.1)

pub is_quiet : (past : List Moment) → EachMoment DrillAt past → EachMoment SentAt past → AreJudged past → IsQuiet past
is_quiet past d own j =
    let y = young past d own in
    record {
      bus = y.bus;
      generations = y.generations;
      nobody_injects = y.injects;
      lossless = record { seen = λ node few. y.generations node ∙ sym y.bus; none = no_loss (terms past) (since_reset past) (clean_since past (clean past d own j)) };
    }

pub drills_are_quiet : DrillsAreQuiet
drills_are_quiet disks entries lines brings packets judged = is_quiet (history entries) (drill_moments disks entries brings lines) packets judged
