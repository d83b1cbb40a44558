-- The generation that a node is in changes where it sees a reset alone. And where no note tells of an injected packet, none was injected.
use Rattle.std.proofs.Common.{◌≡◌, ◌∙◌, refl, ap, ℕ, Bool, true, false, cond, List, [], ◌∷◌, Option, Some, None}
use Rattle.sbp_base.specs.Update.{upd}
use Rattle.async_packet.specs.Fields.{rcode_of}
use Rattle.sbp_journal.specs.Run.{Moment, asked, said}
use Rattle.sbp_journal.specs.Transactions.{Kind, is_same_kind, Part, request, response, no_packet, part_of, is_to, Sending, Transaction, asked_by, between, begun_by}
use Rattle.sbp_journal.specs.Wire.{Held, Owed, Terms, arrives, asked_in, begins, begun_in, closes, closes_if, free, gets, gets_as, gives, ignores, ignores_that, is_news, is_served, judges, judges_if, noted, opened, pays, puts, rests, sends, terms, times_out, waits}
use Rattle.sbp_journal.specs.declared.cause.Cause.{Cause}
use Rattle.sbp_journal.specs.declared.cause.Cause.TheVariants as causes
use Rattle.sbp_journal.specs.declared.event.Event.{Event}
use Rattle.sbp_journal.specs.declared.event.Event.TheVariants as events
use Rattle.sbp_journal.specs.declared.note.Note.{Note}
use Rattle.sbp_journal.specs.declared.note.Note.TheVariants as notes
use Rattle.sbp_laws.specs.Turns.{EachMoment}

-- the generations of the nodes, which packets were injected, and which nodes sent such ones
abbrev stated : Terms → (ℕ → ℕ) × ((ℕ → Bool) × (ℕ → Bool))
stated t = (t.generation, (t.injected, t.injects))

abbrev first : (ℕ → ℕ) × ((ℕ → Bool) × (ℕ → Bool)) → ℕ → ℕ
first z = z.0

abbrev second : (ℕ → ℕ) × ((ℕ → Bool) × (ℕ → Bool)) → ℕ → Bool
second z = z.1.0

abbrev third : (ℕ → ℕ) × ((ℕ → Bool) × (ℕ → Bool)) → ℕ → Bool
third z = z.1.1

judges_same : (began : Option Transaction) (cause : Option Cause) (s : ℕ) (q : Sending) (t : Terms) → stated (judges began cause s q t) ≡ stated t
judges_same None cause s q t = refl
judges_same (Some u) cause s q t = refl

if_same : (b : Bool) (began : Option Transaction) (s : ℕ) (q : Sending) (t : Terms) → stated (judges_if b began s q t) ≡ stated t
if_same true began s q t = judges_same began (Some causes.Grammar) s q t
if_same false began s q t = refl

ignores_same : (cause : Cause) (s : ℕ) (q : Sending) (t : Terms) → stated (ignores cause s q t) ≡ stated t
ignores_same causes.Generation s q t = refl
ignores_same causes.Grammar s q t = if_same (is_to q.bytes (t.ids q.generation q.to)) (asked_by q) s q (is_news s t)
ignores_same causes.Label s q t = refl
ignores_same causes.Again s q t = judges_same (asked_by q) (Some causes.Again) s q t
ignores_same causes.Source s q t = judges_same (asked_by q) (Some causes.Source) s q (is_news s t)
ignores_same causes.Login s q t = judges_same (asked_by q) (Some causes.Login) s q (is_news s t)
ignores_same causes.Slot s q t = judges_same (asked_by q) (Some causes.Slot) s q (is_served s (is_news s t))

ignored_same : (so : Option Sending) (cause : Cause) (s : ℕ) (t : Terms) → stated (ignores_that so cause s t) ≡ stated t
ignored_same None cause s t = refl
ignored_same (Some q) cause s t = ignores_same cause s q (arrives s t)

closed_same : (b : Bool) (s : ℕ) (u : Transaction) (rcode : ℕ) (t : Terms) → stated (closes_if b s u rcode t) ≡ stated t
closed_same true s u rcode t = refl
closed_same false s u rcode t = refl

closes_same : (held : Held) (u : Transaction) (kind : Kind) (rcode : ℕ) (t : Terms) → stated (closes held u kind rcode t) ≡ stated t
closes_same free u kind rcode t = refl
closes_same (waits other s) u kind rcode t = closed_same (is_same_kind other kind) s u rcode t
closes_same rests u kind rcode t = refl

gets_same : (part : Part) (s : ℕ) (q : Sending) (t : Terms) → stated (gets_as part s q t) ≡ stated t
gets_same (request label kind) s q t = judges_same (asked_by q) None s q t
gets_same (response label kind) s q t = closes_same (t.held (between q q.to q.from label)) (between q q.to q.from label) kind (rcode_of q.bytes) t
gets_same no_packet s q t = refl

got_same : (so : Option Sending) (s : ℕ) (t : Terms) → stated (gets so s t) ≡ stated t
got_same None s t = refl
got_same (Some q) s t = gets_same (part_of q.bytes) s q (is_served s (is_news s (arrives s t)))

times_same : (began : Option Transaction) (t : Terms) → stated (times_out began t) ≡ stated t
times_same None t = refl
times_same (Some u) t = refl

gives_same : (began : Option Transaction) (rcode : ℕ) (t : Terms) → stated (gives began rcode t) ≡ stated t
gives_same None rcode t = refl
gives_same (Some u) rcode t = refl

pays_same : (owed : Option Owed) (sent : ℕ → Option Sending) (s : ℕ) (q : Sending) (t : Terms) → stated (pays owed sent s q t) ≡ stated t
pays_same None sent s q t = refl
pays_same (Some owed) sent s q t = gives_same (asked_in (sent owed.serial)) (rcode_of q.bytes) t

begins_same : (begun : Option Transaction) (s : ℕ) (q : Sending) (t : Terms) → stated (begins begun s q t) ≡ stated t
begins_same None s q t = refl
begins_same (Some u) s q t = refl

-- of the sender of a packet that was injected it is noted
sends_same : (s : ℕ) (q : Sending) (t : Terms) → stated (sends s q t) ≡ stated (puts (begun_by q) s q t)
sends_same s q t =
    let put = puts (begun_by q) s q t in
    pays_same t.owes t.sent s q (begins (begun_by q) s q put) ∙ begins_same (begun_by q) s q put

-- ---- generations

-- a note of no node that sees a reset
abbrev pub IsNoSight : Note → Type 0
IsNoSight (notes.Seen node generation) = ⊥
IsNoSight _ = Unit {0}

pub noted_same : (note : Note) (t : Terms) → IsNoSight note → (noted note t).generation ≡ t.generation
noted_same (notes.Sent s generation from to bytes) t h = ap first (sends_same s (record { generation = generation; from = from; to = to; bytes = bytes; injected = t.injected s }) t)
noted_same (notes.Injected s) t h = refl
noted_same (notes.Got s) t h = ap first (got_same (t.sent s) s t)
noted_same (notes.Ignored s cause) t h = ap first (ignored_same (t.sent s) cause s t)
noted_same (notes.Lost s) t h = refl
noted_same (notes.TimedOut s) t h = ap first (times_same (begun_in (t.sent s)) t)
noted_same (notes.Reset generation) t h = refl
noted_same (notes.Seen node generation) t h = absurd h
noted_same _ t h = refl

begun_same : (event : Event) (t : Terms) → stated (opened event t) ≡ stated t
begun_same (events.Reset physical) t = refl
begun_same (events.Repeat s) t = refl
begun_same _ t = refl

-- nor does a line's beginning
pub opened_same : (event : Event) (t : Terms) → (opened event t).generation ≡ t.generation
opened_same event t = ap first (begun_same event t)

-- ---- injected packets

-- no packet was injected
pub record IsFair (t : Terms) : Type 0 where
  pub packets : (s : ℕ) → t.injected s ≡ false
  pub nodes : (node : ℕ) → t.injects node ≡ false

fair_same : (now before : Terms) → stated now ≡ stated before → IsFair before → IsFair now
fair_same now before same fair = record {
  packets = λ s. ap (λ z. second z s) same ∙ fair.packets s;
  nodes = λ node. ap (λ z. third z node) same ∙ fair.nodes node;
}

sent_fair : (s : ℕ) (q : Sending) (t : Terms) → q.injected ≡ false → IsFair t → IsFair (sends s q t)
sent_fair s q t none fair =
    fair_same (sends s q t) (puts (begun_by q) s q t) (sends_same s q t) (record {
      packets = fair.packets;
      nodes = λ node. ap (λ (b : Bool). cond b (upd t.injects q.from true) t.injects node) none ∙ fair.nodes node;
    })

abbrev pub TellsNoInjected : Note → Type 0
TellsNoInjected (notes.Injected s) = ⊥
TellsNoInjected _ = Unit {0}

noted_fair : (note : Note) (t : Terms) → TellsNoInjected note → IsFair t → IsFair (noted note t)
noted_fair (notes.Sent s generation from to bytes) t h fair = sent_fair s (record { generation = generation; from = from; to = to; bytes = bytes; injected = t.injected s }) t (fair.packets s) fair
noted_fair (notes.Injected s) t h fair = absurd h
noted_fair (notes.Got s) t h fair = fair_same (noted (notes.Got s) t) t (got_same (t.sent s) s t) fair
noted_fair (notes.Ignored s cause) t h fair = fair_same (noted (notes.Ignored s cause) t) t (ignored_same (t.sent s) cause s t) fair
noted_fair (notes.Lost s) t h fair = fair_same (noted (notes.Lost s) t) t refl fair
noted_fair (notes.TimedOut s) t h fair = fair_same (noted (notes.TimedOut s) t) t (times_same (begun_in (t.sent s)) t) fair
noted_fair (notes.Reset generation) t h fair = fair_same (noted (notes.Reset generation) t) t refl fair
noted_fair (notes.Seen node generation) t h fair = record { packets = fair.packets; nodes = fair.nodes }
noted_fair _ t h fair = fair

-- of a history
abbrev pub TellsNone : Moment → List Moment → Type 0
TellsNone (asked line event) past = Unit {0}
TellsNone (said note) past = TellsNoInjected note

pub none_injected : (past : List Moment) → EachMoment TellsNone past → IsFair (terms past)
none_injected [] h = record { packets = λ s. refl; nodes = λ node. refl }
none_injected (asked line event ∷ past) h = fair_same (opened event (terms past)) (terms past) (begun_same event (terms past)) (none_injected past h.1)
none_injected (said note ∷ past) h = noted_fair note (terms past) h.0 (none_injected past h.1)
