-- As each packet is got in every run: one that closes the transaction of a request to an initiator which injected no packets was not injected.
use Rattle.sbp_world.proofs.Words.Std.{◌≡◌, ◌∙◌, refl, sym, ap, subst, ℕ, suc, ◌<◌, List, [], ◌∷◌, ◌++◌, map, length, Option, Some, false}
use Rattle.sbp_world.proofs.Words.Wire.{IsAwaited, Event, Note, Moment, asked, said, Sending, Transaction, between, Terms, terms}
use Rattle.sbp_world.proofs.Words.Target.{Disk}
use Rattle.sbp_world.proofs.Words.Laws.{answered_at, receiver_in, EachMoment}
use Rattle.sbp_world.proofs.Words.World.{moments_behind, ready_logins, Run, beginning, Stands, WorldState, IsCalm}
use Rattle.bus_transactions.proofs.Reaches.{goes_on}
use Rattle.sbp_journal.specs.declared.note.Note.TheVariants as notes
use Rattle.sbp_world.proofs.Agents.Management.Holding.{Holding, past_terms}
use Rattle.sbp_world.proofs.Agents.Management.Still.{hist}
use Rattle.sbp_world.proofs.Lists.BegunBy.{IsHeld, held_by}
use Rattle.sbp_world.proofs.Lists.Calm.{calm_before}
use Rattle.sbp_world.proofs.Lists.Courses.{EveryPlace, Keeps, at_between, at_lines}
use Rattle.sbp_world.proofs.Lists.FedOnce.{IsReply, reply_by}
use Rattle.sbp_world.proofs.Lists.Gots.{Next, next, next_line, same_still}
use Rattle.sbp_world.proofs.Lists.Heard.{awaited_to}
use Rattle.sbp_world.proofs.Lists.Judging.{goes_next}
use Rattle.sbp_world.proofs.Lists.LiveRuns.{goes_size}
use Rattle.sbp_world.proofs.Lists.ManageSends.{opened_terms}
use Rattle.sbp_world.proofs.Lists.ManageTerms.{same_some}
use Rattle.sbp_world.proofs.Lists.OwnGots.{answered_same}
use Rattle.sbp_world.proofs.Lists.OwnLogins.{OwnKnown, own_known}
use Rattle.sbp_world.proofs.Lists.Quiet.{AllQuiet, IsQuiet}

-- of so many initiators
abbrev pub Honest : ℕ → List Moment → ℕ → Type 0
Honest n past serial =
    (own : ℕ) → answered_at (terms past) serial ≡ Some own → (i : ℕ) → i < n → receiver_in ((terms past).sent own) ≡ Some (suc i) → IsCalm past i → (packet : Sending) → (terms past).sent serial ≡ Some packet → packet.injected ≡ false

abbrev pub HonestAt : ℕ → Moment → List Moment → Type 0
HonestAt n (said (notes.Got serial)) past = Honest n past serial
HonestAt n moment past = Unit {0}

-- ---- behind a place
module _ (units ready : ℕ) (has : 0 < units) (start : List Disk) {past : List Moment} {lines : ℕ} (w : WorldState) (h : Holding units ready start past lines w) (k : OwnKnown start (hist past w) w) where
  abbrev t : Terms
  t = terms (hist past w)

  abbrev stands : Stands past w
  stands = h.sound.stands

  module _ (serial own : ℕ) (closed : answered_at t serial ≡ Some own) where
    reply : IsReply t serial own
    reply = reply_by t serial own (t.sent serial) refl closed

    abbrev q : Sending
    q = reply.packet

    abbrev u : Transaction
    u = between q q.to q.from reply.label

    held : IsHeld (t.held u) own
    held = held_by (t.held u) reply.kind own reply.closes

    awaited : IsAwaited (terms stands.wire.past) u held.kind own
    awaited = goes_on.awaited stands.wire u held.kind own stands.reached (ap (λ (y : Terms). y.held u) (past_terms w stands) ∙ held.is)

    goes_to : receiver_in (t.sent own) ≡ Some q.from
    goes_to = ap (λ (y : Terms). receiver_in (y.sent own)) (sym (past_terms w stands)) ∙ awaited_to (terms stands.wire.past) u held.kind own awaited

    is_honest : (i : ℕ) → i < length w.initiators → receiver_in (t.sent own) ≡ Some (suc i) → IsCalm (hist past w) i → (packet : Sending) → t.sent serial ≡ Some packet → packet.injected ≡ false
    is_honest i inside to calm packet sent =
        let from : q.from ≡ suc i = same_some q.from (suc i) (sym goes_to ∙ to) in
        let same : packet ≡ q = same_some packet q (sym sent ∙ reply.sent) in
        k.wrote.none i inside calm serial packet sent (ap (λ (x : Sending). x.from) same ∙ from)

  pub honest_there : (serial : ℕ) → Honest (length w.initiators) (hist past w) serial
  honest_there serial own closed i inside to calm packet sent = is_honest serial own closed i inside to calm packet sent

-- ---- as a line begins
module _ (n : ℕ) (start : List Disk) (line : ℕ) (event : Event) (past : List Moment) (serial : ℕ) where
  abbrev here : List Moment
  here = asked line event ∷ past

  honest_here : Honest n past serial → Honest n here serial
  honest_here g own closed i inside to calm packet sent =
      let same : (terms here).sent ≡ (terms past).sent = (opened_terms event (terms past)).sent in
      g own (sym (answered_same start line event past serial) ∙ closed) i inside (ap (λ (f : ℕ → Option Sending). receiver_in (f own)) (sym same) ∙ to) (calm_before (asked line event ∷ []) past i calm) packet (ap (λ (f : ℕ → Option Sending). f serial) (sym same) ∙ sent)

-- ---- a turn
module _ (n : ℕ) (start : List Disk) (before now : List Moment) (good : (serial : ℕ) → Honest n before serial) (l : EachMoment (HonestAt n) before) where
  abbrev L : List Moment → Type 0
  L past = EachMoment (HonestAt n) past

  quiet_at : (note : Note) → IsQuiet note → (past : List Moment) → HonestAt n (said note) past
  quiet_at (notes.Got serial) q past = absurd q
  quiet_at note q past = tt

  front_all : (front : List Note) → AllQuiet front → (past : List Moment) → L past → L (map said front ++ past)
  front_all [] q past l = l
  front_all (note ∷ front) q past l = (quiet_at note q.0 (map said front ++ past), front_all front q.1 past l)

  first_note : (note : Note) (past : List Moment) → ((serial : ℕ) → Honest n past serial) → HonestAt n (said note) past
  first_note (notes.Got serial) past good = good serial
  first_note note past good = tt

  pub honest_turn : Next before now → L now
  honest_turn (same_still e) = subst L (sym e) l
  honest_turn (next front q (said note) is) = subst L is (front_all front q (said note ∷ before) (first_note note before good, l))
  honest_turn (next front q (asked line event) is) = subst L is (front_all front q (asked line event ∷ before) (tt, l))
  honest_turn (next_line front q note line event is) =
      let past = asked line event ∷ before in
      subst L is (front_all front q (said note ∷ past) (first_note note past (λ serial. honest_here n start line event before serial (good serial)), (tt, l)))

-- ---- at each place of a run
abbrev pub HonestNow : List Moment → WorldState → Type 0
HonestNow past w = EachMoment (HonestAt (length w.initiators)) past

all_honest : (units ready : ℕ) → 0 < units → (start : List Disk) → Keeps units ready start (OwnKnown start) HonestNow
all_honest units ready has start past s later t lines more g h h_now q q_now had =
    subst (λ n. EachMoment (HonestAt n) (hist later t.world)) (sym (goes_size past s later t g))
    (honest_turn (length s.world.initiators) start (hist past s.world) (hist later t.world) (λ serial. honest_there units ready has start s.world h q serial) had (goes_next past s later t g))

first_honest : (line : ℕ) (run : Run) → HonestNow (moments_behind line run []) (beginning run).world
first_honest line run = (tt, (tt, tt))

pub honest_everywhere : EveryPlace (λ start past w. HonestNow past w)
honest_everywhere = record {
  after_lines = λ line run r has small size so_far.
      at_lines OwnKnown HonestNow own_known line run r.few has small size (all_honest run.units (ready_logins run.initiators run.ready) has run.start.disks) (first_honest line run) r so_far;
  between = λ line run r has small size next most told m so_far.
      at_between OwnKnown HonestNow own_known line run r.few has small size (all_honest run.units (ready_logins run.initiators run.ready) has run.start.disks) (first_honest line run) r next most told m so_far;
}
