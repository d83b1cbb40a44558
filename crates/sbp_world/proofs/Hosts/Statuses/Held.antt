-- The lines of a run carry on what its history says of the statuses that an initiator takes.
use Rattle.sbp_world.proofs.Words.Std.{arith, ◌≡◌, refl, sym, ◌∙◌, ap, subst, ◌⊎◌, inl, inr, ℕ, suc, ◌-◌, ◌^◌, ◌<◌, ◌≤◌, ◌&&◌, nat_eq, nat_lt, Bool, true, false, cond, List, [], ◌∷◌, Option, Some, None, Ok}
use Rattle.sbp_world.proofs.Words.Wire.{reading, Access, empty_outbox, Moment, asked, said, Sending, terms, Judged, Action, Note, Side, judged_note}
use Rattle.sbp_world.proofs.Words.Initiator.{start, InitiatorState, IsAction, act_step, Turn, new_state, expire_step, receive_step, see_step, own, Call, IsCall, acts, done, lets_expire, receives, sees}
use Rattle.sbp_world.proofs.Words.Laws.{host_at, TakenStatus, is_list, is_none_taken, present_list, slot_at, taken_at, access_in, packet_in, receiver_in, spelled_by, taking_at, taking_by, login_fifo, appends}
use Rattle.sbp_world.proofs.Words.World.{behind, Core, IsHost, IsTakenBy, Spells, is_place_fifo, of_one}
use Rattle.std.specs.Prelude.{IsSomeAnd}
use Rattle.bus_memory.specs.declared.window.Window.TheVariants as windows
use Rattle.sbp_journal.specs.declared.cause.Judged.TheVariants as judgements
use Rattle.sbp_journal.specs.declared.event.Event.TheVariants as events
use Rattle.sbp_journal.specs.declared.note.Note.TheVariants as notes
use Rattle.sbp_initiator.proofs.Histories.Called.{count_law}
use Rattle.sbp_world.proofs.Hosts.Carries.{Carries, Does, Tells}
use Rattle.sbp_world.proofs.Hosts.Cores.{got_told}
use Rattle.sbp_world.proofs.Hosts.Hosted.{Cored, cored_carried, first_cored}
use Rattle.sbp_world.proofs.Hosts.OrbRuns.{Rowed}
use Rattle.sbp_world.proofs.Hosts.Shown.{IsHeard}
use Rattle.sbp_world.proofs.Hosts.Statuses.Acted.{host_carried}
use Rattle.sbp_world.proofs.Hosts.Statuses.Brings.{Took}
use Rattle.sbp_world.proofs.Hosts.Statuses.Folds.{Counted, apart_on, asked_on, count_of, due_at, got_on, silent_behind, silent_on, taken_on}
use Rattle.sbp_world.proofs.Hosts.Statuses.Hearing.{Hears, hears_so, ignored_silent, ignores, others_silent, takes_none, takes_one}
use Rattle.sbp_world.proofs.Hosts.Statuses.Housed.{got_access}
use Rattle.sbp_world.proofs.Hosts.Statuses.Quiet.{AreCalmSides, act_calm, all_silent, expire_calm, own_calm, see_calm}
use Rattle.sbp_world.proofs.Hosts.Runs.{first_host}
use Rattle.sbp_world.proofs.Sessions.BlockNotes.{gets_sent as sent_stays}
use Rattle.sbp_world.proofs.Common.{untrue, itself}

-- ---- a status that is taken

third_of : (a b c : Bool) → (a && b && c) ≡ true → c ≡ true
third_of true true c e = e
third_of true false c e = untrue e
third_of false b c e = untrue e

none_count : (found : Option TakenStatus) → is_none_taken found ≡ true → count_of found ≡ 0
none_count None e = refl
none_count (Some taken) e = untrue e

goes_with : (a b offset : ℕ) → a ≡ b → (offset ≡ login_fifo (a - 1)) ⊎ (is_place_fifo offset ≡ true) → (offset ≡ login_fifo (b - 1)) ⊎ (is_place_fifo offset ≡ true)
goes_with a b offset e (inl g) = inl (g ∙ ap (λ n. login_fifo (n - 1)) e)
goes_with a b offset e (inr g) = inr g

module _ (ready : Bool) (past : List Moment) (i serial generation : ℕ) (bytes : List ℕ) (s : InitiatorState) (heard : IsHeard past i serial generation bytes) (cored : Cored ready past i s) (host : IsHost past i s) (few : s.counts.logins ≤ 2 ^ 32) (h : Counted past i) where
  abbrev r : Judged × Turn
  r = receive_step generation bytes empty_outbox s

  abbrev found : Option Access
  found = access_in (spelled_by (reading bytes))

  abbrev Goal : Judged → List Side → Type 0
  Goal judged told = Counted (behind told (said (judged_note serial judged) ∷ past)) i

  due_is : due_at i past serial ≡ of_one i (taking_by past i found)
  due_is =
      ap (λ (x : Option Sending). of_one i (taking_at past (receiver_in x) (access_in (packet_in x)))) heard.sent
      ∙ (ap (λ (to : ℕ). of_one i (taking_at past (Some to) (access_in (spelled_by (reading heard.packet.bytes))))) heard.to_is
      ∙ ap (λ (bs : List ℕ). of_one i (taking_by past i (access_in (spelled_by (reading bs))))) heard.bytes_are)

  abbrev now : List Moment
  now = said (notes.Got serial) ∷ past

  logins_are : s.counts.logins ≡ (host_at now i).logins
  logins_are = sym (ap (λ (c : Core). c.logins) (got_told serial past i ∙ cored.core))

  module _ (access : Access) (asks : found ≡ Some access) (first : Note) (took : Took past i s access first) where
    abbrev n : ℕ
    n = took.ticket.list

    abbrev k : ℕ
    k = took.ticket.number

    spells : Spells access (host_at now i) (start (windows.Orb (slot_at now i n k))) took.block.kind
    spells = record {
      is_write = took.is_write;
      is_block = took.is_block;
      goes = goes_with s.counts.logins (host_at now i).logins access.offset logins_are took.goes;
      src = took.block.src;
      spells = took.read ∙ ap (λ (at : ℕ). Ok (record { src = took.block.src; kind = took.block.kind; orb = at })) took.address;
    }

    is_taken : IsTakenBy now i n k took.block.kind
    is_taken = record {
      before = past;
      behind = refl;
      to_it = ap (λ (x : ℕ → Option Sending). receiver_in (x serial)) (sent_stays ((terms past).sent serial) serial (terms past)) ∙ (ap receiver_in heard.sent ∙ ap Some heard.to_is);
      once = h.count n k ∙ none_count (taken_at past i n k) (third_of (is_list (present_list past i) n) (nat_lt k (appends past i n)) (is_none_taken (taken_at past i n k)) took.waits);
      waits = took.waits;
      written = subst (λ (x : Option Access). IsSomeAnd x (λ access. Spells access (host_at now i) (start (windows.Orb (slot_at now i n k))) took.block.kind)) (sym (got_access past i serial generation bytes heard ∙ asks)) spells;
    }

    due_one : due_at i past serial ≡ record { initiator = i; one = record { list = n; number = k }; status = took.block.kind } ∷ []
    due_one =
        due_is
        ∙ (ap (λ (x : Option Access). of_one i (taking_by past i x)) asks
        ∙ (ap (of_one i) took.due
        ∙ ap (λ (b : Bool). cond b (record { initiator = i; one = record { list = n; number = k }; status = took.block.kind } ∷ []) []) (itself i)))

    taken_first : Counted (said first ∷ now) i
    taken_first =
        subst (λ (x : Note). Counted (said x ∷ now) i) (ap (λ (j : ℕ). notes.Taken j n k took.block.kind took.answer) (sym host.number) ∙ sym took.is)
        (taken_on i serial n k took.block.kind took.answer past due_one is_taken h)

  by_hears : Hears past i s found r → Goal r.0 r.1.0.sides
  by_hears (ignores cause e) =
      subst (λ (j : Judged). Goal j r.1.0.sides) (sym e)
      (subst (Goal (judgements.Ignored cause)) (sym (ignored_silent s generation bytes cause e)) (silent_on i (notes.Ignored serial cause) past refl h))
  by_hears (takes_none e calm none) =
      subst (λ (j : Judged). Goal j r.1.0.sides) (sym e)
      (silent_behind i r.1.0.sides now (all_silent i r.1.0.sides calm) (got_on i serial past (due_is ∙ ap (of_one i) none) h))
  by_hears (takes_one e access asks first later told calm took) =
      subst (λ (j : Judged). Goal j r.1.0.sides) (sym e)
      (subst (Goal judgements.Got) (sym told)
      (silent_behind i (own later) (said first ∷ now) (all_silent i (own later) (own_calm later calm)) (taken_first access asks first took)))

  pub hears_counted : Goal r.0 r.1.0.sides
  hears_counted = by_hears (hears_so past ready i s host.rows few cored.own.called generation bytes)

-- ---- what lines carry on

pub few_before : (a b : ℕ) → a ≤ b → b ≤ 2 ^ 32 → a ≤ 2 ^ 32
few_before a b l f = omega arith

-- What a history says of the statuses that an initiator takes, where its login numbers have 32 bits.
pub record Held (ready : Bool) (past : List Moment) (i : ℕ) (s : InitiatorState) : Type 0 where
  pub cored : Cored ready past i s
  pub host : IsHost past i s
  pub takes : s.counts.logins ≤ 2 ^ 32 → Counted past i

module _ (ready : Bool) where
  -- a call that takes nothing
  calm_tells : (past : List Moment) (i : ℕ) (t : Turn) → AreCalmSides t.0.sides → Tells (Cored ready) past i t → Tells IsHost past i t → (t.1.counts.logins ≤ 2 ^ 32 → Counted past i) → Tells (Held ready) past i t
  calm_tells past i t calm c k h = record {
    own = record { cored = c.own; host = k.own; takes = λ f. silent_behind i t.0.sides past (all_silent i t.0.sides calm) (h f) };
    others = λ j x e m. record { cored = c.others j x e m.cored; host = k.others j x e m.host; takes = λ f. silent_behind j t.0.sides past (all_silent j t.0.sides calm) (m.takes f) };
  }

  before : (past : List Moment) (i : ℕ) (s : InitiatorState) (call : Call) → IsCall call → Held ready past i s → (done call (empty_outbox, s)).1.counts.logins ≤ 2 ^ 32 → s.counts.logins ≤ 2 ^ 32
  before past i s call fit h f = few_before s.counts.logins (done call (empty_outbox, s)).1.counts.logins (count_law.logins call (empty_outbox, s) fit) f

  hears_held : (serial generation : ℕ) (bytes : List ℕ) (past : List Moment) (i : ℕ) (s : InitiatorState) → IsHeard past i serial generation bytes → Held ready past i s → (let r = receive_step generation bytes empty_outbox s in Tells (Cored ready) (said (judged_note serial r.0) ∷ past) i r.1 → Tells IsHost (said (judged_note serial r.0) ∷ past) i r.1 → Tells (Held ready) (said (judged_note serial r.0) ∷ past) i r.1)
  hears_held serial generation bytes past i s heard h c k =
      let r = receive_step generation bytes empty_outbox s in
      record {
        own = record {
          cored = c.own;
          host = k.own;
          takes = λ f. let few = before past i s (receives generation bytes) tt h f in hears_counted ready past i serial generation bytes s heard h.cored h.host few (h.takes few);
        };
        others = λ j x e m. record {
          cored = c.others j x e m.cored;
          host = k.others j x e m.host;
          takes = λ f. silent_behind j r.1.0.sides (said (judged_note serial r.0) ∷ past)
              (others_silent ready i s h.cored.own.called generation bytes j (ap (nat_eq j) h.host.number ∙ e)) (m.takes f);
        };
      }

  acts_held : (action : Action) (past : List Moment) (i : ℕ) (s : InitiatorState) → IsAction action → Held ready past i s → (let t = (act_step action empty_outbox s).1 in Does (Cored ready) past i t → Does IsHost past i t → Does (Held ready) past i t)
  acts_held action past i s fit h c k =
      let t = (act_step action empty_outbox s).1 in
      let takes : t.1.counts.logins ≤ 2 ^ 32 → Counted (behind t.0.sides past) i = λ f. silent_behind i t.0.sides past (all_silent i t.0.sides (act_calm action s)) (h.takes (before past i s (acts action) fit h f)) in
      record {
        others = λ j x e m. record { cored = c.others j x e m.cored; host = k.others j x e m.host; takes = λ f. silent_behind j t.0.sides past (all_silent j t.0.sides (act_calm action s)) (m.takes f) };
        quiet = λ none. record { cored = c.quiet none; host = k.quiet none; takes = takes };
        asking = λ packet one serial generation f q. record {
          cored = c.asking packet one serial generation f q;
          host = k.asking packet one serial generation f q;
          takes = λ g. silent_on i (notes.Sent serial generation (suc i) 0 packet.bytes) (behind t.0.sides past) refl (takes g);
        };
      }

  pub held_carried : Carries Rowed (Held ready)
  held_carried =
      let c = cored_carried ready in
      let k = host_carried in
      record {
        known = k.known;
        number = λ past i s h. h.host.number;
        asked = λ line event past i s h. record { cored = c.asked line event past i s h.cored; host = k.asked line event past i s h.host; takes = λ f. asked_on i line event past (h.takes f) };
        apart = λ note past i s e away h. record { cored = c.apart note past i s e away h.cored; host = k.apart note past i s e away h.host; takes = λ f. apart_on i note past e away (h.takes f) };
        sent = λ serial generation from to bytes past i s n h. record {
          cored = c.sent serial generation from to bytes past i s n h.cored;
          host = k.sent serial generation from to bytes past i s n h.host;
          takes = λ f. silent_on i (notes.Sent serial generation from to bytes) past refl (h.takes f);
        };
        hears = λ serial generation bytes past i s heard shown after h.
            hears_held serial generation bytes past i s heard h (c.hears serial generation bytes past i s heard shown after h.cored) (k.hears serial generation bytes past i s heard shown after h.host);
        expires = λ serial label past i s shown h.
            calm_tells (said (notes.TimedOut serial) ∷ past) i (expire_step label empty_outbox s).1 (expire_calm ready i s h.cored.own.called label) (c.expires serial label past i s shown h.cored) (k.expires serial label past i s shown h.host)
            (λ f. silent_on i (notes.TimedOut serial) past refl (h.takes (before past i s (lets_expire label) tt h f)));
        stale = λ label past i s e h. record {
          cored = c.stale label past i s e h.cored;
          host = k.stale label past i s e h.host;
          takes = λ f. h.takes (before past i s (lets_expire label) tt h f);
        };
        sees = λ generation id target past i s e h.
            calm_tells (said (notes.Seen (suc i) generation) ∷ past) i (see_step generation id target empty_outbox s) (see_calm generation id target s) (c.sees generation id target past i s e h.cored) (k.sees generation id target past i s e h.host)
            (λ f. silent_on i (notes.Seen (suc i) generation) past refl (h.takes (before past i s (sees generation id target) tt h f)));
        acts = λ action past i s under fit done shown known h.
            acts_held action past i s fit.0 h (c.acts action past i s under fit done shown tt h.cored) (k.acts action past i s under fit done shown known h.host);
      }

-- ---- the beginning

none_counted : (i : ℕ) → Counted [] i
none_counted i = record { each = tt; taken = tt; count = λ n k. refl }

pub first_held : (line i initiators : ℕ) (ready : Bool) → i < initiators → Held ready (said (notes.Begin initiators ready) ∷ asked line (events.Begin initiators ready) ∷ []) i (new_state i ready)
first_held line i initiators ready b =
    let start = asked line (events.Begin initiators ready) ∷ [] in
    record {
      cored = first_cored line i initiators ready b;
      host = first_host line i initiators ready;
      takes = λ f. silent_on i (notes.Begin initiators ready) start refl (asked_on i line (events.Begin initiators ready) [] (none_counted i));
    }
