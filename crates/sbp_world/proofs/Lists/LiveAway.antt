-- What is in hand of an initiator's management over the notes of a turn that is none of the target: the write of the operation under way goes on, what is at rest stays
-- so, and a status block that waits did so before, with the same bytes.
use Rattle.sbp_world.proofs.Words.Std.{arith, ◌≡◌, ◌∙◌, refl, sym, ap, subst, ◌⊎◌, inl, inr, ℕ, zero, suc, ◌≤◌, ◌&&◌, not, nat_eq, Bool, true, false, cond, List, [], ◌∷◌, ◌++◌, map, Option, Some, None, nat_tests}
use Rattle.sbp_world.proofs.Words.Wire.{as_sending, Kept, Sent, found_sent, Moment, asked, said, Part, Sending, part_of, request, response, terms, Action, Event, Note}
use Rattle.sbp_world.proofs.Words.Target.{Disk}
use Rattle.sbp_world.proofs.Words.Laws.{Host, acted, goes_on, host_at, known_host, operation_of, sent_in, present_list, event_of}
use Rattle.sbp_world.proofs.Words.World.{IsRest, IsTelling, outgoing_for}
use Rattle.sbp_world.proofs.Hosts.Carries.{IsNoAct}
use Rattle.sbp_world.proofs.Hosts.SentMoments.{sent_below}
use Rattle.sbp_journal.specs.Transactions.{no_packet}
use Rattle.sbp_journal.specs.declared.event.Event.TheVariants as events
use Rattle.sbp_journal.specs.declared.note.Note.TheVariants as notes
use Rattle.sbp_laws.specs.Hosts.{sent_as}
use Rattle.sbp_world.proofs.Lists.LiveLeads.{Leads, OldTelling, calm_leads, leads_self, leads_then, packet_leads}
use Rattle.sbp_world.proofs.Lists.LiveTold.{AllAway, IsAway, IsOwnPacket}
use Rattle.sbp_world.proofs.Lists.ManageFirsts.{Goes, acted_none, goes_then, note_first, same_goes, sent_first, pick}
use Rattle.sbp_world.proofs.Lists.ManageGot.{gets_other}
use Rattle.sbp_world.proofs.Lists.ManageMoments.{Hands, LineFacts, MayHand, TakeFacts, is_quiet, line_calm, quiet_calm}
use Rattle.sbp_world.proofs.Lists.ManageSends.{Sends, opened_terms, sent_other, sent_terms}
use Rattle.sbp_world.proofs.Lists.ManageSent.{IsNew, SentFacts, for_below, sent_rest, sent_telling}
use Rattle.sbp_world.proofs.Lists.ManageSights.{again_calm, sight_calm}
use Rattle.sbp_world.proofs.Lists.ManageStays.{Calms, calm_rest}
use Rattle.sbp_world.proofs.Lists.ManageTerms.{got_rests, ignored_rests, same_some, timed_rests}
use Rattle.sbp_world.proofs.Common.{cond_on}
use Rattle.sbp_world.proofs.Wire.OnceHere.{other_news}
use Rattle.sbp_world.proofs.Hosts.Outboxes.{line_stays}

-- what such moments leave
pub record Over (start : List Disk) (past now : List Moment) (i : ℕ) : Type 0 where
  pub rest : IsRest start past i → IsRest start now i
  pub leads : Leads start past now i
  pub telling : (serial place : ℕ) → IsTelling start now i serial place → OldTelling start past now i serial place
  pub generation : (terms now).generation (suc i) ≡ (terms past).generation (suc i)
  pub sent : (s : ℕ) (p : Sending) → (terms past).sent s ≡ Some p → (terms now).sent s ≡ Some p

pub over_self : (start : List Disk) (past : List Moment) (i : ℕ) → Over start past past i
over_self start past i = record { rest = λ r. r; leads = leads_self start past i; telling = λ s place t. record { telling = t; bytes = refl }; generation = refl; sent = λ s p e. e }

pub over_then : {start : List Disk} {a b c : List Moment} {i : ℕ} → Over start a b i → Over start b c i → Over start a c i
over_then f g = record {
  rest = λ r. g.rest (f.rest r);
  leads = leads_then f.leads g.leads;
  telling = λ s place t.
      let y = g.telling s place t in
      let x = f.telling s place y.telling in
      record { telling = x.telling; bytes = y.bytes ∙ x.bytes };
  generation = g.generation ∙ f.generation;
  sent = λ s p e. g.sent s p (f.sent s p e);
}

-- a calm moment
calm_over : (start : List Disk) (past now : List Moment) (i : ℕ) → Calms start past now i → ((s : ℕ) → outgoing_for start now s ≡ outgoing_for start past s) → (terms now).generation (suc i) ≡ (terms past).generation (suc i) → ((s : ℕ) → (terms now).sent s ≡ (terms past).sent s) → Over start past now i
calm_over start past now i c bytes generation sent = record {
  rest = calm_rest c;
  leads = calm_leads c;
  telling = λ s place t. record { telling = c.telling s place t; bytes = bytes s };
  generation = generation;
  sent = λ s p e. sent s ∙ e;
}

-- a line begins
pub line_over : (start : List Disk) (line : ℕ) (event : Event) (past : List Moment) (i : ℕ) → LineFacts past → Over start past (asked line event ∷ past) i
line_over start line event past i f =
    let o = opened_terms event (terms past) in
    calm_over start past (asked line event ∷ past) i (line_calm start line event past i f) (λ s. refl) (ap (λ (g : ℕ → ℕ). g (suc i)) o.generation) (λ s. ap (λ (g : ℕ → Option Sending). g s) o.sent)

-- ---- a packet of an initiator is sent
module _ (start : List Disk) (past : List Moment) (i serial generation j to : ℕ) (bytes : List ℕ) (f : SentFacts start past i serial generation (suc j) bytes) where
  abbrev now : List Moment
  now = said (notes.Sent serial generation (suc j) to bytes) ∷ past

  abbrev q : Sending
  q = record { generation = generation; from = suc j; to = to; bytes = bytes; injected = (terms past).injected serial }

  S : Sends serial q (terms past)
  S = sent_terms serial q (terms past)

  apart : (s : ℕ) → s ≤ (terms past).count → nat_eq s serial ≡ false
  apart s l = let n = f.next in grind (arith, nat_tests)

  -- a status block is of the target, so it is an old one
  old_telling : (s place : ℕ) → (t : IsTelling start now i s place) → IsTelling start past i s place ⊎ IsNew start past i serial generation (suc j) to bytes f place s → OldTelling start past now i s place
  old_telling s place t (inl o) = record { telling = o; bytes = refl }
  old_telling s place t (inr n) =
      let l = for_below start past s t.op f.serials t.is_for in
      let e = n.is in
      let next = f.next in
      absurd (omega (arith, l, e, next))

  own_over : Over start past now i
  own_over = record {
    rest = λ r. sent_rest start past i serial generation (suc j) to bytes f r;
    leads = packet_leads start past i serial generation (suc j) to bytes f;
    telling = λ s place t. old_telling s place t (sent_telling start past i serial generation (suc j) to bytes f s place t);
    generation = ap (λ (g : ℕ → ℕ). g (suc i)) S.generation;
    sent = λ s p e. ap (λ (g : ℕ → Option Sending). g s) S.sent ∙ sent_other serial s q (terms past).sent (apart s (sent_below past s p f.serials e)) ∙ e;
  }

-- ---- a note

module _ (start : List Disk) (i own : ℕ) (kept : List Kept) where
  -- what was in the store was sent
  abbrev pub WereSent : List Moment → Type 0
  WereSent past = (s : ℕ) (x : Sent) → found_sent s kept ≡ Some x → (terms past).sent s ≡ Some (as_sending x)

  quiet_over : (note : Note) (past : List Moment) → is_quiet note ≡ true → MayHand start i (said note) past → ((s : ℕ) → outgoing_for start (said note ∷ past) s ≡ outgoing_for start past s) → (terms (said note ∷ past)).generation (suc i) ≡ (terms past).generation (suc i) → ((s : ℕ) → (terms (said note ∷ past)).sent s ≡ (terms past).sent s) → Over start past (said note ∷ past) i
  quiet_over note past q h bytes generation sent = calm_over start past (said note ∷ past) i (quiet_calm start i note past q h) bytes generation sent

  got_over : (serial : ℕ) (past : List Moment) → IsOwnPacket kept serial → WereSent past → TakeFacts start past i serial → Over start past (said (notes.Got serial) ∷ past) i
  got_over serial past p were h =
      let r = got_rests serial past in
      let same : h.packet ≡ as_sending p.sent = same_some h.packet (as_sending p.sent) (sym h.facts.sent ∙ were serial p.sent p.found) in
      let to : h.packet.to ≡ suc p.j = ap (λ (x : Sending). x.to) same ∙ p.to_is in
      let other : nat_eq h.packet.to 0 ≡ false = ap (λ n. nat_eq n 0) to ∙ (let z : nat_eq (suc p.j) 0 ≡ false = grind (arith, nat_tests) in z) in
      calm_over start past (said (notes.Got serial) ∷ past) i (gets_other start past i serial h.packet h.facts other) (λ s. refl) (ap (λ (g : ℕ → ℕ). g (suc i)) r.generation) (λ s. ap (λ (g : ℕ → Option Sending). g s) r.sent)

  seen_over : (node generation : ℕ) (past : List Moment) → (node ≡ suc i → generation ≡ own) → (terms past).generation (suc i) ≡ own → (terms past).owes ≡ None → Over start past (said (notes.Seen node generation) ∷ past) i
  seen_over node generation past same here none = by (nat_eq node (suc i)) refl
    where
      by : (b : Bool) → nat_eq node (suc i) ≡ b → Over start past (said (notes.Seen node generation) ∷ past) i
      by true e =
          let is : node ≡ suc i = grind (arith, nat_tests) in
          let g : generation ≡ (terms past).generation (suc i) = same is ∙ sym here in
          let test : nat_eq generation ((terms past).generation (suc i)) ≡ true = grind (arith, nat_tests) in
          subst (λ n. Over start past (said (notes.Seen n generation) ∷ past) i) (sym is)
          (calm_over start past (said (notes.Seen (suc i) generation) ∷ past) i (again_calm start generation past i test none) (λ s. refl)
          (ap (λ b. cond b generation ((terms past).generation (suc i))) (let x : nat_eq (suc i) (suc i) ≡ true = grind (arith, nat_tests) in x) ∙ g) (λ s. refl))
      by false e =
          calm_over start past (said (notes.Seen node generation) ∷ past) i (sight_calm start node generation past i e none) (λ s. refl)
          (other_news (terms past).generation node (suc i) generation (grind (arith, nat_tests))) (λ s. refl)

  note_over : (note : Note) (past : List Moment) → IsAway i own kept note → (terms past).generation (suc i) ≡ own → WereSent past → MayHand start i (said note) past → Over start past (said note ∷ past) i
  note_over (notes.Begin initiators ready) past a here were h = absurd a
  note_over (notes.Sent serial generation zero to bytes) past a here were h = absurd (a refl)
  note_over (notes.Sent serial generation (suc j) to bytes) past a here were h = own_over start past i serial generation j to bytes h.facts
  note_over (notes.Got serial) past a here were h = got_over serial past a were h
  note_over (notes.Seen node generation) past a here were h = seen_over node generation past a.1 here h.none
  note_over (notes.Ignored serial cause) past a here were h =
      let r = ignored_rests serial cause past in
      quiet_over (notes.Ignored serial cause) past refl h (λ s. refl) (ap (λ (g : ℕ → ℕ). g (suc i)) r.generation) (λ s. ap (λ (g : ℕ → Option Sending). g s) r.sent)
  note_over (notes.TimedOut serial) past a here were h =
      let r = timed_rests serial past in
      quiet_over (notes.TimedOut serial) past refl h (λ s. refl) (ap (λ (g : ℕ → ℕ). g (suc i)) r.generation) (λ s. ap (λ (g : ℕ → Option Sending). g s) r.sent)
  note_over note past a here were h = quiet_over note past refl h (λ s. refl) refl (λ s. refl)

  pub notes_over : (ns : List Note) (past : List Moment) → AllAway i own kept ns → (terms past).generation (suc i) ≡ own → WereSent past → Hands start i (map said ns ++ past) → Over start past (map said ns ++ past) i
  notes_over [] past a here were h = over_self start past i
  notes_over (note ∷ ns) past a here were h =
      let o = notes_over ns past a.1 here were h.1 in
      over_then o (note_over note (map said ns ++ past) a.0 (o.generation ∙ here) (λ s x e. o.sent s (as_sending x) (were s x e)) h.0)

-- ---- the operation under way at the host of the initiator

-- a packet in a line of an action of it that begins none
acting_first : (serial generation from to : ℕ) (bytes : List ℕ) (past : List Moment) (i : ℕ) (action : Action) → event_of past ≡ Some (events.Act i action) → operation_of action ≡ None → Goes (host_at past i) (host_at (said (notes.Sent serial generation from to bytes) ∷ past) i)
acting_first serial generation from to bytes past i action line none =
    pick ((nat_eq from (suc i)) && not ((known_host past i).wire.injected serial)) (host_at past i) (sent_as (part_of bytes) (event_of past) i (present_list past i) serial (host_at past i)) (by (part_of bytes))
  where
    in_line : sent_in (event_of past) i (present_list past i) serial (host_at past i) ≡ acted action (operation_of action) (present_list past i) serial (host_at past i)
    in_line =
        ap (λ (x : Option Event). sent_in x i (present_list past i) serial (host_at past i)) line
        ∙ cond_on (nat_eq i i) (acted action (operation_of action) (present_list past i) serial (host_at past i)) (goes_on (host_at past i).operation serial (host_at past i)) (let x : nat_eq i i ≡ true = grind (arith, nat_tests) in x)

    by : (part : Part) → Goes (host_at past i) (sent_as part (event_of past) i (present_list past i) serial (host_at past i))
    by (request label kind) = same_goes (host_at past i) (sent_in (event_of past) i (present_list past i) serial (host_at past i)) (ap (λ (h : Host). h.operation) in_line ∙ acted_none action (present_list past i) serial (host_at past i) none)
    by (response label kind) = same_goes (host_at past i) (host_at past i) refl
    by no_packet = same_goes (host_at past i) (host_at past i) refl

-- no action of the initiator is done in the line, or one that begins no operation
pub data Steady (i : ℕ) (event : Option Event) : Type 0 where
  no_act : IsNoAct i event → Steady i event
  begins_none : (action : Action) → event ≡ Some (events.Act i action) → operation_of action ≡ None → Steady i event

pub sent_goes : (serial generation from to : ℕ) (bytes : List ℕ) (past : List Moment) (i : ℕ) → Steady i (event_of past) → Goes (host_at past i) (host_at (said (notes.Sent serial generation from to bytes) ∷ past) i)
sent_goes serial generation from to bytes past i (no_act n) = sent_first serial generation from to bytes past i n
sent_goes serial generation from to bytes past i (begins_none action line none) = acting_first serial generation from to bytes past i action line none

module _ (i own : ℕ) (kept : List Kept) where
  note_host : (note : Note) (past : List Moment) → IsAway i own kept note → Steady i (event_of past) → Goes (host_at past i) (host_at (said note ∷ past) i)
  note_host (notes.Begin initiators ready) past a y = absurd a
  note_host (notes.Sent serial generation from to bytes) past a y = sent_goes serial generation from to bytes past i y
  note_host note past a y = note_first note past i refl

  pub notes_host : (ns : List Note) (past : List Moment) → AllAway i own kept ns → Steady i (event_of past) → Goes (host_at past i) (host_at (map said ns ++ past) i)
  notes_host [] past a y = same_goes (host_at past i) (host_at past i) refl
  notes_host (note ∷ ns) past a y =
      let here : List Moment = map said ns ++ past in
      goes_then (host_at past i) (host_at here i) (host_at (said note ∷ here) i) (notes_host ns past a.1 y) (note_host note here a.0 (subst (Steady i) (sym (line_stays ns past)) y))
