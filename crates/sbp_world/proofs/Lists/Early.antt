-- What an agent waits for to read in a slot was sent when the ORB that the slot has had been appended: at each place of a history between two turns.
use Rattle.sbp_world.proofs.Words.Std.{arith, ◌≡◌, ◌∙◌, refl, sym, ap, subst, inl, inr, ◌⊎◌, ◌<◌, ◌≤◌, ℕ, suc, ◌+◌, nat_eq, Bool, true, false, cond, List, [], ◌∷◌, ◌++◌, Option, Some, None, nat_tests}
use Rattle.sbp_world.proofs.Words.Wire.{SerialsCount, Access, Moment, said, Sending, terms}
use Rattle.sbp_world.proofs.Words.Target.{Which, Ahead, Main, Disk}
use Rattle.sbp_world.proofs.Words.Initiator.{window_at}
use Rattle.sbp_world.proofs.Words.Laws.{before_sent, orb, prepared_in, access_at, access_in, packet_in, receiver_in, agent_at, over, target_at, appends}
use Rattle.sbp_world.proofs.Words.World.{AreAskedAt, serial_of, slot_in}
use Rattle.sbp_journal.specs.declared.note.Note.TheVariants as notes
use Rattle.sbp_world.proofs.Hosts.Lasting.{from_moment}
use Rattle.sbp_world.proofs.Hosts.LastingTerms.{AllLast}
use Rattle.sbp_world.proofs.Hosts.PreparedLasts.{placed}
use Rattle.sbp_world.proofs.Hosts.Remaining.{remains}
use Rattle.sbp_world.proofs.Hosts.SentMoments.{WasSent, count_now, sent_below, sent_moment, serials_from}
use Rattle.sbp_world.proofs.Lists.Awaited.{Awaits, Starts, since_over, waits_as}
use Rattle.sbp_world.proofs.Hosts.Carrying.{last_from}

-- what an agent of a place waits for, to read in a slot of an initiator, which has an ORB
pub record IsRead (wild : ℕ → Bool) (start : List Disk) (ms : List Moment) (place : ℕ) (which : Which) (serial i slot n k : ℕ) : Type 0 where
  pub waits : serial_of which (agent_at (over (target_at start ms)) place) ≡ Some serial
  pub to : receiver_in ((terms ms).sent serial) ≡ Some (suc i)
  pub own : wild i ≡ false
  pub access : Access
  pub is : access_at (terms ms) serial ≡ Some access
  pub reads : access.is_write ≡ false
  pub some : 0 < access.count
  pub stands : slot_in (window_at access.offset) ≡ Some slot
  pub there : prepared_in ms i slot ≡ Some (orb n k)

abbrev pub Early : (ℕ → Bool) → List Disk → List Moment → Type 0
Early wild start ms = (place : ℕ) → place < 8 → (which : Which) (serial i slot n k : ℕ) → IsRead wild start ms place which serial i slot n k → k < appends (before_sent ms serial) i n

-- ---- the history before a packet that was sent since begins with the one before
tails : (xs ys b c : List Moment) → xs ++ b ≡ ys ++ c → ((l : List Moment) × (l ++ b ≡ c)) ⊎ ((l : List Moment) × (l ++ c ≡ b))
tails [] ys b c e = inr (ys, sym e)
tails (x ∷ xs) [] b c e = inl (x ∷ xs, e)
tails (x ∷ xs) (y ∷ ys) b c e = tails xs ys b c (let z : x ∷ (xs ++ b) ≡ y ∷ (ys ++ c) = e in cc)

-- a packet that was sent
record Sent (ms : List Moment) (serial : ℕ) : Type 0 where
  packet : Sending
  is : (terms ms).sent serial ≡ Some packet

sent_by : (ms : List Moment) (serial i : ℕ) (so : Option Sending) → (terms ms).sent serial ≡ so → receiver_in so ≡ Some i → Sent ms serial
sent_by ms serial i None e f = absurd (let no : None ≡ Some i = f in cc)
sent_by ms serial i (Some packet) e f = record { packet = packet; is = e }

module _ (wild : ℕ → Bool) (start : List Disk) (before rest now : List Moment) (m : Moment) (is : rest ++ m ∷ before ≡ now) (starts : Starts m) (serials : SerialsCount now) where
  serials_there : SerialsCount (rest ++ m ∷ before)
  serials_there = subst SerialsCount (sym is) serials

  -- all of the turn
  abbrev pub turn : List Moment
  turn = rest ++ m ∷ []

  pub whole : turn ++ before ≡ now
  whole = joined rest ∙ is
    where
      joined : (xs : List Moment) → (xs ++ m ∷ []) ++ before ≡ xs ++ m ∷ before
      joined [] = refl
      joined (x ∷ xs) = ap (λ ys. x ∷ ys) (joined xs)

  serials_before : SerialsCount before
  serials_before = serials_from turn before (subst SerialsCount (sym whole) serials)

  module _ (serial i : ℕ) (last : AllLast now i) where
    -- it was sent in the turn
    module _ (packet : Sending) (sent : (terms now).sent serial ≡ Some packet) (late : (terms before).count < serial) where
      moment : WasSent now serial packet
      moment = sent_moment now serial packet sent

      abbrev front : List Moment
      front = moment.before

      abbrev here : List Moment
      here = said (notes.Sent serial packet.generation packet.from packet.to packet.bytes) ∷ front

      serials_here : SerialsCount here
      serials_here = serials_from moment.later here (subst SerialsCount (sym moment.is) serials)

      counted : (terms here).count ≡ (terms front).count + 1
      counted = count_now front serial packet.generation packet.from packet.to packet.bytes

      serial_is : serial ≡ (terms front).count + 1
      serial_is = serials_here.0

      front_is : before_sent now serial ≡ front
      front_is =
          let own : nat_eq serial serial ≡ true = grind (arith, nat_tests) in
          let e = serial_is in
          let f = counted in
          ap (λ ms. before_sent ms serial) (sym moment.is)
          ∙ ((remains moment.later here (subst SerialsCount (sym moment.is) serials)).before_it serial (omega arith)
          ∙ ap (λ b. cond b front (before_sent front serial)) own)

      behind : (n : ℕ) → ((l : List Moment) × (l ++ before ≡ here)) ⊎ ((l : List Moment) × (l ++ here ≡ before)) → appends before i n ≤ appends front i n
      behind n (inl ([], e)) =
          let c : (terms before).count ≡ (terms here).count = ap (λ ms. (terms ms).count) e in
          let f = serial_is in
          let g = counted in
          absurd (omega arith)
      behind n (inl (x ∷ l, e)) =
          let own : l ++ before ≡ front = (let z : x ∷ (l ++ before) ≡ here = e in cc) in
          (from_moment l before front i own (last_from (moment.later ++ said (notes.Sent serial packet.generation packet.from packet.to packet.bytes) ∷ []) front i (subst (λ ms. AllLast ms i) (sym (joined moment.later ∙ moment.is)) last))).appended n
        where
          joined : (xs : List Moment) → (xs ++ said (notes.Sent serial packet.generation packet.from packet.to packet.bytes) ∷ []) ++ front ≡ xs ++ here
          joined [] = refl
          joined (y ∷ xs) = ap (λ ys. y ∷ ys) (joined xs)
      behind n (inr (l, e)) =
          let more : (terms here).count ≤ (terms before).count = subst (λ ms. (terms here).count ≤ (terms ms).count) e (remains l here (subst SerialsCount (sym e) serials_before)).count in
          let f = serial_is in
          let g = counted in
          absurd (omega arith)

      pub new_early : (n k : ℕ) → k < appends before i n → k < appends (before_sent now serial) i n
      new_early n k b =
          let more = behind n (tails turn moment.later before here (whole ∙ sym moment.is)) in
          subst (λ ms. k < appends ms i n) (sym front_is) (omega arith)

  -- ---- the turn keeps it, where the ORB that the slot has was prepared before
  module _ (asked : AreAskedAt start before) (early : Early wild start before) (last : (place : ℕ) → place < 8 → (which : Which) (serial i slot n k : ℕ) → IsRead wild start now place which serial i slot n k → AllLast now i) (same : (place : ℕ) → place < 8 → (which : Which) (serial i slot n k : ℕ) → IsRead wild start now place which serial i slot n k → prepared_in before i slot ≡ Some (orb n k)) where
    module _ (place : ℕ) (b : place < 8) (which : Which) (serial i slot n k : ℕ) (r : IsRead wild start now place which serial i slot n k) where
      old : (one : Which) → serial_of one (agent_at (over (target_at start before)) place) ≡ Some serial → serial ≤ (terms before).count → k < appends (before_sent now serial) i n
      old one w l =
          let remain = remains turn before (subst SerialsCount (sym whole) serials) in
          let sent : (terms now).sent serial ≡ (terms before).sent serial = ap (λ ms. (terms ms).sent serial) (sym whole) ∙ remain.sent serial l in
          let front : before_sent now serial ≡ before_sent before serial = ap (λ ms. before_sent ms serial) (sym whole) ∙ remain.before_it serial l in
          subst (λ ms. k < appends ms i n) (sym front)
          (early place b one serial i slot n k (record {
            waits = w;
            to = ap receiver_in (sym sent) ∙ r.to;
            own = r.own;
            access = r.access;
            is = ap (λ so. access_in (packet_in so)) (sym sent) ∙ r.is;
            reads = r.reads;
            some = r.some;
            stands = r.stands;
            there = same place b which serial i slot n k r;
          }))

      by : Awaits (agent_at (over (target_at start before)) place) serial ⊎ ((terms before).count < serial) → k < appends (before_sent now serial) i n
      by (inl (inl w)) =
          let to = ((asked.all place b).main serial w).to in
          let s = sent_by before serial _ ((terms before).sent serial) refl to in
          old Main w (sent_below before serial s.packet serials_before s.is)
      by (inl (inr w)) =
          let to = ((asked.all place b).ahead serial w).to in
          let s = sent_by before serial _ ((terms before).sent serial) refl to in
          old Ahead w (sent_below before serial s.packet serials_before s.is)
      by (inr late) =
          let s = sent_by now serial (suc i) ((terms now).sent serial) refl r.to in
          let l = last place b which serial i slot n k r in
          let there : prepared_in before i slot ≡ Some (orb n k) = same place b which serial i slot n k r in
          let below = (placed i slot n k before (last_from turn before i (subst (λ ms. AllLast ms i) (sym whole) l)) there).below in
          new_early serial i l s.packet s.is late n k below

      pub kept : k < appends (before_sent now serial) i n
      kept =
          by (subst (λ ms. (s : ℕ) → Awaits (agent_at (over (target_at start ms)) place) s → Awaits (agent_at (over (target_at start before)) place) s ⊎ ((terms before).count < s)) is
          (since_over start rest m before starts serials_there place) serial (waits_as which (agent_at (over (target_at start now)) place) serial r.waits))

    pub stays_early : Early wild start now
    stays_early = kept
