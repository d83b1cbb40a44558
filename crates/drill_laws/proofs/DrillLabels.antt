-- How many labels of an initiator of a drill are not free: behind a settle that leaves no request under way none, and each line that appends takes one at most.
use Rattle.std.proofs.Common.{◌≡◌, ◌∙◌, refl, sym, ap, subst, ℕ, zero, suc, ◌+◌, ◌≤◌, not, nat_eq, Bool, true, false, cond, List, [], ◌∷◌, ◌++◌, length, map, reverse, Option, Some, None, arith}
use Rattle.std.proofs.lemmas.Bool.Decides.{nat_tests}
use Rattle.std.proofs.lemmas.List.{reverse-reverse}
use Rattle.async_packet.specs.Fields.{rcode_of}
use Rattle.bus_transactions.proofs.PacketParts.{same_is}
use Rattle.bus_transactions.specs.Carried.{NoneRests, NoneWaits}
use Rattle.rbc_disk.specs.Disk.{Disk}
use Rattle.sbp_base.specs.Update.{upd}
use Rattle.sbp_journal.specs.Run.{Entry, Moment, asked, history, said}
use Rattle.sbp_journal.specs.Transactions.{Sending, Transaction, begun_by, is_same, part_of}
use Rattle.sbp_journal.specs.Wire.{Held, Owed, Terms, asked_in, begins, free, gives, kind_in, pays, puts, rests, sends, terms, waits}
use Rattle.sbp_journal.specs.declared.event.Cmd.{Cmd}
use Rattle.sbp_journal.specs.declared.event.Event.{Event}
use Rattle.sbp_journal.specs.declared.event.Event.TheVariants as events
use Rattle.sbp_journal.specs.declared.event.Action.TheVariants as actions
use Rattle.sbp_journal.specs.declared.note.Note.{Note}
use Rattle.sbp_journal.specs.declared.note.Note.TheVariants as notes
use Rattle.sbp_laws.specs.ActionLaw.{Brings}
use Rattle.sbp_laws.specs.Packets.{free_from, is_free}
use Rattle.sbp_laws.specs.SentRequests.{RequestsLaw}
use Rattle.sbp_laws.specs.Turns.{EachTurnBefore, sends_of}
use Rattle.drill_laws.specs.DrillLines.{IsDrillLine}
use Rattle.drill_laws.specs.DrillSettles.{IsDrillRun, events_said}
use Rattle.drill_laws.proofs.DrillAir.{AreActing, acting_latest, line_turn, one_sent}
use Rattle.drill_laws.proofs.DrillMoments.{drill_moments}
use Rattle.drill_laws.proofs.DrillPending.{pending, pending_with, stepped}
use Rattle.drill_laws.proofs.DrillSettles.{before_last, line_acting}
use Rattle.drill_laws.proofs.DrillWire.{young}

-- ---- its labels
abbrev pub own : (i number : ℕ) → Transaction
own i number = record { generation = 0; requester = suc i; responder = 0; label = number }

abbrev pub is_busy : Terms → ℕ → ℕ → Bool
is_busy t i number = not (is_free (t.held (own i number)))

abbrev pub busy : Terms → ℕ → ℕ
busy t i = free_from 64 (λ number. is_busy t i number)

-- ---- what a packet changes of the labels
pub record Tables : Type 0 where
  pub held : Transaction → Held
  pub last : Transaction → Option (List ℕ)

abbrev pub tables : Terms → Tables
tables t = record { held = t.held; last = t.last }

pays_tables : (owes : Option Owed) (sent : ℕ → Option Sending) (s : ℕ) (q : Sending) (t : Terms) → tables (pays owes sent s q t) ≡ tables t
pays_tables None sent s q t = refl
pays_tables (Some owed) sent s q t = by (asked_in (sent owed.serial))
  where
    by : (u : Option Transaction) → tables (record (gives u (rcode_of q.bytes) t) { owes = None; answers = upd t.answers s (Some owed.serial) }) ≡ tables t
    by None = refl
    by (Some u) = refl

begins_tables : (o u : Option Transaction) (s : ℕ) (q : Sending) (t : Terms) → tables (begins o s q (puts u s q t)) ≡ tables (begins o s q t)
begins_tables None u s q t = refl
begins_tables (Some v) u s q t = refl

pub sent_tables : (s : ℕ) (q : Sending) (t : Terms) → tables (sends s q t) ≡ tables (begins (begun_by q) s q t)
sent_tables s q t = pays_tables t.owes t.sent s q (begins (begun_by q) s q (puts (begun_by q) s q t)) ∙ begins_tables (begun_by q) (begun_by q) s q t

-- ---- counting
more_one : (f g : ℕ → Bool) (l : ℕ) → ((m : ℕ) → (m ≡ l → ⊥) → g m ≡ true → f m ≡ true) → (n : ℕ) → (n ≤ l → free_from n g ≤ free_from n f) × (free_from n g ≤ 1 + free_from n f)
unfolding free_from
more_one f g l less zero = ((λ low. omega arith), omega arith)
more_one f g l less (suc n) = by (more_one f g l less n) (nat_eq n l) refl (g n) (f n) (less n)
  where
    by : (n ≤ l → free_from n g ≤ free_from n f) × (free_from n g ≤ 1 + free_from n f) → (b : Bool) → nat_eq n l ≡ b → (c d : Bool) → ((n ≡ l → ⊥) → c ≡ true → d ≡ true)
        → (suc n ≤ l → cond c 1 0 + free_from n g ≤ cond d 1 0 + free_from n f) × (cond c 1 0 + free_from n g ≤ 1 + (cond d 1 0 + free_from n f))
    by was b e true true on = ((λ low. (let w = was.0 (omega (arith, low)) in omega (arith, w))), (let w = was.1 in omega (arith, w)))
    by was b e false true on = ((λ low. (let w = was.0 (omega (arith, low)) in omega (arith, w))), (let w = was.1 in omega (arith, w)))
    by was b e false false on = ((λ low. (let w = was.0 (omega (arith, low)) in omega (arith, w))), (let w = was.1 in omega (arith, w)))
    by was true e true false on =
        let at : n ≡ l = grind (arith, nat_tests) in
        let w = was.0 (omega (arith, at)) in
        ((λ low. absurd (omega (arith, low, at))), omega (arith, w))
    by was false e true false on = absurd (let no : false ≡ true = on (λ q. grind (arith, nat_tests)) refl in cc no)

pub none_count : (test : ℕ → Bool) → ((m : ℕ) → test m ≡ false) → (n : ℕ) → free_from n test ≡ 0
unfolding free_from
none_count test none zero = refl
none_count test none (suc n) =
    let one : cond {A = ℕ} (test n) 1 0 ≡ 0 = ap {B = ℕ} (λ b. cond b 1 0) (none n) in
    let rest = none_count test none n in
    omega (arith, one, rest)

-- ---- a packet takes one at most
sent_busy : (s : ℕ) (q : Sending) (t : Terms) (i : ℕ) → busy (sends s q t) i ≤ 1 + busy t i
sent_busy s q t i =
    let same : busy (sends s q t) i ≡ busy (begins (begun_by q) s q t) i = ap (λ (x : Tables). free_from 64 (λ number. not (is_free (x.held (own i number))))) (sent_tables s q t) in
    let most = by (begun_by q) in
    omega (arith, same, most)
  where
    by : (o : Option Transaction) → busy (begins o s q t) i ≤ 1 + busy t i
    by None = omega arith
    by (Some v) = (more_one (λ m. is_busy t i m) (λ m. is_busy (begins (Some v) s q t) i m) v.label (λ m other. at m other (is_same (own i m) v) refl) 64).1
      where
        at : (m : ℕ) → (m ≡ v.label → ⊥) → (b : Bool) → is_same (own i m) v ≡ b → not (is_free (cond b (waits (kind_in (part_of q.bytes)) s) (t.held (own i m)))) ≡ true → not (is_free (t.held (own i m))) ≡ true
        at m other true e h = absurd (other (ap (λ (x : Transaction). x.label) (same_is (own i m) v e)))
        at m other false e h = h

acting_busy : (told : List Note) (past : List Moment) (i : ℕ) → AreActing told → busy (terms (map said told ++ past)) i ≤ length (sends_of told) + busy (terms past) i
acting_busy [] past i all = omega arith
acting_busy (notes.Sent s generation from to bytes ∷ told) past i all =
    let one = sent_busy s (record { generation = generation; from = from; to = to; bytes = bytes; injected = (terms (map said told ++ past)).injected s }) (terms (map said told ++ past)) i in
    let rest = acting_busy told past i all.1 in
    omega (arith, one, rest)
acting_busy (notes.Append j n k cdb buffer ∷ told) past i all = acting_busy told past i all.1
acting_busy (notes.Low j n k ∷ told) past i all = acting_busy told past i all.1
acting_busy (notes.Linked j n k ∷ told) past i all = acting_busy told past i all.1
acting_busy (notes.Rung j n k ∷ told) past i all = acting_busy told past i all.1
acting_busy (notes.Refused line number ∷ told) past i all = acting_busy told past i all.1
acting_busy (_ ∷ told) past i all = absurd (let no : false ≡ true = all.0 in cc no)

abbrev behind_append : List Moment → (line j : ℕ) → Cmd → List Note → List Moment
behind_append past line j cmd told = map said told ++ asked line (events.Act j (actions.Append cmd)) ∷ past

append_busy : (disks : List Disk) (past : List Moment) (line j : ℕ) (cmd : Cmd) (told : List Note) (i : ℕ) → Brings disks past line (events.Act j (actions.Append cmd)) (reverse told)
    → EachTurnBefore (RequestsLaw disks) (behind_append past line j cmd told) [] → busy (terms (behind_append past line j cmd told)) i ≤ 1 + busy (terms past) i
append_busy disks past line j cmd told i brings each =
    let acting = acting_latest told (line_acting disks past line j cmd (reverse told) brings) in
    let most = acting_busy told (asked line (events.Act j (actions.Append cmd)) ∷ past) i acting in
    let one = one_sent disks told past line j cmd (line_turn (RequestsLaw disks) told [] past line (events.Act j (actions.Append cmd)) acting each) in
    omega (arith, most, one)

-- ---- behind a settle none is taken
-- no request is under way, and no label rests, of any node
pub record NoneIsHeld (t : Terms) : Type 0 where
  pub waits : NoneWaits t
  pub rests : NoneRests t

-- behind each settle
abbrev pub RestsAtSettles : List Entry → Type 0
RestsAtSettles [] = Unit {0}
RestsAtSettles (entry ∷ before) = (entry.event ≡ events.Settle → NoneIsHeld (terms (history (entry ∷ before)))) × RestsAtSettles before

rest_busy : (t : Terms) (i : ℕ) → t.bus ≡ 0 → NoneWaits t → NoneRests t → busy t i ≡ 0
rest_busy t i bus waits_none rests_none = none_count (λ m. is_busy t i m) (λ m. by m (t.held (own i m)) refl) 64
  where
    by : (m : ℕ) (held : Held) → t.held (own i m) ≡ held → not (is_free held) ≡ false
    by m free e = refl
    by m (waits kind serial) e = absurd (waits_none (own i m) kind serial (sym bus) e)
    by m rests e = absurd (rests_none (own i m) (sym bus) e)

-- ---- all lines
abbrev HoldsMost : List Entry → (i most : ℕ) → Type 0
HoldsMost entries i most = busy (terms (history entries)) i ≤ most

line_busy : (disks : List Disk) (entry next : Entry) (before : List Entry) (event : Event) → entry.event ≡ event → IsDrillLine event → IsDrillRun disks (entry ∷ next ∷ before) → RestsAtSettles (entry ∷ next ∷ before) → (i : ℕ)
    → HoldsMost (next ∷ before) i (pending 0 (events_said (next ∷ before))) → HoldsMost (entry ∷ next ∷ before) i (stepped (pending 0 (events_said (next ∷ before))) event)
line_busy disks entry next before (events.Act j (actions.Append cmd)) e is r still i was =
    let past : List Moment = history (next ∷ before) in
    let brings = subst (λ v. Brings disks past entry.line v (reverse entry.notes)) e r.brings.0 in
    let each = subst (λ v. EachTurnBefore (RequestsLaw disks) (map said entry.notes ++ asked entry.line v ∷ past) []) e r.requests in
    let more = append_busy disks past entry.line j cmd entry.notes i brings each in
    let now : busy (terms (history (entry ∷ next ∷ before))) i ≤ 1 + busy (terms past) i = subst (λ v. busy (terms (map said entry.notes ++ asked entry.line v ∷ past)) i ≤ 1 + busy (terms past) i) (sym e) more in
    omega (arith, now, was)
line_busy disks entry next before events.Settle e is r still i was =
    let entries : List Entry = entry ∷ next ∷ before in
    let y = young (history entries) (drill_moments disks entries r.brings r.lines) r.packets in
    let rest = still.0 e in
    let none = rest_busy (terms (history entries)) i y.bus rest.waits rest.rests in
    omega (arith, none)
line_busy disks entry next before _ e is r still i was = absurd is

pub few_busy : (disks : List Disk) (entries : List Entry) → IsDrillRun disks entries → RestsAtSettles entries → (i : ℕ) → busy (terms (history entries)) i ≤ pending 0 (events_said entries)
few_busy disks [] r still i = absurd r.lines
few_busy disks (entry ∷ []) r still i =
    let told : reverse entry.notes ≡ notes.Begin 2 true ∷ [] = subst (λ v. Brings disks [] entry.line v (reverse entry.notes)) r.lines r.brings.0 in
    let is : entry.notes ≡ notes.Begin 2 true ∷ [] = sym (reverse-reverse entry.notes) ∙ ap reverse told in
    let none : busy (terms (history (entry ∷ []))) i ≡ 0
    = ap (λ ns. busy (terms (map said ns ++ asked entry.line entry.event ∷ [])) i) is ∙ (ap (λ v. busy (terms (said (notes.Begin 2 true) ∷ asked entry.line v ∷ [])) i) r.lines ∙ none_count (λ m. false) (λ m. refl) 64) in
    omega (arith, none)
few_busy disks (entry ∷ next ∷ before) r still i =
    let one = line_busy disks entry next before entry.event refl r.lines.0 r still i (few_busy disks (next ∷ before) (before_last disks entry next before r) still.1 i) in
    let with = pending_with entry (next ∷ before) in
    omega (arith, one, with)
