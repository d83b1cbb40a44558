-- A drill is calm, moment by moment: what it tells in a turn is so by what stood before that turn.
use Rattle.std.proofs.Common.{◌≡◌, ◌∙◌, ◌⊎◌, inl, inr, refl, sym, ap, subst, ℕ, zero, suc, ◌<◌, ◌≤◌, Bool, true, false, cond, nat_eq, nat_lt, List, [], ◌∷◌, ◌++◌, map, reverse, Some, None, arith}
use Rattle.std.proofs.lemmas.List.{reverse-reverse}
use Rattle.bus_transactions.specs.Sent.{AreSent, IsOwn}
use Rattle.rbc_disk.specs.Disk.{Disk}
use Rattle.sbp_journal.specs.Addresses.{base_of}
use Rattle.sbp_journal.specs.Run.{Entry, Moment, asked, history, said}
use Rattle.sbp_journal.specs.Transactions.{Sending, begun_by}
use Rattle.sbp_journal.specs.Wire.{Terms, opened, puts, sends, terms}
use Rattle.sbp_journal.specs.declared.event.Event.{Event}
use Rattle.sbp_journal.specs.declared.event.Event.TheVariants as events
use Rattle.sbp_journal.specs.declared.event.Action.TheVariants as actions
use Rattle.sbp_journal.specs.declared.note.Note.{Note}
use Rattle.sbp_journal.specs.declared.note.Note.TheVariants as notes
use Rattle.sbp_laws.specs.ActionLaw.{Brings}
use Rattle.sbp_laws.specs.CauseLaw.{HasCauses}
use Rattle.sbp_laws.specs.Hosts.{host_at, known_host, new_host, ready_host}
use Rattle.sbp_laws.specs.JudgementLaw.{Judges}
use Rattle.sbp_laws.specs.LoginLaw.{HasLogins}
use Rattle.sbp_laws.specs.MediaLaw.{HasPushes}
use Rattle.sbp_laws.specs.OrderLaw.{is_cut}
use Rattle.sbp_laws.specs.Packets.{answered_at, receiver_in}
use Rattle.sbp_laws.specs.SentAnswers.{AnswersLaw}
use Rattle.sbp_laws.specs.SentPackets.{SentAt}
use Rattle.sbp_laws.specs.SentRequests.{RequestsLaw}
use Rattle.sbp_laws.specs.Targets.{got_by as target_got, is_serial, known_at, over, target_at, target_by}
use Rattle.sbp_laws.specs.Turns.{EachMoment, EachTurnBefore, Turn, event_of}
use Rattle.sbp_laws.specs.Unasked.{NoneUnasked}
use Rattle.drill_laws.specs.DrillCalm.{DrillsAreCalm, IsCalmAt, IsCalmNote, IsLawfulDrill}
use Rattle.drill_laws.specs.DrillLines.{IsDrillLine}
use Rattle.drill_laws.proofs.DrillActs.{act_fine}
use Rattle.drill_laws.proofs.DrillAir.{AreActing, acting_latest, is_acting, line_turn, onto, turns_before}
use Rattle.drill_laws.proofs.DrillHosts.{BeginsNone, IsDrillEvent, IsIdle, IsLater, RestsIdle, got_idle_by, note_idle, note_rests, over_idle, target_wire}
use Rattle.drill_laws.proofs.DrillMoments.{DrillAt, drill_moments}
use Rattle.drill_laws.proofs.DrillRings.{AreHarmless, code_byte, responses_harmless}
use Rattle.drill_laws.proofs.DrillSettles.{before_last, each_before, line_acting}
use Rattle.drill_laws.proofs.DrillTurns.{AreBack, AreFine, IsCalm, IsFine, IsFineNote, IsGood, got_back, got_fine, ignored_back, ignored_fine, no_start_here, quiet_back, quiet_fine}
use Rattle.drill_laws.proofs.DrillWire.{Parts, note_sent, sends_keeps, young}

-- ---- the laws of a turn together
pub record TurnLaws (start : List Disk) (t : Turn) : Type 0 where
  pub causes : HasCauses start t
  pub logins : HasLogins start t
  pub answers : AnswersLaw start t
  pub requests : RequestsLaw start t
  pub judges : Judges start t

pub together : (start : List Disk) (past : List Moment) (rest : List Note) → EachTurnBefore (HasCauses start) past rest → EachTurnBefore (HasLogins start) past rest → EachTurnBefore (AnswersLaw start) past rest → EachTurnBefore (RequestsLaw start) past rest → EachTurnBefore (Judges start) past rest → EachTurnBefore (TurnLaws start) past rest
together start [] rest a b c d e = tt
together start (asked line event ∷ past) rest a b c d e = (record { causes = a.0; logins = b.0; answers = c.0; requests = d.0; judges = e.0 }, together start past [] a.1 b.1 c.1 d.1 e.1)
together start (said (notes.Got s) ∷ past) rest a b c d e = (record { causes = a.0; logins = b.0; answers = c.0; requests = d.0; judges = e.0 }, together start past [] a.1 b.1 c.1 d.1 e.1)
together start (said (notes.Ignored s cause) ∷ past) rest a b c d e = (record { causes = a.0; logins = b.0; answers = c.0; requests = d.0; judges = e.0 }, together start past [] a.1 b.1 c.1 d.1 e.1)
together start (said (notes.TimedOut s) ∷ past) rest a b c d e = (record { causes = a.0; logins = b.0; answers = c.0; requests = d.0; judges = e.0 }, together start past [] a.1 b.1 c.1 d.1 e.1)
together start (said (notes.Seen node generation) ∷ past) rest a b c d e = (record { causes = a.0; logins = b.0; answers = c.0; requests = d.0; judges = e.0 }, together start past [] a.1 b.1 c.1 d.1 e.1)
together start (said notes.Tick ∷ past) rest a b c d e = (record { causes = a.0; logins = b.0; answers = c.0; requests = d.0; judges = e.0 }, together start past [] a.1 b.1 c.1 d.1 e.1)
together start (said notes.Settled ∷ past) rest a b c d e = (record { causes = a.0; logins = b.0; answers = c.0; requests = d.0; judges = e.0 }, together start past [] a.1 b.1 c.1 d.1 e.1)
together start (said notes.Stopped ∷ past) rest a b c d e = (record { causes = a.0; logins = b.0; answers = c.0; requests = d.0; judges = e.0 }, together start past [] a.1 b.1 c.1 d.1 e.1)
together start (said note ∷ past) rest a b c d e = together start past (note ∷ rest) a b c d e

-- ---- the event of the latest line
line_event : (event : Event) → IsDrillLine event → IsDrillEvent (Some event)
line_event (events.Begin initiators ready) is = tt
line_event _ is = is

pub latest_event : (past : List Moment) → EachMoment DrillAt past → IsDrillEvent (event_of past)
latest_event [] d = tt
latest_event (asked line event ∷ []) d = subst (λ e. IsDrillEvent (Some e)) (sym d.0) tt
latest_event (asked line event ∷ moment ∷ past) d = line_event event d.0
latest_event (said note ∷ past) d = latest_event past d.1

-- ---- one moment
-- which notes stand behind the first one
pub later : (start : List Disk) (note : Note) (past : List Moment) → IsCalm start past → DrillAt (said note) past → IsLater note
later start (notes.Begin initiators ready) past calm d =
    let is : (host_at past 0).login.agent ≡ 0 = ap (λ ms. (host_at ms 0).login.agent) d.past_is in
    let based = calm.agents 0 (omega arith) in
    omega (arith, is, based)
later start (notes.TimedOut serial) past calm d = cc d
later start (notes.Seen node generation) past calm d = cc d
later start (notes.Key unit) past calm d = cc d
later start notes.Tick past calm d = cc d
later start _ past calm d = tt

-- a packet that arrives as it should
abbrev pub is_got : Note → Bool
is_got (notes.Got serial) = true
is_got _ = false

-- what is sent
good_sent : (past : List Moment) (s generation from to : ℕ) (bytes : List ℕ) → IsFine from to bytes → IsOwn (terms past) generation from to bytes → IsGood from to bytes
good_sent past s generation from to bytes fine own = λ back. ((fine back).0, by (fine back).1)
  where
    by : (32 ≤ code_byte bytes) ⊎ AreHarmless bytes → AreHarmless bytes
    by (inl high) = responses_harmless bytes own.canonical.packet own.canonical.valid own.canonical.spelled high
    by (inr harmless) = harmless

put_good : (s : ℕ) (q : Sending) (t : Terms) → IsGood q.from q.to q.bytes → ((o : ℕ) (p : Sending) → t.sent o ≡ Some p → IsGood p.from p.to p.bytes) → (o : ℕ) (p : Sending) → (sends s q t).sent o ≡ Some p → IsGood p.from p.to p.bytes
put_good s q t good all o p e =
    let same : (sends s q t).sent o ≡ (puts (begun_by q) s q t).sent o = ap (λ (x : Parts). x.sent o) (sends_keeps s q t) in
    by (nat_eq o s) (sym same ∙ e)
  where
    by : (b : Bool) → cond b (Some q) (t.sent o) ≡ Some p → IsGood p.from p.to p.bytes
    by true f = let is : q ≡ p = cc f in subst (λ x. IsGood x.from x.to x.bytes) is good
    by false f = all o p f

-- a note that begins no turn of the target
step : (start : List Disk) (note : Note) (past : List Moment) → BeginsNone note → IsCalmNote note → IsDrillEvent (event_of past) → IsLater note → IsCalm start past → ((s : ℕ) (q : Sending) → (terms (said note ∷ past)).sent s ≡ Some q → IsGood q.from q.to q.bytes) → IsCalm start (said note ∷ past)
step start note past begins calm_note is after calm sent =
    record {
      agents = λ i small. (note_idle note past (known_host past i).wire i (host_at past i) after calm_note is).agent (calm.hosts i) ∙ calm.agents i small;
      sent = sent;
      hosts = λ i. (note_idle note past (known_host past i).wire i (host_at past i) after calm_note is).idle (calm.hosts i);
      target = note_rests note past (known_at start past).wire (target_at start past) begins calm_note calm.target;
    }

begins_none : (note : Note) → IsLater note → (is_got note ≡ false) → BeginsNone note
begins_none (notes.Got serial) l e = absurd (cc e)
begins_none (notes.Begin initiators ready) l e = l
begins_none (notes.TimedOut serial) l e = l
begins_none (notes.Seen node generation) l e = l
begins_none (notes.Key unit) l e = l
begins_none notes.Tick l e = l
begins_none _ l e = tt

-- any note but `got`
pub note_calm : (start : List Disk) (note : Note) (past : List Moment) → is_got note ≡ false → IsFineNote note → EachMoment DrillAt (said note ∷ past) → EachMoment SentAt (said note ∷ past) → AreSent (said note ∷ past) → IsCalm start past → IsCalm start (said note ∷ past)
note_calm start (notes.Sent s generation from to bytes) past g fine d own sent calm =
    let free = (young past d.1 own.1).injected s in
    let good = good_sent past s generation from to bytes fine.sent (sent.0 free) in
    step start (notes.Sent s generation from to bytes) past tt tt (latest_event past d.1) tt calm (put_good s _ (terms past) good calm.sent)
note_calm start note past g fine d own sent calm =
    let after = later start note past calm d.0 in
    let same = note_sent note past d.0 refl in
    step start note past (begins_none note after g) fine.calm (latest_event past d.1) after calm (λ s q e. calm.sent s q (ap (λ f. f s) (sym same) ∙ e))

-- `got`
pub got_calm : (start : List Disk) (s : ℕ) (past : List Moment) → EachMoment DrillAt (said (notes.Got s) ∷ past) → IsCalm start past → IsCalm start (said (notes.Got s) ∷ past)
got_calm start s past d calm =
    let is = latest_event past d.1 in
    let same = note_sent (notes.Got s) past d.0 refl in
    record {
      agents = λ i small. (note_idle (notes.Got s) past (known_host past i).wire i (host_at past i) tt tt is).agent (calm.hosts i) ∙ calm.agents i small;
      sent = λ o q e. calm.sent o q (ap (λ f. f o) (sym same) ∙ e);
      hosts = λ i. (note_idle (notes.Got s) past (known_host past i).wire i (host_at past i) tt tt is).idle (calm.hosts i);
      target = subst (λ w. RestsIdle (target_by (notes.Got s) past w (target_at start past))) (sym (target_wire start past)) (by (is_serial (receiver_in ((terms past).sent s)) 0) refl);
    }
  where
    idle : RestsIdle (over (target_at start past))
    idle = over_idle (target_at start past) calm.target

    by : (b : Bool) → is_serial (receiver_in ((terms past).sent s)) 0 ≡ b → RestsIdle (cond b (target_got (answered_at (terms past) s) (terms past) s (over (target_at start past))) (over (target_at start past)))
    by true here = got_idle_by (answered_at (terms past) s) (terms past) s (over (target_at start past)) (λ access none found. no_start_here start past s [] calm access here found) idle
    by false here = idle

-- a line
opened_sent : (event : Event) (t : Terms) → IsDrillLine event → (opened event t).sent ≡ t.sent
opened_sent (events.Act i (actions.Append cmd)) t is = refl
opened_sent events.Settle t is = refl
opened_sent _ t is = absurd is

pub asked_calm : (start : List Disk) (line : ℕ) (event : Event) (past : List Moment) → IsDrillLine event → IsCalm start past → IsCalm start (asked line event ∷ past)
asked_calm start line event past is calm = record {
  agents = calm.agents;
  sent = λ s q e. calm.sent s q (ap (λ f. f s) (sym (opened_sent event (terms past) is)) ∙ e);
  hosts = calm.hosts;
  target = over_idle (target_at start past) calm.target;
}

-- ---- a line that appends
pub fine_onto : (told rest : List Note) → AreFine (onto told rest) → AreFine told × AreFine rest
fine_onto [] rest fine = (tt, fine)
fine_onto (note ∷ told) rest fine = let more = fine_onto told (note ∷ rest) fine in ((more.1.0, more.0), more.1.1)

acting_got : (note : Note) → is_acting note ≡ true → is_got note ≡ false
acting_got (notes.Got serial) e = absurd (cc e)
acting_got _ e = refl

pub sent_before : (note : Note) (past : List Moment) → AreSent (said note ∷ past) → AreSent past
sent_before (notes.Sent s generation from to bytes) past sent = sent.1
sent_before _ past sent = sent

pub acting_onto : (told rest : List Note) → AreActing told → AreActing rest → AreActing (onto told rest)
acting_onto [] rest all more = more
acting_onto (note ∷ told) rest all more = acting_onto told (note ∷ rest) all.1 (all.0, more)

acting_calm : (start : List Disk) (told : List Note) (past : List Moment) → AreActing told → AreFine told → EachMoment DrillAt (map said told ++ past) → EachMoment SentAt (map said told ++ past) → AreSent (map said told ++ past) → IsCalm start past → IsCalm start (map said told ++ past)
acting_calm start [] past acting fine d own sent calm = calm
acting_calm start (note ∷ told) past acting fine d own sent calm =
    note_calm start note (map said told ++ past) (acting_got note acting.0) fine.0 d own sent (acting_calm start told past acting.1 fine.1 d.1 own.1 (sent_before note (map said told ++ past) sent) calm)

-- ---- a settle
pub record CalmLine (start : List Disk) (past : List Moment) (told rest : List Note) : Type 0 where
  pub calm : IsCalm start past
  pub told_fine : AreFine told
  pub rest_fine : AreFine rest
  pub told_back : AreBack told
  pub rest_back : AreBack rest

module _ (start : List Disk) (line : ℕ) (before : List Moment) (first : IsCalm start before) where
  abbrev there : List Note → List Moment
  there told = map said told ++ asked line events.Settle ∷ before

  settle_calm : (told rest : List Note) → EachMoment DrillAt (there told) → EachMoment SentAt (there told) → AreSent (there told) → EachTurnBefore (TurnLaws start) (there told) rest → CalmLine start (there told) told rest
  settle_calm [] rest d own sent each =
      record { calm = asked_calm start line events.Settle before tt first; told_fine = tt; rest_fine = quiet_fine start before (asked line events.Settle) rest tt each.0.causes each.0.logins each.0.requests; told_back = tt; rest_back = quiet_back start before (asked line events.Settle) rest tt each.0.requests }
  settle_calm (notes.Got s ∷ told) rest d own sent each =
      let c = settle_calm told [] d.1 own.1 sent each.1 in
      record {
        calm = got_calm start s (there told) d c.calm;
        told_fine = (record { calm = tt; sent = tt }, c.told_fine);
        rest_fine = got_fine start (there told) s rest c.calm each.0.causes each.0.logins each.0.answers each.0.requests;
        told_back = (tt, c.told_back);
        rest_back = got_back start (there told) s rest c.calm each.0.answers each.0.requests;
      }
  settle_calm (notes.Ignored s cause ∷ told) rest d own sent each =
      let c = settle_calm told [] d.1 own.1 sent each.1 in
      record {
        calm = note_calm start (notes.Ignored s cause) (there told) refl (record { calm = tt; sent = tt }) d own sent c.calm;
        told_fine = (record { calm = tt; sent = tt }, c.told_fine);
        rest_fine = ignored_fine start (there told) s rest c.calm cause each.0.judges;
        told_back = (tt, c.told_back);
        rest_back = ignored_back start (there told) s rest c.calm cause each.0.judges;
      }
  settle_calm (notes.Settled ∷ told) rest d own sent each =
      let c = settle_calm told [] d.1 own.1 sent each.1 in
      record {
        calm = note_calm start notes.Settled (there told) refl (record { calm = tt; sent = tt }) d own sent c.calm;
        told_fine = (record { calm = tt; sent = tt }, c.told_fine);
        rest_fine = quiet_fine start (there told) (said notes.Settled) rest tt each.0.causes each.0.logins each.0.requests;
        told_back = (tt, c.told_back);
        rest_back = quiet_back start (there told) (said notes.Settled) rest tt each.0.requests;
      }
  settle_calm (notes.Stopped ∷ told) rest d own sent each =
      let c = settle_calm told [] d.1 own.1 sent each.1 in
      record {
        calm = note_calm start notes.Stopped (there told) refl (record { calm = tt; sent = tt }) d own sent c.calm;
        told_fine = (record { calm = tt; sent = tt }, c.told_fine);
        rest_fine = quiet_fine start (there told) (said notes.Stopped) rest tt each.0.causes each.0.logins each.0.requests;
        told_back = (tt, c.told_back);
        rest_back = quiet_back start (there told) (said notes.Stopped) rest tt each.0.requests;
      }
  settle_calm (notes.TimedOut s ∷ told) rest d own sent each = absurd (let no : false ≡ true = d.0 in cc no)
  settle_calm (notes.Seen node generation ∷ told) rest d own sent each = absurd (let no : false ≡ true = d.0 in cc no)
  settle_calm (notes.Tick ∷ told) rest d own sent each = absurd (let no : false ≡ true = d.0 in cc no)
  settle_calm (notes.Sent s generation from to bytes ∷ told) rest d own sent each =
      let c = settle_calm told (notes.Sent s generation from to bytes ∷ rest) d.1 own.1 sent.1 each in
      record {
        calm = note_calm start (notes.Sent s generation from to bytes) (there told) refl c.rest_fine.0 d own sent c.calm;
        told_fine = (c.rest_fine.0, c.told_fine);
        rest_fine = c.rest_fine.1;
        told_back = (c.rest_back.0, c.told_back);
        rest_back = c.rest_back.1;
      }
  settle_calm (note ∷ told) rest d own sent each =
      let c = settle_calm told (note ∷ rest) d.1 own.1 sent each in
      record {
        calm = note_calm start note (there told) refl c.rest_fine.0 d own sent c.calm;
        told_fine = (c.rest_fine.0, c.told_fine);
        rest_fine = c.rest_fine.1;
        told_back = (c.rest_back.0, c.told_back);
        rest_back = c.rest_back.1;
      }

-- ---- all lines
pub sent_earlier : (later earlier : List Moment) → AreSent (later ++ earlier) → AreSent earlier
sent_earlier [] earlier sent = sent
sent_earlier (said (notes.Sent s generation from to bytes) ∷ later) earlier sent = sent_earlier later earlier sent.1
sent_earlier (_ ∷ later) earlier sent = sent_earlier later earlier sent

pub lawful_before : (disks : List Disk) (entry next : Entry) (before : List Entry) → IsLawfulDrill disks (entry ∷ next ∷ before) → IsLawfulDrill disks (next ∷ before)
lawful_before disks entry next before l = record {
  run = before_last disks entry next before l.run;
  sent = sent_earlier (map said entry.notes) (asked entry.line entry.event ∷ history (next ∷ before)) l.sent;
  answers = turns_before (AnswersLaw disks) entry.notes [] (history (next ∷ before)) entry.line entry.event l.answers;
  causes = turns_before (HasCauses disks) entry.notes [] (history (next ∷ before)) entry.line entry.event l.causes;
  logins = turns_before (HasLogins disks) entry.notes [] (history (next ∷ before)) entry.line entry.event l.logins;
  judges = turns_before (Judges disks) entry.notes [] (history (next ∷ before)) entry.line entry.event l.judges;
  asked = (each_before (NoneUnasked disks) (map said entry.notes) (asked entry.line entry.event ∷ history (next ∷ before)) l.asked).1;
  pushes = turns_before (HasPushes disks) entry.notes [] (history (next ∷ before)) entry.line entry.event l.pushes;
}

pub record AllCalm (start : List Disk) (past : List Moment) : Type 0 where
  pub here : IsCalm start past
  pub each : EachMoment IsCalmAt past

each_calm : (told : List Note) (past : List Moment) → AreFine told → EachMoment IsCalmAt past → EachMoment IsCalmAt (map said told ++ past)
each_calm [] past fine each = each
each_calm (note ∷ told) past fine each = (fine.0.calm, each_calm told past fine.1 each)

pub first_calm : (start : List Disk) (line : ℕ) → IsCalm start (said (notes.Begin 2 true) ∷ asked line (events.Begin 2 true) ∷ [])
first_calm start line = record {
  agents = based;
  sent = λ s q e. absurd (let no : None ≡ Some q = e in cc no);
  hosts = λ i. by i (nat_lt i 2);
  target = record { manages = refl; asks = refl };
}
  where
    based : (i : ℕ) → i < 2 → (host_at (said (notes.Begin 2 true) ∷ asked line (events.Begin 2 true) ∷ []) i).login.agent ≡ base_of i
    based zero small = refl
    based (suc zero) small = refl
    based (suc (suc i)) small = absurd (omega (arith, small))

    by : (i : ℕ) (b : Bool) → IsIdle (cond b (ready_host i) new_host)
    by i true = record { operation = refl; reads = refl }
    by i false = record { operation = refl; reads = refl }

settle_line : (disks : List Disk) (entry next : Entry) (before : List Entry) → entry.event ≡ events.Settle → IsLawfulDrill disks (entry ∷ next ∷ before) → IsCalm disks (history (next ∷ before)) → CalmLine disks (map said entry.notes ++ asked entry.line events.Settle ∷ history (next ∷ before)) entry.notes []
settle_line disks entry next before e l was =
    let past = history (next ∷ before) in
    let d = drill_moments disks (entry ∷ next ∷ before) l.run.brings l.run.lines in
    let all = together disks (history (entry ∷ next ∷ before)) [] l.causes l.logins l.answers l.run.requests l.judges in
    settle_calm disks entry.line past was entry.notes []
    (subst (λ v. EachMoment DrillAt (map said entry.notes ++ asked entry.line v ∷ past)) e d) (subst (λ v. EachMoment SentAt (map said entry.notes ++ asked entry.line v ∷ past)) e l.run.packets)
    (subst (λ v. AreSent (map said entry.notes ++ asked entry.line v ∷ past)) e l.sent) (subst (λ v. EachTurnBefore (TurnLaws disks) (map said entry.notes ++ asked entry.line v ∷ past) []) e all)

line_calm : (disks : List Disk) (entry next : Entry) (before : List Entry) (event : Event) → entry.event ≡ event → IsDrillLine event → IsLawfulDrill disks (entry ∷ next ∷ before) → AllCalm disks (history (next ∷ before)) → AllCalm disks (history (entry ∷ next ∷ before))
line_calm disks entry next before (events.Act i (actions.Append cmd)) e is l was =
    let past = history (next ∷ before) in
    let run = before_last disks entry next before l.run in
    let brings = subst (λ v. Brings disks past entry.line v (reverse entry.notes)) e l.run.brings.0 in
    let acting = acting_latest entry.notes (line_acting disks past entry.line i cmd (reverse entry.notes) brings) in
    let d = drill_moments disks (entry ∷ next ∷ before) l.run.brings l.run.lines in
    let requests = line_turn (RequestsLaw disks) entry.notes [] past entry.line (events.Act i (actions.Append cmd)) acting (subst (λ v. EachTurnBefore (RequestsLaw disks) (map said entry.notes ++ asked entry.line v ∷ past) []) e l.run.requests) in
    let y = young past (drill_moments disks (next ∷ before) run.brings run.lines) run.packets in
    let fine = (fine_onto entry.notes [] (act_fine disks past entry.line i cmd is.0 was.here y (onto entry.notes []) (acting_onto entry.notes [] acting tt) requests)).0 in
    let there = asked_calm disks entry.line entry.event past (subst IsDrillLine (sym e) is) was.here in
    record {
      here = acting_calm disks entry.notes (asked entry.line entry.event ∷ past) acting fine d l.run.packets l.sent there;
      each = each_calm entry.notes (asked entry.line entry.event ∷ past) fine (tt, was.each);
    }
line_calm disks entry next before events.Settle e is l was =
    let c = settle_line disks entry next before e l was.here in
    record {
      here = subst (λ v. IsCalm disks (map said entry.notes ++ asked entry.line v ∷ history (next ∷ before))) (sym e) c.calm;
      each = each_calm entry.notes (asked entry.line entry.event ∷ history (next ∷ before)) c.told_fine (tt, was.each);
    }
line_calm disks entry next before _ e is l was = absurd is

pub all_calm : (disks : List Disk) (entries : List Entry) → IsLawfulDrill disks entries → AllCalm disks (history entries)
all_calm disks [] l = absurd l.run.lines
all_calm disks (entry ∷ []) l =
    let told : reverse entry.notes ≡ notes.Begin 2 true ∷ [] = subst (λ v. Brings disks [] entry.line v (reverse entry.notes)) l.run.lines l.run.brings.0 in
    let is : entry.notes ≡ notes.Begin 2 true ∷ [] = sym (reverse-reverse entry.notes) ∙ ap reverse told in
    subst (λ ns. AllCalm disks (map said ns ++ asked entry.line entry.event ∷ [])) (sym is)
    (subst (λ v. AllCalm disks (said (notes.Begin 2 true) ∷ asked entry.line v ∷ [])) (sym l.run.lines) (record { here = first_calm disks entry.line; each = (tt, (tt, tt)) }))
all_calm disks (entry ∷ next ∷ before) l = line_calm disks entry next before entry.event refl l.run.lines.0 l (all_calm disks (next ∷ before) (lawful_before disks entry next before l))

-- ---- no list is cut
uncut : (past : List Moment) → EachMoment IsCalmAt past → (i n : ℕ) → is_cut past i n ≡ false
uncut [] each i n = refl
uncut (said (notes.Cut j list cause) ∷ past) each i n = absurd each.0
uncut (asked line event ∷ past) each i n = uncut past each.1 i n
uncut (said _ ∷ past) each i n = uncut past each.1 i n

pub drills_are_calm : DrillsAreCalm
drills_are_calm disks entries l = let all = all_calm disks entries l in record { calm = all.each; uncut = uncut (history entries) all.each }

-- in a settle no initiator sends the target a request
pub settle_back : (disks : List Disk) (entry next : Entry) (before : List Entry) → entry.event ≡ events.Settle → IsLawfulDrill disks (entry ∷ next ∷ before) → AreBack entry.notes
settle_back disks entry next before e l = (settle_line disks entry next before e l (all_calm disks (next ∷ before) (lawful_before disks entry next before l)).here).told_back
