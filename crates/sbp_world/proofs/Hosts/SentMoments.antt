-- Where a packet stands in a history, and what the terms of the wire say right behind it.
use Rattle.sbp_world.proofs.Words.Std.{arith, ◌≡◌, refl, sym, ◌∙◌, ap, subst, ℕ, ◌+◌, ◌≤◌, nat_eq, Bool, true, false, cond, List, [], ◌∷◌, ◌++◌, Some, nat_tests, same_Some, none-some, upd}
use Rattle.sbp_world.proofs.Words.Wire.{SerialsCount, Moment, asked, said, Sending, begun_by, Owed, Terms, begins, pays, puts, terms}
use Rattle.sbp_world.proofs.Words.Laws.{before_sent}
use Rattle.sbp_journal.specs.declared.note.Note.TheVariants as notes
use Rattle.sbp_world.proofs.Hosts.Remaining.{begins_same, gets_same, ignores_that_same, opened_same, pays_same, remains, serials_behind, times_out_same}
use Rattle.sbp_world.proofs.Common.{itself}

-- ---- right behind it

module _ (past : List Moment) (s generation from to : ℕ) (bytes : List ℕ) where
  abbrev t : Terms
  t = terms past

  abbrev pub sending : Sending
  sending = record { generation = generation; from = from; to = to; bytes = bytes; injected = t.injected s }

  abbrev pub now : List Moment
  now = said (notes.Sent s generation from to bytes) ∷ past

  abbrev put : Terms
  put = puts (begun_by sending) s sending t

  abbrev begun : Terms
  begun = begins (begun_by sending) s sending put

  pub sent_now : (terms now).sent ≡ upd t.sent s (Some sending)
  sent_now = (pays_same t.owes t.sent s sending begun).sent ∙ (begins_same (begun_by sending) s sending put).sent

  pub sent_there : (terms now).sent s ≡ Some sending
  sent_there = ap (λ f. f s) sent_now ∙ ap (λ b. cond b (Some sending) (t.sent s)) (itself s)

  pub count_now : (terms now).count ≡ t.count + 1
  count_now = (pays_same t.owes t.sent s sending begun).count ∙ (begins_same (begun_by sending) s sending put).count

  pub answers_now : (owed : Owed) → t.owes ≡ Some owed → (terms now).answers s ≡ Some owed.serial
  answers_now owed e =
      ap (λ o. (pays o t.sent s sending begun).answers s) e
      ∙ ap (λ b. cond b (Some owed.serial) (begun.answers s)) (itself s)

-- ---- where it stands

pub record WasSent (all : List Moment) (r : ℕ) (packet : Sending) : Type 0 where
  pub later : List Moment
  pub before : List Moment
  pub is : later ++ said (notes.Sent r packet.generation packet.from packet.to packet.bytes) ∷ before ≡ all
  pub injected : (terms before).injected r ≡ packet.injected

further : (m : Moment) (past : List Moment) (r : ℕ) (packet : Sending) → WasSent past r packet → WasSent (m ∷ past) r packet
further m past r packet h = record { later = m ∷ h.later; before = h.before; is = ap (λ ms. m ∷ ms) h.is; injected = h.injected }

here_or : (past : List Moment) (s generation from to : ℕ) (bytes : List ℕ) (r : ℕ) (packet : Sending) → ((terms past).sent r ≡ Some packet → WasSent past r packet) → (b : Bool) → nat_eq r s ≡ b → cond b (Some (sending past s generation from to bytes)) ((terms past).sent r) ≡ Some packet → WasSent (now past s generation from to bytes) r packet
here_or past s generation from to bytes r packet h true e f =
    let same : s ≡ r = grind (arith, nat_tests) in
    subst (λ n. WasSent (now past s generation from to bytes) n packet) same
    (subst (λ q. WasSent (now past s generation from to bytes) s q) (same_Some (sending past s generation from to bytes) packet f)
    (record { later = []; before = past; is = refl; injected = refl }))
here_or past s generation from to bytes r packet h false e f = further (said (notes.Sent s generation from to bytes)) past r packet (h f)

pub sent_moment : (all : List Moment) (r : ℕ) (packet : Sending) → (terms all).sent r ≡ Some packet → WasSent all r packet
sent_moment [] r packet e = absurd (none-some packet e)
sent_moment (asked line event ∷ past) r packet e =
    further (asked line event) past r packet (sent_moment past r packet (sym (ap (λ f. f r) (opened_same event (terms past)).sent) ∙ e))
sent_moment (said (notes.Sent s generation from to bytes) ∷ past) r packet e =
    here_or past s generation from to bytes r packet (sent_moment past r packet) (nat_eq r s) refl (sym (ap (λ f. f r) (sent_now past s generation from to bytes)) ∙ e)
sent_moment (said (notes.Got s) ∷ past) r packet e =
    further (said (notes.Got s)) past r packet (sent_moment past r packet (sym (ap (λ f. f r) (gets_same ((terms past).sent s) s (terms past)).sent) ∙ e))
sent_moment (said (notes.Ignored s cause) ∷ past) r packet e =
    further (said (notes.Ignored s cause)) past r packet (sent_moment past r packet (sym (ap (λ f. f r) (ignores_that_same ((terms past).sent s) cause s (terms past)).sent) ∙ e))
sent_moment (said (notes.TimedOut s) ∷ past) r packet e =
    further (said (notes.TimedOut s)) past r packet (sent_moment past r packet (sym (ap (λ f. f r) (times_out_same _ (terms past)).sent) ∙ e))
sent_moment (said note ∷ past) r packet e = further (said note) past r packet (sent_moment past r packet e)

-- ---- serials

pub serials_from : (later before : List Moment) → SerialsCount (later ++ before) → SerialsCount before
serials_from [] before h = h
serials_from (m ∷ later) before h = serials_from later before (serials_behind m (later ++ before) h)

-- a packet that was sent has no higher serial than there were packets
pub sent_below : (all : List Moment) (r : ℕ) (packet : Sending) → SerialsCount all → (terms all).sent r ≡ Some packet → r ≤ (terms all).count
sent_below all r packet c e =
    let w = sent_moment all r packet e in
    let here = now w.before r packet.generation packet.from packet.to packet.bytes in
    let all_there : SerialsCount (w.later ++ here) = subst SerialsCount (sym w.is) c in
    let serial : r ≡ (terms w.before).count + 1 = (serials_from w.later here all_there).0 in
    let counted : (terms here).count ≡ (terms w.before).count + 1 = count_now w.before r packet.generation packet.from packet.to packet.bytes in
    let most : (terms here).count ≤ (terms (w.later ++ here)).count = (remains w.later here all_there).count in
    let same : (terms (w.later ++ here)).count ≡ (terms all).count = ap (λ ms. (terms ms).count) w.is in
    omega arith

-- the history before a packet is the beginning of that of a run
pub record Begins (all front : List Moment) : Type 0 where
  pub later : List Moment
  pub is : later ++ front ≡ all

more_begins : (m : Moment) (past front : List Moment) → Begins past front → Begins (m ∷ past) front
more_begins m past front h = record { later = m ∷ h.later; is = ap (λ ms. m ∷ ms) h.is }

begins_or : (m : Moment) (past : List Moment) (r : ℕ) (b : Bool) → Begins past (before_sent past r) → Begins (m ∷ past) (cond b past (before_sent past r))
begins_or m past r true h = record { later = m ∷ []; is = refl }
begins_or m past r false h = more_begins m past (before_sent past r) h

pub sent_begins : (all : List Moment) (r : ℕ) → Begins all (before_sent all r)
sent_begins [] r = record { later = []; is = refl }
sent_begins (said (notes.Sent s generation from to bytes) ∷ past) r = begins_or (said (notes.Sent s generation from to bytes)) past r (nat_eq s r) (sent_begins past r)
sent_begins (said note ∷ past) r = more_begins (said note) past (before_sent past r) (sent_begins past r)
sent_begins (asked line event ∷ past) r = more_begins (asked line event) past (before_sent past r) (sent_begins past r)
