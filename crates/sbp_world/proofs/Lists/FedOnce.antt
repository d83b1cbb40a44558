-- A response that closed the transaction of a request is not got again, where its nodes injected no packets: each response of such nodes that is got answers the request that its label waits for, and
-- a label that is free waits later for requests alone that are sent later.
use Rattle.sbp_world.proofs.Words.Std.{arith, ◌≡◌, ◌∙◌, refl, sym, ap, subst, inl, inr, ◌⊎◌, ◌≤◌, ◌==◌, ℕ, zero, suc, Bool, true, false, cond, List, [], ◌∷◌, ◌++◌, Option, Some, None, nat_tests}
use Rattle.sbp_world.proofs.Words.Wire.{AreJudged, JudgementLaw, is_awaited, is_response, may_get, waits_for, SerialsCount, row_of, Moment, asked, said, Kind, Part, Sending, Transaction, between, part_of, request, response, Held, Terms, free, rests, terms, waits, Note}
use Rattle.sbp_world.proofs.Words.Target.{Disk}
use Rattle.sbp_world.proofs.Words.Laws.{answered_as, answered_at, answered_in, closed_by}
use Rattle.sbp_world.proofs.Words.World.{ready_logins, WorldState, Stands, AreGotOnce, GotOnceLaw, IsCalmNode, NoneAgain}
use Rattle.bus_transactions.specs.Judging.{facts_of}
use Rattle.bus_transactions.proofs.JudgementLaws.{judged_always}
use Rattle.bus_transactions.proofs.Reaches.{law_of}
use Rattle.sbp_journal.specs.Transactions.{no_packet}
use Rattle.sbp_journal.specs.declared.note.Note.TheVariants as notes
use Rattle.sbp_world.proofs.Agents.Management.Still.{hist}
use Rattle.sbp_world.proofs.Hosts.Remaining.{remains}
use Rattle.sbp_world.proofs.Hosts.SentMoments.{sent_below, serials_from}
use Rattle.sbp_world.proofs.Lists.Fair.{Told, told_before, told_everywhere}
use Rattle.sbp_world.proofs.Lists.Courses.{EveryPlace, Keeps, at_between, at_lines}
use Rattle.sbp_world.proofs.Lists.ManageTerms.{same_some}
use Rattle.sbp_world.proofs.Lists.BegunBy.{IsHeld, begun_of, held_by, transaction_of}
use Rattle.sbp_world.proofs.Lists.Calm.{injects_before}
use Rattle.sbp_world.proofs.Lists.FedHeld.{IsNewer, got_frees, waits_since}
use Rattle.sbp_world.proofs.Lists.BufferGets.{fair_back}
use Rattle.sbp_world.proofs.Lists.StatusKnown.{judged_less}

-- ---- a response that is got is awaited
row_awaited : (current for_node awaited repeated : Bool) → may_get (row_of (record { is_current = current; is_for_node = for_node; is_response = true; is_awaited = awaited; is_repeated = repeated })) ≡ true → awaited ≡ true
row_awaited false for_node awaited repeated e = absurd (let x : false ≡ true = e in cc)
row_awaited true false awaited repeated e = absurd (let x : false ≡ true = e in cc)
row_awaited true true true repeated e = refl
row_awaited true true false repeated e = absurd (let x : false ≡ true = e in cc)

-- the request that its label waits for
record IsFor (held : Held) (kind : Kind) : Type 0 where
  waited : Kind
  serial : ℕ
  is : held ≡ waits waited serial
  closes : closed_by held kind ≡ Some serial

for_by : (held : Held) (kind : Kind) → waits_for held kind ≡ true → IsFor held kind
for_by free kind e = absurd (let x : false ≡ true = e in cc)
for_by rests kind e = absurd (let x : false ≡ true = e in cc)
for_by (waits own s) kind e = record { waited = own; serial = s; is = refl; closes = ap (λ b. cond b (Some s) None) e }

-- a response, where it answers
pub record IsReply (t : Terms) (r own : ℕ) : Type 0 where
  pub packet : Sending
  pub sent : t.sent r ≡ Some packet
  pub label : ℕ
  pub kind : Kind
  pub part : part_of packet.bytes ≡ response label kind
  pub closes : closed_by (t.held (between packet packet.to packet.from label)) kind ≡ Some own

pub reply_by : (t : Terms) (r own : ℕ) (so : Option Sending) → t.sent r ≡ so → answered_in t so ≡ Some own → IsReply t r own
reply_by t r own None e f = absurd (let x : None ≡ Some own = f in cc)
reply_by t r own (Some q) e f = by (part_of q.bytes) refl f
  where
    by : (part : Part) → part_of q.bytes ≡ part → answered_as part t q ≡ Some own → IsReply t r own
    by (response label kind) g c = record { packet = q; sent = e; label = label; kind = kind; part = g; closes = c }
    by (request label kind) g c = absurd (let x : None ≡ Some own = c in cc)
    by no_packet g c = absurd (let x : None ≡ Some own = c in cc)

told_from : (later earlier : List Moment) → Told (later ++ earlier) → Told earlier
told_from [] earlier f = f
told_from (m ∷ later) earlier f = told_from later earlier (told_before m (later ++ earlier) f)

module _ (earlier : List Moment) (r own : ℕ) (asking : Sending) (closed : answered_at (terms earlier) r ≡ Some own) (own_sent : (terms earlier).sent own ≡ Some asking) where
  abbrev E : List Moment
  E = said (notes.Got r) ∷ earlier

  abbrev reply : IsReply (terms earlier) r own
  reply = reply_by (terms earlier) r own ((terms earlier).sent r) refl closed

  abbrev q : Sending
  q = reply.packet

  abbrev u : Transaction
  u = between q q.to q.from reply.label

  freed : (terms E).held u ≡ free
  freed = got_frees (terms earlier) r own q reply.label reply.kind reply.sent reply.part reply.closes

  -- neither node of the transaction injected packets
  record AreFair (past : List Moment) : Type 0 where
    requester : (terms past).injects u.requester ≡ false
    responder : (terms past).injects u.responder ≡ false

  are_before : (m : Moment) (past : List Moment) → AreFair (m ∷ past) → AreFair past
  are_before m past f = record { requester = injects_before m past u.requester f.requester; responder = injects_before m past u.responder f.responder }

  are_from : (later past : List Moment) → AreFair (later ++ past) → AreFair past
  are_from later past f = record { requester = fair_back later past u.requester f.requester; responder = fair_back later past u.responder f.responder }

  -- a response that answers the request which its label waits for
  answered_by : (past : List Moment) (serial : ℕ) → Told (said (notes.Got serial) ∷ past) → AreFair past → (kind : Kind) (asked_for : ℕ) → (terms past).held u ≡ waits kind asked_for → answered_at (terms past) serial ≡ Some asked_for → (terms past).answers serial ≡ Some asked_for
  answered_by past serial f fair kind asked_for waits_so answered =
      let x = begun_of past (told_before (said (notes.Got serial)) past f).counts u kind asked_for waits_so in
      let nodes = transaction_of x.packet u x.begun in
      f.answers.0 asked_for answered x.packet x.sent (subst (λ node. (terms past).injects node ≡ false) nodes.requester fair.requester) (subst (λ node. (terms past).injects node ≡ false) nodes.responder fair.responder)

  -- it is got again
  module _ (later : List Moment) (f : Told (said (notes.Got r) ∷ (later ++ E))) (j : AreJudged (said (notes.Got r) ∷ (later ++ E))) (fair : AreFair (later ++ E)) where
    abbrev H : List Moment
    H = later ++ E

    abbrev t : Terms
    t = terms H

    counts : SerialsCount H
    counts = f.counts

    counts_then : SerialsCount E
    counts_then = serials_from later E counts

    counts_earlier : SerialsCount earlier
    counts_earlier = counts_then

    r_below : r ≤ (terms earlier).count
    r_below = sent_below earlier r q counts_earlier reply.sent

    own_below : own ≤ (terms earlier).count
    own_below = sent_below earlier own asking counts_earlier own_sent

    sent_there : t.sent r ≡ Some q
    sent_there =
        let a = remains (said (notes.Got r) ∷ []) earlier counts_then in
        let b = remains later E counts in
        b.sent r (let x = a.count in omega (arith, x, r_below)) ∙ a.sent r r_below ∙ reply.sent

    awaited : waits_for (t.held u) reply.kind ≡ true
    awaited =
        let may = j.0 q sent_there in
        let facts = facts_of t q in
        let is : is_response (part_of q.bytes) ≡ true = ap is_response reply.part in
        let waits_so : is_awaited t (part_of q.bytes) q ≡ true =
        row_awaited facts.is_current facts.is_for_node facts.is_awaited facts.is_repeated
        (subst (λ b. may_get (row_of (record { is_current = facts.is_current; is_for_node = facts.is_for_node; is_response = b; is_awaited = facts.is_awaited; is_repeated = facts.is_repeated })) ≡ true) is may) in
        sym (ap (λ (p : Part). is_awaited t p q) reply.part) ∙ waits_so

    abbrev now : IsFor (t.held u) reply.kind
    now = for_by (t.held u) reply.kind awaited

    closes_now : answered_at t r ≡ Some now.serial
    closes_now = ap (λ (so : Option Sending). answered_in t so) sent_there ∙ ap (λ (p : Part). answered_as p t q) reply.part ∙ now.closes

    held_then : IsHeld ((terms earlier).held u) own
    held_then = held_by ((terms earlier).held u) reply.kind own reply.closes

    answered_then : (terms earlier).answers r ≡ Some own
    answered_then =
        answered_by earlier r (told_from later E (told_before (said (notes.Got r)) H f)) (are_from (said (notes.Got r) ∷ []) earlier (are_from later E fair)) held_then.kind own held_then.is closed

    answers_same : t.answers r ≡ (terms earlier).answers r
    answers_same =
        let a = remains (said (notes.Got r) ∷ []) earlier counts_then in
        let b = remains later E counts in
        b.answers r (let x = a.count in omega (arith, x, r_below)) ∙ a.answers r r_below

    newer : IsNewer E H now.serial → ⊥
    newer n =
        let answered : t.answers r ≡ Some now.serial = answered_by H r f fair now.waited now.serial now.is closes_now in
        let same : now.serial ≡ own = same_some now.serial own (sym answered ∙ answers_same ∙ answered_then) in
        let a = (remains (said (notes.Got r) ∷ []) earlier counts_then).count in
        let above = n.above in
        omega (arith, same, a, above, own_below)

    never : ⊥
    never = by (waits_since later E counts u now.waited now.serial now.is)
      where
        by : ((terms E).held u ≡ waits now.waited now.serial) ⊎ IsNewer E H now.serial → ⊥
        by (inl e) = let x : free ≡ waits now.waited now.serial = sym freed ∙ e in cc
        by (inr n) = newer n

  not_again : (later : List Moment) (serial : ℕ) → Told (said (notes.Got serial) ∷ (later ++ E)) → AreJudged (said (notes.Got serial) ∷ (later ++ E)) → AreFair (later ++ E) → (serial == r) ≡ false
  not_again later serial f j fair = by (serial == r) refl
    where
      by : (b : Bool) → (serial == r) ≡ b → b ≡ false
      by false e = refl
      by true e =
          let same : serial ≡ r = grind (arith, nat_tests, e) in
          absurd (never later (subst (λ x. Told (said (notes.Got x) ∷ (later ++ E))) same f) (subst (λ x. AreJudged (said (notes.Got x) ∷ (later ++ E))) same j) fair)

  none_again : (later : List Moment) → Told (later ++ E) → AreJudged (later ++ E) → AreFair (later ++ E) → NoneAgain r later
  none_again [] f j fair = tt
  none_again (asked line event ∷ later) f j fair =
      none_again later (told_before (asked line event) (later ++ E) f) (judged_less (asked line event) (later ++ E) j) (are_before (asked line event) (later ++ E) fair)
  none_again (said note ∷ later) f j fair =
      by note f j fair (none_again later (told_before (said note) (later ++ E) f) (judged_less (said note) (later ++ E) j) (are_before (said note) (later ++ E) fair))
    where
      by : (note : Note) → Told (said note ∷ (later ++ E)) → AreJudged (said note ∷ (later ++ E)) → AreFair (said note ∷ (later ++ E)) → NoneAgain r later → NoneAgain r (said note ∷ later)
      by (notes.Got serial) f j fair rest = (not_again later serial f j (are_before (said (notes.Got serial)) (later ++ E) fair), rest)
      by note f j fair rest = rest

  -- the nodes of its request
  of_asking : SerialsCount earlier → (past : List Moment) → (terms past).injects asking.from ≡ false → (terms past).injects asking.to ≡ false → AreFair past
  of_asking counts past from to =
      let held = held_by ((terms earlier).held u) reply.kind own reply.closes in
      let x = begun_of earlier counts u held.kind own held.is in
      let nodes = transaction_of x.packet u x.begun in
      let same : x.packet ≡ asking = same_some x.packet asking (sym x.sent ∙ own_sent) in
      record {
        requester = subst (λ node. (terms past).injects node ≡ false) (sym (nodes.requester ∙ ap (λ (p : Sending). p.from) same)) from;
        responder = subst (λ node. (terms past).injects node ≡ false) (sym (nodes.responder ∙ ap (λ (p : Sending). p.to) same)) to;
      }

fair_node : (past : List Moment) → Told past → (node : ℕ) → IsCalmNode past node → (terms past).injects node ≡ false
fair_node past f zero calm = f.fair
fair_node past f (suc i) calm = calm i refl

pub got_once : (past : List Moment) → Told past → AreJudged past → AreGotOnce past
got_once past f j later earlier r own asking is closed own_sent from to =
    let told = subst Told (sym is) f in
    let counts : SerialsCount earlier = (told_from (said (notes.Got r) ∷ []) earlier (told_from later (said (notes.Got r) ∷ earlier) told)).counts in
    none_again earlier r own asking closed own_sent later told (subst AreJudged (sym is) j)
    (of_asking earlier r own asking closed own_sent counts (later ++ said (notes.Got r) ∷ earlier) (fair_node (later ++ said (notes.Got r) ∷ earlier) told asking.from (subst (λ ms. IsCalmNode ms asking.from) (sym is) from))
    (fair_node (later ++ said (notes.Got r) ∷ earlier) told asking.to (subst (λ ms. IsCalmNode ms asking.to) (sym is) to)))

-- ---- at each place of a run
abbrev Nothing : List Disk → List Moment → WorldState → Type 0
Nothing start past w = Unit {0}

nothing : EveryPlace Nothing
nothing = record { after_lines = λ line run r has small size so_far. tt; between = λ line run r has small size next most told m so_far. tt }

judged_at : {past : List Moment} (w : WorldState) → Stands past w → AreJudged (hist past w)
judged_at w stands = subst AreJudged stands.is.past_is (law_of JudgementLaw judged_always stands.wire stands.reached)

all_judged : (units ready : ℕ) (start : List Disk) → Keeps units ready start (Nothing start) (λ past w. AreJudged past)
all_judged units ready start past s later t lines more g h h_now q q_now p = judged_at t.world h_now.sound.stands

pub judged_everywhere : EveryPlace (λ start past w. AreJudged past)
judged_everywhere = record {
  after_lines = λ line run r has small size so_far.
      at_lines Nothing (λ past w. AreJudged past) nothing line run r.few has small size (all_judged run.units (ready_logins run.initiators run.ready) run.start.disks) tt r so_far;
  between = λ line run r has small size next most told m so_far.
      at_between Nothing (λ past w. AreJudged past) nothing line run r.few has small size (all_judged run.units (ready_logins run.initiators run.ready) run.start.disks) tt r next most told m so_far;
}

pub got_once_law : GotOnceLaw
got_once_law = record {
  after_lines = λ line run r has small size so_far.
      got_once _ (told_everywhere.after_lines line run r has small size so_far) (judged_everywhere.after_lines line run r has small size so_far);
  between = λ line run r has small size next most told m so_far.
      got_once _ (told_everywhere.between line run r has small size next most told m so_far) (judged_everywhere.between line run r has small size next most told m so_far);
}
