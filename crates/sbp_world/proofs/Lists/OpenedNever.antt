-- A packet that an initiator gets drops no list that an agent of the target is out of RESET for: the target had told of it before, and none was so since.
use Rattle.sbp_world.proofs.Words.Std.{arith, ◌≡◌, ◌∙◌, refl, sym, ap, subst, ◌<◌, ℕ, suc, true, List, ◌∷◌, Some, same_Some}
use Rattle.sbp_world.proofs.Words.Wire.{reading, as_sending, is_write, Sent, found_sent, Moment, said, Sending, terms}
use Rattle.sbp_world.proofs.Words.Laws.{Underway}
use Rattle.sbp_world.proofs.Words.World.{WorldState, Stands, IsResetting, TellsOfPresent, IsCalm, AreOpenFor, Ends, IsDoneNow, ends_by_reset, ends_by_sight, ends_by_state, ends_by_status, view}
use Rattle.sbp_journal.specs.declared.note.Note.TheVariants as notes
use Rattle.sbp_journal.specs.declared.operation.Operation.TheVariants as operations
use Rattle.sbp_world.proofs.Agents.Management.Holding.{was_sent}
use Rattle.sbp_world.proofs.Agents.Management.Still.{hist}
use Rattle.sbp_world.specs.Lists.Opened.{IsAnswered}
use Rattle.sbp_world.proofs.Lists.OpenedAnswers.{answers, complete_rcode, from_target, served_once, was_asked}
use Rattle.sbp_world.proofs.Lists.OpenedTurns.{NoneUp}

-- what the AGENT_RESET under way writes
abbrev pub ResetsWrite : List Moment → ℕ → Type 0
ResetsWrite H i = (underway : Underway) (packet : Sending) → (view H i).operation ≡ Some underway → underway.operation ≡ operations.AgentReset → (view H i).sent underway.first ≡ Some packet → is_write packet.bytes ≡ true

module _ {past : List Moment} (w : WorldState) (h : Stands past w) (i serial : ℕ) (sent : Sent) (found : found_sent serial w.store.kept ≡ Some sent) (calm : IsCalm (hist past w) i) (same : (view (hist past w) i).target ≡ (view (hist past w) i).own) (o : AreOpenFor (view (hist past w) i) w i) (writes : ResetsWrite (hist past w) i) where
  abbrev H : List Moment
  H = hist past w

  -- the packet that is got
  module _ (request value : ℕ) (a : IsAnswered H serial i request value) where
    packet_is : a.packet ≡ as_sending sent
    packet_is = same_Some a.packet (as_sending sent) (sym a.sent ∙ was_sent w h serial sent found)

    by_reset : IsResetting H i request → NoneUp w i
    by_reset r =
        let q = was_asked w h i serial sent found calm a.label request a.kind a.waited a.over in
        let first : (terms H).sent r.underway.first ≡ Some q.packet = ap (terms H).sent r.first ∙ q.sent_is in
        let code = complete_rcode (as_sending sent).bytes a.p value (ap (λ (x : Sending). reading x.bytes) (sym packet_is) ∙ a.spelled) a.complete in
        let one = served_once w h i serial sent found calm a.label request a.kind a.waited a.over q.packet q.sent_is (writes r.underway q.packet r.is r.resets first) code in
        o.resets (record {
          same = same;
          underway = r.underway;
          is = r.is;
          resets = r.resets;
          packet = q.packet;
          sent = first;
          to_target = q.to_target;
          served = subst (λ s. 0 < (terms H).served s) (sym r.first) (let z = one in omega (arith, z));
        })

  by_state : (request : ℕ) → IsAnswered H serial i request 0 → TellsOfPresent H i request → NoneUp w i
  by_state request a t =
      o.states t.list t.present (record {
        same = same;
        serial = request;
        list = t.told;
        reply = serial;
        packet = a.packet;
        sent = a.sent;
        from_target = ap (λ (x : Sending). x.from) (packet_is request 0 a) ∙ from_target w h i serial sent found calm a.label request a.kind a.waited a.over;
        answers = answers w h i serial sent found calm a.label request a.kind a.waited a.over;
        p = a.p;
        spelled = a.spelled;
        reset = a.complete;
      })

  by_status : IsDoneNow H serial i → NoneUp w i
  by_status d =
      o.cuts (record {
        same = same;
        underway = d.underway;
        is = d.is;
        manages = d.manages;
        cuts = d.cuts;
        serial = serial;
        packet = d.packet;
        sent = d.sent;
        to_own = d.to_own;
        current = d.current;
        fresh = d.fresh;
        done = d.done;
      })

  -- the turn began so
  serial_is : (s : ℕ) (earlier : List Moment) → said (notes.Got s) ∷ earlier ≡ said (notes.Got serial) ∷ H → s ≡ serial
  serial_is s earlier e = cc

  earlier_is : (s : ℕ) (earlier : List Moment) → said (notes.Got s) ∷ earlier ≡ said (notes.Got serial) ∷ H → earlier ≡ H
  earlier_is s earlier e = cc

  never_by : (now : List Moment) → now ≡ said (notes.Got serial) ∷ H → Ends now i → NoneUp w i
  never_by now e (ends_by_reset s earlier got request value a r) =
      let f = sym got ∙ e in
      let k = earlier_is s earlier f in
      by_reset request value (subst (λ n. IsAnswered H n i request value) (serial_is s earlier f) (subst (λ ms. IsAnswered ms s i request value) k a)) (subst (λ ms. IsResetting ms i request) k r)
  never_by now e (ends_by_state s earlier got request a t) =
      let f = sym got ∙ e in
      let k = earlier_is s earlier f in
      by_state request (subst (λ n. IsAnswered H n i request 0) (serial_is s earlier f) (subst (λ ms. IsAnswered ms s i request 0) k a)) (subst (λ ms. TellsOfPresent ms i request) k t)
  never_by now e (ends_by_status s earlier got d) =
      let f = sym got ∙ e in
      by_status (subst (λ n. IsDoneNow H n i) (serial_is s earlier f) (subst (λ ms. IsDoneNow ms s i) (earlier_is s earlier f) d))
  never_by now e (ends_by_sight generation earlier seen l) = absurd (differ (sym seen ∙ e))
    where
      differ : said (notes.Seen (suc i) generation) ∷ earlier ≡ said (notes.Got serial) ∷ H → ⊥
      differ f = cc

  pub never : Ends (said (notes.Got serial) ∷ H) i → NoneUp w i
  never e = never_by (said (notes.Got serial) ∷ H) refl e
