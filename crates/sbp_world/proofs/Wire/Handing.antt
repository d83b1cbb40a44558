-- What a node hands out in a call is a list of moves of the wire: what it tells, then its answer, then what it asks.
use Rattle.sbp_world.proofs.Words.Std.{sym, ◌∙◌, subst, upd}
use Rattle.sbp_world.proofs.Words.Wire.{Packet, Layer, Finding, of_generation, of_grammar, of_label, of_response, of_again, of_request, answering_step, Sent, bare, bare_finding, may_ignore, AreSmall, ArePlainSides, IsAnswering, IsAsking, IsDelivery, answer_to, judged_for, layer_after, Node, Reply, as_before, as_decided, as_sending, decided, due_for, first_note, Moment, OutboxState, Cause, Judged, Note, Outgoing, judged_note}
use Rattle.sbp_world.proofs.Words.World.{handed_out, leaves, sent_all, told_all, WorldState, with_note, StandsAt}
use Rattle.std.specs.Prelude.{◌≡◌, ◌≤◌, ◌<◌, ℕ, true, List, [], ◌∷◌, length, Option, Some, None, refl}
use Rattle.sbp_journal.specs.declared.cause.Cause.TheVariants as causes
use Rattle.sbp_journal.specs.declared.cause.Judged.TheVariants as judgements
use Rattle.sbp_world.proofs.Wire.Alike.{IsAlike, sent_alike, told_alike}
use Rattle.sbp_world.proofs.Wire.Asks.{asking_goes, given_up, known_still, relayered, upd_own, upd_twice}
use Rattle.sbp_world.proofs.Wire.Deliver.{answers_one}
use Rattle.sbp_world.proofs.Wire.Found.{IsKnown}
use Rattle.sbp_world.proofs.Wire.Tells.{told_plain}

-- what a node asks, whose IDs these are, and that an initiator asks the target alone
pub record Knowing (known : ℕ → Type 0) (w : WorldState) (from : ℕ) : Type 0 where
  pub all : (id : ℕ) → known id → IsKnown w from id
  pub aims : (id : ℕ) (k : known id) → 0 < from → (all id k).node ≡ 0

pub knowing_still : {known : ℕ → Type 0} {from : ℕ} (w v : WorldState) → IsAlike w v → Knowing known w from → Knowing known v from
unfolding known_still
knowing_still {from = from} w v a k = record {
  all = λ id q. known_still w v from id a (k.all id q);
  aims = k.aims;
}

pub there_still : (w v : WorldState) (node : ℕ) → IsAlike w v → node ≤ length w.initiators → node ≤ length v.initiators
there_still w v node a l = subst (λ xs. node ≤ length xs) (sym a.initiators) l

-- ---- it asks
module _ {P : Type 0} {past : List Moment} {layers : ℕ → Node} (known : ℕ → Type 0) (w : WorldState) (from weight : ℕ) (there : from ≤ length w.initiators) (k : Knowing known w from) (before now : Layer P) (own : layers from ≡ bare before) (outbox : OutboxState) (plain : ArePlainSides outbox.sides) (small : AreSmall outbox.packets) where
  pub asks_out : IsAsking known before now outbox.packets → StandsAt past layers None w → StandsAt past (upd layers from (bare now)) None (handed_out from weight outbox w)
  asks_out a h =
      let v = told_all weight outbox.sides w in
      let alike = told_alike weight outbox.sides w in
      let now_known = knowing_still w v alike k in
      asking_goes v from (there_still w v from alike there) before own known now_known.all now_known.aims now outbox.packets a small (told_plain past weight outbox.sides w plain h)

-- ---- it answers
module _ {P : Type 0} {past : List Moment} {layers : ℕ → Node} (known : ℕ → Type 0) (w : WorldState) (serial : ℕ) (sent : Sent) (p : Packet) (reply : Reply) (there : sent.to ≤ length w.initiators) (k : Knowing known w sent.to) (before now : Layer P) (own : layers sent.to ≡ bare before) where
  answering_goes : (packets : List Outgoing) → AreSmall packets → IsAnswering known reply p sent.bytes before now packets → StandsAt past layers (Some (record { serial = serial; request = as_sending sent; packet = p; reply = reply })) w → StandsAt past (upd layers sent.to (bare now)) None (sent_all sent.to packets w)
  unfolding sent_all
  answering_goes packets small a h =
      let left = layer_after before a.left in
      let answer = answering_step left p sent.bytes a.rcode a.given in
      let v = leaves sent.to (answer_to p answer.0) w in
      let sizes : AreSmall (answer_to p answer.0 ∷ a.more) = subst AreSmall (sym a.packets_are) small in
      let alike = sent_alike sent.to (answer_to p answer.0) w in
      let now_known = knowing_still w v alike k in
      let left_layers : ℕ → Node = upd layers sent.to (bare left) in
      let gone = given_up w sent.to there before own known k.all k.aims a.left a.may_leave h in
      let one = answers_one w serial sent p reply gone there left (upd_own layers sent.to (bare left)) a.rcode a.given a.valid sizes.0 a.stated a.gives in
      let more = asking_goes v sent.to (there_still w v sent.to alike there) answer.1 (upd_own left_layers sent.to (bare answer.1)) known now_known.all now_known.aims now a.more a.asks sizes.1 one in
      subst (λ ps. StandsAt past (upd layers sent.to (bare now)) None (sent_all sent.to ps w)) a.packets_are
      (relayered (sent_all sent.to a.more v) more (λ n l. upd_twice left_layers sent.to (bare answer.1) (bare now) n ∙ upd_twice layers sent.to (bare left) (bare now) n))

-- ---- a delivery, by what the packet is found to be
judged_decided : (cause : Option Cause) (serial : ℕ) → judged_note serial (judged_for cause) ≡ decided cause serial
judged_decided None serial = refl
judged_decided (Some cause) serial = refl

module _ {P : Type 0} (past : List Moment) (layers : ℕ → Node) (known : ℕ → Type 0) (w : WorldState) (serial : ℕ) (sent : Sent) (there : sent.to ≤ length w.initiators) (k : Knowing known w sent.to) (judged : Judged) (before now : Layer P) (outbox : OutboxState) (plain : ArePlainSides outbox.sides) (small : AreSmall outbox.packets) where
  abbrev left : ℕ → Node
  left = upd layers sent.to (bare before)

  abbrev judged_world : Judged → WorldState
  judged_world j = with_note (judged_note serial j) w

  abbrev Judges : Finding P → Type 0
  Judges f = (cause : Option Cause) → may_ignore cause ≡ true → StandsAt past left (due_for (bare_finding f) cause serial (as_sending sent)) (with_note (first_note (bare_finding f) cause serial) w)

  abbrev Goes : Type 0
  Goes = StandsAt past (upd layers sent.to (bare now)) None (handed_out sent.to 0 outbox (judged_world judged))

  silent : (j : Judged) → judged ≡ j → now ≡ before → outbox.packets ≡ [] → StandsAt past left None (judged_world j) → Goes
  unfolding sent_all
  silent j e same none h =
      subst (λ x. StandsAt past (upd layers sent.to (bare now)) None (handed_out sent.to 0 outbox (judged_world x))) (sym e)
      (subst (λ ps. StandsAt past (upd layers sent.to (bare now)) None (sent_all sent.to ps (told_all 0 outbox.sides (judged_world j)))) (sym none)
      (subst (λ (l : Layer P). StandsAt past (upd layers sent.to (bare l)) None (told_all 0 outbox.sides (judged_world j))) (sym same)
      (told_plain past 0 outbox.sides (judged_world j) plain h)))

  closes : (j : Judged) → judged ≡ j → IsAsking known before now outbox.packets → StandsAt past left None (judged_world j) → Goes
  closes j e a h =
      subst (λ x. StandsAt past (upd layers sent.to (bare now)) None (handed_out sent.to 0 outbox (judged_world x))) (sym e)
      (relayered (handed_out sent.to 0 outbox (judged_world j))
      (asks_out known (judged_world j) sent.to 0 there (record { all = k.all; aims = k.aims }) before now (upd_own layers sent.to (bare before)) outbox plain small a h)
      (λ n l. upd_twice layers sent.to (bare before) (bare now) n))

  answers : (j : Judged) (p : Packet) (reply : Reply) → judged ≡ j → IsAnswering known reply p sent.bytes before now outbox.packets → StandsAt past left (Some (record { serial = serial; request = as_sending sent; packet = p; reply = reply })) (judged_world j) → Goes
  answers j p reply e a h =
      let u = told_all 0 outbox.sides (judged_world j) in
      let alike = told_alike 0 outbox.sides (judged_world j) in
      subst (λ x. StandsAt past (upd layers sent.to (bare now)) None (handed_out sent.to 0 outbox (judged_world x))) (sym e)
      (relayered (sent_all sent.to outbox.packets u)
      (answering_goes known u serial sent p reply (there_still (judged_world j) u sent.to alike there) (knowing_still (judged_world j) u alike (record { all = k.all; aims = k.aims })) before now (upd_own layers sent.to (bare before)) outbox.packets small a (told_plain past 0 outbox.sides (judged_world j) plain h))
      (λ n l. upd_twice layers sent.to (bare before) (bare now) n))

  pub delivery_goes : (f : Finding P) → Judges f → IsDelivery known f judged sent.bytes before now outbox.packets → Goes
  delivery_goes of_generation h d = silent (judgements.Ignored causes.Generation) d.judged_is d.layer_is d.packets_are (h None refl)
  delivery_goes of_grammar h d = silent (judgements.Ignored causes.Grammar) d.judged_is d.layer_is d.packets_are (h None refl)
  delivery_goes of_label h d = silent (judgements.Ignored causes.Label) d.judged_is d.layer_is d.packets_are (h None refl)
  delivery_goes (of_response p label purpose) h d = closes judgements.Got d.judged_is d.asks (h None refl)
  delivery_goes (of_again p rcode) h d = answers (judgements.Ignored causes.Again) p (as_before rcode) d.judged_is d.answers (h None refl)
  delivery_goes (of_request p) h d =
      answers (judged_for d.cause) p (as_decided d.cause) d.judged_is d.answers
      (subst (λ (n : Note). StandsAt past left (Some (record { serial = serial; request = as_sending sent; packet = p; reply = as_decided d.cause })) (with_note n w)) (sym (judged_decided d.cause serial)) (h d.cause d.may))
