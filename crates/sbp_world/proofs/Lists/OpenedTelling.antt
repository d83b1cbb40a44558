-- What the target answers in a delivery leaves no agent out of RESET: as it serves the AGENT_RESET that is under way, and as it answers RESET to a read of
-- AGENT_STATE that says something of the present list.
use Rattle.sbp_world.proofs.Words.Std.{arith, ◌≡◌, ◌⊎◌, inl, inr, ◌∙◌, refl, sym, ap, subst, ◌<◌, ◌≤◌, ◌+◌, ◌%◌, ◌^◌, ℕ, suc, nat_eq, Bool, true, false, cond, List, [], ◌∷◌, ◌++◌, map, Option, Some, None, nat_tests, false≢true, same_Some}
use Rattle.sbp_world.proofs.Words.Wire.{Packet, as_sending, Finding, judging_step, of_again, of_generation, of_grammar, of_label, of_request, of_response, Sent, found_sent, judged_note, Moment, said, Sending, Transaction, asked_by, Terms, arrives, ignores_that, is_news, judges, judges_if, terms, Cause, Judged, Note, Operation}
use Rattle.sbp_world.proofs.Words.Target.{Disk, Told, address_error, Purpose, NodeState, judged_scene, received, received_as, with_layer, Whole, scene_of, answered, is_barred, serve}
use Rattle.sbp_world.proofs.Words.Laws.{Underway, access_in_bytes, cuts_list, running_operation}
use Rattle.sbp_world.proofs.Words.World.{register_read, register_write, whole_of, holder, Scene, WorldState, AreHeldAt, AreOthers, IsCalm, AllOf, AreOpenFor, IsServedReset, IsToldReset, IsUp, of_rest, view}
use Rattle.bus_transactions.proofs.FitJudged.{found_as}
use Rattle.label_table.proofs.Answered.{judging_stays}
use Rattle.sbp_journal.specs.declared.cause.Cause.TheVariants as causes
use Rattle.sbp_journal.specs.declared.cause.Judged.TheVariants as judgements
use Rattle.sbp_target.proofs.Histories.Found as looks
use Rattle.sbp_target.specs.Serving.{request_step}
use Rattle.sbp_world.proofs.Wire.Nodes.{handed_alike}
use Rattle.sbp_world.proofs.Agents.Management.Holding.{Holding, ours, was_sent}
use Rattle.sbp_world.proofs.Agents.Management.Still.{hist}
use Rattle.sbp_world.proofs.Lists.Generations.{is_sight}
use Rattle.sbp_world.proofs.Lists.OpenCuts.{Listing}
use Rattle.sbp_world.proofs.Lists.OpenedAddresses.{IsBase}
use Rattle.sbp_world.proofs.Lists.OpenedAside.{Kept, got, ignored_that}
use Rattle.sbp_world.proofs.Lists.OpenedDelivers.{delivery_up, end, good, marks, told, turn}
use Rattle.sbp_world.proofs.Lists.OpenedFirst.{generation_same, is_first, lists_same, operation_same}
use Rattle.sbp_world.proofs.Lists.OpenedHosts.{IsSame}
use Rattle.sbp_world.proofs.Lists.OpenedMoments.{all_same, all_weaker, of_target, target_rest}
use Rattle.sbp_world.proofs.Lists.OpenedNotes.{Behind, target_handed}
use Rattle.sbp_world.proofs.Lists.OpenedReplies.{Answering, begins_answering, comes_owes, handed_answering}
use Rattle.sbp_world.proofs.Lists.OpenedResets.{closes, pointed_base}
use Rattle.sbp_world.proofs.Lists.OpenedStates.{IsIn, tells_not}
use Rattle.sbp_world.proofs.Lists.OpenedTargets.{Telling}
use Rattle.sbp_world.proofs.Lists.OpenedTurns.{Grown, IsTelling, NoneUp, Opens, WasUp}
use Rattle.sbp_world.proofs.Lists.OpenedWorlds.{Here, Then, grown_turn, turn_is, wired}

-- ---- what is ignored, but for the cause slot, is not served
abbrev NotSlot : Judged → Type 0
NotSlot judgements.Got = Unit {0}
NotSlot (judgements.Ignored causes.Slot) = ⊥
NotSlot (judgements.Ignored cause) = Unit {0}

judged_served : (s serial : ℕ) (u : Option Transaction) (cause : Option Cause) (packet : Sending) (t : Terms) → (judges u cause serial packet t).served s ≡ t.served s
judged_served s serial None cause packet t = refl
judged_served s serial (Some u) cause packet t = refl

judged_if_served : (s serial : ℕ) (b : Bool) (u : Option Transaction) (packet : Sending) (t : Terms) → (judges_if b u serial packet t).served s ≡ t.served s
judged_if_served s serial true u packet t = judged_served s serial u (Some causes.Grammar) packet t
judged_if_served s serial false u packet t = refl

ignored_served : (s serial : ℕ) (so : Option Sending) (cause : Cause) (t : Terms) → NotSlot (judgements.Ignored cause) → (ignores_that so cause serial t).served s ≡ t.served s
ignored_served s serial None cause t k = refl
ignored_served s serial (Some packet) causes.Generation t k = refl
ignored_served s serial (Some packet) causes.Grammar t k = judged_if_served s serial _ (asked_by packet) packet (is_news serial (arrives serial t))
ignored_served s serial (Some packet) causes.Label t k = refl
ignored_served s serial (Some packet) causes.Again t k = judged_served s serial (asked_by packet) (Some causes.Again) packet (arrives serial t)
ignored_served s serial (Some packet) causes.Source t k = judged_served s serial (asked_by packet) (Some causes.Source) packet (is_news serial (arrives serial t))
ignored_served s serial (Some packet) causes.Login t k = judged_served s serial (asked_by packet) (Some causes.Login) packet (is_news serial (arrives serial t))
ignored_served s serial (Some packet) causes.Slot t k = absurd k

served_got : (x : Judged) → NotSlot x → (H : List Moment) (s serial : ℕ) → (terms H).served s ≡ 0 → 0 < (terms (said (judged_note serial x) ∷ H)).served s → x ≡ judgements.Got
served_got judgements.Got k H s serial z l = refl
served_got (judgements.Ignored cause) k H s serial z l = absurd (let e = ignored_served s serial ((terms H).sent serial) cause (terms H) k in omega (arith, e, z, l))

-- one packet is served
judged_kept : (s serial : ℕ) → nat_eq s serial ≡ false → (x : Judged) (H : List Moment) → Kept s (terms H) (terms (said (judged_note serial x) ∷ H))
judged_kept s serial apart judgements.Got H = got s serial apart ((terms H).sent serial) (terms H)
judged_kept s serial apart (judgements.Ignored cause) H = ignored_that s serial apart ((terms H).sent serial) cause (terms H)

-- and the target ignores no packet with that cause
barred_not : (b : Bool) (q : Packet) (bytes : List ℕ) (all : Whole) → NotSlot (judged_scene (cond b (judgements.Ignored causes.Login, answered q bytes address_error [] (scene_of all)) (judgements.Got, serve q bytes (scene_of all))) all).0
barred_not true q bytes all = tt
barred_not false q bytes all = tt

found_not : (run : Option Told) (bytes : List ℕ) (f : Finding Purpose) (all : Whole) → NotSlot (received_as run bytes f all).0
unfolding request_step
found_not run bytes of_generation all = tt
found_not run bytes of_grammar all = tt
found_not run bytes of_label all = tt
found_not run bytes (of_response p label purpose) all = tt
found_not run bytes (of_again p rcode) all = tt
found_not run bytes (of_request p) all = barred_not (is_barred all.node p) p bytes all

pub judged_first : (serial : ℕ) (j : Judged) → is_first (said (judged_note serial j)) ≡ true
judged_first serial judgements.Got = refl
judged_first serial (judgements.Ignored cause) = refl

pub judged_still : (serial node : ℕ) (j : Judged) → is_sight node (said (judged_note serial j)) ≡ false
judged_still serial node judgements.Got = refl
judged_still serial node (judgements.Ignored cause) = refl

-- ---- a delivery to the target
module _ (units logins : ℕ) (has : 0 < units) (start : List Disk) {past : List Moment} {lines : ℕ} (w : WorldState) (h : Holding units logins start past lines w) (held : AreHeldAt start (hist past w) w) (i : ℕ) (calm : IsCalm (hist past w) i) (here : Here (hist past w) w i) (o : AreOpenFor (view (hist past w) i) w i) (serial : ℕ) (sent : Sent) (found : found_sent serial w.store.kept ≡ Some sent) (zero_to : sent.to ≡ 0) (run : Option Told) (s : Scene) (again : Bool) (tells : AreOthers (turn units logins has start w h held serial sent found zero_to run s again).1.outbox.sides) where
  abbrev H : List Moment
  H = hist past w

  abbrev T : Judged × Whole
  T = turn units logins has start w h held serial sent found zero_to run s again

  abbrev u : WorldState
  u = told units logins has start w h held serial sent found zero_to run s again

  abbrev D : WorldState
  D = end units logins has start w h held serial sent found zero_to run s again

  b : Behind of_target u.fresh D.fresh
  b = target_handed 0 T.1.outbox u tells

  abbrev m : Moment
  m = said (judged_note serial T.0)

  abbrev now : List Moment
  now = map said b.more ++ m ∷ H

  same : now ≡ hist past D
  same = turn_is b.more (judged_note serial T.0) w.fresh D.fresh past (ap (λ ns. b.more ++ ns) (sym (marks units logins has start w h held serial sent found zero_to run s again).fresh) ∙ b.is)

  rest : AllOf of_rest b.more
  rest = all_weaker of_target of_rest target_rest b.more b.all

  generation : (node : ℕ) → (terms now).generation node ≡ (terms H).generation node
  generation node = generation_same i b.more m H b.all (judged_first serial T.0) node (judged_still serial node T.0)

  same_nodes : (view now i).target ≡ (view now i).own → (view H i).target ≡ (view H i).own
  same_nodes e = sym (generation 0) ∙ e ∙ generation (suc i)

  sent_is : (view H i).sent serial ≡ Some (as_sending sent)
  sent_is = was_sent w h.sound.stands serial sent found

  ups : (p : ℕ) → p < 8 → IsUp D i p → WasUp w D i p ⊎ Opens (view H i) (view (hist past D) i) i p (holder D p).list
  ups =
      delivery_up units logins has start w h held serial sent found zero_to run s again i calm here.rows
      (λ place address p. here.written serial (as_sending sent) place address sent_is p) b.more same

  end_up : (p : ℕ) → IsUp D i p → Listing T.1.node p
  end_up p up = subst (λ (n : NodeState). Listing n p) ((handed_alike 0 0 T.1.outbox u).target ∙ (marks units logins has start w h held serial sent found zero_to run s again).target) up.up

  -- an agent that was out of RESET is the one at which the present list was written
  old_base : (p : ℕ) → p < 8 → IsUp w i p → (view H i).target ≡ (view H i).own → IsBase ((here.agent + 8) % 2 ^ 48) p
  old_base p c up e =
      let f = o.each p c up in
      let a = here.pointer f.list f.serial f.packet (f.present e) f.pointed f.sent in
      pointed_base f.packet i p f.address here.agent a.0 f.at a.1

  abbrev F : Finding Purpose
  F = (judging_step w.target.layer sent.generation sent.bytes).0

  abbrev all : Whole
  all = with_layer (judging_step w.target.layer sent.generation sent.bytes).1 (whole_of w.target s.media)

  turn_as : T ≡ received_as run sent.bytes F all
  unfolding received
  turn_as = refl

  -- ---- AGENT_RESET
  module _ (r : IsServedReset (view now i)) (z : (view H i).served r.underway.first ≡ 0) where
    was : IsSame (view H i).operation r.underway
    was = operation_same i b.more m H b.all (judged_first serial T.0) r.underway r.is

    served : 0 < (terms (m ∷ H)).served r.underway.first
    served = subst (λ (g : ℕ → ℕ). 0 < g r.underway.first) (all_same b.more (m ∷ H) rest).served r.served

    first_is : r.underway.first ≡ serial
    first_is = by (nat_eq r.underway.first serial) refl
      where
        by : (c : Bool) → nat_eq r.underway.first serial ≡ c → r.underway.first ≡ serial
        by true e = grind (arith, nat_tests)
        by false e = absurd (let k = (judged_kept r.underway.first serial e T.0 H).served in let l = served in omega (arith, k, z, l))

    got_is : (received_as run sent.bytes F all).0 ≡ judgements.Got
    got_is = ap (λ (x : Judged × Whole). x.0) (sym turn_as) ∙ served_got T.0 (subst (λ (x : Judged × Whole). NotSlot x.0) (sym turn_as) (found_not run sent.bytes F all)) H r.underway.first serial z served

    writes : access_in_bytes sent.bytes ≡ Some (register_write here.agent 0x04)
    writes = here.reset was.was (as_sending sent) was.is (was.operation ∙ r.resets) (ap (view H i).sent (was.first ∙ first_is) ∙ sent_is)

    cut : cuts_list (running_operation (view H i).operation) ≡ true
    cut = ap (λ (q : Option Underway). cuts_list (running_operation q)) was.is ∙ ap (λ (q : Operation). cuts_list (Some q)) (was.operation ∙ r.resets)

    resets_by : (p : ℕ) → p < 8 → IsUp D i p → WasUp w D i p ⊎ Opens (view H i) (view (hist past D) i) i p (holder D p).list → ⊥
    resets_by p c up (inl old) =
        closes w.target (good units logins has start w h held).mid.size h.rom sent.bytes sent.generation run all refl refl p c here.agent writes (old_base p c old.was (same_nodes r.same)) F
        (looks.found w.target.layer sent.generation sent.bytes) got_is (subst (λ (x : Judged × Whole). Listing x.1.node p) turn_as (end_up p up))
    resets_by p c up (inr new) =
        let f = here.known.first new.serial new.packet p new.address new.sent new.at in
        let q = here.known.waits f.list new.serial new.packet f.pointed new.sent (new.current ∙ same_nodes r.same) new.fresh in
        false≢true (sym q.uncut ∙ cut)

    resets_none : NoneUp D i
    resets_none p c up = resets_by p c up (ups p c up)

  -- ---- a read of AGENT_STATE
  module _ (behind : Then (hist past D) i) (n : ℕ) (is : (view now i).present ≡ Some n) (r : IsToldReset (view now i) n) (l : (view H i).count < r.reply) where
    then : Then now i
    then = subst (λ ms. Then ms i) (sym same) behind

    grown : Grown (view H i) (view now i)
    grown = grown_turn i b.more m H (wired w h.sound.stands) then.serials then.rises

    answering : Answering (terms H).count serial T.1.outbox.packets (terms (hist past D))
    answering =
        let k = wired w h.sound.stands in
        handed_answering (terms H).count serial T.1.outbox.packets past T.1.outbox u refl tells
        (subst (λ (ns : List Note). Answering (terms H).count serial T.1.outbox.packets (terms (map said ns ++ past))) (sym (marks units logins has start w h held serial sent found zero_to run s again).fresh)
        (begins_answering (terms H).count serial T.1.outbox.packets (terms H) (terms (m ∷ H)) (comes_owes serial H T.0 k.quiet) k.unknown k.unanswered))

    answers : Answering (terms H).count serial T.1.outbox.packets (terms now)
    answers = subst (λ (ms : List Moment). Answering (terms H).count serial T.1.outbox.packets (terms ms)) (sym same) answering

    serial_is : r.serial ≡ serial
    serial_is = answers.answers r.reply r.serial l r.answers

    in_outbox : IsIn r.packet.bytes T.1.outbox.packets
    in_outbox = answers.sent r.reply r.packet l r.sent

    present_is : (view H i).present ≡ Some n
    present_is = sym (lists_same i b.more m H b.all (judged_first serial T.0)).present ∙ is

    below : serial ≤ (view H i).count
    below = grown.below serial (as_sending sent) sent_is

    list_is : (view H i).told serial ≡ Some n
    list_is = sym (grown.told serial below) ∙ (ap (view now i).told (sym serial_is) ∙ r.list)

    reads : access_in_bytes sent.bytes ≡ Some (register_read here.agent 0x00)
    reads = here.states n serial (as_sending sent) present_is list_is sent_is

    states_by : (p : ℕ) → p < 8 → WasUp w D i p ⊎ Opens (view H i) (view (hist past D) i) i p (holder D p).list → ⊥
    states_by p c (inl old) =
        tells_not w.target h.sound.nodes.target_holds.layer.small h.rom sent.bytes sent.generation (ours w h.sound.stands serial sent found).bytes run all refl refl (judging_stays w.target.layer sent.generation sent.bytes).node refl p here.agent reads
        (old_base p c old.was (same_nodes r.same)) old.was.up F r.packet.bytes (looks.found w.target.layer sent.generation sent.bytes)
        (found_as w.target.layer sent.generation sent.bytes h.sound.nodes.target_holds.layer.filter)
        (subst (λ (x : Judged × Whole). IsIn r.packet.bytes x.1.outbox.packets) turn_as in_outbox) (r.p, (r.spelled, r.reset))
    states_by p c (inr new) =
        let f = here.known.first new.serial new.packet p new.address new.sent new.at in
        let q = here.known.waits f.list new.serial new.packet f.pointed new.sent (new.current ∙ same_nodes r.same) new.fresh in
        let e : f.list ≡ n = same_Some f.list n (sym q.present ∙ present_is) in
        let j = here.known.judged serial n new.serial list_is (f.pointed ∙ ap Some e) in
        let y = new.fresh in
        omega (arith, j, y)

    states_none : NoneUp D i
    states_none p c up = states_by p c (ups p c up)

  telling_now : Then (hist past D) i → IsTelling (view H i) (view now i) D i
  telling_now behind = record {
    resets = λ r z p c up. resets_none r z p c up;
    states = λ n is r l p c up. states_none behind n is r l p c up;
  }

  pub tells_by : Then (hist past D) i → IsTelling (view H i) (view (hist past D) i) D i
  tells_by behind = subst (λ (ms : List Moment). IsTelling (view H i) (view ms i) D i) same (telling_now behind)

pub telling : (units logins : ℕ) (has : 0 < units) (start : List Disk) → Telling units logins has start
telling units logins has start past lines w h held i calm here o serial sent found zero_to run s again tells = tells_by units logins has start w h held i calm here o serial sent found zero_to run s again tells
