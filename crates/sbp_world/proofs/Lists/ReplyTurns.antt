-- A turn of the target: a response that waits was there before, and the operation that waits for its answer is as it was; or the operation sent it now.
use Rattle.sbp_world.proofs.Words.Std.{arith, ◌≡◌, ◌∙◌, sym, ap, subst, ◌⊎◌, inl, inr, ℕ, suc, ◌<◌, Bool, true, List, [], ◌∷◌, ◌++◌, map, Option, Some, same_Some}
use Rattle.sbp_world.proofs.Words.Wire.{SerialsCount, Moment, said, Sending, part_of, request, writing, terms, Note}
use Rattle.sbp_world.proofs.Words.Target.{Operation, Disk}
use Rattle.sbp_world.proofs.Words.Laws.{id_for, receiver_in, target_at}
use Rattle.sbp_world.proofs.Words.World.{more_deliveries, Scene, WorldState, initiator_at, HasGivenUp, IsHandling, IsManaged, IsTelling, AllOf, IsInAPlace, AreReplied, IsReplied, IsReplying, is_responding, IsTaken}
use Rattle.bus_transactions.proofs.Reaches.{goes_on}
use Rattle.sbp_world.proofs.Hosts.Hosted.{Cored}
use Rattle.sbp_world.proofs.Hosts.Remaining.{serials_behind}
use Rattle.mgmt_agent.specs.declared.operation.Phase.{Phase}
use Rattle.mgmt_agent.specs.declared.operation.Phase.TheVariants as phases
use Rattle.mgmt_agent.specs.Machine.{Machine}
use Rattle.sbp_journal.specs.declared.note.Note.TheVariants as notes
use Rattle.sbp_world.proofs.Agents.Management.Holding.{Holding}
use Rattle.sbp_world.proofs.Agents.Management.Still.{hist}
use Rattle.sbp_world.proofs.Lists.Courses.{Goes, by_delivery, by_end, by_line, by_start}
use Rattle.sbp_world.proofs.Lists.Judging.{counts_at}
use Rattle.sbp_world.proofs.Lists.LiveCalled.{Begins, not_begun, taken_on}
use Rattle.sbp_world.proofs.Lists.LiveLeads.{NewTelling, OldTelling, Opening, first_opens, hands_before, opening_telling, opening_then, sends_telling, told_calm}
use Rattle.sbp_world.proofs.Lists.LiveRuns.{base_of}
use Rattle.sbp_world.proofs.Lists.LiveTaken.{handled_open, silent_open}
use Rattle.sbp_world.proofs.Lists.LiveTogether.{turn_begins}
use Rattle.sbp_world.proofs.Lists.LiveTold.{is_behind, is_first, is_own_packet}
use Rattle.sbp_world.proofs.Lists.ManageMoments.{Hands}
use Rattle.sbp_world.proofs.Lists.ManageOffices.{office_at}
use Rattle.sbp_world.proofs.Lists.ManageReplies.{GoesOn}
use Rattle.sbp_world.proofs.Lists.ManageTerms.{none_is, same_some}
use Rattle.sbp_world.proofs.Lists.OrbsInPlace.{of_request}
use Rattle.sbp_world.proofs.Lists.Replying.{first_replying, line_replying, told_replying}
use Rattle.sbp_world.proofs.Lists.ReplyOffices.{Ends, Stays, answers, begins as begins_one, ends, gone, line_stays, same as stays_same, stays, stays_self}
use Rattle.sbp_world.proofs.Lists.ReplySends.{NewReply, sends_reply}
use Rattle.sbp_world.proofs.Common.{untrue}

pub responds_open : (phase : Phase) → is_responding phase ≡ true → phase ≡ phases.Status → ⊥
responds_open phase e f = let no : is_responding phases.Status ≡ true = ap is_responding (sym f) ∙ e in untrue no

-- ---- how a turn begins

pub begins_replying : (start : List Disk) (past : List Moment) (s : Scene) (later : List Moment) (t : Scene) (g : Goes past s later t) (i : ℕ) → Hands start i (map said (base_of g) ++ later) → (serial : ℕ) → IsReplying start (map said (base_of g) ++ later) i serial → IsReplying start (hist past s.world) i serial
begins_replying start past s later t (by_line past0 s0 line event told one fit may) i h serial a = line_replying start i line event (hist past s.world) h.0 serial a
begins_replying start past s later t (by_start past0 s0 line most) i h serial a = line_replying start i line (more_deliveries most) (hist past s.world) h.0 serial a
begins_replying start past s later t (by_delivery past0 s0 one may no_acts) i h serial a = a
begins_replying start past s later t (by_end past0 s0 done) i h serial a = a

pub begins_stays : (start : List Disk) (past : List Moment) (s : Scene) (later : List Moment) (t : Scene) (g : Goes past s later t) → Stays (office_at start (hist past s.world)) (office_at start (map said (base_of g) ++ later))
begins_stays start past s later t (by_line past0 s0 line event told one fit may) = line_stays start line event (hist past s.world)
begins_stays start past s later t (by_start past0 s0 line most) = line_stays start line (more_deliveries most) (hist past s.world)
begins_stays start past s later t (by_delivery past0 s0 one may no_acts) = stays_self (office_at start (hist past s.world))
begins_stays start past s later t (by_end past0 s0 done) = stays_self (office_at start (hist past s.world))

pub serials_in : (ns : List Note) (base : List Moment) → SerialsCount (map said ns ++ base) → SerialsCount base
serials_in [] base c = c
serials_in (note ∷ ns) base c = serials_in ns base (serials_behind (said note) (map said ns ++ base) c)

-- the generations and the ID of the node, as the target knows it, are as they were
pub record SameNode (before now : List Moment) (i : ℕ) : Type 0 where
  pub zero : (terms now).generation 0 ≡ (terms before).generation 0
  pub own : (terms now).generation (suc i) ≡ (terms before).generation (suc i)
  pub id : id_for (terms now) 0 (suc i) ≡ id_for (terms before) 0 (suc i)

-- ---- a request that the operation of the target for the node waits for was sent to it
module _ (units ready : ℕ) (start : List Disk) {past : List Moment} {lines : ℕ} (w : WorldState) (h : Holding units ready start past lines w) (i : ℕ) (op : Operation) (own : ℕ) (operation : (target_at start (hist past w)).manager.operation ≡ Some op) (manages : (target_at start (hist past w)).manages ≡ Some own) (source : op.source ≡ id_for (terms (hist past w)) 0 (suc i)) where
  abbrev was : List Moment
  was = hist past w

  apart : (generation one other : ℕ) → (terms was).ids generation one ≡ (terms was).ids generation other → one ≡ other
  apart generation one other e =
      let stands = h.sound.stands in
      goes_on.apart stands.wire generation one other stands.reached (ap (λ ms. (terms ms).ids generation one) stands.is.past_is ∙ e ∙ sym (ap (λ ms. (terms ms).ids generation other) stands.is.past_is))

  pub asks_it : (asking : Sending) → (terms was).sent own ≡ Some asking → asking.to ≡ suc i
  asks_it asking e =
      let r = of_request units ready start w h op own operation manages in
      let peer : r.peer ≡ suc i = apart ((terms was).generation 0) r.peer (suc i) (sym r.source ∙ source) in
      same_Some asking.to (suc i) (sym (ap receiver_in e) ∙ r.to ∙ ap Some peer)

-- ---- the turn

module _ (units ready : ℕ) (start : List Disk) (past : List Moment) (s : Scene) (later : List Moment) (t : Scene) {lines more : ℕ} (g : Goes past s later t) (h : Holding units ready start past lines s.world) (h_now : Holding units ready start later more t.world) (i : ℕ) where
  abbrev w : WorldState
  w = s.world

  abbrev v : WorldState
  v = t.world

  abbrev before : List Moment
  before = hist past w

  abbrev now : List Moment
  now = hist later v

  abbrev base : List Moment
  base = map said (base_of g) ++ later

  module _ (first : Note) (sends told : List Note) (are_sent : AllOf is_own_packet sends) (are_told : AllOf is_behind told) (one : is_first first ≡ true) (keyed : (unit : ℕ) → first ≡ notes.Key unit → sends ≡ []) where
    abbrev opened : List Moment
    opened = said first ∷ base

    abbrev mid : List Moment
    mid = map said told ++ opened

    abbrev N : List Moment
    N = map said sends ++ mid

    module _ (now_is : now ≡ N) (hands : Hands start i N) (managed : IsManaged start before i) (managed_now : IsManaged start N i) (is_ready later_ready : Bool) (cored : Cored is_ready before i (initiator_at w i)) (cored_now : Cored later_ready N i (initiator_at w i)) (up : HasGivenUp N i → ⊥) (bus : (op : Operation) → (target_at start N).manager.operation ≡ Some op → SameNode before N i) (placed : (op : Operation) → (target_at start N).manager.operation ≡ Some op → op.source ≡ id_for (terms N) 0 (suc i) → IsInAPlace op) where
      counts : SerialsCount N
      counts = subst SerialsCount now_is (counts_at v h_now.sound.stands)

      counts_mid : SerialsCount mid
      counts_mid = serials_in sends mid counts

      hands_mid : Hands start i mid
      hands_mid = hands_before start i sends mid hands

      hands_opened : Hands start i opened
      hands_opened = hands_before start i told opened hands_mid

      begins : Begins start before base i
      begins = turn_begins start i past s later t g hands_opened.1

      opening : Opening start before mid i
      opening = opening_then (first_opens start i before base begins.calm begins.manager (first ∷ []) one hands_opened) (told_calm start i told opened are_told hands_mid)

      handling : (op : Operation) → (target_at start N).manager.operation ≡ Some op → (terms N).generation 0 ≡ (terms N).generation (suc i) → op.source ≡ id_for (terms N) 0 (suc i) → (p : IsInAPlace op) → IsHandling start N i p.place op
      handling op is same source p = record { same = same; is = is; source = source; small = p.small; orb = p.orb }

      -- ---- one that waited
      module _ (serial : ℕ) (waiting : IsReplying start base i serial) (r : IsReplied start before i serial) where
        taken : IsTaken start N i
        taken = taken_on start before base i begins sends told (first ∷ []) are_sent are_told one hands (initiator_at w i) is_ready later_ready cored cored_now managed r.taken

        abbrev Waits : Operation → Type 0
        Waits op = (is_responding op.phase ≡ true) × ((target_at start N).manages ≡ Some serial)

        module _ (op : Operation) (is : (target_at start N).manager.operation ≡ Some op) (same : (terms N).generation 0 ≡ (terms N).generation (suc i)) (source : op.source ≡ id_for (terms N) 0 (suc i)) where
          same_then : (terms before).generation 0 ≡ (terms before).generation (suc i)
          same_then = sym (bus op is).zero ∙ same ∙ (bus op is).own

          source_then : op.source ≡ id_for (terms before) 0 (suc i)
          source_then = source ∙ (bus op is).id

          -- as it stood
          by_same : (target_at start base).manager ≡ (target_at start before).manager → (target_at start base).manages ≡ (target_at start before).manages → (target_at start N).manager ≡ (target_at start base).manager → (target_at start N).manages ≡ (target_at start base).manages → Waits op
          by_same a b c d =
              let k = r.waits op (ap (λ (m : Machine). m.operation) (sym a ∙ sym c) ∙ is) same_then source_then in
              (k.0, d ∙ b ∙ k.1)

          by_stays : Stays (office_at start before) (office_at start base) → Stays (office_at start base) (office_at start N) → Waits op
          by_stays (stays_same a b q) (stays_same c d p) = by_same a b c d
          by_stays (gone e) (stays_same c d p) = none_is op (sym (ap (λ (m : Machine). m.operation) c ∙ e) ∙ is)
          by_stays x (gone e) = none_is op (sym e ∙ is)

          -- no answer to it was got
          by_answer : Stays (office_at start before) (office_at start base) → (own : ℕ) → (target_at start base).manages ≡ Some own → GoesOn (target_at start base).manager.operation op → ((asking : Sending) → (terms base).sent own ≡ Some asking → asking.to ≡ suc i → (l : ℕ) → part_of asking.bytes ≡ request l writing → 0 < (terms base).news own) → (terms base).sent ≡ (terms before).sent → ⊥
          by_answer (stays_same a b q) own m k judged sent =
              let was_is : (target_at start before).manager.operation ≡ Some k.was = ap (λ (x : Machine). x.operation) (sym a) ∙ k.is in
              let was_source : k.was.source ≡ id_for (terms before) 0 (suc i) = k.source ∙ source_then in
              let manages : (target_at start before).manages ≡ Some serial = (r.waits k.was was_is same_then was_source).1 in
              let own_is : own ≡ serial = same_Some own serial (sym m ∙ b ∙ manages) in
              let there : (terms base).sent own ≡ Some waiting.packet = ap (terms base).sent own_is ∙ waiting.sent in
              let was_sent : (terms before).sent serial ≡ Some waiting.packet = ap (λ (f : ℕ → Option Sending). f serial) (sym sent) ∙ waiting.sent in
              let to = asks_it units ready start w h i k.was serial was_is manages was_source waiting.packet was_sent in
              let more = judged waiting.packet there to waiting.label waiting.part in
              let zero = waiting.unjudged in
              let same_news = ap (terms base).news own_is in
              omega (arith, more, zero, same_news)
          by_answer (gone e) own m k judged sent = none_is k.was (sym e ∙ k.is)

          at_end : Ends start i base N → (terms base).sent ≡ (terms before).sent → Waits op
          at_end (stays x) sent = by_stays (begins_stays start past s later t g) x
          at_end (answers own m k judged) sent = absurd (by_answer (begins_stays start past s later t g) own m (k op is) judged sent)
          at_end (begins_one e) sent =
              let p = placed op is source in
              absurd (not_begun start before base i begins sends told (first ∷ []) are_sent are_told one hands managed (ap (λ (m : Machine). m.operation) (sym begins.manager) ∙ e) p.place op (handling op is same source p) r.taken)

        waits : (terms base).sent ≡ (terms before).sent → (op : Operation) → (target_at start N).manager.operation ≡ Some op → (terms N).generation 0 ≡ (terms N).generation (suc i) → op.source ≡ id_for (terms N) 0 (suc i) → Waits op
        waits sent op is same source = at_end op is same source (ends start i base sends told are_sent are_told first keyed one hands_opened.0) sent

        still : (terms base).sent ≡ (terms before).sent → IsReplied start N i serial
        still sent = record {
          taken = taken;
          silent = λ other place x. silent other place x (sends_telling start i sends mid are_sent hands other place x);
          waits = waits sent;
        }
          where
            silent : (other place : ℕ) → IsTelling start N i other place → OldTelling start mid N i other place ⊎ NewTelling start N i other place → ⊥
            silent other place x (inl o) = r.silent other place (opening_telling opening other place o.telling)
            silent other place x (inr n) = responds_open n.op.phase (waits sent n.op n.is n.same n.source).0 n.status

      -- ---- one that is sent now
      fresh : (serial : ℕ) → NewReply start N i serial → IsReplied start N i serial
      fresh serial n =
          let p = placed n.op n.is n.source in
          let handled = handling n.op n.is n.same n.source p in
          record {
            taken = (handled_open start N i managed_now up p.place n.op handled (responds_open n.op.phase n.responds)).taken;
            silent = λ other place x. silent_open start N i managed_now up p.place n.op handled (responds_open n.op.phase n.responds) other place x;
            waits = λ op is same source. (let e = same_some n.op op (sym n.is ∙ is) in (ap (λ (x : Operation). is_responding x.phase) (sym e) ∙ n.responds, n.manages));
          }

      pub replied_there : (terms base).sent ≡ (terms before).sent → AreReplied start before i → AreReplied start N i
      replied_there sent r serial a = by (sends_reply start i sends mid are_sent hands serial a)
        where
          old : IsReplying start mid i serial → IsReplied start N i serial
          old x =
              let at_opened : IsReplying start opened i serial = told_replying start i told opened counts_mid are_told serial x in
              let at_base : IsReplying start base i serial = first_replying start i (first ∷ []) base (serials_in told opened counts_mid) one serial at_opened in
              still serial at_base (r serial (begins_replying start past s later t g i hands_opened.1 serial at_base)) sent

          by : IsReplying start mid i serial ⊎ NewReply start N i serial → IsReplied start N i serial
          by (inl x) = old x
          by (inr n) = fresh serial n
