-- The runs that a delivery tells are those that are due, in every run, whoever sent the packet.
use Rattle.sbp_world.proofs.Words.Std.{◌≡◌, ◌∙◌, refl, sym, ap, subst, ℕ, zero, suc, ◌<◌, nat_eq, is_some, true, false, cond, List, [], ◌∷◌, length, Option, Some, None, arith, nat_tests, not-true}
use Rattle.sbp_world.proofs.Words.Wire.{LabelParts, Packet, header_in, AreJudged, ReplyKind, Finding, Layer, judging_step, of_again, of_generation, of_grammar, of_label, of_request, of_response, reply_kind, or_nobody, check_of, Cause, Note, Moment, said, Terms, terms}
use Rattle.sbp_world.proofs.Words.Target.{AgentStep, Machine, has_present, reply_step, Login, Table, is_live, place_at, Disk, Told, PlainDisk, Purpose, which_in, desk_at, login_at, answer_in, received, received_as, with_layer, plain_in, or_zero}
use Rattle.sbp_world.proofs.Words.Laws.{told_among, Run, runs_due, runs_in, unit_at, Orb, named, Target, initiator_at, initiator_with, node_in, over, target_at, unit_in, unit_of, turn}
use Rattle.sbp_world.proofs.Words.World.{Office, whole_of, holder, ticket_at, Scene, WorldState, IsHeld, name_in}
use Rattle.std.proofs.Common.{if◌then◌else◌}
use Rattle.sbp_journal.specs.declared.cause.Judged.TheVariants as judgements
use Rattle.sbp_journal.specs.declared.note.Note.TheVariants as notes
use Rattle.sbp_world.proofs.Agents.Management.Offices.{over_keeps}
use Rattle.sbp_laws.specs.Lists as lists
use Rattle.sbp_laws.specs.Targets.{told_of}
use Rattle.sbp_target.specs.declared.purpose.Purpose.TheVariants as purposes
use Rattle.sbp_target.proofs.Histories.Calling.{Good, not_eight}
use Rattle.sbp_target.proofs.Histories.Found.{IsFound, found as found_as}
use Rattle.sbp_target.proofs.Histories.Following.{IsServed}
use Rattle.sbp_world.proofs.Agents.CrewFirsts.{agrees}
use Rattle.sbp_world.proofs.Agents.Keeping.{given_in}
use Rattle.sbp_world.proofs.Agents.Management.Holding.{Holding}
use Rattle.sbp_world.proofs.Agents.Management.Still.{hist}
use Rattle.sbp_world.proofs.Agents.Mild.{reply_mild}
use Rattle.sbp_world.proofs.Agents.Purposes.{g}
use Rattle.sbp_world.proofs.Lists.DueRuns.{AtDelivery, list_same, manager_due, named_as, nobody_due, none_due, number_same, one_due, one_run, own_due, request_due, serve, unsolicited_due, inside}
use Rattle.sbp_world.proofs.Lists.DueTurns.{plain_runs}
use Rattle.sbp_world.proofs.Lists.OpenTurns.{listing_up}
use Rattle.sbp_world.proofs.Lists.RunOutcomes.{listed}
use Rattle.sbp_world.proofs.Lists.RunTells.{ran_as, ran_for, served_there}
use Rattle.sbp_world.proofs.Lists.Runless.{AllPlain, IsRunBy, IsRunlessBy}

none_reply : (kind : Option ReplyKind) → is_some kind ≡ false → kind ≡ None
none_reply None k = refl
none_reply (Some kind) k = absurd (let no : true ≡ false = k in cc)

some_same : {A : Type 0} {a b : A} → Some a ≡ Some b → a ≡ b
some_same e = cc

not_ignored : (cause : Cause) → judgements.Got ≡ judgements.Ignored cause → ⊥
not_ignored cause e = cc

module _ (units ready : ℕ) (has : 0 < units) (start : List Disk) {past : List Moment} {lines : ℕ} (s : Scene) (h : Holding units ready start past lines s.world) (site : AtDelivery start past s.world) (units_are : (unit : ℕ) → unit_at (target_at start (hist past s.world)).units unit ≡ plain_in s.world.target.units s.media.disks unit) (run : Option Told) (serial : ℕ) (judged : AreJudged (said (notes.Got serial) ∷ hist past s.world)) where
  abbrev w : WorldState
  w = s.world

  abbrev ms : List Moment
  ms = hist past w

  abbrev wire : Terms
  wire = terms ms

  abbrev T : Target
  T = over (target_at start ms)

  -- ---- no command runs
  module _ (n : IsRunlessBy s run serial judgements.Got) (rest : List Note) (plainly : AllPlain rest) where
    abbrev Due : Type 0
    Due = runs_due start (turn ms (said (notes.Got serial)) rest) ≡ []

    module _ (zero_to : n.sent.to ≡ 0) where
      judged_as : (f : Finding Purpose) (layer : Layer Purpose) → judging_step w.target.layer n.sent.generation n.sent.bytes ≡ (f, layer) → judgements.Got ≡ (received_as run n.sent.bytes f (with_layer layer (whole_of w.target s.media))).0
      unfolding received
      judged_as f layer e = n.judged_is zero_to ∙ ap (λ (x : Finding Purpose × Layer Purpose). (received_as run n.sent.bytes x.0 (with_layer x.1 (whole_of w.target s.media))).0) e

      to_agent : (p : Packet) (label : LabelParts) (place : ℕ) (layer : Layer Purpose) → judging_step w.target.layer n.sent.generation n.sent.bytes ≡ (of_response p label (Some (purposes.Agent place)), layer) → IsFound (of_response p label (Some (purposes.Agent place))) w.target.layer layer n.sent.bytes → Due
      to_agent p label place layer e f =
          let x = serve units ready has start s h site units_are serial judged rest n.sent n.found zero_to p f.read f.kind label layer (Some (purposes.Agent place)) e place refl in
          let none = n.none zero_to in
          let own = sym (ap (λ (l : Option Login). ran_for w.target run s.media.disks place p l (which_in (desk_at w.target place) (header_in p).source label)) x.served_is ∙ ap (λ k. ran_for w.target run s.media.disks place p (Some x.login) k) x.which_is)
          ∙ sym (ap (λ (y : Finding Purpose × Layer Purpose). ran_as w.target run s.media.disks y.0) e) ∙ none.ran in
          none_due units ready has start s h site units_are serial judged rest n.sent n.found zero_to p f.read f.kind label layer (Some (purposes.Agent place)) e place refl x.login x.login_is _ x.which_is run none.untold own plainly

      by_finding : (f : Finding Purpose) (layer : Layer Purpose) → judging_step w.target.layer n.sent.generation n.sent.bytes ≡ (f, layer) → IsFound f w.target.layer layer n.sent.bytes → Due
      by_finding of_generation layer e f = absurd (not_ignored _ (judged_as of_generation layer e))
      by_finding of_grammar layer e f = absurd (not_ignored _ (judged_as of_grammar layer e))
      by_finding of_label layer e f = absurd (not_ignored _ (judged_as of_label layer e))
      by_finding (of_again p rcode) layer e f = absurd (not_ignored _ (judged_as (of_again p rcode) layer e))
      by_finding (of_response p label None) layer e f = nobody_due units ready has start s h site units_are serial judged rest n.sent n.found zero_to p f.read f.kind label layer None e refl
      by_finding (of_response p label (Some (purposes.Agent place))) layer e f = to_agent p label place layer e f
      by_finding (of_response p label (Some purposes.Management)) layer e f = manager_due units ready has start s h site units_are serial judged rest n.sent n.found zero_to p f.read f.kind label layer (Some purposes.Management) e refl
      by_finding (of_response p label (Some purposes.Unsolicited)) layer e f = unsolicited_due units ready has start s h site units_are serial judged rest n.sent n.found zero_to p f.read f.kind label layer (Some purposes.Unsolicited) e refl
      by_finding (of_request p) layer e f = request_due units ready has start s h site units_are serial judged rest n.sent n.found zero_to p f.1.read (none_reply (reply_kind p) f.1.kind)

      at_target : Due
      at_target =
          let found = judging_step w.target.layer n.sent.generation n.sent.bytes in
          by_finding found.0 found.1 refl (found_as w.target.layer n.sent.generation n.sent.bytes)

    by_receiver : (to : ℕ) → n.sent.to ≡ to → Due
    by_receiver zero e = at_target e
    by_receiver (suc i) e = own_due units ready has start s h site units_are serial judged rest n.sent n.found i e

    pub none_got : Due
    none_got = by_receiver n.sent.to refl

  -- ---- a command runs
  module _ (ran : Note) (r : IsRunBy s run serial ran) (more : List Note) (plainly : AllPlain more) where
    abbrev place : ℕ
    place = r.place

    abbrev login : Login
    login = r.by.login

    abbrev p : Packet
    p = r.by.packet

    abbrev layer : Layer Purpose
    layer = (judging_step w.target.layer r.sent.generation r.sent.bytes).1

    abbrev plain : PlainDisk
    plain = plain_in w.target.units s.media.disks login.unit

    abbrev own : AgentStep × Machine
    own = reply_step (desk_at w.target place).agent place plain run r.by.which (answer_in p)

    abbrev i : ℕ
    i = (holder w place).initiator

    there : login_at w.target place ≡ Some login
    there = served_there w.target place login r.by.served

    e : judging_step w.target.layer r.sent.generation r.sent.bytes ≡ (of_response p r.by.label (Some (purposes.Agent place)), layer)
    e = ap (λ (f : Finding Purpose). (f, layer)) r.by.found

    f : IsFound (of_response p r.by.label (Some (purposes.Agent place))) w.target.layer layer r.sent.bytes
    f = subst (λ (x : Finding Purpose). IsFound x w.target.layer layer r.sent.bytes) r.by.found (found_as w.target.layer r.sent.generation r.sent.bytes)

    small : place < 8
    small = inside units ready has start s h site units_are serial judged (ran ∷ more) r.sent r.found r.to p f.read f.kind r.by.label layer (Some (purposes.Agent place)) e place refl

    -- whose it is
    abbrev G : Good w.target
    G = g units ready has start w h

    is_served : IsServed w.target place
    is_served =
        G.mid.served place small (not_eight place small)
        (not-true _ (listing_up (desk_at w.target place).agent.phase (listed (desk_at w.target place).agent place plain run r.by.which (answer_in p) r.outcome r.by.ran)))

    hold : IsHeld wire (length w.initiators) (target_at start ms) w.places place login
    hold = site.held.held place login there

    live : is_live login ≡ true
    live = subst (λ (x : Login). is_live x ≡ true) (some_same (sym is_served.is ∙ there)) is_served.live

    holder_is : i ≡ hold.holder.initiator
    holder_is = ap (λ o. (or_nobody o).initiator) hold.there

    within : i < length w.initiators
    within = subst (λ n. n < length w.initiators) (sym holder_is) (hold.live live).of.small

    initiator_is : initiator_at T wire place ≡ i
    initiator_is =
        ap (λ (x : Table). initiator_with wire (node_in (place_at x.places place))) (ap (λ (o : Office). o.table) (over_keeps (target_at start ms)))
        ∙ (hold.live live).terms_are ∙ sym holder_is

    own_told : (j : ℕ) → j ≡ i → told_among j (ran ∷ more) plain ≡ Some (told_of (check_of r.outcome) own.1.orb.cdb plain)
    own_told j same =
        let mine : nat_eq i j ≡ true = grind (arith, nat_tests) in
        ap (λ n. told_among j (n ∷ more) plain) r.is
        ∙ ap (λ b. cond b (Some (told_of (check_of r.outcome) r.cdb plain)) (told_among j more plain)) mine
        ∙ ap (λ c. Some (told_of (check_of r.outcome) c plain)) r.by.cdb_is

    due : runs_due start (turn ms (said (notes.Got serial)) (ran ∷ more)) ≡ one_run ms (initiator_at T wire place) (unit_of T place) own.1.present own.1.orb.cdb own.1.payload
    due =
        one_due units ready has start s h site units_are serial judged (ran ∷ more) r.sent r.found r.to p f.read f.kind r.by.label layer (Some (purposes.Agent place)) e place refl login there r.by.which r.by.is_which run r.outcome
        r.by.ran r.by.told_is r.by.may (own_told (initiator_at T wire place) initiator_is)

    unit_is : unit_of T place ≡ (holder w place).unit
    unit_is =
        ap (λ (x : Table). unit_in (place_at x.places place)) (agrees units ready has start w h).table ∙ ap unit_in there ∙ sym hold.unit_is
        ∙ sym (ap (λ o. (or_nobody o).unit) hold.there)

    present_is : own.1.present ≡ r.orb
    present_is =
        let b : has_present own.1.phase ≡ true = ((reply_mild (desk_at w.target place).agent place plain run r.by.which (answer_in p) (given_in p)).runs r.outcome r.by.ran).1 in
        sym (r.by.orb_is ∙ ap (λ x. or_zero (if x then Some own.1.present else None)) b)

    name_is : named ms i own.1.present ≡ name_in (ticket_at w place r.orb)
    name_is = ap (named ms i) present_is ∙ named_as ms w i within (site.rows i within) r.orb

    abbrev as_told : List Run
    as_told = record { initiator = i; list = r.list; number = r.number; unit = (holder w place).unit; cdb = r.cdb; bytes = r.payload } ∷ []

    told : runs_in (ran ∷ more) ≡ as_told
    told = ap (λ n. runs_in (n ∷ more)) r.is ∙ ap (λ (xs : List Run). record { initiator = i; list = r.list; number = r.number; unit = (holder w place).unit; cdb = r.cdb; bytes = r.payload } ∷ xs) (plain_runs more plainly)

    abbrev one : ℕ → ℕ → Option ℕ → Option ℕ → List ℕ → List ℕ → List Run
    one a u n k c b = record { initiator = a; list = n; number = k; unit = u; cdb = c; bytes = b } ∷ []

    same : one_run ms (initiator_at T wire place) (unit_of T place) own.1.present own.1.orb.cdb own.1.payload ≡ as_told
    same =
        ap (λ a. one_run ms a (unit_of T place) own.1.present own.1.orb.cdb own.1.payload) initiator_is
        ∙ ap (λ u. one_run ms i u own.1.present own.1.orb.cdb own.1.payload) unit_is
        ∙ ap (λ (o : Option Orb). one i (holder w place).unit (lists.list_in o) (lists.number_in o) own.1.orb.cdb own.1.payload) name_is
        ∙ ap (λ n. one i (holder w place).unit n (lists.number_in (name_in (ticket_at w place r.orb))) own.1.orb.cdb own.1.payload) (list_same (ticket_at w place r.orb) ∙ sym r.list_is)
        ∙ ap (λ k. one i (holder w place).unit r.list k own.1.orb.cdb own.1.payload) (number_same (ticket_at w place r.orb) ∙ sym r.number_is)
        ∙ ap (λ c. one i (holder w place).unit r.list r.number c own.1.payload) (sym r.by.cdb_is)
        ∙ ap (λ b. one i (holder w place).unit r.list r.number r.cdb b) (sym r.by.payload_is)

    pub one_got : runs_in (ran ∷ more) ≡ runs_due start (turn ms (said (notes.Got serial)) (ran ∷ more))
    one_got = told ∙ sym (due ∙ same)
