-- What a step of the agent of a place hands out in a call of the target, as far as status blocks go: a reply, a time-out, and a read that is asked for.
use Rattle.sbp_world.proofs.Words.Std.{arith, ◌≡◌, ◌∙◌, refl, sym, ap, subst, ◌<◌, ℕ, Bool, true, false, cond, List, [], ◌∷◌, ◌++◌, length, Option, Some, None, length-set}
use Rattle.sbp_world.proofs.Words.Wire.{Packet, header_in, Asked, block_write, Layer, answering_step, asking_step, Outgoing, empty_outbox}
use Rattle.sbp_world.proofs.Words.Target.{AgentStep, Which, Machine, lost_step, reply_step, Login, Table, is_live, place_at, block, Disk, disk_at, Told, Desk, Purpose, follow, taken, NodeState, Scene, desk_at, login_at, scene, with_desk, expired_by, Stage, advance, announced_by, came, changed_by, follow_all, plain_in, replied, stage, whole, answer_step, answered_by, request_step, sent_by, with_side, answered, asked_in, unsolicited_by, unsolicited_from, Announced, pushes, stay, withholds}
use Rattle.sbp_world.proofs.Words.Initiator.{Ask, read_block, Answer}
use Rattle.sbp_world.proofs.Words.Laws.{access_in_bytes}
use Rattle.sbp_world.proofs.Words.World.{WorldState}
use Rattle.command_agent.specs.Steps as steps
use Rattle.orb_layout.specs.declared.ask.FailCause.TheVariants as causes
use Rattle.sbp_journal.specs.declared.side.Side.TheVariants as sides
use Rattle.sbp_target.specs.declared.purpose.Purpose.TheVariants as purposes
use Rattle.sbp_target.proofs.Histories.Calling.{Good}
use Rattle.sbp_world.proofs.Lists.SameAgents.{set_here, set_there, with_same, changed_same}
use Rattle.sbp_world.proofs.Lists.StatusBytes.{wrote}
use Rattle.sbp_world.proofs.Lists.StatusFollows.{Done, Followed, Quiet, Step, follows}
use Rattle.sbp_world.proofs.Lists.StatusPackets.{logged_more, plain_logged, EndSide, IsApart, IsFed, IsPlain, apart_named, at_other, end_of, fed_more, named_more, of_more, one_plain, or_before, reads_more, told_more, unsolicited_apart, unsolicited_small, unsolicited_unread}
use Rattle.sbp_world.proofs.Lists.StatusReads.{IsOfBody, IsRead, answer_reads, asked_body}
use Rattle.sbp_world.proofs.Lists.StatusSteps.{lost_leaves, replied_leaves, rests}
use Rattle.sbp_target.proofs.Histories.Moved.{announced_moves}
use Rattle.sbp_target.proofs.Histories.Views.{heard_live, kept}

-- ---- other logins hear of a disc
module _ (q : ℕ) (b : q < 8) (login : Login) (Ours : Type 0) (machines : ℕ → Machine) (told : Option EndSide) (m : Machine) where
  abbrev D : Scene → Type 0
  D s = Done q b login Ours machines told m s

  -- a side that is no end
  heard : (s : Scene) (place : ℕ) (x : Bool) → D s → D (scene s.node (with_side s.outbox (cond x (sides.Unsolicited place) (sides.Unsent place))))
  heard s place true d = record { desks = d.desks; same = d.same; agent = d.agent; told_is = record { end = told_more s.outbox.sides (sides.Unsolicited place) ∙ d.told_is.end; of = of_more q s.outbox.sides (sides.Unsolicited place) d.told_is.of tt }; spelled = d.spelled; named = d.named; fed = d.fed; logged = d.logged }
  heard s place false d = record { desks = d.desks; same = d.same; agent = d.agent; told_is = record { end = told_more s.outbox.sides (sides.Unsent place) ∙ d.told_is.end; of = of_more q s.outbox.sides (sides.Unsent place) d.told_is.of tt }; spelled = d.spelled; named = d.named; fed = d.fed; logged = d.logged }

  plain_of : (layer : Layer Purpose) (other : Login) (asked : Asked) → IsOfBody layer other.node (block_write other.fifo block) (Some asked) → IsPlain (record { to = other.node; label = Some asked.label; bytes = asked.bytes })
  plain_of layer other asked of slot found w =
      let x = wrote asked.label.number layer.node other.node other.fifo block (let n = unsolicited_small in omega (arith, n)) w.access (subst (λ bytes. access_in_bytes bytes ≡ Some w.access) of w.is) in
      unsolicited_unread found (ap (λ xs. read_block false xs) (sym x.payload_is) ∙ w.reads)

  apart_of : (layer : Layer Purpose) (other : Login) (asked : Asked) → IsOfBody layer other.node (block_write other.fifo block) (Some asked) → IsApart (record { to = other.node; label = Some asked.label; bytes = asked.bytes })
  apart_of layer other asked of place w =
      let x = wrote asked.label.number layer.node other.node other.fifo block (let n = unsolicited_small in omega (arith, n)) w.access (subst (λ bytes. access_in_bytes bytes ≡ Some w.access) of w.is) in
      unsolicited_apart w.block (ap (λ xs. read_block true xs) (sym x.payload_is) ∙ w.reads)

  fed_of : (table : Table) (place : ℕ) (layer : Layer Purpose) (other : Login) (asked : Asked) → place_at table.places place ≡ Some other → is_live other ≡ true → IsOfBody layer other.node (block_write other.fifo block) (Some asked) → IsFed table login Ours (record { to = other.node; label = Some asked.label; bytes = asked.bytes })
  fed_of table place layer other asked there live of y =
      let x = wrote asked.label.number layer.node other.node other.fifo block (let n = unsolicited_small in omega (arith, n)) y.access (subst (λ bytes. access_in_bytes bytes ≡ Some y.access) of y.is) in
      at_other place other there live refl x.offset_is

  announced : (place : ℕ) → place < 8 → (s : Scene) (other : Login) → login_at s.node place ≡ Some other → is_live other ≡ true → (r : Option Asked × Layer Purpose) → IsOfBody s.node.layer other.node (block_write other.fifo block) r.0 → D s → D (unsolicited_by place other.node s.node (sent_by r s.outbox other.node))
  announced place c s other there live (None, layer) of d =
      let t = scene (record s.node { layer = layer }) s.outbox in
      let k : D t = record { desks = d.desks; same = d.same; agent = d.agent; told_is = d.told_is; spelled = d.spelled; named = d.named; fed = d.fed; logged = d.logged } in
      heard t place false k
  announced place c s other there live (Some asked, layer) of d =
      let packet : Outgoing = record { to = other.node; label = Some asked.label; bytes = asked.bytes } in
      let o = record s.outbox { packets = s.outbox.packets ++ packet ∷ [] } in
      let t = scene (unsolicited_from place other.node layer s.node) o in
      let w = with_same s.node place (record (desk_at s.node place) { is_enabled = false }) (let e = d.desks in omega (arith, e)) refl in
      let k : D t = record {
        desks = w.desks ∙ d.desks;
        same = λ p f. w.agents p ∙ d.same p f;
        agent = w.agents q ∙ d.agent;
        told_is = d.told_is;
        spelled = one_plain q login.node Ours told m s.outbox.packets packet (plain_of s.node.layer other asked of) d.spelled;
        named = named_more login.node Ours told s.outbox.packets packet d.named (apart_named login.node Ours told packet (apart_of s.node.layer other asked of));
        fed = fed_more s.node.logins login Ours s.outbox.packets packet d.fed (fed_of s.node.logins place s.node.layer other asked there live of);
        logged = logged_more login Ours s.outbox.packets packet d.logged (plain_logged login Ours packet (plain_of s.node.layer other asked of));
      } in
      heard t place true k

  tells : (unit from : ℕ) (x y : Scene) → Announced unit from x y → D x → D y
  unfolding request_step
  tells unit from _ _ (pushes place other s e) d =
      let body = block_write other.fifo block in
      announced place e.small s other e.is (heard_live unit from place other s e) (asking_step s.node.layer other.node body purposes.Unsolicited) (asked_body s.node.layer other.node body purposes.Unsolicited) d
  tells unit from _ _ (withholds place other s e) d = heard s place false d

  pub announces_by : (x : Bool) (unit : ℕ) (s : Scene) → D s → D (announced_by x unit q s)
  announces_by x unit s d = kept (Announced unit q) D (tells unit q) s _ (announced_moves (Announced unit q) unit q (λ y z m. m) s x s (stay s)) d

-- ---- a call of the target
module _ (w : WorldState) (g : Good w.target) (layer : Layer Purpose) where
  abbrev pub M : ℕ → Machine
  M p = (desk_at w.target p).agent

  abbrev pub there : NodeState
  there = record w.target { layer = layer }

  abbrev pub first : Scene
  first = scene there empty_outbox

  module _ (q : ℕ) (b : q < 8) (Ours : Type 0) where
    inside : q < length w.target.desks
    inside = let e = g.mid.size in omega (arith, e)

    abbrev pub Acts : Login → Option EndSide → Scene → Type 0
    Acts login early s = Followed q b login Ours M early (M q) s

    is_set : (node : NodeState) (d : Desk) → length node.desks ≡ 8 → (desk_at (with_desk node q d) q).agent ≡ d.agent
    is_set node d e = ap (λ (x : Desk). x.agent) (set_here node q d (omega (arith, e)))

    other_set : (d : Desk) (p : ℕ) → (p ≡ q → ⊥) → (desk_at (with_desk there q d) p).agent ≡ M p
    other_set d p f = ap (λ (x : Desk). x.agent) (set_there there q p d inside f)

    announced_acts : (login : Login) (early : Option EndSide) (x : Bool) (unit : ℕ) (s : Scene) → Acts login early s → Acts login early (announced_by x unit q s)
    announced_acts login early x unit s f = record { told = f.told; now = f.now; so = announces_by q b login Ours M f.told f.now x unit s f.so; rest = f.rest; early = f.early }

    -- ---- a reply
    pub reply_acts : (login : Login) (which : Which) (run : Option Told) (answer : Answer) (disks : List Disk) → (let step = reply_step (M q) q (plain_in there.units disks login.unit) run which answer in Step q b login Ours M step.0 step.1 → (let x = advance run q login which answer (whole first disks) in Acts login (or_before (end_of q step.1 step.0.ended) None) (scene x.node x.outbox)))
    unfolding advance replied follow_all
    reply_acts login which run answer disks ok =
        let plain = plain_in there.units disks login.unit in
        let step : AgentStep × Machine = reply_step (M q) q plain run which answer in
        let d : Desk = record (taken which (desk_at w.target q)) { agent = step.1 } in
        let st : Stage = (replied run q login.unit which answer (stage there disks)).1 in
        let loaded = came (disk_at disks login.unit) (disk_at st.disks login.unit) in
        let later = changed_by loaded login.unit q st.node in
        let c = changed_same loaded login.unit q st.node in
        let s = scene later empty_outbox in
        let k : Quiet q b login Ours M None step.1 s = record {
          desks = c.desks ∙ (length-set there.desks q d ∙ g.mid.size);
          same = λ p f. c.agents p ∙ other_set d p f;
          agent = c.agents q ∙ is_set there d g.mid.size;
          told_is = record { end = refl; of = tt };
          read = tt;
        } in
        announced_acts login (or_before (end_of q step.1 step.0.ended) None) loaded login.unit (follow q login step.0 s)
        (follows q b login Ours M (M q) step.1 step.0 s ok (replied_leaves (M q) q plain run which answer).stays k)

    -- ---- a time-out
    pub late_acts : (login : Login) (which : Which) → (let loss = lost_step (M q) which causes.Timeout in Step q b login Ours M loss.0 loss.1 → Acts login (or_before (end_of q loss.1 loss.0.ended) None) (expired_by q (Some login) (Some which) first))
    late_acts login which ok =
        let loss = lost_step (M q) which causes.Timeout in
        let d : Desk = record (taken which (desk_at w.target q)) { agent = loss.1 } in
        let s = scene (with_desk there q d) empty_outbox in
        follows q b login Ours M (M q) loss.1 loss.0 s ok (lost_leaves (M q) which causes.Timeout).stays (record {
          desks = length-set there.desks q d ∙ g.mid.size;
          same = λ p f. other_set d p f;
          agent = is_set there d g.mid.size;
          told_is = record { end = refl; of = tt };
          read = tt;
        })

    -- ---- what is asked of the registers
    module _ (request : Packet) (bytes : List ℕ) (login : Login) where
      pub answered_quiet : (rcode : ℕ) (given : List ℕ) (m : Machine) (s : Scene) → Quiet q b login Ours M None m s → Quiet q b login Ours M None m (answered request bytes rcode given s)
      unfolding answer_step
      answered_quiet rcode given m s k = by (answering_step s.node.layer request bytes rcode given) (answer_reads s.node.layer request bytes rcode given)
        where
          by : (r : List ℕ × Layer Purpose) → IsRead r.0 → Quiet q b login Ours M None m (scene (record s.node { layer = (answered_by r s.outbox (header_in request).source).0 }) (answered_by r s.outbox (header_in request).source).1)
          by (out, rest) e = record { desks = k.desks; same = k.same; agent = k.agent; told_is = k.told_is; read = reads_more s.outbox.packets (record { to = (header_in request).source; label = None; bytes = out }) k.read e }

      -- the agent asks for a read
      pub asked_acts : (m : Machine) (ask : Ask) (s : Scene) → (rests m ≡ true → rests (M q) ≡ true) → Step q b login Ours M (steps.asks ask) m → Quiet q b login Ours M None m s → Acts login None (asked_in q ask (Some login) s)
      asked_acts m ask s h ok k = follows q b login Ours M (M q) m (steps.asks ask) s ok (λ e. h) k
