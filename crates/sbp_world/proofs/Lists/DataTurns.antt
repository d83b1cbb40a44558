-- A delivery to the target sends the data of answers as they are to be sent: each write into a buffer of an initiator that injected no packets is of the next chunk of the
-- present ORB of one of its lists, as the turn began; where this is known of the management.
use Rattle.sbp_world.proofs.Words.Std.{◌≡◌, ◌∙◌, sym, ap, ℕ, suc, List, [], ◌∷◌, ◌++◌, Some, None, subst, ◌≤◌, ◌<◌, Bool, true, false, cond, nat_eq, arith}
use Rattle.sbp_world.proofs.Words.Wire.{GenerationsState, node_of, topology_at, Access, Outgoing, Side, Moment, said, Note, terms}
use Rattle.sbp_world.proofs.Words.Target.{Disk, Machine, new_machine}
use Rattle.sbp_world.proofs.Words.Initiator.{StatusKind}
use Rattle.sbp_world.proofs.Words.Laws.{ends, runs, ended_status, EachMoment, orb, slot_at}
use Rattle.sbp_world.proofs.Words.World.{IsAnswerOf, sent_one, sent_all, told, told_all, WorldState, DataSo, IsDataWrite, IsPieceOf, IsAnswered, IsInTurn, is_first, follows, IsDry, AreDry, HasSlot}
use Rattle.sbp_world.proofs.Lists.AnswerRuns.{answer_on}
use Rattle.sbp_journal.specs.declared.note.Note.TheVariants as notes
use Rattle.sbp_journal.specs.declared.side.Side.TheVariants as sides
use Rattle.sbp_world.proofs.Agents.Management.Still.{hist}
use Rattle.sbp_world.proofs.Lists.Judging.{Grown}
use Rattle.sbp_world.proofs.Lists.StatusSends.{sent_generations, sent_on}
use Rattle.orb_layout.specs.declared.status.StatusKind.TheVariants as kinds
use Rattle.sbp_world.proofs.Common.{moments_joined}

-- ---- a history grows

grown_note : (moment : Moment) (a b : List Moment) → Grown a b → Grown a (moment ∷ b)
grown_note moment a b g = record { new = moment ∷ g.new; is = ap (λ ms. moment ∷ ms) g.is }

-- ---- a write that is sent now
-- it comes in turn, behind the first note
pub data IsTurnBy (ms : List Moment) (i n k : ℕ) (m : Machine) (note : Note) : Type 0 where
  by_first : runs ms i n k ≡ 0 → m.written ≡ 0 → IsTurnBy ms i n k m note
  by_follows : (got : ℕ) → note ≡ notes.Got got → IsAnswered ms i n k m got → IsTurnBy ms i n k m note

pub record IsPieceNow (disks : List Disk) (ms start : List Moment) (i : ℕ) (note : Note) (generation slot : ℕ) (access : Access) : Type 0 where
  pub list : ℕ
  pub machine : Machine
  pub size : ℕ
  pub piece : IsPieceOf ms i list (ends ms i list) machine access.offset size
  pub bytes : access.payload ≡ machine.outgoing
  pub turn : IsTurnBy ms i list (ends ms i list) machine note
  pub slot_is : slot_at ms i list (ends ms i list) ≡ slot
  pub ran : 0 < runs start i list (ends ms i list)
  pub still : (status : StatusKind) → ended_status start i list (ends ms i list) ≡ Some status → status ≡ kinds.Failed
  pub seen : generation ≤ (terms ms).generation (suc i)
  pub own : generation ≡ (terms ms).generation 0
  pub held : generation ≡ (terms ms).generation (suc i) → HasSlot ms i slot (orb list (ends ms i list))
  pub told : IsAnswerOf disks start i list (ends ms i list) machine.answer

-- what ran has run
ran_more : (m : Moment) (before : List Moment) (i n k : ℕ) → 0 < runs before i n k → 0 < runs (m ∷ before) i n k
ran_more (said (notes.Ran j (Some m) (Some l) unit cdb bytes check)) before i n k r = pick (nat_eq i j) (nat_eq n m) (nat_eq k l)
  where
    pick : (a b c : Bool) → 0 < cond a (cond b (cond c (suc (runs before j m l)) (runs before i n k)) (runs before i n k)) (runs before i n k)
    pick true true true = omega arith
    pick true true false = r
    pick true false c = r
    pick false b c = r
ran_more _ before i n k r = r

pub ran_on : (later before : List Moment) (i n k : ℕ) → 0 < runs before i n k → 0 < runs (later ++ before) i n k
ran_on [] before i n k r = r
ran_on (m ∷ later) before i n k r = ran_more m (later ++ before) i n k (ran_on later before i n k r)

module _ (disks : List Disk) (i : ℕ) (past ms : List Moment) (note : Note) where
  pub record Sends (now : List Moment) : Type 0 where
    pub grown : Grown (said note ∷ ms) now
    pub dry : AreDry i grown.new
    pub so : EachMoment (DataSo disks i) now

  -- sides that are no notes of its own
  abbrev pub IsTold : Side → Type 0
  IsTold (sides.Own note) = ⊥
  IsTold side = Unit {0}

  abbrev pub AreTold : List Side → Type 0
  AreTold [] = Unit {0}
  AreTold (side ∷ later) = IsTold side × AreTold later

  pub noted : (moment : Moment) (now : List Moment) → DataSo disks i moment now → IsDry i moment → Sends now → Sends (moment ∷ now)
  unfolding grown_note
  noted moment now d dry h = record { grown = grown_note moment (said note ∷ ms) now h.grown; dry = (dry, h.dry); so = (d, h.so) }

  told_one : (weight : ℕ) (side : Side) (w : WorldState) → IsTold side → Sends (hist past w) → Sends (hist past (told weight side w))
  unfolding told
  told_one weight (sides.Own note) w f h = absurd f
  told_one weight (sides.Opened place orb) w f h = h
  told_one weight (sides.Ran place orb cdb payload outcome) w f h = noted _ (hist past w) tt tt h
  told_one weight (sides.Ended place orb status) w f h = noted _ (hist past w) tt tt h
  told_one weight (sides.Dead place cause) w f h = noted _ (hist past w) tt tt h
  told_one weight (sides.Cut place cause) w f h = noted _ (hist past w) tt tt h
  told_one weight (sides.Managed node function subject status login) w f h = noted _ (hist past w) tt tt h
  told_one weight (sides.ManageFailed node cause) w f h = noted _ (hist past w) tt tt h
  told_one weight (sides.Held login) w f h = noted _ (hist past w) tt tt h
  told_one weight (sides.Expired login) w f h = noted _ (hist past w) tt tt h
  told_one weight (sides.Back login) w f h = noted _ (hist past w) tt tt h
  told_one weight (sides.Left login) w f h = noted _ (hist past w) tt tt h
  told_one weight (sides.Cleared unit) w f h = noted _ (hist past w) tt tt h
  told_one weight (sides.Unsolicited place) w f h = noted _ (hist past w) tt tt h
  told_one weight (sides.Unsent place) w f h = noted _ (hist past w) tt tt h

  pub all_told : (weight : ℕ) (told_sides : List Side) (w : WorldState) → AreTold told_sides → Sends (hist past w) → Sends (hist past (told_all weight told_sides w))
  unfolding told_all
  all_told weight [] w f h = h
  all_told weight (side ∷ later) w f h = all_told weight later (told weight side w) f.1 (told_one weight side w f.0 h)

  -- ---- packets that leave, each write of data among them as it is to be
  abbrev pub IsDue : List Moment → GenerationsState → Outgoing → Type 0
  IsDue start g packet = node_of g 0 packet.to ≡ Some (suc i) → (slot : ℕ) (x : IsDataWrite packet.bytes slot) → IsPieceNow disks ms start i note (topology_at g 0).generation slot x.access

  turn_of : (n k : ℕ) (m : Machine) (later now : List Moment) → later ++ said note ∷ ms ≡ now → IsTurnBy ms i n k m note → IsInTurn now ms i n k m
  turn_of n k m later now is (by_first none start) = is_first none start
  turn_of n k m later now is (by_follows got e x) = follows got later (subst (λ y. later ++ said y ∷ ms ≡ now) e is) x

  -- the first packet may be one; none of the others is
  abbrev pub IsDryPacket : GenerationsState → Outgoing → Type 0
  IsDryPacket g packet = node_of g 0 packet.to ≡ Some (suc i) → (slot : ℕ) → IsDataWrite packet.bytes slot → ⊥

  abbrev pub AllDry : GenerationsState → List Outgoing → Type 0
  AllDry g [] = Unit {0}
  AllDry g (packet ∷ later) = IsDryPacket g packet × AllDry g later

  abbrev pub AllDue : List Moment → GenerationsState → List Outgoing → Type 0
  AllDue start g [] = Unit {0}
  AllDue start g (packet ∷ later) = IsDue start g packet × AllDry g later

  are_dry_on : (a b : List Moment) → AreDry i a → AreDry i b → AreDry i (a ++ b)
  are_dry_on [] b f h = h
  are_dry_on (moment ∷ a) b f h = (f.0, are_dry_on a b f.1 h)

  abbrev Each : List Moment → Type 0
  Each now = EachMoment (DataSo disks i) now

  all_dry : (g : GenerationsState) (packets : List Outgoing) (w : WorldState) → w.generations ≡ g → AllDry g packets → Each (hist past w) → Each (hist past (sent_all 0 packets w))
  unfolding sent_all
  all_dry g [] w e f h = h
  all_dry g (packet ∷ later) w e f h =
      all_dry g later (sent_one 0 packet w) (sent_generations 0 0 0 0 0 0 (Unit {0}) (Unit {0}) (Unit {0}) None new_machine (λ a b c. tt) past packet w ∙ e) f.1
      (sent_on 0 0 0 0 0 0 (Unit {0}) (Unit {0}) (Unit {0}) None new_machine (λ a b c. tt) past Each packet w h
      (λ s t there. ((λ of to slot x. absurd (f.0 (ap (λ (y : GenerationsState). node_of y 0 packet.to) (sym e) ∙ (there ∙ ap (λ n. Some n) to)) slot x)), h)))

  -- behind what was told
  pub record Leaves (start now : List Moment) : Type 0 where
    pub sends : Sends now
    pub on : Grown start now
    pub same : (n k : ℕ) → ended_status now i n k ≡ ended_status start i n k

  pub all_leave : (start : List Moment) (g : GenerationsState) (packets : List Outgoing) (w : WorldState) → w.generations ≡ g → AllDue start g packets → IsDry i (said note) → Leaves start (hist past w) → Each (hist past (sent_all 0 packets w))
  unfolding sent_all
  all_leave start g [] w e f dry h = h.sends.so
  all_leave start g (packet ∷ later) w e f dry h =
      all_dry g later (sent_one 0 packet w) (sent_generations 0 0 0 0 0 0 (Unit {0}) (Unit {0}) (Unit {0}) None new_machine (λ a b c. tt) past packet w ∙ e) f.1
      (sent_on 0 0 0 0 0 0 (Unit {0}) (Unit {0}) (Unit {0}) None new_machine (λ a b c. tt) past Each packet w h.sends.so
      (λ s t there. (
        (λ of to slot x.
            let p = f.0 (ap (λ (y : GenerationsState). node_of y 0 packet.to) (sym e) ∙ (there ∙ ap (λ n. Some n) to)) slot x in
            record {
              later = h.sends.grown.new ++ said note ∷ [];
              before = ms;
              is = moments_joined h.sends.grown.new (said note ∷ []) ms ∙ h.sends.grown.is;
              list = p.list;
              machine = p.machine;
              size = p.size;
              piece = p.piece;
              bytes = p.bytes;
              turn = turn_of p.list (ends ms i p.list) p.machine h.sends.grown.new (hist past w) h.sends.grown.is p.turn;
              alone = are_dry_on h.sends.grown.new (said note ∷ []) h.sends.dry (dry, tt);
              slot_is = p.slot_is;
              ran = subst (λ now. 0 < runs now i p.list (ends ms i p.list)) h.on.is (ran_on h.on.new start i p.list (ends ms i p.list) p.ran);
              still = λ status z. p.still status (sym (h.same p.list (ends ms i p.list)) ∙ z);
              seen = subst (λ (y : GenerationsState). (topology_at y 0).generation ≤ (terms ms).generation (suc i)) (sym e) p.seen;
              own = ap (λ (y : GenerationsState). (topology_at y 0).generation) e ∙ p.own;
              held = λ same. p.held (ap (λ (y : GenerationsState). (topology_at y 0).generation) (sym e) ∙ same);
              told = answer_on disks h.on.new start (hist past w) h.on.is i p.list (ends ms i p.list) p.machine.answer p.told;
            }),
        h.sends.so,
      )))
