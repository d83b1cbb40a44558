-- The reads of a ROM that an initiator has under way: none where no `rom` operation is, and one under one label while one is. So it is behind each of its calls, and a call that goes on with a
-- ROM, or begins one, sends the request of the label alone.
use Rattle.std.proofs.Common.{arith, ◌≡◌, ◌∙◌, inl, inr, ◌⊎◌, refl, sym, ap, subst, ℕ, ◌+◌, ◌^◌, ◌<◌, is_some, Bool, true, false, List, [], ◌∷◌, length, Option, Some, None, Result, Ok, Err}
use Rattle.async_packet.specs.Labels.{LabelParts}
use Rattle.async_packet.specs.Packet.{Packet, header_in, lock, lock_response, read_block, read_block_response, read_quadlet, read_quadlet_response, write_block, write_quadlet, write_response}
use Rattle.async_packet.specs.Reading.{reading}
use Rattle.async_packet.specs.declared.fault.PacketFault.{PacketFault}
use Rattle.async_packet.specs.Canon.{canon}
use Rattle.bus_transactions.specs.Fitting.{FitsRequest, IsLayer}
use Rattle.bus_transactions.proofs.FitSteps.{goes, judges_same}
use Rattle.bus_transactions.proofs.Fits.{request_fits}
use Rattle.label_table.specs.Bodies.{Body, quadlet_read, response_to}
use Rattle.label_table.specs.History.{ended}
use Rattle.label_table.specs.History as wire
use Rattle.label_table.specs.Layer.{Finding, Layer, answering_step, asking_step, judging_step, of_again, of_generation, of_grammar, of_label, of_request, of_response}
use Rattle.label_table.specs.declared.judgement.Asked.{Asked}
use Rattle.sbp_initiator.specs.Effects.{Turn, ended_for, ended_step}
use Rattle.sbp_initiator.specs.Histories.Ends.{is_managed}
use Rattle.sbp_initiator.specs.Histories.Moves.{outgoing}
use Rattle.sbp_initiator.specs.Receiving.{called, ignored_step, receive_step, received}
use Rattle.sbp_initiator.specs.States.{ending_of}
use Rattle.sbp_initiator.specs.declared.purpose.Ending.{Ending}
use Rattle.sbp_initiator.specs.declared.purpose.Purpose.{Purpose}
use Rattle.sbp_initiator.specs.declared.purpose.Purpose.TheVariants as purposes
use Rattle.sbp_initiator.specs.declared.purpose.Running.{Running}
use Rattle.sbp_initiator.specs.declared.state.InitiatorState.{InitiatorState}
use Rattle.sbp_initiator.proofs.Histories.Effects.{Fits}
use Rattle.sbp_initiator.proofs.Histories.Over.{sound}
use Rattle.sbp_initiator.proofs.Histories.Purposes.{IfFor}
use Rattle.sbp_initiator.proofs.Histories.Requests.{HasOrb, ignored_again, request_answers}
use Rattle.sbp_journal.specs.Addresses.{Access, access_of}
use Rattle.sbp_journal.specs.Outgoings.{empty_outbox}
use Rattle.sbp_journal.specs.Transactions.{Kind, part_by, part_in, part_of, reading_quadlet, request}
use Rattle.sbp_journal.specs.declared.cause.Cause.TheVariants as causes
use Rattle.sbp_journal.specs.declared.operation.Operation.TheVariants as operations
use Rattle.sbp_journal.specs.declared.outbox.Outgoing.{Outgoing}
use Rattle.sbp_laws.specs.Packets.{access_in, access_in_bytes, spelled_by as read_by}
use Rattle.sbp_world.specs.Hosts.Calling.{IsCalled}
use Rattle.sbp_world.proofs.Common.{none_is, untrue}
use Rattle.sbp_world.proofs.Hosts.Aimed.{Aims}
use Rattle.sbp_world.proofs.Hosts.Answering.{asks_block, asks_quadlet, locks, writes_block}
use Rattle.sbp_world.proofs.Hosts.Asked.{IfRequest, IsRequest, is_request}
use Rattle.sbp_world.proofs.Hosts.Hosted.{hears_fit}
use Rattle.sbp_world.proofs.Hosts.KnowHears.{IfFits}
use Rattle.sbp_world.proofs.Hosts.Layered.{receive_left}
use Rattle.sbp_world.proofs.Hosts.Lives.{At, AskedAt, Called, ask_at, ask_begins, asked_now, judge_at, was_asked}
use Rattle.sbp_world.proofs.Hosts.Pointing.{at_same}
use Rattle.sbp_world.proofs.Lists.ManageHears.{hears_left}
use Rattle.sbp_world.proofs.Lists.ManageLeaves.{was_by}
use Rattle.sbp_world.proofs.Wire.Deliver.{judging_stays}
use Rattle.sbp_world.proofs.Pointers.Finds.{closed_over, closes_at}
use Rattle.sbp_world.proofs.Pointers.Spelled.{spelled_by}
use Rattle.sbp_world.proofs.Pointers.Leaving.{ClosedFor, judge_goes}
use Rattle.turn_laws.proofs.RomEnds.{IsApart, RomGoes, ended_leaves, ends, goes_on, is_plain, read_on, rom_goes}
use Rattle.turn_laws.proofs.RomStays.{request_stays}
use Rattle.turn_laws.proofs.RomTerms.{IsReply, response_replies}

-- ---- a read of a ROM under a label, and the operation of the action that it is for
abbrev pub RomAt : Layer Purpose → (target n a : ℕ) → Type 0
RomAt layer target n a = At layer target n (Some (purposes.Rom a))

-- those of a layer are among those of another
abbrev pub Within : Layer Purpose → Layer Purpose → (target : ℕ) → Type 0
Within l m target = (n a : ℕ) → RomAt l target n a → RomAt m target n a

-- what holds of a ROM that is under way
abbrev pub IfRom : InitiatorState → (Running → Type 0) → Type 0
IfRom u Holds = (r : Running) → u.operation ≡ Some r → r.operation ≡ operations.Rom → Holds r

pub record IsRom (a : ℕ) (operation : Option Running) : Type 0 where
  pub running : Running
  pub is : operation ≡ Some running
  pub kind : running.operation ≡ operations.Rom
  pub act : running.act ≡ a

pub record RomLabel (layer : Layer Purpose) (target a : ℕ) : Type 0 where
  pub number : ℕ
  pub at : RomAt layer target number a

pub record OneRom (s : InitiatorState) : Type 0 where
  pub runs : (n a : ℕ) → RomAt s.layer s.target n a → IsRom a s.operation
  pub one : (n a m b : ℕ) → RomAt s.layer s.target n a → RomAt s.layer s.target m b → n ≡ m
  pub has : (r : Running) → s.operation ≡ Some r → r.operation ≡ operations.Rom → RomLabel s.layer s.target r.act

-- ---- what a call sends
pub data IsQuiet (t : Turn) : Type 0 where
  sends_none : t.0.packets ≡ [] → IsQuiet t
  sends_reply : (to : ℕ) (bytes : List ℕ) → IsReply bytes → t.0.packets ≡ (let p : Outgoing = record { to = to; label = None; bytes = bytes } in p) ∷ [] → IsQuiet t

-- the operation under way was so before
abbrev pub WasSo : InitiatorState → Turn → Type 0
WasSo s t = (r : Running) → t.1.operation ≡ Some r → s.operation ≡ Some r

-- none is under way but a ROM
abbrev pub OnlyRom : InitiatorState → Type 0
OnlyRom u = (r : Running) → u.operation ≡ Some r → r.operation ≡ operations.Rom

-- It leaves the labels; or its one packet asks for a quadlet, under the one label of a ROM.
pub data CallRom (s : InitiatorState) (t : Turn) : Type 0 where
  stays : ((n a : ℕ) → RomAt t.1.layer t.1.target n a → RomAt s.layer s.target n a) → t.1.layer.generation ≡ s.layer.generation → WasSo s t → IsQuiet t → OneRom t.1 → CallRom s t
  reads : (asked : Asked) (a : ℕ) → t.0.packets ≡ outgoing s.target asked ∷ [] → part_of asked.bytes ≡ request asked.label.number reading_quadlet → RomAt t.1.layer t.1.target asked.label.number a → ((n b : ℕ) → RomAt t.1.layer t.1.target n b → n ≡ asked.label.number) → OnlyRom t.1 → OneRom t.1 → CallRom s t

-- a request that asks for a quadlet is a read of one
abbrev flag : (Access → Bool) → Option Access → Bool
flag f None = true
flag f (Some access) = f access

-- what is no such access has another flag
differs : {A : Type 0} (f : Access → Bool) (a : Option Access) (offset : ℕ) → flag f a ≡ true → f (asks_quadlet false offset) ≡ false → a ≡ Some (asks_quadlet false offset) → A
differs f a offset x y e = untrue (sym y ∙ sym (ap (flag f) e) ∙ x)

read_kind : (p : Packet) (number : ℕ) (kind : Kind) (offset : ℕ) → part_in p ≡ request number kind → access_of p ≡ Some (asks_quadlet false offset) → kind ≡ reading_quadlet
read_kind (read_quadlet header o) number kind offset e f = (let same : request header.label reading_quadlet ≡ request number kind = e in cc)
read_kind (write_quadlet header o value) number kind offset e f = differs (λ (a : Access). a.is_write) (Some (asks_quadlet true o)) offset refl refl f
read_kind (write_block header o payload) number kind offset e f = differs (λ (a : Access). a.is_write) (Some (writes_block o payload)) offset refl refl f
read_kind (read_block header o asked) number kind offset e f = differs (λ (a : Access). a.is_block) (Some (asks_block o asked)) offset refl refl f
read_kind (lock header o extended payload) number kind offset e f = differs (λ (a : Access). a.is_lock) (Some (locks o (length payload))) offset refl refl f
read_kind (write_response header code) number kind offset e f = differs (λ (a : Access). a.is_lock) None offset refl refl f
read_kind (read_quadlet_response header code value) number kind offset e f = differs (λ (a : Access). a.is_lock) None offset refl refl f
read_kind (read_block_response header code payload) number kind offset e f = differs (λ (a : Access). a.is_lock) None offset refl refl f
read_kind (lock_response header code extended payload) number kind offset e f = differs (λ (a : Access). a.is_lock) None offset refl refl f

quadlet_kind : (bytes : List ℕ) (number : ℕ) (kind : Kind) (offset : ℕ) → part_of bytes ≡ request number kind → access_in_bytes bytes ≡ Some (asks_quadlet false offset) → kind ≡ reading_quadlet
unfolding part_of
quadlet_kind bytes number kind offset = by (reading bytes)
  where
    by : (r : Result Packet PacketFault) → part_by r ≡ request number kind → access_in (read_by r) ≡ Some (asks_quadlet false offset) → kind ≡ reading_quadlet
    by (Ok p) e f = read_kind p number kind offset e f
    by (Err fault) e f = differs (λ (a : Access). a.is_lock) None offset refl refl f

same_purpose : (a b : ℕ) → Some (purposes.Rom a) ≡ Some (purposes.Rom b) → a ≡ b
same_purpose a b e = cc

-- a ROM has no management ORB
bare_by : (managed : Option ℕ) → (is_some managed ≡ true → false ≡ true) → managed ≡ None
bare_by None f = refl
bare_by (Some n) f = untrue (f refl)

pub bare : (r : Running) → HasOrb (Some r) → r.operation ≡ operations.Rom → r.managed ≡ None
bare r h e = bare_by r.managed (λ some. sym (ap is_managed e) ∙ h.managed r refl some)

pub apart_fits : (r : Running) (purpose : Purpose) → r.operation ≡ operations.Rom → Fits purpose (Some r) → IsApart r purpose
apart_fits r (purposes.AgentReset act) e f = λ same. (let x : operations.Rom ≡ operations.AgentReset = sym e ∙ f.same r refl same in cc)
apart_fits r (purposes.Enable act) e f = λ same. (let x : operations.Rom ≡ operations.Enable = sym e ∙ f.same r refl same in cc)
apart_fits r (purposes.Management act) e f = λ same. (let x : false ≡ true = sym (ap is_managed e) ∙ f.managed r refl same in cc)
apart_fits r (purposes.Pointer list) e f = tt
apart_fits r purposes.Doorbell e f = tt
apart_fits r (purposes.State act list) e f = tt
apart_fits r (purposes.Rom act) e f = tt

-- ---- where the labels are those behind a call of the layer that closes none of a ROM
module _ (s : InitiatorState) (h : OneRom s) (t : Turn) (target_is : t.1.target ≡ s.target) where
  module _ (back : Within t.1.layer s.layer s.target) (forth : Within s.layer t.1.layer s.target) (generation_is : t.1.layer.generation ≡ s.layer.generation) (was : IfRom t.1 (λ r. s.operation ≡ Some r)) (now : IfRom s (λ r. t.1.operation ≡ Some r)) where
    pub from : (n a : ℕ) → RomAt t.1.layer t.1.target n a → RomAt s.layer s.target n a
    from n a x = back n a (subst (λ p. RomAt t.1.layer p n a) target_is x)

    pub same_rom : OneRom t.1
    same_rom = record {
      runs = λ n a x. (let k = h.runs n a (from n a x) in record { running = k.running; is = now k.running k.is k.kind; kind = k.kind; act = k.act });
      one = λ n a m b x y. h.one n a m b (from n a x) (from m b y);
      has = λ r e k. (let l = h.has r (was r e k) k in record { number = l.number; at = subst (λ p. RomAt t.1.layer p l.number r.act) (sym target_is) (forth l.number r.act l.at) });
    }

    pub plain_call : WasSo s t → IsQuiet t → CallRom s t
    plain_call so quiet = stays from generation_is so quiet same_rom

  -- where none is left, and no operation
  pub over_call : ((n a : ℕ) → RomAt t.1.layer s.target n a → ⊥) → t.1.layer.generation ≡ s.layer.generation → t.1.operation ≡ None → t.0.packets ≡ [] → CallRom s t
  over_call none generation_is ended sent =
      let never : (n a : ℕ) → RomAt t.1.layer t.1.target n a → ⊥ = λ n a x. none n a (subst (λ p. RomAt t.1.layer p n a) target_is x) in
      stays (λ n a x. absurd (never n a x)) generation_is (λ r e. none_is r (sym ended ∙ e)) (sends_none sent)
      (record { runs = λ n a x. absurd (never n a x); one = λ n a m b x y. absurd (never n a x); has = λ r e k. none_is r (sym ended ∙ e) })

  -- where one is asked for behind that
  module _ (small : s.target < 2 ^ 16) (l : Layer Purpose) (valid : IsLayer l) (c : Called l) (none : (n a : ℕ) → RomAt l s.target n a → ⊥) where
    pub next_call : (offset : ℕ) (asked : Asked) (r : Running) → FitsRequest (quadlet_read offset) → t.1.operation ≡ Some r → r.operation ≡ operations.Rom → asking_step l s.target (quadlet_read offset) (purposes.Rom r.act) ≡ (Some asked, t.1.layer) → t.0.packets ≡ outgoing s.target asked ∷ [] → CallRom s t
    next_call offset asked r fits is kind step sent = reads asked r.act sent asks begins only (λ q e. ap (λ (y : Running). y.operation) (sym (same_some r q (sym is ∙ e))) ∙ kind) (record {
      runs = λ n a x. record { running = r; is = is; kind = kind; act = sym (rom_is n a x) };
      one = λ n a m b x y. only n a x ∙ sym (only m b y);
      has = λ q e k. record { number = asked.label.number; at = subst (λ (y : Running). RomAt t.1.layer t.1.target asked.label.number y.act) (same_some r q (sym is ∙ e)) begins };
    })
      where
        same_some : (x y : Running) → Some x ≡ Some y → x ≡ y
        same_some x y e = cc

        body : Body
        body = quadlet_read offset

        spelled : access_in_bytes asked.bytes ≡ Some (asks_quadlet false offset)
        spelled = spelled_by l s.target body (purposes.Rom r.act) valid (request_fits l.node s.target body valid.small small fits) asked (ap (λ (x : Option Asked × Layer Purpose). x.0) step)

        is_asked : IsRequest asked.label.number asked.bytes
        is_asked = subst IfRequest (ap (λ (x : Option Asked × Layer Purpose). x.0) step) (is_request l s.target body (purposes.Rom r.act) valid (request_fits l.node s.target body valid.small small fits))

        asks : part_of asked.bytes ≡ request asked.label.number reading_quadlet
        asks = is_asked.part ∙ ap (request asked.label.number) (quadlet_kind asked.bytes asked.label.number is_asked.kind offset is_asked.part spelled)

        begins : RomAt t.1.layer t.1.target asked.label.number r.act
        begins = subst (λ p. RomAt t.1.layer p asked.label.number r.act) (sym target_is) (ask_begins l s.target body (purposes.Rom r.act) asked t.1.layer c step)

        found : (n a : ℕ) → RomAt t.1.layer t.1.target n a → AskedAt l s.target asked (purposes.Rom r.act) s.target n (Some (purposes.Rom a))
        found n a x = ask_at l s.target body (purposes.Rom r.act) asked t.1.layer s.target n (Some (purposes.Rom a)) c step (subst (λ p. RomAt t.1.layer p n a) target_is x)

        only : (n a : ℕ) → RomAt t.1.layer t.1.target n a → n ≡ asked.label.number
        only n a x = by (found n a x)
          where
            by : AskedAt l s.target asked (purposes.Rom r.act) s.target n (Some (purposes.Rom a)) → n ≡ asked.label.number
            by (asked_now p e f) = e
            by (was_asked y) = absurd (none n a y)

        rom_is : (n a : ℕ) → RomAt t.1.layer t.1.target n a → a ≡ r.act
        rom_is n a x = by (found n a x)
          where
            by : AskedAt l s.target asked (purposes.Rom r.act) s.target n (Some (purposes.Rom a)) → a ≡ r.act
            by (asked_now p e f) = same_purpose a r.act f
            by (was_asked y) = absurd (none n a y)

module _ (ready : Bool) (i : ℕ) (s : InitiatorState) (own : IsCalled ready i s) (aims : Aims s.layer s.target) (valid : IsLayer s.layer) (small : s.target < 2 ^ 16) (h : OneRom s) where
  pub called_layer : Called s.layer
  called_layer = (let k = (sound i ready own.calls).wires in record { node = 0xffc1 + i; calls = k.calls; is = k.layer_is ∙ ap (λ (x : InitiatorState). x.layer) own.is })

  orb : HasOrb s.operation
  orb = subst (λ (x : InitiatorState). HasOrb x.operation) own.is (sound i ready own.calls).orb

  orb_of : (r : Running) → s.operation ≡ Some r → HasOrb (Some r)
  orb_of r e = subst HasOrb e orb

  -- ---- a transaction ends, as the layer has closed it
  -- what is closed of a ROM was under its label, and is there no more
  pub record IsGone (J : Layer Purpose) (a : ℕ) : Type 0 where
    pub number : ℕ
    pub at : RomAt s.layer s.target number a
    pub none : (b : ℕ) → RomAt J s.target number b → ⊥

  module _ (J : Layer Purpose) (called_J : Called J) (valid_J : IsLayer J) (generation_is : J.generation ≡ s.layer.generation) (back : Within J s.layer s.target) where
    abbrev here : InitiatorState
    here = record s { layer = J }

    -- each read stands, or is what ended; and that was one
    abbrev Stands : Option Purpose → Type 0
    Stands q = (n a : ℕ) → RomAt s.layer s.target n a → RomAt J s.target n a ⊎ (q ≡ Some (purposes.Rom a))

    abbrev Ends : Option Purpose → Type 0
    Ends q = (a : ℕ) → q ≡ Some (purposes.Rom a) → IsGone J a

    module _ (t : Turn) (target_is : t.1.target ≡ s.target) (was : WasSo s t) where
      -- where it leaves the layer so
      pub plainly : t.1.layer.peers ≡ J.peers → t.1.layer.generation ≡ J.generation → Within s.layer J s.target → IfRom s (λ r. t.1.operation ≡ Some r) → IsQuiet t → CallRom s t
      plainly peers g forth rom quiet =
          plain_call s h t target_is
          (λ n a x. back n a (at_same t.1.layer J s.target n (Some (purposes.Rom a)) (sym peers) x))
          (λ n a x. at_same J t.1.layer s.target n (Some (purposes.Rom a)) peers (forth n a x))
          (g ∙ generation_is) (λ r e k. was r e) rom was quiet

      module _ (ending : Ending) where
        abbrev By : Purpose → Turn
        By purpose = ended_step purpose ending empty_outbox (called here)

        -- a read of the ROM
        rom_call : (a : ℕ) → IsGone J a → t ≡ By (purposes.Rom a) → CallRom s t
        rom_call a g is = by (subst (RomGoes empty_outbox (called here) k.running.act (read_on ending s.quads)) (sym (is ∙ ap (λ b. By (purposes.Rom b)) (sym k.act))) (rom_goes k.running k.kind empty_outbox (called here) k.is ending))
          where
            k : IsRom a s.operation
            k = h.runs g.number a g.at

            none_left : (n b : ℕ) → RomAt J s.target n b → ⊥
            none_left n b x = g.none b (subst (λ m. RomAt J s.target m b) (h.one n b g.number a (back n b x) g.at) x)

            by : RomGoes empty_outbox (called here) k.running.act (read_on ending s.quads) t → CallRom s t
            by (ends word x) =
                over_call s h t target_is (λ n b y. none_left n b (subst (λ (l : Layer Purpose). RomAt l s.target n b) x.layer y)) (ap (λ (l : Layer Purpose). l.generation) x.layer ∙ generation_is) x.operation x.packets
            by (goes_on x) = next_call s h t target_is small J valid_J called_J none_left _ x.asked k.running (omega arith) (x.operation ∙ k.is) k.kind x.step x.packets

        -- one for something else
        other_call : (purpose : Purpose) → is_plain purpose ≡ true → Fits purpose s.operation → Within s.layer J s.target → t ≡ By purpose → CallRom s t
        other_call purpose plain fits forth is =
            let any : Running = record { operation = operations.Rom; act = 0; managed = None } in
            let left = ended_leaves any ⊥ purpose ending empty_outbox (called here) plain (λ x. absurd x) in
            let layer_is : t.1.layer ≡ J = ap (λ (x : Turn). x.1.layer) is ∙ left.layer in
            plainly (ap (λ (l : Layer Purpose). l.peers) layer_is) (ap (λ (l : Layer Purpose). l.generation) layer_is) forth
            (λ r e k. (let l = ended_leaves r (Unit {0}) purpose ending empty_outbox (called here) plain (λ x. apart_fits r purpose k (subst (Fits purpose) e fits)) in
            ap (λ (x : Turn). x.1.operation) is ∙ l.operation tt e)) (sends_none (ap (λ (x : Turn). x.0.packets) is ∙ left.packets))

        pub ended_call : (purpose : Option Purpose) → IfFor (λ q. Fits q s.operation) purpose → Stands purpose → Ends purpose → t ≡ ended_for purpose ending empty_outbox (called here) → CallRom s t
        ended_call purpose fits forth gone is = by purpose fits forth gone is
          where
            stay : (q : Option Purpose) → ((a : ℕ) → q ≡ Some (purposes.Rom a) → ⊥) → Stands q → (n a : ℕ) → RomAt s.layer s.target n a → RomAt J s.target n a
            stay q never f n a x = pick (f n a x)
              where
                pick : RomAt J s.target n a ⊎ (q ≡ Some (purposes.Rom a)) → RomAt J s.target n a
                pick (inl y) = y
                pick (inr y) = absurd (never a y)

            by : (q : Option Purpose) → IfFor (λ p. Fits p s.operation) q → Stands q → Ends q → t ≡ ended_for q ending empty_outbox (called here) → CallRom s t
            by None f g k e = plainly (ap (λ (x : Turn). x.1.layer.peers) e) (ap (λ (x : Turn). x.1.layer.generation) e) (stay None (λ a x. (let differ : None ≡ Some (purposes.Rom a) = x in cc)) g) (λ r o m. ap (λ (x : Turn). x.1.operation) e ∙ o) (sends_none (ap (λ (x : Turn). x.0.packets) e))
            by (Some (purposes.Rom a)) f g k e = rom_call a (k a refl) e
            by (Some (purposes.Pointer list)) f g k e = other_call (purposes.Pointer list) refl f (stay (Some (purposes.Pointer list)) (λ a x. cc) g) e
            by (Some purposes.Doorbell) f g k e = other_call purposes.Doorbell refl f (stay (Some purposes.Doorbell) (λ a x. cc) g) e
            by (Some (purposes.AgentReset act)) f g k e = other_call (purposes.AgentReset act) refl f (stay (Some (purposes.AgentReset act)) (λ a x. cc) g) e
            by (Some (purposes.Enable act)) f g k e = other_call (purposes.Enable act) refl f (stay (Some (purposes.Enable act)) (λ a x. cc) g) e
            by (Some (purposes.Management act)) f g k e = other_call (purposes.Management act) refl f (stay (Some (purposes.Management act)) (λ a x. cc) g) e
            by (Some (purposes.State act list)) f g k e = other_call (purposes.State act list) refl f (stay (Some (purposes.State act list)) (λ a x. cc) g) e

  -- ---- a packet that it hears
  module _ (generation : ℕ) (bytes : List ℕ) where
    abbrev heard_layer : Layer Purpose
    heard_layer = (judging_step s.layer generation bytes).1

    abbrev finding : Finding Purpose
    finding = (judging_step s.layer generation bytes).0

    abbrev heard_turn : Turn
    heard_turn = (receive_step generation bytes empty_outbox s).1

    called_heard : Called heard_layer
    called_heard = let c = called_layer in record { node = c.node; calls = wire.judges generation bytes ∷ c.calls; is = ap (λ (l : Layer Purpose). (judging_step l generation bytes).1) c.is }

    valid_heard : IsLayer heard_layer
    valid_heard = goes s.layer (wire.judges generation bytes) (judges_same s.layer generation bytes) valid

    back_heard : (n a : ℕ) → RomAt heard_layer s.target n a → RomAt s.layer s.target n a
    back_heard n a x = judge_at s.layer generation bytes s.target n (Some (purposes.Rom a)) called_layer x

    was_heard : (r : Running) → heard_turn.1.operation ≡ Some r → s.operation ≡ Some r
    was_heard r e = was_by s heard_turn.1 _ (hears_left s generation bytes (hears_fit ready i s own generation bytes)) r e

    heard_target : heard_turn.1.target ≡ s.target
    heard_target = (receive_left generation bytes s).target_is

    -- where it is no response
    quietly : ((a : ℕ) → ClosedFor finding (Some (purposes.Rom a)) → ⊥) → (t : Turn) → heard_turn ≡ t → t.1.layer.peers ≡ heard_layer.peers → t.1.layer.generation ≡ heard_layer.generation → IfRom s (λ r. t.1.operation ≡ Some r) → IsQuiet t → CallRom s t
    quietly none t is peers g rom quiet =
        plainly heard_layer called_heard valid_heard (judging_stays s.layer generation bytes) back_heard t (ap (λ (x : Turn). x.1.target) (sym is) ∙ heard_target) (λ r e. was_heard r (ap (λ (x : Turn). x.1.operation) is ∙ e)) peers g
        (λ n a x. forth n a (judge_goes s.layer s.target n (Some (purposes.Rom a)) called_layer x generation bytes)) rom quiet
      where
        forth : (n a : ℕ) → RomAt heard_layer s.target n a ⊎ ClosedFor finding (Some (purposes.Rom a)) → RomAt heard_layer s.target n a
        forth n a (inl y) = y
        forth n a (inr y) = absurd (none a y)

    -- where it is one
    closed : (p : Packet) (label : LabelParts) (purpose : Option Purpose) → finding ≡ of_response p label purpose → (a : ℕ) → purpose ≡ Some (purposes.Rom a) → IsGone heard_layer a
    closed p label purpose e a f =
        let g = e ∙ ap (of_response p label) f in
        let at = closes_at s.layer generation bytes p label (Some (purposes.Rom a)) called_layer g in
        let source_is : (header_in p).source ≡ s.target = aims (header_in p).source label.number (Some (purposes.Rom a)) at in
        record {
          number = label.number;
          at = subst (λ n. RomAt s.layer n label.number a) source_is at;
          none = λ b x. closed_over s.layer generation bytes p label (Some (purposes.Rom a)) called_layer g (Some (purposes.Rom b)) (subst (λ m. At heard_layer m label.number (Some (purposes.Rom b))) (sym source_is) x);
        }

    responded : (p : Packet) (label : LabelParts) (purpose : Option Purpose) → finding ≡ of_response p label purpose → (t : Turn) → heard_turn ≡ t → t ≡ ended_for purpose (ending_of p) empty_outbox (called (record s { layer = heard_layer })) → CallRom s t
    responded p label purpose e t is e2 =
        ended_call heard_layer called_heard valid_heard (judging_stays s.layer generation bytes) back_heard t (ap (λ (x : Turn). x.1.target) (sym is) ∙ heard_target) (λ r o. was_heard r (ap (λ (x : Turn). x.1.operation) is ∙ o)) (ending_of p) purpose
        (fits_by purpose (subst (λ (y : Finding Purpose). IfFits y s) e (hears_fit ready i s own generation bytes)))
        (λ n a x. forth n a (judge_goes s.layer s.target n (Some (purposes.Rom a)) called_layer x generation bytes))
        (closed p label purpose e) e2
      where
        fits_by : (purpose : Option Purpose) → IfFits (of_response p label purpose) s → IfFor (λ q. Fits q s.operation) purpose
        fits_by None x = tt
        fits_by (Some q) x = x.0

        forth : (n a : ℕ) → RomAt heard_layer s.target n a ⊎ ClosedFor finding (Some (purposes.Rom a)) → RomAt heard_layer s.target n a ⊎ (purpose ≡ Some (purposes.Rom a))
        forth n a (inl y) = inl y
        forth n a (inr y) = inr (subst (λ (z : Finding Purpose). ClosedFor z (Some (purposes.Rom a))) e y)

    -- whatever it is
    replied : (p : Packet) (l : Layer Purpose) (rcode : ℕ) (given : List ℕ) (t : Turn) → t.0.packets ≡ (let q : Outgoing = record { to = (header_in p).source; label = None; bytes = (answering_step l p bytes rcode given).0 } in q) ∷ [] → IsQuiet t
    unfolding answering_step
    replied p l rcode given t e = sends_reply (header_in p).source (canon (response_to l.node p rcode given)) (response_replies l.node p rcode given) e

    answers_peers : (p : Packet) (l m : Layer Purpose) (rcode : ℕ) (given : List ℕ) → l ≡ (answering_step m p bytes rcode given).1 → (l.peers ≡ m.peers) × (l.generation ≡ m.generation)
    unfolding answering_step
    answers_peers p l m rcode given e = (ap (λ (x : Layer Purpose). x.peers) e, ap (λ (x : Layer Purpose). x.generation) e)

    closes_none : (f : Finding Purpose) (l : Layer Purpose) → judging_step s.layer generation bytes ≡ (f, l) → ((a : ℕ) → ClosedFor f (Some (purposes.Rom a)) → ⊥) → (a : ℕ) → ClosedFor finding (Some (purposes.Rom a)) → ⊥
    closes_none f l e never a x = never a (subst (λ (z : Finding Purpose). ClosedFor z (Some (purposes.Rom a))) (ap (λ (y : Finding Purpose × Layer Purpose). y.0) e) x)

    again_stays : (p : Packet) (rcode : ℕ) (u : InitiatorState) (r : Running) → u.operation ≡ Some r → (ignored_step causes.Again rcode p bytes (empty_outbox, u)).1.1.operation ≡ Some r
    unfolding answering_step
    again_stays p rcode u r o = o

    by_finding : (x : Finding Purpose × Layer Purpose) → judging_step s.layer generation bytes ≡ x → heard_turn ≡ (received x bytes empty_outbox s).1 → CallRom s (received x bytes empty_outbox s).1
    by_finding (of_generation, l) e is = let k = ap (λ (y : Finding Purpose × Layer Purpose). y.1) e in quietly (closes_none of_generation l e (λ a x. x)) _ is (ap (λ (y : Layer Purpose). y.peers) (sym k)) (ap (λ (y : Layer Purpose). y.generation) (sym k)) (λ r o m. o) (sends_none refl)
    by_finding (of_grammar, l) e is = let k = ap (λ (y : Finding Purpose × Layer Purpose). y.1) e in quietly (closes_none of_grammar l e (λ a x. x)) _ is (ap (λ (y : Layer Purpose). y.peers) (sym k)) (ap (λ (y : Layer Purpose). y.generation) (sym k)) (λ r o m. o) (sends_none refl)
    by_finding (of_label, l) e is = let k = ap (λ (y : Finding Purpose × Layer Purpose). y.1) e in quietly (closes_none of_label l e (λ a x. x)) _ is (ap (λ (y : Layer Purpose). y.peers) (sym k)) (ap (λ (y : Layer Purpose). y.generation) (sym k)) (λ r o m. o) (sends_none refl)
    by_finding (of_response p label purpose, l) e is =
        responded p label purpose (ap (λ (y : Finding Purpose × Layer Purpose). y.0) e) _ is (ap (λ (y : Layer Purpose). ended_for purpose (ending_of p) empty_outbox (called (record s { layer = y }))) (sym (ap (λ (y : Finding Purpose × Layer Purpose). y.1) e)))
    by_finding (of_again p rcode, l) e is =
        let k = ap (λ (y : Finding Purpose × Layer Purpose). y.1) e in
        let u : InitiatorState = record s { layer = l } in
        let a = ignored_again p bytes empty_outbox u rcode in
        let same = answers_peers p _ l a.rcode a.given a.layer in
        quietly (closes_none (of_again p rcode) l e (λ a x. x)) _ is (same.0 ∙ ap (λ (y : Layer Purpose). y.peers) (sym k)) (same.1 ∙ ap (λ (y : Layer Purpose). y.generation) (sym k))
        (λ r o m. again_stays p rcode u r o) (replied p l a.rcode a.given _ a.packets)
    by_finding (of_request p, l) e is =
        let k = ap (λ (y : Finding Purpose × Layer Purpose). y.1) e in
        let u : InitiatorState = record s { layer = l } in
        let a = request_answers bytes empty_outbox u orb p in
        let same = answers_peers p _ l a.rcode a.given a.layer in
        quietly (closes_none (of_request p) l e (λ a x. x)) _ is (same.0 ∙ ap (λ (y : Layer Purpose). y.peers) (sym k)) (same.1 ∙ ap (λ (y : Layer Purpose). y.generation) (sym k))
        (λ r o m. request_stays r (bare r (orb_of r o) m) bytes empty_outbox u o p) (replied p l a.rcode a.given _ a.packets)

    pub heard_call : CallRom s heard_turn
    unfolding receive_step
    heard_call = by_finding (judging_step s.layer generation bytes) refl refl
