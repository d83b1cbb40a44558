-- As a good status is taken, the writes of the data of its ORB have brought the chunks of its buffer, each once and in order; so the answer is their bytes.
use Rattle.sbp_world.proofs.Words.Std.{filter, inl, inr, arith, ◌≡◌, ◌∙◌, refl, sym, ap, subst, ◌+◌, ◌^◌, ◌==◌, ℕ, Bool, true, false, cond, List, [], ◌∷◌, ◌++◌, map, Some}
use Rattle.sbp_world.proofs.Words.Wire.{Sending, Moment, asked, said, Cmd, terms}
use Rattle.sbp_world.proofs.Words.Target.{Disk}
use Rattle.sbp_world.proofs.Words.Initiator.{Segment, bytes_of}
use Rattle.sbp_world.proofs.Words.Laws.{begins_one, laid_out, pieces_of, writes_since, command_at, prepared_in, slot_at, EachMoment}
use Rattle.sbp_world.proofs.Words.World.{IsDataOf, GoodEnds, IsTakenOf, TakenOfOne, BroughtOf, IsBroughtAnswer, IsTakenSo, TakenSo, AreInTurn, AreOfTarget, IsGathered, piece_of, written_of, IsTakenBy, TakenOf, IsWrittenTo}
use Rattle.sbp_world.proofs.Lists.FedPieces.{all_bytes}
use Rattle.std.specs.Prelude.{take}
use Rattle.sbp_world.specs.Hosts.Answers.{IsAnswerOf}
use Rattle.sbp_world.proofs.Hosts.BytePlaces.{buffer_length}
use Rattle.sbp_world.proofs.Lists.AnswersCarriedEnds.{Wrote, has_none, has_written, ran, wrote}
use Rattle.sbp_world.proofs.Lists.ManageWire.{WireAt, WireMoments}
use Rattle.sbp_world.proofs.Lists.Sights.{SightAt}
use Rattle.sbp_world.proofs.Lists.AnswersCarriedBefore.{WasSentThen, WereDataWritten, apart_from, has_run, known_from}
use Rattle.sbp_world.proofs.Lists.AnswersCarriedChunks.{front_none, front_whole}
use Rattle.sbp_world.proofs.Lists.AnswersCarriedTracks.{IsReady, Tracked, all_written, not_yet, tracked_now, up_to}
use Rattle.sbp_world.proofs.Lists.StatusKnown.{IsKnown, each_from, waits_so}
use Rattle.orb_layout.specs.declared.status.StatusKind.TheVariants as kinds
use Rattle.sbp_journal.specs.declared.note.Note.TheVariants as notes
use Rattle.sbp_world.proofs.Hosts.Deliveries.{GotsIn}
use Rattle.sbp_world.proofs.Hosts.SentMoments.{sent_below}
use Rattle.sbp_world.proofs.Lists.AnswersCarriedLines.{AreFit, fills_slot, fit_from}
use Rattle.sbp_world.proofs.Lists.AnswersCarriedWrites.{positive}
use Rattle.sbp_world.proofs.Lists.DataClosed.{IsSound, sound_from}
use Rattle.sbp_world.proofs.Lists.DataSequences.{in_sequence}
use Rattle.sbp_world.proofs.Lists.SlotShut.{AllApart}
use Rattle.sbp_world.proofs.Lists.Slots.{IsFilled}
use Rattle.sbp_world.proofs.Lists.Stands.{Stands, standing}
use Rattle.sbp_world.proofs.Lists.StatusMoments.{latest_of}
use Rattle.sbp_world.proofs.Common.{same_number}

gots_of : (past : List Moment) → WireMoments past → GotsIn WasSentThen past
gots_of [] w = tt
gots_of (said (notes.Got serial) ∷ past) w = ((w.0.packet, w.0.sent), gots_of past w.1)
gots_of (asked line event ∷ past) w = gots_of past w.1
gots_of (said note ∷ past) w = gots_of past w.1

module _ (start : List Disk) (wild : ℕ → Bool) (i : ℕ) (own : wild i ≡ false) where
  -- what each history of a run is
  pub record IsHad (past : List Moment) : Type 0 where
    pub sound : IsSound start wild i own past
    pub known : IsKnown wild past i
    pub apart : AllApart past i
    pub wires : WireMoments past
    pub sights : EachMoment SightAt past
    pub good : EachMoment (GoodEnds i) past
    pub of_one : EachMoment (TakenOfOne i) past
    pub fit : AreFit past

  pub had_from : (later before : List Moment) → IsHad (later ++ before) → IsHad before
  had_from later before h = record {
    sound = sound_from start wild i own later before h.sound;
    known = known_from wild i later before h.known;
    apart = apart_from i later before h.apart;
    wires = each_from WireAt later before h.wires;
    sights = each_from SightAt later before h.sights;
    good = each_from (GoodEnds i) later before h.good;
    of_one = each_from (TakenOfOne i) later before h.of_one;
    fit = fit_from later before h.fit;
  }

  -- each machine that wrote data of an ORB had this answer
  abbrev pub AreAnswersOf : List Moment → (n k : ℕ) → List ℕ → Type 0
  AreAnswersOf past n k xs = (serial slot : ℕ) (packet : Sending) (d : IsDataOf start past i n k serial packet slot) → d.was.machine.answer ≡ xs

  -- the answer is of that of these machines, or the buffer has no bytes
  pub data IsWhose (past : List Moment) (n k : ℕ) (answer : List ℕ) (cmd : Cmd) : Type 0 where
    of_data : WereDataWritten start past i n k → (count : ℕ) → ((xs : List ℕ) → AreAnswersOf past n k xs → answer ≡ take count xs) → IsWhose past n k answer cmd
    of_none : (cmd.to_initiator ≡ true → cmd.length ≡ 0) → IsWhose past n k answer cmd

  pub record IsWhole (past : List Moment) (n k : ℕ) (answer : List ℕ) : Type 0 where
    pub brought : IsBroughtAnswer past i n k answer
    pub cmd : Cmd
    pub command : command_at past i n k ≡ Some cmd
    pub whose : IsWhose past n k answer cmd

  module _ (past : List Moment) (h : IsHad past) (n k : ℕ) (answer : List ℕ) (so : IsTakenSo past i n k kinds.Good) (by : IsTakenBy past i n k kinds.Good) (of_one : IsTakenOf past i n k kinds.Good) (gathered : IsGathered past i n k answer) (cmd : Cmd) (command : command_at past i n k ≡ Some cmd) where
    abbrev pub slot : ℕ
    slot = slot_at past i n k

    abbrev pub segments : List Segment
    segments = laid_out slot cmd cmd.segments

    gots : GotsIn WasSentThen past
    gots = gots_of past h.wires

    stood : Stands (prepared_in past i) slot n k
    stood =
        let w = waits_so past i n k by.waits in
        standing wild past h.known.passes i n k (latest_of wild past h.known.passes i n w.present) w.appended w.none

    filled : IsFilled slot cmd
    filled = fills_slot past h.fit i n k cmd command slot

    -- ---- where data were written
    module _ (inward : cmd.to_initiator ≡ true) (data_written : WereDataWritten start past i n k) where
      proper : kinds.Good ≡ kinds.Failed → ⊥
      proper f = cc

      whole : IsWrittenTo start past i n k ((terms past).count + 1) (bytes_of segments)
      whole = (in_sequence start wild i own past h.sound).ended n k data_written.serial data_written.slot data_written.packet kinds.Good data_written.of of_one.ended proper data_written.current cmd command

      ready : IsReady start wild i own past h.sound h.known h.apart gots n k slot stood.small cmd filled (inl inward) command past (bytes_of segments)
      ready =
          all_written start wild i own past h.sound h.known h.apart gots n k slot stood.small cmd filled (inl inward) command stood.last ((terms past).count + 1)
          (λ serial place one d. let low = sent_below past serial one h.sound.serials d.sent.is in omega (arith, low)) whole

      in_turn : AreInTurn past i slot cmd
      in_turn =
          ap (map piece_of) ready.of_buffer
          ∙ front_whole segments (2 ^ (cmd.max_payload + 2)) (positive slot stood.small cmd filled) (bytes_of segments) (map piece_of ready.front) ready.ready refl

      of_target : AreOfTarget past i n k cmd
      of_target = ready.of_target ∙ (sym ready.of_buffer ∙ ap (λ b. cond b (written_of past i slot cmd) []) (sym inward))

      told_by : (xs : List ℕ) → AreAnswersOf past n k xs → answer ≡ take (bytes_of segments) xs
      told_by xs e = gathered.joins cmd command inward in_turn ∙ (ap all_bytes ready.of_buffer ∙ ready.told xs (λ serial place one d. e serial place one d))

      written_answer : IsBroughtAnswer past i n k answer
      written_answer = record { cmd = cmd; command = command; in_turn = λ e. in_turn; of_target = of_target; carried = gathered.carried cmd command (λ e. in_turn) of_target }

    -- ---- where none were
    module _ (empty : cmd.to_initiator ≡ true → cmd.length ≡ 0) (none : (serial place : ℕ) (packet : Sending) → IsDataOf start past i n k serial packet place → ⊥) (ran : has_run past i n k ≡ true) where
      record IsBare : Type 0 where
        targets : filter (begins_one (pieces_of slot cmd)) (writes_since past i n k) ≡ []
        buffers : written_of past i slot cmd ≡ []

      bare : IsBare
      bare = by_tracked (tracked_now start wild i own past h.sound h.known h.apart gots n k slot stood.small cmd filled (inr none) command stood.last)
        where
          by_tracked : Tracked start wild i own past h.sound h.known h.apart gots n k slot stood.small cmd filled (inr none) command past → IsBare
          by_tracked (not_yet f g h) = record { targets = f ran; buffers = g }
          by_tracked (up_to l) = absurd (none l.serial l.place l.packet l.of)

      no_bytes : cmd.to_initiator ≡ true → 0 ≡ bytes_of segments
      no_bytes to = sym (empty to) ∙ (sym filled.length_is ∙ buffer_length segments)

      bare_turn : cmd.to_initiator ≡ true → AreInTurn past i slot cmd
      bare_turn to =
          ap (map piece_of) bare.buffers
          ∙ front_whole segments (2 ^ (cmd.max_payload + 2)) (positive slot stood.small cmd filled) 0 [] (front_none segments (2 ^ (cmd.max_payload + 2))) (no_bytes to)

      bare_target : AreOfTarget past i n k cmd
      bare_target = bare.targets ∙ by_direction cmd.to_initiator
        where
          by_direction : (b : Bool) → [] ≡ cond b (written_of past i slot cmd) []
          by_direction true = sym bare.buffers
          by_direction false = refl

      bare_answer : IsBroughtAnswer past i n k answer
      bare_answer = record { cmd = cmd; command = command; in_turn = bare_turn; of_target = bare_target; carried = gathered.carried cmd command bare_turn bare_target }

    by_wrote : Wrote start wild i own past h.sound h.known h.wires h.sights h.good n k so of_one by stood.last → IsWhole past n k answer
    by_wrote (has_written to x) = record { brought = written_answer (to cmd command) x; cmd = cmd; command = command; whose = of_data x (bytes_of segments) (told_by (to cmd command) x) }
    by_wrote (has_none empty none) =
        record { brought = bare_answer (λ to. empty cmd command to) none (ran start wild i own past h.sound h.known h.wires h.sights h.good n k so of_one by stood.last); cmd = cmd; command = command; whose = of_none (λ to. empty cmd command to) }

    pub brought_answer : IsWhole past n k answer
    brought_answer = by_wrote (wrote start wild i own past h.sound h.known h.wires h.sights h.good n k so of_one by stood.last)

  -- ---- at each moment of a history
  abbrev pub WholeAt : Moment → List Moment → Type 0
  WholeAt (said (notes.Taken j n k kinds.Good answer)) past = j ≡ i → IsWhole past n k answer
  WholeAt moment past = Unit {0}

  -- what is known of the answer of each status that is taken
  pub record IsTold (past : List Moment) (n k : ℕ) (answer : List ℕ) : Type 0 where
    pub held : IsAnswerOf past i n k answer
    pub gathered : IsGathered past i n k answer

  pub each_whole : (past : List Moment) → IsHad past → ((later before : List Moment) (n k : ℕ) (answer : List ℕ) → later ++ said (notes.Taken i n k kinds.Good answer) ∷ before ≡ past → IsTold before n k answer) → EachMoment WholeAt past
  each_whole [] h g = tt
  each_whole (said (notes.Taken j n k kinds.Good answer) ∷ past) h g =
      (taken_here, each_whole past (had_from (said (notes.Taken j n k kinds.Good answer) ∷ []) past h) (λ later before a b c e. g (said (notes.Taken j n k kinds.Good answer) ∷ later) before a b c (ap (λ ms. said (notes.Taken j n k kinds.Good answer) ∷ ms) e)))
    where
      taken_here : WholeAt (said (notes.Taken j n k kinds.Good answer)) past
      taken_here e =
          let same : (i == j) ≡ true = subst (λ x. (i == x) ≡ true) (sym e) (same_number i) in
          let told : TakenSo i (said (notes.Taken j n k kinds.Good answer)) past = h.sound.taken.0 in
          let taking : TakenOf i (said (notes.Taken j n k kinds.Good answer)) past = h.known.takings.0 in
          let one : TakenOfOne i (said (notes.Taken j n k kinds.Good answer)) past = h.of_one.0 in
          let x = g [] past n k answer (ap (λ x. said (notes.Taken x n k kinds.Good answer) ∷ past) (sym e)) in
          brought_answer past (had_from (said (notes.Taken j n k kinds.Good answer) ∷ []) past h) n k answer (told same) (taking same) (one same) x.gathered x.held.cmd x.held.command
  each_whole (m ∷ past) h g = (tt, each_whole past (had_from (m ∷ []) past h) (λ later before a b c e. g (m ∷ later) before a b c (ap (λ ms. m ∷ ms) e)))

  pub all_brought : (past : List Moment) → EachMoment WholeAt past → EachMoment (BroughtOf i) past
  all_brought [] w = tt
  all_brought (said (notes.Taken j n k kinds.Good answer) ∷ past) w = ((λ e. (w.0 e).brought), all_brought past w.1)
  all_brought (m ∷ past) w = (tt, all_brought past w.1)
