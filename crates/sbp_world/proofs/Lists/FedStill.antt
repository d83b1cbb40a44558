-- What an agent has of its ORB, by the response that brought it, and of the reads since it turned to it: what is known of that response goes on with it.
use Rattle.sbp_world.proofs.Words.Std.{◌≡◌, ◌∙◌, refl, sym, ap, subst, ℕ, true, false, List, [], ◌∷◌, ◌++◌}
use Rattle.sbp_world.proofs.Words.Wire.{Moment, asked, said, Note}
use Rattle.sbp_world.proofs.Words.Target.{Phase, ReadAhead, Machine, awaits_run, Disk}
use Rattle.sbp_world.proofs.Words.Initiator.{CommandOrb, command_orb, Answer, Segment}
use Rattle.sbp_world.proofs.Words.Laws.{Moved}
use Rattle.sbp_world.proofs.Words.World.{has_list, moves_data, AllAhead, HasOrbAhead, main_read, own_reads, AllAwaited, IsAwaited}
use Rattle.command_agent.specs.declared.phase.Phase.TheVariants as phases
use Rattle.sbp_journal.specs.declared.note.Note.TheVariants as notes
use Rattle.sbp_world.proofs.Lists.FedGoing.{IsNoGot, same_reads}
use Rattle.sbp_world.proofs.Lists.FedSteps.{Feeding, Hears, IsFed, Tabling, none_awaits}
use Rattle.sbp_world.proofs.Lists.OrbReading.{ahead_more}
use Rattle.sbp_world.proofs.Lists.OrbSteps.{ReadAheadOf, has_read}
use Rattle.sbp_world.proofs.Common.{untrue}

-- ---- the agent of a place waits for an answer of the initiator that has the place
abbrev pub Awaits : List Disk → (ℕ → ℕ → Type 0) → List Moment → ℕ → Type 0
Awaits start Owner past place = (i : ℕ) → Owner place i → IsAwaited start past i place

same_awaited : (start : List Disk) (m : Moment) → IsNoGot m → (i place : ℕ) (later before : List Moment) → AllAwaited start i place later before → AllAwaited start i place (m ∷ later) before
same_awaited start (asked line event) n i place later before a = a
same_awaited start (said note) n i place later before a = by note n
  where
    by : (note : Note) → IsNoGot (said note) → AllAwaited start i place (said note ∷ later) before
    by (notes.Got serial) n = absurd n
    by note n = a

-- and it has an ORB read ahead
abbrev pub Spares : List Disk → (ℕ → ℕ → Type 0) → List Moment → ℕ → ℕ → Type 0
Spares start Owner past place at = (i : ℕ) → Owner place i → HasOrbAhead start past i place at

same_ahead : (start : List Disk) (m : Moment) → IsNoGot m → (i place at : ℕ) (later before : List Moment) → AllAhead start i place at later before → AllAhead start i place at (m ∷ later) before
same_ahead start (asked line event) n i place at later before a = a
same_ahead start (said note) n i place at later before a = by note n
  where
    by : (note : Note) → IsNoGot (said note) → AllAhead start i place at (said note ∷ later) before
    by (notes.Got serial) n = absurd n
    by note n = a

-- ---- a response brought an ORB
-- `Known` of it, as it was got
module _ (start : List Disk) (Known : ℕ → ℕ → CommandOrb → ℕ → List Moment → Type 0) (Owner : ℕ → ℕ → Type 0) where
  -- and the agent had it read ahead as each packet was got since
  pub record ReadBy (past : List Moment) (place at : ℕ) (orb : CommandOrb) : Type 0 where
    pub response : ℕ
    pub earlier : List Moment
    pub later : List Moment
    pub is : later ++ said (notes.Got response) ∷ earlier ≡ past
    pub known : Known place at orb response earlier
    pub ahead : (i : ℕ) → Owner place i → AllAhead start i place at later (said (notes.Got response) ∷ earlier)

  pub read_on : (m : Moment) → IsNoGot m → (past : List Moment) (place at : ℕ) (orb : CommandOrb) → ReadBy past place at orb → ReadBy (m ∷ past) place at orb
  read_on m n past place at orb r =
      record { response = r.response; earlier = r.earlier; later = m ∷ r.later; is = ap (λ ms. m ∷ ms) r.is; known = r.known; ahead = λ i own. same_ahead start m n i place at r.later _ (r.ahead i own) }

  pub read_by_got : (serial : ℕ) (past : List Moment) (place at : ℕ) (orb : CommandOrb) → Spares start Owner past place at → ReadBy past place at orb → ReadBy (said (notes.Got serial) ∷ past) place at orb
  read_by_got serial past place at orb spares r =
      let m = said (notes.Got serial) in
      record { response = r.response; earlier = r.earlier; later = m ∷ r.later; is = ap (λ ms. m ∷ ms) r.is; known = r.known; ahead = λ i own. (subst (λ ms. HasOrbAhead start ms i place at) (sym r.is) (spares i own), r.ahead i own) }

module _ (start : List Disk) (Known : ℕ → ℕ → CommandOrb → ℕ → List Moment → Type 0) (Owner : ℕ → ℕ → Type 0) where
  -- the agent turned to an ORB that a response brought, and its reads brought these since; and it waited for its initiator as each packet was got
  pub record TurnedBy (past : List Moment) (place at : ℕ) (orb : CommandOrb) (reads : List Moved) : Type 0 where
    pub response : ℕ
    pub earlier : List Moment
    pub later : List Moment
    pub between : List Moment
    pub is : later ++ (between ++ said (notes.Got response) ∷ earlier) ≡ past
    pub reads_are : reads ≡ own_reads start place later (between ++ said (notes.Got response) ∷ earlier)
    pub known : Known place at orb response earlier
    pub awaited : (i : ℕ) → Owner place i → AllAwaited start i place later (between ++ said (notes.Got response) ∷ earlier)
    pub ahead : (i : ℕ) → Owner place i → AllAhead start i place at between (said (notes.Got response) ∷ earlier)

  pub turns_by : (past : List Moment) (place at : ℕ) (orb : CommandOrb) → ReadBy start Known Owner past place at orb → TurnedBy past place at orb []
  turns_by past place at orb r = record { response = r.response; earlier = r.earlier; later = []; between = r.later; is = r.is; reads_are = refl; known = r.known; awaited = λ i own. tt; ahead = r.ahead }

  pub turned_on : (m : Moment) → IsNoGot m → (past : List Moment) (place at : ℕ) (orb : CommandOrb) (reads : List Moved) → TurnedBy past place at orb reads → TurnedBy (m ∷ past) place at orb reads
  turned_on m n past place at orb reads t = record {
    response = t.response;
    earlier = t.earlier;
    later = m ∷ t.later;
    between = t.between;
    is = ap (λ ms. m ∷ ms) t.is;
    reads_are = t.reads_are ∙ sym (same_reads start m n place t.later _);
    known = t.known;
    awaited = λ i own. same_awaited start m n i place t.later _ (t.awaited i own);
    ahead = t.ahead;
  }

  pub turned_by_got : (serial : ℕ) (past : List Moment) (place at : ℕ) (orb : CommandOrb) (reads more : List Moved) → Awaits start Owner past place → main_read start past place serial ≡ more → TurnedBy past place at orb reads → TurnedBy (said (notes.Got serial) ∷ past) place at orb (reads ++ more)
  turned_by_got serial past place at orb reads more waits e t =
      let m = said (notes.Got serial) in
      record {
        response = t.response;
        earlier = t.earlier;
        later = m ∷ t.later;
        between = t.between;
        is = ap (λ ms. m ∷ ms) t.is;
        reads_are = ap (λ xs. xs ++ more) t.reads_are ∙ ap (λ xs. own_reads start place t.later (t.between ++ said (notes.Got t.response) ∷ t.earlier) ++ xs) (sym e ∙ ap (λ ms. main_read start ms place serial) (sym t.is));
        known = t.known;
        awaited = λ i own. (subst (λ ms. IsAwaited start ms i place) (sym t.is) (waits i own), t.awaited i own);
        ahead = t.ahead;
      }

-- ---- agents that are alike
module _ (R : ℕ → CommandOrb → Type 0) (T : ℕ → CommandOrb → List Moved → Type 0) (a m : Machine) (phase : a.phase ≡ m.phase) (present : a.present ≡ m.present) (orb : a.orb ≡ m.orb) (payload : a.payload ≡ m.payload) (segments : moves_data m.phase ≡ true → a.segments ≡ m.segments) (ahead : a.ahead ≡ m.ahead) where
  like : (P : ℕ → CommandOrb → List ℕ → Type 0) → P a.present a.orb a.payload → P m.present m.orb m.payload
  like P h = subst (λ x. P m.present m.orb x) payload (subst (λ (x : CommandOrb). P m.present x a.payload) orb (subst (λ x. P x a.orb a.payload) present h))

  pub fed_alike : IsFed R T a → IsFed R T m
  fed_alike h = record {
    main = record {
      fetching = λ e. sym payload ∙ h.main.fetching (phase ∙ e);
      tabling = λ e. like (λ at orb payload. Tabling T at orb payload) (h.main.tabling (phase ∙ e));
      filling = λ wanted e.
          subst (λ (xs : List Segment). Feeding T m.present m.orb xs m.payload wanted) (segments (ap moves_data e))
          (like (λ at orb payload. Feeding T at orb a.segments payload wanted) (h.main.filling wanted (phase ∙ e)));
    };
    ahead = subst (λ (x : ReadAhead). ReadAheadOf R m.orb.next x) ahead (subst (λ (o : CommandOrb). ReadAheadOf R o.next a.ahead) orb h.ahead);
    idle = λ e. sym ahead ∙ h.idle (ap has_read phase ∙ e);
  }

-- without a list it waits for no data, and has none
pub unlisted : (phase : Phase) → has_list phase ≡ false → (awaits_run phase ≡ false) × (has_read phase ≡ false)
unlisted phases.Reset e = (refl, refl)
unlisted phases.Dead e = (refl, refl)
unlisted phases.Fetching e = untrue (sym e)
unlisted phases.ReadingTable e = untrue (sym e)
unlisted (phases.ReadingData wanted) e = untrue (sym e)
unlisted phases.Answering e = untrue (sym e)
unlisted phases.WritingStatus e = untrue (sym e)
unlisted phases.WritingLastStatus e = untrue (sym e)
unlisted phases.ReadingNext e = untrue (sym e)
unlisted phases.Suspended e = untrue (sym e)

module _ (R S : ℕ → CommandOrb → Type 0) (T U : ℕ → CommandOrb → List Moved → Type 0) (m : Machine) where
  pub closed_feeds : has_list m.phase ≡ false → IsFed R T m → IsFed S U m
  closed_feeds closed h =
      let no = unlisted m.phase closed in
      let idle = h.idle no.1 in
      record { main = none_awaits U m no.0; ahead = subst (ReadAheadOf S m.orb.next) (sym idle) tt; idle = λ e. idle }

-- ---- what the answer to a main transaction brings
module _ (R S : ℕ → CommandOrb → Type 0) (T U : ℕ → CommandOrb → List Moved → Type 0) (turn : (at : ℕ) (orb : CommandOrb) → R at orb → T at orb []) (turn_now : (at : ℕ) (orb : CommandOrb) → S at orb → U at orb []) (m : Machine) (answer : Answer) (read : (at : ℕ) (orb : CommandOrb) → R at orb → S at orb) (turned : (at : ℕ) (orb : CommandOrb) (reads : List Moved) → T at orb reads → U at orb reads) where
  pub hears_so : Hears R T turn m answer → Hears S U turn_now m answer
  hears_so h = record {
    fetched = λ e. let f = h.fetched e in (f.0, λ bytes p. read m.present (command_orb bytes) (f.1 bytes p));
    tabled = λ e. let f = h.tabled e in (f.0, (f.1.0, λ bytes p. turned m.present m.orb _ (f.1.1 bytes p)));
    filled = λ wanted e bytes p. let d = h.filled wanted e bytes p in record { tables = d.tables; pieces = d.pieces; turned = turned m.present m.orb (d.tables ++ d.pieces) d.turned; table = d.table; bytes = d.bytes; turn = d.turn };
    ahead = ahead_more R S read m.orb.next m.ahead h.ahead;
    idle = h.idle;
  }
