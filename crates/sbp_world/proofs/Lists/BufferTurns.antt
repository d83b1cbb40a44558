-- While a status block waits for an initiator, or the target writes one, a turn that is none of the target leaves the initiator's response buffers.
use Rattle.sbp_world.proofs.Words.Std.{arith, ◌≡◌, ◌∙◌, ◌⊎◌, inl, inr, refl, sym, ap, subst, ℕ, suc, ◌<◌, true, false, List, [], ◌∷◌, ◌++◌, map, length, Some, append_assoc, slice_index_or}
use Rattle.sbp_world.proofs.Words.Wire.{as_sending, Kept, Moment, asked, said, terms, Note}
use Rattle.sbp_world.proofs.Words.Target.{Operation, Disk}
use Rattle.sbp_world.proofs.Words.Initiator.{Running, InitiatorState, response_of, place_in}
use Rattle.sbp_world.proofs.Words.Laws.{host_at, known_host, id_for, target_at, EachMoment}
use Rattle.sbp_world.proofs.Words.World.{more_deliveries, AllOfTarget, Scene, WorldState, Stands, HoldsLogin, IsTelling, AreReplied, BufferSo, IsReplying, is_responding}
use Rattle.mgmt_agent.specs.declared.operation.Phase.TheVariants as phases
use Rattle.sbp_journal.specs.declared.note.Note.TheVariants as notes
use Rattle.sbp_world.proofs.Wire.Starts.{laws_of}
use Rattle.sbp_world.proofs.Agents.Management.Holding.{Holding, was_sent}
use Rattle.sbp_world.proofs.Agents.Management.Still.{hist}
use Rattle.sbp_world.proofs.Sessions.Turns.{wire_generation}
use Rattle.sbp_world.proofs.Lists.BufferGets.{replying}
use Rattle.sbp_world.proofs.Lists.BufferStores.{IsOther, IsStoring, Stores, got_stores, note_same, nothing, stores}
use Rattle.sbp_world.proofs.Lists.Courses.{Goes, by_delivery, by_end, by_line, by_start}
use Rattle.sbp_world.proofs.Lists.Judging.{goes_next, grown}
use Rattle.sbp_world.proofs.Lists.LiveRuns.{base_of}
use Rattle.sbp_world.proofs.Lists.LiveTold.{AllAway, IsOwnPacket, TellsAway}
use Rattle.sbp_world.proofs.Lists.LiveTurns.{SameBus}
use Rattle.sbp_world.proofs.Lists.ManageWire.{WireMoments, wire_moments}
use Rattle.sbp_world.proofs.Lists.Rises.{Rises, rises}
use Rattle.sbp_world.proofs.Common.{said_split}

-- ---- by the notes of a turn
-- the history with which it begins
record Opened (before base : List Moment) (i : ℕ) : Type 0 where
  back : List Moment
  is : back ++ before ≡ base
  same : (host_at base i).responses ≡ (host_at before i).responses

opened : (past : List Moment) (s : Scene) (later : List Moment) (t : Scene) (g : Goes past s later t) (i : ℕ) → Opened (hist past s.world) (map said (base_of g) ++ later) i
opened past s later t (by_line past0 s0 line event told one fit may) i = record { back = asked line event ∷ []; is = refl; same = refl }
opened past s later t (by_start past0 s0 line most) i = record { back = asked line (more_deliveries most) ∷ []; is = refl; same = refl }
opened past s later t (by_delivery past0 s0 one may no_act) i = record { back = []; is = refl; same = refl }
opened past s later t (by_end past0 s0 done) i = record { back = []; is = refl; same = refl }

-- a write into a response buffer is got in it
pub record GotIn (before now : List Moment) (kept : List Kept) (i : ℕ) : Type 0 where
  pub serial : ℕ
  pub own : IsOwnPacket kept serial
  pub front : List Moment
  pub mid : List Moment
  pub back : List Moment
  pub is : front ++ said (notes.Got serial) ∷ mid ≡ now
  pub mid_is : back ++ before ≡ mid
  pub storing : IsStoring mid i serial

module _ (before base : List Moment) (i own : ℕ) (kept : List Kept) (o : Opened before base i) where
  abbrev Left : List Note → Type 0
  Left ns = ((host_at (map said ns ++ base) i).responses ≡ (host_at before i).responses) ⊎ GotIn before (map said ns ++ base) kept i

  further : (note : Note) (ns : List Note) → GotIn before (map said ns ++ base) kept i → GotIn before (said note ∷ (map said ns ++ base)) kept i
  further note ns g = record { serial = g.serial; own = g.own; front = said note ∷ g.front; mid = g.mid; back = g.back; is = ap (λ ms. said note ∷ ms) g.is; mid_is = g.mid_is; storing = g.storing }

  on : (note : Note) (ns : List Note) → (host_at (said note ∷ (map said ns ++ base)) i).responses ≡ (host_at (map said ns ++ base) i).responses → Left ns → Left (note ∷ ns)
  on note ns e (inl f) = inl (e ∙ f)
  on note ns e (inr g) = inr (further note ns g)

  got_on : (serial : ℕ) (ns : List Note) → IsOwnPacket kept serial → Stores (map said ns ++ base) i serial → Left ns → Left (notes.Got serial ∷ ns)
  got_on serial ns p (nothing e) l = on (notes.Got serial) ns e l
  got_on serial ns p (stores x) l = inr (record {
    serial = serial;
    own = p;
    front = [];
    mid = map said ns ++ base;
    back = map said ns ++ o.back;
    is = refl;
    mid_is = append_assoc (map said ns) o.back before ∙ ap (λ ms. map said ns ++ ms) o.is;
    storing = x;
  })

  other_on : (note : Note) (ns : List Note) → IsOther note → Left ns → Left (note ∷ ns)
  other_on note ns q l = on note ns (note_same note (map said ns ++ base) (known_host (map said ns ++ base) i).wire i (host_at (map said ns ++ base) i) q) l

  scan : (ns : List Note) → AllAway i own kept ns → Left ns
  scan [] a = inl o.same
  scan (notes.Begin initiators ready ∷ ns) a = absurd a.0
  scan (notes.Got serial ∷ ns) a = got_on serial ns a.0 (got_stores (map said ns ++ base) i serial) (scan ns a.1)
  scan (notes.Sent serial generation from to bytes ∷ ns) a = other_on (notes.Sent serial generation from to bytes) ns tt (scan ns a.1)
  scan (note ∷ ns) a = other_on note ns tt (scan ns a.1)

-- ---- a turn that is none of the target
module _ (units ready : ℕ) (start : List Disk) (past : List Moment) (s : Scene) (later : List Moment) (t : Scene) {lines more : ℕ} (g : Goes past s later t) (h : Holding units ready start past lines s.world) (h_now : Holding units ready start later more t.world) (i : ℕ) (inside : i < length s.world.initiators) (within : i < length t.world.initiators) (away : TellsAway i s.world (base_of g) t.world) (bus : SameBus i s.world t.world) (sources : AllOfTarget (hist later t.world) i) (so : EachMoment (BufferSo start i) (hist past s.world)) where
  abbrev w : WorldState
  w = s.world

  abbrev v : WorldState
  v = t.world

  abbrev before : List Moment
  before = hist past w

  abbrev now : List Moment
  now = hist later v

  abbrev base : List Moment
  base = map said (base_of g) ++ later

  stands : Stands later v
  stands = h_now.sound.stands

  now_is : now ≡ map said away.more ++ base
  now_is = ap (λ ns. map said ns ++ later) away.is ∙ said_split away.more (base_of g) later

  generation_same : (terms now).generation (suc i) ≡ (terms before).generation (suc i)
  generation_same = wire_generation v h_now.sound.stands (suc i) (omega arith) ∙ (bus.own ∙ sym (wire_generation w h.sound.stands (suc i) (omega arith)))

  -- what it got was a response that waited
  pub got_replying : (x : GotIn before now w.store.kept i) → IsReplying start before i x.serial
  got_replying x =
      let grew = grown before now (goes_next past s later t g) in
      replying start i before now grew.new grew.is (laws_of later v stands) (subst (λ ms. (terms ms).injects 0 ≡ false) stands.is.past_is stands.is.fair) (subst WireMoments stands.is.past_is (wire_moments stands.wire stands.reached)) (subst Rises stands.is.past_is (rises stands.wire stands.reached)) sources generation_same so x.front x.mid x.back x.serial x.is x.mid_is x.storing (as_sending x.own.sent) (was_sent w h.sound.stands x.serial x.own.sent x.own.found)

  pub changed : ((host_at now i).responses ≡ (host_at before i).responses) ⊎ GotIn before now w.store.kept i
  changed = subst (λ ms. ((host_at ms i).responses ≡ (host_at before i).responses) ⊎ GotIn before ms w.store.kept i) (sym now_is) (scan before base i _ w.store.kept (opened past s later t g i) away.more away.away)

  module _ (replied : AreReplied start before i) where
    -- a status block waits
    pub told_stays : (serial place : ℕ) → IsTelling start before i serial place → (host_at now i).responses ≡ (host_at before i).responses
    told_stays serial place told = by changed
      where
        by : ((host_at now i).responses ≡ (host_at before i).responses) ⊎ GotIn before now w.store.kept i → (host_at now i).responses ≡ (host_at before i).responses
        by (inl e) = e
        by (inr x) = absurd ((replied x.serial (got_replying x)).silent serial place told)

    -- the target writes it
    pub status_stays : (op : Operation) → (target_at start before).manager.operation ≡ Some op → (terms before).generation 0 ≡ (terms before).generation (suc i) → op.source ≡ id_for (terms before) 0 (suc i) → op.phase ≡ phases.Status → (host_at now i).responses ≡ (host_at before i).responses
    status_stays op is same source phase = by changed
      where
        apart : is_responding phases.Status ≡ true → ⊥
        apart e = cc

        by : ((host_at now i).responses ≡ (host_at before i).responses) ⊎ GotIn before now w.store.kept i → (host_at now i).responses ≡ (host_at before i).responses
        by (inl e) = e
        by (inr x) = absurd (apart (ap is_responding (sym phase) ∙ ((replied x.serial (got_replying x)).waits op is same source).0))

-- ---- the buffers of the memory are those of the history
pub place_small : (running : Running) → place_in running < 2
place_small running = omega arith

pub buffers_same : (old new : List Moment) (i : ℕ) (s t : InitiatorState) → HoldsLogin old i s → HoldsLogin new i t → (host_at new i).responses ≡ (host_at old i).responses → (running : Running) → response_of running t ≡ response_of running s
buffers_same old new i s t h k e running =
    let small = place_small running in
    sym (k.responses.each (place_in running) small) ∙ (ap (λ (xs : List (List ℕ)). slice_index_or xs (place_in running) []) e ∙ h.responses.each (place_in running) small)
