-- In every run in which no initiator injected packets, what an agent writes as a status is read as a status block (NCITS 325-1998, status block): it names the ORB of a slot, and none of management.
use Rattle.sbp_world.proofs.Words.Std.{arith, ◌≡◌, ◌∙◌, refl, sym, ap, subst, inl, ◌<◌, ◌+◌, ◌*◌, ◌^◌, ◌||◌, ◌==◌, nat_tests, ℕ, zero, suc, Bool, true, false, List, [], length, Ok, slice_index_or, false≢true}
use Rattle.sbp_world.proofs.Words.Wire.{Moment}
use Rattle.sbp_world.proofs.Words.Target.{Desk, Disk, Knows, Machine, Phase, new_desk, plain_in, answer_in, writes_status}
use Rattle.sbp_world.proofs.Words.Initiator.{is_managed_orb, names_place, offset_at, read_block, start, status_bytes, StatusBlock, StatusKind, status_in}
use Rattle.sbp_world.proofs.Words.Laws.{address_of, slot_at}
use Rattle.sbp_world.proofs.Words.World.{Run, WorldState, GoesAlong, IsOpenAt, OpenLists, Under, after, beginning, has_list, initiator_in, is_open_at, machine_at, moments_behind, more_deliveries, new_world}
use Rattle.bus_memory.specs.declared.window.Window.TheVariants as windows
use Rattle.command_agent.specs.declared.phase.Phase.TheVariants as phases
use Rattle.orb_layout.proofs.StatusBack.{status_back}
use Rattle.orb_layout.specs.declared.status.StatusKind.TheVariants as kinds
use Rattle.std.specs.Prelude.{replicate}
use Rattle.sbp_world.specs.Completing.Writes.{IsReadable, ReadableLaw}
use Rattle.sbp_world.specs.Lists.OwnLogins.{IsTame}
use Rattle.sbp_world.proofs.Words.World.{MayStand}
use Rattle.sbp_world.proofs.Completing.FifosWriting.{IsBlock, IsSound, IsWriting, WritesIn, told_writes, writing_closed}
use Rattle.sbp_world.proofs.Common.{delivers}
use Rattle.sbp_world.proofs.Hosts.Runs.{count_after, count_between}
use Rattle.sbp_world.proofs.Lists.Brought.{list}
use Rattle.sbp_world.proofs.Lists.Clauses.{open_lists_law}
use Rattle.sbp_world.proofs.Lists.Courses.{EveryPlace, more_than_one}
use Rattle.sbp_world.proofs.Lists.ListsProved.{closing}
use Rattle.sbp_world.proofs.Lists.MachineTurns.{turn_full}
use Rattle.sbp_world.proofs.Lists.MainSlots as main_slots
use Rattle.sbp_world.proofs.Lists.MainSlotsRuns.{kit_everywhere}
use Rattle.sbp_world.proofs.Lists.ManageAsked.{slots_small}
use Rattle.sbp_world.proofs.Lists.RunTells.{delivery_may}
use Rattle.sbp_world.proofs.Lists.ShortLines.{short_law}
use Rattle.sbp_world.proofs.Lists.StatusBytes.{fields}
use Rattle.sbp_world.proofs.Lists.StatusSteps.{IsFair}
use Rattle.sbp_world.proofs.Lists.Walks.{Walks, walked_after, walked_between}
use Rattle.sbp_world.proofs.Pointers.Proved.{moments_law}
use Rattle.sbp_laws.specs.Turns.{EachMoment}
use Rattle.sbp_world.proofs.Completing.WritesFifos.{never}

-- ---- agents that write a status block
abbrev Nothing : List Moment → WorldState → Type 0
Nothing past w = Unit {0}

abbrev AllWriting : (ℕ → Bool) → List Moment → WorldState → Type 0
AllWriting wild past w = (q : ℕ) → q < 8 → IsWriting (machine_at w q)

writing_walk : (wild : ℕ → Bool) (units ready : ℕ) → 0 < units → (start : List Disk) → Walks wild units ready start Nothing Nothing (AllWriting wild)
writing_walk wild units ready has start past s later t step p =
    turn_full (λ q m. IsWriting m) writing_closed wild past s later t step.turn
    (record {
      ready = step.stands.known_all;
      seats = λ q login e. let k = step.stands.reached.site.held.held q login e in record { holder_is = k.holder; there = k.there; id_is = k.login_is };
      replies = λ serial sent run h found zero_to may p label place judged inside login served which is_which writing.
          told_writes (machine_at s.world place) place (plain_in s.world.target.units s.media.disks login.unit) run which (answer_in p)
          (delivery_may s.world.target step.stands.known_all.good.mid.size step.stands.known_all.good.table.sound sent run s.media may p label place judged login served which is_which) writing;
    })
    p

first_writing : (wild : ℕ → Bool) (line : ℕ) (run : Run) → AllWriting wild (moments_behind line run []) (beginning run).world
unfolding new_world
first_writing wild line run q b = subst (λ (d : Desk). IsWriting d.agent) (sym (new_desks 8 q)) tt
  where
    new_desks : (n p : ℕ) → slice_index_or (replicate n new_desk) p new_desk ≡ new_desk
    new_desks zero p = refl
    new_desks (suc n) zero = refl
    new_desks (suc n) (suc p) = new_desks n p

nothing : Under Nothing
nothing = record { after_lines = λ line run r has small size so_far. tt; between = λ line run r has small size next most told m so_far. tt }

writing_law : Under (AllWriting (λ i. true))
writing_law = record {
  after_lines = λ line run r has small size so_far.
      walked_after Nothing Nothing AllWriting (record { after_lines = λ line run r has small size. tt; between = λ line run r has small size next most told m. tt }) nothing writing_walk first_writing line run r has small size so_far;
  between = λ line run r has small size next most told m so_far.
      walked_between Nothing Nothing AllWriting (record { after_lines = λ line run r has small size. tt; between = λ line run r has small size next most told m. tt }) nothing writing_walk first_writing line run r has small size next (more_deliveries most) (delivers most) told m so_far;
}

-- ---- the bytes
fair : (kind : StatusKind) → IsSound kind → IsFair kind
fair kinds.Good f = tt
fair (kinds.Check sense) f = tt
fair kinds.Dummy f = tt
fair kinds.Aborted f = tt
fair kinds.Failed f = tt
fair (kinds.Illegal meaning) f = among meaning f.0
  where
    among : (v : ℕ) → (v == 1) || ((v == 2) || ((v == 3) || ((v == 6) || ((v == 255) || false)))) ≡ true → v < 256
    among v e = by (v == 1) (v == 2) (v == 3) (v == 6) (v == 255) refl refl refl refl refl e
      where
        by : (a b c d f : Bool) → (v == 1) ≡ a → (v == 2) ≡ b → (v == 3) ≡ c → (v == 6) ≡ d → (v == 255) ≡ f → a || (b || (c || (d || (f || false)))) ≡ true → v < 256
        by true b c d f ea eb ec ed ef h = grind (arith, nat_tests, ea)
        by false true c d f ea eb ec ed ef h = grind (arith, nat_tests, eb)
        by false false true d f ea eb ec ed ef h = grind (arith, nat_tests, ec)
        by false false false true f ea eb ec ed ef h = grind (arith, nat_tests, ed)
        by false false false false true ea eb ec ed ef h = grind (arith, nat_tests, ef)
        by false false false false false ea eb ec ed ef h = absurd (false≢true h)
fair (kinds.Management meaning) f = absurd (false≢true (sym f.1))

unmanaged : (slot : ℕ) → slot < 32 → is_managed_orb (0x1000_0000 + 0x40 * slot) ≡ false
unmanaged slot small = by (0x1000_0000 + 0x40 * slot == 0x1200_0000) (0x1000_0000 + 0x40 * slot == 0x1200_0020) refl refl
  where
    by : (a b : Bool) → (0x1000_0000 + 0x40 * slot == 0x1200_0000) ≡ a → (0x1000_0000 + 0x40 * slot == 0x1200_0020) ≡ b → a || b ≡ false
    by true b e f = absurd (let no : 0x1000_0000 + 0x40 * slot ≡ 0x1200_0000 = grind (arith, nat_tests, e) in let z : ⊥ = omega (arith, no, small) in z)
    by false true e f = absurd (let no : 0x1000_0000 + 0x40 * slot ≡ 0x1200_0020 = grind (arith, nat_tests, f) in let z : ⊥ = omega (arith, no, small) in z)
    by false false e f = refl

-- the block of an ORB in a slot is read
readable : (m : Machine) (slot : ℕ) → slot < 32 → m.present ≡ start (windows.Orb slot) → IsBlock m → IsReadable m.outgoing
readable m slot small at w =
    let one : StatusBlock = record { src = w.src; kind = w.kind; orb = m.present } in
    let low : m.present < 2 ^ 48 = omega (arith, at, small) in
    let kind = w.sound.0 in
    let plain = w.sound.1 in
    let f = fields w.src m.present w.kind (fair w.kind w.sound) w.small low in
    let managed : is_managed_orb (offset_at (status_bytes one) 0) ≡ false = ap is_managed_orb (f.orb_is ∙ at) ∙ unmanaged slot small in
    let named : names_place (status_bytes one) ≡ false = never _ (is_managed_orb (offset_at (status_bytes one) 0)) managed in
    let read : read_block false (status_bytes one) ≡ Ok one = subst (λ b. read_block b (status_bytes one) ≡ Ok one) plain (status_back one (record { src = w.small; managed = λ e. absurd (false≢true (sym plain ∙ e)); kind = kind; orb = low })) in
    record { block = one; reads = subst (λ xs. status_in xs ≡ Ok one) (sym w.bytes) (subst (λ b. read_block b (status_bytes one) ≡ Ok one) (sym named) read) }

-- ---- at a place
pub record Kit (start : List Disk) (past : List Moment) (w : WorldState) : Type 0 where
  pub lists : main_slots.Kit start past w
  pub writing : (q : ℕ) → q < 8 → IsWriting (machine_at w q)
  pub moments : (i : ℕ) → i < length w.initiators → EachMoment (MayStand i) past

module _ (start : List Disk) (ms : List Moment) (w : WorldState) (kit : Kit start ms w) (tame : IsTame ms) where
  open_lists : OpenLists ms w
  open_lists = kit.lists.ground.lists (inl tame)

  module _ (place : ℕ) (small : place < 8) where
    abbrev m : Machine
    m = machine_at w place

    abbrev j : ℕ
    j = initiator_in w place

    module _ (opened : is_open_at w place ≡ true) where
      o : IsOpenAt ms w place
      o = open_lists.listed place small opened (tame j)

      goes : GoesAlong ms j o.n m
      goes = kit.lists.ground.along.all place small opened (tame j) o.n o.list

      of_slot : (last : ℕ) → m.present ≡ address_of ms j o.n last → IsBlock m → IsReadable m.outgoing
      of_slot last at block = readable m (slot_at ms j o.n last) (slots_small j ms (kit.moments j o.inside) o.n last) at block

    by_phase : (phase : Phase) → m.phase ≡ phase → writes_status phase ≡ true → IsReadable m.outgoing
    by_phase phases.WritingStatus e s =
        let opened : is_open_at w place ≡ true = ap has_list e in
        let g = goes opened in
        let k = subst (λ p. Knows (list ms j (o opened).n) g.progress p m) e g.along.main in
        of_slot opened k.over.last k.over.place (subst (λ p. WritesIn p m) e (kit.writing place small))
    by_phase phases.WritingLastStatus e s =
        let opened : is_open_at w place ≡ true = ap has_list e in
        let g = goes opened in
        let k = subst (λ p. Knows (list ms j (o opened).n) g.progress p m) e g.along.main in
        of_slot opened k.over.last k.over.place (subst (λ p. WritesIn p m) e (kit.writing place small))
    by_phase phases.Fetching e s = absurd (false≢true s)
    by_phase phases.ReadingTable e s = absurd (false≢true s)
    by_phase (phases.ReadingData wanted) e s = absurd (false≢true s)
    by_phase phases.Answering e s = absurd (false≢true s)
    by_phase phases.ReadingNext e s = absurd (false≢true s)
    by_phase phases.Reset e s = absurd (false≢true s)
    by_phase phases.Suspended e s = absurd (false≢true s)
    by_phase phases.Dead e s = absurd (false≢true s)

kits : EveryPlace Kit
kits =
    let lists = kit_everywhere short_law open_lists_law in
    let writes = writing_law in
    record {
      after_lines = λ line run r has small size so_far. record {
        lists = lists.after_lines line run r has small size so_far;
        writing = writes.after_lines line run r has small size so_far;
        moments = λ i b. moments_law.after_lines line run r i (subst (λ n. i < n) (count_after run run.entries) b);
      };
      between = λ line run r has small size next most told m so_far. record {
        lists = lists.between line run r has small size next most told m so_far;
        writing = writes.between line run r has small size next most told m so_far;
        moments = λ i b. moments_law.between line run r next most told m i (subst (λ n. i < n) (count_after run run.entries) (subst (λ n. i < n) (count_between told (after (beginning run) run.entries)) b));
      };
    }

pub readable_law : ReadableLaw
readable_law = record {
  after_lines = λ line run r has small size tame place b s.
      by_phase run.start.disks _ _ (kits.after_lines line run r has small size (closing.before open_lists_law line run r has small size (inl tame))) tame place b _ refl s;
  between = λ line run r has small size next most told m tame place b s.
      by_phase run.start.disks _ _ (kits.between line run r has small size next most told m (closing.between open_lists_law line run r has small size next (more_deliveries most) (more_than_one most) told m (inl tame))) tame place b _ refl s;
}
