-- The lines of the bus, over every run of `tasks`.
use Rattle.sbp_world.proofs.Words.Std.{reverse, ◌≡◌, ◌∙◌, refl, sym, ap, subst, arith, ℕ, suc, ◌+◌, ◌*◌, ◌^◌, ◌<◌, List, [], ◌∷◌, ◌++◌, length, map}
use Rattle.sbp_world.proofs.Words.Wire.{Moment, asked, said, lists_weight}
use Rattle.sbp_world.proofs.Words.Laws.{BringsLine, LineLaw, initiators, shares}
use Rattle.rbc_disk.specs.Held.{Held}
use Rattle.sbp_journal.specs.Run as journal
use Rattle.sbp_world.proofs.Words.World.{IsLine, journal_entries, moments_behind}
use Rattle.sbp_world.proofs.Wire.Balanced.{CountsIn, begun_in, keys_in}
use Rattle.sbp_world.proofs.Wire.Begun.{NoneBegins, same_initiators}
use Rattle.sbp_world.proofs.Wire.Counted.{most_share, weighs}
use Rattle.sbp_world.proofs.Wire.Entries.{bus_law}
use Rattle.sbp_world.proofs.Wire.Spent.{IsSpent, begins}
use Rattle.sbp_world.specs.Runs.{Entry}
use Rattle.task_world.specs.Lines.{MayHappen, task_happens}
use Rattle.task_world.specs.Making.{first_scene}
use Rattle.task_world.specs.Runs.{AreEntries, after}
use Rattle.task_world.specs.Wire.Keeping.{AreLines}
use Rattle.task_world.specs.Worlds.{begun}
use Rattle.task_world.proofs.Wire.Brings.{begins_none, brings_line, counts_line}
use Rattle.task_world.proofs.Wire.Counts.{Counts}
use Rattle.task_world.proofs.Wire.Holding.{one_initiator}
use Rattle.task_world.proofs.Wire.Runs.{sound_after, task_run}
use Rattle.task_world.proofs.Wire.ToldBytes.{happened_fits}

record BringsAll (line : ℕ) (start : Held) (entries : List Entry) : Type 0 where
  lines : LineLaw start.disks (journal_entries line (task_run start entries) entries)
  counted : initiators (moments_behind line (task_run start entries) entries) ≡ 1
  spent : IsSpent (moments_behind line (task_run start entries) entries) (length entries * most_share) (after (first_scene start) entries).scene.world

brings_all : (line : ℕ) (start : Held) (entries : List Entry) → length entries + 2 < 2 ^ 32 → AreEntries (first_scene start) entries → AreLines entries → BringsAll line start entries
unfolding task_happens MayHappen
brings_all line start [] most all fit = record { lines = (refl, tt); counted = refl; spent = begins line (task_run start []) }
brings_all line start (e ∷ entries) most all fit =
    let so_far = brings_all line start entries (omega arith) all.1 fit.1 in
    let b = sound_after line start entries (omega arith) all.1 fit.1 in
    let s = after (first_scene start) entries in
    let w = s.scene.world in
    let old = moments_behind line (task_run start entries) entries in
    let spent = so_far.spent in
    let one = one_initiator w s.node b.sound in
    let event = subst (IsLine e.event) (sym one) fit.0 in
    let fits = happened_fits e.event e.told s all.0.may in
    let weight : lists_weight w.loads ≡ shares old old = weighs (length w.initiators) (begun_in w.initiators) (keys_in w.initiators) (length entries * most_share) old w.places w.loads spent.counted in
    let weighs_now : lists_weight w.loads ≡ shares (map said w.fresh ++ b.past) (map said w.fresh ++ b.past) = subst (λ p. lists_weight w.loads ≡ shares p p) (sym b.is) weight in
    let same_count : length w.initiators ≡ initiators (map said w.fresh ++ b.past) = one ∙ sym so_far.counted ∙ ap initiators (sym b.is) in
    let brings = brings_line start.disks s b.sound same_count weighs_now e.line e.event e.told all.0.event.here fits all.0.may in
    let none = begins_none start.disks s b.sound same_count weighs_now e.line e.event e.told all.0.event.here fits all.0.may in
    let now : List Moment = asked e.line e.event ∷ (map said w.fresh ++ b.past) in
    let balanced : Counts now (length entries * most_share) (begun s).scene.world = record {
      counted = subst (λ p. CountsIn w.initiators (length entries * most_share) (asked e.line e.event ∷ p) w) (sym b.is) spent.counted;
      states = spent.states;
    } in
    let counts = counts_line start.disks s b.sound (length entries * most_share) (omega arith) e.line e.event e.told all.0.event.here event fits all.0.may balanced in
    let v = (task_happens e.line e.event e.told s).scene.world in
    record {
      lines = (
        subst (λ ns. BringsLine start.disks (journal.history (journal_entries line (task_run start entries) entries)) e.line e.event (reverse ns)) (sym all.0.notes_are)
            (subst (λ p. BringsLine start.disks p e.line e.event (reverse v.fresh)) (b.is ∙ sym (bus_law.tie line (task_run start entries))) brings),
        so_far.lines,
      );
      counted = same_initiators e.notes (asked e.line e.event ∷ old) (subst NoneBegins (sym all.0.notes_are) none) ∙ so_far.counted;
      spent = record {
        counted = subst (λ m. CountsIn v.initiators m (map said e.notes ++ asked e.line e.event ∷ old) v) (let x : length entries * most_share + most_share ≡ suc (length entries) * most_share = omega arith in x)
            (subst (λ ns. CountsIn v.initiators (length entries * most_share + most_share) (map said ns ++ asked e.line e.event ∷ old) v) (sym all.0.notes_are)
            (subst (λ p. CountsIn v.initiators (length entries * most_share + most_share) (map said v.fresh ++ asked e.line e.event ∷ p) v) b.is counts.counted));
        states = counts.states;
      };
    }

pub line_law : (line : ℕ) (start : Held) (entries : List Entry) → length entries + 2 < 2 ^ 32 → AreEntries (first_scene start) entries → AreLines entries → LineLaw start.disks (journal_entries line (task_run start entries) entries)
line_law line start entries most all fit = (brings_all line start entries most all fit).lines
