-- At each place of every run where nothing was lost none of the target's labels rests; and nothing was lost where the run is lossless.
use Rattle.sbp_world.proofs.Words.Std.{arith, ◌≡◌, ◌∙◌, refl, sym, ap, subst, ℕ, ◌==◌, true, false, List, [], ◌∷◌, ◌++◌, map}
use Rattle.sbp_world.proofs.Words.Wire.{Held, Moment, Note, Terms, asked, free, history, rests, said, shape, shape_of, state_for, terms, waits}
use Rattle.sbp_world.proofs.Words.Target.{Disk}
use Rattle.sbp_world.proofs.Words.Laws.{LineLaw, id_for, to_peer}
use Rattle.sbp_world.proofs.Words.World.{AreEntries, AreLines, Entry, Run, Stands, WorldState, after, after_all, beginning, begun, history_of, moments_behind, more_deliveries}
use Rattle.bus_transactions.specs.Carried.{AreKept, AreKeptBy, IsOfOther, LatestLaw, NoRestLaw, NoneRests}
use Rattle.bus_transactions.specs.Rows.{resting}
use Rattle.bus_transactions.proofs.Carried.{no_rest_always}
use Rattle.bus_transactions.proofs.Latest.{latest_always}
use Rattle.sbp_journal.specs.declared.cause.Cause.TheVariants as causes
use Rattle.sbp_journal.specs.declared.note.Note.TheVariants as notes
use Rattle.sbp_laws.specs.Budget.{HaveNoLoss, Lossless, is_of_generation, since_reset}
use Rattle.sbp_world.specs.Completing.Labels.{LosesNothing, LosslessLaw, NoneAtRest, NoneRestsLaw}
use Rattle.sbp_world.specs.Wire.Journal.{journal_entries}
use Rattle.sbp_world.proofs.Agents.Purposes.{labels}
use Rattle.sbp_world.proofs.Common.{same_number, untrue}
use Rattle.sbp_world.proofs.Completing.LabelsPlaces.{IsHolding, holding_everywhere}
use Rattle.sbp_world.proofs.Counting.StartCounted.{none_at, none_between}
use Rattle.sbp_world.proofs.Wire.Begun.{NoneBegins, is_begin}
use Rattle.sbp_world.proofs.Wire.Entries.{bus_law}

-- ---- without a loss, by the terms at the end
abbrev Ties : Terms → List Moment → Type 0
Ties now past = HaveNoLoss now (since_reset past) → AreKeptBy (λ s before. IsOfOther now s) past

other_of : (now : Terms) (s : ℕ) → is_of_generation (now.sent s) now.bus ≡ false → IsOfOther now s
other_of now s e q sent g =
    let same : (q.generation == now.bus) ≡ true = ap (λ n. q.generation == n) (sym g) ∙ same_number q.generation in
    untrue (sym (ap (λ o. is_of_generation o now.bus) (sym sent) ∙ e) ∙ same)

note_tie : (now : Terms) (note : Note) (past : List Moment) → is_begin note ≡ false → Ties now past → Ties now (said note ∷ past)
note_tie now (notes.Begin count ready) past e t h = untrue (sym e)
note_tie now (notes.Reset generation) past e t h = tt
note_tie now (notes.Lost s) past e t h = absurd h
note_tie now (notes.TimedOut s) past e t h = absurd h
note_tie now (notes.Injected s) past e t h = absurd h
note_tie now (notes.Ignored s causes.Generation) past e t h = (other_of now s h.0, t h.1)
note_tie now note past e t h = t h

notes_tie : (now : Terms) (ns : List Note) (past : List Moment) → NoneBegins ns → Ties now past → Ties now (map said ns ++ past)
notes_tie now [] past n t = t
notes_tie now (note ∷ ns) past n t = note_tie now note (map said ns ++ past) n.0 (notes_tie now ns past n.1 t)

lines_tie : (now : Terms) (line : ℕ) (run : Run) (entries : List Entry) → AreEntries (beginning run) entries → AreLines run entries → LineLaw run.start.disks (journal_entries line run entries) → Ties now (moments_behind line run entries)
lines_tie now line run [] all fit laws = λ h. tt
lines_tie now line run (e ∷ before) all fit laws =
    let s = after (beginning run) before in
    let none = none_at e.line e.event e.told s run.start.disks (history (journal_entries line run before)) e.notes fit.0 all.0.notes_are laws.0 in
    notes_tie now e.notes (asked e.line e.event ∷ moments_behind line run before) none (lines_tie now line run before all.1 fit.1 laws.1)

-- ---- at a place
module _ {start : List Disk} {now : List Moment} (w : WorldState) (h : IsHolding start now w) where
  abbrev stands : Stands h.past w
  stands = h.holds.sound.stands

  past_is : stands.wire.past ≡ now
  past_is = stands.is.past_is ∙ h.is

  kept_now : Ties (terms now) now → Lossless now → LosesNothing now
  kept_now t lossless =
      let law : LatestLaw stands.wire = subst LatestLaw (sym stands.reached.is) (latest_always stands.reached.moves stands.reached.may) in
      record {
        kept = subst AreKept past_is (law (subst (λ ms. AreKeptBy (λ s before. IsOfOther (terms ms) s) ms) (sym past_is) (t lossless.none)));
        seen = lossless.seen 0 (omega arith);
      }

  none_rest : LosesNothing now → NoneRests (terms now)
  none_rest l =
      let law : NoRestLaw stands.wire = subst NoRestLaw (sym stands.reached.is) (no_rest_always stands.reached.moves stands.reached.may) in
      subst (λ ms. NoneRests (terms ms)) past_is (law (subst AreKept (sym past_is) l.kept))

  held_rests : (held : Held) → resting ≡ shape_of held → held ≡ rests
  held_rests free e = cc
  held_rests (waits kind serial) e = cc
  held_rests rests e = refl

  -- the labels of the target are those of the terms
  pub labels_are : (node number : ℕ) → shape (state_for w.target.layer.peers (id_for (terms now) 0 node) number) ≡ shape_of ((terms now).held (to_peer (terms now) 0 node number))
  labels_are node number =
      subst (λ ms. shape (state_for w.target.layer.peers (id_for (terms ms) 0 node) number) ≡ shape_of ((terms ms).held (to_peer (terms ms) 0 node number))) h.is
      (labels h.units h.ready h.has start w h.holds node number)

  pub none_held_rests : LosesNothing now → (node number : ℕ) → (terms now).held (to_peer (terms now) 0 node number) ≡ rests → ⊥
  none_held_rests l node number e = none_rest l (to_peer (terms now) 0 node number) l.seen e

  pub none_at_rest : NoneAtRest now w
  none_at_rest l node number e =
      none_held_rests l node number (held_rests ((terms now).held (to_peer (terms now) 0 node number)) (sym (ap shape e) ∙ labels_are node number))

-- ---- each place of a run
pub none_rests_law : NoneRestsLaw
none_rests_law = record {
  after_lines = λ line run r has small size. none_at_rest (after (beginning run) run.entries).world (holding_everywhere.after_lines line run r has small size);
  between = λ line run r has small size next most told m. none_at_rest (after_all told (begun (after (beginning run) run.entries))).world (holding_everywhere.between line run r has small size next most told m);
}

pub lossless_law : LosslessLaw
lossless_law = record {
  after_lines = λ line run r has small size.
      let now = history_of line run in
      kept_now (after (beginning run) run.entries).world (holding_everywhere.after_lines line run r has small size)
      (lines_tie (terms now) line run run.entries r.entries r.lines (bus_law.lawful line run r.few (sym size) r.short r.entries r.lines).lines);
  between = λ line run r has small size next most told m.
      let w = (after_all told (begun (after (beginning run) run.entries))).world in
      let now = map said w.fresh ++ asked next (more_deliveries most) ∷ history_of line run in
      kept_now w (holding_everywhere.between line run r has small size next most told m)
      (notes_tie (terms now) w.fresh (asked next (more_deliveries most) ∷ history_of line run) (none_between line run r size next (more_deliveries most) told m)
      (lines_tie (terms now) line run run.entries r.entries r.lines (bus_law.lawful line run r.few (sym size) r.short r.entries r.lines).lines));
}
