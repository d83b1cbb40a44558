-- The logins of the initiators' nodes in every run, where no initiator injected packets, or few logins were given, and lists were open before as they should be: by what is known of the
-- turns of the target, of the response buffers and of the logins that are done.
use Rattle.sbp_world.proofs.Words.Std.{◌∙◌, subst, ℕ, ◌<◌, List, length}
use Rattle.sbp_world.proofs.Words.Wire.{Moment}
use Rattle.sbp_world.proofs.Words.Target.{Disk}
use Rattle.sbp_world.proofs.Words.Laws.{EachMoment}
use Rattle.sbp_world.proofs.Words.World.{more_deliveries, after, beginning, after_all, history_of, WorldState, begun, Under, WhereTameOrFew, LiveLaw, NoneRefused, IsCalmBeside, BufferSo, AreShort}
use Rattle.sbp_world.proofs.Hosts.Runs.{count_after, count_between}
use Rattle.sbp_world.proofs.Hosts.Quadlets.{source_law}
use Rattle.sbp_world.proofs.Sessions.HoldingRuns.{holding_law}
use Rattle.sbp_world.proofs.Lists.ContentPlaces.{contents_everywhere}
use Rattle.sbp_world.proofs.Lists.LiveBuffered.{buffer_turns}
use Rattle.sbp_world.proofs.Lists.ReplyRuns.{replied_everywhere}
use Rattle.sbp_world.proofs.Lists.UnderwayRuns.{delivering}
use Rattle.sbp_world.proofs.Lists.Courses.{EveryPlace}
use Rattle.sbp_world.proofs.Lists.LiveGiven.{LawsAt, ShortLaw, shorts_everywhere}
use Rattle.sbp_world.proofs.Lists.LiveGranted.{grown_by}
use Rattle.sbp_world.proofs.Lists.LiveHelps.{given_everywhere}
use Rattle.sbp_world.proofs.Lists.LiveJoined.{AreBuffersAt, AreStoredAt, Held, helped}
use Rattle.sbp_world.proofs.Lists.LastReadRuns.{read_everywhere}
use Rattle.sbp_world.proofs.Lists.LiveLaws.{live_law}
use Rattle.sbp_world.proofs.Lists.LiveRuns.{all_after, all_between, done_of}
use Rattle.sbp_world.proofs.Lists.Beside.{AreDone}
use Rattle.sbp_world.proofs.Lists.LiveUnrefused.{unrefused_of}
use Rattle.sbp_world.proofs.Lists.GrantedRuns.{granted_everywhere}
use Rattle.sbp_world.proofs.Lists.LivePlaced.{placed_turns}
use Rattle.sbp_world.proofs.Lists.LiveRefusing.{managed_everywhere}
use Rattle.sbp_world.proofs.Lists.StoredTurns.{stored_turns}
use Rattle.sbp_world.proofs.Lists.PlacedRuns.{placed_everywhere, wrote_everywhere}

abbrev pub BuffersShort : List Disk → List Moment → WorldState → Type 0
BuffersShort start past w = AreShort past → (i : ℕ) → i < length w.initiators → AreDone start (length w.initiators) past i → EachMoment (BufferSo start i) past

pub held_everywhere : EveryPlace LawsAt → EveryPlace AreBuffersAt → EveryPlace AreStoredAt → EveryPlace Held
held_everywhere laws buffers stored =
    let given = given_everywhere laws in
    let replied = replied_everywhere laws in
    let read = read_everywhere laws in
    record {
      after_lines = λ line run r has small size so_far.
          let size_is = count_after run run.entries in
          let inside : (i : ℕ) → i < length (after (beginning run) run.entries).world.initiators → i < run.initiators = (λ i l. subst (λ n. i < n) size_is l) in
          record {
            given = given.after_lines line run r has small size so_far;
            contents = contents_everywhere.after_lines line run r has small size so_far;
            hand = managed_everywhere.after_lines line run r has small size so_far;
            wrote = wrote_everywhere.after_lines line run r has small size so_far;
            placed = placed_everywhere.after_lines line run r has small size so_far;
            holds = λ i l. holding_law.after_lines line run r i (inside i l);
            granted = granted_everywhere.after_lines line run r has small size so_far;
            sources = λ i l. source_law.sources line run r i (inside i l);
            replied = replied.after_lines line run r has small size so_far;
            buffers = buffers.after_lines line run r has small size so_far;
            read = read.after_lines line run r has small size so_far;
            stored = stored.after_lines line run r has small size so_far;
          };
      between = λ line run r has small size next most told m so_far.
          let size_is = count_between told (after (beginning run) run.entries) ∙ count_after run run.entries in
          let inside : (i : ℕ) → i < length (after_all told (begun (after (beginning run) run.entries))).world.initiators → i < run.initiators = (λ i l. subst (λ n. i < n) size_is l) in
          record {
            given = given.between line run r has small size next most told m so_far;
            contents = contents_everywhere.between line run r has small size next most told m so_far;
            hand = managed_everywhere.between line run r has small size next most told m so_far;
            wrote = wrote_everywhere.between line run r has small size next most told m so_far;
            placed = placed_everywhere.between line run r has small size next most told m so_far;
            holds = λ i l. holding_law.between line run r next most told m i (inside i l);
            granted = granted_everywhere.between line run r has small size next most told m so_far;
            sources = λ i l. source_law.between line run r next (more_deliveries most) told (delivering told most) m i (inside i l);
            replied = replied.between line run r has small size next most told m so_far;
            buffers = buffers.between line run r has small size next most told m so_far;
            read = read.between line run r has small size next most told m so_far;
            stored = stored.between line run r has small size next most told m so_far;
          };
    }

-- what the target wrote into response buffers, as lines name units of 16 bits
pub buffers_by : ShortLaw → EveryPlace BuffersShort → EveryPlace AreBuffersAt
buffers_by short buffers =
    let shorts = shorts_everywhere short in
    record {
      after_lines = λ line run r has small size so_far. buffers.after_lines line run r has small size so_far (shorts.after_lines line run r has small size so_far);
      between = λ line run r has small size next most told m so_far. buffers.between line run r has small size next most told m so_far (shorts.between line run r has small size next most told m so_far);
    }

module _ (laws : EveryPlace LawsAt) (buffers : EveryPlace AreBuffersAt) (stored : EveryPlace AreStoredAt) where
  held : EveryPlace Held
  held = held_everywhere laws buffers stored

  pub live : LiveLaw
  live = live_law Held held (helped placed_turns) (grown_by placed_turns stored_turns buffer_turns)

  -- no logout is refused
  pub none_refused : Under (WhereTameOrFew NoneRefused)
  none_refused = record {
    after_lines = λ line run r has small size so_far beside i l calm.
        unrefused_of i (history_of line run) (granted_everywhere.after_lines line run r has small size so_far i l)
        ((all_after Held held (helped placed_turns) (grown_by placed_turns stored_turns buffer_turns) line run r has small size so_far i l).grown.unbad (calm, beside));
    between = λ line run r has small size next most told m so_far beside i l calm.
        unrefused_of i _ (granted_everywhere.between line run r has small size next most told m so_far i l)
        ((all_between Held held (helped placed_turns) (grown_by placed_turns stored_turns buffer_turns) line run r has small size next most told m so_far i l).grown.unbad (calm, beside));
  }

  -- and what is known of the logins that were done
  pub logins_done : EveryPlace (λ start past w. (i : ℕ) → i < length w.initiators → IsCalmBeside past i → AreDone start (length w.initiators) past i)
  logins_done = record {
    after_lines = λ line run r has small size so_far i l beside.
        done_of run.start.disks _ _ (all_after Held held (helped placed_turns) (grown_by placed_turns stored_turns buffer_turns) line run r has small size so_far) i l beside;
    between = λ line run r has small size next most told m so_far i l beside.
        done_of run.start.disks _ _ (all_between Held held (helped placed_turns) (grown_by placed_turns stored_turns buffer_turns) line run r has small size next most told m so_far) i l beside;
  }
