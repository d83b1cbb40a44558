-- Each line of a world leaves the media as its notes say, and the places of the target's logins as the world says.
use Rattle.std.proofs.Common.{◌≡◌, ◌∙◌, refl, sym, ap, subst, ℕ, ◌+◌, ◌-◌, ◌==◌, ◌||◌, not, nat_lt, Bool, true, false, cond, List, [], ◌∷◌, length, Option, Some, None, Result, Ok, Err}
use Rattle.label_table.specs.declared.reply.Stale.{Stale}
use Rattle.login_table.specs.Sound.{IsTable}
use Rattle.packet_store.specs.declared.sent.Sent.{Sent}
use Rattle.packet_store.specs.Kept.{found_sent, is_flying}
use Rattle.packet_store.specs.Stored.{deliver_step}
use Rattle.rbc_disk.specs.Held.{Held}
use Rattle.rbc_disk.specs.Runs.{Told}
use Rattle.sbp_initiator.specs.declared.state.InitiatorState.{InitiatorState}
use Rattle.sbp_initiator.specs.Acting.{act_step}
use Rattle.sbp_initiator.specs.Receiving.{expire_step}
use Rattle.sbp_initiator.specs.Seeing.{see_step}
use Rattle.sbp_journal.specs.declared.cause.Judged.{Judged}
use Rattle.sbp_journal.specs.declared.cause.Judged.TheVariants as judgements
use Rattle.sbp_journal.specs.declared.event.Action.{Action}
use Rattle.sbp_journal.specs.declared.event.Event.{Event}
use Rattle.sbp_journal.specs.declared.event.Event.TheVariants as events
use Rattle.sbp_journal.specs.declared.note.Note.{Note}
use Rattle.sbp_journal.specs.declared.note.Note.TheVariants as notes
use Rattle.sbp_journal.specs.Outgoings.{OutboxState, empty_outbox}
use Rattle.sbp_target.specs.Nodes.{NodeState}
use Rattle.sbp_target.specs.Nodes as target
use Rattle.sbp_target.specs.Receiving.{expired, with_key}
use Rattle.sbp_world.specs.declared.parts.delivering.Arrival.{Arrival}
use Rattle.sbp_bus.specs.declared.requests.Request.{Request}
use Rattle.sbp_bus.specs.Packets.{judged_note, no_packet, end_note}
use Rattle.sbp_world.specs.Delivering.{arrived, at_initiator, at_none, at_target, delivered, delivered_by, initiator_received, initiators_received, marked, received_at, received_by, received_step, target_received}
use Rattle.sbp_bus.specs.Generations.{id_of}
use Rattle.sbp_world.specs.Handing.{handed_out}
use Rattle.sbp_world.specs.Lines.{acted, acted_by, happens, happens_to, keyed, no_unit, weight_in}
use Rattle.sbp_world.specs.Nodes.{handed_all, initiator_learns, reset_line, see_line, sees, target_learns, target_sees, target_ticks, tick_line, told_seen, with_seen}
use Rattle.sbp_world.specs.Nodes as nodes
use Rattle.sbp_world.specs.Packets as packets
use Rattle.sbp_world.specs.Packets.{delivered_if, expires, first_told, initiator_expires, inject_line, injected, injected_to, is_in_flight, lose_line, lost, may_repeat, refused, target_expired, target_left, timed_out, timeout_line, timeout_of}
use Rattle.sbp_bus.specs.Requests.{find}
use Rattle.sbp_world.specs.Settling.{after_all, delivered_at, delivered_next, is_settled, lowest, settled}
use Rattle.sbp_world.specs.Worlds.{Scene, WorldState, begun, initiator_at, with_initiator, with_note, with_target}
use Rattle.sbp_world.proofs.Formed.{AreOwn}
use Rattle.sbp_world.proofs.InitiatorForms as initiators
use Rattle.sbp_world.proofs.InitiatorForms.{initiators_own}
use Rattle.media_laws.specs.Media.{media_after}
use Rattle.media_laws.proofs.Ledgers.{Ledger, after_sides, hands_out, hands_target, ledger, ledger_in, posts, seats_in, target_posts}
use Rattle.media_laws.proofs.Owned.{own_leave}
use Rattle.media_laws.proofs.Replies.{target_tracks}
use Rattle.media_laws.proofs.Targets as targets
use Rattle.media_laws.proofs.Targets.{Tracks, ledger_of}

-- The target's logins and the media are as the world and the notes of its line say.
pub record Agrees (start : Held) (s : Scene) : Type 0 where
  pub told : ledger_in s.world start ≡ ledger_of s.world.target.logins s.media
  pub sound : IsTable s.world.target.logins
  pub desks : length s.world.target.desks ≡ 8

-- the target as a line finds it
tracks : (start : Held) (s : Scene) → Agrees start s → Tracks (ledger_in s.world start) s.media (target.scene s.world.target empty_outbox)
tracks start s h = record { told = h.told; sound = h.sound; desks = h.desks }

-- ---- what leaves target, places and media

pub record Keeps (start : Held) (w x : WorldState) : Type 0 where
  pub same : ledger_in x start ≡ ledger_in w start
  pub target : x.target ≡ w.target

keeps : (start : Held) (s : Scene) (x : WorldState) → Keeps start s.world x → Agrees start s → Agrees start (record s { world = x })
keeps start s x k h = record {
  told = k.same ∙ h.told ∙ ap (λ (n : NodeState). ledger_of n.logins s.media) (sym k.target);
  sound = subst (λ (n : NodeState). IsTable n.logins) (sym k.target) h.sound;
  desks = ap (λ (n : NodeState). length n.desks) k.target ∙ h.desks;
}

keep_if : (b : Bool) (start : Held) (w x y : WorldState) → Keeps start w x → Keeps start w y → Keeps start w (cond b x y)
keep_if true start w x y h i = h
keep_if false start w x y h i = i

keeps_more : (start : Held) (w x y : WorldState) → Keeps start w x → Keeps start x y → Keeps start w y
keeps_more start w x y k l = record { same = l.same ∙ k.same; target = l.target ∙ k.target }

-- what an initiator hands out
own_hands : (start : Held) (node weight : ℕ) (outbox : OutboxState) (w : WorldState) → AreOwn outbox.sides → Keeps start w (handed_out node weight outbox w)
own_hands start node weight outbox w o = record {
  same = hands_out node weight outbox w start ∙ own_leave outbox.sides (ledger_in w start) o;
  target = hands_target node weight outbox w;
}

-- what the target hands out
target_hands : (start media : Held) (node weight : ℕ) (outbox : OutboxState) (w : WorldState) → Tracks (ledger_in w start) media (target.scene w.target outbox) → Agrees start (record { world = handed_out node weight outbox w; media = media })
target_hands start media node weight outbox w h =
    let e = hands_target node weight outbox w in
    record {
      told = hands_out node weight outbox w start ∙ h.told ∙ ap (λ (n : NodeState). ledger_of n.logins media) (sym e);
      sound = subst (λ (n : NodeState). IsTable n.logins) (sym e) h.sound;
      desks = ap (λ (n : NodeState). length n.desks) e ∙ h.desks;
    }

-- what the target handed out is still to be told, and the world went on beside it
tracks_kept : (start media : Held) (outbox : OutboxState) (w x : WorldState) → Keeps start w x → Tracks (ledger_in w start) media (target.scene w.target outbox) → Tracks (ledger_in x start) media (target.scene x.target outbox)
tracks_kept start media outbox w x k h = record {
  told = ap (after_sides outbox.sides) k.same ∙ h.told ∙ ap (λ (n : NodeState). ledger_of n.logins media) (sym k.target);
  sound = subst (λ (n : NodeState). IsTable n.logins) (sym k.target) h.sound;
  desks = ap (λ (n : NodeState). length n.desks) k.target ∙ h.desks;
}

-- what an initiator hands out says nothing of the target
own_tracks : (start : Held) (s : Scene) (outbox : OutboxState) → AreOwn outbox.sides → Agrees start s → Tracks (ledger_in s.world start) s.media (target.scene s.world.target outbox)
own_tracks start s outbox o h = record { told = own_leave outbox.sides (ledger_in s.world start) o ∙ h.told; sound = h.sound; desks = h.desks }

-- ---- a delivery

abbrev Arrives : Held → Option Arrival × (OutboxState × Scene) → Type 0
Arrives start (None, (outbox, t)) = Agrees start t
Arrives start (Some a, (outbox, t)) = Tracks (ledger_in t.world start) t.media (target.scene t.world.target outbox)

arrives_if : (b : Bool) (start : Held) (x y : Option Arrival × (OutboxState × Scene)) → Arrives start x → Arrives start y → Arrives start (cond b x y)
arrives_if true start x y h i = h
arrives_if false start x y h i = i

at_target_arrives : (start : Held) (to : ℕ) (r : Judged × (OutboxState × (NodeState × Held))) (s : Scene) → Tracks (ledger_in s.world start) r.1.1.1 (target.scene r.1.1.0 r.1.0) → Arrives start (at_target to r s)
at_target_arrives start to (judged, (outbox, (state, media))) s h = record { told = h.told; sound = h.sound; desks = h.desks }

at_initiator_arrives : (start : Held) (to : ℕ) (r : Judged × (OutboxState × List InitiatorState)) (s : Scene) → AreOwn r.1.0.sides → Agrees start s → Arrives start (at_initiator to r s)
at_initiator_arrives start to (judged, (outbox, states)) s o h = own_tracks start s outbox o h

arrives_at : (start : Held) (told : Option Told) (sent : Sent) (s : Scene) → Agrees start s → Arrives start (received_at told sent s)
arrives_at start told sent s h =
    let r = initiators_received (sent.to - 1) sent s.world.initiators in
    arrives_if (sent.to == 0) start (at_target sent.to (target_received told sent s.world.target s.media) s) (initiator_received sent s)
    (at_target_arrives start sent.to (target_received told sent s.world.target s.media) s (target_tracks (ledger_in s.world start) told sent s.world.target s.media (tracks start s h)))
    (arrives_if (nat_lt (sent.to - 1) (length s.world.initiators)) start (at_initiator sent.to r s) (at_none s) (at_initiator_arrives start sent.to r s (initiators_own (sent.to - 1) sent s.world.initiators) h) h)

arrives_by : (start : Held) (told : Option Told) (sent : Option Sent) (s : Scene) → Agrees start s → Arrives start (received_by told sent s)
arrives_by start told None s h = h
arrives_by start told (Some sent) s h = arrives_at start told sent s h

arrives : (start : Held) (told : Option Told) (serial : ℕ) (s : Scene) → Agrees start s → Arrives start (received_step told serial s)
unfolding received_step
arrives start told serial s h = arrives_by start told (found_sent serial s.world.store.kept) s h

judged_keeps : (start : Held) (serial : ℕ) (judged : Judged) (w : WorldState) → Keeps start w (with_note (judged_note serial judged) w)
judged_keeps start serial judgements.Got w = record { same = refl; target = refl }
judged_keeps start serial (judgements.Ignored cause) w = record { same = refl; target = refl }

marked_keeps : (b : Bool) (start : Held) (w x : WorldState) → Keeps start w x → Keeps start w (cond b w x)
marked_keeps b start w x k = keep_if b start w w x (record { same = refl; target = refl }) k

delivers_by : (start : Held) (serial : ℕ) (again : Bool) (r : Option Arrival × (OutboxState × Scene)) → Arrives start r → Agrees start (delivered_by serial again r)
unfolding arrived
delivers_by start serial again (None, (outbox, t)) h = record { told = h.told; sound = h.sound; desks = h.desks }
delivers_by start serial again (Some a, (outbox, t)) h =
    let x = marked serial again t.world in
    let y = with_note (judged_note serial a.judged) x in
    target_hands start t.media a.node 0 outbox y
    (tracks_kept start t.media outbox t.world y (keeps_more start t.world x y (marked_keeps (again || not (is_flying serial t.world.store.kept)) start t.world (record t.world { store = deliver_step t.world.store serial }) (record { same = refl; target = refl })) (judged_keeps start serial a.judged x)) h)

delivers : (start : Held) (serial : ℕ) (again : Bool) (told : Option Told) (s : Scene) → Agrees start s → Agrees start (delivered serial again told s)
unfolding delivered
delivers start serial again told s h = delivers_by start serial again (received_step told serial s) (arrives start told serial s h)

-- a note that is told of no run
notes_keep : (start : Held) (w : WorldState) (note : Note) → media_after (note ∷ w.fresh) start ≡ media_after w.fresh start → Keeps start w (with_note note w)
notes_keep start w note e = record { same = ap (λ m. ledger (seats_in w.places) m) e; target = refl }

refuses : (start : Held) (line number : ℕ) (s : Scene) → Agrees start s → Agrees start (record s { world = refused line number s.world })
refuses start line number s h = keeps start s (refused line number s.world) (notes_keep start s.world (notes.Refused line number) refl) h

delivers_if : (b : Bool) (start : Held) (line serial : ℕ) (again : Bool) (told : List (Option Told)) (s : Scene) → Agrees start s → Agrees start (delivered_if b line serial again told s)
delivers_if true start line serial again told s h = delivers start serial again (first_told told) s h
delivers_if false start line serial again told s h = refuses start line no_packet s h

-- ---- deliveries one after the other

delivers_at : (start : Held) (serial : Option ℕ) (told : Option Told) (s : Scene) → Agrees start s → Agrees start (delivered_at serial told s)
delivers_at start None told s h = h
delivers_at start (Some serial) told s h = delivers start serial false told s h

delivers_next : (start : Held) (told : Option Told) (s : Scene) → Agrees start s → Agrees start (delivered_next told s)
unfolding delivered_next
delivers_next start told s h = delivers_at start (lowest s.world) told s h

delivers_all : (start : Held) (told : List (Option Told)) (s : Scene) → Agrees start s → Agrees start (after_all told s)
delivers_all start [] s h = h
delivers_all start (told ∷ before) s h = delivers_next start told (after_all before s) (delivers_all start before s h)

ends : (start : Held) (done : Bool) (s : Scene) → Agrees start s → Agrees start (record s { world = with_note (end_note done) s.world })
ends start true s h = keeps start s _ (notes_keep start s.world notes.Settled refl) h
ends start false s h = keeps start s _ (notes_keep start s.world notes.Stopped refl) h

settles : (start : Held) (told : List (Option Told)) (s : Scene) → Agrees start s → Agrees start (settled told s)
settles start told s h = ends start (is_settled (after_all told s).world) (after_all told s) (delivers_all start told s h)

-- ---- the other lines

acts_by : (start : Held) (r : Option ℕ × (OutboxState × InitiatorState)) (line i : ℕ) (action : Action) (w : WorldState) → AreOwn r.1.0.sides → Keeps start w (acted_by r line i action w)
acts_by start (Some number, (outbox, state)) line i action w o = record { same = refl; target = refl }
acts_by start (None, (outbox, state)) line i action w o =
    let k = own_hands start (i + 1) (weight_in action) outbox (with_initiator i state w) o in record { same = k.same; target = k.target }

acts : (start : Held) (line i : ℕ) (action : Action) (w : WorldState) → Keeps start w (acted line i action w)
unfolding acted
acts start line i action w =
    acts_by start (act_step action empty_outbox (initiator_at w i)) line i action w (initiators.acts action empty_outbox (initiator_at w i) tt)

agrees_if : (b : Bool) (start media : Held) (x y : WorldState) → Agrees start (record { world = x; media = media }) → Agrees start (record { world = y; media = media }) → Agrees start (record { world = cond b x y; media = media })
agrees_if true start media x y h i = h
agrees_if false start media x y h i = i

keys : (start : Held) (line unit : ℕ) (key : List ℕ) (s : Scene) → Agrees start s → Agrees start (record s { world = keyed line unit key s.world })
unfolding keyed
keys start line unit key s h =
    agrees_if (nat_lt unit (length s.world.target.units)) start s.media (with_note (notes.Key unit) (with_target (with_key unit key s.world.target) s.world)) (refused line no_unit s.world) (record { told = h.told; sound = h.sound; desks = h.desks }) (refuses start line no_unit s h)

resets : (start : Held) (ids : List ℕ) (w : WorldState) → Keeps start w (reset_line ids w)
unfolding reset_line
resets start ids w = record { same = refl; target = refl }

-- what a node hands out as it learns of a reset or of a second
abbrev Learns : Held → Held → OutboxState × WorldState → Type 0
Learns start media (outbox, w) = Tracks (ledger_in w start) media (target.scene w.target outbox)

learns_if : (b : Bool) (start media : Held) (x y : OutboxState × WorldState) → Learns start media x → Learns start media y → Learns start media (cond b x y)
learns_if true start media x y h i = h
learns_if false start media x y h i = i

hands_all : (start media : Held) (node : ℕ) (r : OutboxState × WorldState) → Learns start media r → Agrees start (record { world = handed_all node r; media = media })
hands_all start media node (outbox, w) h = target_hands start media node 0 outbox w h

target_pair : (start media : Held) (r : OutboxState × NodeState) (w : WorldState) → Tracks (ledger_in w start) media (target.scene r.1 r.0) → Learns start media (nodes.at_target r w)
target_pair start media (outbox, node) w h = h

initiator_pair : (start : Held) (i : ℕ) (r : OutboxState × InitiatorState) (s : Scene) → AreOwn r.0.sides → Agrees start s → Learns start s.media (nodes.at_initiator i r s.world)
initiator_pair start i (outbox, state) s o h = own_tracks start s outbox o h

sight_tracks : (start : Held) (generation id : ℕ) (s : Scene) → Agrees start s → (let r = target_sees generation id s.world.target in Tracks (ledger_in s.world start) s.media (target.scene r.1 r.0))
unfolding target_sees
sight_tracks start generation id s h = targets.sees (ledger_in s.world start) s.media generation id (target.scene s.world.target empty_outbox) (tracks start s h)

second_tracks : (start : Held) (s : Scene) → Agrees start s → (let r = target_ticks s.world.target in Tracks (ledger_in s.world start) s.media (target.scene r.1 r.0))
unfolding target_ticks
second_tracks start s h = targets.ticks (ledger_in s.world start) s.media (target.scene s.world.target empty_outbox) (tracks start s h)

learns : (start : Held) (node : ℕ) (s : Scene) → Agrees start s → Learns start s.media (sees node s.world)
unfolding sees
learns start node s h =
    let latest = s.world.generations.latest in
    let r = see_step latest.generation (id_of latest node) (id_of latest 0) empty_outbox (initiator_at s.world (node - 1)) in
    learns_if (node == 0) start s.media (target_learns s.world) (initiator_learns node s.world)
    (target_pair start s.media (target_sees latest.generation (id_of latest 0) s.world.target) s.world (sight_tracks start latest.generation (id_of latest 0) s h))
    (initiator_pair start (node - 1) r s (initiators.sees latest.generation (id_of latest node) (id_of latest 0) empty_outbox (initiator_at s.world (node - 1)) tt) h)

sees_agree : (start : Held) (node : ℕ) (s : Scene) → Agrees start s → Agrees start (record s { world = see_line node s.world })
unfolding see_line
sees_agree start node s h =
    let x = with_seen node (told_seen node s.world) in
    let i : Agrees start (record s { world = x }) = record { told = h.told; sound = h.sound; desks = h.desks } in
    hands_all start s.media node (sees node x) (learns start node (record s { world = x }) i)

ticks_agree : (start : Held) (s : Scene) → Agrees start s → Agrees start (record s { world = tick_line s.world })
unfolding tick_line
ticks_agree start s h =
    let x = with_note notes.Tick s.world in
    let i : Agrees start (record s { world = x }) = record { told = h.told; sound = h.sound; desks = h.desks } in
    hands_all start s.media 0 (nodes.at_target (target_ticks s.world.target) x) (target_pair start s.media (target_ticks s.world.target) x (second_tracks start (record s { world = x }) i))

loses : (start : Held) (line serial : ℕ) (w : WorldState) → Keeps start w (lose_line line serial w)
unfolding lose_line
loses start line serial w =
    keep_if (is_in_flight serial w) start w (lost serial w) (refused line no_packet w) (record { same = refl; target = refl }) (record { same = refl; target = refl })

-- ---- a time-out

abbrev Ends : Held → Held → Bool × (OutboxState × WorldState) → Type 0
Ends start media (true, (outbox, w)) = Tracks (ledger_in w start) media (target.scene w.target outbox)
Ends start media (false, (outbox, w)) = Agrees start (record { world = w; media = media })

ends_if : (b : Bool) (start media : Held) (x y : Bool × (OutboxState × WorldState)) → Ends start media x → Ends start media y → Ends start media (cond b x y)
ends_if true start media x y h i = h
ends_if false start media x y h i = i

target_ends : (start : Held) (r : Result (Unit {0}) Stale × target.Scene) (s : Scene) → Tracks (ledger_in s.world start) s.media r.1 → Agrees start s → Ends start s.media (packets.at_target (target_left r s.world.target) s.world)
target_ends start (Ok done, t) s h i = record { told = h.told; sound = h.sound; desks = h.desks }
target_ends start (Err stale, t) s h i = record { told = i.told; sound = i.sound; desks = i.desks }

target_expiry : (start : Held) (request : Request) (s : Scene) → Agrees start s → Ends start s.media (packets.at_target (target_expired request s.world.target) s.world)
unfolding target_expired
target_expiry start request s h =
    target_ends start (expired request.peer request.label (target.scene s.world.target empty_outbox)) s
    (targets.expires (ledger_in s.world start) s.media request.peer request.label (target.scene s.world.target empty_outbox) (tracks start s h))
    h

initiator_ends : (start : Held) (i : ℕ) (r : Bool × (OutboxState × InitiatorState)) (s : Scene) → AreOwn r.1.0.sides → Agrees start s → Ends start s.media (packets.at_initiator i r s.world)
initiator_ends start i (true, (outbox, state)) s o h = own_tracks start s outbox o h
initiator_ends start i (false, (outbox, state)) s o h = record { told = h.told; sound = h.sound; desks = h.desks }

expires_end : (start : Held) (request : Request) (s : Scene) → Agrees start s → Ends start s.media (expires request s.world)
unfolding expires
expires_end start request s h =
    let r = expire_step request.label empty_outbox (initiator_at s.world (request.node - 1)) in
    ends_if (request.node == 0) start s.media (packets.at_target (target_expired request s.world.target) s.world) (initiator_expires request s.world) (target_expiry start request s h)
    (ends_if (nat_lt (request.node - 1) (length s.world.initiators)) start s.media (packets.at_initiator (request.node - 1) r s.world) (false, (empty_outbox, s.world))
    (initiator_ends start (request.node - 1) r s (initiators.expires request.label empty_outbox (initiator_at s.world (request.node - 1)) tt) h)
    h)

timed_agrees : (start media : Held) (line serial node : ℕ) (r : Bool × (OutboxState × WorldState)) → Ends start media r → Agrees start (record { world = timed_out line serial node r; media = media })
timed_agrees start media line serial node (true, (outbox, w)) h =
    let x = with_note (notes.TimedOut serial) w in
    target_hands start media node 0 outbox x (tracks_kept start media outbox w x (notes_keep start w (notes.TimedOut serial) refl) h)
timed_agrees start media line serial node (false, (outbox, w)) h = refuses start line no_packet (record { world = w; media = media }) h

timeouts_of : (start : Held) (request : Option Request) (line serial : ℕ) (s : Scene) → Agrees start s → Agrees start (record s { world = timeout_of request line serial s.world })
timeouts_of start None line serial s h = refuses start line no_packet s h
timeouts_of start (Some request) line serial s h = timed_agrees start s.media line serial request.node (expires request s.world) (expires_end start request s h)

times_out : (start : Held) (line serial : ℕ) (s : Scene) → Agrees start s → Agrees start (record s { world = timeout_line line serial s.world })
unfolding timeout_line
times_out start line serial s h = timeouts_of start (find s.world.requests serial) line serial s h

-- ---- an injected packet

injects_to : (start : Held) (to : Option ℕ) (line from : ℕ) (bytes : List ℕ) (w : WorldState) → Keeps start w (injected to line from bytes w)
injects_to start None line from bytes w = record { same = refl; target = refl }
injects_to start (Some to) line from bytes w = record { same = posts from to true bytes w start; target = target_posts from to true bytes w }

injects : (start : Held) (line i : ℕ) (bytes : List ℕ) (w : WorldState) → Keeps start w (inject_line line i bytes w)
unfolding inject_line
injects start line i bytes w = injects_to start (injected_to (i + 1) bytes w) line (i + 1) bytes w

-- ---- a line

happens_agree : (start : Held) (line : ℕ) (event : Event) (told : List (Option Told)) (s : Scene) → Agrees start s → Agrees start (happens_to line event told s)
happens_agree start line (events.Begin initiators ready) told s h = h
happens_agree start line (events.Act initiator action) told s h = keeps start s _ (acts start line initiator action s.world) h
happens_agree start line (events.Reset ids) told s h = keeps start s _ (resets start ids s.world) h
happens_agree start line (events.See node) told s h = sees_agree start node s h
happens_agree start line (events.Deliver serial) told s h = delivers_if (is_in_flight serial s.world) start line serial false told s h
happens_agree start line (events.Repeat serial) told s h = delivers_if (may_repeat serial s.world) start line serial true told s h
happens_agree start line (events.Lose serial) told s h = keeps start s _ (loses start line serial s.world) h
happens_agree start line (events.Timeout serial) told s h = times_out start line serial s h
happens_agree start line (events.Step count) told s h = delivers_all start told s h
happens_agree start line events.Settle told s h = settles start told s h
happens_agree start line events.Tick told s h = ticks_agree start s h
happens_agree start line (events.Inject initiator bytes) told s h = keeps start s _ (injects start line initiator bytes s.world) h
happens_agree start line (events.Key unit key) told s h = keys start line unit key s h

-- the media are as the notes of the line say
pub media_is : (start : Held) (s : Scene) → Agrees start s → s.media ≡ media_after s.world.fresh start
media_is start s h = sym (ap (λ (l : Ledger). l.media) h.told)

-- the next line begins without notes
begins : (start : Held) (s : Scene) → Agrees start s → Agrees s.media (begun s)
begins start s h = record {
  told = ap (λ (l : Ledger). ledger l.seats s.media) h.told;
  sound = h.sound;
  desks = h.desks;
}

pub line_agrees : (start : Held) (line : ℕ) (event : Event) (told : List (Option Told)) (s : Scene) → Agrees start s → Agrees s.media (happens line event told s)
unfolding happens
line_agrees start line event told s h = happens_agree s.media line event told (begun s) (begins start s h)
