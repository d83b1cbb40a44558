-- A packet that the target receives: a command that runs changes its unit's medium as its note says.
use Rattle.std.proofs.Common.{◌≡◌, ◌∙◌, refl, sym, ap, subst, ℕ, ◌<◌, nat_lt, Bool, true, false, cond, List, [], length, Option, Some, None, arith}
use Rattle.std.specs.Prelude.{slice_index, slice_index_or, slice_set}
use Rattle.std.proofs.Math.ListN.{length-set}
use Rattle.std.proofs.lemmas.List.{get_or-set_same, set-get_or}
use Rattle.async_packet.specs.Labels.{LabelParts}
use Rattle.async_packet.specs.Packet.{header_in}
use Rattle.label_table.specs.Layer.{Finding, of_generation, of_grammar, of_label, of_response, of_again, of_request, judging_step}
use Rattle.login_table.specs.declared.login.Login.{Login}
use Rattle.login_table.specs.Table.{Table}
use Rattle.login_table.proofs.Searching.{within}
use Rattle.orb_layout.specs.Replies.{Answer}
use Rattle.packet_store.specs.declared.sent.Sent.{Sent}
use Rattle.rbc_disk.specs.declared.command.Outcome.{Outcome}
use Rattle.rbc_disk.specs.Disk.{disk_at, no_disk}
use Rattle.rbc_disk.specs.Held.{Held, held}
use Rattle.rbc_disk.specs.Runs.{Told, check_in, left_by}
use Rattle.rbc_disk.specs.Units.{UnitState, plain_disk}
use Rattle.command_agent.specs.declared.step.AgentStep.{AgentStep}
use Rattle.command_agent.specs.declared.step.Which.{Which}
use Rattle.command_agent.specs.Machine.{Machine}
use Rattle.command_agent.specs.Runs.{count_after}
use Rattle.command_agent.specs.Steps.{reply_step}
use Rattle.sbp_journal.specs.declared.cause.Judged.{Judged}
use Rattle.sbp_journal.specs.declared.side.Side.TheVariants as sides
use Rattle.sbp_journal.specs.Outgoings.{OutboxState, empty_outbox}
use Rattle.sbp_target.specs.declared.desk.Desk.{Desk}
use Rattle.sbp_target.specs.declared.purpose.Purpose.{Purpose}
use Rattle.sbp_target.specs.declared.purpose.Purpose.TheVariants as purposes
use Rattle.sbp_target.specs.Agents.{follow}
use Rattle.sbp_target.specs.Desks.{new_desk, taken, which_in}
use Rattle.sbp_target.specs.Nodes.{NodeState, Scene, desk_at, login_at, scene}
use Rattle.sbp_target.specs.Receiving.{answer_in, concluded, judged_scene, received, received_as, with_layer}
use Rattle.target_base.specs.Logins.{if_served}
use Rattle.sbp_target.specs.Replies.{Whole, advance, advanced_with, came, changed_by, follow_all, plain_at, replied, replied_by, replied_to, replied_with, scene_of, served_login, stage}
use Rattle.sbp_target.specs.Serving.{answered, request_step as served_step}
use Rattle.sbp_target.specs.Telling.{tell_ran}
use Rattle.sbp_world.specs.Delivering.{faults_after, faults_at, faults_by, faults_in, left_target, target_received, whole_of}
use Rattle.media_laws.specs.Media.{run_on}
use Rattle.media_laws.proofs.Following.{Fits, In, Is, announces_by, answers, follows, notes_tell, tells}
use Rattle.media_laws.proofs.Ledgers.{Ledger, ledger}
use Rattle.media_laws.proofs.Seats.{Seat, seat_of, unit_at, unit_of}
use Rattle.media_laws.proofs.Tables.{seat_at, seats_of}
use Rattle.media_laws.proofs.Targets.{Tracks, in_tracks, ledger_of, manages, request_tells, tracks_in}

-- ---- a run

abbrev pub ran_media : Option Outcome → Machine → ℕ → Held → Held
ran_media None m unit media = media
ran_media (Some outcome) m unit media = run_on m.orb.cdb m.payload (check_in outcome) unit media

left_media : (ran : Option Outcome) (m : Machine) (place unit : ℕ) (state : UnitState) (media : Held)
    → held (slice_set media.disks unit (left_by ran m.orb.cdb m.payload place (plain_disk state (disk_at media.disks unit))).medium) (slice_set media.faults unit (count_after ran (slice_index media.faults unit))) ≡ ran_media ran m unit media
left_media None m place unit state media =
    ap (λ ds. held ds (slice_set media.faults unit (slice_index media.faults unit))) (set-get_or media.disks unit no_disk)
    ∙ ap (λ ns. held media.disks ns) (set-get_or media.faults unit 0)
left_media (Some outcome) m place unit state media = refl

ran_tells : (first : Ledger) (seats : List (Option Seat)) (media : Held) (place : ℕ) (m : Machine) (ran : Option Outcome) (o : OutboxState) → Is first (ledger seats media) o
    → Is first (ledger seats (ran_media ran m (unit_at seats place) media)) (tell_ran place m ran o)
ran_tells first seats media place m None o h = h
ran_tells first seats media place m (Some outcome) o h = tells first (ledger seats media) (sides.Ran place _ m.orb.cdb m.payload outcome) o h

-- ---- a reply to an agent

changed_desks : (b : Bool) (unit place : ℕ) (node : NodeState) → (changed_by b unit place node).desks ≡ node.desks
changed_desks true unit place node = refl
changed_desks false unit place node = refl

fits_changed : (b : Bool) (table : Table) (unit place : ℕ) (node : NodeState) → Fits table node → Fits table (changed_by b unit place node)
fits_changed true table unit place node f = record { logins = f.logins; desks = f.desks }
fits_changed false table unit place node f = f

follows_all : (first l : Ledger) (table : Table) (b : Bool) (place : ℕ) (login : Login) (step : AgentStep) (s : Scene) → Fits table s.node → Is first l (tell_ran place (desk_at s.node place).agent step.ran s.outbox) → In first l table (follow_all b place login step s)
unfolding follow_all
follows_all first l table b place login step s f h =
    let t = scene (changed_by b login.unit place s.node) s.outbox in
    let told = subst (λ desks. Is first l (tell_ran place (slice_index_or desks place new_desk).agent step.ran s.outbox)) (sym (changed_desks b login.unit place s.node)) h in
    announces_by first l table b login.unit place (follow place login step t)
    (follows first l table place login step t (notes_tell first l table place step t told (fits_changed b table login.unit place s.node f)))

advances_with : (first : Ledger) (faults : List ℕ) (place : ℕ) (login : Login) (which : Which) (w : Whole) (r : AgentStep × Machine) → Tracks first (held w.disks faults) (scene_of w) → login_at w.node place ≡ Some login
    → (let x = advanced_with place login (replied_with place login.unit which r (stage w.node w.disks)) w in Tracks first (held x.disks (slice_set faults login.unit (count_after r.0.ran (slice_index faults login.unit)))) (scene_of x))
advances_with first faults place login which w (step, m) h e =
    let table = w.node.logins in
    let seats = seats_of table.places in
    let media = held w.disks faults in
    let d = record (taken which (desk_at w.node place)) { agent = m } in
    let st = (replied_with place login.unit which (step, m) (stage w.node w.disks)).1 in
    let now = held st.disks (slice_set faults login.unit (count_after step.ran (slice_index faults login.unit))) in
    let below : place < length w.node.desks = let size = h.sound.sound.size in let inside = within table.places place login e in let eight = h.desks in omega arith in
    let own : slice_index_or st.node.desks place new_desk ≡ d = get_or-set_same w.node.desks place d new_desk below in
    let unit : unit_at seats place ≡ login.unit = ap unit_of (seat_at table.places place ∙ ap seat_of e) in
    let told = ran_tells first seats media place m step.ran w.outbox h.told in
    let here : Is first (ledger seats (ran_media step.ran m (unit_at seats place) media)) (tell_ran place (desk_at st.node place).agent step.ran w.outbox)
    = subst (λ (x : Desk). Is first (ledger seats (ran_media step.ran m (unit_at seats place) media)) (tell_ran place x.agent step.ran w.outbox)) (sym own) told in
    let i = follows_all first (ledger seats (ran_media step.ran m (unit_at seats place) media)) table (came (disk_at w.disks login.unit) (disk_at st.disks login.unit)) place login step (scene st.node w.outbox)
    (record { logins = refl; desks = length-set w.node.desks place d ∙ h.desks })
    here in
    let is : ledger seats (ran_media step.ran m (unit_at seats place) media) ≡ ledger_of table now
    = ap (λ u. ledger seats (ran_media step.ran m u media)) unit ∙ ap (λ x. ledger seats x) (sym (left_media step.ran m place login.unit _ media)) in
    tracks_in first now table (follow_all (came (disk_at w.disks login.unit) (disk_at st.disks login.unit)) place login step (scene st.node w.outbox))
    (subst (λ l. In first l table (follow_all (came (disk_at w.disks login.unit) (disk_at st.disks login.unit)) place login step (scene st.node w.outbox))) is i)
    h.sound

advances : (first : Ledger) (faults : List ℕ) (told : Option Told) (place : ℕ) (login : Login) (which : Which) (answer : Answer) (w : Whole) → Tracks first (held w.disks faults) (scene_of w) → login_at w.node place ≡ Some login
    → (let x = advance told place login which answer w in Tracks first (held x.disks (faults_by told place answer (Some login) (Some which) (stage w.node w.disks) faults)) (scene_of x))
unfolding advance replied
advances first faults told place login which answer w h e =
    advances_with first faults place login which w (reply_step (desk_at w.node place).agent place (plain_at (stage w.node w.disks) login.unit) told which answer) h e

served_is : (units : ℕ) (x : Option Login) (login : Login) → if_served units x ≡ Some login → x ≡ Some login
served_is units None login e = e
served_is units (Some other) login e = served_if (nat_lt other.unit units) e
  where
    served_if : (b : Bool) → cond b (Some other) None ≡ Some login → Some other ≡ Some login
    served_if true e = e
    served_if false e = absurd (let no : None ≡ Some login = e in cc)

replies_by : (first : Ledger) (faults : List ℕ) (told : Option Told) (place : ℕ) (answer : Answer) (login : Option Login) (which : Option Which) (w : Whole) → served_login w.node place ≡ login → Tracks first (held w.disks faults) (scene_of w)
    → (let x = replied_by told place answer login which w in Tracks first (held x.disks (faults_by told place answer login which (stage w.node w.disks) faults)) (scene_of x))
replies_by first faults told place answer (Some login) (Some which) w e h =
    advances first faults told place login which answer w h (served_is (length w.node.units) (login_at w.node place) login e)
replies_by first faults told place answer None which w e h = h
replies_by first faults told place answer (Some login) None w e h = h

replies : (first : Ledger) (faults : List ℕ) (told : Option Told) (place peer : ℕ) (label : LabelParts) (answer : Answer) (w : Whole) → Tracks first (held w.disks faults) (scene_of w)
    → (let x = replied_to told place peer label answer w in Tracks first (held x.disks (faults_at told (Some (purposes.Agent place)) peer label answer w faults)) (scene_of x))
unfolding replied_to
replies first faults told place peer label answer w h =
    replies_by first faults told place answer (served_login w.node place) (which_in (desk_at w.node place) peer label) w refl h

-- ---- a packet

concludes : (first : Ledger) (faults : List ℕ) (told : Option Told) (purpose : Option Purpose) (peer : ℕ) (label : LabelParts) (answer : Answer) (w : Whole) → Tracks first (held w.disks faults) (scene_of w)
    → (let x = concluded told purpose peer label answer w in Tracks first (held x.disks (faults_at told purpose peer label answer w faults)) (scene_of x))
unfolding concluded
concludes first faults told None peer label answer w h = h
concludes first faults told (Some (purposes.Agent place)) peer label answer w h = replies first faults told place peer label answer w h
concludes first faults told (Some purposes.Management) peer label answer w h = manages first (held w.disks faults) answer (scene_of w) h
concludes first faults told (Some purposes.Unsolicited) peer label answer w h = record { told = h.told; sound = h.sound; desks = h.desks }

scene_tracks : (first : Ledger) (faults : List ℕ) (r : Judged × Scene) (w : Whole) → Tracks first (held w.disks faults) r.1 → (let x = (judged_scene r w).1 in Tracks first (held x.disks faults) (scene_of x))
scene_tracks first faults (judged, s) w h = h

receives_as : (first : Ledger) (faults : List ℕ) (told : Option Told) (bytes : List ℕ) (found : Finding Purpose) (w : Whole) → Tracks first (held w.disks faults) (scene_of w)
    → (let x = (received_as told bytes found w).1 in Tracks first (held x.disks (faults_in told found w faults)) (scene_of x))
unfolding faults_in
receives_as first faults told bytes of_generation w h = h
receives_as first faults told bytes of_grammar w h = h
receives_as first faults told bytes of_label w h = h
receives_as first faults told bytes (of_response p label purpose) w h = concludes first faults told purpose (header_in p).source label (answer_in p) w h
receives_as first faults told bytes (of_again p rcode) w h =
    let media = held w.disks faults in
    tracks_in first media w.node.logins (answered p bytes rcode [] (scene_of w)) (answers first (ledger_of w.node.logins media) w.node.logins p bytes rcode [] (scene_of w) (in_tracks first media (scene_of w) h)) h.sound
receives_as first faults told bytes (of_request p) w h =
    let media = held w.disks faults in
    scene_tracks first faults (served_step p bytes (scene_of w)) w
    (tracks_in first media w.node.logins (served_step p bytes (scene_of w)).1 (request_tells first (ledger_of w.node.logins media) w.node.logins p bytes (scene_of w) (in_tracks first media (scene_of w) h)) h.sound)

receives : (first : Ledger) (faults : List ℕ) (told : Option Told) (generation : ℕ) (bytes : List ℕ) (w : Whole) → Tracks first (held w.disks faults) (scene_of w)
    → (let found = judging_step w.node.layer generation bytes in let x = (received told generation bytes w).1 in Tracks first (held x.disks (faults_in told found.0 (with_layer found.1 w) faults)) (scene_of x))
unfolding received
receives first faults told generation bytes w h =
    let found = judging_step w.node.layer generation bytes in
    receives_as first faults told bytes found.0 (with_layer found.1 w) (record { told = h.told; sound = h.sound; desks = h.desks })

left_tracks : (first : Ledger) (r : Judged × Whole) (faults : List ℕ) → Tracks first (held r.1.disks faults) (scene_of r.1) → (let x = left_target r faults in Tracks first x.1.1.1 (scene x.1.1.0 x.1.0))
left_tracks first (judged, w) faults h = h

pub target_tracks : (first : Ledger) (told : Option Told) (sent : Sent) (node : NodeState) (media : Held) → Tracks first media (scene node empty_outbox) → (let x = target_received told sent node media in Tracks first x.1.1.1 (scene x.1.1.0 x.1.0))
unfolding target_received
target_tracks first told sent node media h =
    left_tracks first (received told sent.generation sent.bytes (whole_of node media)) (faults_after told sent node media) (receives first media.faults told sent.generation sent.bytes (whole_of node media) h)
