-- In every run the requests of the target are for what it has under way.
use Rattle.sbp_world.proofs.Words.Std.{subst, ◌∷◌, ◌++◌, map}
use Rattle.sbp_world.proofs.Words.Wire.{asked, said}
use Rattle.sbp_world.proofs.Words.World.{ready_logins, after, beginning, after_all, begun, LabelsBetweenLaw, LabelsLaw, LeavingBetweenLaw, LeavingLaw, ArePurposesAt, BetweenLaw, PurposesLaw, AreHandedAt, HandedBetweenLaw}
use Rattle.sbp_world.proofs.Agents.Management.Lines.{all_heard, opens}
use Rattle.sbp_world.proofs.Agents.Management.Runs.{holds_after, no_repeats, not_reset}
use Rattle.sbp_world.proofs.Agents.Management.Still.{hist}
use Rattle.sbp_world.proofs.Agents.Fresh.{labels_new}
use Rattle.sbp_world.proofs.Agents.Leaving.{packets_leave}
use Rattle.sbp_world.specs.Agents.Serials.{HandedLaw}
use Rattle.sbp_world.proofs.Agents.Handed.{are_handed}
use Rattle.sbp_world.proofs.Agents.Purposes.{are_purposes}
use Rattle.sbp_world.proofs.Hosts.Runs.{are_told}

pub purposes_law : PurposesLaw
purposes_law line run few has small size short all fit =
    let r = holds_after line run run.entries few has small size short all fit in
    let w = (after (beginning run) run.entries).world in
    subst (λ ms. ArePurposesAt run.start.disks ms w) r.is (are_purposes run.units (ready_logins run.initiators run.ready) has run.start.disks w r.holds)

pub between_law : BetweenLaw
between_law line run few has small size short all fit next event d told may =
    let r = holds_after line run run.entries few has small size short all fit in
    let s = after (beginning run) run.entries in
    let logins = ready_logins run.initiators run.ready in
    let opened = opens run.units logins has run.start.disks next event s.world (not_reset event d) r.holds in
    let h = all_heard run.units logins has run.start.disks told (are_told told s may) (begun s) opened (no_repeats event (hist r.past s.world) next d) in
    let w = (after_all told (begun s)).world in
    subst (λ ms. ArePurposesAt run.start.disks (map said w.fresh ++ asked next event ∷ ms) w) r.is (are_purposes run.units logins has run.start.disks w h)

pub handed_law : HandedLaw
handed_law line run few has small size short all fit =
    let r = holds_after line run run.entries few has small size short all fit in
    let w = (after (beginning run) run.entries).world in
    subst (λ ms. AreHandedAt run.start.disks ms w) r.is (are_handed run.units (ready_logins run.initiators run.ready) has run.start.disks w r.holds)

pub handed_between_law : HandedBetweenLaw
handed_between_law line run few has small size short all fit next event d told may =
    let r = holds_after line run run.entries few has small size short all fit in
    let s = after (beginning run) run.entries in
    let logins = ready_logins run.initiators run.ready in
    let opened = opens run.units logins has run.start.disks next event s.world (not_reset event d) r.holds in
    let h = all_heard run.units logins has run.start.disks told (are_told told s may) (begun s) opened (no_repeats event (hist r.past s.world) next d) in
    let w = (after_all told (begun s)).world in
    subst (λ ms. AreHandedAt run.start.disks (map said w.fresh ++ asked next event ∷ ms) w) r.is (are_handed run.units logins has run.start.disks w h)

pub leaving_law : LeavingLaw
leaving_law run few has small size short all fit =
    let r = holds_after 0 run run.entries few has small size short all fit in
    packets_leave run.units (ready_logins run.initiators run.ready) has run.start.disks (after (beginning run) run.entries).world r.holds

pub leaving_between_law : LeavingBetweenLaw
leaving_between_law run few has small size short all fit next event d told may =
    let r = holds_after 0 run run.entries few has small size short all fit in
    let s = after (beginning run) run.entries in
    let logins = ready_logins run.initiators run.ready in
    let opened = opens run.units logins has run.start.disks next event s.world (not_reset event d) r.holds in
    let h = all_heard run.units logins has run.start.disks told (are_told told s may) (begun s) opened (no_repeats event (hist r.past s.world) next d) in
    packets_leave run.units logins has run.start.disks (after_all told (begun s)).world h

pub labels_law : LabelsLaw
labels_law run few has small size short all fit =
    let r = holds_after 0 run run.entries few has small size short all fit in
    labels_new run.units (ready_logins run.initiators run.ready) has run.start.disks (after (beginning run) run.entries).world r.holds

pub labels_between_law : LabelsBetweenLaw
labels_between_law run few has small size short all fit next event d told may =
    let r = holds_after 0 run run.entries few has small size short all fit in
    let s = after (beginning run) run.entries in
    let logins = ready_logins run.initiators run.ready in
    let opened = opens run.units logins has run.start.disks next event s.world (not_reset event d) r.holds in
    let h = all_heard run.units logins has run.start.disks told (are_told told s may) (begun s) opened (no_repeats event (hist r.past s.world) next d) in
    labels_new run.units logins has run.start.disks (after_all told (begun s)).world h
