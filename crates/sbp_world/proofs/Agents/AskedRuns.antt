-- In every run an agent of the terms waits for what it asked for.
use Rattle.sbp_world.proofs.Words.Std.{subst, sym, ◌∷◌, ◌++◌, map}
use Rattle.sbp_world.proofs.Words.Wire.{asked, said}
use Rattle.sbp_world.proofs.Words.World.{ready_logins, after, beginning, after_all, begun, AreAgentsAt, AreAskedAt, AskedBetweenLaw, AskedRunLaw, AreHeldAt}
use Rattle.sbp_world.proofs.Agents.Management.Lines.{all_heard, opens}
use Rattle.sbp_world.proofs.Agents.Management.Runs.{holds_after, no_repeats, not_reset}
use Rattle.sbp_world.proofs.Agents.Management.Still.{hist}
use Rattle.sbp_world.proofs.Agents.AskedAgents.{are_asked}
use Rattle.sbp_world.proofs.Agents.CrewRuns.{agents_between_law, agents_run_law}
use Rattle.sbp_world.proofs.Agents.Holders.{holders_between_law, holders_law}
use Rattle.sbp_world.proofs.Hosts.Runs.{are_told}

pub asked_run_law : AskedRunLaw
asked_run_law line run few has small size short all fit =
    let r = holds_after line run run.entries few has small size short all fit in
    let w = (after (beginning run) run.entries).world in
    let start = run.start.disks in
    let agents = subst (λ ms. AreAgentsAt start ms w) (sym r.is) (agents_run_law line run few has small size short all fit) in
    let held = subst (λ ms. AreHeldAt start ms w) (sym r.is) (holders_law line run few has small size short all fit) in
    subst (AreAskedAt start) r.is (are_asked run.units (ready_logins run.initiators run.ready) has start w r.holds agents.requests agents.are agents.known held)

pub asked_between_law : AskedBetweenLaw
asked_between_law line run few has small size short all fit next event d told may =
    let r = holds_after line run run.entries few has small size short all fit in
    let s = after (beginning run) run.entries in
    let logins = ready_logins run.initiators run.ready in
    let start = run.start.disks in
    let opened = opens run.units logins has start next event s.world (not_reset event d) r.holds in
    let h = all_heard run.units logins has start told (are_told told s may) (begun s) opened (no_repeats event (hist r.past s.world) next d) in
    let w = (after_all told (begun s)).world in
    let agents = subst (λ ms. AreAgentsAt start (map said w.fresh ++ asked next event ∷ ms) w) (sym r.is) (agents_between_law line run few has small size short all fit next event d told may) in
    let held = subst (λ ms. AreHeldAt start (map said w.fresh ++ asked next event ∷ ms) w) (sym r.is) (holders_between_law line run few has small size short all fit next event d told may) in
    subst (λ ms. AreAskedAt start (map said w.fresh ++ asked next event ∷ ms)) r.is (are_asked run.units logins has start w h agents.requests agents.are agents.known held)
