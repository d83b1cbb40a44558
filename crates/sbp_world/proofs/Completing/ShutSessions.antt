-- At each place of every run in which nobody injected packets, the session of an initiator that has a login under way is not out: it is entering, or stuck.
use Rattle.sbp_world.proofs.Words.Std.{◌≡◌, ◌∙◌, refl, sym, ap, subst, inl, ℕ, Bool, false, List, Option, Some}
use Rattle.sbp_world.proofs.Words.Wire.{Moment, Operation}
use Rattle.sbp_world.proofs.Words.Initiator.{InitiatorState}
use Rattle.sbp_world.proofs.Words.Laws.{Session, Underway, host_at}
use Rattle.sbp_world.proofs.Words.World.{Core, WorldState, host_core, initiator_at, more_deliveries, operation_by, work_of}
use Rattle.sbp_journal.specs.declared.operation.Operation.TheVariants as operations
use Rattle.sbp_laws.specs.Hosts as terms
use Rattle.sbp_laws.specs.JudgementLaw.{is_out}
use Rattle.sbp_world.specs.Completing.Shut.{AreLoginsInside, LoginsInsideLaw}
use Rattle.sbp_world.proofs.Agents.Management.Still.{hist}
use Rattle.sbp_world.proofs.Completing.AnswersRuns.{by_places}
use Rattle.sbp_world.proofs.Hosts.Hosted.{Cored}
use Rattle.sbp_world.proofs.Hosts.Knowing.{Sits}
use Rattle.sbp_world.proofs.Lists.Clauses.{open_lists_law}
use Rattle.sbp_world.proofs.Lists.Courses.{EveryPlace, more_than_one}
use Rattle.sbp_world.proofs.Lists.ListsProved.{closing}
use Rattle.sbp_world.proofs.Lists.LiveRuns.{IsCored, Known, known_everywhere}

enters : (session : Session) → Sits (Some operations.Login) session → is_out session ≡ false
enters terms.out h = absurd h
enters terms.entering h = refl
enters terms.live h = absurd h
enters terms.held h = absurd h
enters terms.returning h = absurd h
enters terms.leaving h = absurd h
enters (terms.stuck had) h = refl

pub enters_core : (ready : Bool) (past : List Moment) (i : ℕ) (s : InitiatorState) → Cored ready past i s → (underway : Underway) → (host_at past i).operation ≡ Some underway → underway.operation ≡ operations.Login → is_out (host_at past i).session ≡ false
enters_core ready past i s cored underway is login =
    let host = host_at past i in
    let sits : Sits (operation_by (host_core host).work) (host_core host).session = subst (λ (x : Core). Sits (operation_by x.work) x.session) (sym cored.core) cored.sits in
    let operation : operation_by (work_of host.operation) ≡ Some operations.Login = ap (λ x. operation_by (work_of x)) is ∙ ap (λ x. Some x) login in
    enters host.session (subst (λ (x : Option Operation). Sits x host.session) operation sits)

inside : (past : List Moment) (w : WorldState) → Known past w → AreLoginsInside past w
inside past w k i within underway is login = let c : IsCored past i (initiator_at w i) = k.cored i within in enters_core c.ready past i (initiator_at w i) c.cored underway is login

places : EveryPlace (λ start past w. AreLoginsInside past w)
places = by_places (λ start past w. Known past w) (λ start past w. AreLoginsInside past w) (λ units ready has start past lines w h k. inside (hist past w) w k) known_everywhere

pub logins_inside_law : LoginsInsideLaw
logins_inside_law = record {
  after_lines = λ line run r has small size tame. places.after_lines line run r has small size (closing.before open_lists_law line run r has small size (inl tame));
  between = λ line run r has small size next most told m tame.
      places.between line run r has small size next most told m (closing.between open_lists_law line run r has small size next (more_deliveries most) (more_than_one most) told m (inl tame));
}
