-- What the target tells in each call: its notes have the form of a journal.
use Rattle.sbp_world.proofs.Words.Std.{subst, ℕ, List, Option, Some, None}
use Rattle.sbp_world.proofs.Words.Wire.{LabelParts, header_in, Finding, judging_step, of_again, of_generation, of_grammar, of_label, of_request, of_response, Side}
use Rattle.sbp_world.proofs.Words.Target.{Login, Told, Which, Purpose, which_in, FitsAt, FitsBy, FitsIn, Moves, fitting, announced, back, cleared, departed, died, ended, failed, lapsed, managed, opened, plain, ran, unsent, was_cut, Scene, desk_at, TellsAt, TellsIn, answer_in, expired, received, seen, ticked, with_layer, Stage, TellsBy, Whole, agent_step, plain_at, scene_of, served_login, stage}
use Rattle.sbp_world.proofs.Words.Initiator.{Answer}
use Rattle.sbp_target.specs.declared.purpose.Purpose.TheVariants as purposes
use Rattle.sbp_target.specs.Histories.Moves.{Tells as MayTell, held}
use Rattle.sbp_target.specs.Replies.{Tells}
use Rattle.sbp_target.proofs.Histories.Views.{expired_by, received_by, seen_by, sides_kept, ticked_by}
use Rattle.sbp_world.proofs.Formed.{AreFormed, IsFormed, more}
use Rattle.sbp_world.proofs.AgentForms.{FitsEnd, FitsRun, IsFit, lost_fits, reply_fits}

abbrev pub In : Scene → Type 0
In s = AreFormed s.outbox.sides

formed : (side : Side) → MayTell (fitting IsFit) side → IsFormed side
formed _ (ran place m step outcome f e) = subst FitsRun e f.0
formed _ (died place step cause f e) = tt
formed _ (ended place m step status f e) = subst FitsEnd e f.1
formed _ (plain _ (was_cut place cause c)) = tt
formed _ (plain _ (opened place orb t)) = tt
formed _ (plain _ (announced place t)) = tt
formed _ (plain _ (unsent place t)) = tt
formed _ (plain _ (failed source cause t)) = tt
formed _ (plain _ (managed source function subject status login a)) = tt
formed _ (plain _ (cleared unit a)) = tt
formed _ (plain _ (back login a)) = tt
formed _ (plain _ (departed login a)) = tt
formed _ (plain _ (held login a)) = tt
formed _ (plain _ (lapsed login a)) = tt

tells : (x y : Scene) → Moves (fitting IsFit) x y → In x → In y
tells x y m h = sides_kept (fitting IsFit) AreFormed (λ told side t i. more told side i (formed side t)) x y m h

-- the step of a reply fits where it tells what a run may
pub reply_is_fit : (told : Option Told) (place unit : ℕ) (which : Which) (answer : Answer) (s : Stage) (before now : List ℕ) → Tells told place unit which answer s before now → IsFit (agent_step told place unit which answer s).0
reply_is_fit told place unit which answer s before now t = reply_fits (desk_at s.node place).agent place (plain_at s unit) told which answer t.may

fits_by : (told : Option Told) (place : ℕ) (answer : Answer) (login : Option Login) (which : Option Which) (s : Stage) (before now : List ℕ) → TellsBy told place answer login which s before now → FitsBy (fitting IsFit) told place answer login which s
fits_by told place answer (Some login) (Some which) s before now t = reply_is_fit told place login.unit which answer s before now t
fits_by told place answer None which s before now t = tt
fits_by told place answer (Some login) None s before now t = tt

fits_at : (told : Option Told) (purpose : Option Purpose) (peer : ℕ) (label : LabelParts) (answer : Answer) (w : Whole) (before now : List ℕ) → TellsAt told purpose peer label answer w before now → FitsAt (fitting IsFit) told purpose peer label answer w
fits_at told (Some (purposes.Agent place)) peer label answer w before now t =
    fits_by told place answer (served_login w.node place) (which_in (desk_at w.node place) peer label) (stage w.node w.disks) before now t
fits_at told (Some purposes.Management) peer label answer w before now t = tt
fits_at told (Some purposes.Unsolicited) peer label answer w before now t = tt
fits_at told None peer label answer w before now t = tt

fits_in : (told : Option Told) (found : Finding Purpose) (w : Whole) (before now : List ℕ) → TellsIn told found w before now → FitsIn (fitting IsFit) told found w
fits_in told (of_response p label purpose) w before now t = fits_at told purpose (header_in p).source label (answer_in p) w before now t
fits_in told of_generation w before now t = tt
fits_in told of_grammar w before now t = tt
fits_in told of_label w before now t = tt
fits_in told (of_again p rcode) w before now t = tt
fits_in told (of_request p) w before now t = tt

-- ---- each call
pub receives : (told : Option Told) (generation : ℕ) (bytes : List ℕ) (w : Whole) (before now : List ℕ) → TellsIn told (judging_step w.node.layer generation bytes).0 (with_layer (judging_step w.node.layer generation bytes).1 w) before now → In (scene_of w) → In (scene_of (received told generation bytes w).1)
receives told generation bytes w before now t h =
    let found = judging_step w.node.layer generation bytes in
    tells (scene_of w) _ (received_by IsFit (λ ask. (tt, tt)) lost_fits told generation bytes w (fits_in told found.0 (with_layer found.1 w) before now t)) h

pub expires : (peer : ℕ) (label : LabelParts) (s : Scene) → In s → In (expired peer label s).1
expires peer label s h = tells s _ (expired_by IsFit (λ ask. (tt, tt)) lost_fits peer label s) h

pub sees : (generation id : ℕ) (s : Scene) → In s → In (seen generation id s).1
sees generation id s h = tells s _ (seen_by IsFit (λ ask. (tt, tt)) lost_fits generation id s) h

pub ticks : (s : Scene) → In s → In (ticked s)
ticks s h = tells s _ (ticked_by IsFit (λ ask. (tt, tt)) lost_fits s) h
