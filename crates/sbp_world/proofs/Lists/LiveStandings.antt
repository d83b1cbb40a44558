-- Where an initiator's session stands with the target, also that of a stuck one: apart from it, on its way in, inside under the ID of its login, or on its way
-- out. What the live logins of its node are then, and what each change leaves of that where the target does nothing.
use Rattle.sbp_world.proofs.Words.Std.{◌≡◌, subst, ◌⊎◌, inl, inr, ℕ, true, false, List, Option, Some, None}
use Rattle.sbp_world.proofs.Words.Target.{Login, Operation, status_block}
use Rattle.sbp_world.proofs.Words.Initiator.{Origin, Seat, stick}
use Rattle.sbp_world.proofs.Words.World.{is_written, HasLogin, HasNone, HasOne}
use Rattle.mgmt_agent.specs.declared.operation.Phase.TheVariants as phases
use Rattle.mgmt_agent.specs.declared.status.Status.TheVariants as statuses
use Rattle.mgmt_agent.specs.Machine.{Machine}
use Rattle.sbp_session.specs.declared.seat.Origin.TheVariants as origins
use Rattle.sbp_world.specs.Lists.Live.{AreNamed}
use Rattle.sbp_world.proofs.Lists.LiveTables.{has_named, none_one}

pub data Stand : Type 0 where
  apart : Stand
  comes : Stand
  inside : (number : ℕ) → Stand
  leaves : (number : ℕ) → Stand

abbrev pub stand_by : Origin → Stand
stand_by (origins.Out out) = apart
stand_by (origins.Entering entering) = comes
stand_by (origins.Live live) = inside live.response.login
stand_by (origins.Held response) = apart
stand_by (origins.Returning response) = comes
stand_by (origins.Leaving response) = leaves response.login

abbrev pub stand_of : Seat → Stand
stand_of seat = stand_by (stick seat)

-- the ID of its login, where it is in
abbrev pub number_in : Stand → Option ℕ
number_in (inside number) = Some number
number_in (leaves number) = Some number
number_in _ = None

-- the status block of a management ORB with status 00
abbrev pub good_block : ℕ → List ℕ
good_block orb = status_block orb statuses.NoFault

-- what is known while the ORB is not decided
pub record Unread (stand : Stand) (places : List (Option Login)) (id : ℕ) : Type 0 where
  pub comes_none : stand ≡ comes → HasNone places id
  pub leaves_has : (number : ℕ) → stand ≡ leaves number → HasLogin places id number

-- what the bytes of a status block say
pub record Says (stand : Stand) (places : List (Option Login)) (id orb : ℕ) (bytes : List ℕ) : Type 0 where
  pub of_comes : stand ≡ comes → (bytes ≡ good_block orb) ⊎ HasNone places id
  pub of_leaves : (number : ℕ) → stand ≡ leaves number → bytes ≡ good_block orb

-- Of the node with an ID, by where its initiator's session stands, the target's management and its live logins. Served says that the write of the operation under
-- way was taken by the target, Active that what the target has of it is not over, and Tells which status blocks wait.
pub record Claims (Served Active : Type 0) (Tells : ℕ → List ℕ → Type 0) (stand : Stand) (id : ℕ) (m : Machine) (places : List (Option Login)) : Type 0 where
  pub one : HasOne places id
  pub apart_none : stand ≡ apart → HasNone places id
  pub named : (number : ℕ) → number_in stand ≡ Some number → AreNamed places id number
  pub live : (number : ℕ) → stand ≡ inside number → HasLogin places id number
  pub leaving : (number : ℕ) → stand ≡ leaves number → HasLogin places id number ⊎ (Served × HasNone places id)
  pub early : stand ≡ comes → Served ⊎ HasNone places id
  pub reading : (op : Operation) → m.operation ≡ Some op → op.source ≡ id → is_written op.phase ≡ false → Unread stand places id
  pub written : (op : Operation) → m.operation ≡ Some op → op.source ≡ id → Active → is_written op.phase ≡ true → (number : ℕ) → stand ≡ leaves number → HasNone places id
  pub status : (op : Operation) → m.operation ≡ Some op → op.source ≡ id → Active → op.phase ≡ phases.Status → Says stand places id op.orb m.outgoing
  pub pended : (orb : ℕ) (bytes : List ℕ) → Tells orb bytes → Says stand places id orb bytes × ((number : ℕ) → stand ≡ leaves number → HasNone places id)

-- ---- stands differ
pub apart_comes : {A : Type 0} → apart ≡ comes → A
apart_comes e = absurd (differ e)
  where
    differ : apart ≡ comes → ⊥
    differ e = cc

pub apart_inside : {A : Type 0} (number : ℕ) → apart ≡ inside number → A
apart_inside number e = absurd (differ e)
  where
    differ : apart ≡ inside number → ⊥
    differ e = cc

pub apart_leaves : {A : Type 0} (number : ℕ) → apart ≡ leaves number → A
apart_leaves number e = absurd (differ e)
  where
    differ : apart ≡ leaves number → ⊥
    differ e = cc

pub comes_apart : {A : Type 0} → comes ≡ apart → A
comes_apart e = absurd (differ e)
  where
    differ : comes ≡ apart → ⊥
    differ e = cc

pub comes_inside : {A : Type 0} (number : ℕ) → comes ≡ inside number → A
comes_inside number e = absurd (differ e)
  where
    differ : comes ≡ inside number → ⊥
    differ e = cc

pub comes_leaves : {A : Type 0} (number : ℕ) → comes ≡ leaves number → A
comes_leaves number e = absurd (differ e)
  where
    differ : comes ≡ leaves number → ⊥
    differ e = cc

pub inside_apart : {A : Type 0} (number : ℕ) → inside number ≡ apart → A
inside_apart number e = absurd (differ e)
  where
    differ : inside number ≡ apart → ⊥
    differ e = cc

pub inside_comes : {A : Type 0} (number : ℕ) → inside number ≡ comes → A
inside_comes number e = absurd (differ e)
  where
    differ : inside number ≡ comes → ⊥
    differ e = cc

pub inside_leaves : {A : Type 0} (number other : ℕ) → inside number ≡ leaves other → A
inside_leaves number other e = absurd (differ e)
  where
    differ : inside number ≡ leaves other → ⊥
    differ e = cc

pub leaves_apart : {A : Type 0} (number : ℕ) → leaves number ≡ apart → A
leaves_apart number e = absurd (differ e)
  where
    differ : leaves number ≡ apart → ⊥
    differ e = cc

pub leaves_comes : {A : Type 0} (number : ℕ) → leaves number ≡ comes → A
leaves_comes number e = absurd (differ e)
  where
    differ : leaves number ≡ comes → ⊥
    differ e = cc

pub leaves_inside : {A : Type 0} (number other : ℕ) → leaves number ≡ inside other → A
leaves_inside number other e = absurd (differ e)
  where
    differ : leaves number ≡ inside other → ⊥
    differ e = cc

pub none_number : {A : Type 0} (number : ℕ) → None ≡ Some number → A
none_number number e = absurd (differ e)
  where
    differ : None ≡ Some number → ⊥
    differ e = cc

-- ---- the target does nothing
module _ (id : ℕ) (m : Machine) (places : List (Option Login)) where
  -- the node has no live login, and the session is apart
  pub claims_apart : (Served Active : Type 0) (Tells : ℕ → List ℕ → Type 0) → HasNone places id → Claims Served Active Tells apart id m places
  claims_apart Served Active Tells h = record {
    one = none_one id places h;
    apart_none = λ e. h;
    named = λ number e. none_number number e;
    live = λ number e. apart_inside number e;
    leaving = λ number e. apart_leaves number e;
    early = λ e. apart_comes e;
    reading = λ op is own f. record { comes_none = λ e. h; leaves_has = λ number e. apart_leaves number e };
    written = λ op is own served f number e. h;
    status = λ op is own served f. record { of_comes = λ e. inr h; of_leaves = λ number e. apart_leaves number e };
    pended = λ orb bytes t. (record { of_comes = λ e. inr h; of_leaves = λ number e. apart_leaves number e }, λ number e. h);
  }

  -- it begins to come in
  pub claims_comes : (Served Active : Type 0) (Tells : ℕ → List ℕ → Type 0) → HasNone places id → Claims Served Active Tells comes id m places
  claims_comes Served Active Tells h = record {
    one = none_one id places h;
    apart_none = λ e. h;
    named = λ number e. none_number number e;
    live = λ number e. comes_inside number e;
    leaving = λ number e. comes_leaves number e;
    early = λ e. inr h;
    reading = λ op is own f. record { comes_none = λ e. h; leaves_has = λ number e. comes_leaves number e };
    written = λ op is own served f number e. h;
    status = λ op is own served f. record { of_comes = λ e. inr h; of_leaves = λ number e. comes_leaves number e };
    pended = λ orb bytes t. (record { of_comes = λ e. inr h; of_leaves = λ number e. comes_leaves number e }, λ number e. h);
  }

  -- it is in
  pub claims_inside : (Served Active : Type 0) (Tells : ℕ → List ℕ → Type 0) (number : ℕ) → HasOne places id → HasLogin places id number → Claims Served Active Tells (inside number) id m places
  claims_inside Served Active Tells number one h = record {
    one = one;
    apart_none = λ e. inside_apart number e;
    named = λ other e. let same : number ≡ other = cc in subst (λ k. AreNamed places id k) same (has_named id places number one h);
    live = λ other e. let same : number ≡ other = cc in subst (λ k. HasLogin places id k) same h;
    leaving = λ other e. inside_leaves number other e;
    early = λ e. inside_comes number e;
    reading = λ op is own f. record { comes_none = λ e. inside_comes number e; leaves_has = λ other e. inside_leaves number other e };
    written = λ op is own served f other e. inside_leaves number other e;
    status = λ op is own served f. record { of_comes = λ e. inside_comes number e; of_leaves = λ other e. inside_leaves number other e };
    pended = λ orb bytes t. (record { of_comes = λ e. inside_comes number e; of_leaves = λ other e. inside_leaves number other e }, λ other e. inside_leaves number other e);
  }

  -- it begins to go out: the target took nothing of that yet, and no status block waits
  pub claims_leaves : (Served Active : Type 0) (Tells : ℕ → List ℕ → Type 0) (number : ℕ) → (Active → ⊥) → ((orb : ℕ) (bytes : List ℕ) → Tells orb bytes → ⊥) → HasOne places id → HasLogin places id number → Claims Served Active Tells (leaves number) id m places
  claims_leaves Served Active Tells number idle silent one h = record {
    one = one;
    apart_none = λ e. leaves_apart number e;
    named = λ other e. let same : number ≡ other = cc in subst (λ k. AreNamed places id k) same (has_named id places number one h);
    live = λ other e. leaves_inside number other e;
    leaving = λ other e. inl (let same : number ≡ other = cc in subst (λ k. HasLogin places id k) same h);
    early = λ e. leaves_comes number e;
    reading = λ op is own f. record { comes_none = λ e. leaves_comes number e; leaves_has = λ other e. let same : number ≡ other = cc in subst (λ k. HasLogin places id k) same h };
    written = λ op is own served f other e. absurd (idle served);
    status = λ op is own served f. absurd (idle served);
    pended = λ orb bytes t. absurd (silent orb bytes t);
  }

  module _ (Served Active : Type 0) (Tells : ℕ → List ℕ → Type 0) (stand : Stand) (c : Claims Served Active Tells stand id m places) where
    -- what is known of the operation under way is as it was
    pub claims_kept : (Now Acts : Type 0) (Waits : ℕ → List ℕ → Type 0) → (Served → Now) → ((op : Operation) → m.operation ≡ Some op → op.source ≡ id → Acts → Active) → ((orb : ℕ) (bytes : List ℕ) → Waits orb bytes → Tells orb bytes) → Claims Now Acts Waits stand id m places
    claims_kept Now Acts Waits on back tells = record {
      one = c.one;
      apart_none = c.apart_none;
      named = c.named;
      live = c.live;
      leaving = λ number e. leaving_by (c.leaving number e);
      early = λ e. early_by (c.early e);
      reading = c.reading;
      written = λ op is own now f number e. c.written op is own (back op is own now) f number e;
      status = λ op is own now f. c.status op is own (back op is own now) f;
      pended = λ orb bytes t. c.pended orb bytes (tells orb bytes t);
    }
      where
        leaving_by : {number : ℕ} → HasLogin places id number ⊎ (Served × HasNone places id) → HasLogin places id number ⊎ (Now × HasNone places id)
        leaving_by (inl h) = inl h
        leaving_by (inr h) = inr (on h.0, h.1)

        early_by : Served ⊎ HasNone places id → Now ⊎ HasNone places id
        early_by (inl s) = inl (on s)
        early_by (inr h) = inr h

    -- an operation that does not move the session begins or ends
    pub claims_quiet : (Now Acts : Type 0) (Waits : ℕ → List ℕ → Type 0) → (stand ≡ comes → ⊥) → ((number : ℕ) → stand ≡ leaves number → ⊥) → Claims Now Acts Waits stand id m places
    claims_quiet Now Acts Waits in_comes in_leaves = record {
      one = c.one;
      apart_none = c.apart_none;
      named = c.named;
      live = c.live;
      leaving = λ number e. absurd (in_leaves number e);
      early = λ e. absurd (in_comes e);
      reading = c.reading;
      written = λ op is own now f number e. absurd (in_leaves number e);
      status = λ op is own now f. record { of_comes = λ e. absurd (in_comes e); of_leaves = λ number e. absurd (in_leaves number e) };
      pended = λ orb bytes t. (record { of_comes = λ e. absurd (in_comes e); of_leaves = λ number e. absurd (in_leaves number e) }, λ number e. absurd (in_leaves number e));
    }
