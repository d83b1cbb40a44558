-- The marks of the laws and those of the target: the places of a unit's logins as a list and as a mask; and a disc came into the tray exactly where a good
-- load moved one.
use Rattle.sbp_world.proofs.Words.Std.{arith, ◌≡◌, ◌∙◌, refl, sym, ap, ℕ, suc, ◌+◌, ◌^◌, ◌==◌, ◌&&◌, nat_eq, not, Bool, true, false, cond, List, [], ◌∷◌, length, Option, Some, None, Result, Ok, Err, cons_option}
use Rattle.sbp_world.proofs.Words.Target.{Login, IsSound, place_at, units_places, Sense, Disc, Disk, ejected, loaded, loads, is_load, request_of, medium_after, medium_after_good, medium_ended, UnitState, plain_disk, Request, came, is_of_unit, is_place, mask_of}
use Rattle.sbp_world.proofs.Words.Laws.{all_but, asks_load, is_good, moves_disc, places_of}
use Rattle.rbc_command.specs.declared.command.Command.TheVariants as commands
use Rattle.rbc_disk.specs.declared.request.Request.TheVariants as requests
use Rattle.sbp_world.proofs.Wire.Shares.{flip}

-- ---- masks

-- the bits of the places from one on
abbrev bits_from : (k unit : ℕ) → Option ℕ → List (Option Login) → ℕ
bits_from k unit except [] = 0
bits_from k unit except (x ∷ places) = cond (is_of_unit unit x && not (is_place except k)) (2 ^ k) 0 + bits_from (k + 1) unit except places

mask_bits : (unit : ℕ) (except : Option ℕ) (places : List (Option Login)) → length places ≡ 8 → mask_of unit except places ≡ bits_from 0 unit except places
unfolding mask_of
mask_bits unit except [] e = absurd (omega (arith, e))
mask_bits unit except (a ∷ []) e = absurd (omega (arith, e))
mask_bits unit except (a ∷ b ∷ []) e = absurd (omega (arith, e))
mask_bits unit except (a ∷ b ∷ c ∷ []) e = absurd (omega (arith, e))
mask_bits unit except (a ∷ b ∷ c ∷ d ∷ []) e = absurd (omega (arith, e))
mask_bits unit except (a ∷ b ∷ c ∷ d ∷ f ∷ []) e = absurd (omega (arith, e))
mask_bits unit except (a ∷ b ∷ c ∷ d ∷ f ∷ g ∷ []) e = absurd (omega (arith, e))
mask_bits unit except (a ∷ b ∷ c ∷ d ∷ f ∷ g ∷ h ∷ []) e = absurd (omega (arith, e))
mask_bits unit except (a ∷ b ∷ c ∷ d ∷ f ∷ g ∷ h ∷ i ∷ []) e = omega arith
mask_bits unit except (a ∷ b ∷ c ∷ d ∷ f ∷ g ∷ h ∷ i ∷ j ∷ more) e = absurd (omega (arith, e))

-- each login has the number of its place
abbrev AreNumbered : ℕ → List (Option Login) → Type 0
AreNumbered k places = (i : ℕ) (login : Login) → place_at places i ≡ Some login → login.place ≡ k + i

numbered_first : (k : ℕ) (login : Login) (places : List (Option Login)) → AreNumbered k (Some login ∷ places) → login.place ≡ k
numbered_first k login places n = let e = n 0 login refl in omega (arith, e)

numbered_rest : (k : ℕ) (x : Option Login) (places : List (Option Login)) → AreNumbered k (x ∷ places) → AreNumbered (k + 1) places
numbered_rest k x places n i login e = let f = n (suc i) login e in omega (arith, f)

-- one place of the list
other_bit : (of_unit same : Bool) (k place : ℕ) (later : List ℕ) (rest : ℕ) → nat_eq k place ≡ same → places_of (all_but place later) ≡ rest
    → places_of (all_but place (cons_option (cond of_unit (Some k) None) later)) ≡ cond (of_unit && not same) (2 ^ k) 0 + rest
other_bit true true k place later rest e h = ap (λ b. places_of (cond (not b) (k ∷ all_but place later) (all_but place later))) e ∙ h ∙ omega arith
other_bit true false k place later rest e h = ap (λ b. places_of (cond (not b) (k ∷ all_but place later) (all_but place later))) e ∙ ap (λ n. 2 ^ k + n) h
other_bit false same k place later rest e h = h ∙ omega arith

others_bits : (k unit place : ℕ) (places : List (Option Login)) → AreNumbered k places → places_of (all_but place (units_places unit places)) ≡ bits_from k unit (Some place) places
others_bits k unit place [] n = refl
others_bits k unit place (None ∷ places) n = others_bits (k + 1) unit place places (numbered_rest k None places n) ∙ omega arith
others_bits k unit place (Some login ∷ places) n =
    let rest = others_bits (k + 1) unit place places (numbered_rest k (Some login) places n) in
    ap (λ p. places_of (all_but place (cons_option (cond (nat_eq login.unit unit) (Some p) None) (units_places unit places)))) (numbered_first k login places n)
    ∙ other_bit (nat_eq login.unit unit) (nat_eq place k) k place (units_places unit places) (bits_from (k + 1) unit (Some place) places) (flip k place) rest

one_bit : (of_unit : Bool) (k : ℕ) (later : List ℕ) (rest : ℕ) → places_of later ≡ rest → places_of (cons_option (cond of_unit (Some k) None) later) ≡ cond (of_unit && true) (2 ^ k) 0 + rest
one_bit true k later rest h = ap (λ n. 2 ^ k + n) h
one_bit false k later rest h = h ∙ omega arith

all_bits : (k unit : ℕ) (places : List (Option Login)) → AreNumbered k places → places_of (units_places unit places) ≡ bits_from k unit None places
all_bits k unit [] n = refl
all_bits k unit (None ∷ places) n = all_bits (k + 1) unit places (numbered_rest k None places n) ∙ omega arith
all_bits k unit (Some login ∷ places) n =
    let rest = all_bits (k + 1) unit places (numbered_rest k (Some login) places n) in
    ap (λ p. places_of (cons_option (cond (nat_eq login.unit unit) (Some p) None) (units_places unit places))) (numbered_first k login places n)
    ∙ one_bit (nat_eq login.unit unit) k (units_places unit places) (bits_from (k + 1) unit None places) rest

numbered : (places : List (Option Login)) → IsSound places → AreNumbered 0 places
numbered places s i login e = let n = (s.numbered i login e).own in omega (arith, n)

pub others_mask : (unit place : ℕ) (places : List (Option Login)) → IsSound places → places_of (all_but place (units_places unit places)) ≡ mask_of unit (Some place) places
others_mask unit place places s = others_bits 0 unit place places (numbered places s) ∙ sym (mask_bits unit (Some place) places s.size)

pub all_mask : (unit : ℕ) (places : List (Option Login)) → IsSound places → places_of (units_places unit places) ≡ mask_of unit None places
all_mask unit places s = all_bits 0 unit places (numbered places s) ∙ sym (mask_bits unit None places s.size)

-- ---- a disc comes into the tray

pub came_not : (d : Disk) → came d d ≡ false
came_not d = by d.is_present
  where
    by : (b : Bool) → (not b && b) ≡ false
    by true = refl
    by false = refl

written_came : (b : Bool) (d w : Disk) → w.is_present ≡ d.is_present → came d (cond b d w) ≡ false
written_came true d w e = came_not d
written_came false d w e = ap (λ (p : Bool). not d.is_present && p) e ∙ came_not d

loaded_came : (bytes : Option (List ℕ)) (blocks : ℕ) (is_protected is_present is_bay : Bool) (shelf : List Disc) → (let d : Disk = record { bytes = bytes; blocks = blocks; is_protected = is_protected; is_present = is_present; is_bay = is_bay; shelf = shelf } in came d (loaded d) ≡ loads d)
loaded_came bytes blocks is_protected true true shelf = refl
loaded_came bytes blocks is_protected true false shelf = refl
loaded_came bytes blocks is_protected false true [] = refl
loaded_came bytes blocks is_protected false true (disc ∷ shelf) = refl
loaded_came bytes blocks is_protected false false shelf = refl

ejected_came : (bytes : Option (List ℕ)) (blocks : ℕ) (is_protected is_present is_bay : Bool) (shelf : List Disc) → (let d : Disk = record { bytes = bytes; blocks = blocks; is_protected = is_protected; is_present = is_present; is_bay = is_bay; shelf = shelf } in came d (ejected d) ≡ false)
ejected_came bytes blocks is_protected true true shelf = refl
ejected_came bytes blocks is_protected true false shelf = refl
ejected_came bytes blocks is_protected false true shelf = refl
ejected_came bytes blocks is_protected false false shelf = refl

good_came : (request : Request) (payload : List ℕ) (d : Disk) → came d (medium_after_good request payload d) ≡ (is_load request && loads d)
good_came requests.Load payload d = loaded_came d.bytes d.blocks d.is_protected d.is_present d.is_bay d.shelf
good_came requests.Eject payload d = ejected_came d.bytes d.blocks d.is_protected d.is_present d.is_bay d.shelf
good_came (requests.Plain commands.TestReady) payload d = came_not d
good_came (requests.Plain (commands.Inquiry allocation)) payload d = came_not d
good_came (requests.Plain (commands.StartStop start)) payload d = came_not d
good_came (requests.Plain (commands.Prevent on)) payload d = came_not d
good_came (requests.Plain commands.Capacity) payload d = came_not d
good_came (requests.Plain (commands.Read lba count)) payload d = came_not d
good_came (requests.Plain (commands.Write lba count)) payload d = written_came (count == 0) d _ refl
good_came (requests.Plain (commands.Verify lba count)) payload d = came_not d
good_came (requests.Plain commands.Sync) payload d = came_not d

ended_came : (r : Result Request Sense) (check : Option Sense) (payload : List ℕ) (d : Disk) → came d (medium_ended r payload check d) ≡ (is_good check && asks_load r && loads d)
ended_came (Ok request) None payload d = good_came request payload d
ended_came (Err refused) None payload d = came_not d
ended_came (Ok request) (Some check) payload d = came_not d
ended_came (Err refused) (Some check) payload d = came_not d

-- a disc came into the tray exactly where the run was a load that moved one
pub run_came : (cdb payload : List ℕ) (check : Option Sense) (unit : UnitState) (d : Disk) → came d (medium_after cdb payload check d) ≡ moves_disc cdb check (plain_disk unit d)
run_came cdb payload check unit d = ended_came (request_of d.is_bay cdb) check payload d
