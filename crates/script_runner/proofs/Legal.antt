-- The event of a line that has no fault has a legal command, if it has one.
use Rattle.std.proofs.Common.{◌≡◌, subst, ℕ, ◌+◌, ◌<◌, ◌==◌, ◌&&◌, nat_le, Bool, true, false, cond, List, [], ◌∷◌, map, sum, length, bytes_eq, codes, Option, Some, None, Result, Ok, Err, arith}
use Rattle.std.specs.Prelude.{IfOk}
use Rattle.std.specs.List.{AllByRecursion, list_all}
use Rattle.std.proofs.lemmas.Bool.{leb-true}
use Rattle.sbp_journal.specs.declared.event.Cmd.{Cmd}
use Rattle.sbp_journal.specs.declared.event.Event.{Event}
use Rattle.sbp_journal.specs.declared.event.Event.TheVariants as events
use Rattle.script_words.specs.declared.fault.LineFault.{LineFault}
use Rattle.script_words.specs.declared.fault.LineFault.TheVariants as faults
use Rattle.script_words.specs.declared.fixed.FixedWord.TheVariants.{Seg, Pay}
use Rattle.script_words.specs.declared.verb.Verb.{Verb}
use Rattle.script_words.specs.Commands.{behind, cmd_of, command, max_payload, segments, with_end}
use Rattle.script_words.specs.Payload.{lengths, summing}
use Rattle.script_words.specs.Verbs.{verb_of}
use Rattle.script_words.specs.Words.{◌>>=◌, hex_bytes, is_between, number, numbers, value}
use Rattle.script_text.specs.declared.row.Act.{Act}
use Rattle.script_text.specs.declared.row.Act.TheVariants as acts
use Rattle.script_text.specs.declared.row.Fate.{Fate}
use Rattle.script_text.specs.declared.row.Fate.TheVariants as fates
use Rattle.script_text.specs.declared.row.OrbAct.{OrbAct}
use Rattle.script_text.specs.declared.row.OrbAct.TheVariants as orb_acts
use Rattle.script_text.specs.declared.row.Placing.{Placing}
use Rattle.script_text.specs.declared.row.Placing.TheVariants as placings
use Rattle.script_text.specs.declared.row.Row.{Row}
use Rattle.script_text.specs.declared.row.Row.TheVariants as rows
use Rattle.script_text.specs.Line.{action_of, all_differ, arguments, event_of, fated, orb_action, placed, reading, reset}
use Rattle.sbp_world.specs.Completing.Deaths.{IsLegal}
use Rattle.script_runner.specs.Legal.{IsLegalEvent}
use Rattle.script_runner.proofs.Fits.{both, chosen_is, max_payload_fits, says_so, then_fits}

-- ---- commands

-- each segment has bytes
abbrev AreSome : List ℕ → Type 0
AreSome segs = AllByRecursion (λ count. 0 < count) segs

numbers_some : (high : ℕ) (ws : List (List ℕ)) (lens : List ℕ) → numbers 1 high ws ≡ Ok lens → AreSome lens
numbers_some high ws lens e =
    let c = chosen_is (list_all (is_between 1 high) ws) (map value ws) lens faults.Range e in
    subst AreSome c.1 (each ws c.0)
  where
    each : (words : List (List ℕ)) → list_all (is_between 1 high) words ≡ true → AreSome (map value words)
    each [] all = tt
    each (word ∷ words) all =
        let parts = both (is_between 1 high word) (list_all (is_between 1 high) words) all in
        let some = leb-true 1 (value word) (both (nat_le 1 (value word)) (nat_le (value word) high) parts.0).0 in
        (omega (arith, some), each words parts.1)

summing_some : (total : ℕ) (lens : List ℕ) → AreSome lens → IfOk (summing total lens) AreSome
summing_some total lens some = elim (sum lens == total) as (λ t. IfOk (cond t (Ok lens) (Err faults.Range)) AreSome) [
  | true ↦ some
  | false ↦ tt
]

segments_some : (total : ℕ) (word : Option (List ℕ)) → IfOk (segments total word) AreSome
segments_some total None = tt
segments_some total (Some word) = elim (nat_le (length (lengths word)) 64) as (λ t. IfOk (cond t (numbers 1 16384 (lengths word) >>= summing total) (Err faults.Range)) AreSome) [
  | true ↦ then_fits AreSome (numbers 1 16384 (lengths word)) (summing total) (λ lens e. summing_some total lens (numbers_some 16384 (lengths word) lens e))
  | false ↦ tt
]

end_legal : (ws : List (List ℕ)) (cmd : Cmd) → IfOk (with_end ws cmd) IsLegal
end_legal ws cmd = then_segments (segments cmd.length (behind Seg ws)) (segments_some cmd.length (behind Seg ws))
  where
    then_segments : (r : Result (List ℕ) LineFault) → IfOk r AreSome → IfOk (r >>= λ segs. max_payload (behind Pay ws) >>= λ most. Ok (record cmd { segments = segs; max_payload = most })) IsLegal
    then_segments (Ok segs) some =
        then_fits IsLegal (max_payload (behind Pay ws)) _ (λ most e. record { limit = max_payload_fits (behind Pay ws) most e; some = some })
    then_segments (Err fault) some = tt

cmd_legal : (verb : Option Verb) (ws : List (List ℕ)) → IfOk (cmd_of verb ws) IsLegal
cmd_legal None ws = tt
cmd_legal (Some verb) ws = then_fits IsLegal (command verb ws) (with_end ws) (λ cmd e. end_legal ws cmd)

-- ---- events

action_legal : (i : ℕ) (act : Act) → IsLegalEvent (events.Act i (action_of act))
action_legal i acts.Rom = λ line past. tt
action_legal i _ = λ line past. tt

orb_legal : (i : ℕ) (act : OrbAct) (orb : ℕ) → IsLegalEvent (events.Act i (orb_action act orb))
orb_legal i orb_acts.Abort orb = λ line past. tt
orb_legal i orb_acts.Dummy orb = λ line past. tt

placed_legal : (i : ℕ) (placing : Placing) (cmd : Cmd) → IsLegal cmd → IsLegalEvent (events.Act i (placed placing cmd))
placed_legal i placings.Put cmd legal = λ line past. legal
placed_legal i placings.Append cmd legal = λ line past. legal

fate_legal : (fate : Fate) (serial : ℕ) → IsLegalEvent (fated fate serial)
fate_legal fates.Deliver serial = λ line past. tt
fate_legal _ serial = λ line past. tt

-- ---- rows

-- what holds of whatever the next step gives
next : {A : Type 0} (r : Result A LineFault) (f : A → Result Event LineFault) → ((a : A) → IfOk (f a) IsLegalEvent) → IfOk (r >>= f) IsLegalEvent
next r f h = then_fits IsLegalEvent r f (λ a e. h a)

row_begin : (ws : List (List ℕ)) → IfOk (event_of rows.Begin ws) IsLegalEvent
row_begin [] = tt
row_begin (n ∷ []) = tt
row_begin (n ∷ mode ∷ []) = next (number 1 4 n) _ (λ k line past. tt)
row_begin (n ∷ mode ∷ w ∷ ws) = tt

row_act : (act : Act) (ws : List (List ℕ)) → IfOk (event_of (rows.Act act) ws) IsLegalEvent
row_act act [] = tt
row_act act (i ∷ []) = next (number 0 3 i) _ (λ k. action_legal k act)
row_act act (i ∷ w ∷ ws) = tt

row_login : (ws : List (List ℕ)) → IfOk (event_of rows.Login ws) IsLegalEvent
row_login [] = tt
row_login (i ∷ []) = tt
row_login (i ∷ u ∷ []) = tt
row_login (i ∷ u ∷ r ∷ options) = next (number 0 3 i) _ (λ a. next (number 0 3 u) _ (λ b. next (number 0 15 r) _ (λ c line past. tt)))

row_query : (ws : List (List ℕ)) → IfOk (event_of rows.Query ws) IsLegalEvent
row_query [] = tt
row_query (i ∷ []) = tt
row_query (i ∷ u ∷ []) = next (number 0 3 i) _ (λ a. next (number 0 3 u) _ (λ b line past. tt))
row_query (i ∷ u ∷ w ∷ ws) = tt

row_orb : (act : OrbAct) (ws : List (List ℕ)) → IfOk (event_of (rows.OnOrb act) ws) IsLegalEvent
row_orb act [] = tt
row_orb act (i ∷ []) = tt
row_orb act (i ∷ k ∷ []) = next (number 0 3 i) _ (λ a. next (number 0 65535 k) _ (λ b. orb_legal a act b))
row_orb act (i ∷ k ∷ w ∷ ws) = tt

row_command : (placing : Placing) (ws : List (List ℕ)) → IfOk (event_of (rows.Command placing) ws) IsLegalEvent
row_command placing [] = tt
row_command placing (i ∷ []) = tt
row_command placing (i ∷ verb ∷ ws) = next (number 0 3 i) _ (λ a. then_cmd a (cmd_of (verb_of verb) ws) (cmd_legal (verb_of verb) ws))
  where
    then_cmd : (a : ℕ) (r : Result Cmd LineFault) → IfOk r IsLegal → IfOk (r >>= λ cmd. Ok (events.Act a (placed placing cmd))) IsLegalEvent
    then_cmd a (Ok cmd) legal = placed_legal a placing cmd legal
    then_cmd a (Err fault) legal = tt

-- one of two events, or none
chosen : (t : Bool) (event : Event) → IsLegalEvent event → IfOk (cond t (Ok event) (Err faults.Range)) IsLegalEvent
chosen true event legal = legal
chosen false event legal = tt

row_reset : (ws : List (List ℕ)) → IfOk (event_of rows.Reset ws) IsLegalEvent
row_reset ws = next (numbers 0 62 ws) reset (λ ids. chosen (all_differ ids) (events.Reset ids) (λ line past. tt))

row_see : (ws : List (List ℕ)) → IfOk (event_of rows.See ws) IsLegalEvent
row_see [] = tt
row_see (node ∷ []) =
    elim (bytes_eq node (codes "t")) as (λ t. IfOk (cond t (Ok (events.See 0)) (number 0 3 node >>= λ i. Ok (events.See (i + 1)))) IsLegalEvent) [
      | true ↦ λ line past. tt
      | false ↦ next (number 0 3 node) _ (λ i line past. tt)
    ]
row_see (node ∷ w ∷ ws) = tt

row_key : (ws : List (List ℕ)) → IfOk (event_of rows.Key ws) IsLegalEvent
row_key [] = tt
row_key (u ∷ []) = tt
row_key (u ∷ key ∷ []) = next (number 0 3 u) _ (λ k line past. tt)
row_key (u ∷ key ∷ w ∷ ws) = tt

row_fate : (fate : Fate) (ws : List (List ℕ)) → IfOk (event_of (rows.Fate fate) ws) IsLegalEvent
row_fate fate [] = tt
row_fate fate (s ∷ []) = next (number 1 4294967295 s) _ (λ k. fate_legal fate k)
row_fate fate (s ∷ w ∷ ws) = tt

row_step : (ws : List (List ℕ)) → IfOk (event_of rows.Step ws) IsLegalEvent
row_step [] = tt
row_step (k ∷ []) = next (number 1 10000 k) _ (λ c line past. tt)
row_step (k ∷ w ∷ ws) = tt

row_settle : (ws : List (List ℕ)) → IfOk (event_of rows.Settle ws) IsLegalEvent
row_settle [] = λ line past. tt
row_settle (w ∷ ws) = tt

row_tick : (ws : List (List ℕ)) → IfOk (event_of rows.Tick ws) IsLegalEvent
row_tick [] = λ line past. tt
row_tick (w ∷ ws) = tt

row_inject : (ws : List (List ℕ)) → IfOk (event_of rows.Inject ws) IsLegalEvent
row_inject [] = tt
row_inject (i ∷ []) = tt
row_inject (i ∷ word ∷ []) = next (number 0 3 i) _ (λ k. chosen (nat_le 8 (length word) && nat_le (length word) 4128) (events.Inject k (hex_bytes word)) (λ line past. tt))
row_inject (i ∷ word ∷ w ∷ ws) = tt

row_legal : (r : Row) (ws : List (List ℕ)) → IfOk (event_of r ws) IsLegalEvent
row_legal rows.Begin ws = row_begin ws
row_legal (rows.Act act) ws = row_act act ws
row_legal rows.Login ws = row_login ws
row_legal rows.Query ws = row_query ws
row_legal (rows.OnOrb act) ws = row_orb act ws
row_legal (rows.Command placing) ws = row_command placing ws
row_legal rows.Reset ws = row_reset ws
row_legal rows.See ws = row_see ws
row_legal rows.Key ws = row_key ws
row_legal (rows.Fate fate) ws = row_fate fate ws
row_legal rows.Step ws = row_step ws
row_legal rows.Settle ws = row_settle ws
row_legal rows.Tick ws = row_tick ws
row_legal rows.Inject ws = row_inject ws

-- ---- lines

pub line_legal : (line : List ℕ) (n : ℕ) (event : Event) → reading line n ≡ Ok (Some event) → IsLegalEvent event
line_legal line n event e =
    let s = says_so line n event e in subst (λ x. IfOk x IsLegalEvent) s.is (row_legal s.r (arguments line))
