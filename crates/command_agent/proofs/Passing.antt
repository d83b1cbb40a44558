-- What is known of an ORB that passed its checks.
use Rattle.std.proofs.Common.{arith, ◌≡◌, ◌≢◌, refl, ◌+◌, ◌^◌, ◌==◌, ◌&&◌, not, nat_lt, Bool, true, false, cond, Option, Some, None}
use Rattle.std.proofs.lemmas.Bool.Decides.{nat_tests}
use Rattle.orb_layout.specs.declared.command.CommandOrb.{CommandOrb}
use Rattle.orb_layout.specs.declared.status.StatusKind.{StatusKind}
use Rattle.orb_layout.specs.declared.status.StatusKind.TheVariants as kinds
use Rattle.command_agent.specs.Checks.{refusal, verdict, IsPassed}

refused_not : (a b c d e : Bool) (s t u v w : Option StatusKind) → s ≢ None → t ≢ None → u ≢ None → v ≢ None → w ≢ None → cond a s (cond b t (cond c u (cond d v (cond e w None)))) ≡ None → ((a ≡ false) × (b ≡ false)) × ((d ≡ false) × (e ≡ false))
refused_not true b c d e s t u v w p q r x y h = absurd (p h)
refused_not false true c d e s t u v w p q r x y h = absurd (q h)
refused_not false false true d e s t u v w p q r x y h = absurd (r h)
refused_not false false false true e s t u v w p q r x y h = absurd (x h)
refused_not false false false false true s t u v w p q r x y h = absurd (y h)
refused_not false false false false false s t u v w p q r x y h = ((refl, refl), (refl, refl))

some_kind : (kind : StatusKind) → Some kind ≢ None
some_kind kind e = cc

passes_fields : (orb : CommandOrb) → refusal orb ≡ None → IsPassed orb
unfolding refusal
passes_fields orb e =
    let f = refused_not (nat_lt 2 orb.speed) (nat_lt (7 + orb.speed) orb.max_payload) (orb.has_table && not (orb.page_size == 0)) (orb.has_table && nat_lt 64 orb.data_size) (not orb.has_table && nat_lt (2 ^ 48) (orb.descriptor + orb.data_size)) _ _ _ _ _ (some_kind (kinds.Illegal 0x02)) (some_kind (kinds.Illegal 0xff)) (some_kind (kinds.Illegal 0x03)) (some_kind (kinds.Illegal 0xff)) (some_kind (kinds.Illegal 0xff)) e in
    let speed = f.0.0 in
    let payload = f.0.1 in
    let elements = f.1.0 in
    let end = f.1.1 in
    record { limit = grind (arith, nat_tests); few = λ h. grind (arith, nat_tests); inside = λ h. grind (arith, nat_tests) }

verdict_not : (a b c : Bool) (s t u more : Option StatusKind) → s ≢ None → t ≢ None → u ≢ None → cond a s (cond b t (cond c u more)) ≡ None → more ≡ None
verdict_not true b c s t u more p q r h = absurd (p h)
verdict_not false true c s t u more p q r h = absurd (q h)
verdict_not false false true s t u more p q r h = absurd (r h)
verdict_not false false false s t u more p q r h = h

pub passes : (orb : CommandOrb) (aborted : Bool) → verdict orb aborted ≡ None → IsPassed orb
unfolding verdict
passes orb aborted e =
    passes_fields orb
    (verdict_not (orb.format == 3) (not (orb.format == 0)) aborted _ _ _ (refusal orb) (some_kind kinds.Dummy) (some_kind (kinds.Illegal 0x01)) (some_kind kinds.Aborted) e)
