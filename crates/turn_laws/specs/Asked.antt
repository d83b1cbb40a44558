-- The requests of the target that nobody asked for (NCITS 325-1998, unsolicited status): `asked` of the sent law.
use Rattle.sbp_laws.specs.Turns.{EachMoment}
use Rattle.sbp_laws.specs.Unasked.{NoneUnasked}
use Rattle.turn_laws.specs.Runs.{OfEveryRun}

abbrev pub AskedLaw : Type 0
AskedLaw = OfEveryRun (λ start past. EachMoment (NoneUnasked start) past)
