use Rattle.sbp_initiator.proofs.commands.put.Goals as goal

pub prepare-requires-clause-request : goal.prepare-requires-clause-request
prepare-requires-clause-request c = rw (c.as_slice.ensures, c.as_slice-2.ensures) (c.requires.command c.args.node c.args.login)
