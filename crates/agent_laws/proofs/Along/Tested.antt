-- The laws of an agent along a list whose ORBs are known by tests.
use Rattle.agent_laws.specs.Along.Laws.{list_by, CallsKeepAlong, ListsMayGrow, ListsGoInOrder}
use Rattle.agent_laws.proofs.Along.Writes.{keeps_along}
use Rattle.agent_laws.proofs.Along.Growing.{grown}
use Rattle.agent_laws.proofs.Along.Telling.{goes_along}

pub calls_keep_along : CallsKeepAlong
calls_keep_along t = keeps_along (list_by t)

pub lists_may_grow : ListsMayGrow
lists_may_grow t more = grown (list_by t) (list_by more)

pub lists_go_in_order : ListsGoInOrder
lists_go_in_order t = goes_along (list_by t)
