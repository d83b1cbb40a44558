-- What proofs cite of the world and its runs, under one name each.
pub use Rattle.sbp_world.specs.Agents.Agents.{AgentsBetweenLaw, AgentsRunLaw, AreAgentsAt, ArePurposedAt, SerialsBetweenLaw, SerialsLaw}
pub use Rattle.sbp_world.specs.Agents.Alike.{Alike, AlikeLaw, StepsAlike, TellsAlike, answers, has_list, moves_data}
pub use Rattle.sbp_world.specs.Agents.Asides.{AsidesLaw, MayGoOn}
pub use Rattle.sbp_world.specs.Agents.Asked.{AccessesLaw, AllAsk, AsksReally, CallsAskLaw, FollowLaw, IsBare, IsFit, IsSized, IsStill, IsUnder, LateLaw, Left, ManagementAskLaw, RepliesLaw, RequestsAskLaw, SightsLaw, TicksAskLaw, UnderLaw, ahead_body, gathered, has_next, main_body, reads_none, uses_buffer}
pub use Rattle.sbp_world.specs.Agents.AskedRuns.{AreAskedAt, AskedBetweenLaw, AskedRunLaw, HasAsked, IsAccessFor, WaitsForAsked, read_access, serial_of, write_access}
pub use Rattle.sbp_world.specs.Agents.Calls.{AgentsKeep, AgentsLaw, AreOf, Follow, accessed, affected, changed, managed}
pub use Rattle.sbp_world.specs.Agents.Crews.{AreOne, Has, IsOf, Request, ToldAlike, address, agent_in, answered, by_packet, by_packets, crew_over, crew_packet, crew_packets, crew_side, crew_sides, hired, hired_by, hired_in, pointed, sent_among, answered as term_answered, with_request, with_requests}
pub use Rattle.sbp_world.specs.Agents.Demands.{DemandsLaw, enabled_by}
pub use Rattle.sbp_world.specs.Agents.Enabled.{AreLive, AreTermsOf, EnabledBetweenLaw, EnabledLaw, EnabledTermsBetweenLaw, EnabledTermsLaw, HasLive}
pub use Rattle.sbp_world.specs.Agents.Fresh.{AreNew, LabelsAreNew, LabelsBetweenLaw, LabelsLaw}
pub use Rattle.sbp_world.specs.Agents.Hands.{AllLeave, AreTold, HandsLaw, IsOfStep, IsPart, IsRunOf, Leaves, MayResume, resumed, run_told, run_untold}
pub use Rattle.sbp_world.specs.Agents.Holders.{AreHeldAt, HoldersBetweenLaw, HoldersLaw, IsHeld, IsLiveOf}
pub use Rattle.sbp_world.specs.Agents.Leaving.{LeavingBetweenLaw, LeavingLaw, PacketsLeave}
pub use Rattle.sbp_world.specs.Agents.Management.Calls.{CallsKeep, ManagementLaw, delivered as delivered_office, demanded, lapsed, requested, seen}
pub use Rattle.sbp_world.specs.Agents.Management.Offices.{Agrees, Office, at_rest, by_managed, by_note, by_side, by_sides, cleared, with_key as office_key, office_of, replied as office_replied, ticked as office_ticked, placed, placed_by, replied, started, started_by, stepped, ticked, with_key}
pub use Rattle.sbp_world.specs.Agents.Management.Terms.{Awaits, DeliversMore, HasRequest, IsManagementAt, TermsLaw}
pub use Rattle.sbp_world.specs.Agents.Notes.{IsBehind, NotesLaw}
pub use Rattle.sbp_world.specs.Agents.Purposes.{ArePurposesAt, BetweenLaw, HasPurpose, PurposesLaw}
pub use Rattle.sbp_world.specs.Agents.Serials.{AreHandedAt, AreKnown, HandedBetweenLaw, IsForAgent, IsHanded, kept_as}
pub use Rattle.sbp_world.specs.Agents.Units.{AreUnitsAt, UnitsBetweenLaw, UnitsLaw}
pub use Rattle.sbp_world.specs.Delivering.{Delivers, MayAt, MayTold, Receives, TargetReceives, arrival, arrived_by, at_none, at_target, delivered_by, faults_after, faults_at, faults_by, initiator_received, judged_target, left_target, listed, marked, received_at, received_by, whole_of, with_initiators}
unfoldable pub use Rattle.sbp_world.specs.Delivering.{MayReceive, MayTell, arrived, delivered, faults_in, initiators_received, received_step, target_received}
pub use Rattle.sbp_world.specs.FitInitiator.{Acts, AreIds, BytesAction, BytesCommand, Expires, FitsMemory, FitsPlace, FitsSlot, FitsState, InitiatorFits, FittingLaw as OwnFittingLaw, Holds as OwnHolds}
pub use Rattle.sbp_world.specs.FitTarget.{BytesTold, FitsAgent, FitsAhead, FitsLogin, FitsManagement, FitsManager, FitsOperation, FitsOrb, FitsPhase, FitsSeat, FitsSegment, FittingLaw, Holds, IsOfKnown, TargetFits}
pub use Rattle.sbp_world.specs.Forms.{AreForms, AreTyped, FormLaw, HaveForm}
pub use Rattle.sbp_world.specs.Handing.{handed_out}
pub use Rattle.sbp_world.specs.Histories.{history_of, moments_behind}
pub use Rattle.sbp_world.specs.Hosts.Acting.{ActionLaw, HasRows}
pub use Rattle.sbp_world.specs.Hosts.Answering.{AnsweringLaw, GetsRequest, IsDelivering, in_order}
pub use Rattle.sbp_world.specs.Hosts.Answers.{TakenLaw, answer_held}
pub use Rattle.sbp_world.specs.Hosts.Bytes.{BytesLaw, HoldsBytes, byte_brought, byte_from, byte_held, is_got_by, took_quadlet, writes_quadlet}
pub use Rattle.sbp_world.specs.Hosts.Calling.{CallsLaw, IsCalled}
pub use Rattle.sbp_world.specs.Hosts.Calls.{Beside, CallLaw, Listed, MayBlock, MayFind, MayPacket, PinOf, Pinned, Pins, behind}
pub use Rattle.sbp_world.specs.Hosts.Carrying.{AllBring, Brings, CarriesLaw, Follows, HoldsOrb, HoldsPointer, HoldsTable, IsOrbOf as IsBytesOf, IsOfOrb, IsResponse, LeadsOn, NoneInjected}
pub use Rattle.sbp_world.specs.Hosts.Core.{Core, DecidesBySession, HasSession, HostLaw, Work, host_core, operation_by, own_core, placed as placed_in, session_in, work_in, work_of}
pub use Rattle.sbp_world.specs.Hosts.DataReads.{AllSend, DataLaw, SendsData}
pub use Rattle.sbp_world.specs.Hosts.Deciding.{RunRefusalLaw, is_decided}
pub use Rattle.sbp_world.specs.Hosts.Deliveries.{DeliveriesLaw, IsDelivered, front_of}
pub use Rattle.sbp_world.specs.Hosts.Finished.{FinishedLaw, GoesOnWith}
pub use Rattle.sbp_world.specs.Hosts.Fits.{AreRows, Fits, Frees, IfHeld, IfLast, IfList, LastFits, ListFits, ListTerms, LoweredFits, Rows, StateFits, Swept, ToCome, Waits, linked_by, over_at, over_now, terms_at}
pub use Rattle.sbp_world.specs.Hosts.Gathered.{AreInTurn, AreOfTarget, GatheredLaw, IsGathered, bytes_of, piece_of, touches, touching, write_in, written_at, written_of}
pub use Rattle.sbp_world.specs.Hosts.Handing.{AreNotes, AreOthers, HandLaw, IsNote, IsOther, history}
pub use Rattle.sbp_world.specs.Hosts.Keeping.{KeepingLaw, linked_as, points_to}
pub use Rattle.sbp_world.specs.Hosts.Labels.{RunLabelLaw, label_in, sends_read}
pub use Rattle.sbp_world.specs.Hosts.Lasting.{LastingLaw, Lasts}
pub use Rattle.sbp_world.specs.Hosts.Lines.{LineLaw, MayDeliver, MayHear, MaySee, is_abort}
pub use Rattle.sbp_world.specs.Hosts.Orbs.{HoldsOrbs, OrbsLaw, StandsIn, format_of, next_of, orb_for, request_of}
pub use Rattle.sbp_world.specs.Hosts.PointerRuns.{DecidesByWaiting, IsSentBy, PointerRunLaw, PointsByWrites, WaitsForPointer}
pub use Rattle.sbp_world.specs.Hosts.Quadlets.{QuadletLaw, WritesNoQuadlet}
pub use Rattle.sbp_world.specs.Hosts.Reading.{ReadAs, ReadLaw, last_linked}
pub use Rattle.sbp_world.specs.Hosts.Reads.{IsReadBy, IsReadOf, IsSaid, IsWriteOf, MemoryLaw}
pub use Rattle.sbp_world.specs.Hosts.Refusing.{RunActionLaw}
pub use Rattle.sbp_world.specs.Hosts.Remaining.{RemainingLaw, Remains}
pub use Rattle.sbp_world.specs.Hosts.Responses.{AreReads, CarriesOrb, IsReadWith, ResponsesLaw, payload_of}
pub use Rattle.sbp_world.specs.Hosts.Rows.{name, name_in, present_in, row, row_by, used_by}
pub use Rattle.sbp_world.specs.Hosts.Runs.{IsRun, RunLaw, more_deliveries}
pub use Rattle.sbp_world.specs.Hosts.Sources.{AllOfTarget, IsOfTarget, SourceLaw}
pub use Rattle.sbp_world.specs.Hosts.Standing.{IsOwedThere, StandingLaw, StandsBehind, note_of}
pub use Rattle.sbp_world.specs.Hosts.Statuses.Finished.{IsTakenHere, OnceTakenLaw}
pub use Rattle.sbp_world.specs.Hosts.Statuses.Senders.{RestLaw, SendersLaw}
pub use Rattle.sbp_world.specs.Hosts.Statuses.Taking.{IsTakenBy, Spells, TakenOf, TakesDue, TakingLaw, Takings, is_place_fifo, of_one}
pub use Rattle.sbp_world.specs.Hosts.Steps.{IsNoAbort, MayTake, StepLaw, is_beside}
pub use Rattle.sbp_world.specs.Hosts.Worlds.{AreBut, AreHosts, IsHost, NoneAborts, WorldLaw}
pub use Rattle.sbp_world.specs.Lines.{Happens, HappensTo, MayTellIn, acted_by, happens_to, no_unit, weight_in}
unfoldable pub use Rattle.sbp_world.specs.Lines.{MayHappen, acted, happens, keyed}
pub use Rattle.sbp_world.specs.Lists.AheadGots.{AheadAsGot, AheadAsGotLaw, AheadSinceLaw, AreKeptAhead, AreWaitingAhead, HasAhead, IsAheadElsewhere, WaitsAsGot, WaitsAsGotLaw}
pub use Rattle.sbp_world.specs.Lists.AheadOrbs.{AllAhead, HasOrbAhead}
pub use Rattle.sbp_world.specs.Lists.Along.{AlongLaw, AreAlong, GoesAlong}
pub use Rattle.sbp_world.specs.Lists.AnswerLengths.{AnswerLengthsLaw, HasLength, LengthOf}
pub use Rattle.sbp_world.specs.Lists.AnswersCarried.{AnswersBroughtLaw, BroughtOf, IsBroughtAnswer}
pub use Rattle.sbp_world.specs.Lists.AnswersHold.{AnswerCarriedAt, AnswersHoldLaw}
pub use Rattle.sbp_world.specs.Lists.AnswersTold.{AnswersToldLaw, AreAnswers, IsAnswerBefore, IsAnswerOf}
pub use Rattle.sbp_world.specs.Lists.AtGots.{AtGot}
pub use Rattle.sbp_world.specs.Lists.Bases.{AreBased, BasesLaw}
pub use Rattle.sbp_world.specs.Lists.Begun.{AreBegun, BegunLaw}
pub use Rattle.sbp_world.specs.Lists.Brings.{BringsLaw}
pub use Rattle.sbp_world.specs.Lists.Brought.{AreBrought}
pub use Rattle.sbp_world.specs.Lists.Buffers.{AreBuffersClear, AreFifosClear, AreLoginsClear, IsClearFifo}
pub use Rattle.sbp_world.specs.Lists.CarriedEnds.{EndIsCarriedAt, RunWasRead, RunWasReadAt, WereRead, WereReadLaw}
pub use Rattle.sbp_world.specs.Lists.CarriedOrbs.{CarriedOrbsLaw, HasIn, HasOrb, IsOn, last_read, read_by, read_for, read_if, read_in}
pub use Rattle.sbp_world.specs.Lists.CarriedRuns.{ReadAt, RunIsRead, RunsAreRead, RunsReadLaw}
pub use Rattle.sbp_world.specs.Lists.CarriedWhole.{CarriedRunLaw}
pub use Rattle.sbp_world.specs.Lists.Closes.{Always, AreBehind, AreFirsts, AreHere, AreUntaken, ClosingLaw, IsHere, OpenListsLaw, PlacesLaw, Under, UnderFrom, WhereTameOrFew}
pub use Rattle.sbp_world.specs.Lists.Contents.{AccessOf, AreAsked, AreContents, ContentAt, ContentsLaw, WasAsked, access_for}
pub use Rattle.sbp_world.specs.Lists.CutLists.{CutListsLaw, WasHad}
pub use Rattle.sbp_world.specs.Lists.CutOff.{AreCutOff, AreForOrbs, CutOffLaw, HadSlot, IsForOrb, IsInSlot, IsMainAt, MainSlotsLaw, WasCutOff, ahead, in_generation}
pub use Rattle.sbp_world.specs.Lists.CutSlots.{AllCutApart, AreCutApart, CutSlotsLaw}
pub use Rattle.sbp_world.specs.Lists.DataEnds.{AllEndSo, EndSo, IsWritten, WasWritten, is_behind, is_fresh}
pub use Rattle.sbp_world.specs.Lists.DataGots.{DataGotsLaw, GotSo, IsLatestData, ServedGotLaw, WasGot}
pub use Rattle.sbp_world.specs.Lists.DataHolds.{AllDataHeld, AreDataHeld, DataHeldLaw}
pub use Rattle.sbp_world.specs.Lists.DataSequences.{AreInSequence, DataSequenceLaw, IsReached, IsWrittenTo, begins, goes_on}
pub use Rattle.sbp_world.specs.Lists.DataServes.{AreServed, DataServedLaw, IsDataOf, WasClosed}
pub use Rattle.sbp_world.specs.Lists.DataWhole.{AnswersWholeLaw, AreWhole}
pub use Rattle.sbp_world.specs.Lists.DataWrites.{AllDataSo, AreDry, AreNextChunks, DataSentLaw, DataSo, DataWritesLaw, IsAnswered, IsDataWrite, IsDry, IsInTurn, IsNextChunk, IsPieceOf, WasPiece, follows, is_first}
pub use Rattle.sbp_world.specs.Lists.DueRuns.{DueRunsLaw}
pub use Rattle.sbp_world.specs.Lists.EndReads.{EndAt, EndIsRead, EndsAreRead, EndsReadLaw}
pub use Rattle.sbp_world.specs.Lists.EndedLists.{AreEnded, EndedListsLaw}
pub use Rattle.sbp_world.specs.Lists.EndsWell.{AreInward, EndedWell, GoodEnds, GoodEndsLaw, IsWrittenWell, well_behind, well_fresh}
pub use Rattle.sbp_world.specs.Lists.Execution.{ExecutionRunLaw, LoginAt, LoginsLaw, LoginsRunLaw, OutcomeAt, OutcomesLaw, OutcomesRunLaw}
pub use Rattle.sbp_world.specs.Lists.FedNames.{RunIsNamedFed}
pub use Rattle.sbp_world.specs.Lists.FedRuns.{AllElsewhere, AreBeside, AreOwnOrOthers, BesideLaw, FedAt, IsElsewhere, IsOwnOrOther, RunIsFed, RunIsSince, RunsAreFed, RunsFedLaw, RunsSinceLaw, SinceAt, is_main_of, main_moved, main_read, no_more, other_read, own_read, own_reads}
pub use Rattle.sbp_world.specs.Lists.FewLogins.{AreRising, FewLogins, HasFewIds, IsCalmBeside, IsTameOf, IsTameOrFew, entries, entries_of}
pub use Rattle.sbp_world.specs.Lists.FewRuns.{FewLoginsLaw}
pub use Rattle.sbp_world.specs.Lists.FifoWrites.{FifoWritesLaw, IsOfOperation, IsPlaceWrite, PlaceSo}
pub use Rattle.sbp_world.specs.Lists.Firsts.{FirstLaw}
pub use Rattle.sbp_world.specs.Lists.GotOnce.{AreGotOnce, GotOnceLaw, IsCalmNode, NoneAgain}
pub use Rattle.sbp_world.specs.Lists.InPlace.{InPlaceLaw, IsInPlace}
pub use Rattle.sbp_world.specs.Lists.KeptOrbs.{IsKept, KeepsIn, orb_in_place}
pub use Rattle.sbp_world.specs.Lists.LastReads.{IsLastRead}
pub use Rattle.sbp_world.specs.Lists.Lasts.{AreLast, IsLast, LastLaw}
pub use Rattle.sbp_world.specs.Lists.LawfulLists.{ListsLaw}
pub use Rattle.sbp_world.specs.Lists.LetsGo.{HasOneMain, IsClosing, IsCut, MainStaysLaw, NobodyWaitsLaw, WasLetGo, WasReset}
pub use Rattle.sbp_world.specs.Lists.ListLaws.{HasListLaws}
pub use Rattle.sbp_world.specs.Lists.Lists.{GrowingLaw, IsBufferOf, IsDataIn, IsOrbOf, orbs, orbs_by}
pub use Rattle.sbp_world.specs.Lists.Live.{HasGivenUp, HasLogin, HasNone, HasOne, IsLive, LiveLaw, is_apart}
pub use Rattle.sbp_world.specs.Lists.LoginAnswers.{GoodAt, GrantedAt, IsAnswerTo, IsGot, NoBadAt}
pub use Rattle.sbp_world.specs.Lists.ManagedFor.{is_its_packet, managed_for, operation_if}
pub use Rattle.sbp_world.specs.Lists.ManagedGots.{IsManagedElsewhere, ManagedAsGot, ManagedAsGotLaw}
pub use Rattle.sbp_world.specs.Lists.Managing.{IsAccepted, IsAsking, IsAtAgent, IsBeginning, IsBusy, IsFree, IsHandling, IsManaged, IsOwnWrite, IsRest, IsServed, IsTaking, IsTelling, ManagingLaw, asks, failed}
pub use Rattle.sbp_world.specs.Lists.Names.{AreNamed, NamesLaw}
pub use Rattle.sbp_world.specs.Lists.Needs.{AllBrought, IsCalm, IsFor, IsNamed, IsOpenAt, IsPointed, Needs, OpenAfter, OpenBefore, OpenBehind, OpenBetween, OpenIn, OpenLists, OpenWhile, initiator_in, is_open_at, machine_at}
pub use Rattle.sbp_world.specs.Lists.NobodyGots.{AllNobodyElsewhere, IsNobodyElsewhere, IsUnownedElsewhere, NobodyAsGot, NobodyAsGotLaw}
pub use Rattle.sbp_world.specs.Lists.OneUp.{AreApart, OneUpLaw}
pub use Rattle.sbp_world.specs.Lists.Opened.{AllOf, AreAllOpenFor, AreEnds, AreOpenFor, AsGot, Ends, EndsAt, IsDoneBlock, IsDoneNow, IsOpenFor, IsServedReset, IsToldDone, IsToldReset, IsUp, LogoutsLaw, NoneRefused, View, as_got, ends_by_reset, ends_by_sight, ends_by_state, ends_by_status, got_as, of_rest, view}
pub use Rattle.sbp_world.specs.Lists.Opens.{AreOpened, IsOpened, IsPointedBy, OpensLaw, WasOpened}
pub use Rattle.sbp_world.specs.Lists.OrbNames.{AreLed, EndIsNamed, IsJustBrought, IsLedTo, IsNamedBrought, IsStillBrought, LedAsGot, RunIsNamed}
pub use Rattle.sbp_world.specs.Lists.OrbReads.{AnswersAt, AskedAsGot, IsBrought, SentAsGot}
pub use Rattle.sbp_world.specs.Lists.Orders.{AppendsLaw, IsAppend, OrderRunLaw}
pub use Rattle.sbp_world.specs.Lists.OwnGots.{AreOwnAsGot, OwnAsGot, OwnAsGotLaw}
pub use Rattle.sbp_world.specs.Lists.OwnLogins.{AreOwn, AreOwnOf, GoodIn, IsAside, IsGoodOrb, IsItsFifo, IsLoginFifo, IsTame, in_front, of_login, of_place, of_response}
pub use Rattle.sbp_world.specs.Lists.OwnReads.{AreOwnGots, AreOwnReads, IsOwnRead, OwnGotsLaw, OwnReadsLaw, ReadsData, data_slot}
pub use Rattle.sbp_world.specs.Lists.OwnSince.{AllAwaited, AllElsewhereBut, AreAwaited, IsAwaited, IsElsewhereBut, OwnSinceLaw, by_purpose}
pub use Rattle.sbp_world.specs.Lists.OwnWaits.{AreReadsOwn, ReadsAsGot, ReadsAsGotLaw, ReadsItsOwn}
pub use Rattle.sbp_world.specs.Lists.Owners.{AreOwnIds, BeginsTurn, HadBy, HasOwn, LivesWith, OursAt, OwnBy, OwnedAt}
pub use Rattle.sbp_world.specs.Lists.PlaceReads.{BringPlaces, BringsPlace, PlaceReadsLaw}
pub use Rattle.sbp_world.specs.Lists.Places.{AreListed, AreNamedFor, ArePlaced, AreWaiting, IsFirst, IsNamedFor, IsPlaced, IsStanding, IsWaiting, ListedLaw, StandsThere}
pub use Rattle.sbp_world.specs.Lists.Placings.{ArePlacedOps, BasedAt, HasBase, IsAtLogin, IsInAPlace, RingsAt, RingsLaw}
pub use Rattle.sbp_world.specs.Lists.Presents.{IsPresent, PresentLaw}
pub use Rattle.sbp_world.specs.Lists.ReadFeeds.{ReadAndFedAt, ReadAndFedLaw, RunWasReadAndFed}
pub use Rattle.sbp_world.specs.Lists.ReadOrbs.{BringOrbs, IsReading, ReadOrbsLaw}
pub use Rattle.sbp_world.specs.Lists.Responding.{AreReplied, BufferSo, IsBufferWrite, IsReplied, IsReplying, IsResponseOf, is_responding}
pub use Rattle.sbp_world.specs.Lists.Roms.{AreManaged, RomLaw, WritesManaged}
pub use Rattle.sbp_world.specs.Lists.Running.{IsNextRun, ListsAt, ListsRunLaw, RunsAt, RunsLaw, RunsRunLaw, Unrun, UnrunLaw}
pub use Rattle.sbp_world.specs.Lists.SendsLast.{SendsLast, SendsLastLaw}
pub use Rattle.sbp_world.specs.Lists.SentReads.{AreSentBehind, SentReadsLaw, slot_in}
pub use Rattle.sbp_world.specs.Lists.Shorts.{AreShort, HasShortOrb, IsShortAction, IsShortEvent}
pub use Rattle.sbp_world.specs.Lists.Silences.{IsSilent}
pub use Rattle.sbp_world.specs.Lists.SlotsStay.{HasSlot, IsGone, SlotsStayLaw, saw, was_over}
pub use Rattle.sbp_world.specs.Lists.StatusRuns.{AllTakenOf, AtLogin, IsTakenOf, SpellsStatusTo, StatusOfLaw, StatusOfRunLaw, TakenOfAt, TakenOfOne}
pub use Rattle.sbp_world.specs.Lists.Statuses.{AllSentSo, AllStatuses, AreStatuses, IsEndedAs, IsFifo, IsSentSo, IsStatusOf, IsStatusWrite, IsTakenSo, IsToHost, SentSo, StatusesLaw, TakenSo}
pub use Rattle.sbp_world.specs.Lists.Stored.{Begins, IsInBuffer, IsResponding}
pub use Rattle.sbp_world.specs.Lists.Taken.{AreTaken, TakenListsLaw}
pub use Rattle.sbp_world.specs.Lists.Tellings.{IsActive, IsTaken, IsTold, outgoing_for}
pub use Rattle.sbp_world.specs.Lists.Underway.{AreUnderway, IsSame, IsUnderway, OperationsLast, UnderwayLaw, WasUnderway, underway_orb}
pub use Rattle.sbp_world.specs.Making.{notes_begin, ready_logins}
unfoldable pub use Rattle.sbp_world.specs.Making.{new_initiators, new_world}
pub use Rattle.sbp_world.specs.Nodes.{handed_all, initiator_learns, pair_of, target_learns, told_seen, with_seen}
unfoldable pub use Rattle.sbp_world.specs.Nodes.{reset_line, see_line, sees, target_sees, target_ticks, tick_line}
pub use Rattle.sbp_world.specs.Packets.{Delivered, MayIf, Repeated, at_initiator, delivered_if, first_told, initiator_expires, injected, is_in_flight, lost, may_repeat, refused, target_left, timed_out, timeout_of}
unfoldable pub use Rattle.sbp_world.specs.Packets.{expires, inject_line, injected_to, lose_line, target_expired, timeout_line, expires as world_expires}
pub use Rattle.sbp_world.specs.Pointers.Bases.{AreAtAgent, AreUnrefused, IsUnrefused, RegistersLaw, is_refusal, is_seated, register_read}
pub use Rattle.sbp_world.specs.Pointers.Moments.{Answers, IsResetting, MayAppend, MayAsk, MayDrop, MayEnd, MayPoint, MaySend, MayStand, MayWrite, NonePoints, TellsOfPresent, asked_in, by_reset, by_sight, by_state, by_status, is_answered, is_answered as is_answered_at, is_cutting, is_state, managed_write, manages, manages as manages_in, names_answered, own_action, pointer_write, register_write, state_list, turn_of, writes_bell, writes_enable, writes_management, writes_pointer, writes_reset}
pub use Rattle.sbp_world.specs.Pointers.Pointers.{IsPointer, IsPointing, IsWrite, MomentsLaw, PointersAt, PointersLaw, WritesLaw, begun_in, list_if, of_bell, of_enable, of_management, of_pointer, of_reset, pointed_list}
pub use Rattle.sbp_world.specs.Runs.{AreEntries, BeginsLaw, Entry, GoesOnLaw, Run, SettlesLaw, StandsFor, after, after as after_run, beginning, entry, with_entry, after as world_after}
pub use Rattle.sbp_world.specs.Sending.{asked, asked as asked_at, asked as asked_for, sent as sent_one, sent_to, asked as under_way}
unfoldable pub use Rattle.sbp_world.specs.Sending.{sent as leaves, sent as leaving, posted, sent as sends, sent, sent_all}
pub use Rattle.sbp_world.specs.Sessions.Asking.{AskingLaw, AsksFor}
pub use Rattle.sbp_world.specs.Sessions.Blocks.{AreBlocks, BlocksLaw, GotBlocks, IsBlockWrite, IsTargetBlock, SentBlocks}
pub use Rattle.sbp_world.specs.Sessions.Caught.{CaughtBetweenLaw, CaughtLaw, HasCaught, HaveCaught}
pub use Rattle.sbp_world.specs.Sessions.Entering.{EnteringLaw, IsAdmitted, IsGranted, SessionsEnter, is_open, joined_with}
pub use Rattle.sbp_world.specs.Sessions.Handed.{GoesTo, HandedLaw, IsStarted, brings}
pub use Rattle.sbp_world.specs.Sessions.Holding.{AreBuffers, HoldingLaw, HoldsLogin}
pub use Rattle.sbp_world.specs.Sessions.Joined.{IsJoined, JoinedBetweenLaw, JoinedLaw, is_joined}
pub use Rattle.sbp_world.specs.Sessions.Placed.{ArePlaces, HoldsPlaces, PlacedLaw}
pub use Rattle.sbp_world.specs.Sessions.Single.{AreSingle, AreSingleIn, SingleLaw}
pub use Rattle.sbp_world.specs.Sessions.Standing.{AreSame, LoginsStand}
pub use Rattle.sbp_world.specs.Sessions.Starting.{GoesOn, IsAsked, OperationsStart, StartingLaw}
pub use Rattle.sbp_world.specs.Sessions.Writing.{GoesOnIn, HasResponse, HasStatus, IsBack, IsDecidedBy, IsDecidedIn, IsDone, IsWrittenBy, OperationsWrite, Responds, Writes, WritesOn, WritingLaw, WrittenBetweenLaw, WrittenLaw, WrittenRunLaw, is_written}
pub use Rattle.sbp_world.specs.Settling.{AreUpTo, DeliversAll, DeliversUpTo, HasSettled, MayAll, MayAt as MayAtLowest, MayAt as NextMay, Settles, after_all, delivered_at, is_settled, lowest, settled, settled_from}
unfoldable pub use Rattle.sbp_world.specs.Settling.{MayNext, budget, delivered_next}
pub use Rattle.sbp_world.specs.Telling.{holder, initiator_of, ticket_at, ticket_in, ticket_of}
unfoldable pub use Rattle.sbp_world.specs.Telling.{told, told_all, told as told_side}
pub use Rattle.sbp_world.specs.Wire.History.{IsOfWire}
pub use Rattle.sbp_world.specs.Wire.Journal.{journal_entries, journal_run}
pub use Rattle.sbp_world.specs.Wire.Keeping.{BeginsLawfully, HasLaws, IsLikeAScripts, KeepsLaws, SettlesLawfully, StandsLawfully}
pub use Rattle.sbp_world.specs.Wire.Knows.{AreEntered, IsEntered, IsLatest, IsOurs, Knows, KnowsBy}
pub use Rattle.sbp_world.specs.Wire.Lines.{AreLines, BusLaw, FillsAction, FillsBuffer, HasIds, IsLine, StandsAfter}
pub use Rattle.sbp_world.specs.Wire.States.{AreClosed, AreInitiators, AreOpenLists, AreStates, IsTarget}
pub use Rattle.sbp_world.specs.Wire.Wires.{IsWireAt, Stands, StandsAt, layer_in, layers_of}
pub use Rattle.sbp_world.specs.Worlds.{Scene, WorldState, begun, begun as begun_scene, bus_of, in_world, initiator_at, scene, with_bus, with_initiator, with_note, with_target, without_notes}
pub use Rattle.sbp_world.specs.declared.parts.delivering.Arrival.{Arrival}
