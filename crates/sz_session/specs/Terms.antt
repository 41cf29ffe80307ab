-- The words that clauses of this crate are written in, each from the file that defines it.
pub use Rattle.std.specs.Prelude.{Err, IfErr, IfOk, None, Ok, OnErr, OnOk, Some, [], false, is_ok}
pub use Rattle.std.specs.Prelude.{length, map, string_bytes, true, ℕ, ⊤}
pub use Rattle.sz_catalogue.specs.Responses.{word_text}
pub use Rattle.sz_commands.specs.Logged.{IsLogOf, OpenedLogsStand, end_of}
pub use Rattle.sz_commands.specs.States.{nothing_held}
pub use Rattle.sz_commands.specs.Stops.{StopsFinding}
pub use Rattle.sz_commands.specs.Transcript.{transcript}
pub use Rattle.sz_feed.specs.Disks.{DiskStays, FoundInPart, OnlySays, StaysFinding, StopsMaking}
pub use Rattle.sz_feed.specs.Laws.{AlikeEndTheSame, AlikeStayAlike, AlikeTellTheSame}
pub use Rattle.sz_feed.specs.Laws.{BlankLinesAreCounted, BytesLeftAreTheLastLine}
pub use Rattle.sz_feed.specs.Laws.{CutsAreThoseJoined, CutsBehindAreOfBoth, CutsGoByParts}
pub use Rattle.sz_feed.specs.Laws.{EachTextIsLines, FirstRepliesAreAPart, LinesAreTheCut}
pub use Rattle.sz_feed.specs.Laws.{LinesAreThoseJoined, MomentsGoByParts, OtherLinesHaveOneReply}
pub use Rattle.sz_feed.specs.Laws.{RepliesGoOn, SessionsOfNoLogArePlain, SoundLogsArePlain}
pub use Rattle.sz_feed.specs.Laws.{TellingGoesByParts, TranscriptsAreTold, TranscriptsGoOn}
pub use Rattle.sz_feed.specs.Laws.{WholeLinesAreTold}
pub use Rattle.sz_feed.specs.Making.{HasMade, IfBarred, IsFree, IsSilent, IsSpared, ready_line}
pub use Rattle.sz_feed.specs.Moments.{moment_before}
pub use Rattle.sz_feed.specs.Running.{IsBeside, state_of_log}
pub use Rattle.sz_feed.specs.Serving.{Answered, AreAll, Done, IsPastLimit, IsWithinLimit, Opening}
pub use Rattle.sz_feed.specs.Serving.{SaidInLines, SaidInPart, SaidOfRead, SaidToLimit, lines_in}
pub use Rattle.sz_feed.specs.Serving.{load_line}
pub use Rattle.sz_outside.specs.Counts.{count_after, faults_after}
pub use Rattle.sz_outside.specs.Disk.{Only, Said}
pub use Rattle.sz_outside.specs.Outside.{Gives, Keeps, Rose, Says, SaysPart, Stood}
pub use Rattle.sz_recover.specs.Logs.{IsMade}
pub use Rattle.sz_script.specs.Words.{name_of_strategy}
pub use Rattle.sz_words.specs.Job.{IsInRange, is_on_log, job_of}
pub use Rattle.sz_session.specs.Checking.{BeginsAsLog, IfBadLog, IfNoLog, IsBadLog, IsUnlike}
pub use Rattle.sz_session.specs.Checking.{IsWellMadeLog, OneLineIsTold, SaysLine, SaysPartOfLine}
pub use Rattle.sz_session.specs.Checking.{SoundLinesMeanEach, StopsChecking, TellsLine, check_line}
pub use Rattle.sz_session.specs.Checking.{node_words, sound_line, unsound_line}
pub use Rattle.sz_session.specs.Continuing.{EndsOnLog}
pub use Rattle.sz_session.specs.Modes.{AsksFor, EndsCheck, EndsInit, EndsLoad, EndsPlay, EndsRun}
pub use Rattle.sz_session.specs.Modes.{EndsUpgrade, IfLoad, OfEachCall, is_for, is_of_lines}
pub use Rattle.sz_session.specs.Modes.{is_opened}
pub use Rattle.sz_session.specs.Raising.{HasRaised, IsLeftAlone, RaisesLog, RaisesOrStays}
pub use Rattle.sz_session.specs.Raising.{StopsRaising, raised_line}
pub use Rattle.sz_session.specs.Sessions.{EndsSession, EndsTurn, TurnsOn, opening_of}
pub use Rattle.sz_session.specs.Statuses.{AreCounted, ChecksLog, Ends, MakesLog, SaysSummary}
pub use Rattle.sz_session.specs.Statuses.{end_status, halt_status, is_of_disk, log_status}
pub use Rattle.sz_session.specs.Statuses.{recover_status, status_number, words_status}
pub use Rattle.sz_session.specs.declared.serving.Status.{Status as StatusOf}
