-- What a reader may take for granted of lines and sessions. Each law is proved of the definitions.
use Rattle.std.specs.Prelude.{◌≡◌, ℕ, ◌+◌, ◌<◌, Bool, true, false, List, [], ◌∷◌, ◌++◌, length}
use Rattle.std.specs.Prelude.{Option}
use Rattle.std.specs.List.{list_all}
use Rattle.sz_outside.specs.Outside.{SaysPart}
use Rattle.sz_catalogue.specs.Holdings.{Holdings}
use Rattle.sz_commands.specs.States.{SessionState, state_of, after_line}
use Rattle.sz_feed.specs.Plain.{plain_transcript}
use Rattle.sz_catalogue.specs.Responses.{reply_line}
use Rattle.sz_recover.specs.Logs.{Kept, IsWellMade}
use Rattle.sz_recover.specs.Soundness.{AreSoundKept}
use Rattle.sz_feed.specs.Running.{state_of_log}
use Rattle.sz_commands.specs.Lines.{lines_of, is_blank, is_within_line, before_cut, cut}
use Rattle.sz_commands.specs.Lines.{last_line}
use Rattle.sz_commands.specs.Transcript.{replies_to, after_lines, transcript, whole_replies}
use Rattle.sz_feed.specs.Moments.{Moment, moment_before, told_in, moment_after, told_at_end}
use Rattle.sz_feed.specs.Moments.{AreAlike}
use Rattle.sz_feed.specs.Serving.{SaysFirst}

-- ---- lines

-- lines one after another, a byte 10 behind each of them
abbrev pub text_of : List (List ℕ) → List ℕ
text_of [] = []
text_of (line ∷ lines) = line ++ 10 ∷ text_of lines

-- no byte 10 is within one of these lines
abbrev pub are_lines : List (List ℕ) → Bool
are_lines lines = list_all is_within_line lines

-- the lines of lines that are joined by newlines are those lines
abbrev pub LinesAreThoseJoined : Type 0
LinesAreThoseJoined = (lines : List (List ℕ)) → are_lines lines ≡ true
    → lines_of (text_of lines) ≡ lines

-- bytes behind the last newline are the last line
abbrev pub BytesLeftAreTheLastLine : Type 0
BytesLeftAreTheLastLine = (lines : List (List ℕ)) (last : List ℕ) → are_lines lines ≡ true
    → is_within_line last ≡ true → 0 < length last
    → lines_of (text_of lines ++ last) ≡ lines ++ last ∷ []

-- each text is lines joined by newlines, and bytes without a newline behind them
abbrev pub EachTextIsLines : Type 0
EachTextIsLines = (bytes : List ℕ)
    → (lines : List (List ℕ)) × (last : List ℕ) × (are_lines lines ≡ true)
    × (is_within_line last ≡ true) × (bytes ≡ text_of lines ++ last)

-- ---- the lines that ended

-- the cut of lines joined by newlines and of bytes behind them is those lines and those bytes
abbrev pub CutsAreThoseJoined : Type 0
CutsAreThoseJoined = (lines : List (List ℕ)) (last : List ℕ)
    → are_lines lines ≡ true → is_within_line last ≡ true
    → cut (text_of lines ++ last) ≡ record { whole = lines; last = last }

-- the lines of a text are the whole ones and then the last, where that has bytes
abbrev pub LinesAreTheCut : Type 0
LinesAreTheCut = (bytes : List ℕ) → lines_of bytes ≡ (cut bytes).whole ++ last_line (cut bytes).last

-- what comes behind some bytes is cut behind their line that has not ended
abbrev pub CutsGoByParts : Type 0
CutsGoByParts = (first rest : List ℕ)
    → let further = before_cut (cut first).last (cut rest) in
    cut (first ++ rest) ≡ record { whole = (cut first).whole ++ further.whole; last = further.last }

-- bytes behind the beginning of a line are cut as they are together with it
abbrev pub CutsBehindAreOfBoth : Type 0
CutsBehindAreOfBoth = (begun bytes : List ℕ) → is_within_line begun ≡ true
    → before_cut begun (cut bytes) ≡ cut (begun ++ bytes)

-- ---- what is told of bytes as they come

-- of bytes in two parts is told what the first part tells, and then what the second does after it
abbrev pub TellingGoesByParts : Type 0
TellingGoesByParts = (m : Moment) (first rest : List ℕ)
    → told_in m (first ++ rest) ≡ told_in m first ++ told_in (moment_after m first) rest

-- the moment after two parts is that after the second, from that after the first
abbrev pub MomentsGoByParts : Type 0
MomentsGoByParts = (m : Moment) (first rest : List ℕ)
    → moment_after m (first ++ rest) ≡ moment_after (moment_after m first) rest

-- a transcript is what is told of the bytes, and then what is told at their end
abbrev pub TranscriptsAreTold : Type 0
TranscriptsAreTold = (c : SessionState) (bytes : List ℕ)
    → transcript c bytes
    ≡ told_in (moment_before c) bytes ++ told_at_end (moment_after (moment_before c) bytes)

-- before the first byte, all whole lines of the bytes are told
abbrev pub WholeLinesAreTold : Type 0
WholeLinesAreTold = (c : SessionState) (bytes : List ℕ)
    → told_in (moment_before c) bytes ≡ whole_replies c bytes

-- moments that are alike tell the same of all bytes, and are alike after them
abbrev pub AlikeTellTheSame : Type 0
AlikeTellTheSame = (m n : Moment) (bytes : List ℕ) → AreAlike m n
    → told_in m bytes ≡ told_in n bytes

abbrev pub AlikeStayAlike : Type 0
AlikeStayAlike = (m n : Moment) (bytes : List ℕ)
    → AreAlike m n → AreAlike (moment_after m bytes) (moment_after n bytes)

abbrev pub AlikeEndTheSame : Type 0
AlikeEndTheSame = (m n : Moment) → AreAlike m n → told_at_end m ≡ told_at_end n

-- the first so many replies are a first part of the bytes of all replies
abbrev pub FirstRepliesAreAPart : Type 0
FirstRepliesAreAPart = (said_before said : Option (List ℕ)) (c : SessionState) (n : ℕ)
    (lines : List (List ℕ))
    → SaysFirst said_before said c n lines → SaysPart said_before said (replies_to c n lines)

-- ---- sessions

-- the replies to some lines and then others are those to the first, and those to the others from
-- the catalogue between, numbered onward
abbrev pub RepliesGoOn : Type 0
RepliesGoOn = (c : SessionState) (n : ℕ) (first rest : List (List ℕ))
    → replies_to c n (first ++ rest)
    ≡ replies_to c n first ++ replies_to (after_lines c first) (n + length first) rest

-- the transcript of bytes that end with a newline, and more behind them, is that of the first and
-- then the replies to the lines of the rest
abbrev pub TranscriptsGoOn : Type 0
TranscriptsGoOn = (c : SessionState) (first rest : List ℕ)
    → let whole = first ++ 10 ∷ [] in
    transcript c (whole ++ rest)
    ≡ transcript c whole
    ++ replies_to (after_lines c (lines_of whole)) (1 + length (lines_of whole)) (lines_of rest)

-- a blank line is counted and has no reply
abbrev pub BlankLinesAreCounted : Type 0
BlankLinesAreCounted = (c : SessionState) (n : ℕ) (line : List ℕ) (lines : List (List ℕ))
    → is_blank line ≡ true
    → replies_to c n (line ∷ lines) ≡ replies_to c (n + 1) lines

-- each other line has one reply, that of what it orders, and the lines behind it go on from what
-- that left
abbrev pub OtherLinesHaveOneReply : Type 0
OtherLinesHaveOneReply = (c : SessionState) (n : ℕ) (line : List ℕ) (lines : List (List ℕ))
    → is_blank line ≡ false
    → replies_to c n (line ∷ lines)
    ≡ reply_line n (after_line c line).1 ++ replies_to (after_line c line).0 (n + 1) lines

-- the transcript of a session of no log is that by the catalogue alone
abbrev pub SessionsOfNoLogArePlain : Type 0
SessionsOfNoLogArePlain = (c : Holdings) (bytes : List ℕ)
    → transcript (state_of c) bytes ≡ plain_transcript c bytes

-- ---- sound logs

-- A session on a well-made log, each of whose stores stands for the relation, says what the
-- catalogue alone tells: no store changes an answer.
abbrev pub SoundLogsArePlain : Type 0
SoundLogsArePlain = (disk : List ℕ) (at format : ℕ) (c : Holdings) (kept : List Kept)
    (bytes : List ℕ)
    → IsWellMade disk at format c kept → AreSoundKept c kept
    → transcript (state_of_log c kept) bytes ≡ plain_transcript c bytes
