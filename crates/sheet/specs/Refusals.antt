-- The refusals by name, and their numbers: document 01, "Verdict numbers, in the order of checking"; 2 is M-100's, 3 M-106's, 70 to 75 M-102's, 76 and 77 M-104's,
-- 80 to 87 M-105's. What is broken for a number stands at its checks. Assumes nothing.
use Rattle.std.specs.Prelude.{ℕ, Result, Ok, Err}
use Rattle.sheet.specs.declared.refusal.Refusal.{Refusal}
use Rattle.sheet.specs.declared.refusal.Refusal.TheVariants as refusal

-- the number of a refusal
abbrev pub number_of : Refusal → ℕ
number_of refusal.RouteLength = 1
number_of refusal.SheetBufferLength = 2
number_of refusal.TriesLength = 3
number_of refusal.ExerciseShort = 10
number_of refusal.ExerciseMark = 11
number_of refusal.ExerciseVersion = 12
number_of refusal.OverLimit = 13
number_of refusal.ExerciseLength = 14
number_of refusal.Malformed = 15
number_of refusal.DoubleDriver = 16
number_of refusal.UnfitList = 18
number_of refusal.AnswerShort = 20
number_of refusal.AnswerMark = 21
number_of refusal.AnswerVersion = 22
number_of refusal.NoApprentice = 23
number_of refusal.OtherCellCount = 24
number_of refusal.AnswerLength = 25
number_of refusal.OutOfRange = 26
number_of refusal.ClockWithoutOutput = 30
number_of refusal.ClearWithoutClock = 31
number_of refusal.LoadWithoutClock = 32
number_of refusal.LoadWithoutData = 33
number_of refusal.EnableWithoutClock = 34
number_of refusal.BadData = 35
number_of refusal.CarryInNotFed = 40
number_of refusal.CarryInWithoutFlag = 41
number_of refusal.CarryOutNotReadOnce = 42
number_of refusal.CarryWithDatad = 43
number_of refusal.CarryInWithDatac = 44
number_of refusal.PlaceTaken = 50
number_of refusal.CarryNotNext = 51
number_of refusal.TooManyClocks = 60
number_of refusal.TooManyPairs = 61
number_of refusal.TooManyClears = 62
number_of refusal.TooManySynchronous = 63
number_of refusal.TooManyNets = 64
number_of refusal.NoWay = 65
number_of refusal.SettingsShort = 70
number_of refusal.SettingsMark = 71
number_of refusal.SettingsVersion = 72
number_of refusal.TooManyEntries = 73
number_of refusal.SettingsLength = 74
number_of refusal.OtherFlags = 75
number_of refusal.BadClassSheet = 76
number_of refusal.TooFewRows = 77
number_of refusal.LogShort = 80
number_of refusal.LogMark = 81
number_of refusal.LogVersion = 82
number_of refusal.LogOverLimit = 83
number_of refusal.LogLength = 84
number_of refusal.BadEntry = 85
number_of refusal.TooManyApprentices = 86
number_of refusal.ListLengths = 87

-- the number that a call gives: 0 where nothing is refused
abbrev pub told_number : {A : Type 0} → Result A Refusal → ℕ
told_number (Ok x) = 0
told_number (Err r) = number_of r
