-- No refusal has the number 0. Assumes nothing.
use mathlib.Core.Path.{◌≡◌, refl}
use mathlib.Core.Bool.{false}
use lib.Dec.{eqb}
use Rattle.sheet.specs.declared.refusal.Refusal.{Refusal}
use Rattle.sheet.specs.declared.refusal.Refusal.TheVariants as refusal
use Rattle.sheet.specs.Refusals.{number_of}

pub refused_number : (r : Refusal) → eqb (number_of r) 0 ≡ false
refused_number refusal.RouteLength = refl
refused_number refusal.SheetBufferLength = refl
refused_number refusal.TriesLength = refl
refused_number refusal.ExerciseShort = refl
refused_number refusal.ExerciseMark = refl
refused_number refusal.ExerciseVersion = refl
refused_number refusal.OverLimit = refl
refused_number refusal.ExerciseLength = refl
refused_number refusal.Malformed = refl
refused_number refusal.DoubleDriver = refl
refused_number refusal.UnfitList = refl
refused_number refusal.AnswerShort = refl
refused_number refusal.AnswerMark = refl
refused_number refusal.AnswerVersion = refl
refused_number refusal.NoApprentice = refl
refused_number refusal.OtherCellCount = refl
refused_number refusal.AnswerLength = refl
refused_number refusal.OutOfRange = refl
refused_number refusal.ClockWithoutOutput = refl
refused_number refusal.ClearWithoutClock = refl
refused_number refusal.LoadWithoutClock = refl
refused_number refusal.LoadWithoutData = refl
refused_number refusal.EnableWithoutClock = refl
refused_number refusal.BadData = refl
refused_number refusal.CarryInNotFed = refl
refused_number refusal.CarryInWithoutFlag = refl
refused_number refusal.CarryOutNotReadOnce = refl
refused_number refusal.CarryWithDatad = refl
refused_number refusal.CarryInWithDatac = refl
refused_number refusal.PlaceTaken = refl
refused_number refusal.CarryNotNext = refl
refused_number refusal.TooManyClocks = refl
refused_number refusal.TooManyPairs = refl
refused_number refusal.TooManyClears = refl
refused_number refusal.TooManySynchronous = refl
refused_number refusal.TooManyNets = refl
refused_number refusal.NoWay = refl
refused_number refusal.SettingsShort = refl
refused_number refusal.SettingsMark = refl
refused_number refusal.SettingsVersion = refl
refused_number refusal.TooManyEntries = refl
refused_number refusal.SettingsLength = refl
refused_number refusal.OtherFlags = refl
refused_number refusal.BadClassSheet = refl
refused_number refusal.TooFewRows = refl
refused_number refusal.LogShort = refl
refused_number refusal.LogMark = refl
refused_number refusal.LogVersion = refl
refused_number refusal.LogOverLimit = refl
refused_number refusal.LogLength = refl
refused_number refusal.BadEntry = refl
refused_number refusal.TooManyApprentices = refl
refused_number refusal.ListLengths = refl
