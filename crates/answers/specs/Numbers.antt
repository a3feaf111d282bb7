-- The paper's number of each refusal, outcome and error: "Refusals, errors and outcomes are numbered apart". Assumes nothing.
use Rattle.std.specs.Prelude.{ℕ}
use Rattle.answers.specs.declared.Refusal.{Refusal}
use Rattle.answers.specs.declared.Refusal.TheVariants as refusal
use Rattle.answers.specs.declared.Outcome.{Outcome}
use Rattle.answers.specs.declared.Outcome.TheVariants as outcome
use Rattle.answers.specs.declared.RequestError.{RequestError}
use Rattle.answers.specs.declared.RequestError.TheVariants as error

abbrev pub refusal_number : Refusal → ℕ
refusal_number refusal.NoRoom = 1
refusal_number refusal.UnsoundTable = 2
refusal_number refusal.UnknownKind = 3
refusal_number refusal.NotInPhase = 4
refusal_number refusal.NotDue = 5
refusal_number refusal.WrongDelay = 6
refusal_number refusal.NoNumber = 7
refusal_number refusal.UnsoundList = 8
refusal_number refusal.Unfit = 9
refusal_number refusal.WrongFigures = 10
refusal_number refusal.NoMessage = 11
refusal_number refusal.RadioFull = 20
refusal_number refusal.NoNotice = 21
refusal_number refusal.NoQuestion = 22
refusal_number refusal.NotStorable = 23
refusal_number refusal.UnsoundRadio = 24
refusal_number refusal.ImageTooShort = 30
refusal_number refusal.WrongDistance = 31
refusal_number refusal.TooManyRows = 32
refusal_number refusal.NoRoomForImage = 33
refusal_number refusal.WrongLength = 34
refusal_number refusal.TableFull = 50
refusal_number refusal.AlreadyThere = 51
refusal_number refusal.NotThere = 52

abbrev pub outcome_number : Outcome → ℕ
outcome_number outcome.Registered = 1
outcome_number outcome.Erased = 2
outcome_number outcome.CrewRegistered = 11
outcome_number outcome.CrewErased = 12
outcome_number outcome.NoSupervisor = 22
outcome_number outcome.UnknownNumber = 41
outcome_number outcome.NoFollowMe = 42
outcome_number outcome.HeldByAnother = 61
outcome_number outcome.NoHolder = 62
outcome_number outcome.NotTheHolder = 63
outcome_number outcome.ClosedNumber = 64
outcome_number outcome.OwnNumber = 67
outcome_number outcome.NoticePending = 68

abbrev pub error_number : RequestError → ℕ
error_number error.DataMissing = 35
error_number error.UnexpectedData = 36
error_number error.UnknownAlphabet = 71
