-- A number is the number of one refusal, of one outcome and of one error. Assumes nothing.
use mathlib.Core.Path.{◌≡◌, refl, sym, ap, ◌∙◌}
use mathlib.Core.Bool.{cond}
use Prim.Native.Nat.{ℕ}
use lib.Dec.{eqb}
use Rattle.answers.specs.Numbers.{refusal_number, outcome_number, error_number}
use Rattle.answers.specs.declared.Refusal.{Refusal}
use Rattle.answers.specs.declared.Refusal.TheVariants as refusal
use Rattle.answers.specs.declared.Outcome.{Outcome}
use Rattle.answers.specs.declared.Outcome.TheVariants as outcome
use Rattle.answers.specs.declared.RequestError.{RequestError}
use Rattle.answers.specs.declared.RequestError.TheVariants as error

-- the refusal of a number
refusal_of : ℕ → Refusal
refusal_of n =
    cond (eqb n 1) refusal.NoRoom (cond (eqb n 2) refusal.UnsoundTable (cond (eqb n 3) refusal.UnknownKind (cond (eqb n 4) refusal.NotInPhase (cond (eqb n 5) refusal.NotDue (cond (eqb n 6) refusal.WrongDelay (cond (eqb n 7) refusal.NoNumber (cond (eqb n 8) refusal.UnsoundList (cond (eqb n 9) refusal.Unfit (cond (eqb n 10) refusal.WrongFigures (cond (eqb n 11) refusal.NoMessage (cond (eqb n 20) refusal.RadioFull (cond (eqb n 21) refusal.NoNotice (cond (eqb n 22) refusal.NoQuestion (cond (eqb n 23) refusal.NotStorable (cond (eqb n 24) refusal.UnsoundRadio (cond (eqb n 30) refusal.ImageTooShort (cond (eqb n 31) refusal.WrongDistance (cond (eqb n 32) refusal.TooManyRows (cond (eqb n 33) refusal.NoRoomForImage (cond (eqb n 34) refusal.WrongLength (cond (eqb n 50) refusal.TableFull (cond (eqb n 51) refusal.AlreadyThere refusal.NotThere))))))))))))))))))))))

refusal_back : (x : Refusal) → refusal_of (refusal_number x) ≡ x
unfolding refusal_of
refusal_back refusal.NoRoom = refl
refusal_back refusal.UnsoundTable = refl
refusal_back refusal.UnknownKind = refl
refusal_back refusal.NotInPhase = refl
refusal_back refusal.NotDue = refl
refusal_back refusal.WrongDelay = refl
refusal_back refusal.NoNumber = refl
refusal_back refusal.UnsoundList = refl
refusal_back refusal.Unfit = refl
refusal_back refusal.WrongFigures = refl
refusal_back refusal.NoMessage = refl
refusal_back refusal.RadioFull = refl
refusal_back refusal.NoNotice = refl
refusal_back refusal.NoQuestion = refl
refusal_back refusal.NotStorable = refl
refusal_back refusal.UnsoundRadio = refl
refusal_back refusal.ImageTooShort = refl
refusal_back refusal.WrongDistance = refl
refusal_back refusal.TooManyRows = refl
refusal_back refusal.NoRoomForImage = refl
refusal_back refusal.WrongLength = refl
refusal_back refusal.TableFull = refl
refusal_back refusal.AlreadyThere = refl
refusal_back refusal.NotThere = refl

pub refusal_one : (x y : Refusal) → refusal_number x ≡ refusal_number y → x ≡ y
refusal_one x y e = sym (refusal_back x) ∙ ap refusal_of e ∙ refusal_back y

-- the outcome of a number
outcome_of : ℕ → Outcome
outcome_of n =
    cond (eqb n 1) outcome.Registered (cond (eqb n 2) outcome.Erased (cond (eqb n 11) outcome.CrewRegistered (cond (eqb n 12) outcome.CrewErased (cond (eqb n 22) outcome.NoSupervisor (cond (eqb n 41) outcome.UnknownNumber (cond (eqb n 42) outcome.NoFollowMe (cond (eqb n 61) outcome.HeldByAnother (cond (eqb n 62) outcome.NoHolder (cond (eqb n 63) outcome.NotTheHolder (cond (eqb n 64) outcome.ClosedNumber (cond (eqb n 67) outcome.OwnNumber outcome.NoticePending)))))))))))

outcome_back : (x : Outcome) → outcome_of (outcome_number x) ≡ x
unfolding outcome_of
outcome_back outcome.Registered = refl
outcome_back outcome.Erased = refl
outcome_back outcome.CrewRegistered = refl
outcome_back outcome.CrewErased = refl
outcome_back outcome.NoSupervisor = refl
outcome_back outcome.UnknownNumber = refl
outcome_back outcome.NoFollowMe = refl
outcome_back outcome.HeldByAnother = refl
outcome_back outcome.NoHolder = refl
outcome_back outcome.NotTheHolder = refl
outcome_back outcome.ClosedNumber = refl
outcome_back outcome.OwnNumber = refl
outcome_back outcome.NoticePending = refl

pub outcome_one : (x y : Outcome) → outcome_number x ≡ outcome_number y → x ≡ y
outcome_one x y e = sym (outcome_back x) ∙ ap outcome_of e ∙ outcome_back y

-- the error of a number
error_of : ℕ → RequestError
error_of n =
    cond (eqb n 35) error.DataMissing (cond (eqb n 36) error.UnexpectedData error.UnknownAlphabet)

error_back : (x : RequestError) → error_of (error_number x) ≡ x
unfolding error_of
error_back error.DataMissing = refl
error_back error.UnexpectedData = refl
error_back error.UnknownAlphabet = refl

pub error_one : (x y : RequestError) → error_number x ≡ error_number y → x ≡ y
error_one x y e = sym (error_back x) ∙ ap error_of e ∙ error_back y
