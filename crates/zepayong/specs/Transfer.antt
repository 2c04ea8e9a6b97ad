-- What the answers of read and write say.
use Rattle.std.specs.Prelude.{ℕ, ◌≤◌, Bool, true, false, cond, eqb, Result, Ok, Err}
use Rattle.std.specs.IoError.{error_kind}
use Rattle.std.specs.declared.io.Error.{Error}
use Rattle.std.specs.declared.io.ErrorKind.{ErrorKind}
use Rattle.std.specs.declared.io.ErrorKind.TheVariants as kind
use Rattle.zepayong.specs.declared.call.Called.{Called}
use Rattle.zepayong.specs.declared.call.Called.TheVariants.{Bytes, Nothing, Interrupted}

-- A signal interrupted the call.
abbrev pub interrupts : ErrorKind → Bool
interrupts kind.Interrupted = true
interrupts _ = false

-- A call that fails moved nothing; if a signal interrupted it, it is made again.
abbrev pub called_of : Result ℕ Error → Result Called Error
called_of (Ok count) = Ok (cond (eqb count 0) Nothing (Bytes count))
called_of (Err error) = cond (interrupts (error_kind error)) (Ok Interrupted) (Err error)

-- It moved at most so many bytes.
abbrev pub CallWithin : Result Called Error → ℕ → Type 0
CallWithin (Ok (Bytes n)) most = n ≤ most
CallWithin (Ok Nothing) most = Unit {0}
CallWithin (Ok Interrupted) most = Unit {0}
CallWithin (Err error) most = Unit {0}
