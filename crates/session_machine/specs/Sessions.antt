-- What a session stands for: the events so far, and the effects that they had.
use Rattle.std.specs.Prelude.{◌≡◌, ℕ, false, List}
use Rattle.session_machine.specs.declared.machines.Session.{Session}
use Rattle.session_machine.specs.declared.events.Effects.{Effects}
use Rattle.session_machine.specs.Events.{Happening, Machine, beginning}
use Rattle.session_machine.specs.Histories.{Runs}
use Rattle.session_machine.specs.Courses.{Agrees, bytes_in}

-- the machine gives these effects for these events, and the session has not failed and is where the machine is then
pub record Stands (session : Session) (events : List Happening) (given : List Effects) : Type 0 where
  pub end : Machine
  pub runs : Runs session.side beginning events given end
  pub agrees : Agrees session.course end
  pub works : session.failed ≡ false

-- how many bytes came since the connection, at most
abbrev pub bytes_of : Session → ℕ
bytes_of session = bytes_in session.course
